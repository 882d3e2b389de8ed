-- A set of which no changeback is under way.
use Rattle.std.proofs.Common.{refl, ◌≡◌, ◌∙◌, ap, ap₂, sym, ℕ, zero, suc, List, [], ◌∷◌, map, get_or, set, All, subst, Some, Option}
use Rattle.std.proofs.lemmas.Option.{none-some}
use Rattle.std.proofs.lemmas.List.Elements.{All-head, All-tail}
use Rattle.set_route.specs.declared.place.Place.{Place}
use Rattle.set_route.specs.declared.place.Place.TheVariants.{On, Changing, Nowhere}
use Rattle.set_route.specs.declared.place.Code.{Code}
use Rattle.set_route.specs.declared.place.Code.TheVariants.{Free}
use Rattle.set_route.specs.declared.stream.Stream.{Stream}
use Rattle.set_route.specs.Routing.{Routing, IsRouting, IsCoded, NoneOpen, via_of, code_of, place_of, place_left, stream_left, code_left, codes_left, left, place_back, stream_back, given_back, code_answered, answered, code_settled, settled}
use Rattle.set_route.proofs.Places.{settled_at}

-- what holds of each stream's place holds of the place of each number
pub at_place : (P : Place → Type 0) → P Nowhere → (streams : List Stream) (n : ℕ) → All (λ s. P s.place) streams → P (get_or (map (λ s. s.place) streams) n Nowhere)
at_place P none [] n all = none
at_place P none (s ∷ rest) zero all = All-head (λ (s : Stream). P s.place) s rest all
at_place P none (s ∷ rest) (suc n) all = at_place P none rest n (All-tail (λ (s : Stream). P s.place) s rest all)

no_code : (r : Routing) (code via : ℕ) → NoneOpen r → via_of (code_of code r) ≡ Some via → ⊥
no_code r code via none is = none-some via (ap via_of (sym (none code)) ∙ is)

pub never_changing : (stream to code via : ℕ) (r : Routing) → IsRouting r → NoneOpen r → place_of stream r ≡ Changing to code via → ⊥
never_changing stream to code via r sound none is =
    let coded : IsCoded r (Changing to code via) = subst (IsCoded r) is (at_place (IsCoded r) tt r.streams stream sound.coded) in
    no_code r code via none coded.1

-- streams that don't change
all_same : (f : Stream → Stream) (streams : List Stream) → All (λ s. f s ≡ s) streams → map f streams ≡ streams
all_same f [] same = refl
all_same f (s ∷ rest) same = ap₂ (λ x xs. x ∷ xs) (All-head (λ (s : Stream). f s ≡ s) s rest same) (all_same f rest (All-tail (λ (s : Stream). f s ≡ s) s rest same))

-- A link is left.
left_same : (r : Routing) (link : ℕ) (place : Place) → NoneOpen r → IsCoded r place → place_left link place ≡ place
left_same r link (On l) none is = refl
left_same r link (Changing to code via) none is = absurd (no_code r code via none is.1)
left_same r link Nowhere none is = refl

codes_same : (link number : ℕ) (codes : List Code) → ((n : ℕ) → get_or codes n Free ≡ Free) → codes_left link number codes ≡ codes
codes_same link number [] free = refl
codes_same link number (c ∷ cs) free =
    ap₂ (λ x xs. x ∷ xs) (ap (code_left link number) (free 0) ∙ sym (free 0)) (codes_same link (suc number) cs (λ n. free (suc n)))

pub left_quiet : (link : ℕ) (r : Routing) → IsRouting r → NoneOpen r → left link r ≡ r
left_quiet link r sound none =
    ap₂ (λ (streams : List Stream) (codes : List Code). record r { streams = streams; codes = codes })
    (all_same (stream_left link) r.streams
    (λ k d below. let s : Stream = get_or r.streams k d in
    ap (λ p. record s { place = p }) (left_same r link s.place none (sound.coded k d below))))
    (codes_same link 0 r.codes none)

-- A link settled.
pub settled_quiet : (link : ℕ) (target : Option ℕ) (r : Routing) → NoneOpen r → NoneOpen (settled link target r)
settled_quiet link target r none = λ code. settled_at link target r.codes code ∙ ap (code_settled link target) (none code)

-- A code is given back.
back_same : (r : Routing) (code : ℕ) (place : Place) → NoneOpen r → IsCoded r place → place_back code place ≡ place
back_same r code (On l) none is = refl
back_same r code (Changing to c via) none is = absurd (no_code r c via none is.1)
back_same r code Nowhere none is = refl

freed_same : (codes : List Code) (place : ℕ) → ((n : ℕ) → get_or codes n Free ≡ Free) → set codes place Free ≡ codes
freed_same [] place free = refl
freed_same (c ∷ cs) zero free = ap (λ x. x ∷ cs) (sym (free 0))
freed_same (c ∷ cs) (suc n) free = ap (λ xs. c ∷ xs) (freed_same cs n (λ k. free (suc k)))

pub back_quiet : (code : ℕ) (r : Routing) → IsRouting r → NoneOpen r → given_back code r ≡ r
back_quiet code r sound none =
    ap₂ (λ (streams : List Stream) (codes : List Code). record r { streams = streams; codes = codes })
    (all_same (stream_back code) r.streams
    (λ k d below. let s : Stream = get_or r.streams k d in
    ap (λ p. record s { place = p }) (back_same r code s.place none (sound.coded k d below))))
    (freed_same r.codes code none)

-- A code is acknowledged.
answered_same : (codes : List Code) (place : ℕ) → ((n : ℕ) → get_or codes n Free ≡ Free) → set codes place (code_answered (get_or codes place Free)) ≡ codes
answered_same codes place free = ap (λ (c : Code). set codes place (code_answered c)) (free place) ∙ freed_same codes place free

pub answered_quiet : (code : ℕ) (r : Routing) → IsRouting r → NoneOpen r → answered code r ≡ r
answered_quiet code r sound none =
    ap₂ (λ (streams : List Stream) (codes : List Code). record r { streams = streams; codes = codes })
    (all_same (stream_back code) r.streams
    (λ k d below. let s : Stream = get_or r.streams k d in
    ap (λ p. record s { place = p }) (back_same r code s.place none (sound.coded k d below))))
    (answered_same r.codes code none)
