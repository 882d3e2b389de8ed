-- What holds of every set is kept by each call.
use Rattle.std.proofs.Common.{refl, arith, ◌≡◌, ◌≢◌, ◌∙◌, ap, sym, ◌<◌, ◌≤◌, ℕ, zero, suc, ◌%◌, ◌==◌, Bool, true, false, not, ◌&&◌, cond, Option, Some, None, IfSome, List, [], ◌∷◌, map, length, get_or, set, All, ◌+◌, ◌++◌, take, drop, length-append, length-drop, subst, below_more, get_or-set_other, get_or-set_same}
use Rattle.std.proofs.lemmas.Bool.Decides.{nat_tests}
use Rattle.std.proofs.lemmas.Option.{none-some, same_Some}
use Rattle.std.proofs.lemmas.List.{length-map, length-set, length-take, get_or_default, take_all, drop_all, append-nil}
use Rattle.std.proofs.lemmas.List.Edits.{map_over_more}
use Rattle.std.proofs.lemmas.List.Elements.{All-map, All-cons}
use Rattle.std.proofs.lemmas.List.FromFn.{fill_by_all}
use Rattle.set_route.specs.declared.place.Place.{Place}
use Rattle.set_route.specs.declared.place.Place.TheVariants.{On, Changing, Nowhere}
use Rattle.set_route.specs.declared.place.Code.{Code}
use Rattle.set_route.specs.declared.place.Code.TheVariants.{Free, Asked, Spent}
use Rattle.set_route.specs.declared.stream.Stream.{Stream}
use Rattle.set_route.specs.Routing.{Routing, IsRouting, IsPlaceOf, IsCoded, stream_numbers, new_stream, new_routing, used_at, accepted, place_raised, stream_raised, raised, place_on, via_settled, place_settled, stream_settled, code_settled, settled, code_for, home_of, code_of, via_of, is_free, place_left, stream_left, code_left, codes_left, left, is_away, stream_asked, asked, code_again, asked_again, place_back, stream_back, given_back, code_answered, answered}
use Rattle.set_route.proofs.Codes.{by_test, codes_at, length-codes_left, set_at, changed_at, freed_at, no_via, all_free, free_left, free_freed}

-- a stream runs on a link of the set
abbrev pub IsThere : ℕ → Stream → Type 0
IsThere links s = IsPlaceOf links s.place

-- Streams that change one by one, each within its home and on links of the set, and codes.
homes_kept : (f : Stream → Stream) (streams : List Stream) → ((s : Stream) → (f s).home ≡ s.home) → map (λ s. s.home) (map f streams) ≡ map (λ s. s.home) streams
homes_kept f [] keeps = refl
homes_kept f (s ∷ rest) keeps = ap (λ n. n ∷ map (λ (s : Stream). s.home) (map f rest)) (keeps s) ∙ ap (λ ns. s.home ∷ ns) (homes_kept f rest keeps)

-- the set with these streams and codes
abbrev pub with_codes : (Stream → Stream) → List Code → Routing → Routing
with_codes f codes r = record { links = r.links; streams = map f r.streams; codes = codes }

pub routing_changed : (f : Stream → Stream) (codes : List Code) (r : Routing)
    → ((s : Stream) → (f s).home ≡ s.home)
    → ((s : Stream) → IsThere r.links s → IsThere r.links (f s))
    → ((s : Stream) → IsCoded r s.place → IsCoded (with_codes f codes r) (f s).place)
    → length codes ≡ 256
    → ((code : ℕ) → get_or codes code Free ≢ Free → home_of code < r.links)
    → IsRouting r → IsRouting (with_codes f codes r)
routing_changed f codes r homes places opens long known sound = record {
  some_link = sound.some_link;
  at_most_16 = sound.at_most_16;
  homes = homes_kept f r.streams homes ∙ sound.homes;
  there = All-map (λ s. IsPlaceOf r.links s.place) f r.streams (λ k d below. places (get_or r.streams k d) (sound.there k d below));
  coded = All-map (λ s. IsCoded (with_codes f codes r) s.place) f r.streams (λ k d below. opens (get_or r.streams k d) (sound.coded k d below));
  all_codes = long;
  known = known;
}

-- no code changes
pub routing_kept : (f : Stream → Stream) (r : Routing)
    → ((s : Stream) → (f s).home ≡ s.home)
    → ((s : Stream) → IsThere r.links s → IsThere r.links (f s))
    → ((s : Stream) → IsCoded r s.place → IsCoded (with_codes f r.codes r) (f s).place)
    → IsRouting r → IsRouting (record r { streams = map f r.streams })
routing_kept f r homes places opens sound = routing_changed f r.codes r homes places opens sound.all_codes sound.known sound

-- an open code that stays open
open_kept : (r new : Routing) (place : Place) → ((code via : ℕ) → via_of (code_of code r) ≡ Some via → via_of (code_of code new) ≡ Some via) → IsCoded r place → IsCoded new place
open_kept r new (On l) keeps is = tt
open_kept r new (Changing to code via) keeps is = (is.0, keeps code via is.1)
open_kept r new Nowhere keeps is = tt

-- there are 16 streams
pub sixteen : (r : Routing) → IsRouting r → length r.streams ≡ 16
sixteen r sound = sym (length-map r.streams (λ s. s.home)) ∙ ap length sound.homes

-- A loop that changes one stream after another, or one code.
pub one_more : {X : Type 0} (f : X → X) (xs ys : List X) (i : ℕ) (d new : X) → i < length xs → ys ≡ map f (take i xs) ++ drop i xs → new ≡ f (get_or ys i d) → set ys i new ≡ map f (take (i + 1) xs) ++ drop (i + 1) xs
one_more f xs ys i d new inside so_far is =
    let same : length ys ≡ length xs = ap length so_far ∙ length-append (map f (take i xs)) (drop i xs) ∙ (omega (arith, length-map (take i xs) f, length-take i xs, length-drop i xs)) in
    ap (set ys i) is ∙ map_over_more f xs ys i (get_or ys i d) inside so_far (get_or_default ys i d (get_or ys i d) (omega (arith, same, inside)))

pub all_done : (f : Stream → Stream) (xs ys : List Stream) (i : ℕ) → length xs ≡ 16 → 16 ≤ i → ys ≡ map f (take i xs) ++ drop i xs → ys ≡ map f xs
all_done f xs ys i long past so_far =
    let most : length xs ≤ i = omega (arith, long) in
    so_far ∙ ap (λ zs. map f zs ++ drop i xs) (take_all i xs most) ∙ ap (λ zs. map f xs ++ zs) (drop_all i xs most) ∙ append-nil (map f xs)

chosen : (b : Bool) (links : ℕ) (one other : Place) → IsPlaceOf links one → IsPlaceOf links other → IsPlaceOf links (cond b one other)
chosen true links one other p q = p
chosen false links one other p q = q

chosen_coded : (b : Bool) (r : Routing) (one other : Place) → IsCoded r one → (b ≡ false → IsCoded r other) → IsCoded r (cond b one other)
chosen_coded true r one other p q = p
chosen_coded false r one other p q = q refl

-- Up.
raised_to : (links link home : ℕ) (used : Bool) (place : Place) → link < links → IsPlaceOf links place → IsPlaceOf links (place_raised link home used place)
raised_to links link home used (On l) below there = chosen ((home == link) && not used) links (On link) (On l) below there
raised_to links link home used (Changing to code via) below there = there
raised_to links link home used Nowhere below there = below

raised_coded : (r new : Routing) (link home : ℕ) (used : Bool) (place : Place) → r.codes ≡ new.codes → IsCoded r place → IsCoded new (place_raised link home used place)
raised_coded r new link home used (On l) same is = chosen_coded ((home == link) && not used) new (On link) (On l) tt (λ no. tt)
raised_coded r new link home used (Changing to code via) same is = (is.0, ap (λ cs. via_of (get_or cs code Free)) (sym same) ∙ is.1)
raised_coded r new link home used Nowhere same is = tt

pub raised_sound : (link : ℕ) (r : Routing) → link < r.links → IsRouting r → IsRouting (raised link r)
raised_sound link r below sound =
    routing_kept (stream_raised link) r (λ s. refl)
    (λ s there. raised_to r.links link s.home s.used s.place below there)
    (λ s is. raised_coded r (with_codes (stream_raised link) r.codes r) link s.home s.used s.place refl is)
    sound

-- A link is left.
left_to : (links link : ℕ) (place : Place) → IsPlaceOf links place → IsPlaceOf links (place_left link place)
left_to links link (On l) there = there
left_to links link (Changing to code via) there = chosen (to == link) links (On via) (Changing to code via) there.1 there
left_to links link Nowhere there = tt

-- an open code of another link
still_open : (link code to via : ℕ) (was : Code) → home_of code ≡ to → (to == link) ≡ false → via_of was ≡ Some via → via_of (code_left link code was) ≡ Some via
still_open link code to via Free home other is = is
still_open link code to via (Asked v d n) home other is = ap (λ h. via_of (cond (h == link) (Spent n) (Asked v d n))) home ∙ ap (λ b. via_of (cond b (Spent n) (Asked v d n))) other ∙ is
still_open link code to via (Spent n) home other is = is

left_coded : (r new : Routing) (link : ℕ) (place : Place) → new.codes ≡ codes_left link 0 r.codes → IsCoded r place → IsCoded new (place_left link place)
left_coded r new link (On l) same is = tt
left_coded r new link (Changing to code via) same is =
    chosen_coded (to == link) new (On via) (Changing to code via) tt
    (λ no. (is.0, ap (λ cs. via_of (get_or cs code Free)) same ∙ ap via_of (codes_at link 0 code code r.codes (omega arith)) ∙ still_open link code to via (code_of code r) is.0 no is.1))
left_coded r new link Nowhere same is = tt

pub left_sound : (link : ℕ) (r : Routing) → IsRouting r → IsRouting (left link r)
left_sound link r sound =
    routing_changed (stream_left link) (codes_left link 0 r.codes) r (λ s. refl)
    (λ s there. left_to r.links link s.place there)
    (λ s is. left_coded r (with_codes (stream_left link) (codes_left link 0 r.codes) r) link s.place refl is)
    (length-codes_left link 0 r.codes ∙ sound.all_codes)
    (λ code used. sound.known code (λ free. used (codes_at link 0 code code r.codes (omega arith) ∙ free_left link code (code_of code r) free)))
    sound

-- A link settled.
settled_on : (links : ℕ) (target : Option ℕ) → IfSome target (λ to. to < links) → IsPlaceOf links (place_on target)
settled_on links (Some link) below = below
settled_on links None below = tt

chosen_below : (b : Bool) (links one other : ℕ) → one < links → other < links → cond b one other < links
chosen_below true links one other p q = p
chosen_below false links one other p q = q

settled_via : (links link via : ℕ) (target : Option ℕ) → IfSome target (λ to. to < links) → via < links → via_settled link target via < links
settled_via links link via (Some to) below there = chosen_below (via == link) links to via below there
settled_via links link via None below there = there

settled_to : (links link : ℕ) (target : Option ℕ) (place : Place) → IfSome target (λ to. to < links) → IsPlaceOf links place → IsPlaceOf links (place_settled link target place)
settled_to links link target (On l) below there = chosen (l == link) links (place_on target) (On l) (settled_on links target below) there
settled_to links link target (Changing to code via) below there = (there.0, settled_via links link via target below there.1)
settled_to links link target Nowhere below there = tt

on_coded : (r : Routing) (target : Option ℕ) → IsCoded r (place_on target)
on_coded r (Some link) = tt
on_coded r None = tt

via_then : (link via : ℕ) (target : Option ℕ) (was : Code) → via_of was ≡ Some via → via_of (code_settled link target was) ≡ Some (via_settled link target via)
via_then link via target Free e = absurd cc
via_then link via target (Asked v d n) e = ap Some (ap (via_settled link target) (same_Some v via e))
via_then link via target (Spent n) e = absurd cc

pub settled_at : (link : ℕ) (target : Option ℕ) (codes : List Code) (n : ℕ) → get_or (map (code_settled link target) codes) n Free ≡ code_settled link target (get_or codes n Free)
settled_at link target [] n = refl
settled_at link target (c ∷ cs) zero = refl
settled_at link target (c ∷ cs) (suc n) = settled_at link target cs n

settled_coded : (r new : Routing) (link : ℕ) (target : Option ℕ) (place : Place) → new.codes ≡ map (code_settled link target) r.codes → IsCoded r place → IsCoded new (place_settled link target place)
settled_coded r new link target (On l) same is = chosen_coded (l == link) new (place_on target) (On l) (on_coded new target) (λ no. tt)
settled_coded r new link target (Changing to code via) same is =
    (is.0, ap (λ cs. via_of (get_or cs code Free)) same ∙ ap via_of (settled_at link target r.codes code) ∙ via_then link via target (code_of code r) is.1)
settled_coded r new link target Nowhere same is = tt

pub settled_sound : (link : ℕ) (target : Option ℕ) (r : Routing) → IfSome target (λ to. to < r.links) → IsRouting r → IsRouting (settled link target r)
settled_sound link target r below sound =
    let codes = map (code_settled link target) r.codes in
    routing_changed (stream_settled link target) codes r (λ s. refl)
    (λ s there. settled_to r.links link target s.place below there)
    (λ s is. settled_coded r (with_codes (stream_settled link target) codes r) link target s.place refl is)
    (length-map r.codes (code_settled link target) ∙ sound.all_codes)
    (λ n used. sound.known n (λ free. used (settled_at link target r.codes n ∙ ap (code_settled link target) free)))
    sound

-- Restore.
asked_home : (b : Bool) (s : Stream) (to : Place) → (cond b (record s { place = to }) s).home ≡ s.home
asked_home true s to = refl
asked_home false s to = refl

asked_to : (b : Bool) (links : ℕ) (s : Stream) (to : Place) → IsPlaceOf links to → IsThere links s → IsThere links (cond b (record s { place = to }) s)
asked_to true links s to new there = new
asked_to false links s to new there = there

asked_coded : (b : Bool) (r : Routing) (s : Stream) (to : Place) → IsCoded r to → IsCoded r s.place → IsCoded r (cond b (record s { place = to }) s).place
asked_coded true r s to new is = new
asked_coded false r s to new is = is

home_is : (home alternative : ℕ) → alternative < 16 → home_of (code_for home alternative) ≡ home
home_is home alternative few = omega (arith, few)

still_asked : (b : Bool) (was new : Code) (via : ℕ) → (b ≡ true → via_of was ≡ None) → via_of was ≡ Some via → via_of (cond b new was) ≡ Some via
still_asked true was new via none is = absurd (none-some via (sym (none refl) ∙ is))
still_asked false was new via none is = is

asked_known : (home alternative code links : ℕ) (was new : Code) → alternative < 16 → home < links → (was ≢ Free → home_of code < links) → cond (code == code_for home alternative) new was ≢ Free → home_of code < links
asked_known home alternative code links was new few below known used =
    by_test (home_of code < links) (code == code_for home alternative)
    (λ is. let same : code ≡ code_for home alternative = grind (arith, nat_tests, is) in omega (arith, same, few, below))
    (λ no. known (λ free. used (ap (λ b. cond b new was) no ∙ free)))

pub asked_sound : (home alternative declaration : ℕ) (r : Routing) → home < r.links → alternative < r.links → is_free (code_of (code_for home alternative) r) ≡ true → IsRouting r → IsRouting (asked home alternative declaration r)
asked_sound home alternative declaration r below there free sound =
    let few : alternative < 16 = omega (arith, there, sound.at_most_16) in
    let code : ℕ = code_for home alternative in
    let opened : Code = Asked alternative declaration 1 in
    let within : code < length r.codes = omega (arith, below, few, sound.at_most_16, sound.all_codes) in
    let new : Routing = with_codes (stream_asked home alternative) (set r.codes code opened) r in
    let at = λ (n : ℕ). set_at r.codes n code opened within in
    routing_changed (stream_asked home alternative) (set r.codes code opened) r
    (λ s. asked_home (is_away home alternative s) s (Changing home code alternative))
    (λ s is. asked_to (is_away home alternative s) r.links s (Changing home code alternative) (below, there) is)
    (λ s is. asked_coded (is_away home alternative s) new s (Changing home code alternative)
    (home_is home alternative few, ap via_of (get_or-set_same r.codes code opened Free within))
    (open_kept r new s.place (λ n via e. ap via_of (at n) ∙ still_asked (n == code) (code_of n r) opened via (λ same. let is : n ≡ code = grind (arith, nat_tests, same) in no_via (code_of n r) (ap (λ k. is_free (code_of k r)) is ∙ free)) e) is))
    (length-set r.codes code opened ∙ sound.all_codes)
    (λ n used. asked_known home alternative n r.links (code_of n r) opened few below (sound.known n) (λ none. used (at n ∙ none)))
    sound

-- Redeclare.
again_same : (declaration : ℕ) (was : Code) → via_of (code_again declaration was) ≡ via_of was
again_same declaration Free = refl
again_same declaration (Asked via before owed) = refl
again_same declaration (Spent owed) = refl

pub again_at : (codes : List Code) (n place declaration : ℕ) → get_or (set codes place (code_again declaration (get_or codes place Free))) n Free ≡ cond (n == place) (code_again declaration (get_or codes n Free)) (get_or codes n Free)
again_at codes n place declaration = changed_at (code_again declaration) refl codes n place

pub again_sound : (code declaration : ℕ) (r : Routing) → IsRouting r → IsRouting (asked_again code declaration r)
again_sound code declaration r sound = record {
  some_link = sound.some_link;
  at_most_16 = sound.at_most_16;
  homes = sound.homes;
  there = sound.there;
  coded = λ k d below. open_kept r (asked_again code declaration r) (get_or r.streams k d).place
      (λ n via e. ap via_of (again_at r.codes n code declaration) ∙ go (n == code) (code_of n r) via e) (sound.coded k d below);
  all_codes = length-set r.codes code _ ∙ sound.all_codes;
  known = λ n used. sound.known n (λ free. used (again_at r.codes n code declaration ∙ none (n == code) (code_of n r) free));
}
  where
    go : (b : Bool) (was : Code) (via : ℕ) → via_of was ≡ Some via → via_of (cond b (code_again declaration was) was) ≡ Some via
    go true was via e = again_same declaration was ∙ e
    go false was via e = e

    none : (b : Bool) (was : Code) → was ≡ Free → cond b (code_again declaration was) was ≡ Free
    none true was e = ap (code_again declaration) e
    none false was e = e

-- A code is given back.
back_to : (links code : ℕ) (place : Place) → IsPlaceOf links place → IsPlaceOf links (place_back code place)
back_to links code (On l) there = there
back_to links code (Changing to c via) there = chosen (c == code) links (On to) (Changing to c via) there.0 there
back_to links code Nowhere there = tt

back_coded : (r new : Routing) (code : ℕ) (f : Code → Code) (place : Place) → ((n : ℕ) → code_of n new ≡ cond (n == code) (f (code_of n r)) (code_of n r)) → IsCoded r place → IsCoded new (place_back code place)
back_coded r new code f (On l) same is = tt
back_coded r new code f (Changing to c via) same is =
    chosen_coded (c == code) new (On to) (Changing to c via) tt
    (λ no. (is.0, ap via_of (same c) ∙ ap (λ b. via_of (cond b (f (code_of c r)) (code_of c r))) no ∙ is.1))
back_coded r new code f Nowhere same is = tt

pub back_sound : (code : ℕ) (r : Routing) → IsRouting r → IsRouting (given_back code r)
back_sound code r sound =
    routing_changed (stream_back code) (set r.codes code Free) r (λ s. refl)
    (λ s there. back_to r.links code s.place there)
    (λ s is. back_coded r (with_codes (stream_back code) (set r.codes code Free) r) code (λ c. Free) s.place (λ n. freed_at r.codes n code) is)
    (length-set r.codes code Free ∙ sound.all_codes)
    (λ n used. sound.known n (λ free. used (freed_at r.codes n code ∙ free_freed (n == code) (code_of n r) free)))
    sound

-- It's acknowledged.
pub answered_at : (codes : List Code) (n place : ℕ) → get_or (set codes place (code_answered (get_or codes place Free))) n Free ≡ cond (n == place) (code_answered (get_or codes n Free)) (get_or codes n Free)
answered_at codes n place = changed_at code_answered refl codes n place

pub answered_sound : (code : ℕ) (r : Routing) → IsRouting r → IsRouting (answered code r)
answered_sound code r sound =
    let codes = set r.codes code (code_answered (code_of code r)) in
    routing_changed (stream_back code) codes r (λ s. refl)
    (λ s there. back_to r.links code s.place there)
    (λ s is. back_coded r (with_codes (stream_back code) codes r) code code_answered s.place (λ n. answered_at r.codes n code) is)
    (length-set r.codes code _ ∙ sound.all_codes)
    (λ n used. sound.known n (λ free. used (answered_at r.codes n code ∙ none (n == code) (code_of n r) free)))
    sound
  where
    none : (b : Bool) (was : Code) → was ≡ Free → cond b (code_answered was) was ≡ Free
    none true was e = ap code_answered e
    none false was e = e

-- Offer.
pub used_is : (streams : List Stream) (stream : ℕ) (d : Stream) → stream < length streams → set streams stream (record (get_or streams stream d) { used = true }) ≡ used_at stream streams
used_is [] stream d below = absurd (omega (arith, below))
used_is (s ∷ rest) zero d below = refl
used_is (s ∷ rest) (suc n) d below = ap (λ more. s ∷ more) (used_is rest n d (omega (arith, below)))

used_homes : (streams : List Stream) (stream : ℕ) → map (λ s. s.home) (used_at stream streams) ≡ map (λ s. s.home) streams
used_homes [] stream = refl
used_homes (s ∷ rest) zero = refl
used_homes (s ∷ rest) (suc n) = ap (λ ns. s.home ∷ ns) (used_homes rest n)

used_there : (P : Place → Type 0) (streams : List Stream) (stream : ℕ) → All (λ s. P s.place) streams → All (λ s. P s.place) (used_at stream streams)
used_there P [] stream all = all
used_there P (s ∷ rest) zero all = All-cons (λ s. P s.place) (record s { used = true }) rest (all 0 s (omega arith)) (λ k d below. all (suc k) d (omega (arith, below)))
used_there P (s ∷ rest) (suc n) all = All-cons (λ s. P s.place) s (used_at n rest) (all 0 s (omega arith)) (used_there P rest n (λ k d below. all (suc k) d (omega (arith, below))))

pub accepted_sound : (stream : ℕ) (r : Routing) → IsRouting r → IsRouting (accepted stream r)
accepted_sound stream r sound = record {
  some_link = sound.some_link;
  at_most_16 = sound.at_most_16;
  homes = used_homes r.streams stream ∙ sound.homes;
  there = used_there (IsPlaceOf r.links) r.streams stream sound.there;
  coded = used_there (IsCoded (accepted stream r)) r.streams stream
      (λ k d below. open_kept r (accepted stream r) (get_or r.streams k d).place (λ code via e. e) (sound.coded k d below));
  all_codes = sound.all_codes;
  known = sound.known;
}

-- A new set.

-- all 16 streams are there, and the first so many are new ones with their homes
pub record FirstAre (links number : ℕ) (streams : List Stream) : Type 0 where
  pub long : length streams ≡ 16
  pub each : (k : ℕ) → k < number → get_or streams k (new_stream 0) ≡ new_stream (k % links)

pub first_more : (links number : ℕ) (streams : List Stream) (s : Stream) → FirstAre links number streams → number < 16 → s ≡ new_stream (number % links) → FirstAre links (number + 1) (set streams number s)
first_more links number streams s first below is = record {
  long = length-set streams number s ∙ first.long;
  each = below_more (λ (k : ℕ). get_or (set streams number s) k (new_stream 0) ≡ new_stream (k % links)) number
      (λ k lower. get_or-set_other streams number k s (new_stream 0) (λ same. omega (arith, same, lower)) ∙ first.each k lower)
      (get_or-set_same streams number s (new_stream 0) (omega (arith, first.long, below)) ∙ is);
}

pub new_is : (links number : ℕ) (streams : List Stream) → 16 ≤ number → FirstAre links number streams → streams ≡ map (λ s. new_stream (s % links)) stream_numbers
new_is links number streams past first =
    fill_by_all (λ (s : ℕ). new_stream (s % links)) streams 16 (new_stream 0) first.long (λ k below. first.each k (omega (arith, below, past)))

pub new_sound : (links : ℕ) → 1 ≤ links → links ≤ 16 → IsRouting (new_routing links)
new_sound links some few = record {
  some_link = some;
  at_most_16 = few;
  homes = refl;
  there = All-map (λ s. IsPlaceOf links s.place) (λ s. new_stream (s % links)) stream_numbers (λ k d below. tt);
  coded = All-map (λ s. IsCoded (new_routing links) s.place) (λ s. new_stream (s % links)) stream_numbers (λ k d below. tt);
  all_codes = refl;
  known = λ code used. absurd (used (all_free 256 code));
}

-- What the code keeps stands for the same.
pub raised_kept : (old link : ℕ) (r : Routing) (now : List Stream) (i : ℕ) → IsRouting r → link < old → r.links ≡ old → 16 ≤ i → now ≡ map (stream_raised link) (take i r.streams) ++ drop i r.streams → IsRouting (record r { streams = now })
raised_kept old link r now i sound below same past so_far =
    subst (λ (xs : List Stream). IsRouting (record r { streams = xs })) (sym (all_done (stream_raised link) r.streams now i (sixteen r sound) past so_far))
    (raised_sound link r (omega (arith, below, same)) sound)

-- a loop over the streams, beside a change of the codes
pub changed_kept : (f : Stream → Stream) (codes : List Code) (r : Routing) (now : List Stream) (new : List Code) (i : ℕ) → IsRouting r → IsRouting (with_codes f codes r) → 16 ≤ i → now ≡ map f (take i r.streams) ++ drop i r.streams → new ≡ codes → IsRouting (record { links = r.links; streams = now; codes = new })
changed_kept f codes r now new i sound then past so_far is =
    subst (λ (xs : List Stream). IsRouting (record { links = r.links; streams = xs; codes = new })) (sym (all_done f r.streams now i (sixteen r sound) past so_far))
    (subst (λ (cs : List Code). IsRouting (record { links = r.links; streams = map f r.streams; codes = cs })) (sym is) then)

pub accepted_is : (stream i : ℕ) (r : Routing) (d : Stream) → IsRouting r → i ≡ stream → stream < 16 → set r.streams i (record (get_or r.streams i d) { used = true }) ≡ used_at stream r.streams
accepted_is stream i r d sound same below = rw same (used_is r.streams stream d (omega (arith, below, sixteen r sound)))

pub accepted_kept : (stream i : ℕ) (r : Routing) (d : Stream) → IsRouting r → i ≡ stream → stream < 16 → IsRouting (record r { streams = set r.streams i (record (get_or r.streams i d) { used = true }) })
accepted_kept stream i r d sound same below =
    subst (λ (xs : List Stream). IsRouting (record r { streams = xs })) (sym (accepted_is stream i r d sound same below))
    (accepted_sound stream r sound)

pub new_kept : (links number : ℕ) (streams : List Stream) → 1 ≤ links → links ≤ 16 → 16 ≤ number → FirstAre links number streams → IsRouting (record (new_routing links) { streams = streams })
new_kept links number streams some few past first =
    subst (λ (xs : List Stream). IsRouting (record (new_routing links) { streams = xs })) (sym (new_is links number streams past first)) (new_sound links some few)
