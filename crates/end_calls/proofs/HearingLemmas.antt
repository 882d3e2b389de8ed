-- One octet more has its turn.
use Rattle.std.proofs.Common.{◌≡◌, ◌<◌, ◌∙◌, ◌+◌, arith, ap, refl, sym, subst, ℕ, List, [], ◌∷◌, ◌++◌, length, take, drop, get_or, slice_set}
use Rattle.std.proofs.lemmas.List.{drop-drop, drop-set-lt, length-append, take_more, take_more_set}
use Rattle.end_calls.specs.Hearing.{HasHeard, HearsAll, brings, messages_in, puts, tells}
use Rattle.end_calls.specs.declared.hearing.HeardValues.{HeardValues}
use Rattle.l2_bits.specs.LineBits.{bits_of}
use Rattle.term_managed.specs.Ends.{ManagedState}
use Rattle.term_managed.specs.Turns.{HeardTurn, Hears}

hears_more : (link : ℕ) (octets : List ℕ) (octet : ℕ) (old mid new : ManagedState) (heard : List HeardTurn) (one : HeardTurn)
    → HearsAll link octets old heard mid → Hears link (bits_of 8 octet) mid one.turn one.unit new
    → HearsAll link (octets ++ octet ∷ []) old (heard ++ one ∷ []) new
hears_more link [] octet old mid new [] one none hears =
    (new, subst (λ (s : ManagedState). Hears link (bits_of 8 octet) s one.turn one.unit new) none hears, refl)
hears_more link [] octet old mid new (first ∷ heard) one none hears = absurd none
hears_more link (first ∷ octets) octet old mid new [] one all hears = absurd all
hears_more link (first ∷ octets) octet old mid new (was ∷ heard) one all hears =
    (all.0, all.1, hears_more link octets octet all.0 mid new heard one all.2 hears)

puts_more : (heard : List HeardTurn) (one : HeardTurn) → puts (heard ++ one ∷ []) ≡ puts heard ++ one.turn.turn.put ∷ []
puts_more [] one = refl
puts_more (was ∷ heard) one = ap (λ (octets : List ℕ). was.turn.turn.put ∷ octets) (puts_more heard one)

messages_more : (heard : List HeardTurn) (one : HeardTurn)
    → messages_in (heard ++ one ∷ []) ≡ messages_in heard + brings one.turn.turn
messages_more [] one = omega arith
messages_more (was ∷ heard) one = omega (arith, messages_more heard one)

values_are : (a b : HeardValues) → a.octets ≡ b.octets → a.messages ≡ b.messages → a ≡ b
values_are a b octets messages = λ i. record { octets = octets i; messages = messages i }

pub heard_more : (link : ℕ) (octets : List ℕ) (place : ℕ) (room now : List ℕ) (old mid new : ManagedState) (told : HeardValues)
    (put brought : ℕ) → place < length octets → place < length now → told.octets ≡ place
    → HasHeard (HearsAll link (take place octets)) room old now told mid
    → (one : HeardTurn) × Hears link (bits_of 8 (get_or octets place 0)) mid one.turn one.unit new × (put ≡ one.turn.turn.put)
    × (brought ≡ brings one.turn.turn)
    → HasHeard (HearsAll link (take (place + 1) octets)) room old (slice_set now place put)
    (record { octets = told.octets + 1; messages = told.messages + brought }) new
heard_more link octets place room now old mid new told put brought below inside count was went =
    let heard = was.heard in let one = went.0 in let more = heard ++ one ∷ [] in
    let so_many : length heard ≡ place = ap (λ (v : HeardValues). v.octets) (sym was.told_is) ∙ count in
    let one_more : length more ≡ place + 1 = length-append heard (one ∷ []) ∙ ap (λ (n : ℕ). n + 1) so_many in
    let then = slice_set now place put in
    let rest = λ (xs : List ℕ). drop-drop 1 place xs in
    record {
      heard = more;
      went = subst (λ (os : List ℕ). HearsAll link os old more new) (sym (take_more octets place 0 below))
          (hears_more link (take place octets) (get_or octets place 0) old mid new heard one was.went went.1);
      front_is = ap (λ (n : ℕ). take n then) one_more ∙ take_more_set now place put inside
          ∙ ap (λ (n : ℕ). take n now ++ put ∷ []) (sym so_many)
          ∙ ap (λ (os : List ℕ). os ++ put ∷ []) was.front_is
          ∙ ap (λ (o : ℕ). puts heard ++ o ∷ []) went.2 ∙ sym (puts_more heard one);
      rest_is = ap (λ (n : ℕ). drop n then) one_more ∙ drop-set-lt (place + 1) now place put (omega arith)
          ∙ sym (rest now) ∙ ap (λ (n : ℕ). drop 1 (drop n now)) (sym so_many) ∙ ap (λ (os : List ℕ). drop 1 os) was.rest_is
          ∙ ap (λ (n : ℕ). drop 1 (drop n room)) so_many ∙ rest room ∙ ap (λ (n : ℕ). drop n room) (sym one_more);
      told_is = values_are _ (tells more) (ap (λ (n : ℕ). n + 1) count ∙ sym one_more)
          (ap (λ (v : HeardValues). v.messages + brought) was.told_is
          ∙ ap (λ (n : ℕ). messages_in heard + n) went.3 ∙ sym (messages_more heard one));
    }
