-- STRETCHES of a line, one behind another: the unit at a place of all, the units without it, and one more behind them.
-- `found_unit`, `found_taken` and `one_left` are what taking a unit out of one stretch is for all; `last_joined` what
-- joining the last one is; `empty_out` that one without units makes no difference. Each is read off where the stretch
-- splits the list (`split`, `split_set`).
use Rattle.std.proofs.Common.{refl, arith, ◌≡◌, ◌∙◌, ap, sym, ◌<◌, ◌+◌, ℕ, zero, suc, List, [], ◌∷◌, ◌++◌, length, take, drop, slice_get, slice_set, get_or, subst, Option, Some, None}
use Rattle.std.proofs.lemmas.List.{append_assoc, append-nil, length-append}
use Rattle.std.proofs.lemmas.Option.{get_or_from_slice_get, slice_get_read}
use Rattle.l2_units.specs.declared.unit.Unit.{Unit as SignalUnit}
use Rattle.l2_units.specs.declared.lent.UnitRef.{UnitRef}
use Rattle.pair_steps.specs.Lines.{without}
use Rattle.pair_steps.specs.Lent.{IsUnitAt}
use Rattle.pair_steps.specs.Nests.{joined, StandsIn}

-- behind a list, and in front of one

get_behind : (front xs : List SignalUnit) (k place : ℕ) → place ≡ length front + k → slice_get (front ++ xs) place ≡ slice_get xs k
get_behind [] xs k place e = ap (slice_get xs) (omega (arith, e))
get_behind (x ∷ front) xs k zero e = absurd (omega (arith, e))
get_behind (x ∷ front) xs k (suc place) e = get_behind front xs k place (omega (arith, e))

get_in_front : (xs back : List SignalUnit) (k : ℕ) → k < length xs → slice_get (xs ++ back) k ≡ slice_get xs k
get_in_front [] back k within = absurd (omega (arith, within))
get_in_front (x ∷ xs) back zero within = refl
get_in_front (x ∷ xs) back (suc k) within = get_in_front xs back k (omega (arith, within))

without_behind : (front xs : List SignalUnit) (k place : ℕ) → place ≡ length front + k → without place (front ++ xs) ≡ front ++ without k xs
without_behind [] xs k place e = ap (λ (n : ℕ). without n xs) (omega (arith, e))
without_behind (x ∷ front) xs k zero e = absurd (omega (arith, e))
without_behind (x ∷ front) xs k (suc place) e = ap (λ (rest : List SignalUnit). x ∷ rest) (without_behind front xs k place (omega (arith, e)))

without_in_front : (xs back : List SignalUnit) (k : ℕ) → k < length xs → without k (xs ++ back) ≡ without k xs ++ back
without_in_front [] back k within = absurd (omega (arith, within))
without_in_front (x ∷ xs) back zero within = refl
without_in_front (x ∷ xs) back (suc k) within = ap (λ (rest : List SignalUnit). x ∷ rest) (without_in_front xs back k (omega (arith, within)))

one_fewer : (xs : List SignalUnit) (place : ℕ) → place < length xs → length (without place xs) + 1 ≡ length xs
one_fewer [] place within = absurd (omega (arith, within))
one_fewer (x ∷ xs) zero within = omega arith
one_fewer (x ∷ xs) (suc place) within = omega (arith, one_fewer xs place (omega (arith, within)))

-- where a stretch stands, it splits the list

joined_both : {S : Type 0} (units : S → List SignalUnit) (xs ys : List S) → joined units (xs ++ ys) ≡ joined units xs ++ joined units ys
joined_both units [] ys = refl
joined_both units (x ∷ xs) ys = ap (λ (rest : List SignalUnit). units x ++ rest) (joined_both units xs ys) ∙ sym (append_assoc (units x) (joined units xs) (joined units ys))

split : {S : Type 0} (units : S → List SignalUnit) (parts : List S) (i : ℕ) (p : S) → slice_get parts i ≡ Some p
    → joined units parts ≡ joined units (take i parts) ++ (units p ++ joined units (drop (suc i) parts))
split units [] i p there = absurd cc
split {S = S} units (x ∷ xs) zero p there = let same : x ≡ p = cc in ap (λ (q : S). units q ++ joined units xs) same
split units (x ∷ xs) (suc i) p there = ap (λ (rest : List SignalUnit). units x ++ rest) (split units xs i p there) ∙ sym (append_assoc (units x) (joined units (take i xs)) (units p ++ joined units (drop (suc i) xs)))

split_set : {S : Type 0} (units : S → List SignalUnit) (parts : List S) (i : ℕ) (p q : S) → slice_get parts i ≡ Some p
    → joined units (slice_set parts i q) ≡ joined units (take i parts) ++ (units q ++ joined units (drop (suc i) parts))
split_set units [] i p q there = absurd cc
split_set units (x ∷ xs) zero p q there = refl
split_set units (x ∷ xs) (suc i) p q there = ap (λ (rest : List SignalUnit). units x ++ rest) (split_set units xs i p q there) ∙ sym (append_assoc (units x) (joined units (take i xs)) (units q ++ joined units (drop (suc i) xs)))

-- THE UNIT at a place, and the units without it

-- the stretch that is read is the one that was found
pub read_there : {S : Type 0} (units : S → List SignalUnit) (parts : List S) (place index rest : ℕ) (part : S) → (p : S) × StandsIn units parts place index rest p
    → part ≡ get_or parts index part → StandsIn units parts place index rest part
read_there {S = S} units parts place index rest part found read =
    let same : part ≡ found.0 = read ∙ get_or_from_slice_get parts index found.0 part found.1.there in
    let P : S → Type 0 = λ q. StandsIn units parts place index rest q in
    subst P (sym same) found.1

pub found_unit : {S : Type 0} (units : S → List SignalUnit) (parts : List S) (place index rest : ℕ) (part : S) → StandsIn units parts place index rest part
    → slice_get (joined units parts) place ≡ slice_get (units part) rest
found_unit units parts place index rest part s =
    rw (split units parts index part s.there)
    (get_behind (joined units (take index parts)) (units part ++ joined units (drop (suc index) parts)) rest place (sym s.before)
    ∙ get_in_front (units part) (joined units (drop (suc index) parts)) rest s.within)

pub found_told : {S : Type 0} (units : S → List SignalUnit) (parts : List S) (place index rest : ℕ) (part : S) (told : Option UnitRef) → StandsIn units parts place index rest part
    → IsUnitAt (units part) rest told → IsUnitAt (joined units parts) place told
found_told units parts place index rest part None s at = found_unit units parts place index rest part s ∙ at
found_told units parts place index rest part (Some unit) s at = found_unit units parts place index rest part s ∙ at

pub found_taken : {S : Type 0} (units : S → List SignalUnit) (parts : List S) (place index rest : ℕ) (part new : S) → StandsIn units parts place index rest part
    → units new ≡ without rest (units part) → joined units (slice_set parts index new) ≡ without place (joined units parts)
found_taken units parts place index rest part new s fewer =
    let front = joined units (take index parts) in
    let back = joined units (drop (suc index) parts) in
    split_set units parts index part new s.there
    ∙ ap (λ (these : List SignalUnit). front ++ (these ++ back)) fewer
    ∙ ap (λ (these : List SignalUnit). front ++ these) (sym (without_in_front (units part) back rest s.within))
    ∙ sym (without_behind front (units part ++ back) rest place (sym s.before))
    ∙ ap (λ (these : List SignalUnit). without place these) (sym (split units parts index part s.there))

-- no more places than units
found_within : {S : Type 0} (units : S → List SignalUnit) (parts : List S) (place index rest : ℕ) (part : S) → StandsIn units parts place index rest part
    → place < length (joined units parts)
found_within units parts place index rest part s =
    let front = joined units (take index parts) in
    let back = joined units (drop (suc index) parts) in
    let all = ap (λ (these : List SignalUnit). length these) (split units parts index part s.there) in
    omega (arith, all, length-append front (units part ++ back), length-append (units part) back, s.before, s.within)

pub one_left : {S : Type 0} (units : S → List SignalUnit) (parts : List S) (place index rest : ℕ) (part : S) → StandsIn units parts place index rest part
    → length (without place (joined units parts)) + 1 ≡ length (joined units parts)
one_left units parts place index rest part s = one_fewer (joined units parts) place (found_within units parts place index rest part s)

-- what is left where a unit was taken out of the stretch that was read
pub record IsLeft {S : Type 0} (units : S → List SignalUnit) (parts : List S) (place : ℕ) (unit : SignalUnit) (left : List SignalUnit) : Type 0 where
  pub there : slice_get (joined units parts) place ≡ Some unit
  pub fewer : left ≡ without place (joined units parts)
  pub count : length left + 1 ≡ length (joined units parts)

pub left_of : {S : Type 0} (units : S → List SignalUnit) (parts : List S) (place index rest : ℕ) (part new : S) (unit : SignalUnit) (left : List SignalUnit)
    → (p : S) × StandsIn units parts place index rest p → part ≡ get_or parts index part
    → slice_get (units part) rest ≡ Some unit → units new ≡ without rest (units part)
    → left ≡ joined units (slice_set parts index new) → IsLeft units parts place unit left
left_of units parts place index rest part new unit left found read there fewer is =
    let s = read_there units parts place index rest part found read in
    let same = is ∙ found_taken units parts place index rest part new s fewer in
    record {
      there = found_unit units parts place index rest part s ∙ there;
      fewer = same;
      count = rw same (one_left units parts place index rest part s);
    }

-- A STRETCH without units makes no difference
pub no_units_there : (units : List SignalUnit) → length units ≡ 0 → units ≡ []
no_units_there [] none = refl
no_units_there (x ∷ units) none = absurd (omega (arith, none))

pub empty_out : {S : Type 0} (units : S → List SignalUnit) (parts : List S) (i : ℕ) (p : S) → slice_get parts i ≡ Some p → units p ≡ []
    → joined units (take i parts ++ drop (suc i) parts) ≡ joined units parts
empty_out units parts i p there empty =
    joined_both units (take i parts) (drop (suc i) parts)
    ∙ ap (λ (these : List SignalUnit). joined units (take i parts) ++ (these ++ joined units (drop (suc i) parts))) (sym empty)
    ∙ sym (split units parts i p there)

pub empty_behind : {S : Type 0} (units : S → List SignalUnit) (parts : List S) (p : S) → units p ≡ []
    → joined units (parts ++ p ∷ []) ≡ joined units parts
empty_behind units parts p empty =
    joined_both units parts (p ∷ [])
    ∙ ap (λ (these : List SignalUnit). joined units parts ++ (these ++ [])) empty
    ∙ append-nil (joined units parts)

-- THE LAST STRETCH has more behind it
pub last_joined : {S : Type 0} (units : S → List SignalUnit) (parts : List S) (i : ℕ) (p new : S) (more : List SignalUnit) → slice_get parts i ≡ Some p
    → suc i ≡ length parts → units new ≡ units p ++ more → joined units (slice_set parts i new) ≡ joined units parts ++ more
last_joined units [] i p new more there last e = absurd cc
last_joined units (x ∷ []) zero p new more there last e = let same : x ≡ p = cc in rw (e, same) (append-nil (units p ++ more) ∙ ap (λ (these : List SignalUnit). these ++ more) (sym (append-nil (units p))))
last_joined units (x ∷ y ∷ xs) zero p new more there last e = absurd (omega (arith, last))
last_joined units (x ∷ xs) (suc i) p new more there last e =
    ap (λ (rest : List SignalUnit). units x ++ rest) (last_joined units xs i p new more there (omega (arith, last)) e)
    ∙ sym (append_assoc (units x) (joined units xs) more)

-- one that is set to units of the same makes no difference
pub same_set : {S : Type 0} (units : S → List SignalUnit) (parts : List S) (i : ℕ) (p new : S) → slice_get parts i ≡ Some p
    → units new ≡ units p → joined units (slice_set parts i new) ≡ joined units parts
same_set units parts i p new there e =
    split_set units parts i p new there
    ∙ ap (λ (these : List SignalUnit). joined units (take i parts) ++ (these ++ joined units (drop (suc i) parts))) e
    ∙ sym (split units parts i p there)

-- one stretch more in front
one_more : {S : Type 0} (units : S → List SignalUnit) (parts : List S) (i : ℕ) (p : S) → slice_get parts i ≡ Some p
    → joined units (take (i + 1) parts) ≡ joined units (take i parts) ++ units p
one_more units [] i p there = absurd cc
one_more units (x ∷ xs) zero p there = let same : x ≡ p = cc in rw same (append-nil (units p))
one_more units (x ∷ xs) (suc i) p there = let next : suc i + 1 ≡ suc (i + 1) = omega arith in rw next (ap (λ (rest : List SignalUnit). units x ++ rest) (one_more units xs i p there) ∙ sym (append_assoc (units x) (joined units (take i xs)) (units p)))

pub one_read : {S : Type 0} (units : S → List SignalUnit) (parts : List S) (i n : ℕ) (part : S) → n ≡ length parts → i < n → part ≡ get_or parts i part
    → joined units (take (i + 1) parts) ≡ joined units (take i parts) ++ units part
one_read units parts i n part all within read = one_more units parts i part (slice_get_read parts n i part all within read)
