-- The lowest link that is up.
use Rattle.std.proofs.Common.{refl, arith, ◌≡◌, ◌≢◌, ◌∙◌, ap, ◌<◌, ℕ, zero, suc, ◌+◌, Bool, true, false, cond, Option, Some, None, List, [], ◌∷◌, length, nat_lt}
use Rattle.std.proofs.lemmas.Option.{none-some, same_Some}
use Rattle.std.proofs.lemmas.Bool.{false≢true}
use Rattle.std.proofs.lemmas.Bool.Decides.{nat_tests}
use Rattle.std.specs.List.{slice_get, position, position_or_len}
use Rattle.std.specs.Option.{option_map}
use Rattle.set_route.specs.Target.{target_of, IsTarget}

down_first : (rest : List Bool) → slice_get (false ∷ rest) 0 ≢ Some true
down_first rest e = false≢true (same_Some false true e)

-- below a link that is down stand the links of the rest, one lower
lower_down : (rest : List Bool) (link lower : ℕ) → ((n : ℕ) → n < link → slice_get rest n ≢ Some true) → lower < suc link → slice_get (false ∷ rest) lower ≢ Some true
lower_down rest link zero none below = down_first rest
lower_down rest link (suc n) none below = none n (omega (arith, below))

all_down : (rest : List Bool) (link : ℕ) → ((n : ℕ) → slice_get rest n ≢ Some true) → slice_get (false ∷ rest) link ≢ Some true
all_down rest zero none = down_first rest
all_down rest (suc n) none = none n

after_one : (rest : List Bool) (target : Option ℕ) → IsTarget rest target → IsTarget (false ∷ rest) (option_map suc target)
after_one rest (Some link) is = (is.0, λ lower below. lower_down rest link lower is.1 below)
after_one rest None is = λ link. all_down rest link is

pub target_is : (up : List Bool) → IsTarget up (target_of up)
target_is [] = λ link e. none-some true e
target_is (true ∷ rest) = (refl, λ lower below. absurd (omega (arith, below)))
target_is (false ∷ rest) = after_one rest (target_of rest) (target_is rest)

-- the first place in the list that is true
first_by : (first : Bool) (n : ℕ) → cond first (Some (suc n)) None ≡ option_map suc (cond first (Some n) None)
first_by true n = refl
first_by false n = refl

both_later : (n m : ℕ) → nat_lt (1 + n) (suc m) ≡ nat_lt n m
both_later n m = grind (arith, nat_tests)

none_before : (m : ℕ) → nat_lt 0 (suc m) ≡ true
none_before m = grind (arith, nat_tests)

one_later : (n m : ℕ) → cond (nat_lt (1 + n) (suc m)) (Some (1 + n)) None ≡ option_map suc (cond (nat_lt n m) (Some n) None)
one_later n m =
    let e : 1 + n ≡ suc n = omega arith in
    ap (λ (b : Bool). cond b (Some (1 + n)) None) (both_later n m)
    ∙ ap (λ (k : ℕ). cond (nat_lt n m) (Some k) None) e
    ∙ first_by (nat_lt n m) n

pub target_at : (up : List Bool) → position (λ is_up. is_up) up ≡ target_of up
target_at [] = refl
target_at (true ∷ rest) = ap (λ (b : Bool). cond b (Some 0) None) (none_before (length rest))
target_at (false ∷ rest) = one_later (position_or_len (λ (is_up : Bool). is_up) rest) (length rest) ∙ ap (option_map suc) (target_at rest)
