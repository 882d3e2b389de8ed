-- What is taken from a list that runs out, one after another.
use Rattle.std.proofs.Common.{refl, arith, ◌≡◌, ◌∙◌, ap, sym, ℕ, zero, suc, List, [], ◌∷◌, ◌++◌, map, length, drop, Option, None, Some, MatchOption}
use Rattle.std.specs.Option.{option_to_list, unwrap_or}
use Rattle.bank_crew.specs.Jobs.{first_or}

pub drop_one : {X : Type 0} (n : ℕ) (xs : List X) → drop n (drop 1 xs) ≡ drop (suc n) xs
drop_one zero [] = refl
drop_one (suc n) [] = refl
drop_one n (x ∷ xs) = refl

pub one_dropped : {X : Type 0} (n : ℕ) (xs : List X) → drop 1 (drop n xs) ≡ drop (suc n) xs
one_dropped zero xs = refl
one_dropped (suc n) [] = refl
one_dropped (suc n) (x ∷ xs) = one_dropped n xs

-- the first one, or what stands for it where there is none; and the rest
pub taken : {X Y : Type 0} (f : X → Y) (none : Y) (old : List X) (r : Option X) (new : List X) (d x : X) → old ≡ option_to_list r ++ new → (r ≡ None → length old ≡ 0) → x ≡ unwrap_or r d → f d ≡ none
    → (first_or none (map f old) ≡ f x) × (drop 1 (map f old) ≡ map f new)
taken f none old (Some y) new d x from over is none_is =
    (ap (λ xs. first_or none (map f xs)) from ∙ ap f (sym is), ap (λ xs. drop 1 (map f xs)) from)
taken f none [] None new d x from over is none_is = (sym none_is ∙ ap f (sym is), ap (map f) from)
taken f none (y ∷ old) None new d x from over is none_is = let e = over refl in absurd (omega (arith, e))

-- where none is left the list is empty
pub ran_out : {X : Type 0} (B : Type 0) (Q : X → Type 0) (r : Option X) (len n : ℕ) → MatchOption r ((len ≡ 0) × B) Q → len ≡ n → r ≡ None → n ≡ 0
ran_out B Q None len n cases same none = sym same ∙ cases.0
ran_out B Q (Some x) len n cases same none = absurd (cc none)
