-- Lists of codes, by their places.
use Rattle.std.proofs.Common.{refl, arith, ◌≡◌, ◌∙◌, ap, sym, ◌<◌, ◌+◌, ℕ, zero, suc, ◌==◌, Bool, true, false, cond, nat_lt, List, [], ◌∷◌, ◌++◌, take, drop, length, get_or, set, replicate, None}
use Rattle.std.proofs.lemmas.Bool.Decides.{nat_tests}
use Rattle.std.proofs.lemmas.List.{get_or-replicate, get_or_past, length-replicate}
use Rattle.set_route.specs.declared.place.Code.{Code}
use Rattle.set_route.specs.declared.place.Code.TheVariants.{Free, Asked, Spent}
use Rattle.set_route.specs.Routing.{code_left, codes_left, is_free, via_of}

pub by_test : (P : Type 0) (b : Bool) → (b ≡ true → P) → (b ≡ false → P) → P
by_test P true is not_so = is refl
by_test P false is not_so = not_so refl

-- A link is left.
pub codes_at : (link number n at : ℕ) (codes : List Code) → number + n ≡ at → get_or (codes_left link number codes) n Free ≡ code_left link at (get_or codes n Free)
codes_at link number n at [] same = refl
codes_at link number zero at (c ∷ cs) same = let e : number ≡ at = omega (arith, same) in ap (λ k. code_left link k c) e
codes_at link number (suc n) at (c ∷ cs) same = codes_at link (suc number) n at cs (omega (arith, same))

pub length-codes_left : (link number : ℕ) (codes : List Code) → length (codes_left link number codes) ≡ length codes
length-codes_left link number [] = refl
length-codes_left link number (c ∷ cs) = ap suc (length-codes_left link (suc number) cs)

pub free_left : (link number : ℕ) (code : Code) → code ≡ Free → code_left link number code ≡ Free
free_left link number code free = ap (code_left link number) free

-- a loop that changes one code after another
codes_next : (link number at : ℕ) (xs : List Code) (i : ℕ) (d : Code) → i < length xs → number + i ≡ at
    → set (codes_left link number (take i xs) ++ drop i xs) i (code_left link at (get_or (codes_left link number (take i xs) ++ drop i xs) i d))
    ≡ codes_left link number (take (suc i) xs) ++ drop (suc i) xs
codes_next link number at [] i d below same = absurd (omega (arith, below))
codes_next link number at (x ∷ xs) zero d below same = let e : at ≡ number = omega (arith, same) in ap (λ k. code_left link k x ∷ xs) e
codes_next link number at (x ∷ xs) (suc i) d below same =
    ap (λ cs. code_left link number x ∷ cs) (codes_next link (suc number) at xs i d (omega (arith, below)) (omega (arith, same)))

pub codes_more : (link : ℕ) (xs ys : List Code) (i : ℕ) (d new : Code) → i < length xs
    → ys ≡ codes_left link 0 (take i xs) ++ drop i xs → new ≡ code_left link i (get_or ys i d)
    → set ys i new ≡ codes_left link 0 (take (i + 1) xs) ++ drop (i + 1) xs
codes_more link xs ys i d new below so_far is =
    let e : suc i ≡ i + 1 = omega arith in
    ap (set ys i) is
    ∙ ap (λ cs. set cs i (code_left link i (get_or cs i d))) so_far
    ∙ codes_next link 0 i xs i d below (omega arith)
    ∙ ap (λ k. codes_left link 0 (take k xs) ++ drop k xs) e

-- One code is set.
first_is_not : (n : ℕ) (x y : Code) → y ≡ cond (suc n == 0) x y
first_is_not n x y = grind (arith, nat_tests)

not_first : (m : ℕ) (x y : Code) → y ≡ cond (0 == suc m) x y
not_first m x y = grind (arith, nat_tests)

one_lower : (m n : ℕ) (x y : Code) → cond (n == m) x y ≡ cond (suc n == suc m) x y
one_lower m n x y = grind (arith, nat_tests)

pub set_at : (codes : List Code) (n place : ℕ) (new : Code) → place < length codes → get_or (set codes place new) n Free ≡ cond (n == place) new (get_or codes n Free)
set_at [] n place new below = absurd (omega (arith, below))
set_at (c ∷ cs) zero zero new below = refl
set_at (c ∷ cs) (suc n) zero new below = first_is_not n new (get_or cs n Free)
set_at (c ∷ cs) zero (suc m) new below = not_first m new c
set_at (c ∷ cs) (suc n) (suc m) new below = set_at cs n m new (omega (arith, below)) ∙ one_lower m n new (get_or cs n Free)

-- one is changed by what it was; past the last code all are free, and stay so
pub changed_at : (f : Code → Code) → f Free ≡ Free → (codes : List Code) (n place : ℕ) → get_or (set codes place (f (get_or codes place Free))) n Free ≡ cond (n == place) (f (get_or codes n Free)) (get_or codes n Free)
changed_at f free [] n place = go (n == place)
  where
    go : (b : Bool) → Free ≡ cond b (f Free) Free
    go true = sym free
    go false = refl
changed_at f free (c ∷ cs) zero zero = refl
changed_at f free (c ∷ cs) (suc n) zero = first_is_not n (f (get_or cs n Free)) (get_or cs n Free)
changed_at f free (c ∷ cs) zero (suc m) = not_first m (f c) c
changed_at f free (c ∷ cs) (suc n) (suc m) = changed_at f free cs n m ∙ one_lower m n (f (get_or cs n Free)) (get_or cs n Free)

-- a free code has no link from which streams come
pub no_via : (code : Code) → is_free code ≡ true → via_of code ≡ None
no_via Free e = refl
no_via (Asked via declaration owed) e = absurd cc
no_via (Spent owed) e = absurd cc

pub free_freed : (b : Bool) (was : Code) → was ≡ Free → cond b Free was ≡ Free
free_freed true was is = refl
free_freed false was is = is

-- past the last code all are free
pub freed_at : (codes : List Code) (n place : ℕ) → get_or (set codes place Free) n Free ≡ cond (n == place) Free (get_or codes n Free)
freed_at [] n place = sym (free_freed (n == place) Free refl)
freed_at (c ∷ cs) zero zero = refl
freed_at (c ∷ cs) (suc n) zero = first_is_not n Free (get_or cs n Free)
freed_at (c ∷ cs) zero (suc m) = not_first m Free c
freed_at (c ∷ cs) (suc n) (suc m) = freed_at cs n m ∙ one_lower m n Free (get_or cs n Free)

pub all_free : (many n : ℕ) → get_or (replicate many Free) n Free ≡ Free
all_free many n =
    by_test (get_or (replicate many Free) n Free ≡ Free) (nat_lt n many)
    (λ is. get_or-replicate many n Free Free (grind (arith, nat_tests, is)))
    (λ no. get_or_past (replicate many Free) n Free (grind (arith, nat_tests, no, length-replicate many Free)))
