-- One line more, at each end.
use Rattle.std.proofs.Common.{arith, ◌≡◌, ◌∙◌, ap, sym, subst, ℕ, suc, ◌+◌, List, [], ◌∷◌, ◌++◌, map}
use Rattle.std.specs.List.{AllZip}
use Rattle.std.proofs.lemmas.List.{map-append}
use Rattle.std.proofs.lemmas.List.Elements.{AllZip-push}
use Rattle.bank_traffic.specs.Opening.{each_set, numbers_below}

-- put where there was room before
pub pushed : {X : Type 0} (xs xs' xs'' : List X) (x : X) → xs'' ≡ xs' ++ x ∷ [] → xs' ≡ xs → xs'' ≡ xs ++ x ∷ []
pushed xs xs' xs'' x more same = more ∙ ap (λ ys. ys ++ x ∷ []) same

-- each is that of its number
pub maps_more : {X Y : Type 0} (f : X → Y) (g : ℕ → Y) (xs xs' : List X) (x : X) (n n' : ℕ) → n' ≡ n + 1 → xs' ≡ xs ++ x ∷ [] → map f xs ≡ map g (numbers_below n) → f x ≡ g n → map f xs' ≡ map g (numbers_below n')
maps_more f g xs xs' x n n' next more was is =
    let number : suc n ≡ n' = omega (arith, next) in
    ap (map f) more ∙ map-append f xs (x ∷ []) ∙ ap (λ ys. ys ++ f x ∷ []) was ∙ ap (λ y. map g (numbers_below n) ++ y ∷ []) is
    ∙ sym (map-append g (numbers_below n) (n ∷ [])) ∙ ap (λ (k : ℕ). map g (numbers_below k)) number

-- each is the same
pub maps_same : {X Y : Type 0} (f : X → Y) (y : Y) (xs xs' : List X) (x : X) (n n' : ℕ) → n' ≡ n + 1 → xs' ≡ xs ++ x ∷ [] → map f xs ≡ each_set n y → f x ≡ y → map f xs' ≡ each_set n' y
maps_same f y xs xs' x n n' next more was is =
    let number : suc n ≡ n' = omega (arith, next) in
    ap (map f) more ∙ map-append f xs (x ∷ []) ∙ ap (λ ys. ys ++ f x ∷ []) was ∙ ap (λ z. each_set n y ++ z ∷ []) is ∙ ap (λ (k : ℕ). each_set k y) number

-- two of one place are related
pub joins_more : {X : Type 0} (R : X → X → Type 0) (xs xs' ys ys' : List X) (x y : X) → xs' ≡ xs ++ x ∷ [] → ys' ≡ ys ++ y ∷ [] → AllZip R xs ys → R x y → AllZip R xs' ys'
joins_more R xs xs' ys ys' x y more more' all related =
    subst (λ zs. AllZip R zs ys') (sym more) (subst (λ zs. AllZip R (xs ++ x ∷ []) zs) (sym more') (AllZip-push R xs ys x y all related))
