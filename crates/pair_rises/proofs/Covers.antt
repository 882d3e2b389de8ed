-- HOW AN END STANDS to each link, where it's told anew of one of them: what is said of this one, and of each other, is said
-- of all (`told_each`).
use Rattle.std.proofs.Common.{refl, ◌≡◌, ◌∙◌, ap, sym, subst, ℕ, ◌==◌, Bool, true, false, cond}
use Rattle.std.proofs.lemmas.Bool.{eqb-true}
use Rattle.set_model.specs.State.{State, is_settled}
use Rattle.set_model.proofs.Places.{itself, apart_back}
use Rattle.pair_rises.specs.Rises.{Cover, inside, is_covered, told_at}
use Rattle.pair_rises.proofs.Veils.{Fits}

-- the link itself, or another
pub each : (k : ℕ) (P : ℕ → Type 0) → P k → ((l : ℕ) → (k == l) ≡ false → P l) → (l : ℕ) → P l
each k P own other l = go (k == l) refl
  where
    go : (c : Bool) → (k == l) ≡ c → P l
    go true e = subst P (eqb-true k l e) own
    go false e = other l e

pub told_here : (k : ℕ) (is : Cover) (told : ℕ → Cover) → told_at k is told k ≡ is
told_here k is told = rw (itself k) refl

pub told_other : (k : ℕ) (is : Cover) (told : ℕ → Cover) (l : ℕ) → (l == k) ≡ false → told_at k is told l ≡ told l
told_other k is told l d = rw d refl

pub told_each : (k : ℕ) (is : Cover) (told : ℕ → Cover) (Q : ℕ → Cover → Type 0) → Q k is → ((l : ℕ) → (k == l) ≡ false → Q l (told l)) → (l : ℕ)
    → Q l (told_at k is told l)
told_each k is told Q own others l = go (l == k) refl
  where
    go : (b : Bool) → (l == k) ≡ b → Q l (cond b is (told l))
    go true e = subst (λ (n : ℕ). Q n is) (sym (eqb-true l k e)) own
    go false e = others l (apart_back l k e)

pub ft : {X : Type 0} → false ≡ true → X
ft e = absurd cc

-- a covered link but this one
pub off_other : (k : ℕ) (told : ℕ → Cover) (l : ℕ) → told k ≡ inside → is_covered (told l) ≡ true → (k == l) ≡ false
off_other k told l off on = go (k == l) refl
  where
    go : (b : Bool) → (k == l) ≡ b → (k == l) ≡ false
    go false e = e
    go true e = ft (ap is_covered (sym off ∙ ap told (eqb-true k l e)) ∙ on)

pub off_same : (k : ℕ) (told : ℕ → Cover) → told k ≡ inside → (l : ℕ) → told_at k inside told l ≡ told l
off_same k told off = told_each k inside told (λ l c. c ≡ told l) (sym off) (λ l d. refl)

-- the covered links are settled
pub told_fits : (k : ℕ) (is : Cover) (told : ℕ → Cover) (s : State) → (is_covered is ≡ true → is_settled k s ≡ true) → Fits told s → Fits (told_at k is told) s
told_fits k is told s settled fits = told_each k is told (λ l c. is_covered c ≡ true → is_settled l s ≡ true) settled (λ l d. fits l)

pub off_fits : (k : ℕ) (told : ℕ → Cover) (s : State) → Fits told s → Fits (told_at k inside told) s
off_fits k told s fits = told_fits k inside told s (λ e. ft e) fits
