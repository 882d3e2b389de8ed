-- `Since`, computed from the front of the list.
use Rattle.std.proofs.Common.{◌≡◌, Bool, true, false, not, ◌||◌, ◌&&◌, ◌⊎◌, inl, inr, ◌↔◌, List, [], ◌∷◌, ◌++◌, refl, sym, ap, ◌∙◌}
use Rattle.std.specs.List.{list_any}
use Rattle.l2_flow.specs.Since.{Since}

-- whether it has begun and not ended, after one more entry
abbrev pub since_next : Bool → Bool → Bool → Bool
since_next begins ends held = begins || (not ends && held)

-- whether it has begun and not ended at the end of the list, where `held` says it of the list's start
abbrev pub since_from : {A : Type 0} → (A → Bool) → (A → Bool) → Bool → List A → Bool
since_from begins ends held [] = held
since_from begins ends held (x ∷ xs) = since_from begins ends (since_next (begins x) (ends x) held) xs

since_next-cases : (begins ends held : Bool) → since_next begins ends held ≡ true → (begins ≡ true) ⊎ ((ends ≡ false) × (held ≡ true))
since_next-cases true ends held e = inl refl
since_next-cases false true held e = inl e
since_next-cases false false held e = inr (refl, e)

since_next-begun : (begins ends held : Bool) → begins ≡ true → since_next begins ends held ≡ true
since_next-begun true ends held e = refl
since_next-begun false ends held e = cc

since_next-held : (begins ends : Bool) → ends ≡ false → since_next begins ends true ≡ true
since_next-held true ends e = refl
since_next-held false true e = sym e
since_next-held false false e = refl

pub or_false : (a b : Bool) → (a || b) ≡ false → (a ≡ false) × (b ≡ false)
or_false true b e = (e, cc)
or_false false b e = (refl, e)

pub Since-from : {A : Type 0} (begins ends : A → Bool) (held : Bool) (xs : List A) → since_from begins ends held xs ≡ true → Since begins ends xs ⊎ ((held ≡ true) × (list_any ends xs ≡ false))
Since-from begins ends held [] e = inr (e, refl)
Since-from begins ends held (x ∷ xs) e =
    elim (Since-from begins ends (since_next (begins x) (ends x) held) xs e) [
      | inl s ↦ inl (record { before = x ∷ s.before; entry = s.entry; after = s.after; split = ap (λ ys. x ∷ ys) s.split; begun = s.begun; lasts = s.lasts })
      | inr rest ↦ elim (since_next-cases (begins x) (ends x) held rest.0) [
        | inl here ↦ inl (record { before = []; entry = x; after = xs; split = refl; begun = here; lasts = rest.1 })
        | inr kept ↦ inr (kept.1, ap (λ b. b || list_any ends xs) kept.0 ∙ rest.1)
      ]
    ]

since_from-held : {A : Type 0} (begins ends : A → Bool) (held : Bool) (xs : List A) → held ≡ true → list_any ends xs ≡ false → since_from begins ends held xs ≡ true
since_from-held begins ends held [] h none = h
since_from-held begins ends held (x ∷ xs) h none =
    let parts = or_false (ends x) (list_any ends xs) none in
    since_from-held begins ends (since_next (begins x) (ends x) held) xs (ap (since_next (begins x) (ends x)) h ∙ since_next-held (begins x) (ends x) parts.0) parts.1

since_from-begun : {A : Type 0} (begins ends : A → Bool) (held : Bool) (before : List A) (entry : A) (after : List A) → begins entry ≡ true → list_any ends after ≡ false → since_from begins ends held (before ++ entry ∷ after) ≡ true
since_from-begun begins ends held [] entry after begun lasts =
    since_from-held begins ends (since_next (begins entry) (ends entry) held) after (since_next-begun (begins entry) (ends entry) held begun) lasts
since_from-begun begins ends held (x ∷ before) entry after begun lasts =
    since_from-begun begins ends (since_next (begins x) (ends x) held) before entry after begun lasts

-- over a whole list, the two say the same
pub Since-decides : {A : Type 0} (begins ends : A → Bool) (xs : List A) → (since_from begins ends false xs ≡ true) ↔ Since begins ends xs
Since-decides begins ends xs = (
  λ e. elim (Since-from begins ends false xs e) [ inl s ↦ s | inr rest ↦ absurd (let f : false ≡ true = rest.0 in cc) ],
  λ s. ap (since_from begins ends false) s.split ∙ since_from-begun begins ends false s.before s.entry s.after s.begun s.lasts,
)

-- what computes it holds exactly where it does
pub Since-told : {A : Type 0} (begins ends : A → Bool) (xs : List A) (held : Bool) → since_from begins ends false xs ≡ held → (held ≡ true) ↔ Since begins ends xs
Since-told begins ends xs held told =
    (λ e. (Since-decides begins ends xs).0 (told ∙ e), λ s. sym told ∙ (Since-decides begins ends xs).1 s)
