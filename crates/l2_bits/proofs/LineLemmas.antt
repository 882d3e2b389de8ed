-- The last bits of a line, and one bit more
use Rattle.std.proofs.Common.{◌≡◌, ℕ, ◌+◌, ◌-◌, ◌<◌, ◌≤◌, ◌⊎◌, inl, inr, Bool, List, [], ◌∷◌, ◌++◌, length, take, drop, refl, ap, sym, ◌∙◌, arith, append_assoc, length-append}
use Rattle.std.proofs.lemmas.List.{nil_from_length, take-append-drop}
use Rattle.std.proofs.lemmas.List.Prefix.{end_rest}
use Rattle.std.proofs.Math.Seq.{drop-append-add}
use Rattle.l2_bits.specs.Flags.{EndsIn}

-- two lists of which one is nothing
nothing : (a b : List Bool) → a ++ b ≡ [] → (a ≡ []) × (b ≡ [])
nothing a b none =
    (nil_from_length a (omega (arith, ap length none, length-append a b)), nil_from_length b (omega (arith, ap length none, length-append a b)))

-- one bit more, taken apart: the second part is nothing, or it has that bit at its end
pub push_split : (s a b : List Bool) (bit : Bool) → s ++ bit ∷ [] ≡ a ++ b
    → ((b ≡ []) × (a ≡ s ++ bit ∷ [])) ⊎ ((c : List Bool) × (b ≡ c ++ bit ∷ []) × (s ≡ a ++ c))
push_split s [] b bit same = inr (s, sym same, refl)
push_split [] (x ∷ a) b bit same =
    let rest : [] ≡ a ++ b = cc in
    let none = nothing a b (sym rest) in
    let here : bit ≡ x = cc in
    inl (none.1, rw (none.0, here) refl)
push_split (y ∷ s) (x ∷ a) b bit same =
    let rest : s ++ bit ∷ [] ≡ a ++ b = cc in
    let here : y ≡ x = cc in
    elim (push_split s a b bit rest) [
      | inl none ↦ inl (none.0, rw here (ap (λ (bits : List Bool). x ∷ bits) none.1))
      | inr some ↦ inr (some.0, some.1, rw here (ap (λ (bits : List Bool). x ∷ bits) some.2))
    ]

-- a bit of a list and one more: it is the last, or one of the others
pub push_cases : (s a b : List Bool) (x bit : Bool) → s ++ bit ∷ [] ≡ a ++ x ∷ b
    → ((a ≡ s) × (x ≡ bit)) ⊎ ((c : List Bool) × (s ≡ a ++ x ∷ c))
push_cases [] [] b x bit same = inl (refl, cc)
push_cases [] (y ∷ a) b x bit same =
    absurd (omega (arith, ap length same, length-append a (x ∷ b)))
push_cases (y ∷ s) [] b x bit same = inr (s, (let here : y ≡ x = cc in rw here refl))
push_cases (y ∷ s) (z ∷ a) b x bit same =
    let rest : s ++ bit ∷ [] ≡ a ++ x ∷ b = cc in
    let here : y ≡ z = cc in
    elim (push_cases s a b x bit rest) [
      | inl last ↦ inl (rw (here, last.0) refl, last.1)
      | inr earlier ↦ inr (earlier.0, rw here (ap (λ (bits : List Bool). z ∷ bits) earlier.1))
    ]

-- what stands at the end of a line
pub ends_same : (line a b : List Bool) → EndsIn line a → EndsIn line b → length a ≡ length b → a ≡ b
ends_same line a b first second same =
    sym (end_rest line a first.front first.split)
    ∙ ap (λ (n : ℕ). drop (length line - n) line) same
    ∙ end_rest line b second.front second.split

pub ends_rest : (line a b : List Bool) → EndsIn line (a ++ b) → EndsIn line b
ends_rest line a b ends = record {
  front = ends.front ++ a;
  split = ends.split ∙ sym (append_assoc ends.front a b);
}

pub ends_more : (line tail : List Bool) (x bit : Bool) → EndsIn line (x ∷ tail) → EndsIn (line ++ bit ∷ []) (tail ++ bit ∷ [])
ends_more line tail x bit ends = record {
  front = ends.front ++ x ∷ [];
  split =
      ap (λ (bits : List Bool). bits ++ bit ∷ []) ends.split
      ∙ append_assoc ends.front (x ∷ tail) (bit ∷ [])
      ∙ sym (append_assoc ends.front (x ∷ []) (tail ++ bit ∷ []));
}

pub ends_within : (xs ys tail : List Bool) → EndsIn (xs ++ ys) tail → length tail ≤ length ys
    → ys ≡ take (length ys - length tail) ys ++ tail
ends_within xs ys tail ends fits =
    let far : length (xs ++ ys) - length tail ≡ length xs + (length ys - length tail) = omega (arith, length-append xs ys) in
    let rest : drop (length ys - length tail) ys ≡ tail =
    sym (drop-append-add xs ys (length ys - length tail))
    ∙ ap (λ (n : ℕ). drop n (xs ++ ys)) (sym far)
    ∙ end_rest (xs ++ ys) tail ends.front ends.split in
    sym (take-append-drop (length ys - length tail) ys)
    ∙ ap (λ (bits : List Bool). take (length ys - length tail) ys ++ bits) rest

-- the last bit of a list
pub last_of : (bits : List Bool) → 0 < length bits → (front : List Bool) × (x : Bool) × (bits ≡ front ++ x ∷ [])
last_of [] some = absurd (omega arith)
last_of (x ∷ []) some = ([], x, refl)
last_of (x ∷ y ∷ bits) some =
    let rest = last_of (y ∷ bits) (omega arith) in
    (x ∷ rest.0, rest.1, ap (λ (all : List Bool). x ∷ all) rest.2)

-- one list cut in two ways
pub cut_apart : (p q r s : List Bool) → p ++ q ≡ r ++ s → length s < length q
    → (m : List Bool) × (x : Bool) × (q ≡ m ++ x ∷ s) × (r ≡ p ++ m ++ x ∷ [])
cut_apart [] q r s same longer =
    let last = last_of r (omega (arith, ap length same, length-append r s)) in (
      last.0,
      last.1,
      same ∙ ap (λ (bits : List Bool). bits ++ s) last.2 ∙ append_assoc last.0 (last.1 ∷ []) s,
      last.2,
    )
cut_apart (y ∷ p) q [] s same longer =
    absurd (omega (arith, ap length same, length-append p q))
cut_apart (y ∷ p) q (z ∷ r) s same longer =
    let rest : p ++ q ≡ r ++ s = cc in
    let here : y ≡ z = cc in
    let cut = cut_apart p q r s rest longer in
    (cut.0, cut.1, cut.2, rw here (ap (λ (bits : List Bool). z ∷ bits) cut.3))
