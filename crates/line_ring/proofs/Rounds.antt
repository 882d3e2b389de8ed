-- Octets in 4,096 places, after one joins them at the end and after the oldest leaves.
use Rattle.std.proofs.Common.{◌≡◌, ℕ, ◌+◌, ◌-◌, ◌%◌, ◌<◌, ◌≤◌, inl, inr, List, [], ◌∷◌, ◌++◌, length, get_or, drop, set, refl, sym, ap, ap₂, ◌∙◌, arith, length-append, length-drop, length-set, length-take-le, get_or-drop, get_or-take}
use Rattle.std.proofs.lemmas.List.{same_lists, get_or_append_left, get_or-append_right, get_or-set_same, get_or-set_other, length_push, get_or_push, drop_more}
use Rattle.std.proofs.lemmas.Bool.{cases_lt}
use Rattle.std.proofs.lemmas.Grind.{get_or_after_one}
use Rattle.line_ring.specs.Places.{octets_from}

-- an index of the doubled list is one of the list, once round at most
get_or-doubled : (xs : List ℕ) (j d : ℕ) → length xs ≡ 4096 → j < 8192 → get_or (xs ++ xs) j d ≡ get_or xs (j % 4096) d
get_or-doubled xs j d size below = elim (cases_lt j 4096) [
  | inl low ↦ get_or_append_left xs xs d j (omega (arith, size)) ∙ ap (λ k. get_or xs k d) (omega arith)
  | inr high ↦ get_or-append_right xs xs 4096 j d size high ∙ ap (λ k. get_or xs k d) (omega arith)
]

pub octets_from-none : (first : ℕ) (xs : List ℕ) → octets_from first 0 xs ≡ []
unfolding octets_from
octets_from-none first xs = refl

module _ (first count : ℕ) (xs : List ℕ) (starts : first < 4096) (fits : count ≤ 4096) (size : length xs ≡ 4096) where
  pub length-octets_from : length (octets_from first count xs) ≡ count
  unfolding octets_from
  length-octets_from =
      length-take-le count (drop first (xs ++ xs)) (omega (arith, length-drop first (xs ++ xs), length-append xs xs, size))

  -- the octet behind i others
  pub get_or-octets_from : (i d : ℕ) → i < count
      → get_or (octets_from first count xs) i d ≡ get_or xs ((first + i) % 4096) d
  unfolding octets_from
  get_or-octets_from i d within =
      get_or-take count (drop first (xs ++ xs)) i d within ∙ get_or-drop first (xs ++ xs) i d
      ∙ get_or-doubled xs (first + i) d size (omega arith)

module _ (first count : ℕ) (xs : List ℕ) (starts : first < 4096) (size : length xs ≡ 4096) where
  -- what is written behind the last octet comes last
  pub octets_from-push : (x : ℕ) → count < 4096
      → octets_from first (count + 1) (set xs ((first + count) % 4096) x) ≡ octets_from first count xs ++ x ∷ []
  octets_from-push x room =
      let place : ℕ = (first + count) % 4096 in
      let written : List ℕ = set xs place x in
      let kept : length written ≡ 4096 = length-set xs place x ∙ size in
      let before : length (octets_from first count xs) ≡ count = length-octets_from first count xs starts (omega arith) size in
      let after : length (octets_from first (count + 1) written) ≡ count + 1 = length-octets_from first (count + 1) written starts (omega arith) kept in
      same_lists _ _ (omega (arith, before, after, length_push (octets_from first count xs) x)) (λ i d within.
      let read = get_or-octets_from first (count + 1) written starts (omega arith) kept i d (omega (arith, after)) in
      elim (cases_lt i count) [
        | inl old ↦
            read ∙ get_or-set_other xs place ((first + i) % 4096) x d (λ same. omega (arith, same))
            ∙ sym (get_or-octets_from first count xs starts (omega arith) size i d old)
            ∙ sym (get_or_append_left (octets_from first count xs) (x ∷ []) d i (omega (arith, before)))
        | inr new ↦
            let last : i ≡ count = omega (arith, after) in
            read ∙ ap (λ k. get_or written ((first + k) % 4096) d) last
            ∙ get_or-set_same xs place x d (omega (arith, size))
            ∙ sym (get_or_push (octets_from first count xs) x d i (before ∙ sym last))
      ])

  -- the oldest octet, and the others behind it
  pub octets_from-pop : 0 < count → count ≤ 4096
      → octets_from first count xs ≡ get_or xs first 0 ∷ octets_from ((first + 1) % 4096) (count - 1) xs
  octets_from-pop some fits =
      let old : length (octets_from first count xs) ≡ count = length-octets_from first count xs starts fits size in
      let next : (first + 1) % 4096 < 4096 = omega arith in
      let new : length (octets_from ((first + 1) % 4096) (count - 1) xs) ≡ count - 1 = length-octets_from ((first + 1) % 4096) (count - 1) xs next (omega arith) size in
      drop_more (octets_from first count xs) 0 0 (omega (arith, old)) ∙ ap₂ ◌∷◌
      (get_or-octets_from first count xs starts fits size 0 0 some ∙ ap (λ k. get_or xs k 0) (omega arith))
      (same_lists (drop 1 (octets_from first count xs)) (octets_from ((first + 1) % 4096) (count - 1) xs) (omega (arith, length-drop 1 (octets_from first count xs), old, new)) (λ i d within.
      let inside : i < count - 1 = omega (arith, length-drop 1 (octets_from first count xs), old) in
      get_or_after_one (octets_from first count xs) i d
      ∙ get_or-octets_from first count xs starts fits size (1 + i) d (omega arith)
      ∙ ap (λ k. get_or xs k d) (omega arith)
      ∙ sym (get_or-octets_from ((first + 1) % 4096) (count - 1) xs next (omega arith) size i d inside)))
