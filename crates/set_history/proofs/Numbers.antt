-- A number and a body are read back, and so is what stands behind them: by cases on the number's size, from
-- `from_le_bytes` of `to_le_bytes`.
use Rattle.std.proofs.Common.{arith, refl, ap, ◌≡◌, ◌∙◌, ◌<◌, ◌≤◌, ◌^◌, ℕ, Bool, true, false, List, [], ◌∷◌, ◌++◌, length, take, drop, nat_le, nat_lt, ◌==◌}
use Rattle.std.specs.Prelude.{if◌then◌else◌, min}
use Rattle.std.specs.Int.{w16, w32, w64, to_le_bytes, from_le_bytes}
use Rattle.std.proofs.lemmas.List.{take_at, drop_at, length-append, append_assoc}
use Rattle.std.proofs.lemmas.Nat.{from_le_bytes-to_le_bytes_2, from_le_bytes-to_le_bytes_4, from_le_bytes-to_le_bytes_8}
use Rattle.std.proofs.lemmas.Bool.Decides.{nat_tests}
use Rattle.set_history.specs.Told.{chunk, number, behind_number, body, behind_body}
use Rattle.set_history.specs.Written.{number_text, large_text, body_text}

pub chunk_back : (octets rest : List ℕ) (size : ℕ) → length octets ≡ size → chunk size (octets ++ rest) ≡ octets
chunk_back octets rest size e =
    let fits : size ≤ length (octets ++ rest) = rw (length-append octets rest) (omega (arith, e)) in
    let is : nat_le size (length (octets ++ rest)) ≡ true = grind (arith, nat_tests, fits) in
    rw is (take_at octets rest size e)

pub record IsReadBack (n : ℕ) (text : List ℕ) : Type 0 where
  pub value : (rest : List ℕ) → number (text ++ rest) ≡ n
  pub behind : (rest : List ℕ) → behind_number (text ++ rest) ≡ rest

one_octet : (n : ℕ) → n < 253 → IsReadBack n (n ∷ [])
one_octet n few =
    let a : (n == 253) ≡ false = grind (arith, nat_tests, few) in
    let b : (n == 254) ≡ false = grind (arith, nat_tests, few) in
    let c : (n == 255) ≡ false = grind (arith, nat_tests, few) in
    record { value = λ rest. rw (a, b, c) refl; behind = λ rest. rw (a, b, c) refl }

two_octets : (n : ℕ) → n < 2 ^ 16 → IsReadBack n (253 ∷ to_le_bytes w16 n)
two_octets n few = record {
  value = λ rest. ap (from_le_bytes w16) (chunk_back (to_le_bytes w16 n) rest 2 refl) ∙ from_le_bytes-to_le_bytes_2 n few;
  behind = λ rest. drop_at (to_le_bytes w16 n) rest 2 refl;
}

four_octets : (n : ℕ) → n < 2 ^ 32 → IsReadBack n (254 ∷ to_le_bytes w32 n)
four_octets n few = record {
  value = λ rest. ap (from_le_bytes w32) (chunk_back (to_le_bytes w32 n) rest 4 refl) ∙ from_le_bytes-to_le_bytes_4 n few;
  behind = λ rest. drop_at (to_le_bytes w32 n) rest 4 refl;
}

eight_octets : (n : ℕ) → n < 2 ^ 64 → IsReadBack n (255 ∷ to_le_bytes w64 n)
eight_octets n few = record {
  value = λ rest. ap (from_le_bytes w64) (chunk_back (to_le_bytes w64 n) rest 8 refl) ∙ from_le_bytes-to_le_bytes_8 n few;
  behind = λ rest. drop_at (to_le_bytes w64 n) rest 8 refl;
}

large_back : (n : ℕ) (b c : Bool) → nat_lt n 0x10000 ≡ b → nat_lt n 0x100000000 ≡ c → n < 2 ^ 64 → IsReadBack n (if b then 253 ∷ to_le_bytes w16 n else if c then 254 ∷ to_le_bytes w32 n else 255 ∷ to_le_bytes w64 n)
large_back n true c e f h = two_octets n (grind (arith, nat_tests, e))
large_back n false true e f h = four_octets n (grind (arith, nat_tests, f))
large_back n false false e f h = eight_octets n h

any_back : (n : ℕ) (a : Bool) → nat_lt n 253 ≡ a → n < 2 ^ 64 → IsReadBack n (if a then n ∷ [] else large_text n)
any_back n true e h = one_octet n (grind (arith, nat_tests, e))
any_back n false e h = large_back n (nat_lt n 0x10000) (nat_lt n 0x100000000) refl refl h

pub number_back : (n : ℕ) → n < 2 ^ 64 → IsReadBack n (number_text n)
number_back n h = any_back n (nat_lt n 253) refl h

module _ (most : ℕ) (octets rest : List ℕ) (fits : length octets < 2 ^ 64) (few : length octets ≤ most) where
  size : number (body_text octets ++ rest) ≡ length octets
  size = ap number (append_assoc (number_text (length octets)) octets rest) ∙ (number_back (length octets) fits).value (octets ++ rest)

  behind_size : behind_number (body_text octets ++ rest) ≡ octets ++ rest
  behind_size = ap behind_number (append_assoc (number_text (length octets)) octets rest) ∙ (number_back (length octets) fits).behind (octets ++ rest)

  least : min (number (body_text octets ++ rest)) most ≡ length octets
  least = ap (λ (n : ℕ). min n most) size ∙ omega (arith, few)

  pub body_back : body most (body_text octets ++ rest) ≡ octets
  body_back =
      ap (λ (n : ℕ). take n (behind_number (body_text octets ++ rest))) least
      ∙ ap (λ (xs : List ℕ). take (length octets) xs) behind_size
      ∙ take_at octets rest (length octets) refl

  pub behind_body_back : behind_body most (body_text octets ++ rest) ≡ rest
  behind_body_back =
      ap (λ (n : ℕ). drop n (behind_number (body_text octets ++ rest))) least
      ∙ ap (λ (xs : List ℕ). drop (length octets) xs) behind_size
      ∙ drop_at octets rest (length octets) refl
