-- Zero insertion: the relation by blocks, the function that inserts, and the function that takes out
use Rattle.std.proofs.Common.{◌≡◌, ℕ, zero, suc, ◌+◌, ◌*◌, ◌<◌, ◌≤◌, ◌==◌, Bool, true, false, not, if◌then◌else◌, List, [], ◌∷◌, ◌++◌, length, refl, ap, sym, ◌∙◌, inl, inr, arith, length-append}
use Rattle.std.proofs.lemmas.List.{append-nil, length-replicate}
use Rattle.std.proofs.lemmas.Bool.{false≢true}
use Rattle.std.proofs.lemmas.Bool.Decides.{nat_tests}
use Rattle.std.proofs.Math.Nat.{eq-or-lt_of_le}
use Rattle.l2_bits.specs.Flags.{flag}
use Rattle.l2_bits.specs.Stuffing.{ones, Stuffed, five, few, last, text_after, content_after, is_text}

-- a run and one more
pub ones_more : (k : ℕ) (bits : List Bool) → ones k ++ true ∷ bits ≡ ones (k + 1) ++ bits
ones_more zero bits = refl
ones_more (suc k) bits =
    let more : suc k + 1 ≡ suc (k + 1) = omega arith in
    rw more (ap (λ (rest : List Bool). true ∷ rest) (ones_more k bits))

-- the text of a bit
pub text_after-zero : (run : ℕ) (bits : List Bool) → text_after run (false ∷ bits) ≡ false ∷ text_after 0 bits
unfolding text_after
text_after-zero run bits = refl

pub text_after-one : (run : ℕ) (bits : List Bool) → run < 4
    → text_after run (true ∷ bits) ≡ true ∷ text_after (run + 1) bits
unfolding text_after
text_after-one run bits below =
    let other : (run == 4) ≡ false = grind (arith, nat_tests) in
    rw other refl

pub text_after-fifth : (bits : List Bool) → text_after 4 (true ∷ bits) ≡ true ∷ false ∷ text_after 0 bits
unfolding text_after
text_after-fifth bits = refl

pub text_after-nil : (run : ℕ) → text_after run [] ≡ []
unfolding text_after
text_after-nil run = refl

-- the text of a block
text_few : (k run : ℕ) (bits : List Bool) → run + k ≤ 4
    → text_after run (ones k ++ false ∷ bits) ≡ ones k ++ false ∷ text_after 0 bits
text_few zero run bits within = text_after-zero run bits
text_few (suc k) run bits within =
    text_after-one run (ones k ++ false ∷ bits) (omega arith)
    ∙ ap (λ (rest : List Bool). true ∷ rest) (text_few k (run + 1) bits (omega arith))

text_last : (k run : ℕ) → run + k ≤ 4 → text_after run (ones k) ≡ ones k
text_last zero run within = text_after-nil run
text_last (suc k) run within =
    text_after-one run (ones k) (omega arith)
    ∙ ap (λ (rest : List Bool). true ∷ rest) (text_last k (run + 1) (omega arith))

text_five : (bits : List Bool) → text_after 0 (ones 5 ++ bits) ≡ ones 5 ++ false ∷ text_after 0 bits
unfolding text_after
text_five bits = refl

-- a text is what the function gives
pub text_alone : (content text : List Bool) → Stuffed content text → text ≡ text_after 0 content
text_alone content text (five {rest = rest} {more = more} c t inner) =
    t ∙ ap (λ (bits : List Bool). ones 5 ++ false ∷ bits) (text_alone rest more inner)
    ∙ sym (ap (text_after 0) c ∙ text_five rest)
text_alone content text (few k {rest = rest} {more = more} within c t inner) =
    t ∙ ap (λ (bits : List Bool). ones k ++ false ∷ bits) (text_alone rest more inner)
    ∙ sym (ap (text_after 0) c ∙ text_few k 0 rest (omega arith))
text_alone content text (last k within c t) =
    t ∙ sym (ap (text_after 0) c ∙ text_last k 0 (omega arith))

-- what the function gives is a text
text_stuffed : (run : ℕ) (bits : List Bool) → run ≤ 4 → Stuffed (ones run ++ bits) (ones run ++ text_after run bits)
text_stuffed run [] within = rw text_after-nil (last run within (append-nil (ones run)) (append-nil (ones run)))
text_stuffed run (false ∷ bits) within =
    rw text_after-zero (few run within refl refl (text_stuffed 0 bits (omega arith)))
text_stuffed run (true ∷ bits) within =
    elim (eq-or-lt_of_le within) [
      | inl fifth ↦ rw fifth (rw text_after-fifth (five refl refl (text_stuffed 0 bits (omega arith))))
      | inr below ↦
          let h : run < 4 = below in
          rw (text_after-one run bits h, ones_more run bits, ones_more run (text_after (run + 1) bits))
          (text_stuffed (run + 1) bits (omega arith))
    ]

pub has_text : (content : List Bool) → Stuffed content (text_after 0 content)
has_text content = text_stuffed 0 content (omega arith)

pub one_text : (content a b : List Bool) → Stuffed content a → Stuffed content b → a ≡ b
one_text content a b first second = text_alone content a first ∙ sym (text_alone content b second)

pub content_after-nil : (run : ℕ) → content_after run [] ≡ []
unfolding content_after
content_after-nil run = refl

pub content_after-bit : (run : ℕ) (bit : Bool) (bits : List Bool) → run < 5
    → content_after run (bit ∷ bits) ≡ bit ∷ content_after (if bit then run + 1 else 0) bits
unfolding content_after
content_after-bit run bit bits below =
    let other : (run == 5) ≡ false = grind (arith, nat_tests) in
    rw other refl

pub content_after-inserted : (bit : Bool) (bits : List Bool) → content_after 5 (bit ∷ bits) ≡ content_after 0 bits
unfolding content_after
content_after-inserted bit bits = refl

pub is_text-nil : (run : ℕ) → is_text run [] ≡ not (run == 5)
unfolding is_text
is_text-nil run = refl

pub is_text-zero : (run : ℕ) (bits : List Bool) → is_text run (false ∷ bits) ≡ is_text 0 bits
unfolding is_text
is_text-zero run bits = refl

pub is_text-one : (run : ℕ) (bits : List Bool) → run < 5 → is_text run (true ∷ bits) ≡ is_text (run + 1) bits
unfolding is_text
is_text-one run bits below =
    let other : (run == 5) ≡ false = grind (arith, nat_tests) in
    rw other refl

pub is_text-sixth : (bits : List Bool) → is_text 5 (true ∷ bits) ≡ false
unfolding is_text
is_text-sixth bits = refl

-- taking out of a block
content_few : (k run : ℕ) (bits : List Bool) → run + k ≤ 4
    → content_after run (ones k ++ false ∷ bits) ≡ ones k ++ false ∷ content_after 0 bits
content_few zero run bits within = content_after-bit run false bits (omega arith)
content_few (suc k) run bits within =
    content_after-bit run true (ones k ++ false ∷ bits) (omega arith)
    ∙ ap (λ (rest : List Bool). true ∷ rest) (content_few k (run + 1) bits (omega arith))

content_last : (k run : ℕ) → run + k ≤ 4 → content_after run (ones k) ≡ ones k
content_last zero run within = content_after-nil run
content_last (suc k) run within =
    content_after-bit run true (ones k) (omega arith)
    ∙ ap (λ (rest : List Bool). true ∷ rest) (content_last k (run + 1) (omega arith))

content_five : (bits : List Bool) → content_after 0 (ones 5 ++ false ∷ bits) ≡ ones 5 ++ content_after 0 bits
unfolding content_after
content_five bits = refl

is_text_few : (k run : ℕ) (bits : List Bool) → run + k ≤ 4 → is_text run (ones k ++ false ∷ bits) ≡ is_text 0 bits
is_text_few zero run bits within = is_text-zero run bits
is_text_few (suc k) run bits within =
    is_text-one run (ones k ++ false ∷ bits) (omega arith) ∙ is_text_few k (run + 1) bits (omega arith)

is_text_last : (k run : ℕ) → run + k ≤ 4 → is_text run (ones k) ≡ true
is_text_last zero run within =
    let other : (run == 5) ≡ false = grind (arith, nat_tests) in
    is_text-nil run ∙ rw other refl
is_text_last (suc k) run within =
    is_text-one run (ones k) (omega arith) ∙ is_text_last k (run + 1) (omega arith)

is_text_five : (bits : List Bool) → is_text 0 (ones 5 ++ false ∷ bits) ≡ is_text 0 bits
unfolding is_text
is_text_five bits = refl

-- a text read back gives its content
pub content_alone : (content text : List Bool) → Stuffed content text → content_after 0 text ≡ content
content_alone content text (five {rest = rest} {more = more} c t inner) =
    ap (content_after 0) t ∙ content_five more
    ∙ ap (λ (bits : List Bool). ones 5 ++ bits) (content_alone rest more inner) ∙ sym c
content_alone content text (few k {rest = rest} {more = more} within c t inner) =
    ap (content_after 0) t ∙ content_few k 0 more (omega arith)
    ∙ ap (λ (bits : List Bool). ones k ++ false ∷ bits) (content_alone rest more inner) ∙ sym c
content_alone content text (last k within c t) =
    ap (content_after 0) t ∙ content_last k 0 (omega arith) ∙ sym c

-- every text passes the test
pub is_text_of : (content text : List Bool) → Stuffed content text → is_text 0 text ≡ true
is_text_of content text (five {rest = rest} {more = more} c t inner) =
    ap (is_text 0) t ∙ is_text_five more ∙ is_text_of rest more inner
is_text_of content text (few k {rest = rest} {more = more} within c t inner) =
    ap (is_text 0) t ∙ is_text_few k 0 more (omega arith) ∙ is_text_of rest more inner
is_text_of content text (last k within c t) = ap (is_text 0) t ∙ is_text_last k 0 (omega arith)

-- what passes the test is a text
test_stuffed : (run : ℕ) (bits : List Bool) → run ≤ 5 → is_text run bits ≡ true
    → Stuffed (ones run ++ content_after run bits) (ones run ++ bits)
test_stuffed run [] within passes =
    elim (eq-or-lt_of_le within) [
      | inl fifth ↦ absurd (false≢true (rw (fifth, is_text-nil) at passes))
      | inr below ↦
          let h : run < 5 = below in
          rw content_after-nil (last run (omega arith) (append-nil (ones run)) (append-nil (ones run)))
    ]
test_stuffed run (false ∷ bits) within passes =
    elim (eq-or-lt_of_le within) [
      | inl fifth ↦ rw fifth (rw content_after-inserted (five refl refl (test_stuffed 0 bits (omega arith) passes')))
      | inr below ↦
          let h : run < 5 = below in
          rw (content_after-bit run false bits h) (few run (omega arith) refl refl (test_stuffed 0 bits (omega arith) passes'))
    ]
  where
    passes' : is_text 0 bits ≡ true
    passes' = sym (is_text-zero run bits) ∙ passes
test_stuffed run (true ∷ bits) within passes =
    elim (eq-or-lt_of_le within) [
      | inl fifth ↦ absurd (false≢true (sym (is_text-sixth bits) ∙ rw fifth at passes))
      | inr below ↦
          let h : run < 5 = below in
          rw (content_after-bit run true bits h, ones_more run bits, ones_more run (content_after (run + 1) bits))
          (test_stuffed (run + 1) bits (omega arith) (sym (is_text-one run bits h) ∙ passes))
    ]

pub test_tells : (text : List Bool) → is_text 0 text ≡ true → Stuffed (content_after 0 text) text
test_tells text passes = test_stuffed 0 text (omega arith) passes

pub one_content : (a b text : List Bool) → Stuffed a text → Stuffed b text → a ≡ b
one_content a b text first second = sym (content_alone a text first) ∙ content_alone b text second

-- a flag fails the test
six_ones_fail : (run : ℕ) (bits : List Bool) → is_text run (flag ++ bits) ≡ false
unfolding is_text flag
six_ones_fail run bits = refl

else_passes : (fails rest : Bool) → (if fails then false else rest) ≡ true → rest ≡ true
else_passes true rest passes = absurd (false≢true passes)
else_passes false rest passes = passes

pub test_goes_on : (run : ℕ) (bits : List Bool) → is_text run (true ∷ bits) ≡ true → is_text (run + 1) bits ≡ true
unfolding is_text
test_goes_on run bits passes = else_passes (run == 5) (is_text (run + 1) bits) passes

flag_fails : (run : ℕ) (before after : List Bool) → is_text run (before ++ flag ++ after) ≡ true → ⊥
flag_fails run [] after passes = false≢true (sym (six_ones_fail run after) ∙ passes)
flag_fails run (false ∷ before) after passes = flag_fails 0 before after (sym (is_text-zero run _) ∙ passes)
flag_fails run (true ∷ before) after passes = flag_fails (run + 1) before after (test_goes_on run _ passes)

pub no_flag : (content text before after : List Bool) → Stuffed content text → text ≡ before ++ flag ++ after → ⊥
no_flag content text before after stuffed stands =
    flag_fails 0 before after (ap (is_text 0) (sym stands) ∙ is_text_of content text stuffed)

-- the length of a text
pub text_length : (content text : List Bool) → Stuffed content text → 5 * length text ≤ 6 * length content
text_length content text (five {rest = rest} {more = more} c t inner) =
    omega (arith, ap length c, ap length t, text_length rest more inner)
text_length content text (few k {rest = rest} {more = more} within c t inner) =
    let here : length content ≡ k + suc (length rest) = ap length c ∙ length-append (ones k) (false ∷ rest) ∙ ap (λ (n : ℕ). n + suc (length rest)) (length-replicate k true) in
    let there : length text ≡ k + suc (length more) = ap length t ∙ length-append (ones k) (false ∷ more) ∙ ap (λ (n : ℕ). n + suc (length more)) (length-replicate k true) in
    omega (arith, text_length rest more inner)
text_length content text (last k within c t) =
    let here : length content ≡ k = ap length c ∙ length-replicate k true in
    let there : length text ≡ k = ap length t ∙ length-replicate k true in
    omega arith

pub text_longer : (content text : List Bool) → Stuffed content text → length content ≤ length text
text_longer content text (five {rest = rest} {more = more} c t inner) =
    omega (arith, ap length c, ap length t, text_longer rest more inner)
text_longer content text (few k {rest = rest} {more = more} within c t inner) =
    omega (arith, ap length c, ap length t, length-append (ones k) (false ∷ rest), length-append (ones k) (false ∷ more), text_longer rest more inner)
text_longer content text (last k within c t) = omega (arith, ap length c, ap length t)
