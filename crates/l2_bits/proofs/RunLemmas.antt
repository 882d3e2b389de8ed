-- The run of ones at the end of a line: at most five within a text and up to the last bits of its flag
use Rattle.std.proofs.Common.{◌≡◌, ℕ, zero, suc, ◌+◌, ◌-◌, ◌*◌, ◌/◌, ◌%◌, ◌^◌, ◌<◌, ◌≤◌, ◌==◌, if◌then◌else◌, inl, inr, Bool, true, false, List, [], ◌∷◌, ◌++◌, length, take, drop, refl, ap, sym, ◌∙◌, arith, append_assoc, length-append}
use Rattle.std.proofs.lemmas.Bool.{false≢true}
use Rattle.std.proofs.lemmas.List.{append-nil, length-replicate, take_at, take-append-le, take-append-drop, same_from_push}
use Rattle.std.proofs.Math.Nat.{eq-or-lt_of_le}
use Rattle.l2_bits.specs.Flags.{flag, EndsIn, IsFlagEnd}
use Rattle.l2_bits.specs.Stuffing.{ones, is_text}
use Rattle.l2_bits.specs.LineBits.{bits_of, number_of}
use Rattle.l2_bits.specs.Flags.{Since}
use Rattle.l2_bits.proofs.BitLemmas.{bits_of-add, length-bits_of, number_of-bits_of}
use Rattle.l2_bits.proofs.LineLemmas.{ends_same, ends_rest}
use Rattle.std.proofs.Math.Nat.{pow-suc, mod-eq_of_lt, mul_comm, div-lt_iff_lt-mul}
use Rattle.std.proofs.lemmas.Nat.{pow_pos, pow-add}
use Rattle.l2_bits.proofs.StuffingLemmas.{ones_more, is_text-zero, is_text-sixth, test_goes_on}

-- the ones at the end, where so many stand before
unfoldable pub run_of : ℕ → List Bool → ℕ
run_of run [] = run
run_of run (false ∷ bits) = run_of 0 bits
run_of run (true ∷ bits) = run_of (run + 1) bits

pub run_of-append : (run : ℕ) (a b : List Bool) → run_of run (a ++ b) ≡ run_of (run_of run a) b
unfolding run_of
run_of-append run [] b = refl
run_of-append run (false ∷ a) b = run_of-append 0 a b
run_of-append run (true ∷ a) b = run_of-append (run + 1) a b

run_of-flag : (run : ℕ) → run_of run flag ≡ 0
unfolding run_of flag
run_of-flag run = refl

-- no run within a text is longer than five
pub text_runs : (run : ℕ) (a b : List Bool) → run ≤ 5 → is_text run (a ++ b) ≡ true → run_of run a ≤ 5
unfolding run_of
text_runs run [] b within passes = within
text_runs run (false ∷ a) b within passes =
    text_runs 0 a b (omega arith) (sym (is_text-zero run (a ++ b)) ∙ passes)
text_runs run (true ∷ a) b within passes =
    elim (eq-or-lt_of_le within) [
      | inl fifth ↦ absurd (false≢true (sym (is_text-sixth (a ++ b)) ∙ ap (λ (n : ℕ). is_text n (true ∷ (a ++ b))) (sym fifth) ∙ passes))
      | inr below ↦
          let h : run < 5 = below in
          text_runs (run + 1) a b (omega arith) (test_goes_on run (a ++ b) passes)
    ]

-- a text and then a zero
same_rest : (fails rest other : Bool) → (if fails then false else rest) ≡ true → (if fails then false else other) ≡ other
same_rest true rest other passes = absurd (false≢true passes)
same_rest false rest other passes = refl

text_then_zero : (run : ℕ) (text more : List Bool) → is_text run text ≡ true → is_text run (text ++ false ∷ more) ≡ is_text 0 more
unfolding is_text
text_then_zero run [] more passes = refl
text_then_zero run (false ∷ text) more passes = text_then_zero 0 text more passes
text_then_zero run (true ∷ text) more passes =
    same_rest (run == 5) (is_text (run + 1) text) (is_text (run + 1) (text ++ false ∷ more)) passes
    ∙ text_then_zero (run + 1) text more (test_goes_on run text passes)

-- a text and its flag, up to two bits before the end
abbrev five_ones : List Bool
five_ones = false ∷ true ∷ true ∷ true ∷ true ∷ true ∷ []

five_pass : is_text 0 (true ∷ true ∷ true ∷ true ∷ true ∷ false ∷ []) ≡ true
unfolding is_text
five_pass = refl

flag_parts : flag ≡ five_ones ++ true ∷ false ∷ []
unfolding flag
flag_parts = refl

pub front_runs : (text a rest : List Bool) → is_text 0 text ≡ true → text ++ flag ≡ a ++ rest → 2 ≤ length rest → run_of 0 a ≤ 5
front_runs text a rest passes same two =
    let base = text ++ five_ones in
    let whole : text ++ flag ≡ base ++ true ∷ false ∷ [] =
    ap (λ (bits : List Bool). text ++ bits) flag_parts ∙ sym (append_assoc text five_ones (true ∷ false ∷ [])) in
    let within : length a ≤ length base =
    omega (arith, ap length (sym whole ∙ same), length-append base (true ∷ false ∷ []), length-append a rest) in
    let front : take (length a) base ≡ a =
    sym (take-append-le (length a) base (true ∷ false ∷ []) within)
    ∙ ap (take (length a)) (sym whole ∙ same) ∙ take_at a rest (length a) refl in
    let parts : base ++ false ∷ [] ≡ a ++ (drop (length a) base ++ false ∷ []) =
    ap (λ (bits : List Bool). bits ++ false ∷ []) (sym (take-append-drop (length a) base))
    ∙ append_assoc (take (length a) base) (drop (length a) base) (false ∷ [])
    ∙ ap (λ (bits : List Bool). bits ++ (drop (length a) base ++ false ∷ [])) front in
    text_runs 0 a (drop (length a) base ++ false ∷ []) (omega arith)
    (ap (is_text 0) (sym parts ∙ append_assoc text five_ones (false ∷ []))
    ∙ text_then_zero 0 text (true ∷ true ∷ true ∷ true ∷ true ∷ false ∷ []) passes ∙ five_pass)

module _ (past a : List Bool) (bit : Bool) (ended : IsFlagEnd past) where
  -- the run at the end began after the flag
  pub run_since : run_of 0 (flag ++ (past ++ a)) ≡ run_of 0 a
  run_since =
      ap (run_of 0) (sym (append_assoc flag past a) ∙ ap (λ (bits : List Bool). bits ++ a) ended.split)
      ∙ run_of-append 0 (ended.front ++ flag) a
      ∙ ap (λ (n : ℕ). run_of n a) (run_of-append 0 ended.front flag ∙ run_of-flag (run_of 0 ended.front))

  -- a flag ends after six ones
  pub flag_after_six : IsFlagEnd ((past ++ a) ++ bit ∷ []) → run_of 0 a ≡ 6
  unfolding flag run_of
  flag_after_six ends =
      let line = same_from_push (flag ++ (past ++ a)) (ends.front ++ false ∷ true ∷ true ∷ true ∷ true ∷ true ∷ true ∷ []) bit false
      (append_assoc flag (past ++ a) (bit ∷ []) ∙ ends.split ∙ sym (append_assoc ends.front (false ∷ true ∷ true ∷ true ∷ true ∷ true ∷ true ∷ []) (false ∷ []))) in
      sym run_since ∙ ap (run_of 0) line.0 ∙ run_of-append 0 ends.front _

  -- seven ones end after six
  pub seven_after_six : EndsIn (flag ++ ((past ++ a) ++ bit ∷ [])) (ones 7) → 6 ≤ run_of 0 a
  unfolding run_of
  seven_after_six ends =
      let line = same_from_push (flag ++ (past ++ a)) (ends.front ++ ones 6) bit true
      (append_assoc flag (past ++ a) (bit ∷ []) ∙ ends.split ∙ sym (append_assoc ends.front (ones 6) (true ∷ []))) in
      let run : run_of 0 a ≡ run_of (run_of 0 ends.front) (ones 6) = sym run_since ∙ ap (run_of 0) line.0 ∙ run_of-append 0 ends.front (ones 6) in
      omega (arith, run)

-- the run is the ones that end the line, all of them
run_ones : (run k : ℕ) → run_of run (ones k) ≡ run + k
unfolding run_of
run_ones run zero = omega arith
run_ones run (suc k) = run_ones (run + 1) k ∙ omega arith

pub ends_run : (line : List Bool) (k : ℕ) → EndsIn line (ones k) → k ≤ run_of 0 line
ends_run line k ends =
    omega (arith, ap (run_of 0) ends.split, run_of-append 0 ends.front (ones k), run_ones (run_of 0 ends.front) k)

ones-add : (j k : ℕ) → ones (j + k) ≡ ones j ++ ones k
ones-add zero k = ap ones (omega arith)
ones-add (suc j) k =
    let more : suc j + k ≡ suc (j + k) = omega arith in
    rw more (ap (λ (bits : List Bool). true ∷ bits) (ones-add j k))

run_at_end : (run : ℕ) (bits : List Bool) → (front : List Bool) × (ones run ++ bits ≡ front ++ ones (run_of run bits))
unfolding run_of
run_at_end run [] = ([], append-nil (ones run))
run_at_end run (false ∷ bits) =
    let rest = run_at_end 0 bits in (
      ones run ++ false ∷ rest.0,
      ap (λ (all : List Bool). ones run ++ false ∷ all) rest.1 ∙ sym (append_assoc (ones run) (false ∷ rest.0) (ones (run_of 0 bits))),
    )
run_at_end run (true ∷ bits) =
    let rest = run_at_end (run + 1) bits in
    (rest.0, ones_more run bits ∙ rest.1)

pub run_ends : (line : List Bool) (k : ℕ) → k ≤ run_of 0 line → EndsIn line (ones k)
run_ends line k within =
    let all = run_at_end 0 line in
    let others : run_of 0 line - k + k ≡ run_of 0 line = omega arith in
    let parts : ones (run_of 0 line) ≡ ones (run_of 0 line - k) ++ ones k = ap ones (sym others) ∙ ones-add (run_of 0 line - k) k in
    record {
      front = all.0 ++ ones (run_of 0 line - k);
      split =
          all.1 ∙ ap (λ (bits : List Bool). all.0 ++ bits) parts ∙ sym (append_assoc all.0 (ones (run_of 0 line - k)) (ones k));
    }

-- the last bits tell the run, as far as they go
pub ones_bits : (k : ℕ) → bits_of k (2 ^ k - 1) ≡ ones k
unfolding bits_of
ones_bits zero = refl
ones_bits (suc k) =
    let odd : (2 ^ suc k - 1) % 2 ≡ 1 = omega (arith, pow-suc 2 k, pow_pos k) in
    let half : (2 ^ suc k - 1) / 2 ≡ 2 ^ k - 1 = omega (arith, pow-suc 2 k, pow_pos k) in
    rw (odd, half, ones_bits k) refl

module _ (line : List Bool) (j k last : ℕ) (ends : EndsIn line (bits_of (j + k) last)) where
  top : EndsIn line (bits_of k (last / 2 ^ j))
  top = ends_rest line (bits_of j last) (bits_of k (last / 2 ^ j)) (rw bits_of-add at ends)

  pub run_there : last / 2 ^ j ≡ 2 ^ k - 1 → k ≤ run_of 0 line
  run_there is = ends_run line k (rw (is, ones_bits k) at top)

  pub run_not_there : last < 2 ^ (j + k) → (last / 2 ^ j ≡ 2 ^ k - 1 → ⊥) → run_of 0 line < k
  run_not_there fits other = omega (arith, absent)
    where
      absent : k ≤ run_of 0 line → ⊥
      absent within =
          let same : bits_of k (last / 2 ^ j) ≡ ones k =
          ends_same line (bits_of k (last / 2 ^ j)) (ones k) top (run_ends line k within) (length-bits_of k (last / 2 ^ j) ∙ sym (length-replicate k true)) in
          let room : last < 2 ^ k * 2 ^ j = rw (pow-add 2 j k, mul_comm) at fits in
          let low : last / 2 ^ j < 2 ^ k = (div-lt_iff_lt-mul (pow_pos j)).1 room in
          let all : 2 ^ k - 1 < 2 ^ k = omega (arith, pow_pos k) in
          other (sym (mod-eq_of_lt low) ∙ sym (number_of-bits_of k (last / 2 ^ j)) ∙ ap number_of (same ∙ sym (ones_bits k)) ∙ number_of-bits_of k (2 ^ k - 1) ∙ mod-eq_of_lt all)

-- the run of the line is that of the bits since the last flag
pub run_is_since : (fed since : List Bool) → Since fed since → run_of 0 (flag ++ fed) ≡ run_of 0 since
run_is_since fed since is = ap (λ (bits : List Bool). run_of 0 (flag ++ bits)) is.split ∙ run_since is.before since false is.ended
