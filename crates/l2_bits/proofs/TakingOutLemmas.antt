-- Bits since a flag without their inserted zeros, bit by bit and where a flag closes them
use Rattle.std.proofs.Common.{◌≡◌, ℕ, ◌+◌, ◌%◌, ◌<◌, ◌≤◌, ◌==◌, not, inl, inr, Bool, true, false, List, [], ◌∷◌, ◌++◌, length, refl, ap, sym, ◌∙◌, arith, append_assoc, length-append}
use Rattle.std.proofs.lemmas.Bool.{false≢true}
use Rattle.std.proofs.lemmas.Bool.Decides.{nat_tests}
use Rattle.std.proofs.lemmas.List.{append-nil, append_cancel_right, same_from_push}
use Rattle.std.proofs.Math.Nat.{eq-or-lt_of_le}
use Rattle.l2_bits.specs.LineBits.{line_bits}
use Rattle.l2_bits.specs.Stuffing.{ones, content_after, is_text}
use Rattle.l2_bits.specs.SealedText.{sealed_text}
use Rattle.l2_bits.specs.Contents.{IsGood, IsClosed}
use Rattle.l2_bits.proofs.LineLemmas.{last_of}
use Rattle.l2_bits.proofs.StuffingLemmas.{content_after-nil, content_after-bit, content_after-inserted, is_text-zero, is_text-one, is_text-sixth, test_goes_on, content_alone, is_text_of, test_tells}
use Rattle.l2_bits.proofs.RunLemmas.{run_of, run_of-append}

-- zeros are taken out of bits and then of more; each sixth one of a run counts as such a zero
at_most_five : (run : ℕ) → run % 6 ≤ 5
at_most_five run = omega arith

pub content_after-append : (run : ℕ) (a b : List Bool)
    → content_after (run % 6) (a ++ b) ≡ content_after (run % 6) a ++ content_after (run_of run a % 6) b
unfolding run_of
content_after-append run [] b = rw content_after-nil refl
content_after-append run (false ∷ a) b =
    elim (eq-or-lt_of_le (at_most_five run)) [
      | inl fifth ↦ rw (fifth, content_after-inserted false (a ++ b), content_after-inserted false a) (content_after-append 0 a b)
      | inr below ↦
          let few : run % 6 < 5 = below in
          rw (content_after-bit (run % 6) false (a ++ b) few, content_after-bit (run % 6) false a few)
          (ap (λ (bits : List Bool). false ∷ bits) (content_after-append 0 a b))
    ]
content_after-append run (true ∷ a) b =
    elim (eq-or-lt_of_le (at_most_five run)) [
      | inl fifth ↦
          let next : (run + 1) % 6 ≡ 0 = omega arith in
          rw (fifth, content_after-inserted true (a ++ b), content_after-inserted true a) (rw next at (content_after-append (run + 1) a b))
      | inr below ↦
          let few : run % 6 < 5 = below in
          let next : (run + 1) % 6 ≡ run % 6 + 1 = omega arith in
          rw (content_after-bit (run % 6) true (a ++ b) few, content_after-bit (run % 6) true a few)
          (ap (λ (bits : List Bool). true ∷ bits) (rw next at (content_after-append (run + 1) a b)))
    ]

-- one bit more
pub content_kept : (since : List Bool) (bit : Bool) → run_of 0 since % 6 < 5
    → content_after 0 (since ++ bit ∷ []) ≡ content_after 0 since ++ bit ∷ []
content_kept since bit few =
    content_after-append 0 since (bit ∷ [])
    ∙ ap (λ (bits : List Bool). content_after 0 since ++ bits) (content_after-bit (run_of 0 since % 6) bit [] few ∙ ap (λ (bits : List Bool). bit ∷ bits) (content_after-nil _))

pub content_dropped : (since : List Bool) (bit : Bool) → run_of 0 since ≡ 5
    → content_after 0 (since ++ bit ∷ []) ≡ content_after 0 since
content_dropped since bit fifth =
    let five : run_of 0 since % 6 ≡ 5 = omega arith in
    content_after-append 0 since (bit ∷ [])
    ∙ ap (λ (bits : List Bool). content_after 0 since ++ bits)
    (ap (λ (n : ℕ). content_after n (bit ∷ [])) five ∙ content_after-inserted bit [] ∙ content_after-nil 0)
    ∙ append-nil (content_after 0 since)

-- no six ones in a row, one bit more
calm_more : (run : ℕ) (front : List Bool) (bit : Bool) → run ≤ 5 → is_text run (front ++ false ∷ []) ≡ true
    → run_of run (front ++ bit ∷ []) ≤ 5 → is_text run ((front ++ bit ∷ []) ++ false ∷ []) ≡ true
unfolding run_of
calm_more run [] false within passes few = is_text-zero run (false ∷ []) ∙ (is_text-zero 0 [] ∙ (sym (is_text-zero run []) ∙ passes))
calm_more run [] true within passes few =
    let below : run < 5 = omega (arith, few) in
    is_text-one run (false ∷ []) below ∙ is_text-zero (run + 1) [] ∙ (sym (is_text-zero run []) ∙ passes)
calm_more run (false ∷ front) bit within passes few =
    is_text-zero run ((front ++ bit ∷ []) ++ false ∷ [])
    ∙ calm_more 0 front bit (omega arith) (sym (is_text-zero run (front ++ false ∷ [])) ∙ passes) few
calm_more run (true ∷ front) bit within passes few =
    elim (eq-or-lt_of_le within) [
      | inl fifth ↦
          absurd (false≢true (sym (is_text-sixth (front ++ false ∷ [])) ∙ ap (λ (n : ℕ). is_text n (true ∷ (front ++ false ∷ []))) (sym fifth) ∙ passes))
      | inr below ↦
          let h : run < 5 = below in
          is_text-one run ((front ++ bit ∷ []) ++ false ∷ []) h
          ∙ calm_more (run + 1) front bit (omega arith) (test_goes_on run (front ++ false ∷ []) passes) few
    ]

-- six ones stand at the end alone
abbrev pub NoSix : List Bool → Type 0
NoSix since = (front : List Bool) (bit : Bool) → since ≡ front ++ bit ∷ [] → is_text 0 (front ++ false ∷ []) ≡ true

pub no_six_first : NoSix []
no_six_first front bit same = absurd (omega (arith, ap length same, length-append front (bit ∷ [])))

calm_at : (since front : List Bool) (bit : Bool) → since ≡ front ++ bit ∷ [] → is_text 0 (front ++ false ∷ []) ≡ true
    → run_of 0 since ≤ 5 → is_text 0 (since ++ false ∷ []) ≡ true
calm_at since front bit is passes few = rw is (calm_more 0 front bit (omega arith) passes (rw is at few))

calm_all : (since : List Bool) → NoSix since → run_of 0 since ≤ 5 → is_text 0 (since ++ false ∷ []) ≡ true
unfolding is_text
calm_all [] calm few = refl
calm_all (x ∷ since) calm few =
    let last = last_of (x ∷ since) (omega arith) in
    calm_at (x ∷ since) last.0 last.1 last.2 (calm last.0 last.1 last.2) few

pub no_six_more : (since : List Bool) (bit : Bool) → NoSix since → run_of 0 since ≤ 5 → NoSix (since ++ bit ∷ [])
no_six_more since bit calm few front x same =
    let parts = same_from_push since front bit x same in
    rw (← parts.0) (calm_all since calm few)

-- content that stops before an inserted zero ends in a one
ends_in_one : (since : List Bool) → run_of 0 since % 6 ≡ 5 → (front : List Bool) × (content_after 0 since ≡ front ++ true ∷ [])
unfolding run_of
ends_in_one [] five = absurd (omega arith)
ends_in_one (x ∷ since) five =
    let last = last_of (x ∷ since) (omega arith) in
    by last.0 last.1 last.2
  where
    by : (front : List Bool) (bit : Bool) → x ∷ since ≡ front ++ bit ∷ [] → (content : List Bool) × (content_after 0 (x ∷ since) ≡ content ++ true ∷ [])
    by front false is =
        let none : run_of 0 (x ∷ since) ≡ 0 = ap (run_of 0) is ∙ run_of-append 0 front (false ∷ []) in
        absurd (omega arith)
    by front true is =
        let more : run_of 0 (x ∷ since) ≡ run_of 0 front + 1 = ap (run_of 0) is ∙ run_of-append 0 front (true ∷ []) in
        (content_after 0 front, ap (content_after 0) is ∙ content_kept front true (omega arith))

-- a text and a zero after it
text_before_zero : (run : ℕ) (a b : List Bool) → run ≤ 5 → is_text run (a ++ false ∷ b) ≡ true
    → (run_of run a % 6 ≡ 5 → ⊥) → is_text run a ≡ true
unfolding run_of is_text
text_before_zero run [] b within passes other =
    let not_five : run ≡ 5 → ⊥ = λ five. other (omega arith) in
    let test : (run == 5) ≡ false = grind (arith, nat_tests) in
    rw test refl
text_before_zero run (false ∷ a) b within passes other = text_before_zero 0 a b (omega arith) passes other
text_before_zero run (true ∷ a) b within passes other =
    elim (eq-or-lt_of_le within) [
      | inl fifth ↦ absurd (false≢true (sym (is_text-sixth (a ++ false ∷ b)) ∙ ap (λ (n : ℕ). is_text n (true ∷ (a ++ false ∷ b))) (sym fifth) ∙ passes))
      | inr below ↦
          let h : run < 5 = below in
          is_text-one run a h ∙ text_before_zero (run + 1) a b (omega arith) (test_goes_on run (a ++ false ∷ b) passes) other
    ]

-- a text ends in four ones at most
text_end : (run : ℕ) (text : List Bool) → run ≤ 5 → is_text run text ≡ true → run_of run text ≤ 4
unfolding run_of is_text
text_end run [] within passes = omega (arith, other)
  where
    other : run ≡ 5 → ⊥
    other five = false≢true (sym (ap (λ (n : ℕ). not (n == 5)) five) ∙ passes)
text_end run (false ∷ text) within passes = text_end 0 text (omega arith) passes
text_end run (true ∷ text) within passes =
    elim (eq-or-lt_of_le within) [
      | inl fifth ↦ absurd (false≢true (sym (is_text-sixth text) ∙ ap (λ (n : ℕ). is_text n (true ∷ text)) (sym fifth) ∙ passes))
      | inr below ↦
          let h : run < 5 = below in
          text_end (run + 1) text (omega arith) (test_goes_on run text passes)
    ]

-- what a flag leaves of itself
flag_left_five : (bits : List Bool) → run_of 0 bits % 6 ≡ 5
    → content_after (run_of 0 bits % 6) (false ∷ ones 6) ≡ ones 5
unfolding content_after
flag_left_five bits five = rw five refl

flag_left : (bits : List Bool) → run_of 0 bits % 6 < 5
    → content_after (run_of 0 bits % 6) (false ∷ ones 6) ≡ false ∷ ones 5
unfolding content_after
flag_left bits few = content_after-bit (run_of 0 bits % 6) false (ones 6) few ∙ ap (λ (rest : List Bool). false ∷ rest) all
  where
    all : content_after 0 (ones 6) ≡ ones 5
    all = refl

-- the bits before a flag's last zero, where the flag closes these
module _ (since raw : List Bool) (octets : List ℕ) (split : since ≡ raw ++ false ∷ ones 6) where
  content_split : content_after 0 since ≡ content_after 0 raw ++ content_after (run_of 0 raw % 6) (false ∷ ones 6)
  content_split = ap (content_after 0) split ∙ content_after-append 0 raw (false ∷ ones 6)

  pub good_closed : IsGood raw octets → IsClosed (content_after 0 since) octets
  good_closed good =
      let few : run_of 0 raw ≤ 4 = text_end 0 raw (omega arith) (is_text_of _ raw good.stuffed) in
      record {
        in_range = good.in_range;
        shortest = good.shortest;
        longest = good.longest;
        closed =
            content_split ∙ ap (λ (rest : List Bool). content_after 0 raw ++ rest) (flag_left raw (omega arith))
            ∙ ap (λ (front : List Bool). front ++ false ∷ ones 5) (content_alone _ raw good.stuffed);
      }

  module _ (calm : NoSix since) (closed : IsClosed (content_after 0 since) octets) where
    not_five : run_of 0 raw % 6 ≡ 5 → ⊥
    not_five five =
        let one = ends_in_one raw five in
        let same : (one.0 ++ true ∷ []) ++ ones 5 ≡ (line_bits (sealed_text octets) ++ false ∷ []) ++ ones 5 =
        ap (λ (front : List Bool). front ++ ones 5) (sym one.1)
        ∙ sym (ap (λ (rest : List Bool). content_after 0 raw ++ rest) (flag_left_five raw five))
        ∙ sym content_split ∙ closed.closed ∙ sym (append_assoc (line_bits (sealed_text octets)) (false ∷ []) (ones 5)) in
        let last = same_from_push one.0 (line_bits (sealed_text octets)) true false (append_cancel_right (one.0 ++ true ∷ []) (line_bits (sealed_text octets) ++ false ∷ []) (ones 5) same) in
        false≢true (sym last.1)

    pub closed_good : IsGood raw octets
    closed_good =
        let few : run_of 0 raw % 6 < 5 = omega (arith, not_five) in
        let content : content_after 0 raw ≡ line_bits (sealed_text octets) =
        append_cancel_right (content_after 0 raw) (line_bits (sealed_text octets)) (false ∷ ones 5)
        (sym (ap (λ (rest : List Bool). content_after 0 raw ++ rest) (flag_left raw few)) ∙ sym content_split ∙ closed.closed) in
        let split_last : since ≡ (raw ++ false ∷ ones 5) ++ true ∷ [] = split ∙ sym (append_assoc raw (false ∷ ones 5) (true ∷ [])) in
        let passes : is_text 0 ((raw ++ false ∷ ones 5) ++ false ∷ []) ≡ true = calm (raw ++ false ∷ ones 5) true split_last in
        let is : is_text 0 raw ≡ true = text_before_zero 0 raw (ones 5 ++ false ∷ []) (omega arith) (rw append_assoc at passes) not_five in
        record {
          in_range = closed.in_range;
          shortest = closed.shortest;
          longest = closed.longest;
          stuffed = rw content at (test_tells raw is);
        }
