-- Laws of the marks
use Rattle.std.proofs.Common.{◌≡◌, ℕ, ◌<◌, ◌≤◌, inl, inr, Bool, List, [], ◌∷◌, ◌++◌, length, Option, Some, None, refl, ap, sym, ◌∙◌, arith, append_assoc, length-append}
use Rattle.std.proofs.lemmas.List.{append-nil, length_push}
use Rattle.std.specs.Option.{option_to_list}
use Rattle.l2_bits.specs.declared.marks.Mark.{Mark}
use Rattle.l2_bits.specs.declared.marks.Mark.TheVariants.{Good, Bad, Sixteen}
use Rattle.l2_bits.specs.LineBits.{line_bits}
use Rattle.l2_bits.specs.SealedText.{sealed_text}
use Rattle.l2_bits.specs.Flags.{flag, IsFlagEnd, Since}
use Rattle.l2_bits.specs.Contents.{IsGood, EndsGood}
use Rattle.l2_bits.specs.OctetCounting.{LosesAlignment, IsAligned}
use Rattle.l2_bits.specs.Marks.{IsMark, AreMarks}
use Rattle.l2_bits.proofs.OctetLemmas.{octets_alone}
use Rattle.l2_bits.proofs.SealedTextLemmas.{check_in_range, one_content as one_sealed_content}
use Rattle.l2_bits.proofs.StuffingLemmas.{one_content, is_text_of}
use Rattle.l2_bits.proofs.ContentLemmas.{raw_fits}
use Rattle.l2_bits.proofs.FlagLemmas.{length-flag, since_flag, since_more, closes_alone, closes_flag}
use Rattle.l2_bits.proofs.CountingLemmas.{unit_flag, loses_by, still_aligned}
use Rattle.l2_bits.proofs.RunLemmas.{run_of, front_runs, flag_after_six, seven_after_six}

-- good bits have one list of octets
good_alone : (raw : List Bool) (a b : List ℕ) → IsGood raw a → IsGood raw b → a ≡ b
good_alone raw a b first second =
    one_sealed_content a b
    (octets_alone (sealed_text a) (sealed_text b) (check_in_range a first.in_range) (check_in_range b second.in_range)
    (one_content _ _ raw first.stuffed second.stuffed))

unit_alone : (past : List Bool) (bit : Bool) (a b : List ℕ) → EndsGood past bit a → EndsGood past bit b → a ≡ b
unit_alone past bit a b first second =
    good_alone second.raw a b (rw (closes_alone past first.raw second.raw bit first.closes second.closes) at first.good) second.good

-- a bit has one mark
pub mark_alone : (past : List Bool) (bit : Bool) (a b : Option Mark) → IsMark past bit a → IsMark past bit b → a ≡ b
mark_alone past bit None None first second = refl
mark_alone past bit None (Some (Good x)) first second = absurd (first.0 x.items second)
mark_alone past bit None (Some Bad) first second = absurd (first.1 second.0 second.1)
mark_alone past bit None (Some Sixteen) first second = absurd (first.2 second)
mark_alone past bit (Some (Good x)) None first second = absurd (second.0 x.items first)
mark_alone past bit (Some (Good x)) (Some (Good y)) first second =
    ap (λ (octets : List ℕ). Some (Good (record { items = octets }))) (unit_alone past bit x.items y.items first second)
mark_alone past bit (Some (Good x)) (Some Bad) first second =
    absurd (second.0.not_good x.items (rw (closes_alone past first.raw second.0.raw bit first.closes second.0.closes) at first.good))
mark_alone past bit (Some (Good x)) (Some Sixteen) first second = absurd (second.not_good x.items first)
mark_alone past bit (Some Bad) None first second = absurd (second.1 first.0 first.1)
mark_alone past bit (Some Bad) (Some (Good y)) first second =
    absurd (first.0.not_good y.items (rw (closes_alone past second.raw first.0.raw bit second.closes first.0.closes) at second.good))
mark_alone past bit (Some Bad) (Some Bad) first second = refl
mark_alone past bit (Some Bad) (Some Sixteen) first second = absurd (first.1 second.counted second.counts.lost)
mark_alone past bit (Some Sixteen) None first second = absurd (second.2 first)
mark_alone past bit (Some Sixteen) (Some (Good y)) first second = absurd (first.not_good y.items second)
mark_alone past bit (Some Sixteen) (Some Bad) first second = absurd (second.1 first.counted first.counts.lost)
mark_alone past bit (Some Sixteen) (Some Sixteen) first second = refl

-- bits have one list of marks
pub marks_alone : (past bits : List Bool) (a b : List Mark) → AreMarks past bits a → AreMarks past bits b → a ≡ b
marks_alone past [] a b first second = first ∙ sym second
marks_alone past (bit ∷ bits) a b first second =
    let here : first.0 ≡ second.0 = mark_alone past bit first.0 second.0 first.2 second.2 in
    let later : first.1 ≡ second.1 = marks_alone (past ++ bit ∷ []) bits first.1 second.1 first.3 second.3 in
    first.4 ∙ ap (λ (mark : Option Mark). option_to_list mark ++ first.1) here
    ∙ ap (λ (marks : List Mark). option_to_list second.0 ++ marks) later ∙ sym second.4

-- one bit more
pub marks_more : (past bits : List Bool) (bit : Bool) (marks : List Mark) (mark : Option Mark)
    → AreMarks past bits marks → IsMark (past ++ bits) bit mark → AreMarks past (bits ++ bit ∷ []) (marks ++ option_to_list mark)
marks_more past [] bit marks mark are is =
    let here : past ++ [] ≡ past = append-nil past in
    (mark, [], rw here at is, refl, rw (are, append-nil) refl)
marks_more past (first ∷ bits) bit marks mark are is =
    let moved : past ++ first ∷ bits ≡ (past ++ first ∷ []) ++ bits = sym (append_assoc past (first ∷ []) bits) in (
      are.0,
      are.1 ++ option_to_list mark,
      are.2,
      marks_more (past ++ first ∷ []) bits bit are.1 mark are.3 (rw moved at is),
      ap (λ (all : List Mark). all ++ option_to_list mark) are.4 ∙ append_assoc (option_to_list are.0) are.1 (option_to_list mark),
    )

-- some bits more
pub marks-append : (past bits more : List Bool) (marks others : List Mark)
    → AreMarks past bits marks → AreMarks (past ++ bits) more others → AreMarks past (bits ++ more) (marks ++ others)
marks-append past [] more marks others are is =
    let here : past ++ [] ≡ past = append-nil past in
    rw are (rw here at is)
marks-append past (first ∷ bits) more marks others are is =
    let moved : past ++ first ∷ bits ≡ (past ++ first ∷ []) ++ bits = sym (append_assoc past (first ∷ []) bits) in (
      are.0,
      are.1 ++ others,
      are.2,
      marks-append (past ++ first ∷ []) bits more are.1 others are.3 (rw moved at is),
      ap (λ (all : List Mark). all ++ others) are.4 ∙ append_assoc (option_to_list are.0) are.1 others,
    )

-- the text of a good signal unit and its flag, bit by bit
module _ (past raw : List Bool) (octets : List ℕ) (ended : IsFlagEnd past) (good : IsGood raw octets) where
  unit_marks : (rest a : List Bool) → raw ++ flag ≡ a ++ rest → 0 < length rest → Since (past ++ a) a → IsAligned (past ++ a)
      → AreMarks (past ++ a) rest (Good (record { items = octets }) ∷ [])
  unit_marks [] a same some since aligned = absurd (omega arith)
  unit_marks (bit ∷ []) a same some since aligned = (
    Some (Good (record { items = octets })),
    [],
    record { raw = raw; closes = record { since = a; is_since = since; closed = sym same }; good = good },
    refl,
    refl,
  )
  unit_marks (bit ∷ next ∷ rest) a same some since aligned =
      let calm : run_of 0 a ≤ 5 =
      front_runs raw a (bit ∷ next ∷ rest) (is_text_of (line_bits (sealed_text octets)) raw good.stuffed) same (omega arith) in
      let no_flag : IsFlagEnd ((past ++ a) ++ bit ∷ []) → ⊥ =
      λ ends. omega (arith, flag_after_six past a bit ended ends) in
      let later : Since ((past ++ a) ++ bit ∷ []) (a ++ bit ∷ []) = since_more (past ++ a) a bit since no_flag in
      let keeps : LosesAlignment ((past ++ a) ++ bit ∷ []) → ⊥ =
      λ loses.
      elim (loses_by ((past ++ a) ++ bit ∷ []) (a ++ bit ∷ []) later loses) [
        | inl seven ↦ omega (arith, seven_after_six past a bit ended seven)
        | inr long ↦
            omega (arith, long, raw_fits raw octets good, ap length same, length-append raw flag, length-flag, length-append a (bit ∷ next ∷ rest), length_push a bit)
      ] in
      let moved : (past ++ a) ++ bit ∷ [] ≡ past ++ (a ++ bit ∷ []) = append_assoc past a (bit ∷ []) in (
        None,
        Good (record { items = octets }) ∷ [],
        (
          (λ other unit. no_flag (unit_flag (past ++ a) bit other unit)),
          (λ bad _. no_flag (closes_flag (past ++ a) bad.raw bit bad.closes)),
          λ sixteen. aligned sixteen.counted sixteen.counts.lost,
        ),
        rw moved
            (unit_marks (next ∷ rest) (a ++ bit ∷ []) (same ∙ sym (append_assoc a (bit ∷ []) (next ∷ rest))) (omega arith)
            (rw moved at later) (rw moved at (still_aligned (past ++ a) bit aligned keeps))),
        refl,
      )

  pub unit_gives : IsAligned past → AreMarks past (raw ++ flag) (Good (record { items = octets }) ∷ [])
  unit_gives aligned =
      let here : past ++ [] ≡ past = append-nil past in
      let since : Since (past ++ []) [] = rw here (since_flag past ended) in
      let still : IsAligned (past ++ []) = rw here aligned in
      rw here at (unit_marks (raw ++ flag) [] refl (omega (arith, length-append raw flag, length-flag)) since still)
