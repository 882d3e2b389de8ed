-- A line under way, bit by bit.
use Rattle.std.proofs.Common.{refl, arith, ◌≡◌, ◌∙◌, ap, sym, ◌<◌, ◌≤◌, [], ◌∷◌, length, ℕ, ◌+◌, ◌^◌, Bool, List, ◌++◌, Option, Some, None, append_assoc, append-nil, length-append, Result, Ok, Err, OnOk, MatchResult}
use Rattle.std.proofs.lemmas.Grind.{flat_map-append}
use Rattle.std.specs.Option.{option_to_list}
use Rattle.l2_bits.specs.declared.marks.Mark.{Mark}
use Rattle.l2_bits.specs.Marks.{AreMarks}
use Rattle.l2_bits.specs.Deframing.{StandsFor, FeedsUpTo}
use Rattle.l2_bits.proofs.MarkLemmas.{mark_alone, marks_alone, marks-append}
use Rattle.text_units.specs.declared.marked_line.MarkedLine.{MarkedLine}
use Rattle.text_base.specs.Printing.{Printed}
use Rattle.text_units.specs.declared.fault.UnreadableOctet.{UnreadableOctet}
use Rattle.text_units.specs.UnitsText.{IsUnitsText, mark_text, marks_text, counts_of, with_end, fault_place}
use Rattle.text_units.specs.UnitsReading.{IsLine, Begins, FeedsFirst, Breaks}

-- an input has one text
pub one_text : (input : List ℕ) (a b : Printed UnreadableOctet) → IsUnitsText input a → IsUnitsText input b → a ≡ b
one_text input a b p q = p.played_is ∙ ap (with_end (fault_place input)) (marks_alone [] _ p.marks q.marks p.are q.are) ∙ sym q.played_is

-- a bit gives one mark at most
few_marks : (past bits : List Bool) (marks : List Mark) → AreMarks past bits marks → length marks ≤ length bits
few_marks past [] marks are = rw are (omega arith)
few_marks past (bit ∷ bits) marks are = rw are.4 (one are.0 are.1 (few_marks (past ++ bit ∷ []) bits are.1 are.3))
  where
    one : (mark : Option Mark) (later : List Mark) → length later ≤ length bits → length (option_to_list mark ++ later) ≤ length (bit ∷ bits)
    one None later h = omega (arith, h)
    one (Some mark) later h = omega (arith, h)

-- the marks of more bits begin with those of the first
more_marks : (past bits left : List Bool) (marks all : List Mark) → AreMarks past bits marks → AreMarks past (bits ++ left) all → (later : List Mark) × (all ≡ marks ++ later)
more_marks past [] left marks all are whole = (all, rw are refl)
more_marks past (bit ∷ bits) left marks all are whole =
    let rest = more_marks (past ++ bit ∷ []) bits left are.1 whole.1 are.3 whole.3 in (
      rest.0,
      whole.4 ∙ ap (λ (mark : Option Mark). option_to_list mark ++ whole.1) (mark_alone past bit whole.0 are.0 whole.2 are.2)
          ∙ ap (λ (later : List Mark). option_to_list are.0 ++ later) rest.1
          ∙ sym (append_assoc (option_to_list are.0) are.1 rest.0) ∙ ap (λ (front : List Mark). front ++ rest.0) (sym are.4),
    )

pub line_begins : (bits left : List Bool) (lines : List ℕ) (line : MarkedLine) → IsLine bits lines line → Begins (bits ++ left) lines
line_begins bits left lines line is = λ all are.
    let split = more_marks [] bits left is.marks all is.are are in (
      marks_text split.0,
      ap marks_text split.1 ∙ flat_map-append mark_text is.marks split.0 ∙ ap (λ (front : List ℕ). front ++ marks_text split.0) (sym is.printed),
    )

-- bits up to a mark
module _ (old new : MarkedLine) (bits rest : List Bool) (mark : Option Mark)
    (fed : (past : List Bool) → StandsFor past old.deframer → FeedsUpTo past bits rest new.deframer mark)
    (counts : (marks : List Mark) → length marks + length (option_to_list mark) < 2 ^ 64 → old.counts ≡ counts_of marks → new.counts ≡ counts_of (marks ++ option_to_list mark)) where
  fits_on : (past : List Bool) (is : FeedsUpTo past bits rest new.deframer mark) → length past + length bits < 2 ^ 64
      → length (past ++ is.taken) + length rest < 2 ^ 64
  fits_on past is fits = omega (arith, fits, ap length is.split, length-append past is.taken, length-append is.taken rest)

  line_on : (past : List Bool) (lines : List ℕ) → length past + length bits < 2 ^ 64 → (line : IsLine past lines old)
      → IsLine (past ++ (fed past line.deframed).taken) (lines ++ marks_text (option_to_list mark)) new
  line_on past lines fits line =
      let is = fed past line.deframed in
      let before : length line.marks ≤ length past = few_marks [] past line.marks line.are in
      let more : length (option_to_list mark) ≤ length is.taken = few_marks past is.taken (option_to_list mark) is.marks in
      record {
        marks = line.marks ++ option_to_list mark;
        are = marks-append [] past is.taken line.marks (option_to_list mark) line.are is.marks;
        printed = ap (λ (front : List ℕ). front ++ marks_text (option_to_list mark)) line.printed ∙ sym (flat_map-append mark_text line.marks (option_to_list mark));
        counted = counts line.marks (omega (arith, before, more, fits_on past is fits, length-append past is.taken)) line.counted;
        deframed = is.stands;
      }

  pub first_fed : (before middle : List ℕ) → middle ≡ before ++ marks_text (option_to_list mark) → FeedsFirst old bits before rest middle new
  first_fed before middle added = record {
    feeds = λ after last later. record {
      printed = marks_text (option_to_list mark) ++ later.printed;
      added = later.added ∙ ap (λ (front : List ℕ). front ++ later.printed) added ∙ append_assoc before (marks_text (option_to_list mark)) later.printed;
      goes_on = λ past lines fits line.
          let is = fed past line.deframed in
          let bits_are : (past ++ is.taken) ++ rest ≡ past ++ bits = append_assoc past is.taken rest ∙ ap (λ (all : List Bool). past ++ all) (sym is.split) in
          let lines_are : (lines ++ marks_text (option_to_list mark)) ++ later.printed ≡ lines ++ (marks_text (option_to_list mark) ++ later.printed) = append_assoc lines (marks_text (option_to_list mark)) later.printed in
          rw (bits_are, lines_are) at (later.goes_on (past ++ is.taken) (lines ++ marks_text (option_to_list mark)) (fits_on past is fits) (line_on past lines fits line));
    };
    breaks = λ after later. record {
      printed = marks_text (option_to_list mark) ++ later.printed;
      added = later.added ∙ ap (λ (front : List ℕ). front ++ later.printed) added ∙ append_assoc before (marks_text (option_to_list mark)) later.printed;
      begins = λ past lines fits line left.
          let is = fed past line.deframed in
          let bits_are : (past ++ is.taken) ++ (rest ++ left) ≡ past ++ (bits ++ left) =
          append_assoc past is.taken (rest ++ left) ∙ ap (λ (all : List Bool). past ++ all) (sym (append_assoc is.taken rest left))
          ∙ ap (λ (all : List Bool). past ++ (all ++ left)) (sym is.split) in
          let lines_are : (lines ++ marks_text (option_to_list mark)) ++ later.printed ≡ lines ++ (marks_text (option_to_list mark) ++ later.printed) = append_assoc lines (marks_text (option_to_list mark)) later.printed in
          rw (bits_are, lines_are) at (later.begins (past ++ is.taken) (lines ++ marks_text (option_to_list mark)) (fits_on past is fits) (line_on past lines fits line) left);
    };
  }

-- memory was wanted for the line of their mark
pub breaks_at : (old : MarkedLine) (bits : List Bool) (before after : List ℕ) → after ≡ before ++ [] → Breaks old bits before after
breaks_at old bits before after same = record {
  printed = [];
  added = same;
  begins = λ past lines fits line left. rw (append-nil lines) (line_begins past (bits ++ left) lines old line);
}

-- what an appending call leaves where it succeeds
pub added_then : {U E : Type 0} (r : Result U E) (old new same all : List ℕ) → same ≡ all → MatchResult r (λ done. new ≡ same) (λ want. new ≡ old) → OnOk r (new ≡ all)
added_then (Ok done) old new same all is added = added ∙ is
added_then (Err error) old new same all is added = tt
