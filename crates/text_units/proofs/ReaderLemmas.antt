-- A reader of digits under way, piece by piece of its input.
use Rattle.std.proofs.Common.{refl, arith, ◌≡◌, ◌∙◌, ap, sym, ◌<◌, ◌≤◌, [], length, ℕ, ◌+◌, ◌^◌, Bool, true, false, nat_lt, List, ◌++◌, Option, Some, None, append_assoc, append-nil, Result, Ok, Err, MatchResult}
use Rattle.std.proofs.lemmas.Bool.Decides.{nat_tests}
use Rattle.std.specs.Option.{option_map, is_some}
use Rattle.l2_bits.specs.declared.marks.Mark.{Mark}
use Rattle.l2_bits.specs.LineBits.{line_bits}
use Rattle.l2_bits.proofs.OctetLemmas.{length-line_bits, line_bits-append}
use Rattle.text_base.specs.declared.fault.Stop.{Stop}
use Rattle.text_base.specs.declared.fault.Stop.TheVariants.{Input, Memory}
use Rattle.text_base.specs.Printing.{Printed, IsBegun, StopsIn, ReadsOrStops, Ends as EndsAsText}
use Rattle.text_base.proofs.PrintLemmas.{begun_of_end}
use Rattle.text_units.specs.declared.digit.Digit.{Digit}
use Rattle.text_units.specs.declared.digits.Digits.{Digits}
use Rattle.text_units.specs.declared.marked_line.MarkedLine.{MarkedLine}
use Rattle.text_units.specs.declared.units_reading.UnitsReader.{UnitsReader}
use Rattle.text_units.specs.declared.fault.UnreadableOctet.{UnreadableOctet}
use Rattle.text_units.specs.UnitsText.{IsUnitsText, readable, values_of, paired, left_over, octets_in, fault_place, marks_text, counts_of, counts_text, with_end}
use Rattle.text_units.specs.UnitsReading.{IsLine, Feeds, Breaks, HasDigits, Decodes, Halts, HaltsIn, HasRead, Reads, Stops, Ends}
use Rattle.text_units.proofs.UnitsLemmas.{line_begins, one_text}
use Rattle.text_units.proofs.DigitLemmas.{past_octets, few_paired}

-- A piece: its octets, and then their marks.

few_bits : (past octets text : List ℕ) → length past + length text ≤ 2 ^ 60 → length octets ≤ length text → length (line_bits (paired (values_of past))) + length (line_bits octets) < 2 ^ 64
few_bits past octets text fits few = omega (arith, fits, few, length-line_bits (paired (values_of past)), length-line_bits octets, few_paired past)

printed_begins : (place : Option ℕ) (marks : List Mark) (printed more : List ℕ) → marks_text marks ≡ printed ++ more → (rest : List ℕ) × ((with_end place marks).printed ≡ printed ++ rest)
printed_begins (Some place) marks printed more e = (more, e)
printed_begins None marks printed more e =
    (more ++ counts_text (counts_of marks), ap (λ (xs : List ℕ). xs ++ counts_text (counts_of marks)) e ∙ append_assoc printed more (counts_text (counts_of marks)))

pub reads_fed : (old new : UnitsReader) (text octets before after : List ℕ) → Decodes old.digits text [] octets new.digits → Feeds old.line (line_bits octets) before after new.line → Reads old text before after new
reads_fed old new text octets before after decodes feeds = record {
  printed = feeds.printed;
  added = feeds.added;
  goes_on = λ past lines fits has.
      let on = decodes.goes_on past fits has.digits in
      let all : paired (values_of (past ++ text)) ≡ paired (values_of past) ++ octets = on.1 ∙ ap (λ (rest : List ℕ). paired (values_of past) ++ rest) (sym decodes.added) in
      let few : length octets ≤ length text = rw decodes.added decodes.few in
      record {
        digits = on.0;
        line = rw (all, line_bits-append (paired (values_of past)) octets) (feeds.goes_on (line_bits (paired (values_of past))) lines (few_bits past octets text fits few) has.line);
      };
}

-- the lines of all octets before it
ends_so : (stop : Stop UnreadableOctet) (input octets lines : List ℕ) (line : MarkedLine) → HaltsIn stop input octets → IsLine (line_bits octets) lines line → StopsIn stop (IsUnitsText input) lines
ends_so (Input fault) input octets lines line h is = record {
  marks = is.marks;
  are = rw h.0 is.are;
  played_is = rw h.1 (ap (λ (printed : List ℕ). record { printed = printed; fault = Some (record { place = fault.place }) }) is.printed);
}
ends_so Memory input octets lines line h is = λ played text.
    let begins = line_begins (line_bits octets) (line_bits h.0) lines line is text.marks (rw (h.1, line_bits-append octets h.0) at text.are) in
    let rest = printed_begins (fault_place input) text.marks lines begins.0 begins.1 in
    (rest.0, ap (λ (p : Printed UnreadableOctet). p.printed) text.played_is ∙ rest.1)

pub stops_fed : (stop : Stop UnreadableOctet) (old : UnitsReader) (line : MarkedLine) (text octets before after : List ℕ) → Halts stop old.digits text [] octets → Feeds old.line (line_bits octets) before after line → Stops stop old text before after
stops_fed stop old line text octets before after halts feeds = record {
  printed = feeds.printed;
  added = feeds.added;
  ends = λ past lines fits has left.
      let few : length octets ≤ length text = rw halts.added halts.few in
      let h : HaltsIn stop (past ++ (text ++ left)) (paired (values_of past) ++ octets) = rw (← halts.added) at (halts.ends past fits has.digits left) in
      let fed = feeds.goes_on (line_bits (paired (values_of past))) lines (few_bits past octets text fits few) has.line in
      ends_so stop (past ++ (text ++ left)) (paired (values_of past) ++ octets) (lines ++ feeds.printed) line h (rw (line_bits-append (paired (values_of past)) octets) fed);
}

pub read_fed : (read : Result (Unit {0}) (Stop UnreadableOctet)) (old new : UnitsReader) (text octets before after : List ℕ)
    → MatchResult read (λ done. Decodes old.digits text [] octets new.digits) (λ stop. Halts stop old.digits text [] octets)
    → Feeds old.line (line_bits octets) before after new.line
    → MatchResult read (λ done. Reads old text before after new) (λ stop. Stops stop old text before after)
read_fed (Ok done) old new text octets before after h feeds = reads_fed old new text octets before after h feeds
read_fed (Err stop) old new text octets before after h feeds = stops_fed stop old new.line text octets before after h feeds

-- memory was wanted for the lines
record Begun (past text octets left : List ℕ) : Type 0 where
  few : length octets ≤ length text
  more : List ℕ
  all : octets_in (past ++ (text ++ left)) ≡ paired (values_of past) ++ (octets ++ more)

halts_begun : (stop : Stop UnreadableOctet) (input octets : List ℕ) → HaltsIn stop input octets → (more : List ℕ) × (octets_in input ≡ octets ++ more)
halts_begun (Input fault) input octets h = ([], h.0 ∙ sym (append-nil octets))
halts_begun Memory input octets h = h

begun_fed : (read : Result (Unit {0}) (Stop UnreadableOctet)) (old new : Digits) (text octets : List ℕ)
    → MatchResult read (λ done. Decodes old text [] octets new) (λ stop. Halts stop old text [] octets)
    → (past : List ℕ) → length past + length text ≤ 2 ^ 60 → HasDigits past old → (left : List ℕ) → Begun past text octets left
begun_fed (Ok done) old new text octets h past fits has left =
    let on = h.goes_on past fits has in
    let whole = past_octets (past ++ text) left on.0.all_readable in
    record {
      few = rw h.added h.few;
      more = whole.0;
      all =
          ap octets_in (sym (append_assoc past text left)) ∙ whole.1 ∙ ap (λ (front : List ℕ). front ++ whole.0) (on.1 ∙ ap (λ (rest : List ℕ). paired (values_of past) ++ rest) (sym h.added))
          ∙ append_assoc (paired (values_of past)) octets whole.0;
    }
begun_fed (Err stop) old new text octets h past fits has left =
    let whole = halts_begun stop (past ++ (text ++ left)) (paired (values_of past) ++ octets) (rw (← h.added) at (h.ends past fits has left)) in
    record {
      few = rw h.added h.few;
      more = whole.0;
      all = whole.1 ∙ append_assoc (paired (values_of past)) octets whole.0;
    }

pub stops_broken : (read : Result (Unit {0}) (Stop UnreadableOctet)) (old : UnitsReader) (new : Digits) (text octets before after : List ℕ)
    → MatchResult read (λ done. Decodes old.digits text [] octets new) (λ stop. Halts stop old.digits text [] octets)
    → Breaks old.line (line_bits octets) before after → Stops Memory old text before after
stops_broken read old new text octets before after h breaks = record {
  printed = breaks.printed;
  added = breaks.added;
  ends = λ past lines fits has left played text_is.
      let begun = begun_fed read old.digits new text octets h past fits has.digits left in
      let bits : line_bits (octets_in (past ++ (text ++ left))) ≡ line_bits (paired (values_of past)) ++ (line_bits octets ++ line_bits begun.more) =
      ap line_bits begun.all ∙ line_bits-append (paired (values_of past)) (octets ++ begun.more) ∙ ap (λ (rest : List Bool). line_bits (paired (values_of past)) ++ rest) (line_bits-append octets begun.more) in
      let begins = breaks.begins (line_bits (paired (values_of past))) lines (few_bits past octets text fits begun.few) has.line (line_bits begun.more) text_is.marks (rw bits at text_is.are) in
      let rest = printed_begins (fault_place (past ++ (text ++ left))) text_is.marks (lines ++ breaks.printed) begins.0 begins.1 in
      (rest.0, ap (λ (p : Printed UnreadableOctet). p.printed) text_is.played_is ∙ rest.1);
}

-- The end.

ends_at : (past : List ℕ) (high : Option ℕ) → readable past ≡ past → high ≡ left_over (values_of past) → fault_place past ≡ option_map (λ (digit : ℕ). length past) high
ends_at past high all e =
    let inside : nat_lt (length past) (length past) ≡ false = grind (arith, nat_tests) in
    rw (all, inside, ← e) refl

pub ends_left : (reader : UnitsReader) (before : List ℕ) → is_some reader.digits.high ≡ true → Ends (Err (Input (record { place = reader.digits.place }))) reader before before
ends_left reader before some = record {
  printed = [];
  added = sym (append-nil before);
  ends = λ past lines fits has.
      let place : fault_place past ≡ Some reader.digits.place = go reader.digits.high some past has.digits.all_readable has.digits.digit ∙ ap Some (sym has.digits.place) in
      record {
        marks = has.line.marks;
        are = rw has.digits.all_readable has.line.are;
        played_is = rw (place, append-nil lines) (ap (λ (printed : List ℕ). record { printed = printed; fault = Some (record { place = reader.digits.place }) }) has.line.printed);
      };
}
  where
    go : (high : Option Digit) → is_some high ≡ true → (past : List ℕ) → readable past ≡ past → option_map (λ (digit : Digit). digit.value) high ≡ left_over (values_of past) → fault_place past ≡ Some (length past)
    go None e past all left = cc
    go (Some digit) e past all left = ends_at past (Some digit.value) all left

-- Beginnings.

has_begun : (past lines left : List ℕ) (reader : UnitsReader) → HasRead past lines reader → IsBegun (IsUnitsText (past ++ left)) lines
has_begun past lines left reader has = λ played text.
    let octets = past_octets past left has.digits.all_readable in
    let begins = line_begins (line_bits (paired (values_of past))) (line_bits octets.0) lines reader.line has.line text.marks (rw (octets.1, line_bits-append (paired (values_of past)) octets.0) at text.are) in
    let rest = printed_begins (fault_place (past ++ left)) text.marks lines begins.0 begins.1 in
    (rest.0, ap (λ (p : Printed UnreadableOctet). p.printed) text.played_is ∙ rest.1)

pub ends_memory : (reader : UnitsReader) (before after : List ℕ) → after ≡ before → Ends (Err Memory) reader before after
ends_memory reader before after same = record {
  printed = [];
  added = same ∙ sym (append-nil before);
  ends = λ past lines fits has.
      let here : past ++ [] ≡ past = append-nil past in
      rw (append-nil lines) (rw here at (has_begun past lines [] reader has));
}

-- As a text that is printed while another is read.

pub units_reads : (result : Result (Unit {0}) (Stop UnreadableOctet)) (old new : UnitsReader) (octets before after : List ℕ) → MatchResult result (λ done. Reads old octets before after new) (λ stop. Stops stop old octets before after)
    → ReadsOrStops IsUnitsText result (λ past lines. HasRead past lines old) octets before after (λ past lines. HasRead past lines new)
units_reads (Ok done) old new octets before after f = record {
  printed = f.printed;
  added = f.added;
  goes_on = f.goes_on;
  begun = λ past lines fits has left. rw (← append_assoc past octets left) (has_begun (past ++ octets) (lines ++ f.printed) left new (f.goes_on past lines fits has));
}
units_reads (Err stop) old new octets before after f = record {
  printed = f.printed;
  added = f.added;
  ends = f.ends;
  begun = λ past lines fits has left.
      begun_of_end stop (IsUnitsText (past ++ (octets ++ left))) (lines ++ f.printed) (one_text (past ++ (octets ++ left))) (f.ends past lines fits has left);
}

pub units_ends : (result : Result (Unit {0}) (Stop UnreadableOctet)) (old : UnitsReader) (before after : List ℕ) → Ends result old before after → EndsAsText IsUnitsText result (λ past lines. HasRead past lines old) before after
units_ends (Ok done) old before after f = record {
  printed = f.printed;
  added = f.added;
  ends = f.ends;
  begun = λ past lines fits has text is. ([], ap (λ (t : Printed UnreadableOctet). t.printed) (one_text past text _ is (f.ends past lines fits has)) ∙ sym (append-nil (lines ++ f.printed)));
}
units_ends (Err stop) old before after f = record {
  printed = f.printed;
  added = f.added;
  ends = f.ends;
  begun = λ past lines fits has. begun_of_end stop (IsUnitsText past) (lines ++ f.printed) (one_text past) (f.ends past lines fits has);
}
