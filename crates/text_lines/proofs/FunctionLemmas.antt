-- A text whose lines a function tells, as one whose lines a relation tells.
use Rattle.std.proofs.Common.{refl, sym, subst, ℕ, Bool, true, false, suc, nat_lt, List, [], ◌∷◌, length, Option, Some, None, IfSome, Result, Ok, Err, if◌then◌else◌}
use Rattle.text_base.specs.declared.fault.Fault.{Fault}
use Rattle.text_base.specs.declared.fault.Fault.TheVariants.{Input, Memory, Read, Long, Write}
use Rattle.text_base.specs.declared.fault.Stop.{Stop}
use Rattle.text_base.specs.declared.fault.Stop.TheVariants.{Input as InputStops, Memory as MemoryStops}
use Rattle.text_base.specs.Printing.{Printed, Prints, IsBegun}
use Rattle.text_lines.specs.Lines.{IsLinesText, LineOutcome, Rules, goes_on, is_remark, lines_of, lines_text, prints, read_line, stops, text_of_lines}
use Rattle.text_lines.specs.Reading.{IsDone}
use Rattle.text_lines.specs.Talking.{IsCarriedOut}
use Rattle.text_lines.proofs.LineLemmas.{one_text}
use Rattle.text_lines.specs.Talks.{GoesOnBy, IsTalkText, IsTextOfLines, MayBe, MayRead, by_function, have_one}

module _ {S F : Type 0} (rules : Rules S F) where
  -- a line that was carried out by the function
  pub carried_out : (result : Result (Unit {0}) (Stop F)) (n : ℕ) (old : S) (line before after : List ℕ) (new : S)
      → IsDone result (rules.on_line n old line) before after new
      → IsCarriedOut result ((by_function rules).may n old line) before after new
  carried_out (Ok done) n old line before after new d = record { printed = d.printed; added = d.added; may = d.outcome_is }
  carried_out (Err (InputStops fault)) n old line before after new d = d
  carried_out (Err MemoryStops) n old line before after new d = d

  outcome_is : (long remark : Bool) (n : ℕ) (state : S) (line : List ℕ)
      → MayBe long remark (by_function rules) n state line (if long then stops (rules.unreadable n) else (if remark then prints [] state else rules.on_line n state line))
  outcome_is true remark n state line = refl
  outcome_is false true n state line = refl
  outcome_is false false n state line = refl

  is_read : (n : ℕ) (state : S) (line : List ℕ) → MayRead (by_function rules) n state line (read_line rules n state line)
  is_read n state line = outcome_is (nat_lt 4096 (length line)) (is_remark line) n state line

  step : (n : ℕ) (outcome : LineOutcome S F) (lines : List (List ℕ))
      → ((state : S) → IsTextOfLines (by_function rules) n state lines (text_of_lines rules n state lines))
      → GoesOnBy outcome (λ next later. IsTextOfLines (by_function rules) n next lines later) (goes_on outcome (λ next. text_of_lines rules n next lines))
  step n (prints printed state) lines rest = (text_of_lines rules n state lines, rest state, refl)
  step n (stops fault) lines rest = refl

  is_text_of : (n : ℕ) (lines : List (List ℕ)) (state : S) → IsTextOfLines (by_function rules) n state lines (text_of_lines rules n state lines)
  is_text_of n [] state = refl
  is_text_of n (line ∷ lines) state =
      (read_line rules n state line, is_read n state line, step (suc n) (read_line rules n state line) lines (is_text_of (suc n) lines))

  pub is_text : (input : List ℕ) → IsTalkText (by_function rules) input (lines_text rules input)
  is_text input = is_text_of 1 (lines_of input) rules.start

  begun : (input printed : List ℕ) → IsBegun (IsTalkText (by_function rules) input) printed → IsBegun (IsLinesText rules input) printed
  begun input printed b text is = b text (subst (IsTalkText (by_function rules) input) (sym is) (is_text input))

  whole : (input : List ℕ) (text : Printed F) → IsTalkText (by_function rules) input text → IsLinesText rules input text
  whole input text is = one_text (by_function rules) (have_one rules) input text (lines_text rules input) is (is_text input)

  alike : (ran : Result (Unit {0}) (Fault F)) (input : List ℕ) (old new : Option (List ℕ)) → Prints ran (IsTalkText (by_function rules) input) old new
      → Prints ran (IsLinesText rules input) old new
  alike (Ok done) input old new p = record { printed = p.printed; added = p.added; ends = whole input (record { printed = p.printed; fault = None }) p.ends }
  alike (Err (Input fault)) input old new p = record { printed = p.printed; added = p.added; ends = whole input (record { printed = p.printed; fault = Some fault }) p.ends }
  alike (Err Memory) input old new p = record { printed = p.printed; added = p.added; ends = begun input p.printed p.ends }
  alike (Err Read) input old new p = record { printed = p.printed; added = p.added; ends = begun input p.printed p.ends }
  alike (Err Long) input old new p = record { printed = p.printed; added = p.added; ends = begun input p.printed p.ends }
  alike (Err Write) input old new p = record { printed = p.printed; added = p.added; ends = begun input p.printed p.ends }

  pub alike_all : (ran : Result (Unit {0}) (Fault F)) (left old new : Option (List ℕ))
      → IfSome left (λ input. Prints ran (IsTalkText (by_function rules) input) old new) → IfSome left (λ input. Prints ran (IsLinesText rules input) old new)
  alike_all ran None old new p = p
  alike_all ran (Some input) old new p = alike ran input old new p
