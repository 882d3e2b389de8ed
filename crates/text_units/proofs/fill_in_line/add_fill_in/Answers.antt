use Rattle.std.proofs.Common.{take}
use Rattle.std.specs.Result.{is_ok}
use Rattle.l2_units.specs.declared.unit.Unit.TheVariants.{Fisu}
use Rattle.text_units.specs.UnitsText.{unit_text}
use Rattle.text_units.proofs.FillInLemmas.{added_whole, whole_line}
use Rattle.text_units.proofs.fill_in_line.add_fill_in.Goals as goal

pub returns : goal.returns
returns c =
    added_whole (is_ok c.extend_from_slice.result) c.args.out.now.items (take c.put_words-end.result c.put_words-end.new.line) (unit_text (Fisu c.args.head))
    c.extend_from_slice.new.self.items c.extend_from_slice.ensures.items
    (whole_line c.args.head
    (take c.put_words-bsn.result c.put_words-bsn.new.line) (take c.put_number-bib.result c.put_number-bib.new.line)
    (take c.put_words-fsn.result c.put_words-fsn.new.line) (take c.put_number-fib.result c.put_number-fib.new.line)
    (take c.put_words-end.result c.put_words-end.new.line) c.bib_words.result.now c.fib_end.result.now
    c.put_words-bsn.ensures.put c.put_number-bib.ensures.put c.put_words-fsn.ensures.put c.put_number-fib.ensures.put
    c.put_words-end.ensures.put c.bib_words.ensures.value c.fib_end.ensures.value)
