use Rattle.std.proofs.Common.{refl, sym, ◌∙◌}
use Rattle.text_base.specs.declared.fault.Stop.TheVariants.{Memory}
use Rattle.text_base.proofs.PrintLemmas.{passed_on}
use Rattle.text_units.proofs.ReaderLemmas.{ends_left, ends_memory}
use Rattle.text_units.proofs.units_reading.UnitsReader.finish.Goals as goal

pub returns-then-is_some : goal.returns-then-is_some
returns-then-is_some c = ends_left c.args.self c.args.out.now.items (sym c.is_some.ensures ∙ c.if-is_some.true)

pub returns-in_err-counts_line : goal.returns-in_err-counts_line
returns-in_err-counts_line c = rw (passed_on c.from_residual.result Memory c.from_residual.ensures.1) (ends_memory c.args.self c.args.out.now.items c.args.out.now.items refl)

pub returns-in_err-extend_from_slice : goal.returns-in_err-extend_from_slice
returns-in_err-extend_from_slice c =
    rw (passed_on c.from_residual-in_err-extend_from_slice.result Memory c.from_residual-in_err-extend_from_slice.ensures.1)
    (ends_memory c.args.self c.args.out.now.items c.extend_from_slice.new.self.items c.in_err-extend_from_slice.ensures.items)
