use Rattle.text_units.proofs.ReaderLemmas.{units_ends}
use Rattle.text_units.proofs.units_reading.UnitsReaderPrinter.end.Goals as goal

pub returns : goal.returns
returns c = units_ends c.finish.result c.args.self _ _ c.finish.ensures
