use Rattle.text_units.proofs.ReaderLemmas.{units_reads}
use Rattle.text_units.proofs.units_reading.UnitsReaderPrinter.read.Goals as goal

pub returns : goal.returns
returns c = units_reads c.read_all.result _ _ _ _ _ c.read_all.ensures
