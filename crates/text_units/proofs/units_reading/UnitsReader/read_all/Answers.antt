use Rattle.text_base.specs.declared.fault.Stop.TheVariants.{Memory}
use Rattle.text_base.proofs.PrintLemmas.{passed_on}
use Rattle.text_units.proofs.ReaderLemmas.{read_fed, stops_broken}
use Rattle.text_units.proofs.units_reading.UnitsReader.read_all.Goals as goal

pub returns : goal.returns
returns c =
    read_fed c.read-read.result c.args.self.now _ c.args.text.now c.read-read.new.octets.items c.args.out.now.items c.feed.new.out.items
    (rw c.clear.ensures.items at c.read-read.ensures) (rw c.deref.ensures.value at c.in_ok-feed.ensures)

pub returns-in_err-feed : goal.returns-in_err-feed
returns-in_err-feed c =
    rw (passed_on c.from_residual.result Memory c.from_residual.ensures.1)
    (stops_broken c.read-read.result c.args.self.now c.read-read.new.self c.args.text.now c.read-read.new.octets.items c.args.out.now.items c.feed.new.out.items
    (rw c.clear.ensures.items at c.read-read.ensures) (rw c.deref.ensures.value at c.in_err-feed.ensures))
