-- AN END IS LENT: once that ends, the handle holds what was written last.
use base.Fml.{Fml}
use denote.Follow.{follows}
use denote.Ref.{MutBor}
use Rattle.term_managed.specs.contracts.bench.ManagedBench as Managed
use Rattle.mtpbank_end.specs.contracts.held.End as End

abbrev pub with_bench : End.the_row.Denot → Managed.the_row.Denot → End.the_row.Denot
with_bench end bench = record end { bench = bench }

abbrev pub end_follows : MutBor End.the_row.Denot → MutBor Managed.the_row.Denot → Fml
end_follows end bench = follows End.the_row Managed.the_row end.ghost_name bench.ghost_name (with_bench end.now)
