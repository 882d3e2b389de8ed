-- WHAT C HOLDS: the address of an end, which owns what a box of it owns.
use base.Fml.{Fml}
use base.Stored.{Coded}
use denote.RawPtr.{Ptr}
use Rattle.std.specs.Box.Ownership.{box_owns}
use Rattle.std.specs.Global.{Global}
use Rattle.std_heap.specs.contracts.GlobalAllocator.TheImpl.{ghosts}
use Rattle.term_managed.specs.contracts.bench.ManagedBench.{the_row}

abbrev pub end_owns : Global → Ptr → the_row.Denot → Fml
end_owns alloc = box_owns (ghosts.dealloc_token alloc) the_row

abbrev pub bench_coded : Coded the_row.Denot
bench_coded = the_row.coded
