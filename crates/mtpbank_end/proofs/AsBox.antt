-- A handle owns what a box of the same value owns.
use mathlib.Core.List.{[]}
use mir.Syntax.{impl, tnil, dnil}
use Rattle.std_alloc.proofs.BoxSteps.Form.{Bx, D}
use Rattle.std_heap.specs.contracts.Global as Heap
use Rattle.std_heap.specs.contracts.GlobalAllocator.TheImpl.{ghosts, dict}
use Rattle.std_heap.proofs.Global.TheLaws as heap
use Rattle.term_managed.specs.contracts.bench.ManagedBench as Managed
use Rattle.term_managed.proofs.bench.ManagedBench.TheLaws as managed
use Rattle.mtpbank_end.specs.contracts.held.End as End

abbrev pub boxed : Bx
boxed = record {
  row = Managed.the_row;
  laws = managed.the_row_laws;
  al = record { row = Heap.the_row; laws = heap.the_row_laws; g = ghosts; d = dict; drops = impl [] tnil dnil };
}

abbrev pub box_of : End.the_row.Denot → D boxed
box_of end = record { ptr = end.at; alloc = end.alloc; value = end.bench }
