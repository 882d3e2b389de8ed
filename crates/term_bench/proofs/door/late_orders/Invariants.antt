use Rattle.std.proofs.Common.{◌≡◌, ◌<◌, ℕ, Some, length, slice_get}
use Rattle.set_model.specs.State.{late_at}
use Rattle.term_bench.proofs.door.late_orders.Given as goal

abbrev pub invariant-loop-link : goal.invariant-loop-link
invariant-loop-link l = record {
  many : length l.counts ≡ 16;
  so_far : (m : ℕ) → m < l.link → slice_get l.counts m ≡ Some (late_at m l.set.state);
}
