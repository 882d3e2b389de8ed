use Rattle.std.proofs.Common.{subst}
use Rattle.pair_streams.specs.Arrived.{AreDone}
use Rattle.pair_streams.proofs.Arrived.{all_arrived, all_taken, all_accounted}
use Rattle.pair_rises.proofs.Handing.{all_handed_by_moves, all_accounted_by_moves}
use Rattle.pair_world.proofs.world.World.is_idle.Goals as goal

pub returns-then-are_done-clause-arrived : goal.returns-then-are_done-clause-arrived
returns-then-are_done-clause-arrived o c told = all_arrived _ (record {
  at_a = subst AreDone c.counts.ensures.value (c.are_done.ensures.0 c.if-are_done.true);
  at_b = subst AreDone c.counts-then-are_done.ensures.value (c.are_done-then-are_done.ensures.0 told);
})

pub returns-then-are_done-clause-accounted : goal.returns-then-are_done-clause-accounted
returns-then-are_done-clause-accounted o c told = all_accounted _ (record {
  at_a = subst AreDone c.counts.ensures.value (c.are_done.ensures.0 c.if-are_done.true);
  at_b = subst AreDone c.counts-then-are_done.ensures.value (c.are_done-then-are_done.ensures.0 told);
})

pub returns-then-are_done-clause-taken : goal.returns-then-are_done-clause-taken
returns-then-are_done-clause-taken o c told = all_taken _ (record {
  at_a = subst AreDone c.counts.ensures.value (c.are_done.ensures.0 c.if-are_done.true);
  at_b = subst AreDone c.counts-then-are_done.ensures.value (c.are_done-then-are_done.ensures.0 told);
})

pub returns-then-are_done-clause-handed_by_moves : goal.returns-then-are_done-clause-handed_by_moves
returns-then-are_done-clause-handed_by_moves o c told = all_handed_by_moves _ (record {
  at_a = subst AreDone c.counts.ensures.value (c.are_done.ensures.0 c.if-are_done.true);
  at_b = subst AreDone c.counts-then-are_done.ensures.value (c.are_done-then-are_done.ensures.0 told);
})

pub returns-then-are_done-clause-accounted_by_moves : goal.returns-then-are_done-clause-accounted_by_moves
returns-then-are_done-clause-accounted_by_moves o c told = all_accounted_by_moves _ (record {
  at_a = subst AreDone c.counts.ensures.value (c.are_done.ensures.0 c.if-are_done.true);
  at_b = subst AreDone c.counts-then-are_done.ensures.value (c.are_done-then-are_done.ensures.0 told);
})
