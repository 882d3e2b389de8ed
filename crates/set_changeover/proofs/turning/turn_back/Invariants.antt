use Rattle.set_queues.specs.Backs.{back_count}
use Rattle.set_changeover.proofs.Turns.{Turning}
use Rattle.set_changeover.proofs.turning.turn_back.Given as goal

abbrev pub invariant-loop-code : goal.invariant-loop-code
invariant-loop-code o l = Turning l.number l.initial.parts l.parts

abbrev pub decreases-loop-code : goal.decreases-loop-code
decreases-loop-code o l = back_count l.number l.parts.queues.lists
