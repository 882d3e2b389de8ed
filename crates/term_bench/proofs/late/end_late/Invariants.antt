use Rattle.std.proofs.Common.{◌≡◌, ◌++◌, drop, take}
use Rattle.set_model.specs.State.{State}
use Rattle.term_bench.specs.Late.{AreLate, ended_from}
use Rattle.term_bench.proofs.late.end_late.Given as goal

abbrev pub invariant-loop-place : goal.invariant-loop-place
invariant-loop-place l = (s : State) → AreLate s l.door.late
    → l.links ≡ ended_from 0 s l.door.set.state (take l.place l.initial.links) ++ drop l.place l.initial.links
