use Rattle.std.proofs.Common.{◌≡◌, ◌-◌}
use Rattle.set_model.specs.Changeover.{some_declare}
use Rattle.set_model.specs.State.{State, link_count}
use Rattle.set_changeover.specs.Agreement.{StandsFor}
use Rattle.set_changeover.specs.Parts.{kept_of}
use Rattle.set_changeover.proofs.changeback.has_alternative.Given as goal

abbrev pub invariant-loop-alternative : goal.invariant-loop-alternative
invariant-loop-alternative o l = (s : State) → StandsFor (kept_of l.parts) s → some_declare l.number 0 (link_count s) s ≡ some_declare l.number l.alternative (link_count s - l.alternative) s
