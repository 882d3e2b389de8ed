use Rattle.std.proofs.Common.{◌≡◌, ◌-◌}
use Rattle.set_route.specs.Routing.{code_for}
use Rattle.set_model.specs.Changeover.{redeclared_from}
use Rattle.set_changeover.specs.Room.{HasRoomAgain}
use Rattle.set_changeover.specs.Parts.{Becomes}
use Rattle.set_changeover.proofs.changeback.redeclare.Given as goal

abbrev pub invariant-loop-alternative : goal.invariant-loop-alternative
invariant-loop-alternative o l = record {
  stands : Becomes l.fn.parts l.parts (redeclared_from (code_for l.number 0) l.alternative);
  links : l.parts.links ≡ l.fn.parts.links;
  room : HasRoomAgain (16 - l.alternative) l.parts;
}
