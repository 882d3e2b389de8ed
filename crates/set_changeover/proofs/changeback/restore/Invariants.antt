use Rattle.std.proofs.Common.{◌≡◌}
use Rattle.set_model.specs.Changeover.{declared_from}
use Rattle.set_changeover.specs.Room.{HasRoomFrom}
use Rattle.set_changeover.specs.Parts.{Becomes, IsWhole}
use Rattle.set_changeover.proofs.changeback.restore.Given as goal

abbrev pub invariant-loop-alternative : goal.invariant-loop-alternative
invariant-loop-alternative o l = record {
  stands : Becomes l.fn.parts l.parts (declared_from l.number 0 l.alternative);
  whole : IsWhole l.parts;
  links : l.parts.links ≡ l.fn.parts.links;
  room : HasRoomFrom l.alternative l.parts;
}
