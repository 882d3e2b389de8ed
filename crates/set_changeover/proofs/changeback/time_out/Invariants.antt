use Rattle.std.proofs.Common.{◌≡◌}
use Rattle.set_route.specs.Routing.{code_for}
use Rattle.set_model.specs.Changeover.{released_from}
use Rattle.set_changeover.specs.Room.{CanComeBack}
use Rattle.set_changeover.specs.Parts.{IsWhole, Becomes}
use Rattle.set_changeover.proofs.changeback.time_out.Given as goal

abbrev pub invariant-loop-alternative : goal.invariant-loop-alternative
invariant-loop-alternative o l = record {
  whole : IsWhole l.parts;
  links : l.parts.links ≡ l.fn.parts.links;
  room : CanComeBack l.number l.parts;
  stands : Becomes l.fn.parts l.parts (released_from (code_for l.number 0) l.alternative);
}
