use Rattle.std.proofs.Common.{◌≡◌, ◌≤◌, false, List, ◌++◌, Result}
use Rattle.link_term.specs.declared.fault.TermFault.{TermFault}
use Rattle.term_model.specs.declared.report.TermReport.{TermReport}
use Rattle.link_term.specs.Standing.{Standing, lent, stands}
use Rattle.bank_crew.specs.Managing.{Look}
use Rattle.bank_crew.specs.Shifts.{SlicesFrom, TurnsOf}
use Rattle.bank_crew.proofs.slices.sliced.Given as goal

-- what is left completes it
abbrev pub invariant-loop-left : goal.invariant-loop-left
invariant-loop-left g l = record {
  few : l.left ≤ l.fn.assignment.plan.turns;
  works : l.works.failed ≡ false;
  at : g.D.Door.number l.door ≡ l.works.inside.link;
  number : g.D.Door.number l.door ≡ g.D.Door.number l.fn.door;
  door : g.D.SliceDoor.goes_on l.fn.door l.door;
  line : g.L.Line.is_same l.fn.line l.line;
  so_far : (looks : List Look) × (g.D.SliceDoor.looks l.door ≡ g.D.SliceDoor.looks l.fn.door ++ looks)
      × ((ended : Result TermReport TermFault) (more : List Look) (after : Standing)
      → SlicesFrom l.fn.assignment.plan (g.D.Door.number l.fn.door) l.left l.counted ended more (stands g.D.Door g.L.Line (lent l.works l.door l.line)) after
      → TurnsOf l.fn.assignment.plan (g.D.Door.number l.fn.door) ended (looks ++ more) (stands g.D.Door g.L.Line (lent l.fn.works l.fn.door l.fn.line)) after);
}

abbrev pub decreases-loop-left : goal.decreases-loop-left
decreases-loop-left g l = l.left
