use Rattle.std.proofs.Common.{refl, ◌∙◌, ap, sym, subst, ◌≡◌, ◌++◌, true, ℕ, List, Option}
use Rattle.bank_crew.specs.declared.plan.Managed.{Managed}
use Rattle.term_model.specs.Terminal.{opened, told}
use Rattle.term_model.specs.declared.command.Command.TheVariants.{Emergency, Start}
use Rattle.bank_crew.specs.Awaiting.{AsksFrom}
use Rattle.bank_crew.specs.Carrying.{carried_in}
use Rattle.bank_crew.specs.Counts.{answered_in}
use Rattle.bank_crew.specs.Doors.{AskedDue}
use Rattle.bank_crew.specs.Managing.{are_marks, looks_in}
use Rattle.bank_crew.specs.Seats.{link_in}
use Rattle.bank_crew.proofs.Due.{none_due}
use Rattle.bank_crew.proofs.Full.{shift_full}
use Rattle.bank_crew.proofs.Marking.{none_of_turns}
use Rattle.bank_crew.proofs.Running.{runs_over, shift_of}
use Rattle.link_term.specs.Looking.{seen}
use Rattle.link_term.specs.Standing.{Standing}
use Rattle.bank_crew.proofs.terminal.TermShift.work.Goals as goal

-- src/terminal.rt
pub sliced-report-requires : goal.sliced-report-requires
sliced-report-requires g c = record {
  at = ap (λ seat. link_in seat.who) c.new-door.ensures.seat ∙ ap link_in c.link-link.ensures.who
      ∙ sym (ap (λ works. works.inside.link) c.command-2.ensures ∙ ap (λ works. works.inside.link) c.command.ensures ∙ ap (λ inside. inside.link) c.new-works.ensures.inside);
  failed = ap (λ works. works.failed) c.command-2.ensures ∙ ap (λ works. works.failed) c.command.ensures ∙ c.new-works.ensures.failed;
}

pub returns-clause-shift : goal.returns-clause-shift
returns-clause-shift g c =
    let door = c.new-door.result in
    let out = c.sliced-report.new.door in
    let all = out.all in
    let plan = c.args.self.assignment.now.plan in
    let did = c.sliced-report.ensures in
    let told_first = c.command.ensures in
    let second = c.command-2.ensures in
    let managed : out.managed ≡ plan.managed = did.door.0 ∙ c.new-door.ensures.managed in
    let seat = ap (λ seat. link_in seat.who) c.new-door.ensures.seat in
    let number : link_in door.seat.who ≡ c.link-link.result = seat ∙ ap link_in c.link-link.ensures.who in
    let first_due = none_due door.managed (link_in door.seat.who) door.all door.marks door.awaited c.new-door.ensures.made c.new-door.ensures.marks c.new-door.ensures.awaited in
    let due : AskedDue out = did.door.1 first_due in
    let asks : AsksFrom plan.managed (link_in door.seat.who) out.marks all out.awaited =
    subst (λ (n : ℕ). AsksFrom plan.managed n out.marks all out.awaited) did.number
    (subst (λ (m : Option Managed). AsksFrom m (link_in out.seat.who) out.marks all out.awaited) managed due) in
    let first = c.new-line.result in
    let left = c.sliced-report.new.line in
    let does =
    shift_of _ (link_in c.args.self.seat.who) (link_in door.seat.who) c.sliced-report.result _ _ _ c.into_tape-tape.result out.marks did.turns.0 out.awaited _ _ _ did.turns.2
    (did.turns.1 ∙ ap (λ (ms : List ℕ). looks_in ms ++ did.turns.0) c.new-door.ensures.marks)
    (ap (λ it. it.taken) second ∙ ap (λ it. it.taken) told_first ∙ c.new-works.ensures.taken)
    (ap (λ it. it.inside) second ∙ ap (λ it. told Start it.inside) told_first ∙ ap (λ it. told Start (told Emergency it)) c.new-works.ensures.inside
    ∙ ap (λ (n : ℕ). told Start (told Emergency (opened n plan.timers))) (sym number))
    (none_of_turns door.all door.marks c.new-door.ensures.marks)
    c.new-door.ensures.faults
    seat
    (ap (λ (n : ℕ). are_marks n out.marks all) (sym did.number) ∙ c.carried.ensures.marks)
    asks
    refl
    c.reported-told.ensures
    (c.answered.ensures ∙ ap (λ n. answered_in n all) did.number)
    (c.carried.ensures.carried ∙ ap (λ (m : Option Managed). carried_in m (link_in out.seat.who) all) managed ∙ ap (λ n. carried_in plan.managed n all) did.number)
    c.new-line.ensures.put
    c.into_tape-tape.ensures.kept in (
      all,
      c.into_seat-seat.ensures.all,
      record {
        shift = does.0;
        over = runs_over g.L.Line c.args.self.line first.line left.line left.put does.0.line does.0.after.line c.new-line.ensures.line did.line.0
            (left.passes ∙ ap (λ before. g.L.Line.put_so_far before.value ++ left.put) did.line.1 ∙ ap (λ line. g.L.Line.put_so_far line ++ left.put) c.new-line.ensures.before)
            (does.1 ∙ ap (λ (p : List ℕ). seen (g.L.Line.taken_so_far first.line) (g.L.Line.waiting first.line) p (g.L.Line.free first.line)) c.new-line.ensures.put)
            (ap (λ (s : Standing). s.line) does.2);
      },
    )

-- the set told the door so
pub returns-clause-full : goal.returns-clause-full
returns-clause-full g c told =
    let did = c.sliced-report.ensures in
    ap (λ seat. seat.full) c.into_seat-seat.ensures.seat
    ∙ shift_full (c.sliced-report.new.door.seat.full ≡ true) c.args.self.assignment.now.plan (link_in c.new-door.result.seat.who) _ _ _ c.sliced-report.result c.reported-told.result did.turns.0 _ _ did.turns.2
    c.carried.ensures.full c.reported-told.ensures told
