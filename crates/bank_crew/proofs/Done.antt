-- What a set came to whose seats were gathered.
use Rattle.std.proofs.Common.{arith, ◌≡◌, ◌∙◌, ap, sym, subst, ℕ, min, map, List, [], ◌∷◌, ◌++◌, length, All, Result, Ok, Err, IfOk}
use Rattle.set_ledger.specs.Ending.{IsFaithful, IsTrulyFull}
use Rattle.std.proofs.lemmas.List.Elements.{All-cons, All-head, All-nil, All-tail}
use Rattle.set_ledger.specs.Seats.{SeatState}
use Rattle.bank_crew.specs.declared.end.SetEnd.{SetEnd}
use Rattle.bank_crew.specs.declared.fault.CrewFault.{CrewFault}
use Rattle.bank_crew.specs.declared.fault.UserFault.{UserFault}
use Rattle.bank_crew.specs.Ends.{AreTrulyFull, EndsFull, IsDone, IsDoneOver, IsEndOf, LinedTask, counted}
use Rattle.bank_crew.specs.Jobs.{DidJobs}
use Rattle.bank_crew.specs.Keeping.{AreTerminals, AreUsers, KeepsJob, KeepsShift}
use Rattle.bank_crew.specs.Shifts.{DidShiftsOver}
use Rattle.line_ring.specs.declared.line.Line as line_end
use Rattle.bank_crew.specs.declared.crew.Ended.{Ended}
use Rattle.link_term.specs.declared.fault.TermFault.{TermFault}
use Rattle.bank_crew.specs.declared.report.ShiftReport.{ShiftReport}
use Rattle.bank_crew.specs.declared.report.UserReport.{UserReport}
use Rattle.bank_crew.proofs.Doing.{asked_nothing, did_jobs, did_shifts, did_shifts_over, many_kept, told_truth}

-- the first of some
front_of : {X : Type 0} (P : X → Type 0) (xs ys : List X) → All P (xs ++ ys) → All P xs
front_of P [] ys all = All-nil P
front_of P (x ∷ xs) ys all = All-cons P x xs (All-head P x (xs ++ ys) all) (front_of P xs ys (All-tail P x (xs ++ ys) all))

pub is_done : {L : Type 0} (l : line_end.Ghosts L) (task : LinedTask L) (result : Result SetEnd CrewFault) (many links : ℕ) (users terminals : List SeatState)
    (told : List (Result UserReport UserFault)) (reports : List (Result ShiftReport TermFault))
    → IfOk result (IsEndOf task.config) → IfOk result (λ end. (end.users.items ≡ told) × All (IsFaithful end.closed.base.books end.closed.history.items) users × All (IsTrulyFull end.closed.base end.closed.history.items) users)
    → IfOk result (λ end. All (IsFaithful end.closed.base.books end.closed.history.items) terminals × All (IsTrulyFull end.closed.base end.closed.history.items) terminals) → IfOk result (λ end. end.reports.items ≡ reports)
    → AreUsers many task.jobs users told → many ≡ task.users
    → AreTerminals l task.lines links task.plan terminals reports → links ≡ task.config.links → IfOk result (IsDoneOver l task)
is_done l task (Err fault) many links users terminals told reports closed of_users of_terminals of_reports us all_users them all_links = tt
is_done l task (Ok end) many links users terminals told reports closed of_users of_terminals of_reports us all_users them all_links =
    let books = end.closed.base.books in
    let history = end.closed.history.items in
    let jobs = did_jobs 0 task.jobs us.promises us.kept.ends books history us.promised.are us.kept.each (subst (All (IsFaithful books history)) us.kept.seats_are of_users.1) in
    let kept = them.gathered.kept in
    let seats : terminals ≡ map (λ (end : Ended SeatState (Result ShiftReport TermFault)). end.seat) kept.ends ++ them.idle =
    them.gathered.seats_are ∙ ap (λ (front : List SeatState). front ++ them.idle) kept.seats_are in
    let shifts = did_shifts_over l 0 task.plan task.lines them.promises kept.ends them.idle books history them.promised.are kept.each (subst (All (IsFaithful books history)) seats of_terminals.0) in
    let count = many_kept (KeepsShift l) them.promises them.gathered.run reports kept in
    let over = subst (λ (ends : List (Result ShiftReport TermFault)). DidShiftsOver l 0 task.plan task.lines ends books history) (sym (of_reports ∙ kept.told_are)) shifts.0 in
    let done : IsDone (counted task) end = record {
      closed = closed;
      users = ap length of_users.0 ∙ many_kept KeepsJob us.promises users told us.kept ∙ us.promised.many ∙ all_users;
      jobs = subst (λ (ends : List (Result UserReport UserFault)). DidJobs 0 task.jobs ends books history) (sym (of_users.0 ∙ us.kept.told_are)) jobs;
      terminals = ap length of_reports ∙ count ∙ them.promised.many ∙ ap (min (length task.lines)) all_links;
      shifts = did_shifts l 0 task.plan task.lines end.reports.items books history over;
      idle = λ link from to.
          asked_nothing (length them.promises) link them.idle books history them.promised.new shifts.1
          (omega (arith, from, them.promised.many)) (omega (arith, to, all_links, them.promised.all));
      users_full = subst (AreTrulyFull UserFault.Exhausted end) (sym (of_users.0 ∙ us.kept.told_are))
          (told_truth KeepsJob UserFault.Exhausted (EndsFull end) (λ p e kept. kept.2) us.promises us.kept.ends us.kept.each
          (subst (All (IsTrulyFull end.closed.base history)) us.kept.seats_are of_users.2));
      terminals_full = subst (AreTrulyFull TermFault.Exhausted end) (sym (of_reports ∙ kept.told_are))
          (told_truth (KeepsShift l) TermFault.Exhausted (EndsFull end) (λ p e kept. kept.2) them.promises kept.ends kept.each
          (front_of (IsTrulyFull end.closed.base history) (map (λ (end : Ended SeatState (Result ShiftReport TermFault)). end.seat) kept.ends) them.idle
          (subst (All (IsTrulyFull end.closed.base history)) seats of_terminals.1)));
    } in
    record { done = done; over = over }
