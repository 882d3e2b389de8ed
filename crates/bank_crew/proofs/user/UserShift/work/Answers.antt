use Rattle.std.proofs.Common.{ap, subst}
use Rattle.set_events.specs.declared.event.Actor.{Actor}
use Rattle.bank_crew.specs.Jobs.{DoesJob, duty_of}
use Rattle.bank_crew.proofs.user.UserShift.work.Goals as goal

-- src/user.rt
pub returns-clause-job : goal.returns-clause-job
returns-clause-job g c =
    let all = c.do_job-told.new.caller.all in
    let duty = duty_of c.args.self.job in (
      all,
      c.into_seat-seat.ensures.all,
      subst (λ (w : Actor). DoesJob w duty c.do_job-told.result all) (ap (λ seat. seat.who) c.new-caller.ensures.seat) c.do_job-told.ensures.job,
    )
