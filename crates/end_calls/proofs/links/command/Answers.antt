use Rattle.std.proofs.Common.{ap, sym}
use Rattle.end_calls.specs.Looking.{unsettled}
use Rattle.end_calls.specs.declared.fault.CallFault.{CallFault}
use Rattle.set_events.specs.declared.answer.Refusal.{Refusal as SetRefusal}
use Rattle.end_calls.proofs.links.command.Goals as goal

pub returns-in-Err-clause-commands : goal.returns-in-Err-clause-commands
returns-in-Err-clause-commands c =
    let so = c.in-Err.ensures.err in (
      unsettled c.in-Some.command (ap (λ (why : SetRefusal). CallFault.Refused why) so.0) (sym c.in-Some.ensures) so.1 so.2,
      so.3,
    )
