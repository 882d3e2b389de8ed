use Rattle.std.proofs.Common.{rules}
use Rattle.set_queues.proofs.Standing.{queued_stands}
use Rattle.set_changeover.specs.Parts.{kept_of}
use Rattle.set_changeover.proofs.States.{becomes, ahead_for}
use Rattle.set_changeover.proofs.parts.stand_ahead.Goals as goal

pub returns-clause-stands : goal.returns-clause-stands
returns-clause-stands o c = λ s f.
    becomes (ahead_for (kept_of c.args.parts.now) s c.args.order.now c.args.fate f (queued_stands c.args.fate c.requires.queued) c.requires.known) (search rules)
