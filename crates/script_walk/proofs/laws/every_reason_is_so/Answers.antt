use Rattle.script_walk.proofs.Reasons.{every_reason_is_so}
use Rattle.script_walk.proofs.laws.every_reason_is_so.Goals as goal

pub returns : goal.returns
returns c w profile text step read undone = every_reason_is_so w profile text step read undone
