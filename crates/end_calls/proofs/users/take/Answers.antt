use Rattle.std.proofs.Common.{arith}
use Rattle.end_calls.proofs.Answering.{take_answered}
use Rattle.end_calls.proofs.UserLemmas.{takes_told}
use Rattle.end_calls.proofs.users.take.Goals as goal

pub taken-requires-clause-answers : goal.taken-requires-clause-answers
taken-requires-clause-answers c = take_answered _ _ _ _ c.in-Ok.ensures.ok

pub returns-in-Ok-clause-takes : goal.returns-in-Ok-clause-takes
returns-in-Ok-clause-takes c =
    let so = c.in-Ok.ensures in
    takes_told c.args.user c.args.room.now c.taken.new.room c.args.end.now c.ask.new.self c.in-Ok.answer c.taken.result
    (record { is_user = omega (arith, c.if-user-ge-USERS.false); step = so.ok; links_are = so.links; kept_are = so.kept })
    c.taken.ensures
