use Rattle.std.proofs.Common.{arith}
use Rattle.end_calls.proofs.Answering.{find_answered}
use Rattle.end_calls.proofs.UserLemmas.{finds_told}
use Rattle.end_calls.proofs.users.find.Goals as goal

pub found-requires : goal.found-requires
found-requires c = find_answered _ _ _ _ _ c.in-Ok.ensures.ok

pub returns-in-Ok-clause-finds : goal.returns-in-Ok-clause-finds
returns-in-Ok-clause-finds c =
    let so = c.in-Ok.ensures in
    finds_told c.args.user c.args.number c.args.end.now c.ask.new.self c.in-Ok.answer c.found.result (find_answered _ _ _ _ _ so.ok)
    (record { is_user = omega (arith, c.if-user-ge-USERS.false); step = so.ok; links_are = so.links; kept_are = so.kept })
    c.found.ensures
