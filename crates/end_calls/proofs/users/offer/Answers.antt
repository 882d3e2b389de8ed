use Rattle.std.proofs.Common.{arith}
use Rattle.end_calls.proofs.Answering.{offer_answered}
use Rattle.end_calls.proofs.UserLemmas.{offers_told}
use Rattle.end_calls.proofs.users.offer.Goals as goal

pub accepted-requires : goal.accepted-requires
accepted-requires c = offer_answered _ _ _ _ _ c.in-Ok-ask.ensures.ok

pub returns-in-Ok-ask-clause-offers : goal.returns-in-Ok-ask-clause-offers
returns-in-Ok-ask-clause-offers c =
    let so = c.in-Ok-ask.ensures in
    offers_told c.args.user c.args.message.now c.in-Ok.body c.args.end.now c.ask.new.self c.in-Ok-ask.answer c.accepted.result
    (offer_answered _ _ _ _ _ so.ok) c.in-Ok.ensures
    (record { is_user = omega (arith, c.if-user-ge-USERS.false); step = so.ok; links_are = so.links; kept_are = so.kept })
    c.accepted.ensures
