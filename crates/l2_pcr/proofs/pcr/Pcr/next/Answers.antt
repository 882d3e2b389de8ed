use Rattle.std.proofs.Common.{sym, refl, ◌∙◌}
use Rattle.l2_pcr.proofs.Choosing.{next_again, next_first, next_fill}
use Rattle.l2_pcr.proofs.pcr.Pcr.next.Goals as goal

pub returns-in-Some : goal.returns-in-Some
returns-in-Some o c = next_again _ _ _ _ _ c.choice-choice.result _ c.send-head.ensures.bsn c.choice-choice.ensures c.send-head.ensures.header c.send-head.ensures.state _ _ c.in-Again.is (sym c.unacked_at.ensures ∙ c.in-Some.is) refl

pub returns-in-First : goal.returns-in-First
returns-in-First o c = next_first _ _ _ _ _ c.choice-choice.result _ c.send-head.ensures.bsn c.choice-choice.ensures c.send-head.ensures.header c.send-head.ensures.state _ c.in-First.is c.send_new.ensures

pub returns-in-Fill : goal.returns-in-Fill
returns-in-Fill o c = next_fill _ _ _ _ _ c.choice-choice.result _ c.send-head.ensures.bsn c.choice-choice.ensures c.send-head.ensures.header c.send-head.ensures.state c.in-Fill.is refl
