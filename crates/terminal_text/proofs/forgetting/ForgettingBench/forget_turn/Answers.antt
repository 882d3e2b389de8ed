use Rattle.std.proofs.Common.{refl, ap}
use Rattle.terminal_text.proofs.ForgettingLemmas.{forgets_due, forgets_not}
use Rattle.terminal_text.proofs.HearingLemmas.{ok_so}
use Rattle.terminal_text.specs.declared.forgetting.Forgetting.{Forgetting}
use Rattle.terminal_text.proofs.forgetting.ForgettingBench.forget_turn.Goals as goal

pub returns-then-take_turn : goal.returns-then-take_turn
returns-then-take_turn c =
    ok_so c.forget.result
    (λ done. forgets_due c.args.self.now _ c.args.rows.now c.forget.new.rows c.take_turn.result c.take_turn.new.self.told
    c.take_turn.ensures.due c.if-take_turn.true (ap (λ (p : Forgetting). p.told) c.take_turn.ensures.turn) c.take_turn.ensures.turn refl refl
    done.0 done.1)
    c.forget.ensures

pub returns-else-take_turn : goal.returns-else-take_turn
returns-else-take_turn c =
    forgets_not c.args.self.now _ c.args.rows.now c.take_turn.result c.take_turn.ensures.due c.if-take_turn.false c.take_turn.ensures.turn refl refl refl
