use Rattle.std.proofs.Common.{◌∙◌}
use Rattle.terminal_text.proofs.ForgettingLemmas.{is_over}
use Rattle.terminal_text.proofs.HearingLemmas.{ok_so}
use Rattle.terminal_text.proofs.forgetting.ForgettingBench.end_turn.Goals as goal

pub returns : goal.returns
returns c =
    ok_so c.forget_turn.result
    (λ forgets. is_over c.args.turn c.args.self.now c.tell_moves.new.self c.forget_turn.new.self c.args.rows.now c.show_moved.new.self
    c.forget_turn.new.rows c.deref.result.now c.in_ok-lines.ensures.told (c.deref.ensures.value ∙ c.in_ok-lines.ensures.lines)
    c.in_ok-show_moved.ensures forgets)
    c.forget_turn.ensures
