use Rattle.std.proofs.Common.{ap, ◌∙◌, ◌∷◌, [], ◌++◌}
use Rattle.term_bench.specs.declared.turn.Turn.{Turn}
use Rattle.terminal_text.proofs.HearingLemmas.{behind_noted, octet_exchanged, ok_so}
use Rattle.terminal_text.specs.declared.forgetting.ForgettingBench.{ForgettingBench}
use Rattle.terminal_text.proofs.hearing.hear_octet.Goals as goal

pub returns : goal.returns
returns c =
    let turned = c.in_ok-turn.ensures.hears in
    let old = c.args.bench.now in
    let between : ForgettingBench = record { managed = c.hear_octet.new.self; plan = old.plan; watches = c.note_turn-stopper.new.watches; streams = old.streams } in
    ok_so c.end_turn.result
    (λ forgets. octet_exchanged c.args.link c.args.octet old between c.end_turn.new.self c.args.rows.now c.show.new.self
    c.end_turn.new.rows c.args.put.now.items c.push.new.self.items c.in_ok-turn.turn turned.0 c.note_turn-stopper.result turned.1
    (behind_noted c.args.link c.late-late.result old c.hear_octet.new.self c.in_ok-turn.turn c.deeds.result.now c.note_turn-stopper.result
    c.note_turn-stopper.new.watches c.late-late.ensures.late c.deeds.ensures c.note_turn-stopper.ensures.stopper c.note_turn-stopper.ensures.watches)
    c.in_ok-show.ensures
    (c.in_ok-push.ensures.items ∙ ap (λ (t : Turn). c.args.put.now.items ++ t.put ∷ []) c.turn-2.ensures)
    c.hear_octet.ensures.links forgets)
    (rw c.turn-3.ensures at c.end_turn.ensures)
