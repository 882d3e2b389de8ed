use Rattle.std.proofs.Common.{refl, arith}
use Rattle.std.proofs.lemmas.Bool.Decides.{nat_tests}
use Rattle.terminal_text.proofs.HearingLemmas.{behind_noted, bit_none, bit_quiet, bit_sent, bit_some, bit_waits, ok_so}
use Rattle.terminal_text.specs.declared.forgetting.ForgettingBench.{ForgettingBench}
use Rattle.terminal_text.proofs.hearing.hear_bit.Goals as goal

pub returns-in_default : goal.returns-in_default
returns-in_default c =
    let old = c.args.bench.now in
    bit_waits c.args.link c.args.bit old (record { managed = c.hear_bit.new.self; plan = old.plan; watches = old.watches; streams = old.streams })
    c.args.hearing.now _
    (bit_none c.in_ok-turn.field-0 c.args.link c.args.bit old.managed c.hear_bit.new.self _ c.hear_bit.new.tap c.in_default.is c.in_ok-turn.ensures.hears)
    refl refl refl refl refl c.hear_bit.ensures.links

pub returns-then-turn-eq0 : goal.returns-then-turn-eq0
returns-then-turn-eq0 c =
    let old = c.args.bench.now in
    let brings = bit_some c.in_ok-turn.field-0 c.args.link c.args.bit old.managed c.hear_bit.new.self c.in-Some.turn _ c.hear_bit.new.tap
    c.in-Some.is c.in_ok-turn.ensures.hears in
    let between : ForgettingBench = record { managed = c.hear_bit.new.self; plan = old.plan; watches = c.note_turn-stopper.new.watches; streams = old.streams } in
    let behind = behind_noted c.args.link c.late-late.result old c.hear_bit.new.self c.in-Some.turn c.deeds.result.now c.note_turn-stopper.result
    c.note_turn-stopper.new.watches c.late-late.ensures.late c.deeds.ensures c.note_turn-stopper.ensures.stopper c.note_turn-stopper.ensures.watches in
    ok_so c.end_turn.result
    (λ forgets. bit_quiet c.args.link c.args.bit old between c.end_turn.new.self c.args.hearing.now _ c.show.new.self
    c.in-Some.turn c.hear_bit.new.tap c.note_turn-stopper.result brings behind (grind (arith, nat_tests, c.if-turn-eq0.true)) c.in_ok-show.ensures
    c.in_ok-hearing.ensures c.hear_bit.ensures.links forgets)
    (rw c.turn-then-turn-eq0.ensures at c.end_turn.ensures)

pub returns : goal.returns
returns c =
    let old = c.args.bench.now in
    let brings = bit_some c.in_ok-turn.field-0 c.args.link c.args.bit old.managed c.hear_bit.new.self c.in-Some.turn _ c.hear_bit.new.tap
    c.in-Some.is c.in_ok-turn.ensures.hears in
    let between : ForgettingBench = record { managed = c.hear_bit.new.self; plan = old.plan; watches = c.note_turn-stopper.new.watches; streams = old.streams } in
    let behind = behind_noted c.args.link c.late-late.result old c.hear_bit.new.self c.in-Some.turn c.deeds.result.now c.note_turn-stopper.result
    c.note_turn-stopper.new.watches c.late-late.ensures.late c.deeds.ensures c.note_turn-stopper.ensures.stopper c.note_turn-stopper.ensures.watches in
    ok_so c.end_turn-else-turn-eq0.result
    (λ forgets. bit_sent c.args.link c.args.bit old between c.end_turn-else-turn-eq0.new.self c.args.hearing.now _
    c.show-else-turn-eq0.new.self c.in-Some.turn c.hear_bit.new.tap _
    c.note_turn-stopper.result brings behind (grind (arith, nat_tests, c.if-turn-eq0.false)) c.unit.ensures c.in_ok-show-2.ensures
    c.in_ok-hearing.ensures c.hear_bit.ensures.links forgets)
    (rw c.turn-else-turn-eq0.ensures at c.end_turn-else-turn-eq0.ensures)
