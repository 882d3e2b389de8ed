use Rattle.std.proofs.Common.{sym, subst, List, Bool}
use Rattle.terminal_text.proofs.HearingLemmas.{hears_more, over_more}
use Rattle.terminal_text.specs.Answers.{one_by_one}
use Rattle.terminal_text.specs.Hearing.{Hears}
use Rattle.terminal_text.specs.declared.hearing.Hearing.{Hearing}
use Rattle.terminal_text.specs.Showing.{over}
use Rattle.terminal_text.proofs.hearing.hear_bits.Goals as goal

pub loop-preserved : goal.loop-preserved
loop-preserved c =
    let bits = c.args.bits.now in
    let first : Hearing = record { tap = c.new.result; rows = c.new-2.result; turns = 0 } in
    subst (λ (pieces : List (List Bool)). Hears c.args.link pieces c.args.bench.now c.hear_once.new.bench first c.hear_once.new.hearing)
    (sym (over_more c.loop.counter bits))
    (hears_more c.args.link (one_by_one (over c.loop.counter bits)) (one_by_one bits) c.args.bench.now c.loop.bench c.hear_once.new.bench
    first c.loop.hearing c.hear_once.new.hearing c.loop.invariant c.in_ok-hear_once.ensures)
