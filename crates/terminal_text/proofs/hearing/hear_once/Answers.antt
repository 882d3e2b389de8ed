use Rattle.std.proofs.Common.{sym, subst, take, false, List, Bool, ◌∷◌, []}
use Rattle.terminal_text.proofs.HearingLemmas.{hears_more, map_more}
use Rattle.terminal_text.specs.Answers.{one_by_one}
use Rattle.terminal_text.specs.Hearing.{Hears}
use Rattle.terminal_text.proofs.hearing.hear_once.Goals as goal

pub loop-bit-preserved : goal.loop-bit-preserved
loop-bit-preserved c =
    let bits = c.args.bits.now in
    subst (λ (pieces : List (List Bool)). Hears c.args.link pieces c.args.bench.now c.hear_bit.new.bench c.args.hearing.now
    c.hear_bit.new.hearing)
    (sym (map_more (λ (bit : Bool). bit ∷ []) bits c.loop-bit.bit-index false c.loop-bit-test.true))
    (hears_more c.args.link (one_by_one (take c.loop-bit.bit-index bits)) _ c.args.bench.now c.loop-bit.bench c.hear_bit.new.bench
    c.args.hearing.now c.loop-bit.hearing c.hear_bit.new.hearing c.loop-bit.invariant c.in_ok-hear_bit.ensures)
