use Rattle.std.proofs.Common.{◌∙◌, arith, sym}
use Rattle.end_calls.proofs.TellingLemmas.{none_left, one_passed}
use Rattle.end_calls.proofs.telling.behind.Goals as goal

pub unreachable-requires : goal.unreachable-requires
unreachable-requires c =
    let none = none_left c.args.entries c.loop-passed.passed (sym c.loop-passed.invariant ∙ c.in_default.ensures) in
    omega (arith, none, c.loop-passed-test.true, c.min-fewer.ensures, c.len.ensures)

pub loop-passed-preserved : goal.loop-passed-preserved
loop-passed-preserved c =
    one_passed c.args.entries c.next.new.self c.in-Some.field-0 c.loop-passed.passed (sym c.loop-passed.invariant ∙ c.in-Some.ensures)
