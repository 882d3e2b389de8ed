use Rattle.std.proofs.Common.{subst, ◌∷◌, [], Option}
use Rattle.term_bench.proofs.HearingLemmas.{told_on}
use Rattle.term_bench.specs.Waiting.{HearsBit}
use Rattle.term_bench.specs.declared.turn.Turn.{Turn}
use Rattle.term_managed.proofs.CallLemmas.{broken_of}
use Rattle.term_managed.proofs.bench.ManagedBench.hear_bit.Goals as goal

pub returns-in_err-go_on-in-Some-clause-breaks : goal.returns-in_err-go_on-in-Some-clause-breaks
returns-in_err-go_on-in-Some-clause-breaks g c =
    let turned = subst (λ (found : Option Turn). HearsBit g.T.Tap.told found c.args.link c.args.bit c.self.inside.bench c.hear_bit.new.self
    c.args.tap.now c.hear_bit.new.tap) c.in-Some.is c.in_ok-hear_bit.ensures.hears in
    told_on c.from_residual-in_err-go_on-in-Some.result _ _ c.from_residual-in_err-go_on-in-Some.ensures.1
    (broken_of c.args.link (c.args.bit ∷ []) c.args.self.now c.self.inside.bench c.hear_bit.new.self c.self.inside.kept.items c.in-Some.turn
    turned.0 c.in_err-go_on-in-Some.field-0.0 c.go_on.new.self c.self.view_is turned.1 c.in_err-go_on-in-Some.ensures.breaks)
