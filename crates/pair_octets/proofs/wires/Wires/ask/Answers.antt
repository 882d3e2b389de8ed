use Rattle.std.proofs.Common.{◌≡◌}
use Rattle.pair_steps.specs.declared.step.End.TheVariants.{A, B}
use Rattle.pair_octets.specs.Wires.{IsAsked}
use Rattle.pair_octets.proofs.Seen.{told_of}
use Rattle.pair_octets.proofs.wires.Wires.ask.Goals as goal

pub returns-in-A-clause-answers : goal.returns-in-A-clause-answers
returns-in-A-clause-answers c =
    told_of c.ask_bench.result (λ old new answer. (asked : IsAsked c.args.who c.args.event.now old new) × (answer ≡ asked.answer))
    c.args.end A c.args.self.now _ _ c.in-A.is c.self.view_is
    (c.ask_bench.ensures.answers c.self.inside.b c.self.inside.to_a c.self.inside.to_b)

pub returns-in-B-clause-answers : goal.returns-in-B-clause-answers
returns-in-B-clause-answers c =
    told_of c.ask_bench-in-B.result (λ old new answer. (asked : IsAsked c.args.who c.args.event.now old new) × (answer ≡ asked.answer))
    c.args.end B c.args.self.now _ _ c.in-B.is c.self.view_is
    (c.ask_bench-in-B.ensures.answers c.self.inside.a c.self.inside.to_b c.self.inside.to_a)
