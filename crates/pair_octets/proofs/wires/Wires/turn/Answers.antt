use Rattle.std.proofs.Common.{◌≡◌}
use Rattle.pair_steps.specs.declared.step.End.TheVariants.{A, B}
use Rattle.pair_octets.specs.Wires.{TakesTurn}
use Rattle.pair_octets.proofs.Seen.{told_of}
use Rattle.pair_octets.proofs.wires.Wires.turn.Goals as goal

pub returns-in-A-clause-turns : goal.returns-in-A-clause-turns
returns-in-A-clause-turns c =
    told_of c.take_turn.result (λ old new turn. (takes : TakesTurn c.args.link old new) × (turn ≡ takes.turn))
    c.args.end A c.args.self.now _ _ c.in-A.is c.self.view_is (c.take_turn.ensures.turns c.self.inside.b)

pub returns-in-B-clause-turns : goal.returns-in-B-clause-turns
returns-in-B-clause-turns c =
    told_of c.take_turn-in-B.result (λ old new turn. (takes : TakesTurn c.args.link old new) × (turn ≡ takes.turn))
    c.args.end B c.args.self.now _ _ c.in-B.is c.self.view_is (c.take_turn-in-B.ensures.turns c.self.inside.a)
