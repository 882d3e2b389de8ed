-- ENDS THAT ARE NEVER BUSY and have no processor outage, and what the statuses on their lines are (Q.703 11.1).
use Rattle.std.specs.Prelude.{ℕ, List, [], ◌∷◌, All}
use Rattle.term_asks.specs.Plain.{IsPlainUnit}
use Rattle.term_model.specs.Runs.{units_of}
use Rattle.term_model.specs.declared.command.Command.{Command}
use Rattle.pair_steps.specs.declared.step.End.{End}
use Rattle.pair_octets.specs.Wires.{Wires, IsRun}
use Rattle.pair_octets.specs.Passing.{all_turns}
use Rattle.pair_octets.specs.declared.step.EndConfig.{EndConfig}
use Rattle.pair_octets.specs.declared.step.LineLengths.{LineLengths}
use Rattle.pair_octets.specs.declared.step.WireStep.{WireStep}
use Rattle.pair_octets.specs.declared.step.WireStep.TheVariants.{Turn, Command as CommandStep, Ask, Damage}

-- no end is told that it's busy (Q.703 9.2), or has a processor outage (8.1)
abbrev pub IsCalmCommand : Command → Type 0
IsCalmCommand Command.Busy = ⊥
IsCalmCommand Command.Outage = ⊥
IsCalmCommand _ = Unit {0}

abbrev pub IsCalm : WireStep → Type 0
IsCalm (Turn end link) = Unit {0}
IsCalm (CommandStep end link command) = IsCalmCommand command
IsCalm (Ask end who event) = Unit {0}
IsCalm (Damage end link place octet) = Unit {0}

abbrev pub AreCalm : List WireStep → Type 0
AreCalm [] = Unit {0}
AreCalm (step ∷ steps) = IsCalm step × AreCalm steps

-- LAW: then no end sends SIB or SIPO, on whatever lines
abbrev pub EachStatusIsPlain : Type 0
EachStatusIsPlain =
    (a b : EndConfig) (lengths : List LineLengths) (steps : List WireStep) (w : Wires) (run : IsRun a b lengths steps w) → AreCalm steps
    → (end : End) (link : ℕ) → All IsPlainUnit (units_of (all_turns end link steps _ w run.happen))
