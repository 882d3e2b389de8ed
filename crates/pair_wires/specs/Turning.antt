-- WHAT EACH TURN ASKS in a sound run of two benches on lines: as term_asks has it, of a set that answers by its step.
use Rattle.std.specs.Prelude.{◌≡◌, ℕ, List, [], ◌∷◌}
use Rattle.set_model.specs.History.{IsLegal, after}
use Rattle.term_asks.specs.Asking.{ArePlain, AsksSo, standing_of}
use Rattle.pair_octets.specs.Streams.{IsSoundRun}
use Rattle.pair_octets.specs.Wires.{Wires, Sides, TakesTurn, Happens, Happen, new_wires, seen_from}
use Rattle.pair_octets.specs.declared.step.EndConfig.{EndConfig}
use Rattle.pair_octets.specs.declared.step.LineLengths.{LineLengths}
use Rattle.pair_octets.specs.declared.step.WireStep.{WireStep}
use Rattle.pair_octets.specs.declared.step.WireStep.TheVariants.{Turn, Command as CommandStep, Ask, Damage}

-- from where the link stood to where it stands, unit by unit; and these entries lead the set from what it held to what
-- it holds
pub record TurnAsksSo (link : ℕ) (old new : Sides) (takes : TakesTurn link old new) : Type 0 where
  pub plain : ArePlain takes.turns.takes.by_octet.marks
  pub asks : AsksSo link takes.turns.was.terminal.commands.start takes.turns.was.terminal.commands.stop takes.turns.takes.by_octet.marks
      (standing_of takes.turns.was.terminal) (standing_of takes.turns.now.terminal) takes.turns.takes.entries takes.unit
  pub legal : IsLegal old.near.set.state takes.turns.takes.entries
  pub leads : after old.near.set.state takes.turns.takes.entries ≡ new.near.set.state

-- of a step that is a turn, and of each such step of a run
abbrev pub IfTurn : (step : WireStep) (old new : Wires) → Happens step old new → Type 0
IfTurn (Turn end link) old new takes = TurnAsksSo link (seen_from end old) (seen_from end new) takes
IfTurn (CommandStep end link command) old new happens = Unit {0}
IfTurn (Ask end who event) old new happens = Unit {0}
IfTurn (Damage end link place octet) old new happens = Unit {0}

abbrev pub AtEachTurn : (steps : List WireStep) (old new : Wires) → Happen steps old new → Type 0
AtEachTurn [] old new happen = Unit {0}
AtEachTurn (step ∷ steps) old new happen = IfTurn step old happen.0 happen.1 × AtEachTurn steps happen.0 new happen.2

-- LAW
abbrev pub EachTurnAsksSo : Type 0
EachTurnAsksSo =
    (a b : EndConfig) (lengths : List LineLengths) (steps : List WireStep) (w : Wires) (run : IsSoundRun a b lengths steps w)
    → AtEachTurn steps (new_wires a b lengths) w run.run.happen
