-- WHAT PASSES ON A LINK in a run: the turns of its terminal at each end, and what each end hears of what the other sends (Q.703 2
-- to 4).
use Rattle.std.specs.Prelude.{◌≡◌, ◌<◌, ◌^◌, ◌==◌, ◌&&◌, ℕ, Bool, true, false, List, [], ◌∷◌, ◌++◌, length, map, Some}
use Rattle.l2_units.specs.declared.profile.Profile.TheVariants.{Narrow}
use Rattle.l2_units.specs.declared.unit.Unit.{Unit as SignalUnit}
use Rattle.set_events.specs.declared.event.Event.{Event}
use Rattle.set_octets.specs.Octets.{AreOctets}
use Rattle.term_model.specs.Hearing.{unit_in}
use Rattle.term_model.specs.Runs.{Doing, marks_of, units_of}
use Rattle.pair_steps.specs.declared.step.End.{End}
use Rattle.pair_steps.specs.declared.step.End.TheVariants.{A, B}
use Rattle.pair_octets.specs.Wires.{Wires, Sides, TakesTurn, Happens, Happen, IsRun}
use Rattle.pair_octets.specs.declared.step.EndConfig.{EndConfig}
use Rattle.pair_octets.specs.declared.step.LineLengths.{LineLengths}
use Rattle.pair_octets.specs.declared.step.WireStep.{WireStep}
use Rattle.pair_octets.specs.declared.step.WireStep.TheVariants.{Turn, Command as CommandStep, Ask, Damage}

abbrev pub other : End → End
other A = B
other B = A

abbrev pub is_same : End → End → Bool
is_same A A = true
is_same A B = false
is_same B A = false
is_same B B = true

-- what a turn did (term_model)
abbrev pub doing_in : (link : ℕ) (old new : Sides) → TakesTurn link old new → Doing
doing_in link old new takes = record {
  octet = Some takes.octet;
  entries = takes.turns.takes.entries;
  put = takes.turn.put ∷ [];
  marks = takes.turns.takes.by_octet.marks;
  unit = takes.unit;
}

-- THE TURNS OF A LINK at an end, of a step and of steps
abbrev pub turns_if : Bool → Doing → List Doing
turns_if true doing = doing ∷ []
turns_if false doing = []

abbrev pub turns_in : End → ℕ → (step : WireStep) (old new : Wires) → Happens step old new → List Doing
turns_in end link (Turn e l) old new takes = turns_if (is_same end e && (link == l)) (doing_in l _ _ takes)
turns_in end link (CommandStep e l command) old new happens = []
turns_in end link (Ask e who event) old new happens = []
turns_in end link (Damage e l place octet) old new happens = []

abbrev pub all_turns : End → ℕ → (steps : List WireStep) (old new : Wires) → Happen steps old new → List Doing
all_turns end link [] old new happen = []
all_turns end link (step ∷ steps) old new happen =
    turns_in end link step old happen.0 happen.1 ++ all_turns end link steps happen.0 new happen.2

-- RUNS ON INTACT LINES: no octet under way is damaged. What others ask than the links' terminals is what users and level 3 ask;
-- and octets are octets. (Contracts see them as numbers.)
abbrev pub IsAskedApart : Event → Type 0
IsAskedApart (Event.Offer body) = AreOctets body
IsAskedApart Event.Take = Unit {0}
IsAskedApart (Event.Find number) = Unit {0}
IsAskedApart (Event.NoAnswer link) = Unit {0}
IsAskedApart (Event.Timed link) = Unit {0}
IsAskedApart (Event.Restore link) = Unit {0}
IsAskedApart (Event.Redeclare link) = Unit {0}
IsAskedApart (Event.BackTimeout link) = Unit {0}
IsAskedApart (Event.Test link) = Unit {0}
IsAskedApart _ = ⊥

abbrev pub IsIntact : WireStep → Type 0
IsIntact (Turn end link) = Unit {0}
IsIntact (CommandStep end link command) = Unit {0}
IsIntact (Ask end who event) = IsAskedApart event
IsIntact (Damage end link place octet) = ⊥

abbrev pub AreIntact : List WireStep → Type 0
AreIntact [] = Unit {0}
AreIntact (step ∷ steps) = IsIntact step × AreIntact steps

-- an end of the narrow profile, whose orders' SIO is an octet
pub record IsNarrowEnd (config : EndConfig) : Type 0 where
  pub narrow : config.set.profile ≡ Narrow
  pub sio : config.set.sio < 2 ^ 8

pub record IsOnIntactLines (a b : EndConfig) (steps : List WireStep) : Type 0 where
  pub narrow_a : IsNarrowEnd a
  pub narrow_b : IsNarrowEnd b
  pub intact : AreIntact steps

-- of the units that these turns of a link sent at one end, those turns at the other heard the first ones, and the others are under
-- way
pub record ArePassed (sends hears : List Doing) : Type 0 where
  pub heard : List SignalUnit
  pub under_way : List SignalUnit
  pub sent_are : units_of sends ≡ heard ++ under_way
  pub heard_are : map unit_in (marks_of hears) ≡ map (λ unit. Some unit) heard

-- LAW: on each link each end hears what the other sent, unit by unit, in order, and nothing else
abbrev pub EachUnitIsHeard : Type 0
EachUnitIsHeard =
    (a b : EndConfig) (lengths : List LineLengths) (steps : List WireStep) (w : Wires) (run : IsRun a b lengths steps w)
    → IsOnIntactLines a b steps → (end : End) (link : ℕ) → link < length lengths
    → ArePassed (all_turns (other end) link steps _ w run.happen) (all_turns end link steps _ w run.happen)
