-- WHAT IS UNDER WAY TO EACH END of each link in a sound run of two benches on lines, unit by unit: what was under way when
-- the link was last out of service there, or told to stop, and what was sent since.
use Rattle.std.specs.Prelude.{◌≡◌, ◌<◌, ◌||◌, ◌-◌, ℕ, Bool, true, false, List, [], ◌∷◌, ◌++◌, length, map, drop, Option, Some, None, slice_get, if◌then◌else◌}
use Rattle.std.specs.List.{flat_map}
use Rattle.std.specs.Option.{option_to_list}
use Rattle.l2_bits.specs.declared.marks.Mark.{Mark}
use Rattle.l2_units.specs.declared.unit.Unit.{Unit as SignalUnit}
use Rattle.set_events.specs.declared.answer.Answer.{Answer}
use Rattle.set_events.specs.declared.event.Event.{Event}
use Rattle.set_events.specs.declared.history.Entry.{Entry}
use Rattle.term_asks.specs.Asking.{Standing, out, aligning, ready, waiting, served, standing_of}
use Rattle.term_bench.specs.Ends.{AtLink}
use Rattle.term_model.specs.Hearing.{unit_in}
use Rattle.term_model.specs.Runs.{Doing, marks_of, units_of}
use Rattle.pair_steps.specs.declared.step.End.{End}
use Rattle.pair_octets.specs.Passing.{all_turns, other, turns_in}
use Rattle.pair_octets.specs.Streams.{IsSoundRun}
use Rattle.pair_octets.specs.Wires.{Wires, Happens, Happen, new_wires, seen_from}
use Rattle.pair_octets.specs.declared.step.EndConfig.{EndConfig}
use Rattle.pair_octets.specs.declared.step.LineLengths.{LineLengths}
use Rattle.pair_octets.specs.declared.step.WireStep.{WireStep}
use Rattle.pair_octets.specs.declared.step.WireStep.TheVariants.{Turn, Command as CommandStep, Ask, Damage}

-- a unit under way, and whether the far end's set gave it; else the terminal there made it
pub record Carried : Type 0 where
  pub unit : SignalUnit
  pub given : Bool

-- the next to come in front: what was under way when the link was last marked, and behind it what was sent since
pub record Way : Type 0 where
  pub old : List Carried
  pub fresh : List Carried

-- to each end on each link
abbrev pub Ways : Type 0
Ways = End → ℕ → Way

abbrev pub carried_in : Way → List Carried
carried_in way = way.old ++ way.fresh

-- at first there's nothing under way
abbrev pub no_ways : Ways
no_ways end link = record { old = []; fresh = [] }

-- MARKED: the link's terminal is out of service, or was told to stop
abbrev pub is_out : Standing → Bool
is_out out = true
is_out aligning = false
is_out ready = false
is_out waiting = false
is_out served = false

abbrev pub is_marked : Option AtLink → Bool
is_marked None = true
is_marked (Some at) = is_out (standing_of at.terminal) || at.terminal.commands.stop

-- WHAT TURNS DO: as many units leave the front as are heard, and what is sent joins it behind
abbrev pub heard_in : List Mark → List SignalUnit
heard_in marks = flat_map (λ mark. option_to_list (unit_in mark)) marks

-- what a set gives is its answer to Next
abbrev pub gives_by : Event → Answer → Bool
gives_by (Event.Next link) (Answer.Sent unit) = true
gives_by _ _ = false

abbrev pub gives_unit : List Entry → Bool
gives_unit [] = false
gives_unit (entry ∷ entries) = gives_by entry.event entry.answer || gives_unit entries

abbrev pub sent_by : Doing → List Carried
sent_by doing = map (λ unit. record { unit = unit; given = gives_unit doing.entries }) (option_to_list doing.unit)

abbrev pub sent_in : List Doing → List Carried
sent_in doings = flat_map sent_by doings

-- so many leave the front
abbrev pub left_by : ℕ → Way → Way
left_by count way = record { old = drop count way.old; fresh = drop (count - length way.old) way.fresh }

abbrev pub joined_by : List Carried → Way → Way
joined_by sent way = record way { fresh = way.fresh ++ sent }

-- where the link is marked, all is of old
abbrev pub settled_if : Bool → Way → Way
settled_if marked way = if marked then record { old = carried_in way; fresh = [] } else way

-- A STEP: of a turn at that end so many leave, of a turn at the other what is sent joins; others move no unit.
-- Then the way of a link that is marked is settled.
abbrev pub way_by : ℕ → (end : End) (link : ℕ) (step : WireStep) (old new : Wires) → Happens step old new → Way → Way
way_by count end link step old new happens way =
    settled_if (is_marked (slice_get (seen_from end new).near.links link))
    (joined_by (sent_in (turns_in (other end) link step old new happens)) (left_by count way))

abbrev pub Counts : Type 0
Counts = End → ℕ → ℕ

abbrev pub ways_by : Counts → (step : WireStep) (old new : Wires) → Happens step old new → Ways → Ways
ways_by counts step old new happens ways end link = way_by (counts end link) end link step old new happens (ways end link)

-- on an intact line those that are heard
abbrev pub way_after : (end : End) (link : ℕ) (step : WireStep) (old new : Wires) → Happens step old new → Way → Way
way_after end link step old new happens way =
    way_by (length (heard_in (marks_of (turns_in end link step old new happens)))) end link step old new happens way

abbrev pub ways_after : (step : WireStep) (old new : Wires) → Happens step old new → Ways → Ways
ways_after step old new happens ways end link = way_after end link step old new happens (ways end link)

abbrev pub ways_of : (steps : List WireStep) (old new : Wires) → Happen steps old new → Ways → Ways
ways_of [] old new happen ways = ways
ways_of (step ∷ steps) old new happen ways = ways_of steps happen.0 new happen.2 (ways_after step old happen.0 happen.1 ways)

-- LAW: of what those turns sent, these heard the first ones, and the others are under way
pub record IsUnderWay (sends hears : List Doing) (way : Way) : Type 0 where
  pub heard : List SignalUnit
  pub sent_are : units_of sends ≡ heard ++ map (λ c. c.unit) (carried_in way)
  pub heard_are : map unit_in (marks_of hears) ≡ map (λ unit. Some unit) heard

-- and at each turn what is heard is the front of what was under way
pub record HearsFront (marks : List Mark) (way : Way) : Type 0 where
  pub heard : List Carried
  pub rest : List Carried
  pub way_is : carried_in way ≡ heard ++ rest
  pub heard_are : map unit_in marks ≡ map (λ c. Some c.unit) heard

-- some of these units are heard, in order, and nothing else: others are lost, and a mark may bring none
pub data HearsSome : List Mark → List Carried → Type 0 where
  no_more : {marks : List Mark} {came : List Carried} → marks ≡ [] → came ≡ [] → HearsSome marks came
  is_bad : (mark : Mark) {marks more : List Mark} {came : List Carried} → marks ≡ mark ∷ more → unit_in mark ≡ None → HearsSome more came
      → HearsSome marks came
  is_lost : (c : Carried) {marks : List Mark} {came later : List Carried} → came ≡ c ∷ later → HearsSome marks later → HearsSome marks came
  is_good : (mark : Mark) (c : Carried) {marks more : List Mark} {came later : List Carried} → marks ≡ mark ∷ more → came ≡ c ∷ later
      → unit_in mark ≡ Some c.unit → HearsSome more later → HearsSome marks came

abbrev pub IfTurnHears : (step : WireStep) (old new : Wires) → Happens step old new → Ways → Type 0
IfTurnHears (Turn end link) old new takes ways = HearsFront takes.turns.takes.by_octet.marks (ways end link)
IfTurnHears (CommandStep end link command) old new happens ways = Unit {0}
IfTurnHears (Ask end who event) old new happens ways = Unit {0}
IfTurnHears (Damage end link place octet) old new happens ways = Unit {0}

-- and a link that has aligned, and isn't marked, has nothing of old under way to it
abbrev pub has_aligned : Standing → Bool
has_aligned out = false
has_aligned aligning = false
has_aligned ready = true
has_aligned waiting = true
has_aligned served = true

abbrev pub AreFlushed : Wires → Ways → Type 0
AreFlushed w ways =
    (end : End) (link : ℕ) (at : AtLink) → slice_get (seen_from end w).near.links link ≡ Some at → is_marked (Some at) ≡ false
    → has_aligned (standing_of at.terminal) ≡ true → (ways end link).old ≡ []

-- so before each step of a run, and at its end
abbrev pub AreUnderWay : (steps : List WireStep) (old new : Wires) → Happen steps old new → Ways → Type 0
AreUnderWay [] old new happen ways = AreFlushed new ways
AreUnderWay (step ∷ steps) old new happen ways =
    AreFlushed old ways × IfTurnHears step old happen.0 happen.1 ways
    × AreUnderWay steps happen.0 new happen.2 (ways_after step old happen.0 happen.1 ways)

pub record CarriesWays (a b : EndConfig) (lengths : List LineLengths) (steps : List WireStep) (w : Wires) (run : IsSoundRun a b lengths steps w)
    : Type 0 where
  pub along : AreUnderWay steps (new_wires a b lengths) w run.run.happen no_ways
  pub at_last : (end : End) (link : ℕ) → link < length lengths
      → IsUnderWay (all_turns (other end) link steps (new_wires a b lengths) w run.run.happen)
      (all_turns end link steps (new_wires a b lengths) w run.run.happen) (ways_of steps (new_wires a b lengths) w run.run.happen no_ways end link)

abbrev pub EachWayIsUnderWay : Type 0
EachWayIsUnderWay =
    (a b : EndConfig) (lengths : List LineLengths) (steps : List WireStep) (w : Wires) (run : IsSoundRun a b lengths steps w)
    → CarriesWays a b lengths steps w run
