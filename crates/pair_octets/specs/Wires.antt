-- TWO ENDS JOINED BY LINES OF OCTETS: two benches, and of each link the octets under way to each. Read this file first.
use Rattle.std.specs.Prelude.{◌≡◌, ◌<◌, ◌↔◌, ℕ, zero, suc, nat_lt, ◌≤◌, Bool, true, false, ◌&&◌, List, [], ◌∷◌, ◌++◌, length, map, replicate, slice_get, slice_set, Option, Some, None}
use Rattle.l2_units.specs.declared.unit.Unit.{Unit as SignalUnit}
use Rattle.set_events.specs.declared.answer.Answer.{Answer}
use Rattle.set_events.specs.declared.event.Actor.{Actor}
use Rattle.set_events.specs.declared.event.Actor.TheVariants.{User, Terminal as TerminalOf}
use Rattle.set_events.specs.declared.event.Event.{Event}
use Rattle.set_events.specs.declared.fault.SetFault.{SetFault}
use Rattle.set_model.specs.History.{IsStep, entries_in, longest_history}
use Rattle.term_model.specs.declared.command.Command.{Command}
use Rattle.link_term.specs.declared.fault.TermFault.{TermFault}
use Rattle.term_bench.specs.Ends.{BenchState, Commands, is_start, new_bench, phase_of}
use Rattle.term_bench.specs.declared.turn.Turn.{Turn as BenchTurn}
use Rattle.term_bench.specs.declared.word.Phase.{Phase}
use Rattle.term_bench.specs.Turns.{Breaks, Turns}
use Rattle.pair_steps.specs.declared.step.End.{End}
use Rattle.pair_steps.specs.declared.step.End.TheVariants.{A, B}
use Rattle.pair_octets.specs.declared.fault.StepFault.{StepFault}
use Rattle.pair_octets.specs.declared.fault.StepFault.TheVariants.{NoMemory, Impossible, OfSet, OfTurn}
use Rattle.pair_octets.specs.declared.fault.RunFault.{RunFault}
use Rattle.pair_octets.specs.declared.fault.RunFault.TheVariants.{NoMemory as NoMemoryAtAll, Links, AtStep}
use Rattle.pair_octets.specs.declared.step.EndConfig.{EndConfig}
use Rattle.pair_octets.specs.declared.step.LineLengths.{LineLengths}
use Rattle.pair_octets.specs.declared.step.WireStep.{WireStep}
use Rattle.pair_octets.specs.declared.step.WireStep.TheVariants.{Turn, Command as CommandStep, Ask, Damage}

-- both ends, and of each link the octets under way to an end, the next to come in front
pub record Wires : Type 0 where
  pub a : BenchState
  pub b : BenchState
  pub to_a : List (List ℕ)
  pub to_b : List (List ℕ)

-- THE SAME SEEN FROM AN END: it's the near one
pub record Sides : Type 0 where
  pub near : BenchState
  pub far : BenchState
  pub to_near : List (List ℕ)
  pub to_far : List (List ℕ)

abbrev pub seen_from : End → Wires → Sides
seen_from A w = record { near = w.a; far = w.b; to_near = w.to_a; to_far = w.to_b }
seen_from B w = record { near = w.b; far = w.a; to_near = w.to_b; to_far = w.to_a }

-- what holds of all: both ends have the same links, and there is a line of each to each end
pub record AreJoined (w : Wires) : Type 0 where
  pub links_b : length w.b.links ≡ length w.a.links
  pub lines_a : length w.to_a ≡ length w.a.links
  pub lines_b : length w.to_b ≡ length w.a.links

-- AT FIRST both ends are new, and each line is idle, with flags under way (Q.703 3.1): so many to each end
abbrev pub idle_line : ℕ → List ℕ
idle_line octets = replicate octets 126

abbrev pub new_wires : EndConfig → EndConfig → List LineLengths → Wires
new_wires a b lengths = record {
  a = new_bench a.set a.timers;
  b = new_bench b.set b.timers;
  to_a = map (λ line. idle_line line.to_a) lengths;
  to_b = map (λ line. idle_line line.to_b) lengths;
}

-- A TURN of a link at the near end, by the octet in front of the line to it, which leaves the line; and the octet that the
-- turn puts joins the line to the far end
pub record TakesTurn (link : ℕ) (old new : Sides) : Type 0 where
  pub octet : ℕ
  pub rest : List ℕ
  pub on : List ℕ
  pub turn : BenchTurn
  pub unit : Option SignalUnit
  pub comes : slice_get old.to_near link ≡ Some (octet ∷ rest)
  pub goes : slice_get old.to_far link ≡ Some on
  pub turns : Turns link octet old.near turn unit new.near
  pub to_near_is : new.to_near ≡ slice_set old.to_near link rest
  pub to_far_is : new.to_far ≡ slice_set old.to_far link (on ++ turn.put ∷ [])
  pub far_is : new.far ≡ old.far

-- nothing but the near end changes
pub record OnlyNear (old new : Sides) : Type 0 where
  pub far_is : new.far ≡ old.far
  pub to_near_is : new.to_near ≡ old.to_near
  pub to_far_is : new.to_far ≡ old.to_far

-- A COMMAND to the terminal of a link at an end waits for its next turn. By one the link would come up; it's refused while
-- the set has left the link and not settled it, and nothing is done then (own).
abbrev pub is_left : Phase → Bool
is_left Phase.Up = false
is_left Phase.Settled = false
is_left Phase.Left = true

abbrev pub is_refused : ℕ → Command → BenchState → Bool
is_refused link command bench = is_start command && is_left (phase_of link bench.set.state)

abbrev pub CommandsIf : Bool → ℕ → Command → BenchState → BenchState → Type 0
CommandsIf true link command old new = new ≡ old
CommandsIf false link command old new = Commands link command old new

pub record TakesCommand (link : ℕ) (command : Command) (old new : Sides) : Type 0 where
  pub commands : CommandsIf (is_refused link command old.near) link command old.near new.near
  pub only : OnlyNear old new

-- THE SET OF AN END IS ASKED, by its users or by level 3, and answers at once
pub record IsAsked (who : Actor) (event : Event) (old new : Sides) : Type 0 where
  pub answer : Answer
  pub is_step : IsStep old.near.set who event answer new.near.set
  pub links_are : new.near.links ≡ old.near.links
  pub only : OnlyNear old new

-- DAMAGE: another octet comes in the place of one that is under way to the near end
pub record IsDamaged (link place octet : ℕ) (old new : Sides) : Type 0 where
  pub line : List ℕ
  pub is_on : slice_get old.to_near link ≡ Some line
  pub there : place < length line
  pub near_is : new.near ≡ old.near
  pub far_is : new.far ≡ old.far
  pub to_near_is : new.to_near ≡ slice_set old.to_near link (slice_set line place octet)
  pub to_far_is : new.to_far ≡ old.to_far

-- WHAT EACH STEP DOES
abbrev pub Happens : WireStep → Wires → Wires → Type 0
Happens (Turn end link) old new = TakesTurn link (seen_from end old) (seen_from end new)
Happens (CommandStep end link command) old new = TakesCommand link command (seen_from end old) (seen_from end new)
Happens (Ask end who event) old new = IsAsked who event (seen_from end old) (seen_from end new)
Happens (Damage end link place octet) old new = IsDamaged link place octet (seen_from end old) (seen_from end new)

-- STEPS, one after another
abbrev pub Happen : List WireStep → Wires → Wires → Type 0
Happen [] old new = new ≡ old
Happen (step ∷ steps) old new = (between : Wires) × Happens step old between × Happen steps between new

-- WHY A STEP FAILS. It's impossible: a turn without an octet, or on a link that isn't there; what an actor out of range asks;
-- damage to an octet that isn't there. A set's history is full; or the bench broke a turn off, by this fault. Memory is wanted
-- only of a step that is possible.
abbrev pub has_front : Option (List ℕ) → Bool
has_front None = false
has_front (Some []) = false
has_front (Some (octet ∷ rest)) = true

abbrev pub has_place : ℕ → Option (List ℕ) → Bool
has_place place None = false
has_place place (Some octets) = nat_lt place (length octets)

abbrev pub is_actor : Actor → Bool
is_actor (User number) = nat_lt number 64
is_actor (TerminalOf link) = nat_lt link 16

pub record BreaksOff (link : ℕ) (fault : TermFault) (old : Sides) : Type 0 where
  pub octet : ℕ
  pub rest : List ℕ
  pub bench : BenchState
  pub comes : slice_get old.to_near link ≡ Some (octet ∷ rest)
  pub breaks : Breaks link octet fault old.near bench

abbrev pub TurnFails : StepFault → ℕ → Sides → Type 0
TurnFails NoMemory link s = has_front (slice_get s.to_near link) ≡ true
TurnFails Impossible link s = has_front (slice_get s.to_near link) ≡ false
TurnFails (OfSet fault) link s = ⊥
TurnFails (OfTurn fault) link s = BreaksOff link fault s

abbrev pub CommandFails : StepFault → ℕ → Sides → Type 0
CommandFails Impossible link s = nat_lt link (length s.to_near) ≡ false
CommandFails _ link s = ⊥

abbrev pub AskFails : StepFault → Actor → Sides → Type 0
AskFails NoMemory who s = ⊥
AskFails Impossible who s = is_actor who ≡ false
AskFails (OfSet fault) who s =
    (is_actor who ≡ true) × ((fault ≡ SetFault.Exhausted) ↔ (longest_history ≤ entries_in s.near.set))
AskFails (OfTurn fault) who s = ⊥

abbrev pub DamageFails : StepFault → ℕ → ℕ → Sides → Type 0
DamageFails Impossible link place s = has_place place (slice_get s.to_near link) ≡ false
DamageFails _ link place s = ⊥

abbrev pub Fails : StepFault → WireStep → Wires → Type 0
Fails fault (Turn end link) w = TurnFails fault link (seen_from end w)
Fails fault (CommandStep end link command) w = CommandFails fault link (seen_from end w)
Fails fault (Ask end who event) w = AskFails fault who (seen_from end w)
Fails fault (Damage end link place octet) w = DamageFails fault link place (seen_from end w)

-- the step at a place fails, behind those before it
abbrev pub FailsAt : ℕ → StepFault → List WireStep → Wires → Type 0
FailsAt place fault [] w = ⊥
FailsAt zero fault (step ∷ steps) w = Fails fault step w
FailsAt (suc place) fault (step ∷ steps) w =
    (between : Wires) × Happens step w between × FailsAt place fault steps between

-- A RUN from two configurations, where each has as many links as lengths of lines are given
pub record AreFitting (a b : EndConfig) (lengths : List LineLengths) : Type 0 where
  pub links : a.set.links ≡ b.set.links
  pub lines : length lengths ≡ a.set.links

pub record IsRun (a b : EndConfig) (lengths : List LineLengths) (steps : List WireStep) (w : Wires) : Type 0 where
  pub fitting : AreFitting a b lengths
  pub happen : Happen steps (new_wires a b lengths) w

-- why a run of steps comes to no end: the numbers of links are tested first
abbrev pub RunFails : RunFault → EndConfig → EndConfig → List LineLengths → List WireStep → Type 0
RunFails NoMemoryAtAll a b lengths steps = AreFitting a b lengths
RunFails Links a b lengths steps = AreFitting a b lengths → ⊥
RunFails (AtStep place fault) a b lengths steps =
    AreFitting a b lengths × FailsAt place fault steps (new_wires a b lengths)

-- the same of steps alone
abbrev pub StepsFail : RunFault → List WireStep → Wires → Type 0
StepsFail NoMemoryAtAll steps w = ⊥
StepsFail Links steps w = ⊥
StepsFail (AtStep place fault) steps w = FailsAt place fault steps w
