-- WHAT IS PROMISED OF TWO ENDS, of every sound run.
use Rattle.std.specs.Prelude.{◌≡◌, ◌≤◌, ℕ, false, None, Some, List, [], ◌∷◌, length, take, drop, slice_get}
use Rattle.set_events.specs.declared.answer.Answer.TheVariants.{Heard}
use Rattle.set_events.specs.declared.config.Method.{Method}
use Rattle.set_events.specs.declared.config.Method.TheVariants.{Basic, Cyclic}
use Rattle.set_events.specs.declared.config.SetConfig.{SetConfig}
use Rattle.set_events.specs.declared.event.Event.TheVariants.{DownBlind, NoAnswer, Timed, BackTimeout}
use Rattle.set_model.specs.Rows.{Row, unack}
use Rattle.set_model.specs.State.{LinkState, State, has_phase_settled}
use Rattle.pair_steps.specs.declared.step.Step.{Step}
use Rattle.pair_steps.specs.declared.step.Step.TheVariants.{Act, Inject}
use Rattle.pair_steps.specs.declared.step.Shown.{Shown}
use Rattle.pair_steps.specs.declared.step.Shown.TheVariants.{Answered}
use Rattle.pair_model.specs.Run.{Message, Past, Stage, messages, bodies, begun, HoldsAlong, HoldsAtEach}

-- HONEST RUNS. Both ends keep messages safe by one method, whatever its limits at each.
abbrev pub IsOneMethod : Method → Method → Type 0
IsOneMethod Basic Basic = Unit {0}
IsOneMethod Basic (Cyclic n1 n2) = ⊥
IsOneMethod (Cyclic n1 n2) Basic = ⊥
IsOneMethod (Cyclic n1 n2) (Cyclic m1 m2) = Unit {0}

-- no unit is heard that wasn't sent
abbrev pub IsHonestStep : Step → Type 0
IsHonestStep (Inject end link unit) = ⊥
IsHonestStep _ = Unit {0}

-- SOUND RUNS, in which no message is given up: besides, no link is left blindly, or settled without an answer or by time,
-- and no changeback goes home unacknowledged
abbrev pub IsSoundStep : Step → Type 0
IsSoundStep (Act end (DownBlind link)) = ⊥
IsSoundStep (Act end (NoAnswer link)) = ⊥
IsSoundStep (Act end (Timed link)) = ⊥
IsSoundStep (Act end (BackTimeout link)) = ⊥
IsSoundStep (Inject end link unit) = ⊥
IsSoundStep _ = Unit {0}

-- QUIET RUNS, in which each order is answered: besides, a link may be left blindly (an emergency changeover, in which no
-- FSN is told), so that messages may be given up
abbrev pub IsQuietStep : Step → Type 0
IsQuietStep (Act end (NoAnswer link)) = ⊥
IsQuietStep (Act end (Timed link)) = ⊥
IsQuietStep (Act end (BackTimeout link)) = ⊥
IsQuietStep (Inject end link unit) = ⊥
IsQuietStep _ = Unit {0}

abbrev pub AreSteps : (Step → Type 0) → List Step → Type 0
AreSteps P [] = Unit {0}
AreSteps P (step ∷ steps) = P step × AreSteps P steps

pub record IsHonestRun (a b : SetConfig) (run : List Step) : Type 0 where
  pub links : a.links ≡ b.links
  pub profiles : a.profile ≡ b.profile
  pub one_method : IsOneMethod a.method b.method
  pub steps : AreSteps IsHonestStep run

pub record IsSoundRun (a b : SetConfig) (run : List Step) : Type 0 where
  pub links : a.links ≡ b.links
  pub profiles : a.profile ≡ b.profile
  pub one_method : IsOneMethod a.method b.method
  pub steps : AreSteps IsSoundStep run

pub record IsQuietRun (a b : SetConfig) (run : List Step) : Type 0 where
  pub links : a.links ≡ b.links
  pub profiles : a.profile ≡ b.profile
  pub one_method : IsOneMethod a.method b.method
  pub steps : AreSteps IsQuietStep run

-- WHAT EACH LINK KEEPS, from one end to the other, since it last came up.

-- for as long as the link isn't settled: what counts as acknowledged was accepted, and what is unacknowledged is the rest
-- of what was sent
pub record IsGoing (link : ℕ) (state : LinkState) (rows : List Row)
    (sent : List Message) (taken : List (List ℕ)) : Type 0 where
  pub acked : state.acked ≤ length taken
  pub unacked : messages (unack link rows) ≡ drop state.acked sent

pub record IsKeptOn (link : ℕ) (near far : Past) (s t : State) : Type 0 where
  -- the bodies that the far end accepted are the first of those that were sent: none is missing among them, doubled,
  -- changed or out of order
  pub prefix : far.taken link ≡ take (length (far.taken link)) (bodies (near.sent link))
  -- the far end counts just those, also when it has left the link
  pub accepted : (state : LinkState) → slice_get t.links link ≡ Some state → state.accepted ≡ length (far.taken link)
  pub going : (state : LinkState) → slice_get s.links link ≡ Some state → has_phase_settled state.phase ≡ false
      → IsGoing link state s.rows (near.sent link) (far.taken link)

-- in both directions
abbrev pub LinksKeep : Stage → Type 0
LinksKeep g =
    (link : ℕ)
    → IsKeptOn link g.a g.b g.world.a.state g.world.b.state × IsKeptOn link g.b g.a g.world.b.state g.world.a.state

-- a heard unit tells no fault of the far end's error control
abbrev pub TellsNoFault : Shown → Type 0
TellsNoFault (Answered (Heard report)) = report.fault ≡ None
TellsNoFault _ = Unit {0}

-- PROMISED, whatever is lost on the lines, also when one end has left a link or both have, in emergencies, without answers
-- and with changeback
pub record KeepsLinks (g : Stage) (steps : List Step) : Type 0 where
  pub links : HoldsAlong LinksKeep g steps
  pub no_fault : HoldsAtEach (λ before step shown after. TellsNoFault shown) g steps

-- LAW
abbrev pub EveryHonestRunKeepsLinks : Type 0
EveryHonestRunKeepsLinks =
    (a b : SetConfig) (steps : List Step) → IsHonestRun a b steps
    → KeepsLinks (begun a b) steps
