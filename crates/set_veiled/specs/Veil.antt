-- A LINK THAT IS SETTLED, SEEN AS ANOTHER that isn't up, as one that was left at once and in silence: it's Down, nothing was
-- counted on it, and no order was queued.
use Rattle.std.specs.Prelude.{◌≡◌, ℕ, ◌==◌, true, false, Option, Some, slice_set}
use Rattle.l3_orders.specs.declared.order.Order.{Order}
use Rattle.l3_orders.specs.declared.order.Order.TheVariants.{Coo, Coa, Eco, Eca}
use Rattle.l3_orders.specs.Grammar.{order_of}
use Rattle.set_events.specs.declared.event.Event.{Event}
use Rattle.set_events.specs.declared.event.Event.TheVariants.{Heard, Up as UpEvent, NoAnswer, Timed}
use Rattle.l2_units.specs.declared.unit.Unit.{Unit as SignalUnit}
use Rattle.l2_units.specs.declared.unit.Unit.TheVariants.{Msu}
use Rattle.set_model.specs.declared.phase.Phase.TheVariants.{Down}
use Rattle.set_model.specs.State.{LinkState, Settings, State, has_phase_up, is_settled}
use Rattle.set_model.specs.Sound.{IsSound}
use Rattle.set_model.specs.Step.{Outcome, risen_link, step}

abbrev pub dormant : Settings → LinkState
dormant settings = record (risen_link settings.profile settings.method 0) { phase = Down }

-- seen as this one
abbrev pub veil : LinkState → ℕ → State → State
veil cover l s = record s { links = slice_set s.links l cover }

-- an order of a changeover isn't about this link
abbrev pub IsOfOther : ℕ → Option Order → Type 0
IsOfOther l (Some (Coo n fsn)) = (n == l) ≡ false
IsOfOther l (Some (Coa n fsn)) = (n == l) ≡ false
IsOfOther l (Some (Eco n)) = (n == l) ≡ false
IsOfOther l (Some (Eca n)) = (n == l) ≡ false
IsOfOther l _ = Unit {0}

abbrev pub IsNoOrderOf : ℕ → State → SignalUnit → Type 0
IsNoOrderOf l s (Msu head body) = IsOfOther l (order_of s.settings.profile body.items)
IsNoOrderOf l s _ = Unit {0}

-- events that don't bring the link up, give it up, or bring an order about it
abbrev pub IsElsewhere : ℕ → State → Event → Type 0
IsElsewhere l s (UpEvent n) = (n == l) ≡ false
IsElsewhere l s (NoAnswer n) = (n == l) ≡ false
IsElsewhere l s (Timed n) = (n == l) ≡ false
IsElsewhere l s (Heard n unit) = IsNoOrderOf l s unit
IsElsewhere l s _ = Unit {0}

pub record IsAlike (cover : LinkState) (l : ℕ) (veiled bare : Outcome) : Type 0 where
  pub answer : veiled.answer ≡ bare.answer
  pub state : veiled.state ≡ veil cover l bare.state

abbrev pub VeilsKeepSteps : Type 0
VeilsKeepSteps =
    (cover : LinkState) (l : ℕ) (s : State) (event : Event) → has_phase_up cover.phase ≡ false → is_settled l s ≡ true
    → IsElsewhere l s event → IsAlike cover l (step (veil cover l s) event) (step s event)

-- and such a set is sound
abbrev pub VeilsStaySound : Type 0
VeilsStaySound = (l : ℕ) (s : State) → IsSound s → is_settled l s ≡ true → IsSound (veil (dormant s.settings) l s)
