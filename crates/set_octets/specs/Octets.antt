-- OCTETS OF A SET of the narrow profile: what it was asked, what it holds, and what it gives.
use Rattle.std.specs.Prelude.{◌≡◌, ◌<◌, ◌≤◌, ◌^◌, ℕ, List, All, length}
use Rattle.l2_units.specs.declared.profile.Profile.TheVariants.{Narrow}
use Rattle.l2_units.specs.Grammar.{body_of, IsUnit}
use Rattle.set_events.specs.declared.answer.Answer.{Answer}
use Rattle.set_events.specs.declared.event.Event.{Event}
use Rattle.l2_units.specs.declared.unit.Unit.{Unit as SignalUnit}
use Rattle.set_model.specs.Rows.{Row, Each}
use Rattle.set_model.specs.Sound.{IsSettings, IsSound}
use Rattle.set_model.specs.State.{State}
use Rattle.set_model.specs.Step.{step}

abbrev pub AreOctets : List ℕ → Type 0
AreOctets octets = All (λ octet. octet < 2 ^ 8) octets

-- the body of a message, as a unit can have it (Q.703 2.2)
pub record IsBody (body : List ℕ) : Type 0 where
  pub shortest : 3 ≤ length body
  pub octets : AreOctets body

abbrev pub AreBodies : List Row → Type 0
AreBodies rows = Each (λ row. IsBody row.body) rows

-- a set of the narrow profile whose messages, and whose orders' SIO, are octets
pub record HoldsOctets (s : State) : Type 0 where
  pub narrow : s.settings.profile ≡ Narrow
  pub sio : s.settings.sio < 2 ^ 8
  pub rows : AreBodies s.rows

-- what it's asked is octets: what users offer, and the units that are heard
abbrev pub AskedInOctets : Event → Type 0
AskedInOctets (Event.Offer body) = AreOctets body
AskedInOctets (Event.Heard link unit) = AreOctets (body_of unit)
AskedInOctets _ = Unit {0}

-- a unit that can stand on a line
pub record IsOnWire (unit : SignalUnit) : Type 0 where
  pub is_unit : IsUnit Narrow unit
  pub octets : AreOctets (body_of unit)

abbrev pub GivesOctets : Answer → Type 0
GivesOctets (Answer.Sent unit) = IsOnWire unit
GivesOctets _ = Unit {0}

-- LAW
pub record StepsInOctets (s : State) (event : Event) : Type 0 where
  pub holds : HoldsOctets (step s event).state
  pub gives : GivesOctets (step s event).answer

abbrev pub StepsGiveOctets : Type 0
StepsGiveOctets =
    (s : State) (event : Event) → IsSound s → IsSettings s.settings → HoldsOctets s → AskedInOctets event
    → StepsInOctets s event
