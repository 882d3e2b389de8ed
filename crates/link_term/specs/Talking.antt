-- A TALK CARRIED OUT AT A DOOR: what the door has made then, and the faults that it has answered.
use Rattle.std.specs.Prelude.{◌≡◌, List, [], ◌∷◌, ◌++◌, Result, MatchResult}
use Rattle.set_events.specs.declared.event.Event.{Event}
use Rattle.set_events.specs.declared.history.Entry.{Entry}
use Rattle.set_events.specs.declared.fault.SetFault.{SetFault}
use Rattle.term_model.specs.Talk.{Talk, Went, BrokeOff}
use Rattle.term_model.specs.Terminal.{Terminal}
use Rattle.link_term.specs.declared.door.Door as set_door

-- WHAT A DOOR WAS ASKED: the entries that it made, and the faults that it answered
pub record Asked : Type 0 where
  pub made : List Entry
  pub faults : List SetFault

abbrev pub asked : {D : Type 0} → set_door.Ghosts D → D → Asked
asked d door = record { made = d.made door; faults = d.faults door }

-- A TERMINAL AT ITS DOOR, in the middle of a turn: its inside, and what the door was asked
pub record AtDoor : Type 0 where
  pub inside : Terminal
  pub asked : Asked

abbrev pub at_door : {D : Type 0} → set_door.Ghosts D → Terminal → D → AtDoor
at_door d inside door = record { inside = inside; asked = asked d door }

-- the door made the entries by which the talk went, and this came of it
pub record Gains {A : Type 0} (talk : Talk A) (made made' : List Entry) (outcome : A) : Type 0 where
  pub entries : List Entry
  pub made_is : made' ≡ made ++ entries
  pub went : Went talk entries outcome

-- the door made the entries by which the talk went until a fault broke it off
pub record Breaks {A : Type 0} (talk : Talk A) (made made' : List Entry) : Type 0 where
  pub entries : List Entry
  pub last : Event
  pub made_is : made' ≡ made ++ entries
  pub broke_off : BrokeOff talk entries last

-- A TALK IS CARRIED OUT, whole or up to a fault of the door, which is the one that is told: no other fault is. What comes
-- of it is told by what the call answers.
abbrev pub TalksTo : {A R : Type 0} → Talk A → Result R SetFault → Asked → Asked → (R → A) → Type 0
TalksTo talk result before after outcome = MatchResult result
    (λ answer. Gains talk before.made after.made (outcome answer) × (after.faults ≡ before.faults))
    (λ fault. Breaks talk before.made after.made × (after.faults ≡ before.faults ++ fault ∷ []))

-- or it's the terminal then
abbrev pub Talks : {A : Type 0} → Talk A → Result (Unit {0}) SetFault → Asked → Asked → A → Type 0
Talks talk result before after outcome = TalksTo talk result before after (λ done. outcome)
