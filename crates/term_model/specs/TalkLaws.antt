-- LAWS of talks, of any two types of outcomes.
use Rattle.std.specs.Prelude.{◌≡◌, ◌↔◌, List, [], ◌∷◌, ◌++◌, ⊤}
use Rattle.set_events.specs.declared.answer.Answer.{Answer}
use Rattle.set_events.specs.declared.event.Actor.{Actor}
use Rattle.set_events.specs.declared.event.Event.{Event}
use Rattle.set_events.specs.declared.history.Entry.{Entry}
use Rattle.term_model.specs.Talk.{Talk, done, and_then, Went, BrokeOff}

-- LAW: two talks that went, one after the other, are one talk that went by the entries of both
abbrev pub Joins : Type 0 → Type 0 → Type 0
Joins A B = (talk : Talk A) (next : A → Talk B) (first second : List Entry) (mid : A) (last : B)
    → Went talk first mid → Went (next mid) second last → Went (and_then talk next) (first ++ second) last

-- LAW: and it's no other way that one talk and the one that follows it go
pub record Split {A B : Type 0} (talk : Talk A) (next : A → Talk B) (entries : List Entry) (last : B) : Type 0 where
  pub mid : A
  pub first : List Entry
  pub second : List Entry
  pub entries_are : entries ≡ first ++ second
  pub went_first : Went talk first mid
  pub went_second : Went (next mid) second last

abbrev pub Splits : Type 0 → Type 0 → Type 0
Splits A B = (talk : Talk A) (next : A → Talk B) (entries : List Entry) (last : B)
    → Went (and_then talk next) entries last → Split talk next entries last

-- LAW: a talk after which nothing follows goes as it would by itself
abbrev pub EndsTheSame : Type 0 → Type 0
EndsTheSame A = (talk : Talk A) (entries : List Entry) (a : A)
    → Went (and_then talk (λ b. done b)) entries a ↔ Went talk entries a

-- LAW: a fault in the first talk, and one in the second
abbrev pub BreaksFirst : Type 0 → Type 0 → Type 0
BreaksFirst A B = (talk : Talk A) (next : A → Talk B) (entries : List Entry) (last : Event)
    → BrokeOff talk entries last → BrokeOff (and_then talk next) entries last

abbrev pub BreaksLater : Type 0 → Type 0 → Type 0
BreaksLater A B = (talk : Talk A) (next : A → Talk B) (first second : List Entry) (mid : A) (last : Event)
    → Went talk first mid → BrokeOff (next mid) second last → BrokeOff (and_then talk next) (first ++ second) last

-- LAW: the answers decide what comes of a talk
abbrev pub OneOutcome : Type 0 → Type 0
OneOutcome A = (talk : Talk A) (entries : List Entry) (a b : A) → Went talk entries a → Went talk entries b → a ≡ b

-- each entry is of this actor, and has the answer that this door gives to its event after the entries before it
abbrev pub AreAnswered : (List Entry → Event → Answer) → Actor → List Entry → List Entry → Type 0
AreAnswered door who past [] = ⊤
AreAnswered door who past (entry ∷ entries) =
    (entry.who ≡ who) × (entry.answer ≡ door past entry.event) × AreAnswered door who (past ++ entry ∷ []) entries

pub record GoesBy {A : Type 0} (talk : Talk A) (door : List Entry → Event → Answer) (who : Actor)
    (past : List Entry) : Type 0 where
  pub entries : List Entry
  pub outcome : A
  pub went : Went talk entries outcome
  pub are_answered : AreAnswered door who past entries

-- LAW: whatever a door answers, every talk comes to an end
abbrev pub AlwaysGoes : Type 0 → Type 0
AlwaysGoes A = (talk : Talk A) (door : List Entry → Event → Answer) (who : Actor) (past : List Entry)
    → GoesBy talk door who past
