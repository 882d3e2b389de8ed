-- A TALK WITH THE DOOR: what a terminal asks of its link's set, and what comes of it, whatever is answered.
use Rattle.std.specs.Prelude.{◌≡◌, List, [], ◌∷◌}
use Rattle.set_events.specs.declared.answer.Answer.{Answer}
use Rattle.set_events.specs.declared.event.Event.{Event}
use Rattle.set_events.specs.declared.history.Entry.{Entry}

-- nothing more is asked, and this comes of it; or an event is asked, and the talk goes on by its answer
pub data Talk (A : Type 0) : Type 0 where
  done : A → Talk A
  ask : Event → (Answer → Talk A) → Talk A

-- one talk, and then the one that follows from what came of it
abbrev pub and_then : {A B : Type 0} → Talk A → (A → Talk B) → Talk B
and_then (done a) next = next a
and_then (ask event more) next = ask event (λ answer. and_then (more answer) next)

-- several, one after another, each from what came of the one before
abbrev pub in_turn : {A : Type 0} → List (A → Talk A) → A → Talk A
in_turn [] a = done a
in_turn (step ∷ steps) a = and_then (step a) (λ b. in_turn steps b)

-- just these events were asked, in this order, each was answered so, and this came of it
abbrev pub Went : {A : Type 0} → Talk A → List Entry → A → Type 0
Went (done a) [] b = b ≡ a
Went (done a) (entry ∷ entries) b = ⊥
Went (ask event more) [] b = ⊥
Went (ask event more) (entry ∷ entries) b = (entry.event ≡ event) × Went (more entry.answer) entries b

-- it went so, and then this event was asked, and got a fault in place of an answer
abbrev pub BrokeOff : {A : Type 0} → Talk A → List Entry → Event → Type 0
BrokeOff (done a) entries last = ⊥
BrokeOff (ask event more) [] last = last ≡ event
BrokeOff (ask event more) (entry ∷ entries) last = (entry.event ≡ event) × BrokeOff (more entry.answer) entries last
