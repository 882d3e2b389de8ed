-- A TALK WITH THE SET: each event gets the answer of the set's step.
use Rattle.std.specs.Prelude.{◌≡◌, List, [], ◌∷◌}
use Rattle.set_events.specs.declared.event.Actor.{Actor}
use Rattle.set_events.specs.declared.history.Entry.{Entry}
use Rattle.set_model.specs.History.{IsActor, IsLegal, after}
use Rattle.set_model.specs.State.{State}
use Rattle.set_model.specs.Step.{step}
use Rattle.term_model.specs.Talk.{Talk, done, ask, Went}

-- the entries that it makes
abbrev pub entries_with : {A : Type 0} → Talk A → Actor → State → List Entry
entries_with (done a) who s = []
entries_with (ask event more) who s =
    record { who = who; event = event; answer = (step s event).answer }
    ∷ entries_with (more (step s event).answer) who (step s event).state

-- what comes of it
abbrev pub outcome_with : {A : Type 0} → Talk A → State → A
outcome_with (done a) s = a
outcome_with (ask event more) s = outcome_with (more (step s event).answer) (step s event).state

-- what the set holds then
abbrev pub state_with : {A : Type 0} → Talk A → State → State
state_with (done a) s = s
state_with (ask event more) s = state_with (more (step s event).answer) (step s event).state

-- LAW: it went so; its entries are legal, and lead to what the set holds then
pub record IsTalkOfSet {A : Type 0} (talk : Talk A) (who : Actor) (s : State) : Type 0 where
  pub went : Went talk (entries_with talk who s) (outcome_with talk s)
  pub legal : IsLegal s (entries_with talk who s)
  pub leads : after s (entries_with talk who s) ≡ state_with talk s

abbrev pub TalksAreLegal : Type 0 → Type 0
TalksAreLegal A = (talk : Talk A) (who : Actor) (s : State) → IsActor who → IsTalkOfSet talk who s
