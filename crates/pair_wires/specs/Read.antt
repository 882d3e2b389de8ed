-- USERS' STREAMS READ OFF: what the users of two benches offered and took is what those of the world did, of which each
-- bench's set is an end with a longer history.
use Rattle.std.specs.Prelude.{◌≡◌, ◌<◌, ℕ, List, [], ◌∷◌, ◌++◌}
use Rattle.set_events.specs.declared.answer.Answer.{Answer}
use Rattle.set_events.specs.declared.event.Actor.{Actor}
use Rattle.set_events.specs.declared.event.Event.{Event}
use Rattle.set_events.specs.declared.history.Entry.{Entry}
use Rattle.term_bench.specs.Ends.{BenchState}
use Rattle.pair_steps.specs.declared.step.Shown.TheVariants.{Answered}
use Rattle.pair_model.specs.Run.{Past, Stage, bodies, past_asked}
use Rattle.pair_streams.specs.Handed.{UsersTakeFirst}
use Rattle.pair_octets.specs.Streams.{Arrives, of_stream, offered_in}
use Rattle.pair_wires.specs.Moves.{IsThinned}

-- of each stream the bodies that were offered there are those of the history's offers that were accepted
abbrev pub IsOffered : Past → List Entry → Type 0
IsOffered past history = (stream : ℕ) → bodies (past.offered stream) ≡ of_stream stream (offered_in history)

pub record AreThinned (g : Stage) (a b : BenchState) : Type 0 where
  pub a_set : IsThinned g.world.a a.set
  pub b_set : IsThinned g.world.b b.set
  pub a_offered : IsOffered g.a a.set.history
  pub b_offered : IsOffered g.b b.set.history

-- LAWS: each event that a set answers keeps that
abbrev pub OffersAreKept : Type 0
OffersAreKept =
    (past : Past) (history : List Entry) (who : Actor) (event : Event) (answer : Answer) → IsOffered past history
    → IsOffered (past_asked event (Answered answer) past) (history ++ record { who = who; event = event; answer = answer } ∷ [])

-- and so what users of the world take first, in order, is what those of the benches do
abbrev pub StreamsAreReadOff : Type 0
StreamsAreReadOff =
    (g : Stage) (a b : BenchState) → AreThinned g a b → UsersTakeFirst g → (stream : ℕ) → stream < 16
    → Arrives stream a b × Arrives stream b a
