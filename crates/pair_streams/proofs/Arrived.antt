-- WHERE NOTHING IS LEFT at either end, all that was offered has arrived: users got it (`all_arrived`), and took it or
-- find it in the inbox (`all_taken`); in a quiet run each message was got, or discarded in an emergency
-- (`all_accounted`). Where the counts of users' messages are zero nothing of a stream is pending, parked or stands back
-- (`none_of`, by induction on the rows), and for that case Runs.antt and Handing.antt promise it. `at_end` takes what
-- holds along a run to its end, by induction on the steps. World::is_idle of pair_world ensures all three.
use Rattle.std.proofs.Common.{refl, arith, ◌≡◌, ◌∙◌, ap, sym, subst, ℕ, suc, ◌==◌, ◌-◌, Bool, true, false, List, [], ◌∷◌, ◌++◌, length, drop}
use Rattle.set_events.specs.declared.answer.Fate.{Fate}
use Rattle.set_events.specs.declared.answer.Fate.TheVariants.{Waiting, Unacked, Acked, Held, Parked, Back, Discarded}
use Rattle.set_model.specs.Rows.{Row, is_unacked, is_waiting, is_held, is_parked, stands_back, is_users, waits, was_sent, was_held, standing, users, unack, wait, held, stream_of}
use Rattle.set_model.specs.Checkpoint.{counts_in}
use Rattle.set_model.specs.State.{State}
use Rattle.pair_steps.specs.declared.step.Step.{Step}
use Rattle.pair_model.specs.Run.{Message, messages, bodies, Stage, begun, passed, OnShows, HoldsAlong}
use Rattle.pair_model.specs.World.{World, Outcome, shows, impossible, exhausted, carried_out}
use Rattle.pair_changeover.specs.Pending.{pending, aside, kept_back, acked_on, accepted_on}
use Rattle.pair_changeover.proofs.Table.{joined}
use Rattle.pair_streams.specs.Arrived.{AreDone, IsIdle, HoldsAtEnd, AllGot, AllArrived, AllHanded, AllTaken, AllToldOf, AllAccounted}
use Rattle.pair_streams.specs.Handed.{UsersTakeAll}
use Rattle.pair_streams.specs.Streams.{those_of, StreamsArrive, PartsArrive}
use Rattle.pair_streams.proofs.Filtered.{those_joined, none_dropped}
use Rattle.pair_streams.proofs.Handing.{sound_says}
use Rattle.pair_streams.proofs.Runs.{every_sound_run, every_quiet_run}

-- none of the users' messages stands in such a place
none_of : (stream : ℕ) (all some : Fate → Bool) → ((fate : Fate) → some fate ≡ true → all fate ≡ true)
    → (rows : List Row) → length (standing all (users rows)) ≡ 0 → those_of stream (messages (standing some rows)) ≡ []
none_of stream all some within [] e = refl
none_of stream all some within (row ∷ rows) e =
    go (some row.fate) (all row.fate) (is_users row) (stream_of row.body == stream) refl refl refl refl
    (λ f. none_of stream all some within rows f)
  where
    go : (b c u d : Bool) → some row.fate ≡ b → all row.fate ≡ c → is_users row ≡ u → (stream_of row.body == stream) ≡ d
        → (length (standing all (users rows)) ≡ 0 → those_of stream (messages (standing some rows)) ≡ [])
        → those_of stream (messages (standing some (row ∷ rows))) ≡ []
    go b true true d g h k m later = let no : suc (length (standing all (users rows))) ≡ 0 = rw (k, h) at e in absurd (omega (arith, no))
    go false false true d g h k m later = rw g (later (rw (k, h) at e))
    go true false true d g h k m later = absurd (let no : true ≡ false = sym (within row.fate g) ∙ h in cc)
    go false c false d g h k m later = rw g (later (rw k at e))
    go true c false d g h k m later = rw (g, k) (later (rw k at e))

sent_within : (l : ℕ) (fate : Fate) → is_unacked l fate ≡ true → was_sent fate ≡ true
sent_within l (Unacked n) e = refl
sent_within l (Waiting n) e = absurd cc
sent_within l (Acked n) e = absurd cc
sent_within l (Held n) e = absurd cc
sent_within l Parked e = absurd cc
sent_within l (Back code) e = absurd cc
sent_within l (Discarded cause) e = absurd cc

waits_within : (l : ℕ) (fate : Fate) → is_waiting l fate ≡ true → waits fate ≡ true
waits_within l (Waiting n) e = refl
waits_within l (Unacked n) e = absurd cc
waits_within l (Acked n) e = absurd cc
waits_within l (Held n) e = absurd cc
waits_within l Parked e = absurd cc
waits_within l (Back code) e = absurd cc
waits_within l (Discarded cause) e = absurd cc

held_within : (l : ℕ) (fate : Fate) → is_held l fate ≡ true → was_held fate ≡ true
held_within l (Held n) e = refl
held_within l (Waiting n) e = absurd cc
held_within l (Unacked n) e = absurd cc
held_within l (Acked n) e = absurd cc
held_within l Parked e = absurd cc
held_within l (Back code) e = absurd cc
held_within l (Discarded cause) e = absurd cc

module _ (stream : ℕ) (s f : State) (done : AreDone (counts_in s)) where
  none_pending : (l : ℕ) → those_of stream (pending l s f) ≡ []
  none_pending l =
      let count = accepted_on l f - acked_on l s in
      let sent = none_dropped stream count (unack l s.rows) (none_of stream was_sent (is_unacked l) (sent_within l) s.rows done.none_unacked) in
      let waiting = none_of stream waits (is_waiting l) (waits_within l) s.rows done.none_waiting in
      let holding = none_of stream was_held (is_held l) (held_within l) s.rows done.none_held in
      ap (those_of stream) (joined (drop count (unack l s.rows) ++ wait l s.rows) (held l s.rows)
      ∙ ap (λ (q : List Message). q ++ messages (held l s.rows))
      (joined (drop count (unack l s.rows)) (wait l s.rows)))
      ∙ those_joined stream (messages (drop count (unack l s.rows)) ++ messages (wait l s.rows)) (messages (held l s.rows))
      ∙ ap (λ (q : List Message). q ++ those_of stream (messages (held l s.rows)))
      (those_joined stream (messages (drop count (unack l s.rows))) (messages (wait l s.rows)))
      ∙ rw (sent, waiting, holding) refl

  none_aside : those_of stream (aside s) ≡ []
  none_aside = none_of stream is_parked is_parked (λ fate e. e) s.rows done.none_parked

  none_kept : those_of stream (kept_back s) ≡ []
  none_kept = none_of stream stands_back stands_back (λ fate e. e) s.rows done.none_back

pub all_got : (g : Stage) → IsIdle g.world → StreamsArrive g → AllGot g
all_got g idle arrive stream low =
    let both = arrive stream low in (
      both.0.all (none_pending stream g.world.a.state g.world.b.state idle.at_a)
          (none_aside stream g.world.a.state g.world.b.state idle.at_a)
          (none_kept stream g.world.a.state g.world.b.state idle.at_a),
      both.1.all (none_pending stream g.world.b.state g.world.a.state idle.at_b)
          (none_aside stream g.world.b.state g.world.a.state idle.at_b)
          (none_kept stream g.world.b.state g.world.a.state idle.at_b),
    )

-- what was got is what was taken, and what waits
HasPassed : Stage → Type 0
HasPassed g = UsersTakeAll g × StreamsArrive g

all_handed : (g : Stage) → IsIdle g.world → HasPassed g → AllHanded g
unfolding HasPassed
all_handed g idle both stream low =
    let got = all_got g idle both.1 stream low in
    ((both.0 stream).0 ∙ ap bodies got.1, (both.0 stream).1 ∙ ap bodies got.0)

pub all_told_of : (g : Stage) → IsIdle g.world → PartsArrive g → AllToldOf g
all_told_of g idle arrive = (
  λ stream low. (arrive stream low).0.all (none_pending stream g.world.a.state g.world.b.state idle.at_a)
      (none_aside stream g.world.a.state g.world.b.state idle.at_a)
      (none_kept stream g.world.a.state g.world.b.state idle.at_a),
  λ stream low. (arrive stream low).1.all (none_pending stream g.world.b.state g.world.a.state idle.at_b)
      (none_aside stream g.world.b.state g.world.a.state idle.at_b)
      (none_kept stream g.world.b.state g.world.a.state idle.at_b),
)

-- where a run ends in this world, what holds all along it
module _ (Arrive Say : Stage → Type 0) (says : (g : Stage) → IsIdle g.world → Arrive g → Say g) (w : World) (idle : IsIdle w) where
  on_shows : (outcome : Outcome) (step : Step) (g : Stage) (steps : List Step)
      → ((later : Stage) → HoldsAlong Arrive later steps → HoldsAtEnd (λ h. h.world ≡ w → Say h) later steps)
      → OnShows outcome (λ shown new. HoldsAlong Arrive (passed g step shown new) steps)
      → OnShows outcome (λ shown new. HoldsAtEnd (λ h. h.world ≡ w → Say h) (passed g step shown new) steps)
  on_shows (shows shown new) step g steps next along = next (passed g step shown new) along
  on_shows impossible step g steps next along = tt
  on_shows exhausted step g steps next along = tt

  at_end : (g : Stage) (steps : List Step) → HoldsAlong Arrive g steps → HoldsAtEnd (λ h. h.world ≡ w → Say h) g steps
  at_end g [] arrive = λ same. says g (subst IsIdle (sym same) idle) arrive
  at_end g (step ∷ steps) along = on_shows (carried_out g.world step) step g steps (λ later rest. at_end later steps rest) along.1

module _ (w : World) (idle : IsIdle w) where
  pub all_arrived : AllArrived w
  all_arrived a b steps sound = at_end StreamsArrive AllGot all_got w idle (begun a b) steps (every_sound_run a b steps sound)

  pub all_accounted : AllAccounted w
  all_accounted a b steps quiet = at_end PartsArrive AllToldOf all_told_of w idle (begun a b) steps (every_quiet_run a b steps quiet)

  pub all_taken : AllTaken w
  unfolding HasPassed
  all_taken a b steps sound = at_end HasPassed AllHanded all_handed w idle (begun a b) steps
      (sound_says HasPassed (λ g all arrive. (all, arrive)) a b steps sound)
