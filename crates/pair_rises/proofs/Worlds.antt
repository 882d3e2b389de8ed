-- A STEP OF THE WORLD UNDER VEILS, but for what arrives, is the step under the same veils (`step_went`); and the sets stay
-- sound, their covered links settled, and their settled links answer a late order as before (`Bare`).
use Rattle.std.proofs.Common.{refl, ◌≡◌, ◌∙◌, ap, ap₂, ℕ, Bool, true, false, nat_lt, List, [], ◌∷◌, ◌++◌, length, cond}
use Rattle.l2_units.specs.declared.unit.Unit.{Unit as SignalUnit}
use Rattle.pair_steps.specs.Lines.{units_on}
use Rattle.set_events.specs.declared.answer.Answer.{Answer}
use Rattle.set_events.specs.declared.answer.Answer.TheVariants.{Accepted, Taken, Found, Sent, Heard as HeardBack, Done, Refused}
use Rattle.set_events.specs.declared.event.Actor.{Actor}
use Rattle.set_events.specs.declared.event.Actor.TheVariants.{User, Terminal}
use Rattle.set_events.specs.declared.event.Event.{Event}
use Rattle.set_events.specs.declared.event.Event.TheVariants.{Offer, Take, Find, Next, Heard, Up as UpEvent, Down as DownEvent, DownBlind, NoAnswer, Timed, Restore, Redeclare, BackTimeout, Test}
use Rattle.set_model.specs.History.{LinkSet}
use Rattle.set_model.specs.Sound.{IsSound}
use Rattle.set_model.specs.State.{State}
use Rattle.set_model.specs.Step.{step}
use Rattle.set_model.proofs.Soundness.{step_sound}
use Rattle.set_veiled.specs.Veil.{IsElsewhere}
use Rattle.pair_steps.specs.declared.step.End.{End}
use Rattle.pair_steps.specs.declared.step.End.TheVariants.{A, B}
use Rattle.pair_steps.specs.declared.step.Shown.{Shown}
use Rattle.pair_steps.specs.declared.step.Shown.TheVariants.{Answered, Up as CameUp, Lost}
use Rattle.pair_steps.specs.declared.step.Step.{Step}
use Rattle.pair_steps.specs.declared.step.Step.TheVariants.{Act, Emit, Arrive, Lose, Together, Inject}
use Rattle.pair_model.specs.World.{World, Outcome, shows, impossible, exhausted, at_end, with_end, actor_of, answer_to, after, is_full, has_link, has_actor, acts, with_sent, sends_on, loses_from, has_own_step, done_by, carried_out}
use Rattle.pair_model.specs.Run.{Stage, passed, OnShows}
use Rattle.pair_rises.specs.Rises.{Cover, Rising, set_under, world_under, as_seen, IsPlainStep, moved_on}
use Rattle.pair_rises.specs.declared.moves.Move.TheVariants.{Step as MoveStep}
use Rattle.pair_rises.proofs.Replies.{Older, Replies, replies_kept, asked_older, next_older}
use Rattle.pair_rises.proofs.Veils.{Fits, SameUnder, same_under, seen_length}

-- what arrives is told by itself (Arrives.antt)
abbrev pub IsNoArrival : Step → Type 0
IsNoArrival (Arrive end k) = ⊥
IsNoArrival step = Unit {0}

-- of the two sets as they are; where no changeover is given up, it's known what a settled link replies
pub record Bare (answers : Bool) (oa ob : ℕ → Cover) (sa sb : State) : Type 0 where
  pub sound_a : IsSound sa
  pub sound_b : IsSound sb
  pub fit_a : Fits oa sa
  pub fit_b : Fits ob sb
  pub replies_a : answers ≡ true → Replies sa
  pub replies_b : answers ≡ true → Replies sb

pub set_after : (told : ℕ → Cover) (set : LinkSet) (event : Event) → SameUnder told set.state event → after (set_under told set) event ≡ set_under told (after set event)
set_after told set event same =
    ap₂ (λ (s : State) (answer : Answer). record {
      base = set.base;
      state = s;
      history = set.history ++ record { who = actor_of event; event = event; answer = answer } ∷ [];
    }) same.state same.answer

abbrev pub under : (oa ob : ℕ → Cover) → Outcome → Outcome
under oa ob (shows shown w) = shows shown (world_under oa ob w)
under oa ob impossible = impossible
under oa ob exhausted = exhausted

module _ (answers : Bool) (oa ob : ℕ → Cover) where
  abbrev pub IsBare : World → Type 0
  IsBare w = Bare answers oa ob w.a.state w.b.state

  abbrev pub AreBare : Outcome → Type 0
  AreBare outcome = OnShows outcome (λ shown new. IsBare new)

  -- the same under the veils, and what is bare stays so
  abbrev Same : Outcome → Outcome → Type 0
  Same veiled outcome = (veiled ≡ under oa ob outcome) × AreBare outcome

  abbrev pub Other : End → World → Event → Type 0
  Other A w event = SameUnder oa w.a.state event × (answers ≡ true → Older w.a.state.links (step w.a.state event).state.links)
  Other B w event = SameUnder ob w.b.state event × (answers ≡ true → Older w.b.state.links (step w.b.state event).state.links)

  link_same : (w : World) (k : ℕ) → has_link (world_under oa ob w) k ≡ has_link w k
  link_same w k = ap (nat_lt k) (seen_length oa w.a.state)

  actor_same : (w : World) (who : Actor) → has_actor (world_under oa ob w) who ≡ has_actor w who
  actor_same w (User number) = refl
  actor_same w (Terminal k) = link_same w k

  known_same : (known known' full : Bool) (x y : Outcome) → known' ≡ known → Same x y
      → Same (cond known' (cond full exhausted x) impossible) (cond known (cond full exhausted y) impossible)
  known_same true known' true x y e same = (ap (λ (b : Bool). cond b exhausted impossible) e, tt)
  known_same true known' false x y e same = (ap (λ (b : Bool). cond b x impossible) e ∙ same.0, same.1)
  known_same false known' full x y e same = (ap (λ (b : Bool). cond b (cond full exhausted x) impossible) e, tt)

  shown_same : (end : End) (w : World) (event : Event) → IsBare w → Other end w event
      → Same (shows (Answered (answer_to (at_end (world_under oa ob w) end) event)) (with_end (world_under oa ob w) end (after (at_end (world_under oa ob w) end) event)))
      (shows (Answered (answer_to (at_end w end) event)) (with_end w end (after (at_end w end) event)))
  shown_same A w event bare other = (
    ap₂ (λ (answer : Answer) (set : LinkSet). shows (Answered answer) (with_end (world_under oa ob w) A set)) other.0.answer (set_after oa w.a event other.0),
    record {
      sound_a = step_sound w.a.state event bare.sound_a;
      sound_b = bare.sound_b;
      fit_a = other.0.fits;
      fit_b = bare.fit_b;
      replies_a = λ e. replies_kept w.a.state (step w.a.state event).state (other.1 e) (bare.replies_a e);
      replies_b = bare.replies_b;
    },
  )
  shown_same B w event bare other = (
    ap₂ (λ (answer : Answer) (set : LinkSet). shows (Answered answer) (with_end (world_under oa ob w) B set)) other.0.answer (set_after ob w.b event other.0),
    record {
      sound_a = bare.sound_a;
      sound_b = step_sound w.b.state event bare.sound_b;
      fit_a = bare.fit_a;
      fit_b = other.0.fits;
      replies_a = bare.replies_a;
      replies_b = λ e. replies_kept w.b.state (step w.b.state event).state (other.1 e) (bare.replies_b e);
    },
  )

  full_same : (end : End) (w : World) → is_full (at_end (world_under oa ob w) end) ≡ is_full (at_end w end)
  full_same A w = refl
  full_same B w = refl

  acts_same : (end : End) (w : World) (event : Event) → IsBare w → Other end w event → Same (acts (world_under oa ob w) end event) (acts w end event)
  acts_same end w event bare other =
      let one = known_same (has_actor w (actor_of event)) (has_actor (world_under oa ob w) (actor_of event)) (is_full (at_end w end)) _ _
      (actor_same w (actor_of event)) (shown_same end w event bare other) in (
        ap (λ (full : Bool). cond (has_actor (world_under oa ob w) (actor_of event)) (cond full exhausted
            (shows (Answered (answer_to (at_end (world_under oa ob w) end) event)) (with_end (world_under oa ob w) end (after (at_end (world_under oa ob w) end) event)))) impossible)
            (full_same end w) ∙ one.0,
        one.1,
      )

  -- EMIT
  sent_same : (end : End) (k : ℕ) (shown : Shown) (w : World) → IsBare w → (with_sent (world_under oa ob w) end k shown ≡ world_under oa ob (with_sent w end k shown)) × IsBare (with_sent w end k shown)
  sent_same A k (Answered (Sent unit)) w bare = (refl, bare)
  sent_same B k (Answered (Sent unit)) w bare = (refl, bare)
  sent_same end k (Answered (Accepted number)) w bare = (refl, bare)
  sent_same end k (Answered (Taken body)) w bare = (refl, bare)
  sent_same end k (Answered (Found fate)) w bare = (refl, bare)
  sent_same end k (Answered (HeardBack report)) w bare = (refl, bare)
  sent_same end k (Answered Done) w bare = (refl, bare)
  sent_same end k (Answered (Refused why)) w bare = (refl, bare)
  sent_same end k CameUp w bare = (refl, bare)
  sent_same end k Lost w bare = (refl, bare)

  sends_same : (end : End) (k : ℕ) (outcome : Outcome) → AreBare outcome → Same (sends_on end k (under oa ob outcome)) (sends_on end k outcome)
  sends_same end k (shows shown w) bare = let s = sent_same end k shown w bare in (ap (shows shown) s.0, s.1)
  sends_same end k impossible bare = (refl, tt)
  sends_same end k exhausted bare = (refl, tt)

  next_other : (end : End) (w : World) (k : ℕ) → IsBare w → Other end w (Next k)
  next_other A w k bare = (same_under oa w.a.state bare.fit_a (Next k) (λ l e. tt), λ e. next_older k w.a.state)
  next_other B w k bare = (same_under ob w.b.state bare.fit_b (Next k) (λ l e. tt), λ e. next_older k w.b.state)

  emits_same : (end : End) (w : World) (k : ℕ) → IsBare w → Same (sends_on end k (acts (world_under oa ob w) end (Next k))) (sends_on end k (acts w end (Next k)))
  emits_same end w k bare =
      let one = acts_same end w (Next k) bare (next_other end w k bare) in
      let two = sends_same end k (acts w end (Next k)) one.1 in
      (ap (sends_on end k) one.0 ∙ two.0, two.1)

  -- LOSE
  chosen_same : (up up' : Bool) (x y v z : Outcome) → up' ≡ up → Same x y → Same v z → Same (cond up' x v) (cond up y z)
  chosen_same true up' x y v z e s t = (ap (λ (b : Bool). cond b x v) e ∙ s.0, s.1)
  chosen_same false up' x y v z e s t = (ap (λ (b : Bool). cond b x v) e ∙ t.0, t.1)

  on_same : (w : World) (k : ℕ) (x y : Outcome) → Same x y → Same (cond (has_link (world_under oa ob w) k) x impossible) (cond (has_link w k) y impossible)
  on_same w k x y same = chosen_same (has_link w k) (has_link (world_under oa ob w) k) x y impossible impossible (link_same w k) same (refl, tt)

  lost_same : (end : End) (w : World) (k place : ℕ) (line : List SignalUnit) → IsBare w → Same (loses_from (world_under oa ob w) end k place line) (loses_from w end k place line)
  lost_same A w k place line bare = chosen_same (nat_lt place (length line)) (nat_lt place (length line)) _ _ impossible impossible refl (refl, bare) (refl, tt)
  lost_same B w k place line bare = chosen_same (nat_lt place (length line)) (nat_lt place (length line)) _ _ impossible impossible refl (refl, bare) (refl, tt)

  -- EACH STEP, where what's asked by an event is so
  abbrev pub Acts : World → Step → Type 0
  Acts w (Act end event) = has_own_step event ≡ false → Other end w event
  Acts w (Emit end k) = Unit {0}
  Acts w (Arrive end k) = ⊥
  Acts w (Lose end k place) = Unit {0}
  Acts w (Together k) = ⊥
  Acts w (Inject end k unit) = ⊥

  asked_same : (end : End) (w : World) (event : Event) → IsBare w → (has_own_step event ≡ false → Other end w event) → (own : Bool) → has_own_step event ≡ own
      → Same (cond own impossible (acts (world_under oa ob w) end event)) (cond own impossible (acts w end event))
  asked_same end w event bare other true e = (refl, tt)
  asked_same end w event bare other false e = acts_same end w event bare (other e)

  done_went : (w : World) (step : Step) → IsBare w → Acts w step → Same (done_by (world_under oa ob w) step) (done_by w step)
  done_went w (Act end event) bare other = asked_same end w event bare other (has_own_step event) refl
  done_went w (Emit end k) bare other = emits_same end w k bare
  done_went w (Arrive end k) bare other = absurd other
  done_went w (Lose A k place) bare other = on_same w k _ _ (lost_same A w k place (units_on k w.to_a) bare)
  done_went w (Lose B k place) bare other = on_same w k _ _ (lost_same B w k place (units_on k w.to_b) bare)
  done_went w (Together k) bare other = absurd other
  done_went w (Inject end k unit) bare other = absurd other

  pub step_went : (w : World) (step : Step) → IsBare w → Acts w step
      → (carried_out (world_under oa ob w) step ≡ under oa ob (carried_out w step)) × AreBare (carried_out w step)
  unfolding carried_out
  step_went w step bare other = done_went w step bare other

-- as of a run in which no changeover is given up
module _ (oa ob : ℕ → Cover) where
  act_elsewhere : (emergencies : Bool) (end : End) (event : Event) → IsPlainStep emergencies (Act end event) → has_own_step event ≡ false
      → (l : ℕ) (s : State) → IsElsewhere l s event
  act_elsewhere em end (Offer body) plain own l s = tt
  act_elsewhere em end Take plain own l s = tt
  act_elsewhere em end (Find number) plain own l s = tt
  act_elsewhere em end (Next k) plain own l s = tt
  act_elsewhere em end (Heard k unit) plain own l s = absurd cc
  act_elsewhere em end (UpEvent k) plain own l s = absurd cc
  act_elsewhere em end (DownEvent k) plain own l s = tt
  act_elsewhere em end (DownBlind k) plain own l s = tt
  act_elsewhere false end (NoAnswer k) plain own l s = absurd plain
  act_elsewhere true end (NoAnswer k) plain own l s = absurd plain
  act_elsewhere false end (Timed k) plain own l s = absurd plain
  act_elsewhere true end (Timed k) plain own l s = absurd plain
  act_elsewhere em end (Restore k) plain own l s = tt
  act_elsewhere em end (Redeclare k) plain own l s = tt
  act_elsewhere em end (BackTimeout k) plain own l s = tt
  act_elsewhere em end (Test k) plain own l s = tt

  act_other : (emergencies : Bool) (end : End) (w : World) (event : Event) → IsBare true oa ob w → IsPlainStep emergencies (Act end event) → has_own_step event ≡ false
      → Other true oa ob end w event
  act_other em A w event bare plain own =
      (same_under oa w.a.state bare.fit_a event (λ l e. act_elsewhere em A event plain own l w.a.state), λ e. asked_older em A event w.a.state plain own)
  act_other em B w event bare plain own =
      (same_under ob w.b.state bare.fit_b event (λ l e. act_elsewhere em B event plain own l w.b.state), λ e. asked_older em B event w.b.state plain own)

  injected : (emergencies : Bool) (end : End) (k : ℕ) (unit : SignalUnit) → IsPlainStep emergencies (Inject end k unit) → ⊥
  injected false end k unit plain = plain
  injected true end k unit plain = plain

  pub plain_acts : (emergencies : Bool) (w : World) (step : Step) → IsBare true oa ob w → IsPlainStep emergencies step → IsNoArrival step → Acts true oa ob w step
  plain_acts em w (Act end event) bare plain may = λ own. act_other em end w event bare plain own
  plain_acts em w (Emit end k) bare plain may = tt
  plain_acts em w (Arrive end k) bare plain may = may
  plain_acts em w (Lose end k place) bare plain may = tt
  plain_acts em w (Together k) bare plain may = plain
  plain_acts em w (Inject end k unit) bare plain may = injected em end k unit plain

-- the stage after it is that under the veils
pub passed_same : (g : Rising) (step : Step) (shown : Shown) (new : World)
    → passed (as_seen g) step shown (world_under g.open_a g.open_b new) ≡ as_seen (record g { stage = passed g.stage step shown new })
passed_same g (Act A event) shown new = refl
passed_same g (Act B event) shown new = refl
passed_same g (Emit A k) shown new = refl
passed_same g (Emit B k) shown new = refl
passed_same g (Arrive A k) shown new = refl
passed_same g (Arrive B k) shown new = refl
passed_same g (Lose end k place) shown new = refl
passed_same g (Together k) shown new = refl
passed_same g (Inject A k unit) shown new = refl
passed_same g (Inject B k unit) shown new = refl

-- it leads to this world
pub passed_world : (g : Stage) (step : Step) (shown : Shown) (new : World) → (passed g step shown new).world ≡ new
passed_world g (Act A event) shown new = refl
passed_world g (Act B event) shown new = refl
passed_world g (Emit A k) shown new = refl
passed_world g (Emit B k) shown new = refl
passed_world g (Arrive A k) shown new = refl
passed_world g (Arrive B k) shown new = refl
passed_world g (Lose end k place) shown new = refl
passed_world g (Together k) shown new = refl
passed_world g (Inject A k unit) shown new = refl
passed_world g (Inject B k unit) shown new = refl

-- and but for what arrives each end stands to each link as it did
pub none_told : (g : Rising) (step : Step) (shown : Shown) (new : World) → IsNoArrival step → moved_on g (MoveStep step) shown new ≡ record g { stage = passed g.stage step shown new }
none_told g (Act end event) shown new other = refl
none_told g (Emit end k) shown new other = refl
none_told g (Arrive end k) shown new other = absurd other
none_told g (Lose end k place) shown new other = refl
none_told g (Together k) shown new other = refl
none_told g (Inject end k unit) shown new other = refl
