-- EACH STEP OF THE WORLD, but for what arrives, KEEPS WHAT HOLDS OF AN OPEN LINK (`step_opens`), whichever end is the one
-- that may yet join.
use Rattle.std.proofs.Common.{refl, arith, ◌≡◌, sym, subst, ℕ, ◌<◌, Bool, true, false, nat_lt, List, length, slice_get, Some, cond}
use Rattle.std.proofs.lemmas.Bool.{ltb-true}
use Rattle.l2_units.specs.declared.unit.Unit.{Unit as SignalUnit}
use Rattle.pair_steps.specs.Lines.{without}
use Rattle.set_events.specs.declared.answer.Answer.TheVariants.{Accepted, Taken, Found, Sent, Heard as HeardBack, Done, Refused}
use Rattle.set_events.specs.declared.config.Method.{Method}
use Rattle.set_events.specs.declared.event.Event.{Event}
use Rattle.set_events.specs.declared.event.Event.TheVariants.{Next}
use Rattle.set_model.specs.State.{LinkState, State, is_up, link_count}
use Rattle.set_model.specs.Step.{step}
use Rattle.set_model.proofs.Lists.{present}
use Rattle.pair_steps.specs.declared.step.End.{End}
use Rattle.pair_steps.specs.declared.step.End.TheVariants.{A, B}
use Rattle.pair_steps.specs.declared.step.Shown.{Shown}
use Rattle.pair_steps.specs.declared.step.Shown.TheVariants.{Answered, Up as CameUp, Lost}
use Rattle.pair_steps.specs.declared.step.Step.{Step}
use Rattle.pair_steps.specs.declared.step.Step.TheVariants.{Act, Emit, Arrive, Lose, Together, Inject}
use Rattle.pair_model.specs.World.{World, Outcome, shows, impossible, exhausted, at_end, with_end, line_to, with_line, actor_of, answer_to, after, is_full, has_link, has_actor, acts, with_sent, sends_on, loses_from, has_own_step, done_by, carried_out}
use Rattle.pair_model.specs.Promises.{IsOneMethod}
use Rattle.pair_model.specs.Run.{Stage, OnShows}
use Rattle.pair_model.proofs.Controls.{one_back}
use Rattle.pair_model.proofs.Pairs.{HoldsOf, swap}
use Rattle.pair_model.proofs.Runs.{seen, is_at_up}
use Rattle.pair_streams.proofs.Acting.{IsSafe, Streams, streams_back}
use Rattle.pair_rises.proofs.Open.{IsOpen, asked_keeps, near_kept, far_kept, shut, sends_near, sends_far, sends_still}

abbrev pub IsOpenAt : End → ℕ → World → Type 0
IsOpenAt A l w = IsOpen l w.a.state w.b.state
IsOpenAt B l w = IsOpen l w.b.state w.a.state

abbrev pub IsDownAt : End → ℕ → World → Type 0
IsDownAt A l w = is_up l w.a.state ≡ false
IsDownAt B l w = is_up l w.b.state ≡ false

-- what arrives is told by itself (Arrives.antt)
abbrev pub IsOpenStep : Step → Type 0
IsOpenStep (Arrive end k) = ⊥
IsOpenStep (Together k) = ⊥
IsOpenStep step = Unit {0}

sent_open : (owner end : End) (l k : ℕ) (shown : Shown) (w : World) → IsOpenAt owner l w → IsOpenAt owner l (with_sent w end k shown)
sent_open A A l k (Answered (Sent unit)) w was = was
sent_open A B l k (Answered (Sent unit)) w was = was
sent_open B A l k (Answered (Sent unit)) w was = was
sent_open B B l k (Answered (Sent unit)) w was = was
sent_open owner end l k (Answered (Accepted number)) w was = was
sent_open owner end l k (Answered (Taken body)) w was = was
sent_open owner end l k (Answered (Found fate)) w was = was
sent_open owner end l k (Answered (HeardBack report)) w was = was
sent_open owner end l k (Answered Done) w was = was
sent_open owner end l k (Answered (Refused why)) w was = was
sent_open owner end l k CameUp w was = was
sent_open owner end l k Lost w was = was

module _ (emergencies : Bool) (ma mb : Method) (one : IsOneMethod ma mb) (g : Stage) (h : HoldsOf ma mb (seen A g))
    (v : Streams emergencies (seen A g)) (owner : End) (l : ℕ) (few_l : l < length g.world.a.state.links)
    (down : IsDownAt owner l g.world) (was : IsOpenAt owner l g.world) where
  abbrev w : World
  w = g.world

  abbrev Kept : Outcome → Type 0
  Kept outcome = OnShows outcome (λ shown new. IsOpenAt owner l new)

  h_b : HoldsOf mb ma (seen B g)
  h_b = swap ma mb (seen A g) h

  v_b : Streams emergencies (seen B g)
  v_b = streams_back (seen A g) v

  one_b : IsOneMethod mb ma
  one_b = one_back ma mb one

  at_a : (link : LinkState) × (slice_get w.a.state.links l ≡ Some link)
  at_a = present w.a.state.links l few_l

  at_b : (link : LinkState) × (slice_get w.b.state.links l ≡ Some link)
  at_b = present w.b.state.links l (omega (arith, few_l, h.far_links))

  -- ACT
  acted : (end owner : End) (event : Event) → IsSafe emergencies (Act end event) → has_own_step event ≡ false → IsDownAt owner l w → IsOpenAt owner l w
      → IsOpenAt owner l (with_end w end (after (at_end w end) event))
  acted A A event safe own down was = near_kept {emergencies = emergencies} l w.a.state _ w.b.state at_b.0 at_b.1 v.ordered.both down
      (asked_keeps emergencies A w.a.state (shut l w.b.state at_b.0 at_b.1) event safe own h.near_sound v.ordered.near_codes) was
  acted A B event safe own down was = far_kept {emergencies = emergencies} l w.a.state _ w.b.state
      (asked_keeps emergencies A w.a.state w.b.state event safe own h.near_sound v.ordered.near_codes) was
  acted B B event safe own down was = near_kept {emergencies = emergencies} l w.b.state _ w.a.state at_a.0 at_a.1 v_b.ordered.both down
      (asked_keeps emergencies B w.b.state (shut l w.a.state at_a.0 at_a.1) event safe own h_b.near_sound v_b.ordered.near_codes) was
  acted B A event safe own down was = far_kept {emergencies = emergencies} l w.b.state _ w.a.state
      (asked_keeps emergencies B w.b.state w.a.state event safe own h_b.near_sound v_b.ordered.near_codes) was

  act_opens : (end : End) (event : Event) → IsSafe emergencies (Act end event) → has_own_step event ≡ false → Kept (acts w end event)
  act_opens end event safe own = go (has_actor w (actor_of event)) (is_full (at_end w end))
    where
      go : (known full : Bool) → Kept (cond known (cond full exhausted (shows (Answered (answer_to (at_end w end) event)) (with_end w end (after (at_end w end) event)))) impossible)
      go true true = tt
      go true false = acted end owner event safe own down was
      go false full = tt

  own_opens : (end : End) (event : Event) → IsSafe emergencies (Act end event) → (own : Bool) → has_own_step event ≡ own → Kept (cond own impossible (acts w end event))
  own_opens end event safe true e = tt
  own_opens end event safe false e = act_opens end event safe e

  -- EMIT
  sent : (end owner : End) (k : ℕ) → k < length w.a.state.links → (up : Bool) → is_up k (at_end w end).state ≡ up → IsDownAt owner l w → IsOpenAt owner l w
      → IsOpenAt owner l (with_end w end (after (at_end w end) (Next k)))
  sent A A k few true e down was = let at = is_at_up k w.a.state e in sends_near ma mb one (seen A g) h k few v.ordered.both at.0 at.1 l at_b.0 at_b.1 down was
  sent A B k few true e down was = let at = is_at_up k w.a.state e in sends_far ma mb one (seen A g) h k few v.ordered.both at.0 at.1 l was
  sent B B k few true e down was =
      let at = is_at_up k w.b.state e in
      sends_near mb ma one_b (seen B g) h_b k (omega (arith, few, h.far_links)) v_b.ordered.both at.0 at.1 l at_a.0 at_a.1 down was
  sent B A k few true e down was =
      let at = is_at_up k w.b.state e in
      sends_far mb ma one_b (seen B g) h_b k (omega (arith, few, h.far_links)) v_b.ordered.both at.0 at.1 l was
  sent A A k few false e down was = subst (λ (s : State). IsOpen l s w.b.state) (sym (sends_still ma mb one (seen A g) h k few v.ordered.both e)) was
  sent A B k few false e down was = subst (λ (s : State). IsOpen l w.b.state s) (sym (sends_still ma mb one (seen A g) h k few v.ordered.both e)) was
  sent B B k few false e down was =
      subst (λ (s : State). IsOpen l s w.a.state) (sym (sends_still mb ma one_b (seen B g) h_b k (omega (arith, few, h.far_links)) v_b.ordered.both e)) was
  sent B A k few false e down was =
      subst (λ (s : State). IsOpen l w.a.state s) (sym (sends_still mb ma one_b (seen B g) h_b k (omega (arith, few, h.far_links)) v_b.ordered.both e)) was

  emit_opens : (end : End) (k : ℕ) → Kept (sends_on end k (acts w end (Next k)))
  emit_opens end k = go (has_link w k) refl (is_full (at_end w end))
    where
      go : (known : Bool) → has_link w k ≡ known → (full : Bool)
          → Kept (sends_on end k (cond known (cond full exhausted
          (shows (Answered (answer_to (at_end w end) (Next k))) (with_end w end (after (at_end w end) (Next k))))) impossible))
      go true e true = tt
      go true e false = sent_open owner end l k (Answered (answer_to (at_end w end) (Next k))) (with_end w end (after (at_end w end) (Next k)))
          (sent end owner k (ltb-true k (link_count w.a.state) e) (is_up k (at_end w end).state) refl down was)
      go false e full = tt

  -- LOSE
  lined : (owner end : End) (k : ℕ) (line : List SignalUnit) → IsOpenAt owner l w → IsOpenAt owner l (with_line w end k line)
  lined A A k line was = was
  lined A B k line was = was
  lined B A k line was = was
  lined B B k line was = was

  on_opens : (k : ℕ) (outcome : Outcome) → (k < length w.a.state.links → Kept outcome) → Kept (cond (has_link w k) outcome impossible)
  on_opens k outcome kept = go (has_link w k) refl
    where
      go : (known : Bool) → has_link w k ≡ known → Kept (cond known outcome impossible)
      go true e = kept (ltb-true k (link_count w.a.state) e)
      go false e = tt

  lose_opens : (end : End) (k place : ℕ) (line : List SignalUnit) → Kept (loses_from w end k place line)
  lose_opens end k place line = go (nat_lt place (length line))
    where
      go : (within : Bool) → Kept (cond within (shows Lost (with_line w end k (without place line))) impossible)
      go true = lined owner end k (without place line) was
      go false = tt

  not_injected : (em : Bool) (end : End) (k : ℕ) (unit : SignalUnit) → IsSafe em (Inject end k unit) → ⊥
  not_injected false end k unit safe = safe
  not_injected true end k unit safe = safe

  done_opens : (step : Step) → IsSafe emergencies step → IsOpenStep step → Kept (done_by w step)
  done_opens (Act end event) safe apart = own_opens end event safe (has_own_step event) refl
  done_opens (Emit end k) safe apart = emit_opens end k
  done_opens (Arrive end k) safe apart = absurd apart
  done_opens (Lose end k place) safe apart = on_opens k _ (λ few. lose_opens end k place (line_to w end k))
  done_opens (Together k) safe apart = absurd apart
  done_opens (Inject end k unit) safe apart = absurd (not_injected emergencies end k unit safe)

  pub step_opens : (step : Step) → IsSafe emergencies step → IsOpenStep step → Kept (carried_out w step)
  unfolding carried_out
  step_opens step safe apart = done_opens step safe apart
