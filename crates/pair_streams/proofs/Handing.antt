-- WHAT USERS TAKE, ALL ALONG A RUN: each body that is delivered was sent by the other end, so users take all that is
-- got. `every_honest_run_hands_out`, `every_sound_run_hands_out` and `every_quiet_run_hands_out` answer the laws that
-- begin so (src/laws.rt). The first is an induction over the steps: what passed the inbox of a set, or stands in it, is
-- what was got. An event adds the same body to both (`event_passes`, Inbox.antt), where the law of links says that the
-- body was sent (`next_sent`). In the other two Runs.antt says what is got, and what users took is the first of it
-- (`take_first`, `take_part`). Arrived.antt uses `sound_says`.
use Rattle.std.proofs.Common.{refl, ◌≡◌, ◌∙◌, ap, sym, ℕ, zero, suc, ◌==◌, Bool, true, false, ◌||◌, nat_lt, List, [], ◌∷◌, ◌++◌, length, take, slice_get, Some, cond, append_assoc, inl, inr}
use Rattle.std.proofs.lemmas.List.{append-nil, map-append}
use Rattle.std.proofs.lemmas.List.Elements.{filter-append}
use Rattle.l2_units.specs.declared.unit.Unit.{Unit as SignalUnit}
use Rattle.pair_steps.specs.Lines.{without}
use Rattle.set_events.specs.declared.answer.Answer.{Answer}
use Rattle.set_events.specs.declared.answer.Answer.TheVariants.{Accepted, Taken, Found, Sent, Heard, Done, Refused}
use Rattle.set_events.specs.declared.answer.Report.{Report}
use Rattle.set_events.specs.declared.answer.Took.{Took}
use Rattle.set_events.specs.declared.answer.Took.TheVariants.{Nothing as NothingTaken, Message as TookMessage, Order as TookOrder, Ignored}
use Rattle.set_events.specs.declared.config.SetConfig.{SetConfig}
use Rattle.set_events.specs.declared.event.Event.{Event}
use Rattle.set_events.specs.declared.event.Event.TheVariants.{Offer, Next, Heard as HeardEvent, Up as UpEvent}
use Rattle.set_events.specs.declared.history.Entry.{Entry}
use Rattle.set_model.specs.History.{LinkSet}
use Rattle.set_model.specs.Rows.{stream_of}
use Rattle.set_model.specs.State.{is_up}
use Rattle.set_model.specs.Step.{step}
use Rattle.set_model.proofs.Places.{itself}
use Rattle.pair_steps.specs.declared.step.End.{End}
use Rattle.pair_steps.specs.declared.step.End.TheVariants.{A, B}
use Rattle.pair_steps.specs.declared.step.Shown.{Shown}
use Rattle.pair_steps.specs.declared.step.Shown.TheVariants.{Answered, Up as CameUp, Lost}
use Rattle.pair_steps.specs.declared.step.Step.{Step}
use Rattle.pair_steps.specs.declared.step.Step.TheVariants.{Act, Emit, Arrive, Lose, Together, Inject}
use Rattle.pair_model.specs.World.{Outcome, shows, impossible, exhausted, at_end, with_end, line_to, with_line, actor_of, answer_to, after, is_full, has_link, has_actor, acts, with_sent, sends_on, emits, reaches, front_arrives, arrives, loses, risen, is_settled_at_both, rises, has_own_step, done_by, carried_out}
use Rattle.pair_model.specs.Run.{message_by, Message, Past, Stage, bodies, begun, body_in, added_at, past_asked, past_sent, past_risen, past_heard, past_arrived, with_past, passed, OnShows, HoldsAlong}
use Rattle.pair_model.specs.Promises.{IsHonestStep, IsSoundStep, IsQuietStep, IsSoundRun, AreSteps, LinksKeep}
use Rattle.pair_model.proofs.Runs.{is_honest, every_honest_run}
use Rattle.pair_streams.specs.Handed.{handed_by, delivered_by, handed_in, bodies_of, taken_of, UsersTakeAll, UsersTakeFirst, UsersTakePart, EveryHonestRunHandsOutAll, EverySoundRunHandsOutInOrder, EveryQuietRunHandsOutAPart}
use Rattle.pair_streams.specs.Streams.{IsPart, StreamsArrive, PartsArrive}
use Rattle.pair_streams.proofs.Acting.{added_none}
use Rattle.pair_streams.proofs.Inbox.{event_passes}
use Rattle.pair_streams.proofs.Runs.{every_sound_run, every_quiet_run}

-- WHAT HAS PASSED the inbox of a set, or stands in it
pub passes : LinkSet → List (List ℕ)
passes set = handed_in set.history ++ set.state.inbox

handed_joined : (some more : List Entry) → handed_in (some ++ more) ≡ handed_in some ++ handed_in more
handed_joined [] more = refl
handed_joined (entry ∷ some) more = ap (λ (q : List (List ℕ)). handed_by entry.answer ++ q) (handed_joined some more)
    ∙ sym (append_assoc (handed_by entry.answer) (handed_in some) (handed_in more))

passes_on : (set : LinkSet) (event : Event) → passes (after set event) ≡ passes set ++ delivered_by (answer_to set event) event
unfolding passes
passes_on set event =
    let answer = answer_to set event in
    let entry : Entry = record { who = actor_of event; event = event; answer = answer } in
    let inbox = (step set.state event).state.inbox in
    ap (λ (q : List (List ℕ)). q ++ inbox)
    (handed_joined set.history (entry ∷ [])
    ∙ ap (λ (q : List (List ℕ)). handed_in set.history ++ q) (append-nil (handed_by answer)))
    ∙ append_assoc (handed_in set.history) (handed_by answer) inbox
    ∙ ap (λ (q : List (List ℕ)). handed_in set.history ++ q) (sym (event_passes set.state event))
    ∙ sym (append_assoc (handed_in set.history) set.state.inbox (delivered_by answer event))

-- of each stream it's what was got
abbrev pub Takes : Past → LinkSet → Type 0
Takes past set = (stream : ℕ) → bodies_of stream (passes set) ≡ bodies (past.got stream)

-- an event that delivers nothing
pub keeps : (past then : Past) (set : LinkSet) (event : Event) → ((stream : ℕ) → then.got stream ≡ past.got stream)
    → delivered_by (answer_to set event) event ≡ [] → Takes past set → Takes then (after set event)
keeps past then set event same none t stream =
    ap (bodies_of stream) (passes_on set event ∙ ap (λ (q : List (List ℕ)). passes set ++ q) none
    ∙ append-nil (passes set)) ∙ t stream ∙ ap bodies (sym (same stream))

own_delivers : (answer : Answer) (event : Event) → has_own_step event ≡ false → delivered_by answer event ≡ []
own_delivers (Heard report) (HeardEvent link unit) own = absurd cc
own_delivers _ _ own = refl

next_delivers : (answer : Answer) (k : ℕ) → delivered_by answer (Next k) ≡ []
next_delivers (Heard report) k = refl
next_delivers _ k = refl

pub up_delivers : (answer : Answer) (k : ℕ) → delivered_by answer (UpEvent k) ≡ []
up_delivers (Heard report) k = refl
up_delivers _ k = refl

asked_got : (event : Event) (shown : Shown) (past : Past) (stream : ℕ) → (past_asked event shown past).got stream ≡ past.got stream
asked_got (Offer body) shown past stream = refl
asked_got _ shown past stream = refl

-- WHERE A UNIT IS HEARD: its body is the next one that the other end sent
next_sent : (some : List (List ℕ)) (body : List ℕ) (sent : List Message)
    → some ++ body ∷ [] ≡ take (length (some ++ body ∷ [])) (bodies sent) → (m : Message)
    × (slice_get sent (length some) ≡ Some m)
next_sent [] body [] e = absurd (let no : body ∷ [] ≡ [] = e in cc)
next_sent [] body (m ∷ sent) e = (m, refl)
next_sent (x ∷ some) body [] e = absurd (let no : x ∷ (some ++ body ∷ []) ≡ [] = e in cc)
next_sent (x ∷ some) body (m ∷ sent) e = let rest : some ++ body ∷ [] ≡ take (length (some ++ body ∷ [])) (bodies sent) = cc in next_sent some body sent rest

module _ (k : ℕ) (unit : SignalUnit) (sent : List Message) (past : Past) (set : LinkSet) (t : Takes past set) where
  abbrev Joins : Answer → Type 0
  Joins answer =
      let then = past_heard k unit sent (Answered answer) past in
      then.taken k ≡ take (length (then.taken k)) (bodies sent) → (stream : ℕ)
      → bodies_of stream (passes set ++ delivered_by answer (HeardEvent k unit)) ≡ bodies (then.got stream)

  none_joins : (stream : ℕ) → bodies_of stream (passes set ++ []) ≡ bodies (past.got stream)
  none_joins stream = ap (bodies_of stream) (append-nil (passes set)) ∙ t stream

  none_got : (stream : ℕ) → bodies_of stream (passes set ++ []) ≡ bodies (added_at (stream_of (body_in unit)) [] past.got stream)
  none_got stream = none_joins stream ∙ ap bodies (sym (added_none (stream_of (body_in unit)) stream past.got))

  one_got : (number stream : ℕ) → bodies_of stream (passes set ++ body_in unit ∷ [])
      ≡ bodies (added_at (stream_of (body_in unit)) (message_by number (body_in unit) ∷ []) past.got
      stream)
  one_got number stream = filter-append (λ body. stream == stream_of body) (passes set) (body_in unit ∷ []) ∙ go (stream == stream_of (body_in unit)) refl
    where
      go : (own : Bool) → (stream == stream_of (body_in unit)) ≡ own
          → bodies_of stream (passes set) ++ bodies_of stream (body_in unit ∷ [])
          ≡ bodies (added_at (stream_of (body_in unit)) (message_by number (body_in unit) ∷ []) past.got
          stream)
      go true e = rw e (ap (λ (q : List (List ℕ)). q ++ body_in unit ∷ []) (t stream)
          ∙ sym (map-append (λ (m : Message). m.body) (past.got stream)
          (message_by number (body_in unit) ∷ [])))
      go false e = rw e (append-nil (bodies_of stream (passes set)) ∙ t stream)

  message_joins : (report : Report) → report.took ≡ TookMessage → Joins (Heard report)
  message_joins report e prefix stream =
      let here : added_at k (body_in unit ∷ []) past.taken k ≡ past.taken k ++ body_in unit ∷ [] = rw (itself k) refl in
      let first : added_at k (body_in unit ∷ []) past.taken k ≡ take (length (added_at k (body_in unit ∷ []) past.taken k)) (bodies sent) = rw e at prefix in
      let m = next_sent (past.taken k) (body_in unit) sent (rw here at first) in
      rw (e, m.1) (one_got m.0.number stream)

  report_joins : (report : Report) (took : Took) → report.took ≡ took → Joins (Heard report)
  report_joins report TookMessage e prefix stream = message_joins report e prefix stream
  report_joins report NothingTaken e prefix stream = rw e (none_got stream)
  report_joins report TookOrder e prefix stream = rw e (none_got stream)
  report_joins report Ignored e prefix stream = rw e (none_got stream)

  joins : (answer : Answer) → Joins answer
  joins (Heard report) prefix stream = report_joins report report.took refl prefix stream
  joins (Accepted number) prefix stream = none_joins stream
  joins (Taken body) prefix stream = none_joins stream
  joins (Found fate) prefix stream = none_joins stream
  joins (Sent sent_unit) prefix stream = none_joins stream
  joins Done prefix stream = none_joins stream
  joins (Refused why) prefix stream = none_joins stream

  hears : (past_heard k unit sent (Answered (answer_to set (HeardEvent k unit))) past).taken k
      ≡ take (length ((past_heard k unit sent (Answered (answer_to set (HeardEvent k unit))) past).taken k))
      (bodies sent)
      → Takes (past_heard k unit sent (Answered (answer_to set (HeardEvent k unit))) past) (after set (HeardEvent k unit))
  hears prefix stream = ap (bodies_of stream) (passes_on set (HeardEvent k unit)) ∙ joins (answer_to set (HeardEvent k unit)) prefix stream

-- A STAGE, and each step from it
abbrev pub TakeAll : Stage → Type 0
TakeAll g = Takes g.a g.world.a × Takes g.b g.world.b

-- what was taken on each link is the first of what was sent there
abbrev pub Prefixes : Stage → Type 0
Prefixes g = (k : ℕ)
    → (g.a.taken k ≡ take (length (g.a.taken k)) (bodies (g.b.sent k)))
    × (g.b.taken k ≡ take (length (g.b.taken k)) (bodies (g.a.sent k)))

pub prefixes : (g : Stage) → LinksKeep g → Prefixes g
prefixes g kept k = ((kept k).1.prefix, (kept k).0.prefix)

-- at the stage that it leads to
abbrev pub Goes : Stage → Step → Outcome → Type 0
Goes g step outcome = OnShows outcome (λ shown new. Prefixes (passed g step shown new) → TakeAll (passed g step shown new))

module _ (g : Stage) (t : TakeAll g) where
  act_goes : (end : End) (event : Event) → has_own_step event ≡ false → Goes g (Act end event) (acts g.world end event)
  act_goes end event own = go (has_actor g.world (actor_of event)) (is_full (at_end g.world end))
    where
      shown : (end : End) → Goes g (Act end event)
          (shows (Answered (answer_to (at_end g.world end) event))
          (with_end g.world end (after (at_end g.world end) event)))
      shown A = λ kept. (
        keeps g.a (past_asked event (Answered (answer_to g.world.a event)) g.a) g.world.a event
            (asked_got event (Answered (answer_to g.world.a event)) g.a)
            (own_delivers (answer_to g.world.a event) event own) t.0,
        t.1,
      )
      shown B = λ kept. (
        t.0,
        keeps g.b (past_asked event (Answered (answer_to g.world.b event)) g.b) g.world.b event
            (asked_got event (Answered (answer_to g.world.b event)) g.b)
            (own_delivers (answer_to g.world.b event) event own) t.1,
      )

      go : (known full : Bool) → Goes g (Act end event)
          (cond known (cond full exhausted
          (shows (Answered (answer_to (at_end g.world end) event))
          (with_end g.world end (after (at_end g.world end) event)))) impossible)
      go true true = tt
      go true false = shown end
      go false full = tt

  own_goes : (end : End) (event : Event) (own : Bool) → has_own_step event ≡ own → Goes g (Act end event) (cond own impossible (acts g.world end event))
  own_goes end event true e = tt
  own_goes end event false e = act_goes end event e

  -- what is sent joins a line, and no set
  sends : (end : End) (k : ℕ) (answer : Answer) → answer ≡ answer_to (at_end g.world end) (Next k)
      → Goes g (Emit end k) (shows (Answered answer)
      (with_sent (with_end g.world end (after (at_end g.world end) (Next k))) end k (Answered answer)))
  sends A k answer e = go answer e
    where
      here : (then : Past) → ((stream : ℕ) → then.got stream ≡ g.a.got stream) → Takes then (after g.world.a (Next k))
      here then same = keeps g.a then g.world.a (Next k) same (next_delivers (answer_to g.world.a (Next k)) k) t.0

      go : (answer : Answer) → answer ≡ answer_to g.world.a (Next k)
          → Goes g (Emit A k) (shows (Answered answer)
          (with_sent (with_end g.world A (after g.world.a (Next k))) A k (Answered answer)))
      go (Sent unit) e = λ kept. (here (past_sent k g.world.a.state (after g.world.a (Next k)).state g.a) (λ stream. refl), t.1)
      go _ e = λ kept. (here (past_sent k g.world.a.state (after g.world.a (Next k)).state g.a) (λ stream. refl), t.1)
  sends B k answer e = go answer e
    where
      here : (then : Past) → ((stream : ℕ) → then.got stream ≡ g.b.got stream) → Takes then (after g.world.b (Next k))
      here then same = keeps g.b then g.world.b (Next k) same (next_delivers (answer_to g.world.b (Next k)) k) t.1

      go : (answer : Answer) → answer ≡ answer_to g.world.b (Next k)
          → Goes g (Emit B k) (shows (Answered answer)
          (with_sent (with_end g.world B (after g.world.b (Next k))) B k (Answered answer)))
      go (Sent unit) e = λ kept. (t.0, here (past_sent k g.world.b.state (after g.world.b (Next k)).state g.b) (λ stream. refl))
      go _ e = λ kept. (t.0, here (past_sent k g.world.b.state (after g.world.b (Next k)).state g.b) (λ stream. refl))

  emit_goes : (end : End) (k : ℕ) → Goes g (Emit end k) (emits g.world end k)
  emit_goes end k = go (has_link g.world k) (is_full (at_end g.world end))
    where
      go : (known full : Bool) → Goes g (Emit end k)
          (sends_on end k (cond known (cond full exhausted
          (shows (Answered (answer_to (at_end g.world end) (Next k)))
          (with_end g.world end (after (at_end g.world end) (Next k))))) impossible))
      go true true = tt
      go true false = sends end k (answer_to (at_end g.world end) (Next k)) refl
      go false full = tt

  lose_goes : (end : End) (k place : ℕ) → Goes g (Lose end k place) (loses g.world end k place)
  lose_goes end k place = go (has_link g.world k) (nat_lt place (length (line_to g.world end k)))
    where
      lost : (end : End) → Goes g (Lose end k place) (shows Lost (with_line g.world end k (without place (line_to g.world end k))))
      lost A = λ kept. t
      lost B = λ kept. t

      go : (known within : Bool) → Goes g (Lose end k place)
          (cond known (cond within (shows Lost (with_line g.world end k (without place (line_to g.world end k))))
          impossible) impossible)
      go true true = lost end
      go true false = tt
      go false within = tt

  -- what arrives is heard, or lost
  abbrev ArriveGoes : (end : End) (k : ℕ) → List SignalUnit → Outcome → Type 0
  ArriveGoes A k line outcome = OnShows outcome
      (λ shown new. Prefixes (with_past A (past_arrived k line (g.b.sent k) shown g.a) new g)
      → TakeAll (with_past A (past_arrived k line (g.b.sent k) shown g.a) new g))
  ArriveGoes B k line outcome = OnShows outcome
      (λ shown new. Prefixes (with_past B (past_arrived k line (g.a.sent k) shown g.b) new g)
      → TakeAll (with_past B (past_arrived k line (g.a.sent k) shown g.b) new g))

  reach_goes : (end : End) (k : ℕ) (unit : SignalUnit) (rest : List SignalUnit)
      → ArriveGoes end k (unit ∷ rest) (reaches (with_line g.world end k rest) end k unit)
  reach_goes A k unit rest = go (is_up k g.world.a.state) (has_link g.world k) (is_full g.world.a)
    where
      go : (up known full : Bool) → ArriveGoes A k (unit ∷ rest)
          (cond up (cond known (cond full exhausted
          (shows (Answered (answer_to g.world.a (HeardEvent k unit)))
          (with_end (with_line g.world A k rest) A (after g.world.a (HeardEvent k unit))))) impossible)
          (shows Lost (with_line g.world A k rest)))
      go true true true = tt
      go true true false = λ kept. (hears k unit (g.b.sent k) g.a g.world.a t.0 (kept k).0, t.1)
      go true false full = tt
      go false known full = λ kept. t
  reach_goes B k unit rest = go (is_up k g.world.b.state) (has_link g.world k) (is_full g.world.b)
    where
      go : (up known full : Bool) → ArriveGoes B k (unit ∷ rest)
          (cond up (cond known (cond full exhausted
          (shows (Answered (answer_to g.world.b (HeardEvent k unit)))
          (with_end (with_line g.world B k rest) B (after g.world.b (HeardEvent k unit))))) impossible)
          (shows Lost (with_line g.world B k rest)))
      go true true true = tt
      go true true false = λ kept. (t.0, hears k unit (g.a.sent k) g.b g.world.b t.1 (kept k).1)
      go true false full = tt
      go false known full = λ kept. t

  front_goes : (end : End) (k : ℕ) (line : List SignalUnit) → ArriveGoes end k line (front_arrives g.world end k line)
  front_goes A k [] = tt
  front_goes B k [] = tt
  front_goes end k (unit ∷ rest) = reach_goes end k unit rest

  arrive_at : (end : End) (k : ℕ) → Goes g (Arrive end k) (front_arrives g.world end k (line_to g.world end k))
  arrive_at A k = front_goes A k (line_to g.world A k)
  arrive_at B k = front_goes B k (line_to g.world B k)

  arrive_goes : (end : End) (k : ℕ) → Goes g (Arrive end k) (arrives g.world end k)
  arrive_goes end k = go (has_link g.world k)
    where
      go : (known : Bool) → Goes g (Arrive end k) (cond known (front_arrives g.world end k (line_to g.world end k)) impossible)
      go true = arrive_at end k
      go false = tt

  together_goes : (k : ℕ) → Goes g (Together k) (rises g.world k)
  together_goes k = go (has_link g.world k) (is_settled_at_both g.world k) (is_full g.world.a || is_full g.world.b)
    where
      go : (known settled full : Bool)
          → Goes g (Together k) (cond known
          (cond settled (cond full exhausted (shows CameUp (risen g.world k))) impossible) impossible)
      go true true true = tt
      go true true false = λ kept. (
        keeps g.a (past_risen k g.a) g.world.a (UpEvent k) (λ stream. refl) (up_delivers (answer_to g.world.a (UpEvent k)) k) t.0,
        keeps g.b (past_risen k g.b) g.world.b (UpEvent k) (λ stream. refl) (up_delivers (answer_to g.world.b (UpEvent k)) k) t.1,
      )
      go true false full = tt
      go false settled full = tt

  done_goes : (step : Step) → IsHonestStep step → Goes g step (done_by g.world step)
  done_goes (Act end event) honest = own_goes end event (has_own_step event) refl
  done_goes (Emit end k) honest = emit_goes end k
  done_goes (Arrive end k) honest = arrive_goes end k
  done_goes (Lose end k place) honest = lose_goes end k place
  done_goes (Together k) honest = together_goes k
  done_goes (Inject end k unit) honest = absurd honest

pub step_goes : (g : Stage) → TakeAll g → (step : Step) → IsHonestStep step → Goes g step (carried_out g.world step)
unfolding carried_out
step_goes g t step honest = done_goes g t step honest

-- ALL ALONG
at_once : (P : Stage → Type 0) (g : Stage) (steps : List Step) → HoldsAlong P g steps → P g
at_once P g [] along = along
at_once P g (step ∷ steps) along = along.0

pub users_take : (g : Stage) → TakeAll g → UsersTakeAll g
unfolding passes
users_take g t stream = (
  sym (filter-append (λ body. stream == stream_of body) (handed_in g.world.a.history) g.world.a.state.inbox) ∙ t.0 stream,
  sym (filter-append (λ body. stream == stream_of body) (handed_in g.world.b.history) g.world.b.state.inbox) ∙ t.1 stream,
)

onward : (g : Stage) (step : Step) (steps : List Step)
    → ((later : Stage) → TakeAll later → HoldsAlong LinksKeep later steps → HoldsAlong UsersTakeAll later steps)
    → (outcome : Outcome) → Goes g step outcome
    → OnShows outcome (λ shown new. HoldsAlong LinksKeep (passed g step shown new) steps)
    → OnShows outcome (λ shown new. HoldsAlong UsersTakeAll (passed g step shown new) steps)
onward g step steps next (shows shown new) goes kept = next (passed g step shown new) (goes (prefixes (passed g step shown new) (at_once LinksKeep (passed g step shown new) steps kept))) kept
onward g step steps next impossible goes kept = tt
onward g step steps next exhausted goes kept = tt

along : (g : Stage) → TakeAll g → (steps : List Step) → AreSteps IsHonestStep steps → HoldsAlong LinksKeep g steps → HoldsAlong UsersTakeAll g steps
along g t [] honest kept = users_take g t
along g t (step ∷ steps) honest kept = (
  users_take g t,
  onward g step steps (λ later takes rest. along later takes steps honest.1 rest) (carried_out g.world step) (step_goes g t step honest.0) kept.1,
)

pub first_take : (a b : SetConfig) → TakeAll (begun a b)
unfolding passes
first_take a b = (λ stream. refl, λ stream. refl)

pub every_honest_run_hands_out : EveryHonestRunHandsOutAll
every_honest_run_hands_out a b steps honest = along (begun a b) (first_take a b) steps honest.steps (every_honest_run a b steps honest).links

-- IN EVERY SOUND RUN what is got is the first of what was offered, so what was taken of it is
prefix_of : (some more all : List (List ℕ)) (n : ℕ) → some ++ more ≡ take n all → some ≡ take (length some) all
prefix_of [] more all n e = refl
prefix_of (x ∷ some) more all zero e = absurd (let no : x ∷ (some ++ more) ≡ [] = e in cc)
prefix_of (x ∷ some) more [] (suc n) e = absurd (let no : x ∷ (some ++ more) ≡ [] = e in cc)
prefix_of (x ∷ some) more (y ∷ all) (suc n) e =
    let head : x ≡ y = cc in
    let rest : some ++ more ≡ take n all = cc in
    ap (λ (q : List (List ℕ)). x ∷ q) (prefix_of some more all n rest) ∙ ap (λ (z : List ℕ). z ∷ take (length some) all) head

bodies_first : (n : ℕ) (messages : List Message) → bodies (take n messages) ≡ take n (bodies messages)
bodies_first zero messages = refl
bodies_first (suc n) [] = refl
bodies_first (suc n) (m ∷ messages) = ap (λ (q : List (List ℕ)). m.body ∷ q) (bodies_first n messages)

pub take_first : (g : Stage) → UsersTakeAll g → StreamsArrive g → UsersTakeFirst g
take_first g all arrive stream low = (
  prefix_of (taken_of stream g.world.a) (bodies_of stream g.world.a.state.inbox) (bodies (g.b.offered stream))
      (length (g.a.got stream)) ((all stream).0 ∙ ap bodies (arrive stream low).1.prefix
      ∙ bodies_first (length (g.a.got stream)) (g.b.offered stream)),
  prefix_of (taken_of stream g.world.b) (bodies_of stream g.world.b.state.inbox) (bodies (g.a.offered stream))
      (length (g.b.got stream)) ((all stream).1 ∙ ap bodies (arrive stream low).0.prefix
      ∙ bodies_first (length (g.b.got stream)) (g.a.offered stream)),
)

-- in every quiet one it's a part of it
part_taken : (n : ℕ) (some all : List Message) → IsPart some all → IsPart (take n some) all
part_taken zero some all p = tt
part_taken (suc n) [] all p = tt
part_taken (suc n) (m ∷ some) [] p = absurd p
part_taken (suc n) (m ∷ some) (first ∷ rest) (inl p) = inl (p.0, part_taken n some rest p.1)
part_taken (suc n) (m ∷ some) (first ∷ rest) (inr p) = inr (part_taken (suc n) (m ∷ some) rest p)

first_of : (some more : List (List ℕ)) → take (length some) (some ++ more) ≡ some
first_of [] more = refl
first_of (x ∷ some) more = ap (λ (q : List (List ℕ)). x ∷ q) (first_of some more)

takes_part : (some more : List (List ℕ)) (got offered : List Message) → some ++ more ≡ bodies got → IsPart got offered
    → (part : List Message) × (bodies part ≡ some) × IsPart part offered
takes_part some more got offered e p = (
  take (length some) got,
  bodies_first (length some) got ∙ ap (take (length some)) (sym e) ∙ first_of some more,
  part_taken (length some) got offered p,
)

pub take_part : (g : Stage) → UsersTakeAll g → PartsArrive g → UsersTakePart g
take_part g all arrive stream low = (
  takes_part (taken_of stream g.world.a) (bodies_of stream g.world.a.state.inbox) (g.a.got stream) (g.b.offered stream)
      (all stream).0 (arrive stream low).1.in_order,
  takes_part (taken_of stream g.world.b) (bodies_of stream g.world.b.state.inbox) (g.b.got stream) (g.a.offered stream)
      (all stream).1 (arrive stream low).0.in_order,
)

-- both all along
module _ (Arrive Say : Stage → Type 0) (says : (g : Stage) → UsersTakeAll g → Arrive g → Say g) where
  both_onward : (g : Stage) (step : Step) (steps : List Step)
      → ((later : Stage) → HoldsAlong UsersTakeAll later steps → HoldsAlong Arrive later steps
      → HoldsAlong Say later steps) → (outcome : Outcome)
      → OnShows outcome (λ shown new. HoldsAlong UsersTakeAll (passed g step shown new) steps)
      → OnShows outcome (λ shown new. HoldsAlong Arrive (passed g step shown new) steps)
      → OnShows outcome (λ shown new. HoldsAlong Say (passed g step shown new) steps)
  both_onward g step steps next (shows shown new) all arrive = next (passed g step shown new) all arrive
  both_onward g step steps next impossible all arrive = tt
  both_onward g step steps next exhausted all arrive = tt

  both_along : (g : Stage) (steps : List Step) → HoldsAlong UsersTakeAll g steps → HoldsAlong Arrive g steps → HoldsAlong Say g steps
  both_along g [] all arrive = says g all arrive
  both_along g (step ∷ steps) all arrive = (
    says g all.0 arrive.0,
    both_onward g step steps (λ later rest some. both_along later steps rest some) (carried_out g.world step) all.1 arrive.1,
  )

sound_honest : (steps : List Step) → AreSteps IsSoundStep steps → AreSteps IsHonestStep steps
sound_honest [] sound = tt
sound_honest (step ∷ steps) sound = (is_honest step sound.0, sound_honest steps sound.1)

quiet_honest : (steps : List Step) → AreSteps IsQuietStep steps → AreSteps IsHonestStep steps
quiet_honest [] quiet = tt
quiet_honest (Act end event ∷ steps) quiet = (tt, quiet_honest steps quiet.1)
quiet_honest (Emit end k ∷ steps) quiet = (tt, quiet_honest steps quiet.1)
quiet_honest (Arrive end k ∷ steps) quiet = (tt, quiet_honest steps quiet.1)
quiet_honest (Lose end k place ∷ steps) quiet = (tt, quiet_honest steps quiet.1)
quiet_honest (Together k ∷ steps) quiet = (tt, quiet_honest steps quiet.1)
quiet_honest (Inject end k unit ∷ steps) quiet = absurd quiet.0

-- what is said of a stage of a sound run
module _ (Say : Stage → Type 0) (says : (g : Stage) → UsersTakeAll g → StreamsArrive g → Say g) where
  pub sound_says : (a b : SetConfig) (steps : List Step) → IsSoundRun a b steps → HoldsAlong Say (begun a b) steps
  sound_says a b steps sound =
      both_along StreamsArrive Say says (begun a b) steps
      (every_honest_run_hands_out a b steps
      (record {
        links = sound.links;
        profiles = sound.profiles;
        one_method = sound.one_method;
        steps = sound_honest steps sound.steps;
      })) (every_sound_run a b steps sound)

pub every_sound_run_hands_out : EverySoundRunHandsOutInOrder
every_sound_run_hands_out = sound_says UsersTakeFirst take_first

pub every_quiet_run_hands_out : EveryQuietRunHandsOutAPart
every_quiet_run_hands_out a b steps quiet =
    both_along PartsArrive UsersTakePart take_part (begun a b) steps
    (every_honest_run_hands_out a b steps
    (record {
      links = quiet.links;
      profiles = quiet.profiles;
      one_method = quiet.one_method;
      steps = quiet_honest steps quiet.steps;
    })) (every_quiet_run a b steps quiet)
