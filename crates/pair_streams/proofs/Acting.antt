-- EACH STREAM, WHEN AN END ACTS: an event is asked of it, it sends, or a link comes up. `Streams` is what holds of both
-- ends: the orders under way, each stream in both directions (`Flows`, Codes.antt), that what a set holds of users was
-- offered there and what is lost was discarded (`Covered`), that numbers rise, and that without emergencies nothing is
-- lost. `asked_streams`, `sends_streams`, `sends_none` and `rises_streams` say that such a step keeps it. An offer
-- alone adds to what was offered, and its message stands last where its stream runs. Case by case on the event; the
-- queues are told by pair_changeover's Keeping.antt. Runs.antt has the induction, Hearing.antt the step that is left.
use Rattle.std.proofs.lemmas.Bool.{cond_both}
use Rattle.std.proofs.Common.{refl, ◌≡◌, ◌∙◌, ap, sym, subst, ℕ, ◌<◌, ◌==◌, Bool, true, false, List, [], ◌∷◌, ◌++◌, length, slice_get, Option, Some, None, cond, inl, inr}
use Rattle.std.proofs.lemmas.List.{append-nil}
use Rattle.l2_units.specs.declared.unit.Unit.{Unit as SignalUnit}
use Rattle.l3_orders.specs.declared.order.Order.TheVariants.{Cba}
use Rattle.set_events.specs.declared.answer.Fate.{Fate}
use Rattle.set_events.specs.declared.answer.Fate.TheVariants.{Waiting, Unacked, Parked}
use Rattle.set_events.specs.declared.answer.Refusal.{Refusal as SetRefusal}
use Rattle.set_events.specs.declared.answer.Refusal.TheVariants.{Nothing, NotUp}
use Rattle.set_events.specs.declared.config.Method.{Method}
use Rattle.set_events.specs.declared.event.Event.{Event}
use Rattle.set_events.specs.declared.event.Event.TheVariants.{Offer, Take, Find, Next, Heard as HeardEvent, Up as UpEvent, Down as DownEvent, DownBlind, NoAnswer, Timed, Restore, Redeclare, BackTimeout, Test}
use Rattle.set_route.specs.Routing.{code_for, raised}
use Rattle.set_model.specs.declared.phase.Phase.{Phase}
use Rattle.set_model.specs.declared.phase.Phase.TheVariants.{Up, Down, Settled}
use Rattle.set_model.specs.Changeover.{leaving_order, left_by, left_link}
use Rattle.set_model.specs.Control.{Choice, again, first, fill, choice_of}
use Rattle.set_model.specs.Rows.{unack, place, stream_of, standing, is_waiting, is_parked, is_back, octets_in, all_with}
use Rattle.set_model.specs.Sound.{IsSound}
use Rattle.set_model.specs.State.{open_link, is_open, link_is_open, given, LinkState, State, is_up, is_settled, link_is_up, has_phase_up, window_of}
use Rattle.set_model.specs.Step.{restores, Outcome, refused, offer_refusal, offered, taken, found, falls, comes_back, with_known, in_service, next, rows_sent, step}
use Rattle.set_model.proofs.Rows.{turned_same, moved_same}
use Rattle.set_model.proofs.Places.{itself, stream_below_16}
use Rattle.set_model.proofs.SoundBack.{leaves}
use Rattle.set_model.proofs.Walk.{IsAt, redeclared_at}
use Rattle.pair_steps.specs.declared.step.End.{End}
use Rattle.pair_steps.specs.declared.step.Shown.TheVariants.{Answered}
use Rattle.pair_steps.specs.declared.step.Step.{Step}
use Rattle.pair_steps.specs.declared.step.Step.TheVariants.{Act}
use Rattle.pair_model.specs.World.{has_own_step}
use Rattle.pair_model.specs.Promises.{IsOneMethod, IsSoundStep, IsQuietStep}
use Rattle.pair_model.specs.Run.{message_by, Message, Past, messages, added_at, past_asked, past_sent}
use Rattle.pair_model.proofs.Moving as moving
use Rattle.pair_model.proofs.Moving.{next_refused}
use Rattle.pair_model.proofs.Pairs.{Two, swapped, HoldsOf, settings_stay}
use Rattle.pair_model.proofs.Rising.{settled_at}
use Rattle.pair_changeover.proofs.Overtaken.{sends_next}
use Rattle.pair_changeover.specs.Pending.{pending, aside, accepted_of, accepted_on}
use Rattle.pair_changeover.proofs.Changes.{by_link}
use Rattle.pair_changeover.proofs.Arriving.{rises_at}
use Rattle.pair_changeover.proofs.Keeping.{Keeps, keeps_still, users_body, offer_kept, take_kept, find_kept, down_kept, blind_kept, restore_kept, redeclare_kept, test_kept, next_queues, next_aside}
use Rattle.pair_changeover.proofs.Ordered.{Ordered, ordered_back, asked_ordered, sent_enough, sends_keep, rises_both}
use Rattle.pair_changeover.proofs.Table.{new_message}
use Rattle.pair_changeover.proofs.Texts.{AreCodes}
use Rattle.pair_changeover.proofs.Views.{view, Among}
use Rattle.pair_streams.proofs.Codes.{Flows, NewAcknowledges, far_carried, far_in}
use Rattle.pair_streams.proofs.Declared.{leaving_declares, leaving_acknowledges}
use Rattle.pair_streams.proofs.Declaring.{comes_flow, comes_acks}
use Rattle.pair_streams.proofs.Redeclared.{redeclared_flow, redeclared_acks}
use Rattle.pair_streams.proofs.Flowing.{back_by, here}
use Rattle.pair_streams.proofs.Mixed.{Mixed}
use Rattle.pair_streams.proofs.Flows.{queues_flow, queues_acks, offers_flow, offers_acks}
use Rattle.pair_streams.proofs.Known.{Covers, covers_on, covers_appended}
use Rattle.pair_streams.proofs.Moving.{same_in, same_flow}
use Rattle.pair_streams.proofs.Rising.{Rising, rising_on, offers_rise}
use Rattle.pair_streams.proofs.Risen.{risen_in, rises_flow}
use Rattle.pair_streams.proofs.Turned.{left_orders, leaves_flow}

-- THE STEPS of a run without emergencies, or with them
abbrev pub IsSafe : Bool → Step → Type 0
IsSafe false step = IsSoundStep step
IsSafe true step = IsQuietStep step

never_unanswered : (emergencies : Bool) (end : End) (k : ℕ) → IsSafe emergencies (Act end (NoAnswer k)) → ⊥
never_unanswered false end k safe = safe
never_unanswered true end k safe = safe

never_by_time : (emergencies : Bool) (end : End) (k : ℕ) → IsSafe emergencies (Act end (Timed k)) → ⊥
never_by_time false end k safe = safe
never_by_time true end k safe = safe

never_timed_out : (emergencies : Bool) (end : End) (k : ℕ) → IsSafe emergencies (Act end (BackTimeout k)) → ⊥
never_timed_out false end k safe = safe
never_timed_out true end k safe = safe

may_be_blind : (emergencies : Bool) (end : End) (k : ℕ) → IsSafe emergencies (Act end (DownBlind k)) → emergencies ≡ true
may_be_blind false end k safe = absurd safe
may_be_blind true end k safe = refl

-- every message of a user that a set holds was offered there; and what is lost was discarded there
abbrev pub IsLost : (ℕ → List Message) → ℕ → Type 0
IsLost lost number = (stream : ℕ) × (m : Message) × Among m (lost stream) × (m.number ≡ number)

abbrev pub Covered : Past → (ℕ → List Message) → State → Type 0
Covered past lost s = Covers (λ number body. Among (message_by number body) (past.offered (stream_of body))) (IsLost lost) s

pub record Streams (emergencies : Bool) (p : Two) : Type 0 where
  pub ordered : Ordered emergencies p
  pub out_lost : ℕ → List Message
  pub back_lost : ℕ → List Message
  pub out : Flows p.near p.far p.near_past.offered p.far_past.got out_lost
  pub back : Flows p.far p.near p.far_past.offered p.near_past.got back_lost
  pub near_covers : Covered p.near_past out_lost p.near
  pub far_covers : Covered p.far_past back_lost p.far
  pub near_rises : Rising p.near_past p.near
  pub far_rises : Rising p.far_past p.far
  pub out_whole : emergencies ≡ false → (stream : ℕ) → out_lost stream ≡ []
  pub back_whole : emergencies ≡ false → (stream : ℕ) → back_lost stream ≡ []

pub streams_back : {emergencies : Bool} (p : Two) → Streams emergencies p → Streams emergencies (swapped p)
streams_back p w = record {
  ordered = ordered_back p w.ordered;
  out_lost = w.back_lost;
  back_lost = w.out_lost;
  out = w.back;
  back = w.out;
  near_covers = w.far_covers;
  far_covers = w.near_covers;
  near_rises = w.far_rises;
  far_rises = w.near_rises;
  out_whole = w.back_whole;
  back_whole = w.out_whole;
}

-- nothing more was offered
pub added_none : {X : Type 0} (k l : ℕ) (f : ℕ → List X) → added_at k [] f l ≡ f l
added_none k l f = go (l == k) refl
  where
    go : (b : Bool) → (l == k) ≡ b → added_at k [] f l ≡ f l
    go true e = rw e (append-nil (f l))
    go false e = rw e refl

none_more : (k : ℕ) (s f : State) (offered got lost : ℕ → List Message) → Flows s f offered got lost → Flows s f (added_at k [] offered) got lost
none_more k s f offered got lost w = record {
  flow = λ stream low. subst (Mixed (got stream ++ here stream s f) (lost stream)) (sym (added_none k stream offered)) (w.flow stream low);
  stands = w.stands;
  unused = λ stream low e. added_none k stream offered ∙ w.unused stream low e;
  backing = w.backing;
}

up_is : (phase : Phase) → has_phase_up phase ≡ true → phase ≡ Up
up_is Up e = refl
up_is Down e = absurd cc
up_is Settled e = absurd cc

-- WHAT AN EVENT OF AN END KEEPS, where the other stands still
module _ (s f : State) (sound : IsSound s) (offered_here got lost : ℕ → List Message) (w : Flows s f offered_here got lost) where
  -- of the streams that it offers, and of the acknowledgements that stand there
  pub record Keeps' (t : State) : Type 0 where
    pub out : Flows t f offered_here got lost
    pub acks : NewAcknowledges (view t f) (view s f)

  keeps_self : Keeps' s
  keeps_self = record { out = w; acks = λ c m i a. i }

  -- nothing but the inbox changes
  pub keeps_same : (t : State) → t.rows ≡ s.rows → t.links ≡ s.links → t.routing ≡ s.routing → Keeps' t
  keeps_same t rows links routing =
      let queues : (l : ℕ) → pending l t f ≡ pending l s f = λ l. rw (rows, links) refl in
      let aside_same : aside t ≡ aside s = rw rows refl in
      record {
        out = same_flow s t f queues aside_same (λ c. rw rows refl) routing offered_here got lost w (λ c m i a. far_in s t f (λ l. rw links refl) m i);
        acks = λ c m i a. same_in s t f queues aside_same m i;
      }

  take_keeps : (inbox : List (List ℕ)) → Keeps' (taken inbox s).state
  take_keeps [] = keeps_self
  take_keeps (body ∷ rest) = keeps_same (record s { inbox = rest }) refl refl refl

  find_keeps : (number : ℕ) (fate : Option Fate) → Keeps' (found fate number s).state
  find_keeps number None = keeps_self
  find_keeps number (Some fate) = keeps_self

  in_keeps : (k : ℕ) (act : LinkState → Outcome) → ((link : LinkState) → IsAt k link Up s → Keeps' (act link).state) → Keeps' (in_service k s act).state
  in_keeps k act each = go (slice_get s.links k) refl
    where
      at : (link : LinkState) → slice_get s.links k ≡ Some link → (b : Bool) → has_phase_up link.phase ≡ b → Keeps' (cond b (act link) (refused s NotUp)).state
      at link there true e = each link (record { there = there; phase_is = up_is link.phase e })
      at link there false e = keeps_self

      go : (o : Option LinkState) → slice_get s.links k ≡ o
          → Keeps' (with_known o s (λ link. cond (has_phase_up link.phase) (act link) (refused s NotUp))).state
      go None e = keeps_self
      go (Some link) e = at link e (has_phase_up link.phase) refl

  -- a link is left, and the order queued
  down_keeps : (blind : Bool) (k : ℕ) (link : LinkState) → IsAt k link Up s → Keeps' (falls blind k s link).state
  down_keeps blind k link at =
      let left = left_by blind k link s in
      let left_sound = leaves blind k link s at sound in
      record {
        out = queues_flow (leaving_order blind k link) left f left_sound
            (λ c d. leaving_declares s.settings k blind link (given left) c d) offered_here got lost
            (leaves_flow blind k link s f sound at offered_here got lost w (λ c m i a. far_in s left f (left_accepted link at) m i));
        acks = λ c m i a. left_orders blind k link s f sound at (Cba a.link c) m
            (queues_acks (leaving_order blind k link) left f left_sound (λ d x. leaving_acknowledges s.settings k blind link (given left) d x) c m i a) a.is;
      }
    where
      left_accepted : (link : LinkState) (at : IsAt k link Up s) → (l : ℕ) → accepted_on l (left_by blind k link s) ≡ accepted_on l s
      left_accepted link at = by_link k link (left_link blind (given s) link) s (left_by blind k link s) at.there refl
          (λ n old new. accepted_of new ≡ accepted_of old) refl (λ n old d. refl)

  restore_keeps : (k : ℕ) (link : LinkState) → IsAt k link Up s → Keeps' (restores k s link).state
  restore_keeps k link at =
      cond_both (open_link link) (comes_back k s) (refused s NotUp) (λ (o : Outcome). Keeps' o.state)
      (λ e. let is : is_open k s ≡ true = ap link_is_open at.there ∙ e in
      record { out = comes_flow k s f offered_here got lost sound is w; acks = comes_acks k s f sound is })
      (λ shut. keeps_self)

  -- any but an offer, that has no step of its own
  event_keeps : (emergencies : Bool) (event : Event) (end : End) → has_own_step event ≡ false
      → IsSafe emergencies (Act end event) → ((body : List ℕ) → event ≡ Offer body → ⊥) → Keeps' (step s event).state
  unfolding step
  event_keeps emergencies (Offer body) end own safe other = absurd (other body refl)
  event_keeps emergencies Take end own safe other = take_keeps s.inbox
  event_keeps emergencies (Find number) end own safe other = find_keeps number (place number s.rows)
  event_keeps emergencies (Next k) end own safe other = absurd cc
  event_keeps emergencies (HeardEvent k unit) end own safe other = absurd cc
  event_keeps emergencies (UpEvent k) end own safe other = absurd cc
  event_keeps emergencies (DownEvent k) end own safe other = in_keeps k (falls false k s) (λ link at. down_keeps false k link at)
  event_keeps emergencies (DownBlind k) end own safe other = in_keeps k (falls true k s) (λ link at. down_keeps true k link at)
  event_keeps emergencies (NoAnswer k) end own safe other = absurd (never_unanswered emergencies end k safe)
  event_keeps emergencies (Timed k) end own safe other = absurd (never_by_time emergencies end k safe)
  event_keeps emergencies (Restore k) end own safe other = in_keeps k (restores k s) (λ link at. restore_keeps k link at)
  event_keeps emergencies (Redeclare k) end own safe other =
      redeclared_at s (λ a b. a ≡ a) Keeps' k (slice_get s.links k) keeps_self (record {
        out = redeclared_flow (code_for k 0) 16 s f offered_here got lost sound w;
        acks = redeclared_acks (code_for k 0) 16 s f sound;
      })
  event_keeps emergencies (BackTimeout k) end own safe other = absurd (never_timed_out emergencies end k safe)
  event_keeps emergencies (Test k) end own safe other = in_keeps k (λ link. refused s Nothing) (λ link at. keeps_self)

  -- OFFER
  offer_out : (body : List ℕ) → stream_of body < 16 → (o : Option SetRefusal)
      → offer_refusal s.settings.profile s.rows body ≡ o
      → Flows (offered o s body).state f
      (past_asked (Offer body) (Answered (offered o s body).answer)
      (record { sent = λ l. []; taken = λ l. []; offered = offered_here; got = λ l. [] })).offered got lost
  offer_out body low None e = offers_flow s f sound body low (users_body s.settings.profile s.rows body e) offered_here got lost w
  offer_out body low (Some why) e = none_more (stream_of body) s f offered_here got lost w

  offer_acks : (body : List ℕ) → stream_of body < 16 → (o : Option SetRefusal)
      → offer_refusal s.settings.profile s.rows body ≡ o → NewAcknowledges (view (offered o s body).state f) (view s f)
  offer_acks body low None e = offers_acks s f sound body low (users_body s.settings.profile s.rows body e)
  offer_acks body low (Some why) e = λ c m i a. i

  pub offers_out : (body : List ℕ) → stream_of body < 16
      → Flows (step s (Offer body)).state f
      (past_asked (Offer body) (Answered (step s (Offer body)).answer)
      (record { sent = λ l. []; taken = λ l. []; offered = offered_here; got = λ l. [] })).offered got lost
  unfolding step
  offers_out body low = offer_out body low (offer_refusal s.settings.profile s.rows body) refl

  pub offers_back : (body : List ℕ) → stream_of body < 16 → NewAcknowledges (view (step s (Offer body)).state f) (view s f)
  unfolding step
  offers_back body low = offer_acks body low (offer_refusal s.settings.profile s.rows body) refl

-- WHAT IT HOLDS was offered
among_last : (m : Message) (xs : List Message) → Among m (xs ++ m ∷ [])
among_last m [] = inl refl
among_last m (x ∷ xs) = inr (among_last m xs)

among_more : (m : Message) (xs ys : List Message) → Among m xs → Among m (xs ++ ys)
among_more m [] ys a = absurd a
among_more m (x ∷ xs) ys (inl e) = inl e
among_more m (x ∷ xs) ys (inr a) = inr (among_more m xs ys a)

covers_more : (stream : ℕ) (more : List Message) (past : Past) (lost : ℕ → List Message) (t : State)
    → Covered past lost t → Covered (record past { offered = added_at stream more past.offered }) lost t
covers_more stream more past lost t c =
    record {
      managed = c.managed;
      numbered = c.numbered;
      marked = c.marked;
      gone = c.gone;
      known = λ number b e users. go number b (c.known number b e users) (stream_of b == stream) refl;
    }
  where
    go : (number : ℕ) (b : List ℕ) → Among (message_by number b) (past.offered (stream_of b))
        → (c : Bool) → (stream_of b == stream) ≡ c
        → Among (message_by number b)
        (cond c (past.offered (stream_of b) ++ more) (past.offered (stream_of b)))
    go number b a true e = among_more (message_by number b) (past.offered (stream_of b)) more a
    go number b a false e = a

offer_covers : (s : State) (past : Past) (lost : ℕ → List Message) (body : List ℕ) (o : Option SetRefusal)
    → Covered past lost s → Covered (past_asked (Offer body) (Answered (offered o s body).answer) past) lost
    (offered o s body).state
offer_covers s past lost body None c =
    covers_appended _ _ s (offered None s body).state body _ refl refl refl
    (λ e. rw (itself (stream_of body)) (among_last (new_message (given s) body) (past.offered (stream_of body))))
    (covers_more (stream_of body) (new_message (given s) body ∷ []) past lost s c)
offer_covers s past lost body (Some why) c = covers_more (stream_of body) [] past lost s c

offers_cover : (s : State) (past : Past) (lost : ℕ → List Message) (body : List ℕ) → Covered past lost s
    → Covered (past_asked (Offer body) (Answered (step s (Offer body)).answer) past) lost (step s (Offer body)).state
unfolding step
offers_cover s past lost body c = offer_covers s past lost body (offer_refusal s.settings.profile s.rows body) c

-- AN EVENT THAT HAS NO STEP OF ITS OWN
module _ {emergencies : Bool} (p : Two) (sound : IsSound p.near) (w : Streams emergencies p) where
  abbrev asked_then : Event → Two
  asked_then event = record p { near = (step p.near event).state; near_past = past_asked event (Answered (step p.near event).answer) p.near_past }

  event_streams : (end : End) (event : Event) → has_own_step event ≡ false → IsSafe emergencies (Act end event)
      → ((body : List ℕ) → event ≡ Offer body → ⊥) → Keeps emergencies p.near (step p.near event).state p.far
      → Streams emergencies (record p { near = (step p.near event).state })
  event_streams end event own safe other k =
      let keeps = event_keeps p.near p.far sound p.near_past.offered p.far_past.got w.out_lost w.out emergencies event end own safe other in
      record {
        ordered = asked_ordered p event _ w.ordered k refl refl;
        out_lost = w.out_lost;
        back_lost = w.back_lost;
        out = keeps.out;
        back = far_carried p.near (step p.near event).state p.far k.accepted p.far_past.offered p.near_past.got w.back_lost keeps.acks w.back;
        near_covers = covers_on _ _ p.near event other w.near_covers;
        far_covers = w.far_covers;
        near_rises = rising_on p.near_past p.near event w.near_rises;
        far_rises = w.far_rises;
        out_whole = w.out_whole;
        back_whole = w.back_whole;
      }

  pub asked_streams : (end : End) (event : Event) → has_own_step event ≡ false → IsSafe emergencies (Act end event) → Streams emergencies (asked_then event)
  asked_streams end (Offer body) own safe =
      let keeps = offer_kept p.near p.far body sound in
      record {
        ordered = asked_ordered p (Offer body) _ w.ordered keeps refl refl;
        out_lost = w.out_lost;
        back_lost = w.back_lost;
        out = offers_out p.near p.far sound p.near_past.offered p.far_past.got w.out_lost w.out body (stream_below_16 body);
        back = far_carried p.near (step p.near (Offer body)).state p.far keeps.accepted p.far_past.offered
            p.near_past.got w.back_lost (offers_back p.near p.far sound p.near_past.offered p.far_past.got w.out_lost
            w.out body (stream_below_16 body)) w.back;
        near_covers = offers_cover p.near p.near_past w.out_lost body w.near_covers;
        far_covers = w.far_covers;
        near_rises = offers_rise p.near_past p.near body w.near_rises;
        far_rises = w.far_rises;
        out_whole = w.out_whole;
        back_whole = w.back_whole;
      }
  asked_streams end Take own safe = event_streams end Take refl safe (λ body e. absurd cc) (take_kept p.near p.far)
  asked_streams end (Find number) own safe = event_streams end (Find number) refl safe (λ body e. absurd cc) (find_kept p.near p.far number)
  asked_streams end (Next k) own safe = absurd cc
  asked_streams end (HeardEvent k unit) own safe = absurd cc
  asked_streams end (UpEvent k) own safe = absurd cc
  asked_streams end (DownEvent k) own safe =
      event_streams end (DownEvent k) refl safe (λ body e. absurd cc)
      (down_kept k p.near p.far sound w.ordered.near_codes)
  asked_streams end (DownBlind k) own safe =
      event_streams end (DownBlind k) refl safe (λ body e. absurd cc)
      (blind_kept k p.near p.far (may_be_blind emergencies end k safe) sound w.ordered.near_codes)
  asked_streams end (NoAnswer k) own safe = absurd (never_unanswered emergencies end k safe)
  asked_streams end (Timed k) own safe = absurd (never_by_time emergencies end k safe)
  asked_streams end (Restore k) own safe = event_streams end (Restore k) refl safe (λ body e. absurd cc) (restore_kept k p.near p.far sound)
  asked_streams end (Redeclare k) own safe = event_streams end (Redeclare k) refl safe (λ body e. absurd cc) (redeclare_kept k p.near p.far sound)
  asked_streams end (BackTimeout k) own safe = absurd (never_timed_out emergencies end k safe)
  asked_streams end (Test k) own safe = event_streams end (Test k) refl safe (λ body e. absurd cc) (test_kept k p.near p.far)

-- IT SENDS
waiting_not_back : (k c : ℕ) (fate : Fate) → is_waiting k fate ≡ true → is_back c fate ≡ false
waiting_not_back k c (Waiting l) e = refl
waiting_not_back k c _ e = absurd cc

next_backs : (k c : ℕ) (link : LinkState) (s : State) → back_by c (next k s link).state ≡ back_by c s
next_backs k c link s = ap messages (go (choice_of (octets_in (unack k s.rows)) link.control (window_of k link s.rows)))
  where
    go : (choice : Choice) → standing (is_back c) (rows_sent choice k s.rows) ≡ standing (is_back c) s.rows
    go (again place) = refl
    go first = turned_same (is_waiting k) (is_back c) (Unacked k) refl (λ fate e. waiting_not_back k c fate e) 1 s.rows
    go fill = refl

module _ {emergencies : Bool} (mx my : Method) (one : IsOneMethod mx my) (p : Two) (h : HoldsOf mx my p)
    (w : Streams emergencies p) (k : ℕ) (out : List (List SignalUnit)) where
  abbrev sent_then : Two
  sent_then = record p { near = (step p.near (Next k)).state; near_past = past_sent k p.near (step p.near (Next k)).state p.near_past; out = out }

  record After (t : State) : Type 0 where
    flows : Flows t p.far p.near_past.offered p.far_past.got w.out_lost
    acks : NewAcknowledges (view t p.far) (view p.near p.far)
    keeps : Keeps emergencies p.near t p.far

  after_streams : After (step p.near (Next k)).state → Streams emergencies sent_then
  after_streams a = record {
    ordered = asked_ordered p (Next k) _ w.ordered a.keeps refl refl;
    out_lost = w.out_lost;
    back_lost = w.back_lost;
    out = a.flows;
    back = far_carried p.near (step p.near (Next k)).state p.far a.keeps.accepted p.far_past.offered p.near_past.got w.back_lost a.acks w.back;
    near_covers = covers_on _ _ p.near (Next k) (λ body e. absurd cc) w.near_covers;
    far_covers = w.far_covers;
    near_rises = rising_on p.near_past p.near (Next k) w.near_rises;
    far_rises = w.far_rises;
    out_whole = w.out_whole;
    back_whole = w.back_whole;
  }

  pub sends_streams : k < length p.near.links → (link : LinkState) → IsAt k link Up p.near → Streams emergencies sent_then
  sends_streams few link at = after_streams (subst (λ (o : Outcome). After o.state) (sym (sends_next k p.near p.far w.ordered.both link at)) sent)
    where
      keeps : Keeps emergencies p.near (next k p.near link).state p.far
      keeps = sends_keep mx my one p h k few link at

      queues : (l : ℕ) → pending l (next k p.near link).state p.far ≡ pending l p.near p.far
      queues = next_queues k link p.near p.far h.near_sound at (sent_enough mx my one p h k few link at)

      aside_same : aside (next k p.near link).state ≡ aside p.near
      aside_same = ap messages (next_aside k link p.near)

      sent : After (next k p.near link).state
      sent = record {
        flows = same_flow p.near (next k p.near link).state p.far queues aside_same (λ c. next_backs k c link p.near)
            refl p.near_past.offered p.far_past.got w.out_lost w.out
            (λ c m i a. far_in p.near (next k p.near link).state p.far keeps.accepted m i);
        acks = λ c m i a. same_in p.near (next k p.near link).state p.far queues aside_same m i;
        keeps = keeps;
      }

  pub sends_none : is_up k p.near ≡ false → Streams emergencies sent_then
  sends_none e =
      let same : (step p.near (Next k)).state ≡ p.near = ap (λ (o : Outcome). o.state) (next_refused k p.near e).1 in
      after_streams (subst After (sym same) (record { flows = w.out; acks = λ c m i a. i; keeps = keeps_still p.near p.near p.far refl refl }))

-- A LINK COMES UP at both ends
rises_routing : (k : ℕ) (s : State) (link : LinkState) → IsAt k link Settled s → (step s (UpEvent k)).state.routing ≡ raised k s.routing
unfolding step
rises_routing k s link at = rw (at.there, at.phase_is) refl

parked_not_back : (c : ℕ) (fate : Fate) → is_parked fate ≡ true → is_back c fate ≡ false
parked_not_back c Parked e = refl
parked_not_back c _ e = absurd cc

rises_backs : (k c : ℕ) (s : State) (link : LinkState) → IsAt k link Settled s → back_by c (step s (UpEvent k)).state ≡ back_by c s
unfolding step
rises_backs k c s link at = rw (at.there, at.phase_is)
    (ap messages (moved_same is_parked (is_back c) (all_with (Waiting k)) s.rows (λ row. refl)
    (λ fate e. parked_not_back c fate e)))

module _ {emergencies : Bool} (mx my : Method) (p : Two) (h : HoldsOf mx my p) (w : Streams emergencies p) (k : ℕ)
    (few : k < length p.near.links) (near_settled : is_settled k p.near ≡ true)
    (far_settled : is_settled k p.far ≡ true) where
  pub rises_streams : Streams emergencies (moving.risen mx my p h k few near_settled far_settled)
  rises_streams =
      let near_at = settled_at k p.near near_settled in
      let far_at = settled_at k p.far far_settled in
      let a = rises_at k p.near h.near_sound near_at.0 near_at.1 in
      let b = rises_at k p.far h.far_sound far_at.0 far_at.1 in
      let near_then = (step p.near (UpEvent k)).state in
      let far_then = (step p.far (UpEvent k)).state in
      let near_routing = rises_routing k p.near near_at.0 near_at.1 in
      let far_routing = rises_routing k p.far far_at.0 far_at.1 in
      let near_backs : (c : ℕ) → back_by c near_then ≡ back_by c p.near = λ c. rises_backs k c p.near near_at.0 near_at.1 in
      let far_backs : (c : ℕ) → back_by c far_then ≡ back_by c p.far = λ c. rises_backs k c p.far far_at.0 far_at.1 in
      record {
        ordered = record {
          both = rises_both k p.near near_then p.far far_then a b w.ordered.both;
          near_codes = subst AreCodes (sym (settings_stay p.near (UpEvent k))) w.ordered.near_codes;
          far_codes = subst AreCodes (sym (settings_stay p.far (UpEvent k))) w.ordered.far_codes;
        };
        out_lost = w.out_lost;
        back_lost = w.back_lost;
        out = rises_flow k p.near near_then p.far far_then h.near_sound a b near_routing near_backs p.near_past.offered
            p.far_past.got w.out_lost w.out
            (λ c m i x. risen_in k p.far far_then p.near near_then h.far_sound b a far_routing far_backs m i);
        back = rises_flow k p.far far_then p.near near_then h.far_sound b a far_routing far_backs p.far_past.offered
            p.near_past.got w.back_lost w.back
            (λ c m i x. risen_in k p.near near_then p.far far_then h.near_sound a b near_routing near_backs m i);
        near_covers = covers_on _ _ p.near (UpEvent k) (λ body e. absurd cc) w.near_covers;
        far_covers = covers_on _ _ p.far (UpEvent k) (λ body e. absurd cc) w.far_covers;
        near_rises = rising_on p.near_past p.near (UpEvent k) w.near_rises;
        far_rises = rising_on p.far_past p.far (UpEvent k) w.far_rises;
        out_whole = w.out_whole;
        back_whole = w.back_whole;
      }
