-- EVERY SOUND RUN KEEPS EACH STREAM, and every quiet one what isn't given up: one induction over the steps, beside that
-- of the links. `every_sound_run` and `every_quiet_run` answer every_sound_run_keeps_streams and
-- every_quiet_run_keeps_order (src/laws.rt). `along` takes each link's tie (`Holds`) and `Streams` from stage to stage;
-- `step_keeps` is Acting.antt and Hearing.antt. What was got and what stands are together what was offered, but for
-- what is lost: so what was got is the first of it or a part, and an acknowledged message, which stands nowhere, was
-- got (`arrives_so`, `arrives_in_part`). Counting.antt, Telling.antt, Handing.antt and Arrived.antt use it.
use Rattle.set_model.proofs.Places.{code_back}
use Rattle.set_route.proofs.Quiet.{never_changing}
use Rattle.pair_streams.proofs.Filtered.{among_all, both_true, none_both, none_within}
use Rattle.std.proofs.Common.{refl, arith, ◌≡◌, ◌∙◌, ap, sym, subst, ℕ, zero, suc, ◌<◌, ◌==◌, ◌+◌, ◌-◌, Bool, true, false, not, ◌||◌, nat_lt, List, [], ◌∷◌, ◌++◌, length, take, drop, slice_get, Some, None, cond, ◌⊎◌, inl, inr}
use Rattle.std.specs.Option.{option_map}
use Rattle.std.proofs.lemmas.Bool.{ltb-true, eqb-true, not-true}
use Rattle.std.proofs.lemmas.List.{append-nil}
use Rattle.l2_units.specs.declared.unit.Unit.{Unit as SignalUnit}
use Rattle.pair_steps.specs.Lines.{units_on, without}
use Rattle.set_events.specs.declared.answer.Answer.{Answer}
use Rattle.set_events.specs.declared.answer.Fate.{Fate}
use Rattle.set_events.specs.declared.answer.Fate.TheVariants.{Acked}
use Rattle.set_events.specs.declared.config.Method.{Method}
use Rattle.set_events.specs.declared.config.SetConfig.{SetConfig}
use Rattle.set_events.specs.declared.event.Event.{Event}
use Rattle.set_events.specs.declared.event.Event.TheVariants.{Next, Heard}
use Rattle.set_route.specs.declared.place.Place.{Place}
use Rattle.set_route.specs.declared.place.Place.TheVariants.{On, Changing, Nowhere}
use Rattle.set_route.specs.Routing.{place_of}
use Rattle.set_model.specs.declared.phase.Phase.TheVariants.{Up}
use Rattle.set_model.specs.Rows.{Row, is_unacked, is_waiting, is_held, is_parked, standing, unack, wait, held, parked, place, body_at, owner_at, row_of, is_managements, stream_of, is_back, stands_back}
use Rattle.set_model.specs.State.{given, LinkState, State, Settings, is_up, is_settled, link_count, opened_with, settings_of}
use Rattle.set_model.specs.Step.{Outcome as SetOutcome, step}
use Rattle.set_model.proofs.Rows.{row_in_filter}
use Rattle.set_model.proofs.Soundness.{opened_sound, opened_new}
use Rattle.set_model.proofs.Walk.{IsAt}
use Rattle.pair_steps.specs.declared.step.End.{End}
use Rattle.pair_steps.specs.declared.step.End.TheVariants.{A, B}
use Rattle.pair_steps.specs.declared.step.Shown.TheVariants.{Answered, Up as CameUp, Lost}
use Rattle.pair_steps.specs.declared.step.Step.{Step}
use Rattle.pair_steps.specs.declared.step.Step.TheVariants.{Act, Emit, Arrive, Lose, Together, Inject}
use Rattle.pair_model.specs.World.{Outcome, shows, impossible, exhausted, at_end, with_end, line_to, with_line, actor_of, answer_to, after, is_full, has_link, has_actor, acts, with_sent, sends_on, emits, front_arrives, arrives, loses, risen, is_settled_at_both, rises, has_own_step, done_by, carried_out}
use Rattle.pair_model.specs.Run.{Message, message_by, messages, Past, Stage, begun, no_past, with_past, past_arrived, passed, OnShows, HoldsAlong}
use Rattle.pair_model.specs.Promises.{IsOneMethod, IsHonestStep, AreSteps, IsSoundRun, IsQuietRun}
use Rattle.pair_model.proofs.Controls.{one_back}
use Rattle.pair_model.proofs.Kept.{at_first, settings_sound}
use Rattle.pair_model.proofs.Moving as moving
use Rattle.pair_model.proofs.Pairs.{Two, HoldsOf, swap}
use Rattle.pair_model.proofs.Runs.{seen, Holds, Goes, is_honest, step_goes, is_at_up, both_settled}
use Rattle.pair_changeover.specs.Pending.{pending, aside, acked_on, accepted_on, kept_back}
use Rattle.pair_changeover.proofs.Reaching.{row_among, filtered, get_rest}
use Rattle.pair_changeover.proofs.Runs.{first_orders, first_codes, nothing_in}
use Rattle.pair_changeover.proofs.Table.{drop_none, joined}
use Rattle.pair_changeover.proofs.Views.{Among, among_joined}
use Rattle.pair_streams.specs.Streams.{is_of, those_of, IsIn, IsPart, RiseFrom, Arrives, StreamsArrive, ArrivesInPart, PartsArrive}
use Rattle.pair_streams.proofs.Acting.{IsSafe, Streams, streams_back, asked_streams, sends_streams, sends_none, rises_streams, Covered}
use Rattle.pair_streams.proofs.Codes.{Flows}
use Rattle.pair_streams.proofs.Flowing.{queue_at, here, back_by}
use Rattle.pair_streams.proofs.Hearing.{hears_streams}
use Rattle.pair_streams.proofs.Known.{given_up, owner_marked}
use Rattle.pair_streams.proofs.Rising.{Rising, rise_part}
use Rattle.pair_streams.proofs.Mixed.{Mixed, mixed_none, mixed_among, mixed_part, part_first}

-- WHAT IT SAYS
first_part : (xs ys zs : List Message) → xs ++ ys ≡ zs → xs ≡ take (length xs) zs
first_part [] ys zs e = refl
first_part (x ∷ xs) ys [] e = absurd cc
first_part (x ∷ xs) ys (z ∷ zs) e =
    let head : x ≡ z = cc in
    let rest : xs ++ ys ≡ zs = cc in
    ap (λ (q : List Message). x ∷ q) (first_part xs ys zs rest) ∙ ap (λ (m : Message). m ∷ take (length xs) zs) head

is_in : (m : Message) (xs : List Message) → Among m xs → IsIn m xs
is_in m [] a = absurd a
is_in m (x ∷ xs) (inl e) = (0, ap Some (sym e))
is_in m (x ∷ xs) (inr a) = let at = is_in m xs a in (suc at.0, at.1)

among_in : (m : Message) (xs : List Message) (at : ℕ) → slice_get xs at ≡ Some m → Among m xs
among_in m [] at e = absurd cc
among_in m (x ∷ xs) zero e = let same : Some x ≡ Some m = e in let is : x ≡ m = cc in inl (sym is)
among_in m (x ∷ xs) (suc at) e = inr (among_in m xs at e)

module _ (stream : ℕ) (low : stream < 16) (s f : State) (near far : Past) (lost : ℕ → List Message)
    (w : Flows s f near.offered far.got lost) (covers : Covered near lost s) (rising : Rising near s) where
  -- an acknowledged message stands nowhere else
  module _ (link : ℕ) (m : Message) (placed : place m.number s.rows ≡ Some (Acked link)) where
    acked_in : (test : Fate → Bool) → test (Acked link) ≡ false → (at : ℕ) (row : Row)
        → slice_get (standing test s.rows) at ≡ Some row → m.number ≡ row.number → ⊥
    acked_in test off at row there number =
        let row_is : row_of m.number s.rows ≡ Some row =
        row_in_filter (given s) (λ (r : Row). test r.fate) s.rows at m.number row covers.numbered there (sym number)
        in
        let fate : Some row.fate ≡ Some (Acked link) = ap (option_map (λ (r : Row). r.fate)) (sym row_is) ∙ placed in
        let is : row.fate ≡ Acked link = cc in
        let no : true ≡ false = sym (filtered (λ (r : Row). test r.fate) s.rows at row there) ∙ ap test is ∙ off in
        absurd cc

    not_pending : (l : ℕ) → Among m (pending l s f) → ⊥
    not_pending l a = last (among_joined m (messages (drop count (unack l s.rows) ++ wait l s.rows))
        (messages (held l s.rows)) (subst (λ (q : List Message). Among m q)
        (joined (drop count (unack l s.rows) ++ wait l s.rows) (held l s.rows)) a))
      where
        count : ℕ
        count = accepted_on l f - acked_on l s

        first : Among m (messages (drop count (unack l s.rows))) ⊎ Among m (messages (wait l s.rows)) → ⊥
        first (inl b) = let r = row_among m (drop count (unack l s.rows)) b in acked_in (is_unacked l) refl
            (count + r.place) r.row (sym (get_rest count r.place (unack l s.rows)) ∙ r.there) r.number_is
        first (inr b) = let r = row_among m (wait l s.rows) b in acked_in (is_waiting l) refl r.place r.row r.there r.number_is

        last : Among m (messages (drop count (unack l s.rows) ++ wait l s.rows)) ⊎ Among m (messages (held l s.rows)) → ⊥
        last (inl b) = first (among_joined m (messages (drop count (unack l s.rows))) (messages (wait l s.rows))
            (subst (λ (q : List Message). Among m q) (joined (drop count (unack l s.rows)) (wait l s.rows)) b))
        last (inr b) = let r = row_among m (held l s.rows) b in acked_in (is_held l) refl r.place r.row r.there r.number_is

    not_aside : Among m (aside s) → ⊥
    not_aside a = let r = row_among m (parked s.rows) a in acked_in is_parked refl r.place r.row r.there r.number_is

    not_here : (q : Place) → Among m (queue_at q s f) → ⊥
    not_here (On l) a = not_pending l a
    not_here (Changing to code via) a = go (among_joined m (pending via s f) (back_by code s) a)
      where
        go : Among m (pending via s f) ⊎ Among m (back_by code s) → ⊥
        go (inl b) = not_pending via b
        go (inr b) = let r = row_among m (standing (is_back code) s.rows) b in acked_in (is_back code) refl r.place r.row r.there r.number_is
    not_here Nowhere a = not_aside a

    acked_got : is_of stream m ≡ true → body_at m.number s.rows ≡ Some m.body → owner_at m.number s.rows ≡ Some m.users → IsIn m (far.got stream)
    acked_got own body owner =
        let parts = both_true m.users (stream_of m.body == stream) own in
        let mark = owner_marked m.number s.rows m.body m.users covers.marked body owner in
        let plain : is_managements m.body ≡ false = not-true (is_managements m.body) (sym mark ∙ parts.0) in
        let same : m ≡ message_by m.number m.body = ap (λ (u : Bool). record { number = m.number; body = m.body; users = u }) mark in
        let by = subst (λ (n : ℕ). Among (message_by m.number m.body) (near.offered n)) (eqb-true (stream_of m.body) stream parts.1) (covers.known m.number m.body body plain) in
        let offered = subst (λ (x : Message). Among x (near.offered stream)) (sym same) by in
        go (mixed_among m (far.got stream ++ here stream s f) (lost stream) (near.offered stream) (w.flow stream low) offered)
      where
        kept : Among m (far.got stream) ⊎ Among m (here stream s f) → IsIn m (far.got stream)
        kept (inl a) = is_in m (far.got stream) a
        kept (inr a) = absurd (not_here (place_of stream s.routing) (among_all stream m (queue_at (place_of stream s.routing) s f) a))

        go : Among m (far.got stream ++ here stream s f) ⊎ Among m (lost stream) → IsIn m (far.got stream)
        go (inl a) = kept (among_joined m (far.got stream) (here stream s f) a)
        go (inr a) =
            let fate : Some given_up ≡ Some (Acked link) = sym (covers.gone m.number (stream, m, a, refl)) ∙ placed in
            let never : given_up ≡ Acked link = cc in
            absurd cc

  -- where nothing of it stands
  empty : (q : Place) → ((l : ℕ) → those_of stream (pending l s f) ≡ []) → those_of stream (aside s) ≡ []
      → those_of stream (kept_back s) ≡ [] → those_of stream (queue_at q s f) ≡ []
  empty (On l) none none_aside none_back = none l
  empty (Changing to code via) none none_aside none_back =
      none_both stream (pending via s f) (back_by code s) (none via)
      (none_within stream (is_back code) stands_back (λ fate e. code_back code fate e) s.rows none_back)
  empty Nowhere none none_aside none_back = none_aside

  part_of : IsPart (far.got stream) (near.offered stream)
  part_of = part_first (far.got stream) (here stream s f) (near.offered stream)
      (mixed_part (far.got stream ++ here stream s f) (lost stream) (near.offered stream) (w.flow stream low))

  once_each : RiseFrom 0 (far.got stream)
  once_each = rise_part 0 0 (far.got stream) (near.offered stream) (given s) (omega arith) part_of (rising stream)

  -- where nothing is lost
  pub arrives_so : lost stream ≡ [] → Arrives stream near far s f
  arrives_so whole = record {
    prefix = first_part (far.got stream) (here stream s f) (near.offered stream) all_of;
    once = once_each;
    acked = λ link m own placed body owner. acked_got link m placed own body owner;
    all = λ none none_aside none_back. sym (append-nil (far.got stream))
        ∙ ap (λ (x : List Message). far.got stream ++ x)
        (sym (empty (place_of stream s.routing) none none_aside none_back)) ∙ all_of;
  }
    where
      all_of : far.got stream ++ here stream s f ≡ near.offered stream
      all_of = mixed_none (far.got stream ++ here stream s f) (near.offered stream)
          (subst (λ (l : List Message). Mixed (far.got stream ++ here stream s f) l (near.offered stream)) whole
          (w.flow stream low))

  -- and where some is
  pub arrives_in_part : ArrivesInPart stream near far s f
  arrives_in_part = record {
    in_order = part_of;
    once = once_each;
    acked = λ link m own placed body owner. acked_got link m placed own body owner;
    all = λ none none_aside none_back m offered. got_or_lost (empty (place_of stream s.routing) none none_aside none_back) m offered;
  }
    where
      got_or_lost : here stream s f ≡ [] → (m : Message) → IsIn m (near.offered stream) → IsIn m (far.got stream) ⊎ (place m.number s.rows ≡ Some given_up)
      got_or_lost none m offered = go
          (mixed_among m (far.got stream ++ here stream s f) (lost stream) (near.offered stream) (w.flow stream low)
          (among_in m (near.offered stream) offered.0 offered.1))
        where
          go : Among m (far.got stream ++ here stream s f) ⊎ Among m (lost stream) → IsIn m (far.got stream) ⊎ (place m.number s.rows ≡ Some given_up)
          go (inl a) = inl (is_in m (far.got stream) (subst (Among m) (ap (λ (q : List Message). far.got stream ++ q) none ∙ append-nil (far.got stream)) a))
          go (inr a) = inr (covers.gone m.number (stream, m, a, refl))

-- EACH STEP
pub is_safe_honest : (emergencies : Bool) (step : Step) → IsSafe emergencies step → IsHonestStep step
is_safe_honest false step safe = is_honest step safe
is_safe_honest true (Act end event) safe = tt
is_safe_honest true (Emit end k) safe = tt
is_safe_honest true (Arrive end k) safe = tt
is_safe_honest true (Lose end k place) safe = tt
is_safe_honest true (Together k) safe = tt
is_safe_honest true (Inject end k unit) safe = safe

no_injection : (emergencies : Bool) (end : End) (k : ℕ) (unit : SignalUnit) → IsSafe emergencies (Inject end k unit) → ⊥
no_injection false end k unit safe = safe
no_injection true end k unit safe = safe

-- other units are under way
pub on_lines : {emergencies : Bool} (p : Two) (out back : List (List SignalUnit)) → Streams emergencies p
    → Streams emergencies (record p { out = out; back = back })
on_lines p out back v = record {
  ordered = record { both = v.ordered.both; near_codes = v.ordered.near_codes; far_codes = v.ordered.far_codes };
  out_lost = v.out_lost;
  back_lost = v.back_lost;
  out = v.out;
  back = v.back;
  near_covers = v.near_covers;
  far_covers = v.far_covers;
  near_rises = v.near_rises;
  far_rises = v.far_rises;
  out_whole = v.out_whole;
  back_whole = v.back_whole;
}

module _ (emergencies : Bool) (ma mb : Method) (one : IsOneMethod ma mb) where
  abbrev pub Keeps : Stage → Step → Outcome → Type 0
  Keeps g step outcome = OnShows outcome (λ shown new. Streams emergencies (seen A (passed g step shown new)))

  module _ (g : Stage) (h : Holds ma mb one g) (v : Streams emergencies (seen A g)) where
    h_b : HoldsOf mb ma (seen B g)
    h_b = swap ma mb (seen A g) h

    one_b : IsOneMethod mb ma
    one_b = one_back ma mb one

    v_b : Streams emergencies (seen B g)
    v_b = streams_back (seen A g) v

    -- ACT
    act_keeps : (end : End) (event : Event) → IsSafe emergencies (Act end event) → has_own_step event ≡ false → Keeps g (Act end event) (acts g.world end event)
    act_keeps end event sound own = go (has_actor g.world (actor_of event)) (is_full (at_end g.world end))
      where
        shown : (end : End) → IsSafe emergencies (Act end event)
            → Keeps g (Act end event) (shows (Answered (answer_to (at_end g.world end) event))
            (with_end g.world end (after (at_end g.world end) event)))
        shown A sound = asked_streams (seen A g) h.near_sound v A event own sound
        shown B sound = streams_back _ (asked_streams (seen B g) h_b.near_sound v_b B event own sound)

        go : (known full : Bool) → Keeps g (Act end event)
            (cond known (cond full exhausted
            (shows (Answered (answer_to (at_end g.world end) event))
            (with_end g.world end (after (at_end g.world end) event)))) impossible)
        go true true = tt
        go true false = shown end sound
        go false full = tt

    own_keeps : (end : End) (event : Event) → IsSafe emergencies (Act end event) → (own : Bool)
        → has_own_step event ≡ own → Keeps g (Act end event) (cond own impossible (acts g.world end event))
    own_keeps end event sound true e = tt
    own_keeps end event sound false e = act_keeps end event sound e

    -- EMIT
    abbrev EmitKeeps : (end : End) (k : ℕ) → Answer → Type 0
    EmitKeeps end k answer = Streams emergencies
        (seen A (passed g (Emit end k) (Answered answer)
        (with_sent (with_end g.world end (after (at_end g.world end) (Next k))) end k (Answered answer))))

    emit_a : (k : ℕ) → k < length g.world.a.state.links → (b : Bool) → is_up k g.world.a.state ≡ b → EmitKeeps A k (answer_to g.world.a (Next k))
    emit_a k few true e =
        let at = is_at_up k g.world.a.state e in
        subst (EmitKeeps A k) (sym (moving.answers_sent ma mb (seen A g) h k few at.0 at.1)) (sends_streams ma mb one (seen A g) h v k _ few at.0 at.1)
    emit_a k few false e =
        subst (EmitKeeps A k) (sym (ap (λ (o : SetOutcome). o.answer) (moving.next_refused k g.world.a.state e).1)) (sends_none ma mb one (seen A g) h v k _ e)

    emit_b : (k : ℕ) → k < length g.world.b.state.links → (b : Bool) → is_up k g.world.b.state ≡ b → EmitKeeps B k (answer_to g.world.b (Next k))
    emit_b k few true e =
        let at = is_at_up k g.world.b.state e in
        subst (EmitKeeps B k) (sym (moving.answers_sent mb ma (seen B g) h_b k few at.0 at.1))
        (streams_back _ (sends_streams mb ma one_b (seen B g) h_b v_b k _ few at.0 at.1))
    emit_b k few false e =
        subst (EmitKeeps B k) (sym (ap (λ (o : SetOutcome). o.answer) (moving.next_refused k g.world.b.state e).1))
        (streams_back _ (sends_none mb ma one_b (seen B g) h_b v_b k _ e))

    emit_at : (end : End) (k : ℕ) → k < length g.world.a.state.links → EmitKeeps end k (answer_to (at_end g.world end) (Next k))
    emit_at A k few = emit_a k few (is_up k g.world.a.state) refl
    emit_at B k few = emit_b k (omega (arith, few, h.far_links)) (is_up k g.world.b.state) refl

    emit_keeps : (end : End) (k : ℕ) → Keeps g (Emit end k) (emits g.world end k)
    emit_keeps end k = go (has_link g.world k) refl (is_full (at_end g.world end))
      where
        go : (known : Bool) → has_link g.world k ≡ known → (full : Bool)
            → Keeps g (Emit end k) (sends_on end k
            (cond known (cond full exhausted
            (shows (Answered (answer_to (at_end g.world end) (Next k)))
            (with_end g.world end (after (at_end g.world end) (Next k))))) impossible))
        go true e true = tt
        go true e false = emit_at end k (ltb-true k (link_count g.world.a.state) e)
        go false e full = tt

    -- LOSE
    lose_keeps : (end : End) (k place : ℕ) → Keeps g (Lose end k place) (loses g.world end k place)
    lose_keeps end k place = go (has_link g.world k) (nat_lt place (length (line_to g.world end k)))
      where
        lost : (end : End) → Keeps g (Lose end k place) (shows Lost (with_line g.world end k (without place (line_to g.world end k))))
        lost A = on_lines (seen A g) _ _ v
        lost B = on_lines (seen A g) _ _ v

        go : (known within : Bool) → Keeps g (Lose end k place)
            (cond known (cond within (shows Lost (with_line g.world end k (without place (line_to g.world end k))))
            impossible) impossible)
        go true true = lost end
        go true false = tt
        go false within = tt

    -- ARRIVE
    abbrev ArriveKeeps : (end : End) (k : ℕ) → List SignalUnit → Outcome → Type 0
    ArriveKeeps A k line outcome = OnShows outcome (λ shown new. Streams emergencies (seen A (with_past A (past_arrived k line (g.b.sent k) shown g.a) new g)))
    ArriveKeeps B k line outcome = OnShows outcome (λ shown new. Streams emergencies (seen A (with_past B (past_arrived k line (g.a.sent k) shown g.b) new g)))

    -- heard in service, else lost
    module _ (k : ℕ) (few : k < length g.world.a.state.links) (unit : SignalUnit) (rest : List SignalUnit) where
      heard_a : units_on k g.world.to_a ≡ unit ∷ rest → (link : LinkState) → IsAt k link Up g.world.a.state
          → ArriveKeeps A k (unit ∷ rest)
          (shows (Answered (answer_to g.world.a (Heard k unit)))
          (with_end (with_line g.world A k rest) A (after g.world.a (Heard k unit))))
      heard_a front link at =
          subst (λ (answer : Answer). Streams emergencies
          (seen A (with_past A (past_arrived k (unit ∷ rest) (g.b.sent k) (Answered answer) g.a)
          (with_end (with_line g.world A k rest) A (after g.world.a (Heard k unit))) g)))
          (sym (moving.answers_heard ma mb one (seen A g) h k few unit rest front link at))
          (hears_streams ma mb one (seen A g) h v k few unit rest front link at)

      heard_b : units_on k g.world.to_b ≡ unit ∷ rest → (link : LinkState) → IsAt k link Up g.world.b.state
          → ArriveKeeps B k (unit ∷ rest)
          (shows (Answered (answer_to g.world.b (Heard k unit)))
          (with_end (with_line g.world B k rest) B (after g.world.b (Heard k unit))))
      heard_b front link at =
          let few_b : k < length g.world.b.state.links = omega (arith, few, h.far_links) in
          subst (λ (answer : Answer). Streams emergencies
          (seen A (with_past B (past_arrived k (unit ∷ rest) (g.a.sent k) (Answered answer) g.b)
          (with_end (with_line g.world B k rest) B (after g.world.b (Heard k unit))) g)))
          (sym (moving.answers_heard mb ma one_b (seen B g) h_b k few_b unit rest front link at))
          (streams_back _ (hears_streams mb ma one_b (seen B g) h_b v_b k few_b unit rest front link at))

      reach_a : units_on k g.world.to_a ≡ unit ∷ rest → (rising : Bool) → is_up k g.world.a.state ≡ rising → (known full : Bool)
          → ArriveKeeps A k (unit ∷ rest)
          (cond rising (cond known (cond full exhausted
          (shows (Answered (answer_to g.world.a (Heard k unit)))
          (with_end (with_line g.world A k rest) A (after g.world.a (Heard k unit))))) impossible)
          (shows Lost (with_line g.world A k rest)))
      reach_a front true e true true = tt
      reach_a front true e true false = let at = is_at_up k g.world.a.state e in heard_a front at.0 at.1
      reach_a front true e false full = tt
      reach_a front false e known full = on_lines (seen A g) _ _ v

      reach_b : units_on k g.world.to_b ≡ unit ∷ rest → (rising : Bool) → is_up k g.world.b.state ≡ rising → (known full : Bool)
          → ArriveKeeps B k (unit ∷ rest)
          (cond rising (cond known (cond full exhausted
          (shows (Answered (answer_to g.world.b (Heard k unit)))
          (with_end (with_line g.world B k rest) B (after g.world.b (Heard k unit))))) impossible)
          (shows Lost (with_line g.world B k rest)))
      reach_b front true e true true = tt
      reach_b front true e true false = let at = is_at_up k g.world.b.state e in heard_b front at.0 at.1
      reach_b front true e false full = tt
      reach_b front false e known full = on_lines (seen A g) _ _ v

    front_a : (k : ℕ) → k < length g.world.a.state.links → (line : List SignalUnit) → units_on k g.world.to_a ≡ line
        → ArriveKeeps A k line (front_arrives g.world A k line)
    front_a k few [] e = tt
    front_a k few (unit ∷ rest) e = reach_a k few unit rest e (is_up k g.world.a.state) refl (has_link g.world k) (is_full g.world.a)

    front_b : (k : ℕ) → k < length g.world.a.state.links → (line : List SignalUnit) → units_on k g.world.to_b ≡ line
        → ArriveKeeps B k line (front_arrives g.world B k line)
    front_b k few [] e = tt
    front_b k few (unit ∷ rest) e = reach_b k few unit rest e (is_up k g.world.b.state) refl (has_link g.world k) (is_full g.world.b)

    arrive_at : (end : End) (k : ℕ) → k < length g.world.a.state.links → Keeps g (Arrive end k) (front_arrives g.world end k (line_to g.world end k))
    arrive_at A k few = front_a k few (units_on k g.world.to_a) refl
    arrive_at B k few = front_b k few (units_on k g.world.to_b) refl

    arrive_keeps : (end : End) (k : ℕ) → Keeps g (Arrive end k) (arrives g.world end k)
    arrive_keeps end k = go (has_link g.world k) refl
      where
        go : (known : Bool) → has_link g.world k ≡ known → Keeps g (Arrive end k) (cond known (front_arrives g.world end k (line_to g.world end k)) impossible)
        go true e = arrive_at end k (ltb-true k (link_count g.world.a.state) e)
        go false e = tt

    -- TOGETHER
    together_keeps : (k : ℕ) → Keeps g (Together k) (rises g.world k)
    together_keeps k = go (has_link g.world k) refl (is_settled_at_both g.world k) refl (is_full g.world.a || is_full g.world.b)
      where
        go : (known : Bool) → has_link g.world k ≡ known → (settled : Bool) → is_settled_at_both g.world k ≡ settled → (full : Bool)
            → Keeps g (Together k) (cond known (cond settled (cond full exhausted (shows CameUp (risen g.world k))) impossible) impossible)
        go true e true f true = tt
        go true e true f false =
            let s = both_settled ma mb one g h (is_settled k g.world.a.state) (is_settled k g.world.b.state) f in
            rises_streams ma mb (seen A g) h v k (ltb-true k (link_count g.world.a.state) e) s.0 s.1
        go true e false f full = tt
        go false e settled f full = tt

    -- EACH STEP
    done_keeps : (step : Step) → IsSafe emergencies step → Keeps g step (done_by g.world step)
    done_keeps (Act end event) safe = own_keeps end event safe (has_own_step event) refl
    done_keeps (Emit end k) safe = emit_keeps end k
    done_keeps (Arrive end k) safe = arrive_keeps end k
    done_keeps (Lose end k place) safe = lose_keeps end k place
    done_keeps (Together k) safe = together_keeps k
    done_keeps (Inject end k unit) safe = absurd (no_injection emergencies end k unit safe)

  pub step_keeps : (g : Stage) → Holds ma mb one g → Streams emergencies (seen A g) → (step : Step)
      → IsSafe emergencies step → Keeps g step (carried_out g.world step)
  unfolding carried_out
  step_keeps g h v step safe = done_keeps g h v step safe

  -- ALL ALONG, of what it says at each stage
  module _ (Says : Stage → Type 0) (says : (g : Stage) → Streams emergencies (seen A g) → Says g) where
    onward : (g : Stage) (step : Step) (steps : List Step)
        → ((later : Stage) → Holds ma mb one later → Streams emergencies (seen A later) → HoldsAlong Says later steps)
        → (outcome : Outcome) → Goes ma mb one g step outcome → Keeps g step outcome
        → OnShows outcome (λ shown new. HoldsAlong Says (passed g step shown new) steps)
    onward g step steps next (shows shown new) goes keeps = next (passed g step shown new) goes.1 keeps
    onward g step steps next impossible goes keeps = tt
    onward g step steps next exhausted goes keeps = tt

    along : (g : Stage) → Holds ma mb one g → Streams emergencies (seen A g) → (steps : List Step)
        → AreSteps (IsSafe emergencies) steps → HoldsAlong Says g steps
    along g h v [] safe = says g v
    along g h v (step ∷ steps) safe = (
      says g v,
      onward g step steps (λ later holds streams. along later holds streams steps safe.1) (carried_out g.world step)
          (step_goes ma mb one g h step (is_safe_honest emergencies step safe.0)) (step_keeps g h v step safe.0),
    )

streams_arrive : (g : Stage) → Streams false (seen A g) → StreamsArrive g
streams_arrive g v stream low = (
  arrives_so stream low g.world.a.state g.world.b.state g.a g.b v.out_lost v.out v.near_covers v.near_rises (v.out_whole refl stream),
  arrives_so stream low g.world.b.state g.world.a.state g.b g.a v.back_lost v.back v.far_covers v.far_rises (v.back_whole refl stream),
)

parts_arrive : (g : Stage) → Streams true (seen A g) → PartsArrive g
parts_arrive g v stream low = (
  arrives_in_part stream low g.world.a.state g.world.b.state g.a g.b v.out_lost v.out v.near_covers v.near_rises,
  arrives_in_part stream low g.world.b.state g.world.a.state g.b g.a v.back_lost v.back v.far_covers v.far_rises,
)

-- AT FIRST
none_on : (a b : Settings) (l : ℕ) → pending l (opened_with a) (opened_with b) ≡ []
none_on a b l = ap (λ (rows : List Row). messages (rows ++ [] ++ [])) (drop_none {X = Row} (accepted_on l (opened_with b) - acked_on l (opened_with a)))

nothing_at : (a b : Settings) (q : Place) → queue_at q (opened_with a) (opened_with b) ≡ []
nothing_at a b (On l) = none_on a b l
nothing_at a b (Changing to code via) = ap (λ (q : List Message). q ++ []) (none_on a b via)
nothing_at a b Nowhere = refl

first_flows : (config other : SetConfig) → Flows (opened_with (settings_of config)) (opened_with (settings_of other)) no_past.offered no_past.got (λ stream. [])
first_flows config other = record {
  flow = λ stream low. (ap (those_of stream) (nothing_at a b (place_of stream (opened_with a).routing)), refl);
  stands = λ stream low. record { alone = λ l e. ap (those_of stream) (none_on a b l); none_aside = λ e. refl };
  unused = λ stream low e. refl;
  backing = record {
    few_declared = λ c m i d. absurd (nothing_in a b m i);
    few_acked = λ c m i d. absurd (nothing_in b a m i);
    owes = λ c. record {
      declarations = [];
      acks = [];
      within = omega arith;
      declared = λ m i d. absurd (nothing_in a b m i);
      acked = λ m i x. absurd (nothing_in b a m i);
    };
    clear = λ stream low to code via e. absurd (never stream to code via e);
    answered = λ stream low to code via e n i x. absurd (nothing_in b a n i);
  };
}
  where
    a : Settings
    a = settings_of config

    b : Settings
    b = settings_of other

    never : (stream to code via : ℕ) → place_of stream (opened_with (settings_of config)).routing ≡ Changing to code via → ⊥
    never stream to code via e = never_changing stream to code via (opened_with (settings_of config)).routing
        (opened_sound (settings_of config) (settings_sound config)).routing
        (opened_new (settings_of config) (settings_sound config)).straight.none_open e

first_covers : (config : SetConfig) → Covered no_past (λ stream. []) (opened_with (settings_of config))
first_covers config = record {
  managed = config.management;
  numbered = (opened_sound (settings_of config) (settings_sound config)).numbered;
  marked = tt;
  known = λ number body e users. absurd (let no : None ≡ Some body = e in cc);
  gone = λ number q. absurd q.2;
}

pub first_streams : (emergencies : Bool) (a b : SetConfig) → Streams emergencies (seen A (begun a b))
first_streams emergencies a b = record {
  ordered = record {
    both = record { near = first_orders (settings_of a) (settings_of b); far = first_orders (settings_of b) (settings_of a) };
    near_codes = first_codes a;
    far_codes = first_codes b;
  };
  out_lost = λ stream. [];
  back_lost = λ stream. [];
  out = first_flows a b;
  back = first_flows b a;
  near_covers = first_covers a;
  far_covers = first_covers b;
  near_rises = λ stream. omega arith;
  far_rises = λ stream. omega arith;
  out_whole = λ e stream. refl;
  back_whole = λ e stream. refl;
}

pub every_sound_run : (a b : SetConfig) (steps : List Step) → IsSoundRun a b steps → HoldsAlong StreamsArrive (begun a b) steps
every_sound_run a b steps sound =
    along false a.method b.method sound.one_method StreamsArrive streams_arrive (begun a b)
    (at_first a b sound.links sound.profiles) (first_streams false a b) steps sound.steps

pub every_quiet_run : (a b : SetConfig) (steps : List Step) → IsQuietRun a b steps → HoldsAlong PartsArrive (begun a b) steps
every_quiet_run a b steps quiet =
    along true a.method b.method quiet.one_method PartsArrive parts_arrive (begun a b)
    (at_first a b quiet.links quiet.profiles) (first_streams true a b) steps quiet.steps
