-- NUMBERS RISE: a set gives each number once, so those of what was offered rise, and so do those of any part in order
-- (`rise_part`, by induction on the list). No event makes the numbers given out fewer (`never_fewer`, a walk of small
-- changes, set_model's Walk.antt), and an offer gives the next (`one_more`); so what was offered of a stream rises and
-- stays below (`rising_on`, `offers_rise`). Acting.antt and Hearing.antt keep it step by step, and Runs.antt reads off
-- it that no number is got twice.
use Rattle.std.proofs.Common.{refl, arith, ◌≡◌, ◌∙◌, ap, sym, subst, ℕ, ◌≤◌, ◌==◌, ◌+◌, Bool, true, false, List, [], ◌∷◌, ◌++◌, length, Option, Some, None, cond, inl, inr}
use Rattle.std.proofs.lemmas.List.{append-nil, length-append}
use Rattle.set_events.specs.declared.answer.Fate.{Fate}
use Rattle.set_events.specs.declared.answer.Refusal.{Refusal as SetRefusal}
use Rattle.set_events.specs.declared.event.Event.{Event}
use Rattle.set_events.specs.declared.event.Event.TheVariants.{Offer}
use Rattle.set_model.specs.Rows.{orders_changed, Discarded, changed, is_unacked, is_waiting, is_on, is_back, is_back_to, appended, stream_of}
use Rattle.set_model.specs.State.{all_finished, given, State, target, with_link}
use Rattle.set_model.specs.declared.phase.Phase.TheVariants.{Settled}
use Rattle.set_model.specs.Step.{opened, risen, controlled, next, offer_refusal, offered, rises, step}
use Rattle.set_model.specs.Changeover.{acknowledged_by, acknowledged_code, answered_link, declared, fate_on, left_by, moved_over, redeclared_on, released, taken_back, withdrawn}
use Rattle.l3_orders.specs.Grammar.{text}
use Rattle.set_model.proofs.Ahead.{put_length}
use Rattle.set_model.proofs.Rows.{new_row, moved_length}
use Rattle.set_model.proofs.Walk.{KeptBy, step_walks}
use Rattle.pair_steps.specs.declared.step.Shown.TheVariants.{Answered}
use Rattle.pair_model.specs.Run.{Message, Past, past_asked}
use Rattle.pair_changeover.proofs.Table.{new_message}
use Rattle.pair_streams.specs.Streams.{IsPart, RiseFrom}

-- from this number on, and below that one
abbrev pub RiseTo : ℕ → List Message → ℕ → Type 0
RiseTo least [] end = least ≤ end
RiseTo least (m ∷ ms) end = (least ≤ m.number) × RiseTo (m.number + 1) ms end

pub rise_further : (least : ℕ) (ms : List Message) (end more : ℕ) → end ≤ more → RiseTo least ms end → RiseTo least ms more
rise_further least [] end more few r = omega (arith, few, r)
rise_further least (m ∷ ms) end more few r = (r.0, rise_further (m.number + 1) ms end more few r.1)

pub rise_last : (least : ℕ) (ms : List Message) (end : ℕ) (m : Message) → m.number ≡ end → RiseTo least ms end → RiseTo least (ms ++ m ∷ []) (end + 1)
rise_last least [] end m e r = (omega (arith, e, r), omega (arith, e))
rise_last least (x ∷ ms) end m e r = (r.0, rise_last (x.number + 1) ms end m e r.1)

pub rise_part : (least low : ℕ) (part all : List Message) (end : ℕ) → least ≤ low → IsPart part all → RiseTo low all end → RiseFrom least part
rise_part least low [] all end few p r = tt
rise_part least low (x ∷ part) [] end few p r = absurd p
rise_part least low (x ∷ part) (y ∷ all) end few (inl p) r =
    let same : x.number ≡ y.number = ap (λ (m : Message). m.number) p.0 in
    let above = r.0 in
    (omega (arith, few, above, same), rise_part (x.number + 1) (y.number + 1) part all end (omega (arith, same)) p.1 r.1)
rise_part least low (x ∷ part) (y ∷ all) end few (inr p) r = let above =
    r.0 in rise_part least (y.number + 1) (x ∷ part) all end (omega (arith, few, above)) p r.1

-- THE NUMBERS GIVEN OUT never get fewer
abbrev More : State → State → Type 0
More s t = given s ≤ given t

same_many : (s t : State) → t.finished ≡ s.finished → length t.rows ≡ length s.rows → More s t
same_many s t gone long = omega (arith, ap all_finished gone, long)

pub one_more : (s t : State) (body : List ℕ) (fate : Fate) → t.finished ≡ s.finished → t.rows ≡ appended (given s) s.rows body fate → given t ≡ given s + 1
one_more s t body fate gone rows =
    let long : length t.rows ≡ length s.rows + 1 = ap length rows ∙ length-append s.rows (new_row (given s) body fate ∷ []) in
    omega (arith, long, ap all_finished gone)

more_appended : (s t : State) (body : List ℕ) (fate : Fate) → t.finished ≡ s.finished → t.rows ≡ appended (given s) s.rows body fate → More s t
more_appended s t body fate gone rows = omega (arith, one_more s t body fate gone rows)

small : (Known : ℕ → Type 0) (May : Type 0) → KeptBy Known May More
small Known May = record {
  same = λ s. omega arith;
  after = λ a b d p q. omega (arith, p, q);
  delivers = λ body s. omega arith;
  queues = λ order s. omega (arith, put_length (given s) s.rows (text s.settings.profile order s.settings.sio s.settings.dpc s.settings.opc) (fate_on (target s.links)));
  leaves = λ blind n link s known at. same_many s (left_by blind n link s) refl (moved_length (is_back_to n) _ s.rows);
  acknowledges = λ count n link s known at few g. same_many s (acknowledged_by count n link s) refl g.kept.count;
  gives_up = λ sent cause n link s known at g. same_many s
      (record s { rows = changed (cond sent (is_unacked n) (is_waiting n)) (Discarded cause) s.rows }) refl
      g.kept.count;
  gives_up_orders = λ cause n link s known at g. same_many s
      (record s { rows = orders_changed (is_waiting n) (Discarded cause) s.rows }) refl
      g.kept.count;
  takes_back = λ order from s unsent known g. same_many s (taken_back order from s) refl g.kept.count;
  answers = λ n link s known at. same_many s (with_link n (answered_link link) s) refl refl;
  withdraws = λ count n link s known at g. same_many s (withdrawn count n s) refl g.kept.count;
  moves_off = λ told n link s known at. same_many s (moved_over told n link s) refl (moved_length (is_on n) _ s.rows);
  declares = λ may home alternative s up can. more_appended s (declared home alternative s) _ _ refl refl;
  redeclares = λ code via s due. more_appended s (redeclared_on code (Some via) s) _ _ refl refl;
  acknowledges_back = λ code s known. same_many s (acknowledged_code code s) refl (moved_length (is_back code) _ s.rows);
  releases = λ code s known. same_many s (released code s) refl (moved_length (is_back code) _ s.rows);
  opens = λ n link s known at shut u. same_many s (opened n link s) refl u.kept.count;
}

pub never_fewer : (s : State) (event : Event) → given s ≤ given (step s event).state
never_fewer s event = step_walks s More (More s) event (record {
  small = small _ _;
  unmoved = omega arith;
  rests = λ t u p q. omega (arith, p, q);
  offers = λ body e none. more_appended s (offered None s body).state body _ refl refl;
  takes = λ body rest e there. omega arith;
  sends = λ n link t e more at g. omega (arith, more, same_many t (next n t link).state refl g.kept.count);
  hears = λ n unit link e fits at g. same_many s (controlled unit n s link) refl g.kept.count;
  rises = λ n link e at. same_many s (risen n s) refl refl;
})

-- SO WHAT WAS OFFERED rises
abbrev pub Rising : Past → State → Type 0
Rising past s = (stream : ℕ) → RiseTo 0 (past.offered stream) (given s)

pub rising_on : (past : Past) (s : State) (event : Event) → Rising past s → Rising past (step s event).state
rising_on past s event r stream = rise_further 0 (past.offered stream) (given s) (given (step s event).state) (never_fewer s event) (r stream)

offer_rises : (past : Past) (s : State) (body : List ℕ) (o : Option SetRefusal) → Rising past s
    → Rising (past_asked (Offer body) (Answered (offered o s body).answer) past) (offered o s body).state
offer_rises past s body (Some why) r stream = go (stream == stream_of body)
  where
    go : (b : Bool) → RiseTo 0 (cond b (past.offered stream ++ []) (past.offered stream)) (given s)
    go true = subst (λ (q : List Message). RiseTo 0 q (given s)) (sym (append-nil (past.offered stream))) (r stream)
    go false = r stream
offer_rises past s body None r stream = go (stream == stream_of body)
  where
    go : (b : Bool) → RiseTo 0 (cond b (past.offered stream ++ new_message (given s) body ∷ []) (past.offered stream)) (given (offered None s body).state)
    go true = subst (λ (n : ℕ). RiseTo 0 (past.offered stream ++ new_message (given s) body ∷ []) n)
        (sym (one_more s (offered None s body).state body _ refl refl))
        (rise_last 0 (past.offered stream) (given s) (new_message (given s) body) refl (r stream))
    go false = rise_further 0 (past.offered stream) (given s) (given (offered None s body).state)
        (more_appended s (offered None s body).state body _ refl refl) (r stream)

pub offers_rise : (past : Past) (s : State) (body : List ℕ) → Rising past s
    → Rising (past_asked (Offer body) (Answered (step s (Offer body)).answer) past) (step s (Offer body)).state
unfolding step
offers_rise past s body r = offer_rises past s body (offer_refusal s.settings.profile s.rows body) r
