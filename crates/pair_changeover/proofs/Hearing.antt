-- WHAT AN END HEARS, and the orders under way at both: the body that it accepts is the first that is pending at the
-- other (`first_is`), which stands nowhere else (`gone`). `hears` says that the unit's own part keeps what holds of the
-- orders, and that what the body leads to is a case of `Obeys` (Obeying.antt). There the invariant pays: an order of a
-- changeover that is heard was the only one about its link, and came by another; its end left that link, and tells what
-- it counts, if anything. Case by case on the body and the order; Reaching.antt finds the row, Passing.antt tells the
-- queues. Used by Ordered.antt, Arriving.antt, Counted.antt and Telling.antt, and by pair_streams's Hearing.antt.
use Rattle.std.proofs.Common.{not, refl, arith, ◌≡◌, ◌≢◌, ◌∙◌, ap, sym, subst, ℕ, suc, ◌≤◌, ◌<◌, ◌==◌, ◌+◌, ◌-◌, Bool, true, false, List, [], ◌∷◌, ◌++◌, length, take, drop, slice_get, Option, Some, None, inl}
use Rattle.std.proofs.lemmas.Bool.{eqb-true}
use Rattle.std.proofs.lemmas.Option.{same_Some}
use Rattle.l2_units.specs.declared.unit.Unit.{Unit as SignalUnit}
use Rattle.l2_units.specs.declared.unit.Unit.TheVariants.{Fisu, Lssu, Msu}
use Rattle.l2_window.specs.declared.control.HeardPart.{HeardPart}
use Rattle.l3_orders.specs.declared.order.Order.{Order}
use Rattle.l3_orders.specs.declared.order.Order.TheVariants.{Coo, Coa, Cbd, Cba, Eco, Eca}
use Rattle.l3_orders.specs.Grammar.{order_of, order_any, link_of}
use Rattle.l3_orders.proofs.Texts.{any_of}
use Rattle.set_model.specs.State.{last_accepted}
use Rattle.pair_steps.specs.Lines.{units_on}
use Rattle.set_events.specs.declared.config.Method.{Method}
use Rattle.set_model.specs.declared.phase.Phase.{Phase}
use Rattle.set_model.specs.declared.phase.Phase.TheVariants.{Up, Down, Settled}
use Rattle.set_model.specs.declared.reached.Reached.TheVariants.{Upto, Unknown}
use Rattle.set_route.specs.declared.place.Code.{Code}
use Rattle.set_route.specs.declared.place.Code.TheVariants.{Free, Asked, Spent}
use Rattle.set_route.specs.Routing.{code_of}
use Rattle.set_model.specs.Changeover.{Obeyed, order_obeyed, at_link, changed_over, answered, acknowledged_back, obeyed}
use Rattle.set_model.specs.Rows.{unack, parked, is_managements, is_unacked, service_indicator, IsNumbered}
use Rattle.set_model.specs.Sound.{IsSound}
use Rattle.set_model.specs.State.{given, LinkState, State, is_up, is_settled, link_is_up, link_is_settled, has_phase_up, has_phase_settled, window_of}
use Rattle.set_model.specs.Step.{brought, takes, one_if}
use Rattle.set_model.proofs.Events.{acknowledged}
use Rattle.set_model.proofs.Lists.{get_set_same, present, within}
use Rattle.set_model.proofs.SoundLink as sounds
use Rattle.set_model.proofs.Walk.{IsAt}
use Rattle.pair_model.specs.Promises.{IsOneMethod, IsKeptOn}
use Rattle.pair_model.specs.Run.{Message, messages, bodies, body_in, taken_by}
use Rattle.pair_model.proofs.Controls.{one_back}
use Rattle.pair_model.proofs.Hearing as hearing
use Rattle.pair_model.proofs.Kept.{past_of, kept_on, kept_tied}
use Rattle.pair_model.proofs.Pairs.{Two, side, HoldsOf}
use Rattle.pair_model.proofs.Tied.{Side, Tied, turned}
use Rattle.pair_changeover.proofs.Changes.{Both, Acts, acts, by_link, other_then}
use Rattle.pair_changeover.proofs.Obeying.{Told, Heard, TellsNoBack, TellsOver, Obeys, keeps, settles, answers, settles_blind, answers_blind, acknowledges, releases}
use Rattle.pair_changeover.proofs.Passing.{passing, far_stays, far_loses, was_first}
use Rattle.pair_changeover.proofs.Reaching.{marked_at, Reaches, reaches, Due, due, due_message, not_queued, not_aside}
use Rattle.pair_changeover.proofs.Table.{queue_acked, queue_untouched}
use Rattle.pair_changeover.proofs.Texts.{plain_in}
use Rattle.pair_changeover.proofs.Views.{view, pending, queue, acked_of, acked_on, accepted_of, accepted_on, last_of, last_on, Among, In, stands_on, stands_aside, About, IsChangeover, Tells}

unsettled_up : (a b : Bool) → (a ≡ true → b ≡ false) → b ≡ true → a ≡ false
unsettled_up false b w e = refl
unsettled_up true b w e = absurd (let no : true ≡ false = sym e ∙ w refl in cc)

up_unsettled : (phase : Phase) → phase ≡ Up → has_phase_settled phase ≡ false
up_unsettled phase e = ap has_phase_settled e

module _ {emergencies : Bool} (mx my : Method) (one : IsOneMethod mx my) (p : Two) (h : HoldsOf mx my p)
    (o : Both emergencies p.near p.far) (k : ℕ) (few : k < length p.near.links) (unit : SignalUnit)
    (rest : List SignalUnit) (front : units_on k p.back ≡ unit ∷ rest) (link : LinkState) (at : IsAt k link Up p.near)
  where
    abbrev x : Side
    x = side k p.near p.near_past

    abbrev y : Side
    y = side k p.far p.far_past

    abbrev pub part : HeardPart
    part = hearing.part k mx my one x y (units_on k p.out) rest unit link h.near_sound at h.profiles h.far_sound.fit

    abbrev pub mid : State
    mid = hearing.mid k mx my one x y (units_on k p.out) rest unit link h.near_sound at h.profiles h.far_sound.fit

    abbrev pub mid_link : LinkState
    mid_link = hearing.mid_link k mx my one x y (units_on k p.out) rest unit link h.near_sound at h.profiles h.far_sound.fit

    abbrev pub taken : Obeyed
    taken = hearing.taken k mx my one x y (units_on k p.out) rest unit link h.near_sound at h.profiles h.far_sound.fit

    abbrev heard_side : Side
    heard_side = hearing.hearing k mx my one x y (units_on k p.out) rest unit link h.near_sound at h.profiles h.far_sound.fit

    tied : Tied k mx my x y (units_on k p.out) (unit ∷ rest)
    tied = subst (λ (us : List SignalUnit). Tied k mx my x y (units_on k p.out) us) front (h.ties k)

    mid_tied : Tied k mx my heard_side y (units_on k p.out) rest
    mid_tied = hearing.mid_tied k mx my one x y (units_on k p.out) rest unit link h.near_sound at h.profiles h.far_sound.fit tied

    pub mid_sound : IsSound mid
    mid_sound = sounds.hears_sound k link p.near at h.near_sound unit

    mid_numbered : IsNumbered (given mid) mid.rows
    mid_numbered = mid_sound.numbered

    kept_out : IsKeptOn k (past_of heard_side) (past_of y) mid p.far
    kept_out = kept_tied k mx my one heard_side y (units_on k p.out) rest mid_numbered mid_tied

    kept_back : IsKeptOn k (past_of y) (past_of heard_side) p.far mid
    kept_back = kept_tied k my mx (one_back mx my one) y heard_side rest (units_on k p.out) h.far_sound.numbered
        (turned k mx my heard_side y (units_on k p.out) rest mid_tied)

    -- the link at the far end
    far_at : (other : LinkState) × (slice_get p.far.links k ≡ Some other)
    far_at = present p.far.links k (omega (arith, few, h.far_links))

    up_here : is_up k p.near ≡ true
    up_here = ap link_is_up at.there ∙ ap has_phase_up at.phase_is

    far_unsettled : has_phase_settled far_at.0.phase ≡ false
    far_unsettled = ap link_is_settled (sym far_at.1) ∙ unsettled_up (is_settled k p.far) (is_up k p.near) (o.far.apart k) up_here

    out_reaches : Reaches k link p.near p.far (p.near_past.sent k)
    out_reaches = reaches k p.near_past p.far_past p.near p.far (kept_on mx my one p h k) link at.there (up_unsettled link.phase at.phase_is) far_at.0 far_at.1

    back_reaches : Reaches k far_at.0 p.far p.near (p.far_past.sent k)
    back_reaches = reaches k (past_of y) (past_of x) p.far p.near
        (kept_tied k my mx (one_back mx my one) y x (unit ∷ rest) (units_on k p.out) h.far_sound.numbered
        (turned k mx my x y (units_on k p.out) (unit ∷ rest) tied)) far_at.0 far_at.1 far_unsettled link at.there

    pub counted : link.accepted ≡ length x.taken
    counted = (kept_tied k my mx (one_back mx my one) y x (unit ∷ rest) (units_on k p.out) h.far_sound.numbered
        (turned k mx my x y (units_on k p.out) (unit ∷ rest) tied)).accepted link at.there

    mid_at : IsAt k mid_link Up mid
    mid_at = record { there = get_set_same p.near.links k mid_link (within p.near.links k link at.there); phase_is = at.phase_is }

    -- what was acknowledged had been accepted, so no queue of this end changes
    acked_due : link.acked + part.acked ≤ accepted_on k p.far
    acked_due =
        let g = kept_out.going mid_link mid_at.there (up_unsettled link.phase at.phase_is) in
        let same : accepted_on k p.far ≡ length y.taken = ap accepted_of far_at.1 ∙ kept_out.accepted far_at.0 far_at.1 in
        omega (arith, g.acked, same)

    heard_acts : ((l : ℕ) (m : Message) → Among m (pending l p.far mid) → Among m (pending l p.far p.near)) → Acts p.near mid p.far
    heard_acts far_came = passing k link mid_link p.near mid p.far at refl at.phase_is
        (queue_acked (accepted_on k p.far) link.acked part.acked k p.near.rows acked_due)
        (acknowledged k part.acked p.near.rows).others (acknowledged k part.acked p.near.rows).parked_same far_came

    pub heard_queues : (l : ℕ) → pending l mid p.far ≡ pending l p.near p.far
    heard_queues = by_link k link mid_link p.near mid at.there refl
        (λ n old new. queue (accepted_on n p.far - acked_of new) n mid.rows
        ≡ queue (accepted_on n p.far - acked_of old) n p.near.rows)
        (queue_acked (accepted_on k p.far) link.acked part.acked k p.near.rows acked_due)
        (λ n old d. queue_untouched (accepted_on n p.far - acked_of old) n p.near.rows mid.rows ((acknowledged k part.acked p.near.rows).others n d))

    pub heard_aside : parked mid.rows ≡ parked p.near.rows
    heard_aside = (acknowledged k part.acked p.near.rows).parked_same

    -- NO BODY IS ACCEPTED
    pub none_counted : brought part.accept unit ≡ None → one_if part.accept ≡ 0
    none_counted e = let many = hearing.took_many link.control (window_of k link p.near.rows) unit mid in sym (rw e at many)

    module _ (e : brought part.accept unit ≡ None) where
      pub none_both : Both emergencies mid p.far
      none_both =
          let zero_more = none_counted e in
          acts p.near mid p.far (heard_acts (far_stays k link mid_link p.near mid p.far at.there refl (omega (arith, zero_more)))) o

      pub none_taken : taken.state ≡ mid
      none_taken = rw e refl

    -- ONE IS: it's the unit's
    body_is : (accept : Bool) (unit : SignalUnit) (body : List ℕ) → brought accept unit ≡ Some body → body_in unit ≡ body
    body_is accept (Fisu head) body e = absurd cc
    body_is accept (Lssu head status) body e = absurd cc
    body_is true (Msu head b) body e = cc
    body_is false (Msu head b) body e = absurd cc

    module _ (body : List ℕ) (e : brought part.accept unit ≡ Some body) where
      pub is_body : body_in unit ≡ body
      is_body = body_is part.accept unit body e

      took_it : taken_by taken.took (body_in unit) ≡ body ∷ []
      took_it = ap (λ (b : List ℕ). taken_by taken.took b) is_body ∙ rw e (hearing.took_some body mid)

      pub one_more : mid_link.accepted ≡ suc link.accepted
      one_more =
          let many = hearing.took_many link.control (window_of k link p.near.rows) unit mid in
          let one = ap length took_it in
          omega (arith, many, one)

      far_acked : acked_on k p.far ≡ far_at.0.acked
      far_acked = ap acked_of far_at.1

      far_unacked : messages (unack k p.far.rows) ≡ drop (acked_on k p.far) y.sent
      far_unacked = back_reaches.unacked ∙ ap (λ (n : ℕ). drop n y.sent) (sym far_acked)

      far_few : acked_on k p.far ≤ length x.taken
      far_few = let d = back_reaches.due in let c : accepted_on k p.near ≡ link.accepted = ap accepted_of at.there in omega (arith, d, c, far_acked, counted)

      pub next_due : Due k (link.accepted - acked_on k p.far) body p.far.rows
      next_due =
          let prefix : x.taken ++ body ∷ [] ≡ take (length (x.taken ++ body ∷ [])) (bodies y.sent) = rw took_it at (kept_back.prefix) in
          subst (λ (n : ℕ). Due k (n - acked_on k p.far) body p.far.rows) (sym counted)
          (due k (acked_on k p.far) p.far.rows y.sent x.taken body far_unacked far_few prefix)

      far_due : acked_on k p.far ≤ link.accepted
      far_due = let d = back_reaches.due in let c : accepted_on k p.near ≡ link.accepted =
          ap accepted_of at.there in let a : acked_on k p.far ≡ far_at.0.acked =
          ap acked_of far_at.1 in omega (arith, d, c, a)

      abbrev pub first : Message
      first = record { number = next_due.row.number; body = next_due.row.body; users = next_due.row.users }

      -- its octets tell whose it is
      pub first_marked : first.users ≡ not (is_managements first.body)
      first_marked = marked_at (λ row. is_unacked k row.fate) p.far.rows (link.accepted - acked_on k p.far) next_due.row h.far_sound.marked next_due.there

      -- the message at its place among those that were sent
      pub first_sent : slice_get y.sent (length x.taken) ≡ Some first
      first_sent = due_message k (acked_on k p.far) p.far.rows y.sent (length x.taken) next_due.row far_unacked far_few
          (ap (λ (n : ℕ). slice_get (unack k p.far.rows) (n - acked_on k p.far)) (sym counted) ∙ next_due.there)

      pub first_is : pending k p.far p.near ≡ first ∷ pending k p.far mid
      first_is = was_first k link mid_link p.near mid p.far at.there refl one_more next_due.row far_due next_due.there

      far_came : (l : ℕ) (m : Message) → Among m (pending l p.far mid) → Among m (pending l p.far p.near)
      far_came = far_loses k link mid_link p.near mid p.far at.there refl one_more next_due.row far_due next_due.there

      pub some_both : Both emergencies mid p.far
      some_both = acts p.near mid p.far (heard_acts far_came) o

      among_first : Among first (pending k p.far p.near)
      among_first = subst (λ (q : List Message). Among first q) (sym first_is) (inl refl)

      pub first_in : In first (view p.far p.near)
      first_in = stands_on k among_first

      -- it stands nowhere at the far end then
      pub gone : (m : Message) → In m (view p.far mid) → m.number ≢ first.number
      gone m (stands_on l a) = not_queued (given p.far) k (link.accepted - acked_on k p.far) p.far.rows
          h.far_sound.numbered next_due.row next_due.there (accepted_on l mid - acked_on l p.far) l
          (λ same. behind l same) m a
        where
          behind : (l : ℕ) → (k == l) ≡ true → link.accepted - acked_on k p.far < accepted_on l mid - acked_on l p.far
          behind l same = subst (λ (n : ℕ). link.accepted - acked_on k p.far < accepted_on n mid - acked_on n p.far) (eqb-true k l same)
              (let now : accepted_on k mid ≡ mid_link.accepted = ap accepted_of mid_at.there in omega (arith, now, one_more, far_due))
      gone m (stands_aside a) = not_aside (given p.far) k (link.accepted - acked_on k p.far) p.far.rows h.far_sound.numbered next_due.row next_due.there m a

      pub was_in_far : (m : Message) → In m (view p.far mid) → In m (view p.far p.near)
      was_in_far m (stands_on l a) = stands_on l (far_came l m a)
      was_in_far m (stands_aside a) = stands_aside a

      -- AN ORDER OF A CHANGEOVER IS HEARD: it was the only one about its link, which its end left; and it tells what that end
      -- counts
      module _ (order : Order) (is : order_of p.near.settings.profile body ≡ Some order) (over : IsChangeover order) where
        first_order : order_any first.body ≡ Some order
        first_order = ap order_any next_due.body_is ∙ any_of p.near.settings.profile body order is

        about : About (link_of order) first
        about = record { order = order; is = first_order; over = over; of = refl }

        apart : (b : Bool) → (k == link_of order) ≡ b → b ≡ false
        apart false e = refl
        apart true e = absurd (o.far.own k first among_first (subst (λ (n : ℕ). About n first) (sym (eqb-true k (link_of order) e)) about))

        pub other : (k == link_of order) ≡ false
        other = let a = apart (k == link_of order) refl in a

        pub tells : Tells emergencies (view p.far p.near) order
        tells = o.far.tells first first_in order first_order over

        pub unsettled : is_settled (link_of order) p.near ≡ false
        unsettled = go (is_settled (link_of order) p.near) refl
          where
            go : (b : Bool) → is_settled (link_of order) p.near ≡ b → is_settled (link_of order) p.near ≡ false
            go false e = e
            go true e = absurd (o.far.none_settled (link_of order) e first first_in about)

        far_down : is_up (link_of order) p.far ≡ false
        far_down = go (is_up (link_of order) p.far) refl
          where
            go : (b : Bool) → is_up (link_of order) p.far ≡ b → is_up (link_of order) p.far ≡ false
            go false e = e
            go true e = absurd (o.far.none_up (link_of order) e first first_in about)

        heard : Heard (link_of order) mid p.far
        heard = record { far_down = far_down; none = λ m i a. gone m i (o.far.one (link_of order) m first (was_in_far m i) first_in a about) }

        same_link : slice_get mid.links (link_of order) ≡ slice_get p.near.links (link_of order)
        same_link = other_then k link mid_link p.near mid at.there refl (link_of order) other

        module _ (fsn : ℕ) (fsn_is : fsn ≡ last_on (link_of order) p.far) (state : LinkState)
            (there : slice_get p.near.links (link_of order) ≡ Some state) (going : has_phase_settled state.phase ≡ false)
          where
            far_there : (far : LinkState) × (slice_get p.far.links (link_of order) ≡ Some far)
            far_there = present p.far.links (link_of order) (omega (arith, within p.near.links (link_of order) state there, h.far_links))

            pub told_before : Told fsn (link_of order) state p.near p.far
            told_before =
                let r = reaches (link_of order) p.near_past p.far_past p.near p.far (kept_on mx my one p h (link_of order))
                state there going far_there.0 far_there.1 in
                let other_profile : far_there.0.profile ≡ state.profile =
                (h.far_sound.links (link_of order) far_there.0 far_there.1).profile ∙ h.profiles
                ∙ sym ((h.near_sound.links (link_of order) state there).profile) in
                let told : last_on (link_of order) p.far ≡ last_accepted far_there.0 = ap last_of far_there.1 in
                let count : accepted_on (link_of order) p.far ≡ far_there.0.accepted = ap accepted_of far_there.1 in
                record { last = fsn_is ∙ told ∙ rw (other_profile, count) refl; due = r.due; within = r.within }

            told_then : Told fsn (link_of order) state mid p.far
            told_then = record {
              last = told_before.last;
              due = told_before.due;
              within = rw (((acknowledged k part.acked p.near.rows).others (link_of order) other).unack_same)
                  (told_before.within);
            }

        going_at : (state : LinkState) → slice_get mid.links (link_of order) ≡ Some state → has_phase_settled state.phase ≡ false
        going_at state there = ap link_is_settled (sym there ∙ same_link) ∙ unsettled

      over_is : (order : Order) → order_of p.near.settings.profile body ≡ Some order → IsChangeover order → TellsOver body
      over_is order is over = record { order = order; is = any_of p.near.settings.profile body order is; over = over }

      -- it tells nothing of a changeback
      no_back : (order : Order) → order_of p.near.settings.profile body ≡ Some order → IsChangeover order → TellsNoBack body mid
      no_back order is over = record {
        none_declared = λ l code e. subst IsChangeover (same_Some order (Cbd l code) (sym is ∙ e)) over;
        none_in_use = λ l code e. absurd (subst IsChangeover (same_Some order (Cba l code) (sym is ∙ e)) over);
      }

      no_order : order_of p.near.settings.profile body ≡ None → TellsNoBack body mid
      no_order is = record {
        none_declared = λ l code e. let no : None ≡ Some (Cbd l code) = sym is ∙ e in absurd cc;
        none_in_use = λ l code e. let no : None ≡ Some (Cba l code) = sym is ∙ e in absurd cc;
      }

      module _ (l fsn : ℕ) (is : order_of p.near.settings.profile body ≡ Some (Coo l fsn)) where
        coo_told : (state : LinkState) → slice_get mid.links l ≡ Some state → Told fsn l state mid p.far
        coo_told state there = told_then (Coo l fsn) is tt fsn (tells (Coo l fsn) is tt) state
            (sym (same_link (Coo l fsn) is tt) ∙ there) (going_at (Coo l fsn) is tt state there)

        coo_obeyed : (state : LinkState) → slice_get mid.links l ≡ Some state → (phase : Phase) → state.phase ≡ phase
            → Obeys emergencies k body mid p.far (changed_over (Upto fsn) l state phase mid).state
        coo_obeyed state there Up e = answers fsn l state (other (Coo l fsn) is tt)
            (record { there = there; phase_is = e }) (coo_told state there) (heard (Coo l fsn) is tt)
            (over_is (Coo l fsn) is tt)
        coo_obeyed state there Down e =
            settles fsn l state (other (Coo l fsn) is tt) (record { there = there; phase_is = e }) (coo_told state there)
            (heard (Coo l fsn) is tt) (over_is (Coo l fsn) is tt)
        coo_obeyed state there Settled e = absurd (let no : true ≡ false = sym (ap has_phase_settled e) ∙ going_at (Coo l fsn) is tt state there in cc)

      module _ (l fsn : ℕ) (is : order_of p.near.settings.profile body ≡ Some (Coa l fsn)) where
        coa_told : (state : LinkState) → slice_get mid.links l ≡ Some state → Told fsn l state mid p.far
        coa_told state there = told_then (Coa l fsn) is tt fsn (tells (Coa l fsn) is tt) state
            (sym (same_link (Coa l fsn) is tt) ∙ there) (going_at (Coa l fsn) is tt state there)

        coa_obeyed : (state : LinkState) → slice_get mid.links l ≡ Some state → (phase : Phase) → state.phase ≡ phase
            → Obeys emergencies k body mid p.far (answered (Upto fsn) l state phase mid).state
        coa_obeyed state there Up e = keeps mid refl refl refl (no_back (Coa l fsn) is tt)
        coa_obeyed state there Down e =
            settles fsn l state (other (Coa l fsn) is tt) (record { there = there; phase_is = e }) (coa_told state there)
            (heard (Coa l fsn) is tt) (over_is (Coa l fsn) is tt)
        coa_obeyed state there Settled e = keeps mid refl refl refl (no_back (Coa l fsn) is tt)

      -- an emergency, in which no number is told
      module _ (l : ℕ) (is : order_of p.near.settings.profile body ≡ Some (Eco l)) where
        eco_obeyed : (state : LinkState) → slice_get mid.links l ≡ Some state → (phase : Phase) → state.phase ≡ phase
            → Obeys emergencies k body mid p.far (changed_over Unknown l state phase mid).state
        eco_obeyed state there Up e = answers_blind l state (tells (Eco l) is tt) (other (Eco l) is tt)
            (record { there = there; phase_is = e }) (heard (Eco l) is tt) (over_is (Eco l) is tt)
        eco_obeyed state there Down e =
            settles_blind l state (tells (Eco l) is tt) (other (Eco l) is tt) (record { there = there; phase_is = e })
            (heard (Eco l) is tt) (over_is (Eco l) is tt)
        eco_obeyed state there Settled e = absurd (let no : true ≡ false = sym (ap has_phase_settled e) ∙ going_at (Eco l) is tt state there in cc)

      cba_obeyed : (l code : ℕ) → order_of p.near.settings.profile body ≡ Some (Cba l code) → (c : Code)
          → code_of code mid.routing ≡ c → Obeys emergencies k body mid p.far (acknowledged_back code c mid).state
      cba_obeyed l code is Free e = keeps mid refl refl refl (record {
        none_declared = λ m d f. let no : Some (Cba l code) ≡ Some (Cbd m d) = sym is ∙ f in absurd cc;
        none_in_use = λ m d f. let same : Some (Cba l code) ≡ Some (Cba m d) = sym is
            ∙ f in let one : code ≡ d = cc in subst (λ (n : ℕ). code_of n mid.routing ≡ Free) one e;
      })
      cba_obeyed l code is (Asked via declaration owed) e = releases l code is
      cba_obeyed l code is (Spent owed) e = releases l code is

      order_is_obeyed : (order : Order) → order_of p.near.settings.profile body ≡ Some order → Obeys emergencies k body mid p.far (order_obeyed order mid).state
      order_is_obeyed (Coo l fsn) is = go (slice_get mid.links l) refl
        where
          go : (there : Option LinkState) → slice_get mid.links l ≡ there
              → Obeys emergencies k body mid p.far
              (at_link l mid (λ state. changed_over (Upto fsn) l state state.phase mid) there).state
          go None e = keeps mid refl refl refl (no_back (Coo l fsn) is tt)
          go (Some state) e = coo_obeyed l fsn is state e state.phase refl
      order_is_obeyed (Coa l fsn) is = go (slice_get mid.links l) refl
        where
          go : (there : Option LinkState) → slice_get mid.links l ≡ there
              → Obeys emergencies k body mid p.far
              (at_link l mid (λ state. answered (Upto fsn) l state state.phase mid) there).state
          go None e = keeps mid refl refl refl (no_back (Coa l fsn) is tt)
          go (Some state) e = coa_obeyed l fsn is state e state.phase refl
      order_is_obeyed (Cbd l code) is = acknowledges l code is
      order_is_obeyed (Cba l code) is = cba_obeyed l code is (code_of code mid.routing) refl
      order_is_obeyed (Eco l) is = go (slice_get mid.links l) refl
        where
          go : (there : Option LinkState) → slice_get mid.links l ≡ there
              → Obeys emergencies k body mid p.far
              (at_link l mid (λ state. changed_over Unknown l state state.phase mid) there).state
          go None e = keeps mid refl refl refl (no_back (Eco l) is tt)
          go (Some state) e = eco_obeyed l is state e state.phase refl
      order_is_obeyed (Eca l) is = absurd (tells (Eca l) is tt)

      pub some_obeyed : Obeys emergencies k body mid p.far taken.state
      some_obeyed = rw e (go (service_indicator body == 0) refl)
        where
          obeyed_so : (order : Option Order) → order_of p.near.settings.profile body ≡ order → Obeys emergencies k body mid p.far (obeyed order mid).state
          obeyed_so None g = keeps mid refl refl refl (no_order g)
          obeyed_so (Some order) g = order_is_obeyed order g

          go : (b : Bool) → (service_indicator body == 0) ≡ b → Obeys emergencies k body mid p.far (takes (Some body) mid).state
          go true g = rw g (obeyed_so (order_of p.near.settings.profile body) refl)
          go false g = rw g (keeps _ refl refl refl (no_order (plain_in p.near.settings.profile body g)))

    -- the body that it accepts, or none
    abbrev pub body_of : Option (List ℕ) → List ℕ
    body_of None = []
    body_of (Some body) = body

    abbrev pub heard_body : List ℕ
    heard_body = body_of (brought part.accept unit)

    -- EITHER WAY
    pub record Hears : Type 0 where
      pub both : Both emergencies mid p.far
      pub obeys : Obeys emergencies k heard_body mid p.far taken.state

    none_told : TellsNoBack [] mid
    none_told = record { none_declared = λ l code e. absurd cc; none_in_use = λ l code e. absurd cc }

    pub hears : Hears
    hears = go (brought part.accept unit) refl
      where
        go : (body : Option (List ℕ)) → brought part.accept unit ≡ body → Hears
        go None e = record {
          both = none_both e;
          obeys = subst (λ (b : Option (List ℕ)). Obeys emergencies k (body_of b) mid p.far taken.state) (sym e)
              (subst (Obeys emergencies k [] mid p.far) (sym (none_taken e)) (keeps mid refl refl refl none_told));
        }
        go (Some body) e = record {
          both = some_both body e;
          obeys = subst (λ (b : Option (List ℕ)). Obeys emergencies k (body_of b) mid p.far taken.state) (sym e)
              (some_obeyed body e);
        }
