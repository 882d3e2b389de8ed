-- A UNIT IS HEARD, or a link comes up: what holds of both ends is kept, and a link that settles diverts exactly the
-- rest (`hears_did`, `rises_did`); and an order tells the FSN of the last message that its end accepted
-- (`hears_tells`). A unit is taken in two parts, what it acknowledges on its own link and what its body leads to
-- (Hearing.antt, Obeying.antt). A link that settles by the second is another one: what was pending on it begins with
-- what was sent there and not accepted (`reaches`), and it stands as if it had been left before the unit came
-- (Alike.antt), as `Diverts` says it. These are cases of one step; Runs.antt has the induction over the steps.
use Rattle.l2_window.specs.Window.{fsn_count, fsn_before_first}
use Rattle.std.proofs.Common.{slice_set, refl, arith, ◌≡◌, ◌∙◌, ap, sym, subst, ℕ, zero, suc, ◌<◌, ◌==◌, ◌+◌, ◌-◌, ◌%◌, Bool, true, false, List, [], ◌∷◌, ◌++◌, All, length, take, drop, slice_get, Option, Some, None, append_assoc}
use Rattle.std.proofs.lemmas.Bool.{eqb-true}
use Rattle.l2_units.specs.declared.unit.Unit.{Unit as SignalUnit}
use Rattle.l3_orders.specs.declared.order.Order.{Order}
use Rattle.l3_orders.specs.declared.order.Order.TheVariants.{Coo, Coa, Cbd, Cba, Eco, Eca}
use Rattle.l3_orders.specs.Grammar.{order_of, link_of}
use Rattle.pair_steps.specs.Lines.{units_on}
use Rattle.set_events.specs.declared.answer.Fate.{Fate}
use Rattle.set_events.specs.declared.answer.Fate.TheVariants.{Waiting, Unacked, Acked, Held, Parked, Back, Discarded}
use Rattle.set_events.specs.declared.answer.Took.{Took}
use Rattle.set_events.specs.declared.answer.Took.TheVariants.{Nothing as NothingTaken, Message as TookMessage, Order as TookOrder, Ignored}
use Rattle.set_events.specs.declared.config.Method.{Method}
use Rattle.set_events.specs.declared.event.Event.TheVariants.{Heard as HeardEvent, Up as UpEvent}
use Rattle.set_model.specs.declared.phase.Phase.{Phase}
use Rattle.set_model.specs.declared.phase.Phase.TheVariants.{Up, Settled}
use Rattle.set_model.specs.Rows.{Row, was_discarded, stands_back, is_waiting, is_held, standing, unack, wait, held, parked, place, is_unacked, is_parked, all_with}
use Rattle.set_model.specs.Sound.{IsSound}
use Rattle.set_model.specs.State.{late_at, LinkState, State, is_up, is_settled, link_is_up, link_is_settled, has_phase_up, has_phase_settled, target}
use Rattle.set_model.specs.Step.{opened_link, with_known, Outcome, brought, risen_link, rises, step}
use Rattle.set_model.proofs.Events.{Untouched, acknowledged, unparked}
use Rattle.set_model.proofs.Rows.{turned_same, moved_same}
use Rattle.set_model.proofs.Walk.{link_count_stays, IsAt}
use Rattle.set_model.proofs.Lists.{set_twice, get_set_same, get_set_other, present, within}
use Rattle.set_model.proofs.Places.{false_true, itself, back_not_on, back_not_parked, not_on_unacked, not_on_waiting, not_on_held}
use Rattle.set_model.proofs.Settling.{settled_empty}
use Rattle.pair_model.specs.Promises.{IsOneMethod}
use Rattle.pair_model.specs.Run.{Message, Past, messages, past_risen}
use Rattle.pair_model.proofs.Kept.{kept_on}
use Rattle.pair_model.proofs.Moving as moving
use Rattle.pair_model.proofs.Pairs.{Two, HoldsOf, settings_stay}
use Rattle.pair_model.proofs.Rising.{settled_at}
use Rattle.pair_changeover.specs.Diverted.{Diverts, DivertsFrom, IsFsnIn, IsToldBy, FrontTells, as_left, answer_on, ahead_of_users, queue_for}
use Rattle.pair_changeover.proofs.Alike.{left_unack, left_acked, left_alike}
use Rattle.pair_changeover.proofs.Acked.{AckedFirst, acked_first, rises_first}
use Rattle.pair_changeover.proofs.Changes.{by_link, other_then}
use Rattle.pair_changeover.proofs.Hearing as hearing
use Rattle.pair_changeover.proofs.Obeying.{Moved, sent_not_discarded, obeys_equal, obeys_discards, obeys_moves, obeys_accepted, told_reasonable}
use Rattle.pair_changeover.proofs.Ordered.{rises_both}
use Rattle.pair_changeover.proofs.Ordered as orders
use Rattle.pair_changeover.proofs.Passing.{Rises}
use Rattle.pair_changeover.proofs.Reaching.{Reaches, reaches}
use Rattle.pair_changeover.proofs.Table.{joined, drop_none, drop_twice, queue_rises}
use Rattle.pair_changeover.proofs.Texts.{AreCodes}
use Rattle.pair_changeover.proofs.Views.{View, view, IsChangeover, Tells, queue, pending, acked_of, acked_on, accepted_of, accepted_on}
use Rattle.pair_changeover.proofs.Whole.{Half, Whole, ordered, SettlesSo, Did, none_settles}

-- what was pending, as the promise says it
messages_dropped : (n : ℕ) (rows : List Row) → messages (drop n rows) ≡ drop n (messages rows)
messages_dropped zero rows = refl
messages_dropped (suc n) [] = refl
messages_dropped (suc n) (row ∷ rows) = messages_dropped n rows

told_apart : (q d w h : List Message) → q ++ (d ++ w ++ h) ≡ q ++ d ++ w ++ h
told_apart q d w h = sym (append_assoc q (d ++ w) h) ∙ ap (λ (x : List Message). x ++ h) (sym (append_assoc q d w))

queue_parts : (count l : ℕ) (rows : List Row) → queue count l rows ≡ drop count (messages (unack l rows)) ++ messages (wait l rows) ++ messages (held l rows)
queue_parts count l rows =
    joined (drop count (unack l rows) ++ wait l rows) (held l rows)
    ∙ ap (λ (x : List Message). x ++ messages (held l rows))
    (joined (drop count (unack l rows)) (wait l rows)
    ∙ ap (λ (x : List Message). x ++ messages (wait l rows)) (messages_dropped count (unack l rows)))

module _ (mx my : Method) (one : IsOneMethod mx my) (p : Two) (h : HoldsOf mx my p) (w : Whole p) (k : ℕ)
    (few : k < length p.near.links) (unit : SignalUnit) (rest : List SignalUnit)
    (front : units_on k p.back ≡ unit ∷ rest) (link : LinkState) (at : IsAt k link Up p.near) where
  abbrev mid : State
  mid = hearing.mid mx my one p h w.both k few unit rest front link at

  abbrev then_near : State
  then_near = (step p.near (HeardEvent k unit)).state

  abbrev pub heard : Two
  heard = orders.heard mx my one p h (ordered p w) k few unit rest front link at

  state_is : then_near ≡ (hearing.taken mx my one p h w.both k few unit rest front link at).state
  state_is = orders.state_is mx my one p h (ordered p w) k few unit rest front link at

  does : hearing.Hears mx my one p h w.both k few unit rest front link at
  does = orders.does mx my one p h (ordered p w) k few unit rest front link at

  acks : Rattle.set_model.proofs.Events.Acknowledged k (hearing.part mx my one p h w.both k few unit rest front link at).acked p.near.rows mid.rows
  acks = acknowledged k (hearing.part mx my one p h w.both k few unit rest front link at).acked p.near.rows

  mid_sound : IsSound mid
  mid_sound = orders.mid_sound mx my one p h (ordered p w) k few unit rest front link at

  abbrev body : List ℕ
  body = orders.body mx my one p h (ordered p w) k few unit rest front link at

  mid_all : (P : ℕ → Option LinkState → Option LinkState → Type 0)
      → P k (Some link) (Some (hearing.mid_link mx my one p h w.both k few unit rest front link at))
      → ((l : ℕ) (o : Option LinkState) → (k == l) ≡ false → P l o o) → (l : ℕ)
      → P l (slice_get p.near.links l) (slice_get mid.links l)
  mid_all = by_link k link (hearing.mid_link mx my one p h w.both k few unit rest front link at) p.near mid at.there refl

  mid_settled : (l : ℕ) → is_settled l mid ≡ is_settled l p.near
  mid_settled = mid_all (λ l old new. link_is_settled new ≡ link_is_settled old) refl (λ l o d. refl)

  mid_equal : (l : ℕ) → is_settled l mid ≡ true → acked_on l mid ≡ accepted_on l p.far
  mid_equal l = mid_all (λ n old new. (link_is_settled old ≡ true → acked_of old ≡ accepted_on n p.far)
      → link_is_settled new ≡ true → acked_of new ≡ accepted_on n p.far)
      (λ before e. absurd (let no : false ≡ true = sym (ap has_phase_settled at.phase_is) ∙ e in cc)) (λ n o d before. before) l (w.near.equal l)

  mid_discards : standing was_discarded mid.rows ≡ standing was_discarded p.near.rows
  mid_discards = turned_same (is_unacked k) was_discarded (Acked k) refl (λ fate e. sent_not_discarded k fate e)
      (hearing.part mx my one p h w.both k few unit rest front link at).acked p.near.rows

  equal_then : (l : ℕ) → is_settled l then_near ≡ true → acked_on l then_near ≡ accepted_on l p.far
  equal_then = subst (λ (s : State). (l : ℕ) → is_settled l s ≡ true → acked_on l s ≡ accepted_on l p.far)
      (sym state_is) (obeys_equal k body mid p.far mid_sound w.near.codes mid_equal _ does.obeys)

  discards_then : standing was_discarded then_near.rows ≡ []
  discards_then = ap (λ (s : State). standing was_discarded s.rows) state_is
      ∙ obeys_discards k body mid p.far mid_sound w.near.codes _ does.obeys ∙ mid_discards ∙ w.near.none_discarded

  first_then : (l : ℕ) → AckedFirst l (p.near_past.sent l) then_near
  first_then l = acked_first l p.near (HeardEvent k unit) (p.near_past.sent l) h.near_sound (w.near.acked l)

  mid_accepted : (l : ℕ) → is_up l p.near ≡ false → accepted_on l mid ≡ accepted_on l p.near
  mid_accepted = mid_all (λ l old new. link_is_up old ≡ false → accepted_of new ≡ accepted_of old)
      (λ e. absurd (let no : true ≡ false = sym (ap has_phase_up at.phase_is) ∙ e in cc)) (λ l o d e. refl)

  -- the far end of a link that settled there counts as before, since this end isn't up on it
  far_equal : (l : ℕ) → is_settled l p.far ≡ true → acked_on l p.far ≡ accepted_on l then_near
  far_equal l e =
      let same : accepted_on l then_near ≡ accepted_on l mid = ap (accepted_on l) state_is
      ∙ obeys_accepted k body mid p.far mid_sound w.near.codes does.both _ does.obeys l in
      w.far.equal l e ∙ sym (same ∙ mid_accepted l (w.both.far.apart l e))

  -- WHAT SETTLES
  module _ (l : ℕ) (before : is_settled l p.near ≡ false) (now : is_settled l then_near ≡ true) where
    moved_so : Moved k l mid p.far (hearing.taken mx my one p h w.both k few unit rest front link at).state
    moved_so = obeys_moves k body mid p.far mid_sound w.near.codes _ does.obeys l (mid_settled l ∙ before) (ap (is_settled l) (sym state_is) ∙ now)

    same_link : slice_get mid.links l ≡ slice_get p.near.links l
    same_link = other_then k link (hearing.mid_link mx my one p h w.both k few unit rest front link at) p.near mid at.there refl l moved_so.other

    untouched : Untouched l p.near.rows mid.rows
    untouched = acks.others l moved_so.other

    -- the link there, at both ends
    link_there : (state : LinkState) × (slice_get p.near.links l ≡ Some state)
    link_there =
        let after = settled_at l then_near now in
        let count = link_count_stays p.near (HeardEvent k unit) in
        present p.near.links l (omega (arith, within then_near.links l after.0 after.1.there, count))

    far_there : (other : LinkState) × (slice_get p.far.links l ≡ Some other)
    far_there = present p.far.links l (omega (arith, within p.near.links l link_there.0 link_there.1, h.far_links))

    counted : accepted_on l p.far ≡ length (p.far_past.taken l)
    counted = ap accepted_of far_there.1 ∙ (kept_on mx my one p h l).accepted far_there.0 far_there.1

    reach : Reaches l link_there.0 p.near p.far (p.near_past.sent l)
    reach = reaches l p.near_past p.far_past p.near p.far (kept_on mx my one p h l) link_there.0 link_there.1
        (ap link_is_settled (sym link_there.1) ∙ before) far_there.0 far_there.1

    -- as it's left
    abbrev state : LinkState
    state = link_there.0

    abbrev left : State
    left = as_left l (Some state) p.near

    abbrev left_mid : State
    left_mid = as_left l (Some state) mid

    there_mid : slice_get mid.links l ≡ Some state
    there_mid = same_link ∙ link_there.1

    alike : (other : Fate → Bool) → ((f : Fate) → stands_back f ≡ true → other f ≡ false)
        → standing other mid.rows ≡ standing other p.near.rows → standing other left_mid.rows ≡ standing other left.rows
    alike = left_alike k l (hearing.part mx my one p h w.both k few unit rest front link at).acked link
        (hearing.mid_link mx my one p h w.both k few unit rest front link at) state p.near mid moved_so.other at.there
        refl refl refl refl link_there.1

    same_queue : (to : Option ℕ) → messages (queue_for to left_mid.rows) ≡ messages (queue_for to left.rows)
    same_queue None = ap messages (alike is_parked back_not_parked acks.parked_same)
    same_queue (Some to) = ap messages (alike (is_waiting to) (λ f e. not_on_waiting to f (back_not_on to f e)) (go (k == to) refl))
      where
        go : (b : Bool) → (k == to) ≡ b → wait to mid.rows ≡ wait to p.near.rows
        go true e = subst (λ (n : ℕ). wait n mid.rows ≡ wait n p.near.rows) (eqb-true k to e) acks.wait_same
        go false e = (acks.others to e).wait_same

    same_answer : answer_on l (slice_get mid.links l) mid ≡ answer_on l (slice_get p.near.links l) p.near
    same_answer = ap (λ (o : Option LinkState). answer_on l o mid) there_mid ∙ rw (acks.kept.count) refl
        ∙ ap (λ (o : Option LinkState). answer_on l o p.near) (sym link_there.1)

    queue_alike : (count : ℕ) → queue count l left_mid.rows ≡ queue count l left.rows
    queue_alike count = rw (
      alike (is_unacked l) (λ f e. not_on_unacked l f (back_not_on l f e)) untouched.unack_same,
      alike (is_waiting l) (λ f e. not_on_waiting l f (back_not_on l f e)) untouched.wait_same,
      alike (is_held l) (λ f e. not_on_held l f (back_not_on l f e)) untouched.held_same,
    ) refl

    abbrev rest_then : List Message
    rest_then = drop (length (p.far_past.taken l)) (p.near_past.sent l) ++ messages (wait l left.rows) ++ messages (held l left.rows)

    rest_is : pending l left_mid p.far ≡ rest_then
    rest_is =
        let a = state.acked in
        let t = accepted_on l p.far in
        let many : a + (t - a) ≡ length (p.far_past.taken l) = omega (arith, reach.due, counted) in
        ap (λ (n : ℕ). queue (t - n) l left_mid.rows) (left_acked l state mid there_mid)
        ∙ queue_alike (t - a)
        ∙ queue_parts (t - a) l left.rows
        ∙ ap (λ (u : List Row). drop (t - a) (messages u) ++ messages (wait l left.rows) ++ messages (held l left.rows)) (left_unack l state p.near)
        ∙ ap (λ (x : List Message). drop (t - a) x ++ messages (wait l left.rows) ++ messages (held l left.rows)) reach.unacked
        ∙ ap (λ (x : List Message). x ++ messages (wait l left.rows) ++ messages (held l left.rows))
        (drop_twice (t - a) a (p.near_past.sent l) ∙ ap (λ (n : ℕ). drop n (p.near_past.sent l)) many)

    abbrev moved_state : State
    moved_state = (hearing.taken mx my one p h w.both k few unit rest front link at).state

    -- as the move tells it, of the link that is left there
    moved_there : (to : Option ℕ) (new : List Message)
        → new ≡ ahead_of_users (answer_on l (slice_get mid.links l) mid)
        (messages (queue_for to (as_left l (slice_get mid.links l) mid).rows))
        ++ pending l (as_left l (slice_get mid.links l) mid) p.far
        → new ≡ ahead_of_users (answer_on l (slice_get mid.links l) mid) (messages (queue_for to left_mid.rows)) ++ pending l left_mid p.far
    moved_there to new e = subst (λ (o : Option LinkState). new
        ≡ ahead_of_users (answer_on l (slice_get mid.links l) mid) (messages (queue_for to (as_left l o mid).rows))
        ++ pending l (as_left l o mid) p.far) there_mid e

    moved_from : (to : Option ℕ) (new : List Message)
        → new ≡ ahead_of_users (answer_on l (slice_get mid.links l) mid) (messages (queue_for to left_mid.rows))
        ++ pending l left_mid p.far
        → new ≡ ahead_of_users (answer_on l (slice_get p.near.links l) p.near) (messages (queue_for to left.rows))
        ++ drop (length (p.far_past.taken l)) (p.near_past.sent l) ++ messages (wait l left.rows)
        ++ messages (held l left.rows)
    moved_from to new e =
        e
        ∙ ap (λ (x : List Message). ahead_of_users (answer_on l (slice_get mid.links l) mid) x ++ pending l left_mid p.far) (same_queue to)
        ∙ ap (λ (x : List Message). ahead_of_users x (messages (queue_for to left.rows)) ++ pending l left_mid p.far) same_answer
        ∙ ap (λ (x : List Message). ahead_of_users (answer_on l (slice_get p.near.links l) p.near) (messages (queue_for to left.rows)) ++ x) rest_is
        ∙ told_apart (ahead_of_users (answer_on l (slice_get p.near.links l) p.near) (messages (queue_for to left.rows)))
        (drop (length (p.far_past.taken l)) (p.near_past.sent l)) (messages (wait l left.rows))
        (messages (held l left.rows))

    diverts_from : DivertsFrom l (p.near_past.sent l) (p.far_past.taken l) p.near left then_near
    diverts_from = record {
      acked = subst (λ (n : ℕ). All (λ message. place message.number then_near.rows ≡ Some (Acked l))
          (take n (p.near_past.sent l))) (equal_then l now ∙ counted) (first_then l).first;
      moved = rw state_is (moved_from (target moved_state.links) _ (moved_there (target moved_state.links) _ moved_so.moved));
    }

    diverts : Diverts l (p.near_past.sent l) (p.far_past.taken l) p.near then_near
    diverts = subst (λ (o : Option LinkState). DivertsFrom l (p.near_past.sent l) (p.far_past.taken l) p.near
        (as_left l o p.near) then_near) (sym link_there.1) diverts_from

  pub hears_did : Did p heard
  hears_did = record {
    whole = record {
      both = (orders.heard_ordered mx my one p h (ordered p w) k few unit rest front link at).both;
      near = record {
        equal = equal_then;
        acked = first_then;
        none_discarded = discards_then;
        codes = (orders.heard_ordered mx my one p h (ordered p w) k few unit rest front link at).near_codes;
      };
      far = record { equal = far_equal; acked = w.far.acked; none_discarded = w.far.none_discarded; codes = w.far.codes };
    };
    near = λ l before now. diverts l before now;
    far = none_settles p.far_past p.near_past p.far p.far (λ l. refl);
  }

  -- WHAT AN ORDER TELLS
  any_tells : (took : Took) → IsToldBy unit p.near p.far_past → FrontTells (unit ∷ rest) took p.near p.far_past
  any_tells NothingTaken t = tt
  any_tells TookMessage t = tt
  any_tells TookOrder t = t
  any_tells Ignored t = tt

  number_is : (fsn : ℕ) (order : Order) (v : View) → IsFsnIn fsn order → Tells false v order → fsn ≡ v.accepted (link_of order)
  number_is fsn (Coo l n) v e t = e ∙ t
  number_is fsn (Coa l n) v e t = e ∙ t
  number_is fsn (Cbd l n) v e t = absurd t
  number_is fsn (Cba l n) v e t = absurd t
  number_is fsn (Eco l) v e t = absurd e
  number_is fsn (Eca l) v e t = absurd t

  is_over : (fsn : ℕ) (order : Order) → IsFsnIn fsn order → IsChangeover order
  is_over fsn (Coo l n) e = tt
  is_over fsn (Coa l n) e = tt
  is_over fsn (Cbd l n) e = absurd e
  is_over fsn (Cba l n) e = absurd e
  is_over fsn (Eco l) e = absurd e
  is_over fsn (Eca l) e = absurd e

  some_tells : (body : List ℕ) → brought (hearing.part mx my one p h w.both k few unit rest front link at).accept unit
      ≡ Some body → IsToldBy unit p.near p.far_past
  some_tells body e order fsn state is fsn_in there going =
      let is_order : order_of p.near.settings.profile body ≡ Some order =
      ap (order_of p.near.settings.profile)
      (sym (hearing.is_body mx my one p h w.both k few unit rest front link at body e)) ∙ is in
      let fsn_is = number_is fsn order (view p.far p.near) fsn_in
      (hearing.tells mx my one p h w.both k few unit rest front link at body e order is_order
      (is_over fsn order fsn_in)) in
      let t = hearing.told_before mx my one p h w.both k few unit rest front link at body e order is_order
      (is_over fsn order fsn_in) fsn fsn_is state there going in
      let other = present p.far.links (link_of order) (omega (arith, within p.near.links (link_of order) state there, h.far_links)) in
      let counted : accepted_on (link_of order) p.far ≡ length (p.far_past.taken (link_of order)) =
      ap accepted_of other.1 ∙ (kept_on mx my one p h (link_of order)).accepted other.0 other.1 in
      record {
        last = t.last ∙ ap (λ (n : ℕ). (n + fsn_before_first state.profile) % fsn_count state.profile) counted;
        reasonable = told_reasonable fsn (link_of order) state p.near p.far ((h.near_sound.links (link_of order) state there).window) t;
      }

  pub hears_tells : FrontTells (unit ∷ rest) (moving.report mx my one p h k few unit rest front link at).took p.near p.far_past
  hears_tells = go (brought (hearing.part mx my one p h w.both k few unit rest front link at).accept unit) refl
    where
      go : (body : Option (List ℕ)) → brought (hearing.part mx my one p h w.both k few unit rest front link at).accept
          unit ≡ body → FrontTells (unit ∷ rest) (moving.report mx my one p h k few unit rest front link at).took p.near
          p.far_past
      go None e = rw e tt
      go (Some body) e = any_tells (moving.report mx my one p h k few unit rest front link at).took (some_tells body e)

-- A LINK COMES UP
module _ (k : ℕ) (s : State) (sound : IsSound s) (link : LinkState) (at : IsAt k link Settled s) where
  rises_is : step s (UpEvent k) ≡ rises k s Settled
  unfolding step
  rises_is = ap (λ (o : Option LinkState). with_known o s (λ l. rises k s l.phase)) at.there ∙ ap (λ (p : Phase). rises k s p) at.phase_is

  abbrev risen : State
  risen = (rises k s Settled).state

  abbrev new : LinkState
  new = opened_link (risen_link s.settings.profile s.settings.method (late_at k s))

  risen_links : risen.links ≡ slice_set s.links k new
  risen_links = set_twice s.links k (risen_link s.settings.profile s.settings.method (late_at k s)) new

  risen_there : slice_get risen.links k ≡ Some new
  risen_there = ap (λ (ls : List LinkState). slice_get ls k) risen_links ∙ get_set_same s.links k new (within s.links k link at.there)

  rises_so : Rises k s risen
  rises_so =
      let u = unparked k s.rows in
      let none = settled_empty s k link sound at.there at.phase_is in
      record {
        settled_was = ap link_is_settled at.there ∙ ap has_phase_settled at.phase_is;
        up_then = ap link_is_up risen_there;
        accepted_then = ap accepted_of risen_there;
        unsettled_then = ap link_is_settled risen_there;
        own = λ count. let empty : queue count k s.rows ≡ [] =
            rw (none.unack_none, none.wait_none, none.held_none, drop_none {X = Row} count) refl in queue_rises count k
            s.rows none.held_none ∙ ap (λ (x : List Message). x ++ messages (parked s.rows)) empty;
        others = u.others;
        none_aside = u.parked_none;
        links = λ l d. ap (λ (ls : List LinkState). slice_get ls l) risen_links ∙ get_set_other s.links k l new (λ same. false_true (k == l) d (rw same (itself l)));
      }

  pub rises_at : Rises k s (step s (UpEvent k)).state
  rises_at = subst (λ (o : Outcome). Rises k s o.state) (sym rises_is) rises_so

  parked_not_discarded : (fate : Fate) → is_parked fate ≡ true → was_discarded fate ≡ false
  parked_not_discarded (Waiting n) e = refl
  parked_not_discarded (Unacked n) e = refl
  parked_not_discarded (Acked n) e = refl
  parked_not_discarded (Held n) e = refl
  parked_not_discarded Parked e = refl
  parked_not_discarded (Back code) e = refl
  parked_not_discarded (Discarded cause) e = absurd cc

  pub rises_discards : standing was_discarded (step s (UpEvent k)).state.rows ≡ standing was_discarded s.rows
  rises_discards = ap (λ (o : Outcome). standing was_discarded o.state.rows) rises_is
      ∙ moved_same is_parked was_discarded (all_with (Waiting k)) s.rows (λ row. refl)
      (λ fate e. parked_not_discarded fate e)

-- at one end, while it does at the other
half_rises : (k : ℕ) (s t f g : State) (past : Past) → IsSound s → t ≡ (step s (UpEvent k)).state → Rises k s t
    → Rises k f g → Half s f past → Half t g (past_risen k past)
half_rises k s t f g past sound is a b w = record {
  equal = λ l e. go l e (k == l) refl;
  acked = λ l. rw is (rises_first l k s past sound a.settled_was (w.acked l));
  none_discarded = rw is (let at = settled_at k s a.settled_was in rises_discards k s sound at.0 at.1 ∙ w.none_discarded);
  codes = rw is (subst AreCodes (sym (settings_stay s (UpEvent k))) w.codes);
}
  where
    go : (l : ℕ) → is_settled l t ≡ true → (c : Bool) → (k == l) ≡ c → acked_on l t ≡ accepted_on l g
    go l e true d = absurd (let here : is_settled k t ≡ true =
        subst (λ (n : ℕ). is_settled n t ≡ true) (sym (eqb-true k l d)) e in let no : false ≡ true =
        sym a.unsettled_then ∙ here in cc)
    go l e false d = ap acked_of (a.links l d) ∙ w.equal l (ap link_is_settled (sym (a.links l d)) ∙ e) ∙ sym (ap accepted_of (b.links l d))

settles_none : (k : ℕ) (s t : State) (near far : Past) → Rises k s t → SettlesSo near far s t
settles_none k s t near far a l e now = go (k == l) refl
  where
    go : (c : Bool) → (k == l) ≡ c → Diverts l (near.sent l) (far.taken l) s t
    go true d = absurd (let here : is_settled k t ≡ true =
        subst (λ (n : ℕ). is_settled n t ≡ true) (sym (eqb-true k l d)) now in let no : false ≡ true =
        sym a.unsettled_then ∙ here in cc)
    go false d = absurd (let no : false ≡ true = sym e ∙ ap link_is_settled (sym (a.links l d)) ∙ now in cc)

module _ (mx my : Method) (p : Two) (h : HoldsOf mx my p) (w : Whole p) (k : ℕ) (few : k < length p.near.links)
    (near_settled : is_settled k p.near ≡ true) (far_settled : is_settled k p.far ≡ true) where
  pub rises_did : Did p (moving.risen mx my p h k few near_settled far_settled)
  rises_did =
      let near_at = settled_at k p.near near_settled in
      let far_at = settled_at k p.far far_settled in
      let a = rises_at k p.near h.near_sound near_at.0 near_at.1 in
      let b = rises_at k p.far h.far_sound far_at.0 far_at.1 in
      record {
        whole = record {
          both = rises_both k p.near (step p.near (UpEvent k)).state p.far (step p.far (UpEvent k)).state a b w.both;
          near = half_rises k p.near (step p.near (UpEvent k)).state p.far (step p.far (UpEvent k)).state p.near_past h.near_sound refl a b w.near;
          far = half_rises k p.far (step p.far (UpEvent k)).state p.near (step p.near (UpEvent k)).state p.far_past h.far_sound refl b a w.far;
        };
        near = settles_none k p.near (step p.near (UpEvent k)).state p.near_past p.far_past a;
        far = settles_none k p.far (step p.far (UpEvent k)).state p.far_past p.near_past b;
      }
