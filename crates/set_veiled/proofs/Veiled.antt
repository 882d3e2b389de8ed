-- EACH STEP DOES THE SAME under a veil: change by change. What asks for a link asks whether it's up, which a settled one isn't
-- and a left one isn't; and the target is among those that are up.
use Rattle.std.proofs.Common.{refl, arith, ◌≡◌, ◌≢◌, ◌∙◌, ap, sym, subst, ℕ, zero, suc, ◌==◌, ◌<◌, ◌+◌, Bool, true, false, not, ◌&&◌, ◌||◌, List, [], ◌∷◌, ◌++◌, length, map, slice_get, slice_set, Option, Some, None, is_some, cond}
use Rattle.std.proofs.lemmas.Bool.{eqb-true}
use Rattle.std.proofs.lemmas.Bool.Decides.{nat_tests}
use Rattle.l2_units.specs.declared.unit.Unit.{Unit as SignalUnit}
use Rattle.l2_units.specs.declared.unit.Unit.TheVariants.{Fisu, Lssu, Msu}
use Rattle.l2_units.specs.Grammar.{head_of as header_in}
use Rattle.l3_orders.specs.declared.order.Order.{Order}
use Rattle.l3_orders.specs.declared.order.Order.TheVariants.{Coo, Coa, Cbd, Cba, Eco, Eca}
use Rattle.l3_orders.specs.Grammar.{text, order_of}
use Rattle.set_events.specs.declared.answer.Fate.{Fate}
use Rattle.set_events.specs.declared.answer.Refusal.{Refusal as SetRefusal}
use Rattle.set_events.specs.declared.answer.Took.{Took}
use Rattle.set_events.specs.declared.event.Event.{Event}
use Rattle.set_events.specs.declared.event.Event.TheVariants.{Offer, Take, Find, Next, Heard, Up as UpEvent, Down as DownEvent, DownBlind, NoAnswer, Timed, Restore, Redeclare, BackTimeout, Test}
use Rattle.set_route.specs.Routing.{place_of, code_for, code_of, home_of, can_ask, asked_again}
use Rattle.set_route.specs.declared.place.Place.{Place}
use Rattle.set_route.specs.declared.place.Place.TheVariants.{On, Changing, Nowhere}
use Rattle.set_route.specs.declared.place.Code.{Code}
use Rattle.set_route.specs.declared.place.Code.TheVariants.{Free, Asked, Spent}
use Rattle.set_route.specs.Target.{target_of}
use Rattle.set_events.specs.Places.{fate_on}
use Rattle.set_model.specs.declared.phase.Phase.{Phase}
use Rattle.set_model.specs.declared.phase.Phase.TheVariants.{Up, Down, Settled}
use Rattle.set_model.specs.declared.reached.Reached.{Reached}
use Rattle.set_model.specs.declared.reached.Reached.TheVariants.{Upto, Unknown, Unanswered, Unasked}
use Rattle.set_model.specs.Control.{Choice, HeardPart}
use Rattle.set_model.specs.Rows.{Fate, Waiting, Unacked, Acked, Held, Back, Parked, Discarded, Row, service_indicator, with_fate, fated, standing, moved, appended, put_ahead, all_with, is_on, is_back_to, place, stream_of, wait}
use Rattle.set_model.specs.State.{late_at, late_in, LinkState, State, given, with_link, has_phase_up, has_phase_settled, link_is_up, link_is_settled, is_open, is_up, link_is_open, open_link, is_settled, fate_at, target, link_count}
use Rattle.set_model.specs.Changeover.{queued, out_of_service, turned_back, left_by, left_link, leaving_order, overtakes, is_overtaken, leading, withdrawn, cleared, reached_by, is_reasonable, discarded, acknowledged_by, judged, judged_link, taken_back, is_told, moved_over, settled_link, settled, declared, can_declare, declared_if, declared_from, some_declare, overdue_via, redeclared_on, redeclared_from, some_overdue, released, released_from, some_in_use, Obeyed, ignored, reply_of, answered_link, changed_over, answered, at_link, obeyed_at, acknowledged_back, order_obeyed, obeyed}
use Rattle.set_model.specs.Step.{Outcome, refused, offer_refusal, offered, taken, found, with_known, on_link, in_service, next, heard, controls, part_in, brought, takes, controlled, is_heard, opened, opened_link, restores, rises, risen_link, falls, gives_up, over_by_time, timed, times_out, comes_back, redeclares, runs_out, step}
use Rattle.set_model.proofs.Lists.{found_shut, not_open, get_set_same, get_set_other, within, length_set, map_set_same, present}
use Rattle.set_model.proofs.Places.{false_true, itself}
use Rattle.set_veiled.specs.Veil.{veil, IsOfOther, IsNoOrderOf, IsElsewhere, IsAlike, VeilsKeepSteps}

-- LISTS.
swap : {X : Type 0} (xs : List X) (n m : ℕ) (x y : X) → (n == m) ≡ false → slice_set (slice_set xs m y) n x ≡ slice_set (slice_set xs n x) m y
swap [] n m x y d = refl
swap (z ∷ xs) zero zero x y d = absurd cc
swap (z ∷ xs) zero (suc m) x y d = refl
swap (z ∷ xs) (suc n) zero x y d = refl
swap (z ∷ xs) (suc n) (suc m) x y d = let e : (n == m) ≡ false = grind (arith, nat_tests, d) in ap (λ (ys : List _). z ∷ ys) (swap xs n m x y e)

map_same : (f g : Row → Row) → ((row : Row) → f row ≡ g row) → (rows : List Row) → map f rows ≡ map g rows
map_same f g e [] = refl
map_same f g e (row ∷ rows) = ap (λ (r : Row). r ∷ map f rows) (e row) ∙ ap (λ (rs : List Row). g row ∷ rs) (map_same f g e rows)

moved_same : (test : Fate → Bool) (f g : Row → Fate) → ((row : Row) → f row ≡ g row) → (rows : List Row) → moved test f rows ≡ moved test g rows
moved_same test f g e rows =
    ap (λ (rs : List Row). standing (λ fate. not (test fate)) rows ++ rs)
    (map_same (fated f) (fated g) (λ row. ap (λ (fate : Fate). with_fate fate row) (e row)) (standing test rows))

leading_same : (f g : Row → Bool) → ((row : Row) → f row ≡ g row) → (rows : List Row) → leading f rows ≡ leading g rows
leading_same f g e [] = refl
leading_same f g e (row ∷ rows) =
    ap (λ (b : Bool). cond b (suc (leading f rows)) 0) (e row) ∙ ap (λ (n : ℕ). cond (g row) (suc n) 0) (leading_same f g e rows)

module _ (cover : LinkState) (not_up : has_phase_up cover.phase ≡ false) (l : ℕ) where
  -- there is such a link, and it isn't up
  pub record IsOut (s : State) : Type 0 where
    pub few : l < length s.links
    pub out : is_up l s ≡ false

  apart : (n : ℕ) → (n == l) ≡ false → l ≢ n
  apart n d = λ same. false_true (n == l) d (ap (λ (k : ℕ). n == k) same ∙ itself n)

  apart_back : (n : ℕ) → (n == l) ≡ false → n ≢ l
  apart_back n d = λ same. apart n d (sym same)

  pub other_link : (s : State) (n : ℕ) → (n == l) ≡ false → slice_get (veil cover l s).links n ≡ slice_get s.links n
  other_link s n d = get_set_other s.links l n cover (apart n d)

  pub this_link : (s : State) → IsOut s → slice_get (veil cover l s).links l ≡ Some cover
  this_link s o = get_set_same s.links l cover o.few

  pub up_same : (s : State) → IsOut s → (n : ℕ) → is_up n (veil cover l s) ≡ is_up n s
  up_same s o n = go (n == l) refl
    where
      go : (b : Bool) → (n == l) ≡ b → is_up n (veil cover l s) ≡ is_up n s
      go true e = subst (λ (k : ℕ). is_up k (veil cover l s) ≡ is_up k s) (sym (eqb-true n l e)) (ap link_is_up (this_link s o) ∙ not_up ∙ sym o.out)
      go false e = ap link_is_up (other_link s n e)

  cover_shut : open_link cover ≡ false
  cover_shut = not_open cover.tested cover.phase not_up

  is_shut : (s : State) → IsOut s → is_open l s ≡ false
  is_shut s o = found_shut (slice_get s.links l) o.out

  pub open_same : (s : State) → IsOut s → (n : ℕ) → is_open n (veil cover l s) ≡ is_open n s
  open_same s o n = go (n == l) refl
    where
      go : (b : Bool) → (n == l) ≡ b → is_open n (veil cover l s) ≡ is_open n s
      go true e = subst (λ (k : ℕ). is_open k (veil cover l s) ≡ is_open k s) (sym (eqb-true n l e)) (ap link_is_open (this_link s o) ∙ cover_shut ∙ sym (is_shut s o))
      go false e = ap link_is_open (other_link s n e)

  pub target_same : (s : State) → IsOut s → target (veil cover l s).links ≡ target s.links
  target_same s o =
      let p = present s.links l o.few in
      ap target_of (map_set_same (λ (k : LinkState). open_link k) s.links l p.0 cover p.1
      (cover_shut ∙ sym (ap link_is_open (sym p.1) ∙ is_shut s o)))

  fate_same : (s : State) → IsOut s → (place : Place) → fate_at place (veil cover l s) ≡ fate_at place s
  fate_same s o (On n) = ap (λ (b : Bool). cond b (Rattle.set_events.specs.declared.answer.Fate.TheVariants.Waiting n) (Rattle.set_events.specs.declared.answer.Fate.TheVariants.Held n)) (open_same s o n)
  fate_same s o (Changing to code via) = refl
  fate_same s o Nowhere = refl

  -- another link changes
  set_other : (s : State) (n : ℕ) (link : LinkState) → (n == l) ≡ false → with_link n link (veil cover l s) ≡ veil cover l (with_link n link s)
  set_other s n link d = ap (λ (ls : List LinkState). record s { links = ls }) (swap s.links n l link cover d)

  out_set : (s : State) (n : ℕ) (link : LinkState) → (n == l) ≡ false → IsOut s → IsOut (with_link n link s)
  out_set s n link d o = record {
    few = omega (arith, o.few, length_set s.links n link);
    out = ap link_is_up (get_set_other s.links n l link (apart_back n d)) ∙ o.out;
  }

  -- QUEUES, LEAVES, SETTLES
  queued_same : (order : Order) (s : State) → IsOut s → queued order (veil cover l s) ≡ veil cover l (queued order s)
  queued_same order s o =
      ap (λ (to : Option ℕ). record (veil cover l s) {
        rows = put_ahead (given s) s.rows (text s.settings.profile order s.settings.sio s.settings.dpc s.settings.opc) (fate_on to);
      }) (target_same s o)

  out_same : (blind : Bool) (n : ℕ) (link : LinkState) (s : State) → (n == l) ≡ false
      → out_of_service blind n link (veil cover l s) ≡ veil cover l (out_of_service blind n link s)
  out_same blind n link s d =
      ap (λ (ls : List LinkState). record (out_of_service blind n link s) { links = ls }) (swap s.links n l (left_link blind (given s) link) cover d)

  back_same : (n : ℕ) (s : State) → IsOut s → turned_back n (veil cover l s) ≡ veil cover l (turned_back n s)
  back_same n s o =
      ap (λ (rows : List Row). record (veil cover l s) { rows = rows })
      (moved_same (is_back_to n) (λ row. fate_at (place_of (stream_of row.body) s.routing) (veil cover l s))
      (λ row. fate_at (place_of (stream_of row.body) s.routing) s) (λ row. fate_same s o (place_of (stream_of row.body) s.routing)) s.rows)

  left_out : (blind : Bool) (n : ℕ) (link : LinkState) (s : State) → (n == l) ≡ false → IsOut s → IsOut (left_by blind n link s)
  left_out blind n link s d o = let p = out_set s n (left_link blind (given s) link) d o in record { few = p.few; out = p.out }

  pub left_same : (blind : Bool) (n : ℕ) (link : LinkState) (s : State) → (n == l) ≡ false → IsOut s
      → left_by blind n link (veil cover l s) ≡ veil cover l (left_by blind n link s)
  left_same blind n link s d o =
      let p = out_set s n (left_link blind (given s) link) d o in
      ap (turned_back n) (out_same blind n link s d)
      ∙ back_same n (out_of_service blind n link s) (record { few = p.few; out = p.out })

  acked_same : (count n : ℕ) (link : LinkState) (s : State) → (n == l) ≡ false
      → acknowledged_by count n link (veil cover l s) ≡ veil cover l (acknowledged_by count n link s)
  acked_same count n link s d =
      ap (λ (ls : List LinkState). record (acknowledged_by count n link s) { links = ls }) (swap s.links n l _ cover d)

  judged_same : (reached : Reached) (n : ℕ) (link : LinkState) (s : State) → (n == l) ≡ false
      → judged reached n link (veil cover l s) ≡ veil cover l (judged reached n link s)
  judged_same (Upto fsn) n link s d = go (is_reasonable fsn n link s.rows)
    where
      go : (b : Bool) → cond b (acknowledged_by (reached_by fsn n link s.rows) n link (veil cover l s)) (discarded Rattle.set_events.specs.declared.answer.DiscardCause.TheVariants.Unreasonable n (veil cover l s))
          ≡ veil cover l (cond b (acknowledged_by (reached_by fsn n link s.rows) n link s) (discarded Rattle.set_events.specs.declared.answer.DiscardCause.TheVariants.Unreasonable n s))
      go true = acked_same (reached_by fsn n link s.rows) n link s d
      go false = refl
  judged_same Unknown n link s d = refl
  judged_same Unanswered n link s d = refl
  judged_same Unasked n link s d = refl

  judged_out : (reached : Reached) (n : ℕ) (link : LinkState) (s : State) → (n == l) ≡ false → IsOut s → IsOut (judged reached n link s)
  judged_out (Upto fsn) n link s d o = go (is_reasonable fsn n link s.rows)
    where
      go : (b : Bool) → IsOut (cond b (acknowledged_by (reached_by fsn n link s.rows) n link s) (discarded Rattle.set_events.specs.declared.answer.DiscardCause.TheVariants.Unreasonable n s))
      go true = let p = out_set s n (Rattle.set_model.specs.Changeover.acknowledged (reached_by fsn n link s.rows) link) d o in record { few = p.few; out = p.out }
      go false = record { few = o.few; out = o.out }
  judged_out Unknown n link s d o = record { few = o.few; out = o.out }
  judged_out Unanswered n link s d o = record { few = o.few; out = o.out }
  judged_out Unasked n link s d o = record { few = o.few; out = o.out }

  over_same : (told : Bool) (n : ℕ) (link : LinkState) (s : State) → (n == l) ≡ false → IsOut s
      → moved_over told n link (veil cover l s) ≡ veil cover l (moved_over told n link s)
  over_same told n link s d o =
      ap (λ (to : Option ℕ). record s {
        links = slice_set (veil cover l s).links n (settled_link told link);
        rows = moved (is_on n) (all_with (fate_on to)) s.rows;
        routing = Rattle.set_route.specs.Routing.settled n to s.routing;
      }) (target_same s o)
      ∙ ap (λ (ls : List LinkState). record (moved_over told n link s) { links = ls }) (swap s.links n l (settled_link told link) cover d)

  settled_same : (reached : Reached) (n : ℕ) (link : LinkState) (s : State) → (n == l) ≡ false → IsOut s
      → settled reached n link (veil cover l s) ≡ veil cover l (settled reached n link s)
  settled_same reached n link s d o =
      ap (moved_over (is_told reached) n (judged_link reached n link s.rows)) (judged_same reached n link s d)
      ∙ over_same (is_told reached) n (judged_link reached n link s.rows) (judged reached n link s) d (judged_out reached n link s d o)

  -- ORDERS
  record Alike (veiled bare : Obeyed) : Type 0 where
    pub took : veiled.took ≡ bare.took
    pub state : veiled.state ≡ veil cover l bare.state

  queued_out : (order : Order) (s : State) → IsOut s → IsOut (queued order s)
  queued_out order s o = record { few = o.few; out = o.out }

  over_alike : (reached : Reached) (n : ℕ) (link : LinkState) (phase : Phase) (s : State) → (n == l) ≡ false → IsOut s
      → Alike (changed_over reached n link phase (veil cover l s)) (changed_over reached n link phase s)
  over_alike reached n link Up s d o =
      let coa = Coa n (Rattle.set_model.specs.State.last_accepted link) in
      let left = left_out false n link s d o in
      record {
        took = refl;
        state = ap (λ (t : State). settled reached n (left_link false (given s) link) (queued coa t)) (left_same false n link s d o)
            ∙ ap (settled reached n (left_link false (given s) link)) (queued_same coa (left_by false n link s) left)
            ∙ settled_same reached n (left_link false (given s) link) (queued coa (left_by false n link s)) d (queued_out coa (left_by false n link s) left);
      }
  over_alike reached n link Down s d o = record { took = refl; state = settled_same reached n link s d o }
  over_alike reached n link Settled s d o = record {
    took = refl;
    state = ap (with_link n (answered_link link)) (queued_same (reply_of n link) s o) ∙ set_other (queued (reply_of n link) s) n (answered_link link) d;
  }

  answered_alike : (reached : Reached) (n : ℕ) (link : LinkState) (phase : Phase) (s : State) → (n == l) ≡ false → IsOut s
      → Alike (answered reached n link phase (veil cover l s)) (answered reached n link phase s)
  answered_alike reached n link Down s d o = record { took = refl; state = settled_same reached n link s d o }
  answered_alike reached n link Up s d o = record { took = refl; state = refl }
  answered_alike reached n link Settled s d o = record { took = refl; state = refl }

  at_alike : (f : LinkState → Phase → State → Obeyed) (n : ℕ) (s : State) → (n == l) ≡ false
      → ((link : LinkState) (phase : Phase) → Alike (f link phase (veil cover l s)) (f link phase s))
      → Alike (obeyed_at n f (veil cover l s)) (obeyed_at n f s)
  at_alike f n s d each = subst (λ (o : Option LinkState). Alike (at_link n (veil cover l s) (λ link. f link link.phase (veil cover l s)) o) (obeyed_at n f s))
      (sym (other_link s n d)) (go (slice_get s.links n))
    where
      go : (o : Option LinkState) → Alike (at_link n (veil cover l s) (λ link. f link link.phase (veil cover l s)) o) (at_link n s (λ link. f link link.phase s) o)
      go None = record { took = refl; state = refl }
      go (Some link) = each link link.phase

  back_alike : (code : ℕ) (c : Code) (s : State) → Alike (acknowledged_back code c (veil cover l s)) (acknowledged_back code c s)
  back_alike code Free s = record { took = refl; state = refl }
  back_alike code (Asked via declaration owed) s = record { took = refl; state = refl }
  back_alike code (Spent owed) s = record { took = refl; state = refl }

  obeyed_alike : (order : Option Order) (s : State) → IsOfOther l order → IsOut s → Alike (obeyed order (veil cover l s)) (obeyed order s)
  obeyed_alike None s other o = record { took = refl; state = refl }
  obeyed_alike (Some (Coo n fsn)) s other o = at_alike (changed_over (Upto fsn) n) n s other (λ link phase. over_alike (Upto fsn) n link phase s other o)
  obeyed_alike (Some (Eco n)) s other o = at_alike (changed_over Unknown n) n s other (λ link phase. over_alike Unknown n link phase s other o)
  obeyed_alike (Some (Coa n fsn)) s other o = at_alike (answered (Upto fsn) n) n s other (λ link phase. answered_alike (Upto fsn) n link phase s other o)
  obeyed_alike (Some (Eca n)) s other o = at_alike (answered Unknown n) n s other (λ link phase. answered_alike Unknown n link phase s other o)
  obeyed_alike (Some (Cbd n code)) s other o = record { took = refl; state = queued_same (Cba n code) s o }
  obeyed_alike (Some (Cba n code)) s other o = back_alike code (code_of code s.routing) s

  takes_alike : (body : List ℕ) (s : State) → IsOfOther l (order_of s.settings.profile body) → IsOut s
      → Alike (takes (Some body) (veil cover l s)) (takes (Some body) s)
  takes_alike body s other o = go (service_indicator body == 0)
    where
      go : (b : Bool) → Alike (cond b (obeyed (order_of s.settings.profile body) (veil cover l s)) (record { took = Took.Message; state = record (veil cover l s) { inbox = s.inbox ++ body ∷ [] } }))
          (cond b (obeyed (order_of s.settings.profile body) s) (record { took = Took.Message; state = record s { inbox = s.inbox ++ body ∷ [] } }))
      go true = obeyed_alike (order_of s.settings.profile body) s other o
      go false = record { took = refl; state = refl }

  brought_alike : (accept : Bool) (unit : SignalUnit) (s : State) → IsNoOrderOf l s unit → IsOut s
      → Alike (takes (brought accept unit) (veil cover l s)) (takes (brought accept unit) s)
  brought_alike accept (Fisu head) s other o = record { took = refl; state = refl }
  brought_alike accept (Lssu head status) s other o = record { took = refl; state = refl }
  brought_alike true (Msu head body) s other o = takes_alike body.items s other o
  brought_alike false (Msu head body) s other o = record { took = refl; state = refl }

  -- THE EVENTS
  refused_alike : (s : State) (why : SetRefusal) → IsAlike cover l (refused (veil cover l s) why) (refused s why)
  refused_alike s why = record { answer = refl; state = refl }

  controls_alike : (unit : SignalUnit) (n : ℕ) (s : State) (link : LinkState) → (n == l) ≡ false → IsNoOrderOf l s unit → IsOut s
      → IsAlike cover l (controls unit n (veil cover l s) link) (controls unit n s link)
  controls_alike unit n s link d other o =
      let part = part_in unit n link s in
      let mid = controlled unit n s link in
      let same : controlled unit n (veil cover l s) link ≡ veil cover l mid = ap (λ (ls : List LinkState). record mid { links = ls }) (swap s.links n l _ cover d) in
      let p = out_set s n (Rattle.set_model.specs.Step.risen_link s.settings.profile s.settings.method 0) d o in
      let q : IsOut mid = record {
        few = omega (
          arith,
          o.few,
          length_set s.links n (record link {
            acked = link.acked + part.acked;
            accepted = link.accepted + Rattle.set_events.specs.Places.one_if part.accept;
            control = Rattle.set_model.specs.Control.control_heard link.control (Rattle.set_model.specs.State.window_of n link s.rows) (header_in unit) (Rattle.set_model.specs.Step.is_msu unit);
          }),
        );
        out = ap link_is_up (get_set_other s.links n l _ (apart_back n d)) ∙ o.out;
      } in
      let a = brought_alike part.accept unit mid (same_order unit) q in
      record {
        answer = ap (λ (t : State). Rattle.set_events.specs.declared.answer.Answer.TheVariants.Heard (Rattle.set_model.specs.Step.report_of part (takes (brought part.accept unit) t).took)) same
            ∙ ap (λ (took : Took). Rattle.set_events.specs.declared.answer.Answer.TheVariants.Heard (Rattle.set_model.specs.Step.report_of part took)) a.took;
        state = ap (λ (t : State). (takes (brought part.accept unit) t).state) same ∙ a.state;
      }
    where
      same_order : (u : SignalUnit) → IsNoOrderOf l (controlled unit n s link) unit
      same_order u = go unit other
        where
          go : (v : SignalUnit) → IsNoOrderOf l s v → IsNoOrderOf l (controlled unit n s link) v
          go (Fisu head) e = e
          go (Lssu head status) e = e
          go (Msu head body) e = e

  -- one that needs a link in service
  service_alike : (n : ℕ) (s : State) (f : State → LinkState → Outcome) → IsOut s
      → ((link : LinkState) → (n == l) ≡ false → IsAlike cover l (f (veil cover l s) link) (f s link))
      → IsAlike cover l (in_service n (veil cover l s) (f (veil cover l s))) (in_service n s (f s))
  service_alike n s f o each = go (n == l) refl
    where
      refuse : (k : LinkState) (b : Bool) → b ≡ false → (x : Outcome) → cond b x (refused s SetRefusal.NotUp) ≡ refused s SetRefusal.NotUp
      refuse k true e x = absurd cc
      refuse k false e x = refl

      bare : (p : (k : LinkState) × (slice_get s.links l ≡ Some k)) → in_service l s (f s) ≡ refused s SetRefusal.NotUp
      bare p = ap (λ (m : Option LinkState). with_known m s (λ link. cond (has_phase_up link.phase) (f s link) (refused s SetRefusal.NotUp))) p.1
          ∙ refuse p.0 (has_phase_up p.0.phase) (ap link_is_up (sym p.1) ∙ o.out) (f s p.0)

      veiled : in_service l (veil cover l s) (f (veil cover l s)) ≡ refused (veil cover l s) SetRefusal.NotUp
      veiled = ap (λ (m : Option LinkState). with_known m (veil cover l s) (λ link. cond (has_phase_up link.phase) (f (veil cover l s) link) (refused (veil cover l s) SetRefusal.NotUp))) (this_link s o)
          ∙ ap (λ (b : Bool). cond b (f (veil cover l s) cover) (refused (veil cover l s) SetRefusal.NotUp)) not_up

      at : (link : LinkState) (d : (n == l) ≡ false) (b : Bool) → IsAlike cover l (cond b (f (veil cover l s) link) (refused (veil cover l s) SetRefusal.NotUp)) (cond b (f s link) (refused s SetRefusal.NotUp))
      at link d true = each link d
      at link d false = refused_alike s SetRefusal.NotUp

      known : (d : (n == l) ≡ false) (m : Option LinkState) → IsAlike cover l (with_known m (veil cover l s) (λ link. cond (has_phase_up link.phase) (f (veil cover l s) link) (refused (veil cover l s) SetRefusal.NotUp)))
          (with_known m s (λ link. cond (has_phase_up link.phase) (f s link) (refused s SetRefusal.NotUp)))
      known d None = refused_alike s SetRefusal.NoSuchLink
      known d (Some link) = at link d (has_phase_up link.phase)

      go : (b : Bool) → (n == l) ≡ b → IsAlike cover l (in_service n (veil cover l s) (f (veil cover l s))) (in_service n s (f s))
      go true e = subst (λ (k : ℕ). IsAlike cover l (in_service k (veil cover l s) (f (veil cover l s))) (in_service k s (f s))) (sym (eqb-true n l e))
          (let b = bare (present s.links l o.few) in
          record {
            answer = ap (λ (x : Outcome). x.answer) veiled ∙ sym (ap (λ (x : Outcome). x.answer) b);
            state = ap (λ (x : Outcome). x.state) veiled ∙ sym (ap (λ (x : Outcome). veil cover l x.state) b);
          })
      go false d = subst (λ (m : Option LinkState). IsAlike cover l (with_known m (veil cover l s) (λ link. cond (has_phase_up link.phase) (f (veil cover l s) link) (refused (veil cover l s) SetRefusal.NotUp))) (in_service n s (f s)))
          (sym (other_link s n d)) (known d (slice_get s.links n))

  -- and one that needs it to be there
  there_alike : (n : ℕ) (s : State) (f : State → LinkState → Outcome) → (n == l) ≡ false
      → ((link : LinkState) → IsAlike cover l (f (veil cover l s) link) (f s link))
      → IsAlike cover l (on_link n (veil cover l s) (f (veil cover l s))) (on_link n s (f s))
  there_alike n s f d each = subst (λ (m : Option LinkState). IsAlike cover l (with_known m (veil cover l s) (f (veil cover l s))) (on_link n s (f s)))
      (sym (other_link s n d)) (go (slice_get s.links n))
    where
      go : (m : Option LinkState) → IsAlike cover l (with_known m (veil cover l s) (f (veil cover l s))) (with_known m s (f s))
      go None = refused_alike s SetRefusal.NoSuchLink
      go (Some link) = each link

  -- NEXT
  overtakes_same : (s : State) → IsOut s → (o : Option Order) → overtakes (veil cover l s) o ≡ overtakes s o
  overtakes_same s out (Some (Coo n fsn)) = up_same s out n
  overtakes_same s out (Some (Eco n)) = up_same s out n
  overtakes_same s out (Some (Coa n fsn)) = refl
  overtakes_same s out (Some (Eca n)) = refl
  overtakes_same s out (Some (Cbd n code)) = refl
  overtakes_same s out (Some (Cba n code)) = refl
  overtakes_same s out None = refl

  cleared_same : (n : ℕ) (s : State) → IsOut s → cleared n (veil cover l s) ≡ veil cover l (cleared n s)
  cleared_same n s o = ap (λ (count : ℕ). withdrawn count n (veil cover l s))
      (leading_same (is_overtaken (veil cover l s)) (is_overtaken s) (λ row. overtakes_same s o (order_of s.settings.profile row.body)) (wait n s.rows))

  next_alike : (n : ℕ) (s : State) (link : LinkState) → (n == l) ≡ false → IsOut s
      → IsAlike cover l (next n (cleared n (veil cover l s)) link) (next n (cleared n s) link)
  next_alike n s link d o =
      let t = cleared n s in
      let same : next n (veil cover l t) link ≡ record { answer = (next n t link).answer; state = veil cover l (next n t link).state } =
      ap (λ (ls : List LinkState). record { answer = (next n t link).answer; state = record (next n t link).state { links = ls } })
      (swap t.links n l _ cover d) in
      let c = cleared_same n s o in
      record {
        answer = ap (λ (u : State). (next n u link).answer) c ∙ ap (λ (x : Outcome). x.answer) same;
        state = ap (λ (u : State). (next n u link).state) c ∙ ap (λ (x : Outcome). x.state) same;
      }

  -- RESTORE
  can_same : (home alternative : ℕ) (s : State) → IsOut s → can_declare home alternative (veil cover l s) ≡ can_declare home alternative s
  can_same home alternative s o = ap (λ (b : Bool). not (alternative == home) && (b && can_ask home alternative s.routing)) (open_same s o alternative)

  some_same : (home alternative n : ℕ) (s : State) → IsOut s → some_declare home alternative n (veil cover l s) ≡ some_declare home alternative n s
  some_same home alternative zero s o = refl
  some_same home alternative (suc n) s o =
      ap (λ (b : Bool). b || some_declare home (suc alternative) n (veil cover l s)) (can_same home alternative s o)
      ∙ ap (λ (b : Bool). can_declare home alternative s || b) (some_same home (suc alternative) n s o)

  if_same : (home alternative : ℕ) (s : State) (b : Bool) → cond b (declared home alternative (veil cover l s)) (veil cover l s) ≡ veil cover l (cond b (declared home alternative s) s)
  if_same home alternative s true = refl
  if_same home alternative s false = refl

  declared_if_same : (home alternative : ℕ) (s : State) → IsOut s → declared_if home alternative (veil cover l s) ≡ veil cover l (declared_if home alternative s)
  declared_if_same home alternative s o =
      ap (λ (b : Bool). cond b (declared home alternative (veil cover l s)) (veil cover l s)) (can_same home alternative s o)
      ∙ if_same home alternative s (can_declare home alternative s)

  declared_out : (home alternative : ℕ) (s : State) (b : Bool) → IsOut s → IsOut (cond b (declared home alternative s) s)
  declared_out home alternative s true o = record { few = o.few; out = o.out }
  declared_out home alternative s false o = o

  declared_same : (home alternative n : ℕ) (s : State) → IsOut s → declared_from home alternative n (veil cover l s) ≡ veil cover l (declared_from home alternative n s)
  declared_same home alternative zero s o = refl
  declared_same home alternative (suc n) s o =
      ap (declared_from home (suc alternative) n) (declared_if_same home alternative s o)
      ∙ declared_same home (suc alternative) n (declared_if home alternative s) (declared_out home alternative s (can_declare home alternative s) o)

  comes_alike : (n : ℕ) (s : State) → IsOut s → IsAlike cover l (comes_back n (veil cover l s)) (comes_back n s)
  comes_alike n s o =
      let count : link_count (veil cover l s) ≡ link_count s = length_set s.links l cover in
      go (link_count (veil cover l s)) (link_count s) count (some_declare n 0 (link_count (veil cover l s)) (veil cover l s)) (some_declare n 0 (link_count s) s)
      (ap (λ (k : ℕ). some_declare n 0 k (veil cover l s)) count ∙ some_same n 0 (link_count s) s o)
    where
      go : (k m : ℕ) → k ≡ m → (b c : Bool) → b ≡ c → IsAlike cover l
          (cond b (record { answer = Rattle.set_events.specs.declared.answer.Answer.TheVariants.Done; state = declared_from n 0 k (veil cover l s) }) (refused (veil cover l s) SetRefusal.Nothing))
          (cond c (record { answer = Rattle.set_events.specs.declared.answer.Answer.TheVariants.Done; state = declared_from n 0 m s }) (refused s SetRefusal.Nothing))
      go k m e true true f = record { answer = refl; state = ap (λ (j : ℕ). declared_from n 0 j (veil cover l s)) e ∙ declared_same n 0 m s o }
      go k m e false false f = refused_alike s SetRefusal.Nothing
      go k m e true false f = absurd cc
      go k m e false true f = absurd cc

  -- NO ACKNOWLEDGEMENT
  released_same : (code n : ℕ) (s : State) → released_from code n (veil cover l s) ≡ veil cover l (released_from code n s)
  released_same code zero s = refl
  released_same code (suc n) s = released_same (suc code) n (released code s)

  in_use_same : (code n : ℕ) (s : State) → some_in_use code n (veil cover l s) ≡ some_in_use code n s
  in_use_same code zero s = refl
  in_use_same code (suc n) s = ap (λ (b : Bool). not (Rattle.set_route.specs.Routing.is_free (code_of code s.routing)) || b) (in_use_same (suc code) n s)

  runs_alike : (n : ℕ) (s : State) → IsAlike cover l (runs_out n (veil cover l s)) (runs_out n s)
  runs_alike n s = go (some_in_use (code_for n 0) 16 (veil cover l s)) (some_in_use (code_for n 0) 16 s) (in_use_same (code_for n 0) 16 s)
    where
      go : (b c : Bool) → b ≡ c → IsAlike cover l
          (cond b (record { answer = Rattle.set_events.specs.declared.answer.Answer.TheVariants.Done; state = released_from (code_for n 0) 16 (veil cover l s) }) (refused (veil cover l s) SetRefusal.Nothing))
          (cond c (record { answer = Rattle.set_events.specs.declared.answer.Answer.TheVariants.Done; state = released_from (code_for n 0) 16 s }) (refused s SetRefusal.Nothing))
      go true true f = record { answer = refl; state = released_same (code_for n 0) 16 s }
      go false false f = refused_alike s SetRefusal.Nothing
      go true false f = absurd cc
      go false true f = absurd cc

  -- what is done whatever the link's state is
  known_alike : (f : State → Outcome) (n : ℕ) (s : State) → IsOut s → IsAlike cover l (f (veil cover l s)) (f s)
      → IsAlike cover l (on_link n (veil cover l s) (λ state. f (veil cover l s))) (on_link n s (λ state. f s))
  known_alike f n s o both = go (n == l) refl
    where
      at : Option LinkState → Option LinkState → Type 0
      at k m = IsAlike cover l (with_known k (veil cover l s) (λ state. f (veil cover l s))) (with_known m s (λ state. f s))

      go : (b : Bool) → (n == l) ≡ b → at (slice_get (veil cover l s).links n) (slice_get s.links n)
      go true e =
          let same = eqb-true n l e in
          let p = present s.links l o.few in
          let one : slice_get (veil cover l s).links n ≡ Some cover = ap (slice_get (veil cover l s).links) same ∙ this_link s o in
          let two : slice_get s.links n ≡ Some p.0 = ap (slice_get s.links) same ∙ p.1 in
          subst (λ (m : Option LinkState). at m (slice_get s.links n)) (sym one) (subst (at (Some cover)) (sym two) both)
      go false d = there_alike n s (λ t state. f t) d (λ link. both)

  timeout_alike : (n : ℕ) (s : State) → IsOut s → IsAlike cover l (on_link n (veil cover l s) (λ state. runs_out n (veil cover l s))) (on_link n s (λ state. runs_out n s))
  timeout_alike n s o = known_alike (runs_out n) n s o (runs_alike n s)

  -- NO ACKNOWLEDGEMENT CAME IN TIME
  again_same : (code : ℕ) (due : Option ℕ) (s : State) → IsOut s → redeclared_on code due (veil cover l s) ≡ veil cover l (redeclared_on code due s)
  again_same code None s o = refl
  again_same code (Some via) s o = ap (λ (fate : Fate). record (veil cover l s) {
    rows = appended (given s) s.rows (text s.settings.profile (Cbd (home_of code) code) s.settings.sio s.settings.dpc s.settings.opc) fate;
    routing = asked_again code (given s) s.routing;
  }) (fate_same s o (On via))

  again_out : (code : ℕ) (due : Option ℕ) (s : State) → IsOut s → IsOut (redeclared_on code due s)
  again_out code None s o = o
  again_out code (Some via) s o = record { few = o.few; out = o.out }

  redeclared_same : (code n : ℕ) (s : State) → IsOut s → redeclared_from code n (veil cover l s) ≡ veil cover l (redeclared_from code n s)
  redeclared_same code zero s o = refl
  redeclared_same code (suc n) s o =
      let due = overdue_via (code_of code s.routing) s.rows in
      ap (redeclared_from (suc code) n) (again_same code due s o) ∙ redeclared_same (suc code) n (redeclared_on code due s) (again_out code due s o)

  overdue_same : (code n : ℕ) (s : State) → some_overdue code n (veil cover l s) ≡ some_overdue code n s
  overdue_same code zero s = refl
  overdue_same code (suc n) s = ap (λ (b : Bool). is_some (overdue_via (code_of code s.routing) s.rows) || b) (overdue_same (suc code) n s)

  redeclares_alike : (n : ℕ) (s : State) → IsOut s → IsAlike cover l (redeclares n (veil cover l s)) (redeclares n s)
  redeclares_alike n s o = go (some_overdue (code_for n 0) 16 (veil cover l s)) (some_overdue (code_for n 0) 16 s) (overdue_same (code_for n 0) 16 s)
    where
      go : (b c : Bool) → b ≡ c → IsAlike cover l
          (cond b (record { answer = Rattle.set_events.specs.declared.answer.Answer.TheVariants.Done; state = redeclared_from (code_for n 0) 16 (veil cover l s) }) (refused (veil cover l s) SetRefusal.Nothing))
          (cond c (record { answer = Rattle.set_events.specs.declared.answer.Answer.TheVariants.Done; state = redeclared_from (code_for n 0) 16 s }) (refused s SetRefusal.Nothing))
      go true true f = record { answer = refl; state = redeclared_same (code_for n 0) 16 s o }
      go false false f = refused_alike s SetRefusal.Nothing
      go true false f = absurd cc
      go false true f = absurd cc

  -- OFFER, TAKE, FIND, and a link of another number
  offer_alike : (why : Option SetRefusal) (s : State) (body : List ℕ) → IsOut s → IsAlike cover l (offered why (veil cover l s) body) (offered why s body)
  offer_alike (Some why) s body o = refused_alike s why
  offer_alike None s body o = record {
    answer = refl;
    state = ap (λ (fate : Fate). record (veil cover l s) {
      rows = appended (given s) s.rows body fate;
      routing = Rattle.set_route.specs.Routing.accepted (stream_of body) s.routing;
    }) (fate_same s o (place_of (stream_of body) s.routing));
  }

  take_alike : (inbox : List (List ℕ)) (s : State) → IsAlike cover l (taken inbox (veil cover l s)) (taken inbox s)
  take_alike [] s = refused_alike s SetRefusal.Nothing
  take_alike (body ∷ rest) s = record { answer = refl; state = refl }

  find_alike : (fate : Option Fate) (number : ℕ) (s : State) → IsAlike cover l (found fate number (veil cover l s)) (found fate number s)
  find_alike (Some fate) number s = record { answer = refl; state = refl }
  find_alike None number s = record { answer = refl; state = refl }

  opened_same : (n : ℕ) (link : LinkState) (s : State) → (n == l) ≡ false → opened n link (veil cover l s) ≡ veil cover l (opened n link s)
  opened_same n link s d = ap (λ (ls : List LinkState). record (opened n link s) { links = ls }) (swap s.links n l (opened_link link) cover d)

  rises_alike : (n : ℕ) (s : State) (phase : Phase) → (n == l) ≡ false → IsAlike cover l (rises n (veil cover l s) phase) (rises n s phase)
  rises_alike n s Up d = refused_alike s SetRefusal.NotDown
  rises_alike n s Down d = refused_alike s SetRefusal.Unsettled
  rises_alike n s Settled d = record {
    answer = refl;
    state = ap (λ (o : Option LinkState). opened n (new (late_in o)) (with_link n (new (late_in o)) (veil cover l s))) (other_link s n d)
        ∙ ap (opened n (new (late_at n s))) (set_other s n (new (late_at n s)) d)
        ∙ opened_same n (new (late_at n s)) (with_link n (new (late_at n s)) s) d;
  }
    where
      new : ℕ → LinkState
      new late = risen_link s.settings.profile s.settings.method late

  falls_alike : (blind : Bool) (n : ℕ) (s : State) (link : LinkState) → (n == l) ≡ false → IsOut s
      → IsAlike cover l (falls blind n (veil cover l s) link) (falls blind n s link)
  falls_alike blind n s link d o = record {
    answer = refl;
    state = ap (queued (leaving_order blind n link)) (left_same blind n link s d o)
        ∙ queued_same (leaving_order blind n link) (left_by blind n link s) (left_out blind n link s d o);
  }

  gives_alike : (n : ℕ) (s : State) (link : LinkState) (phase : Phase) → (n == l) ≡ false → IsOut s
      → IsAlike cover l (gives_up n (veil cover l s) link phase) (gives_up n s link phase)
  gives_alike n s link Down d o = record { answer = refl; state = settled_same Unanswered n link s d o }
  gives_alike n s link Up d o = refused_alike s SetRefusal.Nothing
  gives_alike n s link Settled d o = refused_alike s SetRefusal.Nothing

  by_time_alike : (from : Fate) (n : ℕ) (s : State) (link : LinkState) → (n == l) ≡ false → IsOut s
      → IsAlike cover l (over_by_time from n (veil cover l s) link) (over_by_time from n s link)
  by_time_alike from n s link d o = record { answer = refl; state = settled_same Unasked n link (taken_back link.order from s) d (record { few = o.few; out = o.out }) }

  timed_alike : (order : Option Fate) (n : ℕ) (s : State) (link : LinkState) → (n == l) ≡ false → IsOut s
      → IsAlike cover l (timed order n (veil cover l s) link) (timed order n s link)
  timed_alike None n s link d o = refused_alike s SetRefusal.Nothing
  timed_alike (Some (Waiting to)) n s link d o = by_time_alike (Waiting to) n s link d o
  timed_alike (Some Parked) n s link d o = by_time_alike Parked n s link d o
  timed_alike (Some (Unacked to)) n s link d o = refused_alike s SetRefusal.Nothing
  timed_alike (Some (Acked to)) n s link d o = refused_alike s SetRefusal.Nothing
  timed_alike (Some (Held to)) n s link d o = refused_alike s SetRefusal.Nothing
  timed_alike (Some (Back code)) n s link d o = refused_alike s SetRefusal.Nothing
  timed_alike (Some (Discarded cause)) n s link d o = refused_alike s SetRefusal.Nothing

  times_alike : (n : ℕ) (s : State) (link : LinkState) (phase : Phase) → (n == l) ≡ false → IsOut s
      → IsAlike cover l (times_out n (veil cover l s) link phase) (times_out n s link phase)
  times_alike n s link Down d o = timed_alike (place link.order s.rows) n s link d o
  times_alike n s link Up d o = refused_alike s SetRefusal.Nothing
  times_alike n s link Settled d o = refused_alike s SetRefusal.Nothing

  heard_alike : (unit : SignalUnit) (n : ℕ) (s : State) (link : LinkState) → (n == l) ≡ false → IsNoOrderOf l s unit → IsOut s
      → IsAlike cover l (heard unit n (veil cover l s) link) (heard unit n s link)
  heard_alike unit n s link d other o = go (is_heard s.settings.profile unit)
    where
      go : (b : Bool) → IsAlike cover l (cond b (controls unit n (veil cover l s) link) (refused (veil cover l s) SetRefusal.Nothing)) (cond b (controls unit n s link) (refused s SetRefusal.Nothing))
      go true = controls_alike unit n s link d other o
      go false = refused_alike s SetRefusal.Nothing

  restores_alike : (n : ℕ) (s : State) (link : LinkState) (b : Bool) → IsOut s
      → IsAlike cover l (cond b (comes_back n (veil cover l s)) (refused (veil cover l s) SetRefusal.NotUp)) (cond b (comes_back n s) (refused s SetRefusal.NotUp))
  restores_alike n s link true o = comes_alike n s o
  restores_alike n s link false o = refused_alike s SetRefusal.NotUp

  all_alike : (s : State) (event : Event) → IsOut s → IsElsewhere l s event → IsAlike cover l (step (veil cover l s) event) (step s event)
  unfolding step
  all_alike s (Offer body) o other = offer_alike (offer_refusal s.settings.profile s.rows body) s body o
  all_alike s Take o other = take_alike s.inbox s
  all_alike s (Find number) o other = find_alike (place number s.rows) number s
  all_alike s (Next n) o other = service_alike n s (λ t. next n (cleared n t)) o (λ link d. next_alike n s link d o)
  all_alike s (Heard n unit) o other = service_alike n s (heard unit n) o (λ link d. heard_alike unit n s link d other o)
  all_alike s (UpEvent n) o other = there_alike n s (λ t link. rises n t link.phase) other (λ link. rises_alike n s link.phase other)
  all_alike s (DownEvent n) o other = service_alike n s (falls false n) o (λ link d. falls_alike false n s link d o)
  all_alike s (DownBlind n) o other = service_alike n s (falls true n) o (λ link d. falls_alike true n s link d o)
  all_alike s (NoAnswer n) o other = there_alike n s (λ t link. gives_up n t link link.phase) other (λ link. gives_alike n s link link.phase other o)
  all_alike s (Timed n) o other = there_alike n s (λ t link. times_out n t link link.phase) other (λ link. times_alike n s link link.phase other o)
  all_alike s (Restore n) o other = service_alike n s (restores n) o (λ link d. restores_alike n s link (open_link link) o)
  all_alike s (Redeclare n) o other = known_alike (redeclares n) n s o (redeclares_alike n s o)
  all_alike s (BackTimeout n) o other = timeout_alike n s o
  all_alike s (Test n) o other = service_alike n s (λ t link. refused t SetRefusal.Nothing) o (λ link d. refused_alike s SetRefusal.Nothing)

  pub settled_out : (s : State) → is_settled l s ≡ true → IsOut s
  settled_out s e = go (slice_get s.links l) refl
    where
      isnt_up : (phase : Phase) → has_phase_settled phase ≡ true → has_phase_up phase ≡ false
      isnt_up Up f = absurd cc
      isnt_up Down f = refl
      isnt_up Settled f = refl

      go : (m : Option LinkState) → slice_get s.links l ≡ m → IsOut s
      go None f = absurd (let no : false ≡ true = ap link_is_settled (sym f) ∙ e in cc)
      go (Some link) f = record {
        few = within s.links l link f;
        out = ap link_is_up f ∙ isnt_up link.phase (ap link_is_settled (sym f) ∙ e);
      }

pub veils_keep_steps : VeilsKeepSteps
veils_keep_steps cover l s event not_up settled other = all_alike cover not_up l s event (settled_out cover not_up l s settled) other
