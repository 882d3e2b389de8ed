-- HOW A LINK GOES ON at an end by what isn't its own sending, hearing or coming up (`Follows`): unless it's settled
-- then, it wasn't settled before, and its control, count and unacknowledged messages are the same; what waits for it may
-- be another. There's a lemma for each event, from `offer_follows` to `timeout_follows`, and `takes_follows` for what an
-- accepted body leads to. Of other links it's a walk of small changes (`others`, set_model's Walk.antt); the link
-- itself settles, or isn't touched. Only `released_follow` is an induction, on the codes. Tied.antt takes a tie on by
-- it; Pairs.antt, Moving.antt and Hearing.antt use the lemmas.
use Rattle.set_model.specs.Step.{is_heard}
use Rattle.std.proofs.Common.{refl, ◌≡◌, ◌≢◌, ◌∙◌, ap, sym, subst, ℕ, zero, suc, ◌<◌, ◌==◌, Bool, true, false, List, length, slice_get, slice_set, Option, Some, None, cond, ◌||◌, inl, inr}
use Rattle.std.proofs.lemmas.Bool.{cond_both, eqb-true}
use Rattle.l2_units.specs.declared.unit.Unit.{Unit as SignalUnit}
use Rattle.l2_units.specs.Grammar.{head_of as header_in}
use Rattle.l3_orders.specs.declared.order.Order.{Order}
use Rattle.l3_orders.specs.declared.order.Order.TheVariants.{Coo, Coa, Cbd, Cba, Eco, Eca}
use Rattle.l3_orders.specs.Grammar.{text, order_of, link_of}
use Rattle.set_events.specs.declared.answer.Fate.{Fate}
use Rattle.set_events.specs.declared.answer.Fate.TheVariants.{Parked, Waiting}
use Rattle.set_events.specs.declared.answer.Refusal.{Refusal as SetRefusal}
use Rattle.set_events.specs.declared.answer.Refusal.TheVariants.{NotUp, Nothing}
use Rattle.set_events.specs.declared.answer.Answer.TheVariants.{Done}
use Rattle.set_events.specs.declared.event.Event.TheVariants.{Offer, Take, Find, Next, Heard, Up as UpEvent, Down as DownEvent, DownBlind, NoAnswer, Timed, Restore, Redeclare, BackTimeout, Test}
use Rattle.set_route.specs.declared.place.Place.{Place}
use Rattle.set_route.specs.declared.place.Code.{Code}
use Rattle.set_route.specs.declared.place.Code.TheVariants.{Free, Asked, Spent}
use Rattle.set_route.specs.declared.place.Place.TheVariants.{On, Changing, Nowhere}
use Rattle.set_route.specs.Routing.{place_of, code_for, code_of}
use Rattle.set_model.specs.declared.phase.Phase.{Phase}
use Rattle.set_model.specs.declared.phase.Phase.TheVariants.{Up, Down, Settled}
use Rattle.set_model.specs.declared.reached.Reached.{Reached}
use Rattle.set_model.specs.declared.reached.Reached.TheVariants.{Upto, Unknown, Unanswered, Unasked}
use Rattle.set_model.specs.Rows.{Fate, Waiting, Unacked, Acked, Held, Back, Parked, Discarded, place, waits, is_parked, Row, is_unacked, is_back, is_back_to, stands_back, unack, all_with, appended, moved, is_managements, stream_of}
use Rattle.set_model.specs.State.{given, LinkState, State, link_count, link_is_open, open_link, opens_in, has_phase_up, has_phase_settled, is_open, fate_at, target, window_of, with_link}
use Rattle.set_model.specs.Control.{part_of}
use Rattle.set_model.specs.Changeover.{Obeyed, fate_on, answered_link, left_link, acknowledged as acknowledged_link, settled_link, moved_over, queued, out_of_service, left_by, leaving_order, declared, some_declare, acknowledged_code, redeclared_from, redeclared_on, some_overdue, released, released_from, some_in_use, acknowledged_back, is_reasonable, judged, settled, taken_back, changed_over, answered, at_link, order_obeyed, obeyed, reply_of}
use Rattle.set_model.specs.Step.{Outcome, refused, offer_refusal, offered, is_msu, brought, takes, after_control, controls, heard, falls, gives_up, over_by_time, timed, times_out, comes_back, restores, opened_link, redeclares, runs_out, with_known, in_service, step}
use Rattle.set_model.specs.Frame.{LeavesAlone}
use Rattle.set_model.proofs.Events.{Untouched, taken_back_rows, acknowledged, moved_to, left as left_by_rows, appended_out, untouched}
use Rattle.set_model.proofs.Rows.{moved_same}
use Rattle.set_model.proofs.Framing.{leaves_alone}
use Rattle.set_model.proofs.Ahead.{put_apart}
use Rattle.set_model.proofs.Lists.{get_set_same, get_set_other, same_at, within, length_set, target_open}
use Rattle.set_model.proofs.Places.{false_true, itself, apart, not_on_unacked, back_not_on, code_back, home_back}
use Rattle.set_model.proofs.Staying.{offered_out}
use Rattle.set_model.proofs.Walk.{IsAt, KeptBy, Touches, settle_walks, declare_walks, again_walks, obeys_walks}

-- it wasn't settled before, and its control, its count and its unacknowledged messages are the same
pub record GoesOn (l : ℕ) (s t : State) (after : LinkState) : Type 0 where
  pub link : LinkState
  pub there : slice_get s.links l ≡ Some link
  pub unsettled : has_phase_settled link.phase ≡ false
  pub control : after.control ≡ link.control
  pub profile : after.profile ≡ link.profile
  pub acked : after.acked ≡ link.acked
  pub unack_same : unack l t.rows ≡ unack l s.rows

-- where it isn't settled then
abbrev pub Follows : ℕ → State → State → Type 0
Follows l s t = (after : LinkState) → slice_get t.links l ≡ Some after → has_phase_settled after.phase ≡ false → GoesOn l s t after

pub follows_by : (l : ℕ) (s t : State) → slice_get t.links l ≡ slice_get s.links l
    → unack l t.rows ≡ unack l s.rows → Follows l s t
follows_by l s t same unacked = λ link there unsettled. record {
  link = link;
  there = sym same ∙ there;
  unsettled = unsettled;
  control = refl;
  profile = refl;
  acked = refl;
  unack_same = unacked;
}

pub follows_untouched : (l : ℕ) (s t : State) → slice_get t.links l ≡ slice_get s.links l → Untouched l s.rows t.rows → Follows l s t
follows_untouched l s t same u = follows_by l s t same u.unack_same

pub follows_same : (l : ℕ) (s : State) → Follows l s s
follows_same l s = follows_untouched l s s refl (untouched l s.rows s.rows refl)

pub follows_alone : (l : ℕ) (s t : State) → LeavesAlone l s t → Follows l s t
follows_alone l s t a = follows_by l s t a.link_same a.unack_same

pub follows_then : (l : ℕ) (a b c : State) → Follows l a b → Follows l b c → Follows l a c
follows_then l a b c p q = λ link there unsettled.
    let y = q link there unsettled in
    let x = p y.link y.there y.unsettled in
    record {
      link = x.link;
      there = x.there;
      unsettled = x.unsettled;
      control = y.control ∙ x.control;
      profile = y.profile ∙ x.profile;
      acked = y.acked ∙ x.acked;
      unack_same = y.unack_same ∙ x.unack_same;
    }

-- one that settled needn't have gone on so
pub follows_settled : (l : ℕ) (s t : State) (link : LinkState) → slice_get t.links l ≡ Some link → has_phase_settled link.phase ≡ true → Follows l s t
follows_settled l s t link there is = λ after at unsettled.
    let same : after ≡ link = same_at t.links l link after there at in
    absurd (false_true (has_phase_settled link.phase) (ap (λ (k : LinkState). has_phase_settled k.phase) (sym same) ∙ unsettled) is)

-- another link changes, and rows that this one doesn't see
follows_set : (l m : ℕ) (link : LinkState) (s t : State) → (m == l) ≡ false → t.links ≡ slice_set s.links m link → Untouched l s.rows t.rows → Follows l s t
follows_set l m link s t d links u =
    follows_untouched l s t (ap (λ (ls : List LinkState). slice_get ls l) links
    ∙ get_set_other s.links m l link (λ same. false_true (m == l) d (rw same (itself l)))) u

-- a new message that wasn't sent
follows_new : (l : ℕ) (body : List ℕ) (fate : Fate) (s t : State) → is_unacked l fate ≡ false
    → slice_get t.links l ≡ slice_get s.links l → t.rows ≡ appended (given s) s.rows body fate → Follows l s t
follows_new l body fate s t unsent links rows =
    follows_by l s t links (ap (unack l) rows ∙ appended_out (given s) s.rows body fate (is_unacked l) unsent)

waits_or_parked : (l : ℕ) (to : Option ℕ) → is_unacked l (fate_on to) ≡ false
waits_or_parked l None = refl
waits_or_parked l (Some to) = refl

pub follows_queued : (l : ℕ) (order : Order) (s : State) → Follows l s (queued order s)
follows_queued l order s = follows_by l s (queued order s) refl
    (put_apart (given s) s.rows (text s.settings.profile order s.settings.sio s.settings.dpc s.settings.opc)
    (fate_on (target s.links)) (is_unacked l) (waits_or_parked l (target s.links)))

-- what stood back comes to wait for it, or for others
follows_turned : (l : ℕ) (test : Fate → Bool) (fate : Row → Fate) (s t : State)
    → ((f : Fate) → test f ≡ true → stands_back f ≡ true) → ((row : Row) → is_unacked l (fate row) ≡ false)
    → t.links ≡ s.links → t.rows ≡ moved test fate s.rows → Follows l s t
follows_turned l test fate s t back unsent links rows =
    follows_by l s t (ap (λ (ls : List LinkState). slice_get ls l) links)
    (ap (unack l) rows ∙ moved_same test (is_unacked l) fate s.rows unsent (λ f e. not_on_unacked l f (back_not_on l f (back f e))))

follows_redeclared : (l code via : ℕ) (s : State) → Follows l s (redeclared_on code (Some via) s)
follows_redeclared l code via s = follows_new l _ (fate_at (On via) s) s (redeclared_on code (Some via) s) (offered_out l (On via) s) refl refl

follows_acknowledged : (l code : ℕ) (s : State) → Follows l s (acknowledged_code code s)
follows_acknowledged l code s = follows_turned l (is_back code) (all_with (Waiting _)) s (acknowledged_code code s) (code_back code) (λ row. refl) refl refl

follows_released : (l code : ℕ) (s : State) → Follows l s (released code s)
follows_released l code s = follows_turned l (is_back code) (all_with (Waiting _)) s (released code s) (code_back code) (λ row. refl) refl refl

-- a link that is left goes on too
out_follows : (l : ℕ) (blind : Bool) (m : ℕ) (link : LinkState) (s : State) → IsAt m link Up s → Follows l s (out_of_service blind m link s)
out_follows l blind m link s at = go (m == l) refl
  where
    go : (b : Bool) → (m == l) ≡ b → Follows l s (out_of_service blind m link s)
    go false d = follows_set l m (left_link blind (given s) link) s (out_of_service blind m link s) d refl (untouched l s.rows s.rows refl)
    go true d = λ after there unsettled.
        let same : m ≡ l = eqb-true m l d in
        let is : after ≡ left_link blind (given s) link =
        same_at (slice_set s.links m (left_link blind (given s) link)) l (left_link blind (given s) link) after
        (subst (λ (k : ℕ). slice_get (slice_set s.links m (left_link blind (given s) link)) k ≡ Some (left_link blind (given s) link))
        same (get_set_same s.links m (left_link blind (given s) link) (within s.links m link at.there))) there in
        record {
          link = link;
          there = subst (λ (k : ℕ). slice_get s.links k ≡ Some link) same at.there;
          unsettled = ap has_phase_settled at.phase_is;
          control = ap (λ (k : LinkState). k.control) is;
          profile = ap (λ (k : LinkState). k.profile) is;
          acked = ap (λ (k : LinkState). k.acked) is;
          unack_same = refl;
        }

pub follows_left : (l : ℕ) (blind : Bool) (m : ℕ) (link : LinkState) (s : State) → IsAt m link Up s → Follows l s (left_by blind m link s)
follows_left l blind m link s at =
    let out = out_of_service blind m link s in
    follows_then l s out (left_by blind m link s) (out_follows l blind m link s at)
    (follows_turned l (is_back_to m) _ out (left_by blind m link s) (home_back m) (λ row. offered_out l _ out) refl refl)

-- ANOTHER LINK SETTLES
follows_off : (told : Bool) (l m : ℕ) (link : LinkState) (s : State) → (m == l) ≡ false → IsAt m link Down s → Follows l s (moved_over told m link s)
follows_off told l m link s d at = go (target s.links) refl
  where
    apart_target : (to : ℕ) → target s.links ≡ Some to → (m == to) ≡ false
    apart_target to e =
        let there = target_open s.links to e in
        apart m to (λ same. let it : there.0 ≡ link =
        same_at s.links m link there.0 at.there (ap (slice_get s.links) same ∙ there.1) in let no : true ≡ false =
        sym there.2 ∙ ap open_link it ∙ ap (opens_in link.tested) at.phase_is in cc)

    joins : (to : ℕ) → target s.links ≡ Some to → (b : Bool) → (to == l) ≡ b → Follows l s (moved_over told m link s)
    joins to e false f = follows_set l m (settled_link told link) s (moved_over told m link s) d refl
        (rw e ((moved_to m to s.rows (apart_target to e)).left_is.others l d f))
    joins to e true f =
        let same : l ≡ to = sym (eqb-true to l f) in
        let moved = moved_to m to s.rows (apart_target to e) in
        follows_by l s (moved_over told m link s)
        (get_set_other s.links m l (settled_link told link) (λ eq. false_true (m == l) d (rw eq (itself l))))
        (rw (e, same) moved.unack_same)

    go : (to : Option ℕ) → target s.links ≡ to → Follows l s (moved_over told m link s)
    go None e = follows_set l m (settled_link told link) s (moved_over told m link s) d refl (rw e ((left_by_rows m Parked s.rows refl refl).others l d refl))
    go (Some to) e = joins to e (to == l) refl

others : (l : ℕ) (May : Type 0) → KeptBy (λ m. (m == l) ≡ false) May (Follows l)
others l May = record {
  same = λ s. follows_same l s;
  after = λ a b c p q. follows_then l a b c p q;
  delivers = λ body s. follows_untouched l s _ refl (untouched l s.rows s.rows refl);
  queues = λ order s. follows_queued l order s;
  leaves = λ blind m link s d at. follows_left l blind m link s at;
  acknowledges = λ count m link s d at few g. follows_set l m (acknowledged_link count link) s _ d refl (g.others l d);
  gives_up = λ sent cause m link s d at g. follows_untouched l s _ refl (g.others l d);
  gives_up_orders = λ cause m link s d at g. follows_untouched l s _ refl (g.others l d);
  takes_back = λ order from s unsent known g. follows_by l s _ refl (g.unack_same l);
  moves_off = λ told m link s d at. follows_off told l m link s d at;
  answers = λ m link s d at. follows_set l m (answered_link link) s _ d refl (untouched l s.rows s.rows refl);
  withdraws = λ count m link s d at g. follows_untouched l s _ refl (g.others l d);
  declares = λ may home alternative s up can. follows_new l _ (Waiting alternative) s (declared home alternative s) refl refl refl;
  redeclares = λ code via s due. follows_redeclared l code via s;
  acknowledges_back = λ code s d. follows_acknowledged l code s;
  releases = λ code s d. follows_released l code s;
  opens = λ m link s d at shut u. follows_set l m (opened_link link) s _ d refl (u.others l d);
}

-- THE LINK ITSELF SETTLES
judged_count : (reached : Reached) (l : ℕ) (link : LinkState) (s : State) → length (judged reached l link s).links ≡ length s.links
judged_count (Upto fsn) l link s = go (is_reasonable fsn l link s.rows) refl
  where
    go : (b : Bool) → is_reasonable fsn l link s.rows ≡ b → length (judged (Upto fsn) l link s).links ≡ length s.links
    go true e = rw e (length_set s.links l _)
    go false e = rw e refl
judged_count Unknown l link s = refl
judged_count Unanswered l link s = refl
judged_count Unasked l link s = refl

settles : (reached : Reached) (l : ℕ) (link : LinkState) (s t : State) → l < length s.links → Follows l t (settled reached l link s)
settles reached l link s t few =
    follows_settled l t (settled reached l link s) _
    (get_set_same (judged reached l link s).links l _ (rw (judged_count reached l link s) few)) refl

-- and one that settled may be answered
marks : (l : ℕ) (link : LinkState) (s : State) → slice_get s.links l ≡ Some link → Follows l s (with_link l (answered_link link) s)
marks l link s there = λ after found unsettled.
    let is : after ≡ answered_link link =
    same_at (slice_set s.links l (answered_link link)) l (answered_link link) after
    (get_set_same s.links l (answered_link link) (within s.links l link there)) found in
    record {
      link = link;
      there = there;
      unsettled = ap (λ (k : LinkState). has_phase_settled k.phase) (sym is) ∙ unsettled;
      control = ap (λ (k : LinkState). k.control) is;
      profile = ap (λ (k : LinkState). k.profile) is;
      acked = ap (λ (k : LinkState). k.acked) is;
      unack_same = refl;
    }

over_own : (reached : Reached) (l : ℕ) (link : LinkState) (phase : Phase) (s : State) → slice_get s.links l ≡ Some link
    → Follows l s (changed_over reached l link phase s).state
over_own reached l link Up s there =
    settles reached l (left_link false (given s) link) _ s
    (rw (length_set s.links l (left_link false (given s) link)) (within s.links l link there))
over_own reached l link Down s there = settles reached l link s s (within s.links l link there)
over_own reached l link Settled s there =
    let told = queued (reply_of l link) s in
    follows_then l s told (with_link l (answered_link link) told) (follows_queued l (reply_of l link) s) (marks l link told there)

answer_own : (reached : Reached) (l : ℕ) (link : LinkState) (phase : Phase) (s : State)
    → slice_get s.links l ≡ Some link → Follows l s (answered reached l link phase s).state
answer_own reached l link Up s there = follows_same l s
answer_own reached l link Down s there = settles reached l link s s (within s.links l link there)
answer_own reached l link Settled s there = follows_same l s

at_own : (l : ℕ) (s : State) (f : LinkState → Obeyed)
    → ((link : LinkState) → slice_get s.links l ≡ Some link → Follows l s (f link).state) → (there : Option LinkState)
    → slice_get s.links l ≡ there → Follows l s (at_link l s f there).state
at_own l s f all None e = follows_same l s
at_own l s f all (Some link) e = all link e

-- messages that waited for an acknowledgement go home
back_follows : (l code : ℕ) (c : Code) (s : State) → Follows l s (acknowledged_back code c s).state
back_follows l code Free s = follows_same l s
back_follows l code (Asked via declaration owed) s = follows_acknowledged l code s
back_follows l code (Spent owed) s = follows_acknowledged l code s

own : (order : Order) (s : State) → Follows (link_of order) s (order_obeyed order s).state
own (Coo l fsn) s = at_own l s _ (λ link there. over_own (Upto fsn) l link link.phase s there) (slice_get s.links l) refl
own (Eco l) s = at_own l s _ (λ link there. over_own Unknown l link link.phase s there) (slice_get s.links l) refl
own (Coa l fsn) s = at_own l s _ (λ link there. answer_own (Upto fsn) l link link.phase s there) (slice_get s.links l) refl
own (Eca l) s = at_own l s _ (λ link there. answer_own Unknown l link link.phase s there) (slice_get s.links l) refl
own (Cbd l code) s = follows_queued l (Cba l code) s
own (Cba l code) s = back_follows l code (code_of code s.routing) s

-- one that acknowledges no changeback touches its own link alone
about_own : (order : Order) → ((n code : ℕ) → order ≡ Cba n code → ⊥) → (m : ℕ) → Touches order m → link_of order ≡ m
about_own order none m (inl e) = e
about_own order none m (inr p) = absurd (none p.0 p.1 p.2)

other_follows : (l : ℕ) (order : Order) (s : State) → ((n code : ℕ) → order ≡ Cba n code → ⊥) → Follows l s (order_obeyed order s).state
other_follows l order s none = go (link_of order == l) refl
  where
    go : (b : Bool) → (link_of order == l) ≡ b → Follows l s (order_obeyed order s).state
    go false d = obeys_walks (λ m. (m == l) ≡ false) ⊥ (Follows l) (others l ⊥) order s
        (λ m e. subst (λ (k : ℕ). (k == l) ≡ false) (about_own order none m e) d)
    go true d = subst (λ (k : ℕ). Follows k s (order_obeyed order s).state) (eqb-true (link_of order) l d) (own order s)

order_follows : (l : ℕ) (order : Order) (s : State) → Follows l s (order_obeyed order s).state
order_follows l (Coo n fsn) s = other_follows l (Coo n fsn) s (λ m code e. absurd cc)
order_follows l (Eco n) s = other_follows l (Eco n) s (λ m code e. absurd cc)
order_follows l (Coa n fsn) s = other_follows l (Coa n fsn) s (λ m code e. absurd cc)
order_follows l (Eca n) s = other_follows l (Eca n) s (λ m code e. absurd cc)
order_follows l (Cbd n code) s = other_follows l (Cbd n code) s (λ m c e. absurd cc)
order_follows l (Cba n code) s = back_follows l code (code_of code s.routing) s

obeyed_follows : (l : ℕ) (order : Option Order) (s : State) → Follows l s (obeyed order s).state
obeyed_follows l None s = follows_same l s
obeyed_follows l (Some order) s = order_follows l order s

-- what becomes of an accepted body
pub takes_follows : (l : ℕ) (body : Option (List ℕ)) (s : State) → Follows l s (takes body s).state
takes_follows l None s = follows_same l s
takes_follows l (Some body) s = go (is_managements body) refl
  where
    go : (b : Bool) → is_managements body ≡ b → Follows l s (takes (Some body) s).state
    go true e = rw e (obeyed_follows l (order_of s.settings.profile body) s)
    go false e = rw e (follows_untouched l s _ refl (untouched l s.rows s.rows refl))

-- EVENTS
pub offered_unsent : (l : ℕ) (place : Place) (s : State) → is_unacked l (fate_at place s) ≡ false
offered_unsent l Nowhere s = refl
offered_unsent l (Changing to code via) s = refl
offered_unsent l (On m) s = go (is_open m s) refl
  where
    go : (b : Bool) → is_open m s ≡ b → is_unacked l (fate_at (On m) s) ≡ false
    go true e = rw e refl
    go false e = rw e refl

offer_goes : (l : ℕ) (s : State) (body : List ℕ) (refusal : Option SetRefusal) → Follows l s (offered refusal s body).state
offer_goes l s body None = follows_new l body (fate_at (place_of (stream_of body) s.routing) s) s _
    (offered_unsent l (place_of (stream_of body) s.routing) s) refl refl
offer_goes l s body (Some why) = follows_same l s

pub offer_follows : (l : ℕ) (s : State) (body : List ℕ) → Follows l s (step s (Offer body)).state
unfolding step
offer_follows l s body = offer_goes l s body (offer_refusal s.settings.profile s.rows body)

pub take_follows : (l : ℕ) (s : State) → Follows l s (step s Take).state
take_follows l s = follows_alone l s _ (leaves_alone l s Take (λ c. c))

pub find_follows : (l : ℕ) (s : State) (number : ℕ) → Follows l s (step s (Find number)).state
find_follows l s number = follows_alone l s _ (leaves_alone l s (Find number) (λ c. c))

pub test_follows : (l m : ℕ) (s : State) → Follows l s (step s (Test m)).state
test_follows l m s = follows_alone l s _ (leaves_alone l s (Test m) (λ c. c))

pub next_follows : (l m : ℕ) (s : State) → m ≢ l → Follows l s (step s (Next m)).state
next_follows l m s d = follows_alone l s _ (leaves_alone l s (Next m) d)

pub up_follows : (l m : ℕ) (s : State) → m ≢ l → Follows l s (step s (UpEvent m)).state
up_follows l m s d = follows_alone l s _ (leaves_alone l s (UpEvent m) d)

-- an event of a link in service
up_is : (phase : Phase) → has_phase_up phase ≡ true → phase ≡ Up
up_is Up e = refl
up_is Down e = absurd cc
up_is Settled e = absurd cc

in_goes : (l m : ℕ) (s : State) (f : LinkState → Outcome)
    → ((link : LinkState) → IsAt m link Up s → Follows l s (f link).state) → Follows l s (in_service m s f).state
in_goes l m s f all = go (slice_get s.links m) refl
  where
    at : (link : LinkState) → slice_get s.links m ≡ Some link → (b : Bool) → has_phase_up link.phase ≡ b → Follows l s (cond b (f link) (refused s NotUp)).state
    at link there true e = all link (record { there = there; phase_is = up_is link.phase e })
    at link there false e = follows_same l s

    go : (o : Option LinkState) → slice_get s.links m ≡ o
        → Follows l s (with_known o s (λ link. cond (has_phase_up link.phase) (f link) (refused s NotUp))).state
    go None e = follows_same l s
    go (Some link) e = at link e (has_phase_up link.phase) refl

falls_follow : (l : ℕ) (blind : Bool) (m : ℕ) (s : State) → Follows l s (in_service m s (falls blind m s)).state
falls_follow l blind m s = in_goes l m s (falls blind m s) (λ link at.
    let left = left_by blind m link s in
    follows_then l s left (queued (leaving_order blind m link) left) (follows_left l blind m link s at) (follows_queued l (leaving_order blind m link) left))

pub down_follows : (l m : ℕ) (s : State) → Follows l s (step s (DownEvent m)).state
unfolding step
down_follows l m s = falls_follow l false m s

pub blind_follows : (l m : ℕ) (s : State) → Follows l s (step s (DownBlind m)).state
unfolding step
blind_follows l m s = falls_follow l true m s

-- a link that is given up without an answer settles
given_up : (l m : ℕ) (s : State) (link : LinkState) → IsAt m link Down s → Follows l s (settled Unanswered m link s)
given_up l m s link at = go (m == l) refl
  where
    go : (b : Bool) → (m == l) ≡ b → Follows l s (settled Unanswered m link s)
    go true d = subst (λ (k : ℕ). Follows k s (settled Unanswered m link s)) (eqb-true m l d) (settles Unanswered m link s s (within s.links m link at.there))
    go false d = settle_walks (λ k. (k == l) ≡ false) ⊥ (Follows l) (others l ⊥) Unanswered m link s d at

give_goes : (l m : ℕ) (s : State) (link : LinkState) (phase : Phase) → IsAt m link phase s → Follows l s (gives_up m s link phase).state
give_goes l m s link Up at = follows_same l s
give_goes l m s link Settled at = follows_same l s
give_goes l m s link Down at = given_up l m s link at

on_goes : (l m : ℕ) (s : State) (f : LinkState → Outcome)
    → ((link : LinkState) → slice_get s.links m ≡ Some link → Follows l s (f link).state)
    → Follows l s (with_known (slice_get s.links m) s f).state
on_goes l m s f all = go (slice_get s.links m) refl
  where
    go : (o : Option LinkState) → slice_get s.links m ≡ o → Follows l s (with_known o s f).state
    go None e = follows_same l s
    go (Some link) e = all link e

pub unanswered_follows : (l m : ℕ) (s : State) → Follows l s (step s (NoAnswer m)).state
unfolding step
unanswered_follows l m s = on_goes l m s (λ link. gives_up m s link link.phase)
    (λ link there. give_goes l m s link link.phase (record { there = there; phase_is = refl }))

-- an order that never was sent is taken back, and its link settles
over_time : (l m : ℕ) (from : Fate) (s : State) (link : LinkState) → IsAt m link Down s → (waits from || is_parked from) ≡ true
    → Follows l s (over_by_time from m s link).state
over_time l m from s link at unsent =
    let back = taken_back link.order from s in
    follows_then l s back (settled Unasked m link back)
    (follows_by l s back refl ((taken_back_rows link.order from s.rows unsent).unack_same l)) (go (m == l) refl)
  where
    go : (b : Bool) → (m == l) ≡ b → Follows l (taken_back link.order from s) (settled Unasked m link (taken_back link.order from s))
    go true d = subst (λ (k : ℕ). Follows k (taken_back link.order from s) (settled Unasked m link (taken_back link.order from s))) (eqb-true m l d)
        (settles Unasked m link (taken_back link.order from s) (taken_back link.order from s) (within s.links m link at.there))
    go false d = settle_walks (λ k. (k == l) ≡ false) ⊥ (Follows l) (others l ⊥) Unasked m link (taken_back link.order from s) d (record { there = at.there; phase_is = at.phase_is })

time_goes : (l m : ℕ) (s : State) (link : LinkState) → IsAt m link Down s → (o : Option Fate) → Follows l s (timed o m s link).state
time_goes l m s link at None = follows_same l s
time_goes l m s link at (Some (Waiting to)) = over_time l m (Waiting to) s link at refl
time_goes l m s link at (Some Parked) = over_time l m Parked s link at refl
time_goes l m s link at (Some (Unacked to)) = follows_same l s
time_goes l m s link at (Some (Acked to)) = follows_same l s
time_goes l m s link at (Some (Held to)) = follows_same l s
time_goes l m s link at (Some (Back code)) = follows_same l s
time_goes l m s link at (Some (Discarded cause)) = follows_same l s

times_goes : (l m : ℕ) (s : State) (link : LinkState) (phase : Phase) → IsAt m link phase s → Follows l s (times_out m s link phase).state
times_goes l m s link Up at = follows_same l s
times_goes l m s link Settled at = follows_same l s
times_goes l m s link Down at = time_goes l m s link at (place link.order s.rows)

pub timed_follows : (l m : ℕ) (s : State) → Follows l s (step s (Timed m)).state
unfolding step
timed_follows l m s = on_goes l m s (λ link. times_out m s link link.phase)
    (λ link there. times_goes l m s link link.phase (record { there = there; phase_is = refl }))

-- changeback: declarations come to wait, and what stood back comes to wait at home
comes_goes : (l m : ℕ) (s : State) → is_open m s ≡ true → Follows l s (comes_back m s).state
comes_goes l m s is = go (some_declare m 0 (link_count s) s) refl
  where
    go : (b : Bool) → some_declare m 0 (link_count s) s ≡ b → Follows l s (comes_back m s).state
    go true e = rw e (declare_walks (λ k. (k == l) ≡ false) (Unit {0}) (Follows l) (others l (Unit {0})) tt m 0 (link_count s) s is)
    go false e = rw e (follows_same l s)

pub restore_follows : (l m : ℕ) (s : State) → Follows l s (step s (Restore m)).state
unfolding step
restore_follows l m s = in_goes l m s (restores m s) (λ link at.
    cond_both (open_link link) (comes_back m s) (refused s NotUp) (λ (o : Outcome). Follows l s o.state)
    (λ is. comes_goes l m s (ap link_is_open at.there ∙ is)) (λ shut. follows_same l s))

redeclares_goes : (l m : ℕ) (s : State) → Follows l s (redeclares m s).state
redeclares_goes l m s = cond_both (some_overdue (code_for m 0) 16 s) (record { answer = Done; state = redeclared_from (code_for m 0) 16 s }) (refused s Nothing)
    (λ (o : Outcome). Follows l s o.state)
    (λ e. again_walks (λ k. (k == l) ≡ false) ⊥ (Follows l) (others l ⊥) (code_for m 0) 16 s)
    (λ e. follows_same l s)

pub redeclare_follows : (l m : ℕ) (s : State) → Follows l s (step s (Redeclare m)).state
unfolding step
redeclare_follows l m s = on_goes l m s (λ link. redeclares m s) (λ link there. redeclares_goes l m s)

released_follow : (l code n : ℕ) (s : State) → Follows l s (released_from code n s)
released_follow l code zero s = follows_same l s
released_follow l code (suc n) s = follows_then l s (released code s) _ (follows_released l code s) (released_follow l (suc code) n (released code s))

runs_goes : (l m : ℕ) (s : State) → Follows l s (runs_out m s).state
runs_goes l m s = go (some_in_use (code_for m 0) 16 s) refl
  where
    go : (b : Bool) → some_in_use (code_for m 0) 16 s ≡ b → Follows l s (runs_out m s).state
    go true e = rw e (released_follow l (code_for m 0) 16 s)
    go false e = rw e (follows_same l s)

pub timeout_follows : (l m : ℕ) (s : State) → Follows l s (step s (BackTimeout m)).state
unfolding step
timeout_follows l m s = on_goes l m s (λ link. runs_out m s) (λ link there. runs_goes l m s)

-- a unit that is heard on another link
controls_follow : (l m : ℕ) (unit : SignalUnit) (s : State) (link : LinkState) → (m == l) ≡ false → Follows l s (controls unit m s link).state
controls_follow l m unit s link d =
    let part = part_of link.control (window_of m link s.rows) (header_in unit) (is_msu unit) in
    let mid = after_control part (header_in unit) unit m s link in
    follows_then l s mid (controls unit m s link).state
    (follows_set l m _ s mid d refl ((acknowledged m part.acked s.rows).others l d))
    (takes_follows l (brought part.accept unit) mid)

heard_goes : (l m : ℕ) (unit : SignalUnit) (s : State) (link : LinkState) → (m == l) ≡ false → Follows l s (heard unit m s link).state
heard_goes l m unit s link d = go (is_heard s.settings.profile unit) refl
  where
    go : (b : Bool) → is_heard s.settings.profile unit ≡ b → Follows l s (heard unit m s link).state
    go true e = rw e (controls_follow l m unit s link d)
    go false e = rw e (follows_same l s)

pub heard_follows : (l m : ℕ) (unit : SignalUnit) (s : State) → (m == l) ≡ false → Follows l s (step s (Heard m unit)).state
unfolding step
heard_follows l m unit s d = in_goes l m s (heard unit m s) (λ link at. heard_goes l m unit s link d)
