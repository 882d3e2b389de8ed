-- WHAT EACH EVENT OF AN END KEEPS of the orders under way, but hearing and coming up: it settles nothing and accepts
-- nothing (`Keeps`). A lemma for each: `offer_kept`, `take_kept`, `find_kept`, `down_kept`, `blind_kept` where there
-- may be emergencies, `restore_kept`, `redeclare_kept`, and `next_keeps` where no more was accepted than was sent. The case that matters
-- is Down, which queues an order: no other stood about that link, because it was up till then (`queues_both`,
-- Changes.antt). Induction is only on the alternatives of Restore (`declares_keep`). Used by Whole.antt, Ordered.antt
-- and Counted.antt, and by pair_streams's Acting.antt and Counting.antt.
use Rattle.std.proofs.Common.{refl, ◌≡◌, ◌∙◌, ap, sym, subst, ℕ, zero, suc, ◌<◌, ◌≤◌, ◌==◌, ◌+◌, ◌-◌, Bool, true, false, nat_lt, nat_le, List, [], ◌∷◌, length, slice_get, Option, Some, None, cond}
use Rattle.std.proofs.lemmas.Bool.{cond_both, eqb-true}
use Rattle.l3_orders.specs.declared.order.Order.TheVariants.{Cbd}
use Rattle.l3_orders.specs.Grammar.{text, order_any, link_of}
use Rattle.l2_units.specs.declared.profile.Profile.{Profile}
use Rattle.l2_units.specs.Profile.{longest_body}
use Rattle.l2_window.specs.Window.{fsn_before_first}
use Rattle.l2_window.proofs.Numbers.{below as cycle}
use Rattle.set_events.specs.declared.answer.Fate.{Fate}
use Rattle.set_events.specs.declared.answer.Fate.TheVariants.{Waiting, Unacked, Acked, Held, Parked, Back, Discarded}
use Rattle.set_events.specs.declared.answer.Refusal.{Refusal as SetRefusal}
use Rattle.set_events.specs.declared.answer.Refusal.TheVariants.{Nothing, NotUp, TooShort, TooLong, Reserved, StreamFull}
use Rattle.set_events.specs.declared.event.Event.TheVariants.{Offer, Take, Find, Down as DownEvent, DownBlind, Restore, Redeclare, Test}
use Rattle.set_route.specs.declared.place.Place.{Place}
use Rattle.set_route.specs.declared.place.Place.TheVariants.{On, Changing, Nowhere}
use Rattle.set_route.specs.Routing.{place_of, code_for, code_of, home_of}
use Rattle.set_model.specs.declared.phase.Phase.{Phase}
use Rattle.set_model.specs.declared.phase.Phase.TheVariants.{Up, Down, Settled}
use Rattle.set_model.specs.Rows.{Row, is_waiting, was_discarded, standing, unack, parked, place, stream_of, service_indicator, unsent, octets_in}
use Rattle.set_model.specs.Sound.{IsSound}
use Rattle.set_model.specs.State.{is_open, link_is_open, open_link, given, LinkState, State, Settings, link_count, is_up, is_settled, link_is_up, link_is_settled, has_phase_up, has_phase_settled, last_accepted, fate_at, target, window_of}
use Rattle.set_model.specs.Control.{Choice, again, first, fill, choice_of, control_after}
use Rattle.set_model.specs.Changeover.{fate_on, queued, leaving_order, left_link, left_by, can_declare, declared, declared_from, some_declare, overdue_via, redeclared_from, redeclared_if, redeclared_on}
use Rattle.set_model.specs.Step.{restores, Outcome, refused, offer_refusal, offered, taken, found, with_known, in_service, falls, comes_back, next, rows_sent, step}
use Rattle.set_model.proofs.Ahead.{put_out}
use Rattle.set_model.proofs.Events.{Untouched, untouched, sent, appended_out}
use Rattle.set_model.proofs.Rows.{turned_same}
use Rattle.set_model.proofs.SoundBack.{leaves, declares, redeclared_sound, alternative_open}
use Rattle.set_model.proofs.Walk.{IsAt, redeclared_at}
use Rattle.pair_changeover.proofs.Changes.{held_open, Both, acts, acts_none, stands_still, offers_acts, IsNew, to_wait, to_hold, to_park, to_back, held_none, queues_both, by_link, own_then}
use Rattle.pair_changeover.proofs.Leaving.{leaves_acts, leaves_discards, place_not_discarded}
use Rattle.pair_changeover.proofs.Obeying.{below, not_settled, not_discarded}
use Rattle.pair_changeover.proofs.Passing.{passing, passing_queues, far_stays}
use Rattle.pair_changeover.proofs.Table.{queue_sent}
use Rattle.pair_changeover.proofs.Texts.{AreCodes, coo_read, eco_read, cbd_plain, users_no_order}
use Rattle.pair_changeover.proofs.Views.{view, queue, pending, acked_of, acked_on, accepted_of, accepted_on, last_of, last_on, NoneAbout, Tells}

pub record Keeps (emergencies : Bool) (s t f : State) : Type 0 where
  pub both : Both emergencies s f → Both emergencies t f
  pub settled : (l : ℕ) → is_settled l t ≡ is_settled l s
  pub acked : (l : ℕ) → is_settled l s ≡ true → acked_on l t ≡ acked_on l s
  pub accepted : (l : ℕ) → accepted_on l t ≡ accepted_on l s
  pub discards : standing was_discarded t.rows ≡ standing was_discarded s.rows

-- the same rows and links
pub keeps_still : {emergencies : Bool} (s t f : State) → t.rows ≡ s.rows → t.links ≡ s.links → Keeps emergencies s t f
keeps_still s t f rows links = record {
  both = acts s t f (stands_still s t f rows links);
  settled = λ l. ap (λ (ls : List LinkState). link_is_settled (slice_get ls l)) links;
  acked = λ l e. ap (λ (ls : List LinkState). acked_of (slice_get ls l)) links;
  accepted = λ l. ap (λ (ls : List LinkState). accepted_of (slice_get ls l)) links;
  discards = ap (standing was_discarded) rows;
}

-- OFFER
pub users_body : (p : Profile) (rows : List Row) (body : List ℕ) → offer_refusal p rows body ≡ None → (service_indicator body == 0) ≡ false
users_body p rows body e = go (nat_lt (length body) 5) (nat_lt (longest_body p) (length body))
    (service_indicator body == 0) (nat_le 1024 (length (unsent (stream_of body) rows))) e
  where
    go : (a b c d : Bool) → ◌≡◌ {A = Option SetRefusal}
        (cond a (Some TooShort) (cond b (Some TooLong) (cond c (Some Reserved) (cond d (Some StreamFull) None)))) None
        → c ≡ false
    go true b c d e = absurd cc
    go false true c d e = absurd cc
    go false false true d e = absurd cc
    go false false false d e = refl

fate_new : (s : State) (body : List ℕ) (link : ℕ) → IsSound s → (place : Place) → IsNew 0 link (given s) s.rows body (fate_at place s)
fate_new s body link sound Nowhere = to_park
fate_new s body link sound (Changing to code via) = to_back code
fate_new s body link sound (On k) = go (is_open k s) refl
  where
    go : (b : Bool) → is_open k s ≡ b → IsNew 0 link (given s) s.rows body (cond b (Waiting k) (Held k))
    go true e = to_wait k (λ same. held_open s link sound (subst (λ (n : ℕ). is_open n s ≡ true) (eqb-true k link same) e))
    go false e = to_hold k

offer_keeps : {emergencies : Bool} (s f : State) (body : List ℕ) → IsSound s → (o : Option SetRefusal)
    → offer_refusal s.settings.profile s.rows body ≡ o → Keeps emergencies s (offered o s body).state f
offer_keeps s f body sound (Some why) e = keeps_still s s f refl refl
offer_keeps s f body sound None e =
    let fate = fate_at (place_of (stream_of body) s.routing) s in
    record {
      both = acts s (offered None s body).state f
          (offers_acts s f body fate (offered None s body).state refl refl
          (λ link. fate_new s body link sound (place_of (stream_of body) s.routing))
          (users_no_order body (users_body s.settings.profile s.rows body e)));
      settled = λ l. refl;
      acked = λ l g. refl;
      accepted = λ l. refl;
      discards = appended_out (given s) s.rows body fate was_discarded (place_not_discarded (place_of (stream_of body) s.routing) s);
    }

pub offer_kept : {emergencies : Bool} (s f : State) (body : List ℕ) → IsSound s → Keeps emergencies s (step s (Offer body)).state f
unfolding step
offer_kept s f body sound = offer_keeps s f body sound (offer_refusal s.settings.profile s.rows body) refl

-- TAKE and FIND
take_keeps : {emergencies : Bool} (s f : State) (inbox : List (List ℕ)) → Keeps emergencies s (taken inbox s).state f
take_keeps s f [] = keeps_still s s f refl refl
take_keeps s f (body ∷ rest) = keeps_still s (record s { inbox = rest }) f refl refl

pub take_kept : {emergencies : Bool} (s f : State) → Keeps emergencies s (step s Take).state f
unfolding step
take_kept s f = take_keeps s f s.inbox

find_keeps : {emergencies : Bool} (s f : State) (number : ℕ) (fate : Option Fate) → Keeps emergencies s (found fate number s).state f
find_keeps s f number None = keeps_still s s f refl refl
find_keeps s f number (Some fate) = keeps_still s s f refl refl

pub find_kept : {emergencies : Bool} (s f : State) (number : ℕ) → Keeps emergencies s (step s (Find number)).state f
unfolding step
find_kept s f number = find_keeps s f number (place number s.rows)

-- an event of a link in service
up_is : (phase : Phase) → has_phase_up phase ≡ true → phase ≡ Up
up_is Up e = refl
up_is Down e = absurd cc
up_is Settled e = absurd cc

in_keeps : {emergencies : Bool} (k : ℕ) (s f : State) (act : LinkState → Outcome)
    → ((link : LinkState) → IsAt k link Up s → Keeps emergencies s (act link).state f)
    → Keeps emergencies s (in_service k s act).state f
in_keeps {emergencies = emergencies} k s f act all = go (slice_get s.links k) refl
  where
    at : (link : LinkState) → slice_get s.links k ≡ Some link → (b : Bool) → has_phase_up link.phase ≡ b
        → Keeps emergencies s (cond b (act link) (refused s NotUp)).state f
    at link there true e = all link (record { there = there; phase_is = up_is link.phase e })
    at link there false e = keeps_still s s f refl refl

    go : (o : Option LinkState) → slice_get s.links k ≡ o
        → Keeps emergencies s (with_known o s
        (λ link. cond (has_phase_up link.phase) (act link) (refused s NotUp))).state f
    go None e = keeps_still s s f refl refl
    go (Some link) e = at link e (has_phase_up link.phase) refl

-- DOWN, and blindly where there may be emergencies
order_tells : (emergencies blind : Bool) (k : ℕ) (link : LinkState) (s f : State) → (blind ≡ true → emergencies ≡ true)
    → last_on k s ≡ last_accepted link → Tells emergencies (view s f) (leaving_order blind k link)
order_tells emergencies false k link s f may same = sym same
order_tells emergencies true k link s f may same = may refl

order_is_read : (blind : Bool) (k : ℕ) (link : LinkState) (settings : Settings) → AreCodes settings → k < 16
    → link.profile ≡ settings.profile
    → order_any (text settings.profile (leaving_order blind k link) settings.sio settings.dpc settings.opc)
    ≡ Some (leaving_order blind k link)
order_is_read false k link settings codes few same =
    coo_read settings k (last_accepted link) codes few
    (rw (← same) (cycle link.profile (link.accepted + fsn_before_first link.profile)))
order_is_read true k link settings codes few same = eco_read settings k codes few

link_is_left : (blind : Bool) (k : ℕ) (link : LinkState) → link_of (leaving_order blind k link) ≡ k
link_is_left false k link = refl
link_is_left true k link = refl

down_at : {emergencies : Bool} (blind : Bool) (k : ℕ) (link : LinkState) (s f : State)
    → (blind ≡ true → emergencies ≡ true) → IsSound s → AreCodes s.settings → IsAt k link Up s
    → Keeps emergencies s (queued (leaving_order blind k link) (left_by blind k link s)) f
down_at {emergencies = emergencies} blind k link s f may sound codes at =
    let order = leaving_order blind k link in
    let left = left_by blind k link s in
    let there = own_then k link (left_link blind (given s) link) s left at.there refl in
    let all = by_link k link (left_link blind (given s) link) s left at.there refl in
    let up : is_up k s ≡ true = ap link_is_up at.there ∙ ap has_phase_up at.phase_is in
    let was : link_is_settled (Some link) ≡ false = ap has_phase_settled at.phase_is in
    let left_does = leaves_acts blind k link s f sound at in
    let of = link_is_left blind k link in
    record {
      both = λ o. queues_both left f order (leaves blind k link s at sound) (acts s left f left_does o)
          (order_is_read blind k link s.settings codes (below k link s f sound codes at) ((sound.links k link at.there).profile))
          (order_tells emergencies blind k link left f may (ap last_of there))
          (subst (λ (n : ℕ). NoneAbout n (view left f)) (sym of) (acts_none s left f left_does k (o.near.none_up k up)))
          (subst (λ (n : ℕ). is_up n left ≡ false) (sym of) (ap link_is_up there))
          (subst (λ (n : ℕ). is_settled n f ≡ false) (sym of) (not_settled k link s f sound codes at (is_settled k f) (is_up k s) (o.far.apart k) up));
      settled = all (λ n old new. link_is_settled new ≡ link_is_settled old) (sym was) (λ n old d. refl);
      acked = λ l e. all (λ n old new. acked_of new ≡ acked_of old) refl (λ n old d. refl) l;
      accepted = all (λ n old new. accepted_of new ≡ accepted_of old) refl (λ n old d. refl);
      discards = put_out (λ (row : Row). was_discarded row.fate) (given left) left.rows
          (text s.settings.profile order s.settings.sio s.settings.dpc s.settings.opc) (fate_on (target left.links))
          (not_discarded (target left.links)) ∙ leaves_discards blind k link s f sound at;
    }

pub down_kept : {emergencies : Bool} (k : ℕ) (s f : State) → IsSound s → AreCodes s.settings → Keeps emergencies s (step s (DownEvent k)).state f
unfolding step
down_kept k s f sound codes = in_keeps k s f (falls false k s) (λ link at. down_at false k link s f (λ e. absurd cc) sound codes at)

pub blind_kept : {emergencies : Bool} (k : ℕ) (s f : State) → emergencies ≡ true → IsSound s → AreCodes s.settings
    → Keeps emergencies s (step s (DownBlind k)).state f
unfolding step
blind_kept k s f may sound codes = in_keeps k s f (falls true k s) (λ link at. down_at true k link s f (λ e. may) sound codes at)

-- RESTORE: declarations come to wait for links that are up
keeps_then : {emergencies : Bool} (s t u f : State) → Keeps emergencies s t f → Keeps emergencies t u f → Keeps emergencies s u f
keeps_then s t u f p q = record {
  both = λ o. q.both (p.both o);
  settled = λ l. q.settled l ∙ p.settled l;
  acked = λ l e. q.acked l (p.settled l ∙ e) ∙ p.acked l e;
  accepted = λ l. q.accepted l ∙ p.accepted l;
  discards = q.discards ∙ p.discards;
}

declared_keeps : {emergencies : Bool} (home alternative : ℕ) (s f : State) → IsSound s
    → can_declare home alternative s ≡ true → Keeps emergencies s (declared home alternative s) f
declared_keeps home alternative s f sound can =
    let body = text s.settings.profile (Cbd home (code_for home alternative)) s.settings.sio s.settings.dpc s.settings.opc in
    record {
      both = acts s (declared home alternative s) f (offers_acts s f body (Waiting alternative) (declared home alternative s) refl refl
          (λ link. to_wait alternative (λ same. held_open s link sound
          (subst (λ (n : ℕ). is_open n s ≡ true) (eqb-true alternative link same)
          (alternative_open home alternative s can))))
          (cbd_plain s.settings home (code_for home alternative)));
      settled = λ l. refl;
      acked = λ l g. refl;
      accepted = λ l. refl;
      discards = appended_out (given s) s.rows body (Waiting alternative) was_discarded refl;
    }

declares_keep : {emergencies : Bool} (home alternative n : ℕ) (s f : State) → IsSound s → is_open home s ≡ true
    → Keeps emergencies s (declared_from home alternative n s) f
declares_keep {emergencies = emergencies} home alternative zero s f sound up = keeps_still s s f refl refl
declares_keep {emergencies = emergencies} home alternative (suc n) s f sound up =
    go (can_declare home alternative s) refl (λ t still rising. declares_keep home (suc alternative) n t f still rising)
  where
    go : (b : Bool) → can_declare home alternative s ≡ b
        → ((t : State) → IsSound t → is_open home t ≡ true
        → Keeps emergencies t (declared_from home (suc alternative) n t) f)
        → Keeps emergencies s (declared_from home alternative (suc n) s) f
    go true e later = rw e (keeps_then s (declared home alternative s) _ f (declared_keeps home alternative s f sound e)
        (later (declared home alternative s) (declares home alternative s up e sound) up))
    go false e later = rw e (later s sound up)

comes_keep : {emergencies : Bool} (k : ℕ) (s f : State) → IsSound s → is_open k s ≡ true → Keeps emergencies s (comes_back k s).state f
comes_keep {emergencies = emergencies} k s f sound up = go (some_declare k 0 (link_count s) s) refl
  where
    go : (b : Bool) → some_declare k 0 (link_count s) s ≡ b → Keeps emergencies s (comes_back k s).state f
    go true e = rw e (declares_keep k 0 (link_count s) s f sound up)
    go false e = rw e (keeps_still s s f refl refl)

pub restore_kept : {emergencies : Bool} (k : ℕ) (s f : State) → IsSound s → Keeps emergencies s (step s (Restore k)).state f
unfolding step
restore_kept {emergencies = emergencies} k s f sound = in_keeps k s f (restores k s) (λ link at.
    cond_both (open_link link) (comes_back k s) (refused s NotUp) (λ (o : Outcome). Keeps emergencies s o.state f)
    (λ is. comes_keep k s f sound (ap link_is_open at.there ∙ is)) (λ shut. keeps_still s s f refl refl))

-- REDECLARE: declarations come to wait for links that are up, or to be held for one that was left
redeclared_keeps : {emergencies : Bool} (code : ℕ) (due : Option ℕ) (s f : State) → IsSound s → Keeps emergencies s (redeclared_on code due s) f
redeclared_keeps code None s f sound = keeps_still s s f refl refl
redeclared_keeps code (Some via) s f sound =
    let body = text s.settings.profile (Cbd (home_of code) code) s.settings.sio s.settings.dpc s.settings.opc in
    record {
      both = acts s (redeclared_on code (Some via) s) f (offers_acts s f body (fate_at (On via) s) (redeclared_on code (Some via) s) refl refl
          (λ link. fate_new s body link sound (On via)) (cbd_plain s.settings (home_of code) code));
      settled = λ l. refl;
      acked = λ l g. refl;
      accepted = λ l. refl;
      discards = appended_out (given s) s.rows body (fate_at (On via) s) was_discarded (place_not_discarded (On via) s);
    }

redeclares_keep : {emergencies : Bool} (code n : ℕ) (s f : State) → IsSound s → Keeps emergencies s (redeclared_from code n s) f
redeclares_keep code zero s f sound = keeps_still s s f refl refl
redeclares_keep code (suc n) s f sound =
    keeps_then s (redeclared_if code s) _ f (redeclared_keeps code (overdue_via (code_of code s.routing) s.rows) s f sound)
    (redeclares_keep (suc code) n (redeclared_if code s) f (redeclared_sound code (overdue_via (code_of code s.routing) s.rows) s refl sound))

pub redeclare_kept : {emergencies : Bool} (k : ℕ) (s f : State) → IsSound s → Keeps emergencies s (step s (Redeclare k)).state f
unfolding step
redeclare_kept {emergencies = emergencies} k s f sound =
    redeclared_at s (λ a b. a ≡ a) (λ t. Keeps emergencies s t f) k (slice_get s.links k) (keeps_still s s f refl refl)
    (redeclares_keep (code_for k 0) 16 s f sound)

pub test_kept : {emergencies : Bool} (k : ℕ) (s f : State) → Keeps emergencies s (step s (Test k)).state f
unfolding step
test_kept k s f = in_keeps k s f (λ link. refused s Nothing) (λ link at. keeps_still s s f refl refl)

-- NEXT, where no more was accepted than was sent
record Unmoved (k count : ℕ) (rows new : List Row) : Type 0 where
  own : queue count k new ≡ queue count k rows
  others : (l : ℕ) → (k == l) ≡ false → Untouched l rows new
  parked_same : parked new ≡ parked rows
  discards : standing was_discarded new ≡ standing was_discarded rows

waiting_not_discarded : (k : ℕ) (fate : Fate) → is_waiting k fate ≡ true → was_discarded fate ≡ false
waiting_not_discarded k (Waiting n) e = refl
waiting_not_discarded k (Unacked n) e = refl
waiting_not_discarded k (Acked n) e = refl
waiting_not_discarded k (Held n) e = refl
waiting_not_discarded k Parked e = refl
waiting_not_discarded k (Back code) e = refl
waiting_not_discarded k (Discarded cause) e = absurd cc

unmoved : (k count : ℕ) (rows : List Row) → Unmoved k count rows rows
unmoved k count rows = record { own = refl; others = λ l d. untouched l rows rows refl; parked_same = refl; discards = refl }

sent_unmoved : (k count : ℕ) (link : LinkState) (s : State) → IsSound s → IsAt k link Up s
    → count ≤ length (unack k s.rows) → (choice : Choice) → Unmoved k count s.rows (rows_sent choice k s.rows)
sent_unmoved k count link s sound at few (again place) = unmoved k count s.rows
sent_unmoved k count link s sound at few fill = unmoved k count s.rows
sent_unmoved k count link s sound at few first =
    let order = (sound.links k link at.there).in_order in
    let does = sent k s.rows in
    record {
      own = queue_sent count k s.rows order few;
      others = does.others;
      parked_same = does.parked_same;
      discards = turned_same (is_waiting k) was_discarded (Unacked k) refl (λ fate e. waiting_not_discarded k fate e) 1 s.rows;
    }

-- no queue changes, nor what is aside
pub next_queues : (k : ℕ) (link : LinkState) (s f : State) → IsSound s → IsAt k link Up s
    → accepted_on k f - link.acked ≤ length (unack k s.rows) → (l : ℕ)
    → pending l (next k s link).state f ≡ pending l s f
next_queues k link s f sound at few =
    let choice = choice_of (octets_in (unack k s.rows)) link.control (window_of k link s.rows) in
    let link' : LinkState = record link { control = control_after choice (octets_in (unack k s.rows)) link.control (window_of k link s.rows) } in
    let t = (next k s link).state in
    let u = sent_unmoved k (accepted_on k f - link.acked) link s sound at few choice in
    passing_queues k link link' s t f at refl at.phase_is u.own u.others u.parked_same (far_stays k link link' s t f at.there refl refl)

pub next_aside : (k : ℕ) (link : LinkState) (s : State) → parked (next k s link).state.rows ≡ parked s.rows
next_aside k link s = go (choice_of (octets_in (unack k s.rows)) link.control (window_of k link s.rows))
  where
    go : (choice : Choice) → parked (rows_sent choice k s.rows) ≡ parked s.rows
    go (again place) = refl
    go first = (sent k s.rows).parked_same
    go fill = refl

pub next_keeps : {emergencies : Bool} (k : ℕ) (link : LinkState) (s f : State) → IsSound s → IsAt k link Up s
    → accepted_on k f - link.acked ≤ length (unack k s.rows) → Keeps emergencies s (next k s link).state f
next_keeps k link s f sound at few =
    let choice = choice_of (octets_in (unack k s.rows)) link.control (window_of k link s.rows) in
    let link' : LinkState = record link { control = control_after choice (octets_in (unack k s.rows)) link.control (window_of k link s.rows) } in
    let t = (next k s link).state in
    let u = sent_unmoved k (accepted_on k f - link.acked) link s sound at few choice in
    let all = by_link k link link' s t at.there refl in
    record {
      both = acts s t f (passing k link link' s t f at refl at.phase_is u.own u.others u.parked_same (far_stays k link link' s t f at.there refl refl));
      settled = all (λ n old new. link_is_settled new ≡ link_is_settled old) refl (λ n old d. refl);
      acked = λ l e. all (λ n old new. acked_of new ≡ acked_of old) refl (λ n old d. refl) l;
      accepted = all (λ n old new. accepted_of new ≡ accepted_of old) refl (λ n old d. refl);
      discards = u.discards;
    }
