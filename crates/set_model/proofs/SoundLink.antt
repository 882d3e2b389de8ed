-- WHAT HOLDS OF EVERY STATE is kept by a change of one link, or by a new row: by sending and hearing (`sends_sound`,
-- `hears_sound`), on a link that was left (`acknowledges`, `gives_up`), by what is given up before it's sent
-- (`withdraws`), a late order (`answers`), an order and an offer (`queues`, `offers`). Rows change in their places, so
-- the other links see nothing (`changes`); the link's own window stays within its bound, its cursor in range
-- (`range_heard`), and the FSN that it expects is its count of accepted bodies, modulo the FSNs (`expected_heard`). A
-- new row stands last (`appended_sound`). No induction. Used by Soundness.antt and SoundBack.antt.
use Rattle.std.proofs.Common.{not, arith, ◌||◌, ◌≡◌, ◌≢◌, ◌<◌, ◌≤◌, ℕ, ◌+◌, ◌%◌, Bool, length, drop, refl, ◌∙◌, ap, sym, subst, ◌==◌, true, false, List, [], ◌++◌, map, slice_get, slice_set, Some, cond, ◌∷◌, None, Option}
use Rattle.std.proofs.lemmas.List.{length-drop, append-nil, length-map, length-append, length-set, length-take}
use Rattle.std.proofs.lemmas.Bool.Decides.{nat_tests}
use Rattle.std.proofs.lemmas.Option.{none-some}
use Rattle.l2_window.specs.Window.{WindowState, fsn_count, most_unacked}
use Rattle.l2_units.specs.Profile.{longest_body}
use Rattle.set_model.specs.Control.{Header, Choice, Control, acked_by, choice_of, control_heard, first, expected_of, part_of, Basic, Cyclic}
use Rattle.set_model.specs.Sound.{IsInRange, IsOf, IsPlaced, IsSound, IsSoundCode, IsSoundLink, AreBack, IsBackOf}
use Rattle.std.proofs.lemmas.List.Elements.{filter-append}
use Rattle.l2_units.specs.Grammar.{head_of as header_in}
use Rattle.set_route.specs.Routing.{IsRouting, Routing, accepted, code_of, home_of, owed_under, place_of, via_of}
use Rattle.set_model.specs.Changeover.{acknowledged_by, answered_link, Order, fate_on, queued, taken_back, withdrawn}
use Rattle.set_model.specs.Rows.{IsNumbered, AreFit, AreMarked, is_managements, DiscardCause, Fate, Discarded, Row, changed, fated, held, users, is_held, is_on, is_parked, is_unacked, is_waiting, moved, octets_in, on, orders_changed, standing, stands_back, unack, wait, Back, back, appended, put_ahead, parked, same_fate, service_indicator, stream_of, IsInOrder, IsHeldLast}
use Rattle.set_model.specs.State.{Code, all_finished, given, Place, Changing, Nowhere, On, Down, Up, Settled, LinkState, State, Settings, with_link, has_phase_settled, has_phase_up, link_is_open, open_link, opens_in, carries, carries_in, Phase, window_of, fate_at, target}
use Rattle.set_model.specs.Step.{Event, Offer, SignalUnit, choice_in, controlled, is_msu, one_if, part_in, next, rows_sent, offer_refusal, offered}
use Rattle.set_model.proofs.Order.{backs_of, stood, before_append, before_none, neither, gone_none, coded_at, ascends_appended}
use Rattle.set_model.proofs.Events.{TakenBack, orders_given_up_unack, Untouched, sent, acknowledged, ChangesOn, sent_by, untouched, appended_out, withdrawn_unack}
use Rattle.set_model.proofs.Rows.{each_append, none_within, each_filter, each_so, turned_there, others_stay, new_row, numbered_appended, numbered_on}
use Rattle.set_model.proofs.Lists.{opens_up, at_set, each_set, get_set_same, get_set_other, same_at, set_same, within, target_open, none_open}
use Rattle.set_model.proofs.Places.{false_true, stream_below_16}
use Rattle.set_model.proofs.Walk.{IsAt}
use Rattle.set_model.proofs.Ahead.{each_put, numbered_put, put_apart, put_before, put_length}
use Rattle.l3_orders.specs.Grammar.{text}
use Rattle.l2_window.proofs.Numbers.{after_next}
use Rattle.l2_units.specs.declared.profile.Profile.{Profile}
use Rattle.std.specs.Prelude.{if◌then◌else◌}
use Rattle.set_model.specs.Step.{one_if}
use Rattle.set_route.proofs.Alone.{alone}
use Rattle.set_route.proofs.Places.{accepted_sound}

-- a first sending is chosen only where something waits, and fewer than 127 are unacknowledged
pub first_chosen : (o : ℕ) (control : Control) (w : WindowState) → choice_of o control w ≡ first → (0 < length w.unsent)
    × (length w.unacked < most_unacked w.profile)
first_chosen o control w e = grind (arith, nat_tests)

-- the cursor, or the place in the cycle
pub range_heard : (control : Control) (w : WindowState) (head : Header) (msu : Bool)
    → IsInRange control (length w.unacked)
    → IsInRange (control_heard control w head msu) (length (drop (acked_by control w head) w.unacked))
range_heard control w head msu r = grind (arith, length-drop)

-- THE NUMBER THAT IS EXPECTED is that of the count of accepted bodies, before a unit and after it.
after_one : (p : Profile) (fsn expected accepted : ℕ) (b : Bool) → expected ≡ accepted % fsn_count p
    → (b ≡ true → fsn ≡ expected) → (if b then (fsn + 1) % fsn_count p else expected)
    ≡ (accepted + one_if b) % fsn_count p
after_one p fsn expected accepted true e f = after_next p fsn accepted (f refl ∙ e)
after_one p fsn expected accepted false e f = e ∙ ap (λ (n : ℕ). n % fsn_count p) (omega arith)

is_expected : (control : Control) (w : WindowState) (head : Header) (msu : Bool) → (part_of control w head msu).accept ≡ true → head.fsn ≡ expected_of control
is_expected control w head msu e = grind (arith, nat_tests)

expected_heard : (control : Control) (w : WindowState) (head : Header) (msu : Bool) (accepted : ℕ)
    → expected_of control ≡ accepted % fsn_count w.profile
    → expected_of (control_heard control w head msu)
    ≡ (accepted + one_if (part_of control w head msu).accept) % fsn_count w.profile
expected_heard (Basic s) w head msu accepted e =
    after_one w.profile head.fsn s.expected accepted (part_of (Basic s) w head msu).accept e
    (is_expected (Basic s) w head msu)
expected_heard (Cyclic s) w head msu accepted e =
    after_one w.profile head.fsn s.expected accepted (part_of (Cyclic s) w head msu).accept e
    (is_expected (Cyclic s) w head msu)

-- WHAT HOLDS OF EVERY STATE is kept by a change of one link; the others don't see how its rows change.
pub links_set : (m : Settings) (links : List LinkState) (n : ℕ) (link : LinkState) (rows new : List Row)
    → IsSoundLink m n link new → ((k : ℕ) → (n == k) ≡ false → Untouched k rows new)
    → ((k : ℕ) (other : LinkState) → slice_get links k ≡ Some other → IsSoundLink m k other rows)
    → (k : ℕ) (other : LinkState) → slice_get (slice_set links n link) k ≡ Some other → IsSoundLink m k other new
links_set m links n link rows new one others all =
    each_set (λ k other. IsSoundLink m k other new) links n link one
    (λ k other d there. let u = others k d in let l = all k other there in grind arith)

-- a place stays one, where the link that changes can carry streams
pub placed_set : (links : List LinkState) (n : ℕ) (link link' : LinkState) (place : Place)
    → slice_get links n ≡ Some link → (carries link ≡ true → carries link' ≡ true) → IsPlaced links place
    → IsPlaced (slice_set links n link') place
placed_set links n link link' Nowhere there stays p = tt
placed_set links n link link' (On l) there stays p =
    (cond (n == l) link' p.0, grind (arith, nat_tests, get_set_same, get_set_other, within, p.1), grind (arith, nat_tests, same_at, stays, p.1, p.2))
placed_set links n link link' (Changing to code l) there stays p =
    (cond (n == l) link' p.0, grind (arith, nat_tests, get_set_same, get_set_other, within, p.1), grind (arith, nat_tests, same_at, stays, p.1, p.2))

-- what is so while a link is open stays so, where the one that changes isn't open anew
pub open_before : {X : Type 0} (links : List LinkState) (n : ℕ) (link link' : LinkState) → slice_get links n ≡ Some link
    → (open_link link' ≡ true → open_link link ≡ true)
    → ((k : ℕ) (old : LinkState) → slice_get links k ≡ Some old → open_link old ≡ true → X)
    → (k : ℕ) (other : LinkState) → slice_get (slice_set links n link') k ≡ Some other → open_link other ≡ true
    → X
open_before links n link link' there same so k other at o = grind (arith, at_set)

-- and one that was open is, where the one that changes stays so
pub open_after : (links : List LinkState) (n : ℕ) (link link' : LinkState) → slice_get links n ≡ Some link
    → (open_link link ≡ true → open_link link' ≡ true) → (k : ℕ)
    → link_is_open (slice_get links k) ≡ true → link_is_open (slice_get (slice_set links n link') k) ≡ true
open_after links n link link' there stays k o = grind (arith, nat_tests, get_set_same, within, get_set_other)

-- A CODE stands where its links do, and a message more or less was given out
pub code_kept : (links new : List LinkState) (given more code : ℕ) (was : Code)
    → (link_is_open (slice_get links (home_of code)) ≡ true → link_is_open (slice_get new (home_of code)) ≡ true)
    → ((via : ℕ) → IsPlaced links (On via) → IsPlaced new (On via)) → given ≤ more
    → IsSoundCode links given code was → IsSoundCode new more code was
code_kept links new given more code was stays placed grows c = record {
  home_open = λ via e. stays (c.home_open via e);
  via_stands = λ via e. placed via (c.via_stands via e);
  few = omega (arith, c.few, grows);
}

-- one that isn't open says nothing of links
pub code_closed : (links : List LinkState) (given code : ℕ) (was : Code) → via_of was ≡ None → owed_under was ≤ given → IsSoundCode links given code was
code_closed links given code was closed few = record {
  home_open = λ via e. absurd (none-some via (sym closed ∙ e));
  via_stands = λ via e. absurd (none-some via (sym closed ∙ e));
  few = few;
}

-- A CHANGE OF ONE LINK, with rows that change in their places, none of them parked, nor back.
changes : (n : ℕ) (link link' : LinkState) (s : State) (new : List Row) → IsSound s → slice_get s.links n ≡ Some link
    → link'.phase ≡ link.phase → link'.tested ≡ link.tested → has_phase_settled link.phase ≡ false → ChangesOn n s.rows new
    → link'.profile ≡ s.settings.profile → length (unack n new) ≤ most_unacked link'.profile
    → expected_of link'.control ≡ link'.accepted % fsn_count link'.profile → IsOf s.settings.method link'.control
    → (has_phase_up link'.phase ≡ true → IsInRange link'.control (length (unack n new))) → IsSound (record s { links = slice_set s.links n link'; rows = new })
changes n link link' s new t there same tests unsettled g profile few counted method range =
    let l = t.links n link there in
    let up = ap has_phase_up same in
    let settled = ap has_phase_settled same ∙ unsettled in
    let carried : carries link' ≡ carries link = rw (same, tests) refl in
    let opens : open_link link' ≡ open_link link = rw (same, tests) refl in
    let one : IsSoundLink s.settings n link' new =
    record {
      profile = profile;
      window = few;
      counted = counted;
      method = method;
      in_order = g.order_kept l.in_order;
      held_last = g.last_kept l.held_last;
      none_held = λ e. g.held_same ∙ l.none_held (sym up ∙ e);
      no_users = λ e shut. g.no_users (l.no_users (sym up ∙ e) (sym opens ∙ shut));
      in_range = range;
      settled = λ e. false_true (has_phase_settled link'.phase) settled e;
    } in
    let aside = open_before s.links n link link' there (λ e. sym opens ∙ e) (λ k old here rising. g.parked_same ∙ t.none_aside k old here rising) in
    let run = open_before s.links n link link' there (λ e. sym opens ∙ e) t.all_run in
    let stays = open_after s.links n link link' there (λ e. opens ∙ e) in
    let links = links_set s.settings s.links n link' s.rows new one g.others t.links in
    let backs = backs_of s.routing new
    (subst (AreBack s.routing) (sym g.back_same)
    (each_filter (λ row. IsBackOf s.routing row row.fate) (λ row. IsBackOf s.routing row row.fate)
    (λ row. stands_back row.fate) (λ x e b. b) s.rows t.backs)) in
    let numbered = numbered_on (all_finished s.finished) s.rows new g.kept.count (g.kept.numbered (given s) t.numbered) in
    let more : given s ≤ all_finished s.finished + length new = omega (arith, g.kept.count) in
    let codes = λ (code : ℕ). code_kept s.links (slice_set s.links n link') (given s) (all_finished s.finished + length new) code (code_of code s.routing)
    (stays (home_of code)) (λ via. placed_set s.links n link link' (On via) there (λ e. carried ∙ e)) more (t.codes code) in
    let placed = λ (k : ℕ) (low : k < 16). placed_set s.links n link link' (place_of k s.routing) there (λ e. carried ∙ e) (t.placed k low) in
    search (length-set, numbered, g.kept.fit s.settings.profile, g.kept.marked, placed, codes, backs, g.back_same)

-- the inbox is no part of it
pub with_inbox : (s : State) (inbox : List (List ℕ)) → IsSound s → IsSound (record s { inbox = inbox })
with_inbox s inbox t = assumption

-- a link that isn't open, though it's up, carries nothing, nor does one that settled
pub shut_in : (link : LinkState) → has_phase_up link.phase ≡ true → open_link link ≡ false → carries link ≡ false
shut_in link up shut = grind arith

-- one that is open carries streams
pub carried_open : (link : LinkState) → open_link link ≡ true → carries link ≡ true
carried_open link o = of link.tested link.phase o
  where
    of : (tested : Bool) (phase : Phase) → opens_in tested phase ≡ true → carries_in tested phase ≡ true
    of tested Up o = o
    of tested Down o = refl
    of tested Settled o = absurd cc

-- and is up
pub open_up : (link : LinkState) → open_link link ≡ true → has_phase_up link.phase ≡ true
open_up link o = opens_up link.tested link.phase o

-- one that carries nothing isn't open
pub shut_of : (link : LinkState) → carries link ≡ false → open_link link ≡ false
shut_of link c = go (open_link link) refl
  where
    go : (o : Bool) → open_link link ≡ o → open_link link ≡ false
    go false e = e
    go true e = false_true (carries link) c (carried_open link e)

pub settled_in : (link : LinkState) → has_phase_settled link.phase ≡ true → carries link ≡ false
settled_in link e = grind arith

-- ROWS THAT COME TO STAND LAST, behind those that a link has.
module _ (m : Settings) (k : ℕ) (link : LinkState) (rows come : List Row) (sent : unack k come ≡ [])
    (holds : open_link link ≡ true → held k come ≡ [])
    (waits : open_link link ≡ false → wait k come ≡ [])
    (gone : carries link ≡ false → on k come ≡ []) where
  -- nothing comes to be held for a link that is up
  none_come : has_phase_up link.phase ≡ true → held k come ≡ []
  none_come up = go (open_link link) refl
    where
      go : (o : Bool) → open_link link ≡ o → held k come ≡ []
      go true e = holds e
      go false e = none_within (is_held k) (is_on k) (λ f h. grind arith) come (gone (shut_in link up e))

  pub link_more : (base : List Row) → on k base ≡ on k rows → IsSoundLink m k link rows → IsSoundLink m k link (base ++ come)
  link_more base same l =
      let u = untouched k rows base same in
      let none = neither (is_unacked k) (is_waiting k) come sent in
      let unheld = none_come in
      let shut : has_phase_up link.phase ≡ true → open_link link ≡ false → on k (base ++ come) ≡ on k rows =
      λ up e. filter-append (λ (row : Row). is_on k row.fate) base come ∙ ap (λ (ys : List Row). on k base ++ ys) (gone (shut_in link up e)) ∙ append-nil (on k base) ∙ same in
      let users_none : has_phase_up link.phase ≡ true → open_link link ≡ false → users (on k (base ++ come)) ≡ [] = λ up e. ap users (shut up e) ∙ l.no_users up e in
      let left : has_phase_settled link.phase ≡ true → on k come ≡ [] = λ e. gone (settled_in link e) in
      grind (arith, filter-append, append-nil, none, before_append, before_none, unheld, users_none, left)

-- OR ONE THAT IS PUT AHEAD of users' messages, to wait for a link that is open, or to be parked
pub link_put : (m : Settings) (k : ℕ) (link : LinkState) (number : ℕ) (rows : List Row) (body : List ℕ) (fate : Fate)
    → ((f : Fate) → same_fate f fate ≡ true → f ≡ fate) → (is_unacked k fate ≡ false) → (is_held k fate ≡ false)
    → (is_waiting k fate ≡ true → has_phase_up link.phase ≡ true)
    → (carries link ≡ false → is_on k fate ≡ false)
    → IsSoundLink m k link rows → IsSoundLink m k link (put_ahead number rows body fate)
link_put m k link number rows body fate one unsent unheld waits gone l =
    let out = put_apart number rows body fate in
    let sent : unack k (put_ahead number rows body fate) ≡ unack k rows = out (is_unacked k) unsent in
    let holds : held k (put_ahead number rows body fate) ≡ held k rows = out (is_held k) unheld in
    let order : IsInOrder k (put_ahead number rows body fate) =
    put_before (is_unacked k) (is_waiting k) number body fate (λ w. unsent) one rows (λ u. absurd (let no : false ≡ true = sym unsent ∙ u in cc)) l.in_order in
    let last : IsHeldLast k (put_ahead number rows body fate) =
    put_before (λ f. is_unacked k f || is_waiting k f) (is_held k) number body fate
    (λ h. absurd (let no : false ≡ true = sym unheld ∙ h in cc)) one rows
    (λ u. l.none_held (waits (grind (arith, unsent)))) l.held_last in
    record {
      profile = l.profile;
      window = rw sent l.window;
      counted = l.counted;
      method = l.method;
      in_order = order;
      held_last = last;
      none_held = λ up. holds ∙ l.none_held up;
      no_users = λ up shut. ap users (out (is_on k) (gone (shut_in link up shut))) ∙ l.no_users up shut;
      in_range = λ up. rw sent (l.in_range up);
      settled = λ e. out (is_on k) (gone (settled_in link e)) ∙ l.settled e;
    }

-- those that move leave the others where they were; of what goes it is known that its stream is on its way back
pub link_moved : (m : Settings) (k : ℕ) (link : LinkState) (test : Fate → Bool) (fate : Row → Fate) (routing : Routing)
    (rows : List Row) → AreBack routing rows → ((f : Fate) → test f ≡ true → is_on k f ≡ false)
    → ((x : Row) → is_unacked k (fate x) ≡ false)
    → (open_link link ≡ true → (x : Row) → is_held k (fate x) ≡ false)
    → (open_link link ≡ false → (x : Row) → test x.fate ≡ true → IsBackOf routing x x.fate
    → is_waiting k (fate x) ≡ false)
    → (carries link ≡ false → (x : Row) → test x.fate ≡ true → IsBackOf routing x x.fate
    → is_on k (fate x) ≡ false) → IsSoundLink m k link rows → IsSoundLink m k link (moved test fate rows)
link_moved m k link test fate routing rows backs off sent holds waits gone l =
    let none = λ (other : Fate → Bool)
    (so : (x : Row) → test x.fate ≡ true → IsBackOf routing x x.fate → other (fate x) ≡ false). gone_none test fate
    (λ row. IsBackOf routing row row.fate) other so rows backs in
    link_more m k link rows (map (fated fate) (standing test rows)) (none (is_unacked k) (λ x e b. sent x))
    (λ u. none (is_held k) (λ x e b. holds u x)) (λ d. none (is_waiting k) (waits d)) (λ e. none (is_on k) (gone e))
    _ (others_stay test (is_on k) fate rows off) l

-- WHAT IS ACKNOWLEDGED OR GIVEN UP on a link that was left.
pub acknowledges : (count n : ℕ) (link : LinkState) (s : State) → IsAt n link Down s → IsSound s → IsSound (acknowledged_by count n link s)
acknowledges count n link s at t =
    let l = t.links n link at.there in
    let a = acknowledged n count s.rows in
    changes n link _ s _ t at.there refl refl (ap has_phase_settled at.phase_is) a.in_place l.profile
    (grind (arith, length-drop, a.unack_is, l.window)) l.counted l.method
    (false_true (has_phase_up link.phase) (ap has_phase_up at.phase_is))

pub gives_up : (test : Fate → Bool) (cause : DiscardCause) (n : ℕ) (link : LinkState) (s : State)
    → ChangesOn n s.rows (changed test (Discarded cause) s.rows) → IsAt n link Down s → IsSound s
    → IsSound (record s { rows = changed test (Discarded cause) s.rows })
gives_up test cause n link s g at t =
    let l = t.links n link at.there in
    let fewer = (turned_there test (Discarded cause) (length s.rows) s.rows).fewer (is_unacked n) refl in
    let sound = changes n link link s (changed test (Discarded cause) s.rows) t at.there refl refl
    (ap has_phase_settled at.phase_is) g l.profile (omega (arith, l.window, fewer)) l.counted l.method
    (false_true (has_phase_up link.phase) (ap has_phase_up at.phase_is)) in
    subst (λ (links : List LinkState). IsSound
    (record s { links = links; rows = changed test (Discarded cause) s.rows })) (set_same s.links n link at.there)
    sound

pub gives_up_orders : (cause : DiscardCause) (n : ℕ) (link : LinkState) (s : State)
    → ChangesOn n s.rows (orders_changed (is_waiting n) (Discarded cause) s.rows) → IsAt n link Down s → IsSound s
    → IsSound (record s { rows = orders_changed (is_waiting n) (Discarded cause) s.rows })
gives_up_orders cause n link s g at t =
    let l = t.links n link at.there in
    let same = orders_given_up_unack n cause s.rows in
    let sound = changes n link link s (orders_changed (is_waiting n) (Discarded cause) s.rows) t at.there refl refl
    (ap has_phase_settled at.phase_is) g l.profile (rw same l.window) l.counted l.method
    (false_true (has_phase_up link.phase) (ap has_phase_up at.phase_is)) in
    subst (λ (links : List LinkState). IsSound
    (record s { links = links; rows = orders_changed (is_waiting n) (Discarded cause) s.rows })) (set_same s.links n link at.there)
    sound

-- AN ORDER THAT IS TAKEN BACK: no link changes, and no row comes anywhere.
pub takes_back : (order : ℕ) (from : Fate) (s : State) → TakenBack from s.rows (taken_back order from s).rows → IsSound s → IsSound (taken_back order from s)
takes_back order from s g t =
    let new = (taken_back order from s).rows in
    record {
      managed = t.managed;
      routing = t.routing;
      routed = t.routed;
      count = t.count;
      numbered = numbered_on (all_finished s.finished) s.rows new g.kept.count (g.kept.numbered (given s) t.numbered);
      fit = g.kept.fit s.settings.profile t.fit;
      marked = g.kept.marked t.marked;
      links = λ n link there.
          let l = t.links n link there in
          record {
            profile = l.profile;
            window = rw (g.unack_same n) l.window;
            counted = l.counted;
            method = l.method;
            in_order = g.order_kept n l.in_order;
            held_last = g.last_kept n l.held_last;
            none_held = λ up. g.held_same n ∙ l.none_held up;
            no_users = λ up shut. g.no_users n (l.no_users up shut);
            in_range = λ up. rw (g.unack_same n) (l.in_range up);
            settled = λ e. g.none_on n (l.settled e);
          };
      placed = t.placed;
      none_aside = λ n link there o. g.none_parked (t.none_aside n link there o);
      all_run = t.all_run;
      codes = λ code. code_kept s.links s.links (given s) (all_finished s.finished + length new) code (code_of code s.routing) (λ e. e) (λ via p. p) (omega (arith, g.kept.count)) (t.codes code);
      backs = backs_of s.routing new
          (subst (AreBack s.routing) (sym g.back_same)
          (each_filter (λ row. IsBackOf s.routing row row.fate) (λ row. IsBackOf s.routing row row.fate)
          (λ row. stands_back row.fate) (λ x e b. b) s.rows t.backs));
      back_order = rw g.back_same t.back_order;
    }

-- WHAT IS GIVEN UP of what waits, before it's sent.
pub withdraws : (count n : ℕ) (link : LinkState) (s : State) → IsAt n link Up s
    → ChangesOn n s.rows (withdrawn count n s).rows → IsSound s → IsSound (withdrawn count n s)
withdraws count n link s at g t =
    let l = t.links n link at.there in
    let same = withdrawn_unack count n s.rows in
    let sound = changes n link link s (withdrawn count n s).rows t at.there refl refl (ap has_phase_settled at.phase_is) g
    l.profile (rw same l.window) l.counted l.method (λ u. rw same (l.in_range u)) in
    subst (λ (links : List LinkState). IsSound (record s { links = links; rows = (withdrawn count n s).rows })) (set_same s.links n link at.there) sound

-- A LATE ORDER is answered: the link stands where it stood.
pub answers : (n : ℕ) (link : LinkState) (s : State) → IsAt n link Settled s → IsSound s → IsSound (with_link n (answered_link link) s)
answers n link s at t =
    let new = answered_link link in
    let l = t.links n link at.there in
    let one : IsSoundLink s.settings n new s.rows =
    record {
      profile = l.profile;
      window = l.window;
      counted = l.counted;
      method = l.method;
      in_order = l.in_order;
      held_last = l.held_last;
      none_held = l.none_held;
      no_users = l.no_users;
      in_range = l.in_range;
      settled = l.settled;
    } in
    record {
      managed = t.managed;
      routing = t.routing;
      routed = t.routed;
      count = length-set s.links n new ∙ t.count;
      numbered = t.numbered;
      fit = t.fit;
      marked = t.marked;
      links = links_set s.settings s.links n new s.rows s.rows one (λ k d. untouched k s.rows s.rows refl) t.links;
      placed = λ stream low. placed_set s.links n link new (place_of stream s.routing) at.there (λ e. e) (t.placed stream low);
      none_aside = open_before s.links n link new at.there (λ e. e) t.none_aside;
      all_run = open_before s.links n link new at.there (λ e. e) t.all_run;
      codes = λ code. code_kept s.links (slice_set s.links n new) (given s) (given s) code (code_of code s.routing)
          (open_after s.links n link new at.there (λ e. e) (home_of code)) (λ via. placed_set s.links n link new (On via) at.there (λ e. e)) (omega arith) (t.codes code);
      backs = t.backs;
      back_order = t.back_order;
    }

-- SENDING.
module _ (n : ℕ) (link : LinkState) (s : State) (at : IsAt n link Up s) (t : IsSound s) where
  pub sends_sound : IsSound (next n s link).state
  sends_sound =
      let l = t.links n link at.there in
      let choice = choice_in n link s in
      -- how many are unacknowledged then
      let counts : (c : Choice) → choice ≡ c → (length (unack n s.rows) ≤ length (unack n (rows_sent c n s.rows)))
      × (c ≡ first → length (unack n (rows_sent c n s.rows)) ≡ length (unack n s.rows) + 1)
      × (length (unack n (rows_sent c n s.rows)) ≤ most_unacked link.profile)
      = λ c e. grind (
        arith,
        first_chosen (octets_in (unack n s.rows)) link.control (window_of n link s.rows),
        length-map,
        length-append,
        length-take,
        (sent n s.rows).unack_is l.in_order,
        l.window,
      ) in
      let c = counts choice refl in
      changes n link _ s _ t at.there refl refl (ap has_phase_settled at.phase_is) (sent_by choice n s.rows) l.profile c.2
      (grind (arith, l.counted)) (grind (arith, l.method)) (λ u. grind (arith, c, l.in_range, length-map))

  -- HEARING.
  pub hears_sound : (unit : SignalUnit) → IsSound (controlled unit n s link)
  hears_sound unit =
      let l = t.links n link at.there in
      let a = acknowledged n (part_in unit n link s).acked s.rows in
      changes n link _ s _ t at.there refl refl (ap has_phase_settled at.phase_is) a.in_place l.profile (grind (arith, length-drop, a.unack_is, l.window))
      (expected_heard link.control (window_of n link s.rows) (header_in unit) (is_msu unit) link.accepted l.counted)
      (grind (arith, l.method)) (λ u. grind (
        arith,
        range_heard link.control (window_of n link s.rows) (header_in unit) (is_msu unit)
            (grind (arith, length-map, l.in_range)),
        a.unack_is,
        length-drop,
        length-map,
      ))

-- WHERE A STREAM RUNS, as links and streams change, and what stands back by a code of which nothing moves.
pub record Follows (links : List LinkState) (test : Fate → Bool) (was is : Place) : Type 0 where
  pub placed : IsPlaced links is
  pub runs : (number : ℕ) (link : LinkState) → slice_get links number ≡ Some link → open_link link ≡ true → is ≢ Nowhere
  pub stays : (code via : ℕ) → test (Back code) ≡ false → was ≡ Changing (home_of code) code via → (via' : ℕ) × (is ≡ Changing (home_of code) code via')

module _ (s : State) (routing : Routing) (t : IsSound s) (sound : IsRouting routing) (same : routing.links ≡ s.routing.links) where
  -- a new row can come to stand there, for all that each link has to do with it: it waits for a link that is open, is held
  -- for one that can carry it, or parked while none is open
  pub appended_sound : (body : List ℕ) (fate : Fate) → length body ≤ longest_body s.settings.profile
      → ((k : ℕ) (link : LinkState) → slice_get s.links k ≡ Some link → (is_unacked k fate ≡ false)
      × (open_link link ≡ true → (is_held k fate || is_parked fate) ≡ false)
      × (open_link link ≡ false → is_waiting k fate ≡ false)
      × (carries link ≡ false → is_on k fate ≡ false))
      → IsBackOf s.routing (new_row (length s.rows) body fate) fate
      → ((k : ℕ) → k < 16 → Follows s.links (λ f. false) (place_of k s.routing) (place_of k routing))
      → ((code : ℕ) → IsSoundCode s.links (given s + 1) code (code_of code routing))
      → IsSound (record s { rows = appended (given s) s.rows body fate; routing = routing })
  appended_sound body fate fits opened is_back follows codes =
      let links = λ (k : ℕ) (other : LinkState) (there : slice_get s.links k ≡ Some other). link_more s.settings k other
      s.rows (new_row (given s) body fate ∷ []) (let o = opened k other there in grind arith)
      (λ u. let o = opened k other there in grind arith) (λ d. let o = opened k other there in grind arith)
      (λ e. let o = opened k other there in grind arith) s.rows refl (t.links k other there) in
      let backs = each_so (λ row. IsBackOf s.routing row row.fate) (λ row. IsBackOf routing row row.fate)
      (λ x. stood (λ f. false) s.routing routing (λ k few. (follows k few).stays) x x.fate refl)
      (appended (given s) s.rows body fate) (each_append _ s.rows _ t.backs (is_back, tt)) in
      let runs = λ (n : ℕ) (link : LinkState) (there : slice_get s.links n ≡ Some link)
      (o : open_link link ≡ true) (k : ℕ) (few : k < 16). (follows k few).runs n link there o in
      let placed = λ (k : ℕ) (few : k < 16). (follows k few).placed in
      let aside : (k : ℕ) (other : LinkState) → slice_get s.links k ≡ Some other → open_link other ≡ true
      → parked (appended (given s) s.rows body fate) ≡ [] = λ k other there rising. let o =
      opened k other there in grind (arith, appended_out) in
      let fit : AreFit s.settings.profile (appended (given s) s.rows body fate) = each_append _ s.rows _ t.fit (fits, tt) in
      let marked : AreMarked (appended (given s) s.rows body fate) = each_append _ s.rows _ t.marked (refl, tt) in
      let more : given (record s { rows = appended (given s) s.rows body fate; routing = routing }) ≡ given s + 1 = grind (arith, length-append) in
      let numbered : IsNumbered (given (record s { rows = appended (given s) s.rows body fate; routing = routing }))
      (appended (given s) s.rows body fate) = rw more (numbered_appended (given s) s.rows body fate t.numbered) in
      let back_order = ascends_appended (given s) (λ row. stands_back row.fate) s.rows body fate t.numbered t.back_order in
      let coded = λ (code : ℕ). subst (λ (n : ℕ). IsSoundCode s.links n code (code_of code routing)) (sym more) (codes code) in
      search (numbered, back_order, coded)

-- AN ORDER goes to the target, and is of no stream.
pub on_same : (to : Option ℕ) (f : Fate) → same_fate f (fate_on to) ≡ true → f ≡ fate_on to
on_same to f e = grind (arith, nat_tests)

pub queues : (order : Order) (s : State) → IsSound s → IsSound (queued order s)
queues order s t =
    let body = text s.settings.profile order s.settings.sio s.settings.dpc s.settings.opc in
    let fate = fate_on (target s.links) in
    let new = put_ahead (given s) s.rows body fate in
    let out = put_apart (given s) s.rows body fate in
    let mark : false ≡ not (is_managements body) = let managed = t.managed in grind arith in
    let links = λ (k : ℕ) (link : LinkState) (there : slice_get s.links k ≡ Some link). link_put s.settings k link (given s)
    s.rows body fate (on_same (target s.links)) (grind arith) (grind arith) (λ w. open_up link (grind (arith, nat_tests, target_open)))
    (λ e. grind (arith, nat_tests, target_open, carried_open)) (t.links k link there) in
    let aside = λ (k : ℕ) (link : LinkState) (there : slice_get s.links k ≡ Some link) (o : open_link link ≡ true).
    out is_parked (grind (arith, none_open)) ∙ t.none_aside k link there o in
    let back_same : back new ≡ back s.rows = out stands_back (grind arith) in
    let more : given (queued order s) ≡ given s + 1 = omega (arith, put_length (given s) s.rows body fate) in
    record {
      managed = t.managed;
      routing = t.routing;
      routed = t.routed;
      count = t.count;
      numbered = rw more (numbered_put (given s) s.rows body fate t.numbered);
      fit = each_put _ (given s) s.rows body fate t.fit (grind arith);
      marked = each_put _ (given s) s.rows body fate t.marked mark;
      links = links;
      placed = t.placed;
      none_aside = aside;
      all_run = t.all_run;
      codes = λ code. code_kept s.links s.links (given s) (given (queued order s)) code (code_of code s.routing) (λ e. e) (λ via p. p) (omega (arith, more)) (t.codes code);
      backs = each_put _ (given s) s.rows body fate t.backs (grind arith);
      back_order = rw back_same t.back_order;
    }

-- AN OFFER goes where its stream runs.
pub offers : (s : State) (event : Event) (body : List ℕ) → event ≡ Offer body
    → offer_refusal s.settings.profile s.rows body ≡ None → IsSound s → IsSound (offered None s body).state
offers s event body e free t =
    let stream = stream_of body in
    let low = stream_below_16 body in
    let fits : (length body ≤ longest_body s.settings.profile) × ((service_indicator body == 0) ≡ false) = grind (arith, free) in
    let placed = t.placed stream low in
    let same = λ (k : ℕ) (few : k < 16). (alone s.routing k t.routing few).accepted_place stream in
    appended_sound s (accepted stream s.routing) t (accepted_sound stream s.routing t.routing) refl body
    (fate_at (place_of stream s.routing) s) fits.0 (λ k link there. grind (arith, nat_tests, placed, t.all_run))
    (grind (arith, free, low, coded_at))
    (λ k few. rw (same k few) (record {
      placed = t.placed k few;
      runs = λ n link there o. t.all_run n link there o k few;
      stays = λ code via e is. (via, is);
    }))
    (λ code. code_kept s.links s.links (given s) (given s + 1) code (code_of code s.routing) (λ e. e) (λ via p. p) (omega arith) (t.codes code))
