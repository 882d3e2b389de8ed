-- WHAT AN ORDER THAT IS HEARD LEADS TO at an end: the link settles by the number that the far end counts; an end that
-- is still up on it leaves it first, and acknowledges. `Obeys` lists what a body can lead to. In each case what holds
-- of the orders is kept (`obeys_both`), and a settled link counts no more than was accepted (`obeys_less`); without
-- emergencies it counts just that, nothing is discarded, and what was pending moves (`obeys_equal`, `obeys_discards`,
-- `obeys_moves`). For the FSN is the far end's count, so its distance is what that end accepted beyond
-- (`told_reached`). No induction. Hearing.antt finds the case; Ordered.antt and Arriving.antt take the results.
use Rattle.std.proofs.Common.{refl, arith, ◌≡◌, ◌∙◌, ap, sym, subst, ℕ, ◌≤◌, ◌<◌, ◌==◌, ◌+◌, ◌-◌, ◌%◌, Bool, true, false, List, [], ◌∷◌, ◌++◌, length, slice_get, slice_set, Option, Some, None}
use Rattle.std.proofs.lemmas.Bool.{eqb-true}
use Rattle.std.proofs.lemmas.Bool.Decides.{nat_tests}
use Rattle.l3_orders.specs.declared.order.Order.{Order}
use Rattle.l3_orders.specs.declared.order.Order.TheVariants.{Coa, Cbd, Cba}
use Rattle.l3_orders.specs.Grammar.{text, order_of, order_any}
use Rattle.l2_window.specs.Window.{fsn_count, fsn_before_first, most_unacked}
use Rattle.l2_window.proofs.Numbers.{distance_is, below as cycle}
use Rattle.set_events.specs.declared.answer.Fate.{Fate}
use Rattle.set_events.specs.declared.answer.Fate.TheVariants.{Waiting, Unacked, Acked, Held, Parked, Back, Discarded}
use Rattle.set_route.specs.Target.{target_of}
use Rattle.set_route.specs.declared.place.Code.TheVariants.{Free}
use Rattle.set_route.specs.Routing.{code_of}
use Rattle.set_model.specs.declared.phase.Phase.TheVariants.{Up, Down}
use Rattle.set_model.specs.declared.reached.Reached.TheVariants.{Upto, Unknown}
use Rattle.set_model.specs.Rows.{Row, is_back_to, is_on, is_unacked, was_discarded, standing, unack, wait, parked, put_ahead, turned, all_with, moved}
use Rattle.set_model.specs.Sound.{IsSound}
use Rattle.set_model.specs.State.{opens_in, open_link, has_phase_settled, all_finished, given, LinkState, State, is_up, is_settled, link_is_up, link_is_settled, has_phase_up, last_accepted, target}
use Rattle.set_model.specs.Changeover.{settled_link, fate_on, queued, left_link, left_by, out_of_service, acknowledged_code, reached_by, is_reasonable, settled}
use Rattle.set_model.proofs.Ahead.{put_out}
use Rattle.set_model.proofs.Events.{untouched}
use Rattle.set_model.proofs.Rows.{turned_same, moved_length, moved_same}
use Rattle.set_model.proofs.Lists.{within, map_set_same, same_at, target_open}
use Rattle.set_model.proofs.Places.{apart, itself, home_back}
use Rattle.set_model.proofs.Staying.{offered_out}
use Rattle.set_model.proofs.Settling.{no_target}
use Rattle.set_model.proofs.SoundBack.{leaves}
use Rattle.set_model.proofs.SoundLink as new
use Rattle.set_model.proofs.Walk.{IsAt}
use Rattle.pair_model.specs.Run.{Message, messages}
use Rattle.pair_changeover.specs.Diverted.{queue_for, as_left, answer_on, ahead_of_users}
use Rattle.pair_changeover.proofs.Blind.{blind_both, blind_accepted}
use Rattle.pair_changeover.proofs.Changes.{Both, Acts, acts, stands_still, acts_none, acts_far_none, queues_both, by_link, own_then, orders_acts}
use Rattle.pair_changeover.proofs.Leaving.{goes_to, leaves_acts, leaves_discards, releases_acts, releases_discards}
use Rattle.pair_changeover.proofs.Passing.{IsReached, settles_acts, links_then, rows_then, link_then}
use Rattle.pair_changeover.proofs.Texts.{AreCodes, coa_read, cba_plain}
use Rattle.pair_changeover.proofs.Table.{new_order_message, ahead_none, ahead_there, aside_settled, wait_settled, queue_untouched}
use Rattle.pair_changeover.proofs.Turning.{unack_same}
use Rattle.pair_changeover.proofs.Views.{view, queue, pending, acked_of, acked_on, accepted_of, accepted_on, last_of, IsChangeover, NoneAbout}

-- the number that was told, and how far the far end is
pub record Told (fsn l : ℕ) (link : LinkState) (s f : State) : Type 0 where
  pub last : fsn ≡ (accepted_on l f + fsn_before_first link.profile) % fsn_count link.profile
  pub due : link.acked ≤ accepted_on l f
  pub within : accepted_on l f ≤ link.acked + length (unack l s.rows)

module _ (fsn l : ℕ) (link : LinkState) (s f : State) (few : length (unack l s.rows) ≤ most_unacked link.profile) (t : Told fsn l link s f) where
  pub told_reached : reached_by fsn l link s.rows ≡ accepted_on l f - link.acked
  told_reached =
      let e = distance_is link.profile ((link.acked + fsn_before_first link.profile) % fsn_count link.profile)
      link.acked (accepted_on l f) (length (unack l s.rows)) refl t.due t.within few in
      rw (t.last) (omega (arith, e))

  pub told_reasonable : is_reasonable fsn l link s.rows ≡ true
  told_reasonable = let e = told_reached in grind (arith, nat_tests, e, t.within)

  pub told_is_reached : slice_get s.links l ≡ Some link → IsReached fsn l link s f
  told_is_reached there = record {
    reasonable = told_reasonable;
    left = ap (λ (o : Option LinkState). queue (accepted_on l f - acked_of o) l s.rows) there ∙ ap (λ (k : ℕ). queue k l s.rows) (sym told_reached);
  }

-- an order about a link that the far end left: it was the only one
pub record Heard (l : ℕ) (s f : State) : Type 0 where
  pub far_down : is_up l f ≡ false
  pub none : NoneAbout l (view f s)

abbrev pub left_and_told : ℕ → LinkState → State → State
left_and_told l link s = queued (Coa l (last_accepted link)) (left_by false l link s)

-- a body that isn't a declaration, nor the acknowledgement of one whose code is in use
pub record TellsNoBack (body : List ℕ) (s : State) : Type 0 where
  pub none_declared : (l code : ℕ) → order_of s.settings.profile body ≡ Some (Cbd l code) → ⊥
  pub none_in_use : (l code : ℕ) → order_of s.settings.profile body ≡ Some (Cba l code) → code_of code s.routing ≡ Free

pub record TellsOver (body : List ℕ) : Type 0 where
  pub order : Order
  pub is : order_any body ≡ Some order
  pub over : IsChangeover order

-- what the body leads to, heard on a link; an empty one stands for none
pub data Obeys (emergencies : Bool) (k : ℕ) (body : List ℕ) (s f : State) : State → Type 0 where
  keeps : (t : State) → t.rows ≡ s.rows → t.links ≡ s.links → t.routing ≡ s.routing → TellsNoBack body s → Obeys emergencies k body s f t
  settles : (fsn l : ℕ) (link : LinkState) → (k == l) ≡ false → IsAt l link Down s → Told fsn l link s f → Heard l s f
      → TellsOver body → Obeys emergencies k body s f (settled (Upto fsn) l link s)
  answers : (fsn l : ℕ) (link : LinkState) → (k == l) ≡ false → IsAt l link Up s → Told fsn l link s f → Heard l s f
      → TellsOver body → Obeys emergencies k body s f
      (settled (Upto fsn) l (left_link false (given s) link) (left_and_told l link s))
  settles_blind : (l : ℕ) (link : LinkState) → emergencies ≡ true → (k == l) ≡ false → IsAt l link Down s → Heard l s f
      → TellsOver body → Obeys emergencies k body s f (settled Unknown l link s)
  answers_blind : (l : ℕ) (link : LinkState) → emergencies ≡ true → (k == l) ≡ false → IsAt l link Up s → Heard l s f
      → TellsOver body → Obeys emergencies k body s f
      (settled Unknown l (left_link false (given s) link) (left_and_told l link s))
  acknowledges : (l code : ℕ) → order_of s.settings.profile body ≡ Some (Cbd l code) → Obeys emergencies k body s f (queued (Cba l code) s)
  releases : (l code : ℕ) → order_of s.settings.profile body ≡ Some (Cba l code) → Obeys emergencies k body s f (acknowledged_code code s)

-- what moves, and what is acknowledged, isn't discarded
pub not_discarded : (to : Option ℕ) → was_discarded (fate_on to) ≡ false
not_discarded None = refl
not_discarded (Some to) = refl

on_not_discarded : (l : ℕ) (fate : Fate) → is_on l fate ≡ true → was_discarded fate ≡ false
on_not_discarded l (Waiting n) e = refl
on_not_discarded l (Unacked n) e = refl
on_not_discarded l (Acked n) e = refl
on_not_discarded l (Held n) e = refl
on_not_discarded l Parked e = refl
on_not_discarded l (Back code) e = refl
on_not_discarded l (Discarded cause) e = absurd cc

pub sent_not_discarded : (l : ℕ) (fate : Fate) → is_unacked l fate ≡ true → was_discarded fate ≡ false
sent_not_discarded l (Waiting n) e = refl
sent_not_discarded l (Unacked n) e = refl
sent_not_discarded l (Acked n) e = refl
sent_not_discarded l (Held n) e = refl
sent_not_discarded l Parked e = refl
sent_not_discarded l (Back code) e = refl
sent_not_discarded l (Discarded cause) e = absurd cc

-- what it tells is so reached
pub is_reached : (fsn l : ℕ) (link : LinkState) (s f : State) → IsSound s → IsAt l link Down s → Told fsn l link s f → IsReached fsn l link s f
is_reached fsn l link s f sound at t = told_is_reached fsn l link s f ((sound.links l link at.there).window) t at.there

-- THE LINK SETTLES
module _ (fsn l : ℕ) (link : LinkState) (s f : State) (sound : IsSound s) (at : IsAt l link Down s) (r : IsReached fsn l link s f) where
  abbrev pub settled_then : State
  settled_then = settled (Upto fsn) l link s

  pub settles_both : {emergencies : Bool} → Both emergencies s f → Heard l s f → Both emergencies settled_then f
  settles_both o h = acts s settled_then f (settles_acts fsn l link s f sound at r o h.far_down h.none) o

  abbrev link_after : LinkState
  link_after = link_then fsn l link s f sound at r

  links_after : settled_then.links ≡ slice_set s.links l link_after
  links_after = links_then fsn l link s f sound at r

  pub settles_equal : Told fsn l link s f → (n : ℕ) → (is_settled n s ≡ true → acked_on n s ≡ accepted_on n f)
      → is_settled n settled_then ≡ true → acked_on n settled_then ≡ accepted_on n f
  settles_equal t =
      let reached = told_reached fsn l link s f ((sound.links l link at.there).window) t in
      by_link l link link_after s settled_then at.there links_after
      (λ n old new. (link_is_settled old ≡ true → acked_of old ≡ accepted_on n f) → link_is_settled new ≡ true → acked_of new ≡ accepted_on n f)
      (λ before e. omega (arith, reached, t.due)) (λ n old d before e. before e)

  pub settles_less : Told fsn l link s f → (n : ℕ) → (is_settled n s ≡ true → acked_on n s ≤ accepted_on n f)
      → is_settled n settled_then ≡ true → acked_on n settled_then ≤ accepted_on n f
  settles_less t =
      let reached = told_reached fsn l link s f ((sound.links l link at.there).window) t in
      by_link l link link_after s settled_then at.there links_after
      (λ n old new. (link_is_settled old ≡ true → acked_of old ≤ accepted_on n f) → link_is_settled new ≡ true → acked_of new ≤ accepted_on n f)
      (λ before e. omega (arith, reached, t.due)) (λ n old d before e. before e)

  -- only it does
  pub settles_alone : (n : ℕ) → is_settled n s ≡ false → is_settled n settled_then ≡ true → l ≡ n
  settles_alone = by_link l link link_after s settled_then at.there links_after
      (λ n old new. link_is_settled old ≡ false → link_is_settled new ≡ true → l ≡ n)
      (λ e f. refl) (λ n old d e f. absurd (let no : false ≡ true = sym e ∙ f in cc))

  pub settles_accepted : (n : ℕ) → accepted_on n settled_then ≡ accepted_on n s
  settles_accepted = by_link l link link_after s settled_then at.there links_after (λ n old new. accepted_of new ≡ accepted_of old) refl (λ n old d. refl)

  pub settles_discards : standing was_discarded settled_then.rows ≡ standing was_discarded s.rows
  settles_discards =
      ap (standing was_discarded) (rows_then fsn l link s f sound at r)
      ∙ moved_same (is_on l) was_discarded (all_with (fate_on (target s.links)))
      (turned (is_unacked l) (Acked l) (reached_by fsn l link s.rows) s.rows)
      (λ row. not_discarded (target s.links)) (λ fate e. on_not_discarded l fate e)
      ∙ turned_same (is_unacked l) was_discarded (Acked l) refl (λ fate e. sent_not_discarded l fate e) (reached_by fsn l link s.rows) s.rows

  -- the target is what it was
  pub same_target : target settled_then.links ≡ target s.links
  same_target = ap target links_after
      ∙ ap target_of (map_set_same (λ (k : LinkState). open_link k) s.links l link link_after at.there
      (ap (opens_in link.tested) (sym at.phase_is)))

  settles_moved : (to : Option ℕ) → target s.links ≡ to
      → messages (queue_for to settled_then.rows) ≡ messages (queue_for to s.rows)
      ++ queue (reached_by fsn l link s.rows) l s.rows
  settles_moved None e =
      let own = sound.links l link at.there in
      ap (λ (rows : List Row). messages (parked rows))
      (rows_then fsn l link s f sound at r
      ∙ ap (λ (to : Option ℕ). moved (is_on l) (all_with (fate_on to))
      (turned (is_unacked l) (Acked l) (reached_by fsn l link s.rows) s.rows)) e)
      ∙ aside_settled (reached_by fsn l link s.rows) l s.rows own.in_order own.held_last
  settles_moved (Some to) e =
      let own = sound.links l link at.there in
      ap (λ (rows : List Row). messages (wait to rows))
      (rows_then fsn l link s f sound at r
      ∙ ap (λ (to : Option ℕ). moved (is_on l) (all_with (fate_on to))
      (turned (is_unacked l) (Acked l) (reached_by fsn l link s.rows) s.rows)) e)
      ∙ wait_settled (reached_by fsn l link s.rows) l to s.rows
      (apart l to (no_target fsn l link s at.there r.reasonable at.phase_is to e)) own.in_order own.held_last

  -- what was pending on it stands behind what waited for the target
  pub settles_moves : messages (queue_for (target settled_then.links) settled_then.rows)
      ≡ messages (queue_for (target settled_then.links) s.rows) ++ pending l s f
  settles_moves =
      ap (λ (to : Option ℕ). messages (queue_for to settled_then.rows)) same_target
      ∙ settles_moved (target s.links) refl
      ∙ ap (λ (q : List Message). messages (queue_for (target s.links) s.rows) ++ q) (sym r.left)
      ∙ ap (λ (to : Option ℕ). messages (queue_for to s.rows) ++ pending l s f) (sym same_target)

-- AN END THAT IS STILL UP leaves the link, and acknowledges
module _ (l : ℕ) (link : LinkState) (s f : State) (sound : IsSound s) (codes : AreCodes s.settings) (at : IsAt l link Up s) where
  abbrev pub left : State
  left = left_by false l link s

  abbrev pub told : State
  told = left_and_told l link s

  left_acts : Acts s left f
  left_acts = leaves_acts false l link s f sound at

  pub left_sound : IsSound left
  left_sound = leaves false l link s at sound

  pub told_sound : IsSound told
  told_sound = new.queues (Coa l (last_accepted link)) left left_sound

  pub told_at : IsAt l (left_link false (given s) link) Down told
  told_at = record { there = own_then l link (left_link false (given s) link) s left at.there refl; phase_is = refl }

  pub below : l < 16
  below = omega (arith, within s.links l link at.there, sound.count, sound.routed, sound.routing.at_most_16)

  pub coa_is : order_any (text s.settings.profile (Coa l (last_accepted link)) s.settings.sio s.settings.dpc s.settings.opc) ≡ Some (Coa l (last_accepted link))
  coa_is = coa_read s.settings l (last_accepted link) codes below
      (rw (← (sound.links l link at.there).profile)
      (cycle link.profile (link.accepted + fsn_before_first link.profile)))

  pub not_settled : (a b : Bool) → (a ≡ true → b ≡ false) → b ≡ true → a ≡ false
  not_settled false b w e = refl
  not_settled true b w e = absurd (let no : true ≡ false = sym e ∙ w refl in cc)

  pub told_both : {emergencies : Bool} → Both emergencies s f → Both emergencies told f
  told_both o =
      let up : is_up l s ≡ true = ap link_is_up at.there ∙ ap has_phase_up at.phase_is in
      queues_both left f (Coa l (last_accepted link)) left_sound (acts s left f left_acts o) coa_is
      (sym (ap last_of (own_then l link (left_link false (given s) link) s left at.there refl)))
      (acts_none s left f left_acts l (o.near.none_up l up))
      (ap link_is_up (own_then l link (left_link false (given s) link) s left at.there refl))
      (not_settled (is_settled l f) (is_up l s) (o.far.apart l) up)

  pub told_heard : Heard l s f → Heard l told f
  told_heard h = record { far_down = h.far_down; none = acts_far_none s left f left_acts l h.none }

  abbrev answer_text : List ℕ
  answer_text = text s.settings.profile (Coa l (last_accepted link)) s.settings.sio s.settings.dpc s.settings.opc

  unsent : (to : Option ℕ) → is_unacked l (fate_on to) ≡ false
  unsent None = refl
  unsent (Some to) = refl

  pub unack_left : (n : ℕ) → unack n left.rows ≡ unack n s.rows
  unack_left n = unack_same (is_back_to l) (goes_to false l link s f sound at) (home_back l) s.rows (λ m row. offered_out m _ (out_of_service false l link s)) n

  unack_told : unack l told.rows ≡ unack l s.rows
  unack_told = put_out (λ (row : Row). is_unacked l row.fate) (given left) left.rows answer_text
      (fate_on (target left.links)) (unsent (target left.links)) ∙ unack_left l

  same_number : given left ≡ given s
  same_number = ap (λ (n : ℕ). all_finished s.finished + n) (moved_length (is_back_to l) (goes_to false l link s f sound at) s.rows)

  pub told_still : (fsn : ℕ) → Told fsn l link s f → Told fsn l (left_link false (given s) link) told f
  told_still fsn t = record { last = t.last; due = t.due; within = rw unack_told (t.within) }

  pub told_reached_so : (fsn : ℕ) → Told fsn l link s f → IsReached fsn l (left_link false (given s) link) told f
  told_reached_so fsn t = is_reached fsn l (left_link false (given s) link) told f told_sound told_at (told_still fsn t)

  pub told_accepted : (n : ℕ) → accepted_on n told ≡ accepted_on n s
  told_accepted = by_link l link (left_link false (given s) link) s left at.there refl (λ m old new. accepted_of new ≡ accepted_of old) refl (λ m old d. refl)

  answer_is : (q : List Message)
      → ahead_of_users (new_order_message (given left) answer_text ∷ []) q ≡ ahead_of_users (answer_on l (Some link) s) q
  answer_is q = rw (at.phase_is, same_number) refl

  told_target : (to : Option ℕ) → target left.links ≡ to
      → messages (queue_for to told.rows) ≡ ahead_of_users (answer_on l (Some link) s) (messages (queue_for to left.rows))
  told_target None e =
      ap (λ (to : Option ℕ). messages (parked (put_ahead (given left) left.rows answer_text (fate_on to)))) e
      ∙ ahead_there (given left) answer_text Parked refl left.rows
      ∙ answer_is (messages (parked left.rows))
  told_target (Some to) e =
      ap (λ (o : Option ℕ). messages (wait to (put_ahead (given left) left.rows answer_text (fate_on o)))) e
      ∙ ahead_there (given left) answer_text (Waiting to) (itself to) left.rows
      ∙ answer_is (messages (wait to left.rows))

  -- it isn't on its way to the link itself
  elsewhere : (to : Option ℕ) → target left.links ≡ to → (b : Bool) → is_on l (fate_on to) ≡ b → b ≡ false
  elsewhere to e false f = refl
  elsewhere None e true f = absurd cc
  elsewhere (Some to) e true f =
      let up = target_open left.links to e in
      let here : slice_get left.links l ≡ Some up.0 = subst (λ (n : ℕ). slice_get left.links n ≡ Some up.0) (eqb-true to l f) up.1 in
      let same : up.0 ≡ left_link false (given s) link = same_at left.links l (left_link false (given s) link) up.0 told_at.there here in
      let no : true ≡ false = sym up.2 ∙ ap open_link same in
      absurd cc

  pub told_pending : pending l told f ≡ pending l left f
  told_pending =
      queue_untouched (accepted_on l f - acked_on l left) l left.rows told.rows
      (untouched l left.rows told.rows
      (put_out (λ (row : Row). is_on l row.fate) (given left) left.rows answer_text (fate_on (target left.links))
      (elsewhere (target left.links) refl (is_on l (fate_on (target left.links))) refl)))

  pub told_discards : standing was_discarded told.rows ≡ standing was_discarded s.rows
  told_discards = put_out (λ (row : Row). was_discarded row.fate) (given left) left.rows answer_text
      (fate_on (target left.links)) (not_discarded (target left.links))
      ∙ leaves_discards false l link s f sound at

-- A DECLARATION IS HEARD, and acknowledged; the acknowledgement is no order of a changeover
module _ (l code : ℕ) (s f : State) (sound : IsSound s) where
  pub acknowledges_acts : Acts s (queued (Cba l code) s) f
  acknowledges_acts = orders_acts s f (Cba l code) (cba_plain s.settings l code)

  pub acknowledges_discards : standing was_discarded (queued (Cba l code) s).rows ≡ standing was_discarded s.rows
  acknowledges_discards = put_out (λ (row : Row). was_discarded row.fate) (given s) s.rows
      (text s.settings.profile (Cba l code) s.settings.sio s.settings.dpc s.settings.opc)
      (fate_on (target s.links)) (not_discarded (target s.links))

-- ALL OF IT
pub record Moved (k n : ℕ) (s f t : State) : Type 0 where
  pub other : (k == n) ≡ false
  pub moved : messages (queue_for (target t.links) t.rows)
      ≡ ahead_of_users (answer_on n (slice_get s.links n) s)
      (messages (queue_for (target t.links) (as_left n (slice_get s.links n) s).rows))
      ++ pending n (as_left n (slice_get s.links n) s) f

module _ {emergencies : Bool} (k : ℕ) (body : List ℕ) (s f : State) (sound : IsSound s) (codes : AreCodes s.settings) (o : Both emergencies s f) where
  pub obeys_both : (t : State) → Obeys emergencies k body s f t → Both emergencies t f
  obeys_both t (keeps _ rows links routing none) = acts s t f (stands_still s t f rows links) o
  obeys_both _ (settles fsn l link other at told_so heard over) = settles_both fsn l link s f sound at (is_reached fsn l link s f sound at told_so) o heard
  obeys_both _ (answers fsn l link other at told_so heard over) =
      settles_both fsn l (left_link false (given s) link) (told l link s f sound codes at) f
      (told_sound l link s f sound codes at) (told_at l link s f sound codes at)
      (told_reached_so l link s f sound codes at fsn told_so) (told_both l link s f sound codes at o)
      (told_heard l link s f sound codes at heard)
  obeys_both _ (settles_blind l link may other at heard over) = blind_both l link s f sound at o heard.far_down heard.none
  obeys_both _ (answers_blind l link may other at heard over) =
      blind_both l (left_link false (given s) link) (told l link s f sound codes at) f (told_sound l link s f sound codes at)
      (told_at l link s f sound codes at) (told_both l link s f sound codes at o) heard.far_down
      (told_heard l link s f sound codes at heard).none
  obeys_both _ (acknowledges l code is) = acts s (queued (Cba l code) s) f (acknowledges_acts l code s f sound) o
  obeys_both _ (releases l code is) = acts s (acknowledged_code code s) f (releases_acts code s f sound) o

  -- nothing is accepted by it
  pub obeys_accepted : (t : State) → Obeys emergencies k body s f t → (n : ℕ) → accepted_on n t ≡ accepted_on n s
  obeys_accepted t (keeps _ rows links routing none) n = ap (λ (ls : List LinkState). accepted_of (slice_get ls n)) links
  obeys_accepted _ (settles fsn l link other at told_so heard over) n = settles_accepted fsn l link s f sound at (is_reached fsn l link s f sound at told_so) n
  obeys_accepted _ (settles_blind l link may other at heard over) n = blind_accepted l link s f sound at n
  obeys_accepted _ (answers fsn l link other at told_so heard over) n =
      settles_accepted fsn l (left_link false (given s) link) (told l link s f sound codes at) f
      (told_sound l link s f sound codes at) (told_at l link s f sound codes at)
      (told_reached_so l link s f sound codes at fsn told_so) n
      ∙ told_accepted l link s f sound codes at n
  obeys_accepted _ (answers_blind l link may other at heard over) n =
      blind_accepted l (left_link false (given s) link) (told l link s f sound codes at) f (told_sound l link s f sound codes at) (told_at l link s f sound codes at) n
      ∙ told_accepted l link s f sound codes at n
  obeys_accepted _ (acknowledges l code is) n = refl
  obeys_accepted _ (releases l code is) n = refl

-- a link that settles without a number counts what it counted
blind_less : (l : ℕ) (link : LinkState) (s f : State) → slice_get s.links l ≡ Some link → link.acked ≤ accepted_on l f
    → (n : ℕ) → (is_settled n s ≡ true → acked_on n s ≤ accepted_on n f)
    → is_settled n (settled Unknown l link s) ≡ true → acked_on n (settled Unknown l link s) ≤ accepted_on n f
blind_less l link s f there due =
    by_link l link (settled_link true link) s (settled Unknown l link s) there refl
    (λ n old new. (link_is_settled old ≡ true → acked_of old ≤ accepted_on n f) → link_is_settled new ≡ true → acked_of new ≤ accepted_on n f)
    (λ before e. due) (λ n old d before e. before e)

-- one that is left isn't settled
still_less : (s f : State) (l : ℕ) (link : LinkState) → slice_get s.links l ≡ Some link → (n : ℕ)
    → (is_settled n s ≡ true → acked_on n s ≤ accepted_on n f) → is_settled n (left_by false l link s) ≡ true
    → acked_on n (left_by false l link s) ≤ accepted_on n f
still_less s f l link there =
    by_link l link (left_link false (given s) link) s (left_by false l link s) there refl
    (λ m old new. (link_is_settled old ≡ true → acked_of old ≤ accepted_on m f) → link_is_settled new ≡ true → acked_of new ≤ accepted_on m f)
    (λ before g. absurd cc) (λ m old d before g. before g)

-- what a settled link counts as acknowledged was accepted, with emergencies or without
module _ {emergencies : Bool} (k : ℕ) (body : List ℕ) (s f : State) (sound : IsSound s) (codes : AreCodes s.settings)
    (due : (n : ℕ) (link : LinkState) → (k == n) ≡ false → slice_get s.links n ≡ Some link
    → has_phase_settled link.phase ≡ false → link.acked ≤ accepted_on n f) where
  pub obeys_less : ((n : ℕ) → is_settled n s ≡ true → acked_on n s ≤ accepted_on n f) → (t : State)
      → Obeys emergencies k body s f t → (n : ℕ) → is_settled n t ≡ true → acked_on n t ≤ accepted_on n f
  obeys_less less t (keeps _ rows links routing none) n e =
      subst (λ (ls : List LinkState). acked_of (slice_get ls n) ≤ accepted_on n f) (sym links)
      (less n (ap (λ (ls : List LinkState). link_is_settled (slice_get ls n)) (sym links) ∙ e))
  obeys_less less _ (settles fsn l link other at told_so heard over) n e =
      settles_less fsn l link s f sound at (is_reached fsn l link s f sound at told_so) told_so n (less n) e
  obeys_less less _ (answers fsn l link other at told_so heard over) n e =
      settles_less fsn l (left_link false (given s) link) (told l link s f sound codes at) f
      (told_sound l link s f sound codes at) (told_at l link s f sound codes at)
      (told_reached_so l link s f sound codes at fsn told_so) (told_still l link s f sound codes at fsn told_so) n
      (still_less s f l link at.there n (less n)) e
  obeys_less less _ (settles_blind l link may other at heard over) n e =
      blind_less l link s f at.there (due l link other at.there (ap has_phase_settled at.phase_is)) n (less n) e
  obeys_less less _ (answers_blind l link may other at heard over) n e =
      blind_less l (left_link false (given s) link) (told l link s f sound codes at) f (told_at l link s f sound codes at).there
      (due l link other at.there (ap has_phase_settled at.phase_is)) n (still_less s f l link at.there n (less n)) e
  obeys_less less _ (acknowledges l code is) n e = less n e
  obeys_less less _ (releases l code is) n e = less n e

-- where there are no emergencies
module _ (k : ℕ) (body : List ℕ) (s f : State) (sound : IsSound s) (codes : AreCodes s.settings) where
  pub obeys_equal : ((n : ℕ) → is_settled n s ≡ true → acked_on n s ≡ accepted_on n f) → (t : State)
      → Obeys false k body s f t → (n : ℕ) → is_settled n t ≡ true → acked_on n t ≡ accepted_on n f
  obeys_equal equal t (keeps _ rows links routing none) n e =
      ap (λ (ls : List LinkState). acked_of (slice_get ls n)) links
      ∙ equal n (ap (λ (ls : List LinkState). link_is_settled (slice_get ls n)) (sym links) ∙ e)
  obeys_equal equal _ (settles fsn l link other at told_so heard over) n e =
      settles_equal fsn l link s f sound at (is_reached fsn l link s f sound at told_so) told_so n (equal n) e
  obeys_equal equal _ (answers fsn l link other at told_so heard over) n e =
      settles_equal fsn l (left_link false (given s) link) (told l link s f sound codes at) f
      (told_sound l link s f sound codes at) (told_at l link s f sound codes at)
      (told_reached_so l link s f sound codes at fsn told_so) (told_still l link s f sound codes at fsn told_so) n
      (by_link l link (left_link false (given s) link) s (left_by false l link s) at.there refl
      (λ m old new. (link_is_settled old ≡ true → acked_of old ≡ accepted_on m f) → link_is_settled new ≡ true
      → acked_of new ≡ accepted_on m f) (λ before g. absurd cc) (λ m old d before g. before g) n (equal n)) e
  obeys_equal equal _ (settles_blind l link may other at heard over) n e = absurd cc
  obeys_equal equal _ (answers_blind l link may other at heard over) n e = absurd cc
  obeys_equal equal _ (acknowledges l code is) n e = equal n e
  obeys_equal equal _ (releases l code is) n e = equal n e

  pub obeys_discards : (t : State) → Obeys false k body s f t → standing was_discarded t.rows ≡ standing was_discarded s.rows
  obeys_discards t (keeps _ rows links routing none) = ap (standing was_discarded) rows
  obeys_discards _ (settles fsn l link other at told_so heard over) = settles_discards fsn l link s f sound at (is_reached fsn l link s f sound at told_so)
  obeys_discards _ (answers fsn l link other at told_so heard over) =
      settles_discards fsn l (left_link false (given s) link) (told l link s f sound codes at) f
      (told_sound l link s f sound codes at) (told_at l link s f sound codes at)
      (told_reached_so l link s f sound codes at fsn told_so)
      ∙ told_discards l link s f sound codes at
  obeys_discards _ (settles_blind l link may other at heard over) = absurd cc
  obeys_discards _ (answers_blind l link may other at heard over) = absurd cc
  obeys_discards _ (acknowledges l code is) = acknowledges_discards l code s f sound
  obeys_discards _ (releases l code is) = releases_discards code s f sound

  abbrev MovedAt : State → ℕ → Type 0
  MovedAt t n = is_settled n s ≡ false → is_settled n t ≡ true → Moved k n s f t

  pub obeys_moves : (t : State) → Obeys false k body s f t → (n : ℕ) → MovedAt t n
  obeys_moves t (keeps _ rows links routing none) n e g =
      absurd (let no : false ≡ true = sym e ∙ ap (λ (ls : List LinkState). link_is_settled (slice_get ls n)) (sym links)
      ∙ g in cc)
  obeys_moves _ (settles_blind l link may other at heard over) n e g = absurd cc
  obeys_moves _ (answers_blind l link may other at heard over) n e g = absurd cc
  obeys_moves _ (acknowledges l code is) n e g = absurd (let no : false ≡ true = sym e ∙ g in cc)
  obeys_moves _ (releases l code is) n e g = absurd (let no : false ≡ true = sym e ∙ g in cc)
  obeys_moves _ (settles fsn l link other at told_so heard over) n e g =
      let t = settled (Upto fsn) l link s in
      let same : l ≡ n = settles_alone fsn l link s f sound at (is_reached fsn l link s f sound at told_so) n e g in
      let none : answer_on l (slice_get s.links l) s ≡ [] = ap (λ (o : Option LinkState). answer_on l o s) at.there ∙ rw (at.phase_is) refl in
      let stays : as_left l (slice_get s.links l) s ≡ s = ap (λ (o : Option LinkState). as_left l o s) at.there ∙ rw (at.phase_is) refl in
      subst (λ (m : ℕ). Moved k m s f t) same (record {
        other = other;
        moved = settles_moves fsn l link s f sound at (is_reached fsn l link s f sound at told_so)
            ∙ ap (λ (q : List Message). q ++ pending l s f)
            (sym (ahead_none (messages (queue_for (target t.links) s.rows)))
            ∙ ap (λ (a : List Message). ahead_of_users a (messages (queue_for (target t.links) s.rows))) (sym none))
            ∙ ap (λ (u : State). ahead_of_users (answer_on l (slice_get s.links l) s) (messages (queue_for (target t.links) u.rows)) ++ pending l u f) (sym stays);
      })
  obeys_moves _ (answers fsn l link other at told_so heard over) n e g =
      let there = told l link s f sound codes at in
      let there_sound = told_sound l link s f sound codes at in
      let there_at = told_at l link s f sound codes at in
      let there_told = told_reached_so l link s f sound codes at fsn told_so in
      let before = left_by false l link s in
      let t = settled (Upto fsn) l (left_link false (given s) link) there in
      let unsettled : is_settled n there ≡ false =
      by_link l link (left_link false (given s) link) s before at.there refl
      (λ m old new. link_is_settled old ≡ false → link_is_settled new ≡ false) (λ f. refl) (λ m old d f. f) n e in
      let same : l ≡ n = settles_alone fsn l (left_link false (given s) link) there f there_sound there_at there_told n unsettled g in
      let to_is : target t.links ≡ target there.links = same_target fsn l (left_link false (given s) link) there f there_sound there_at there_told in
      let left_so : as_left l (slice_get s.links l) s ≡ before = ap (λ (o : Option LinkState). as_left l o s) at.there ∙ rw (at.phase_is) refl in
      subst (λ (m : ℕ). Moved k m s f t) same (record {
        other = other;
        moved = settles_moves fsn l (left_link false (given s) link) there f there_sound there_at there_told
            ∙ ap (λ (to : Option ℕ). messages (queue_for to there.rows) ++ pending l there f) to_is
            ∙ ap (λ (q : List Message). q ++ pending l there f) (told_target l link s f sound codes at (target there.links) refl)
            ∙ ap (λ (p : List Message). ahead_of_users (answer_on l (Some link) s) (messages (queue_for (target there.links) before.rows)) ++ p)
            (told_pending l link s f sound codes at)
            ∙ ap (λ (to : Option ℕ). ahead_of_users (answer_on l (Some link) s) (messages (queue_for to before.rows)) ++ pending l before f) (sym to_is)
            ∙ ap (λ (o : Option LinkState). ahead_of_users (answer_on l o s) (messages (queue_for (target t.links) before.rows)) ++ pending l before f) (sym at.there)
            ∙ ap (λ (u : State). ahead_of_users (answer_on l (slice_get s.links l) s) (messages (queue_for (target t.links) u.rows)) ++ pending l u f) (sym left_so);
      })
