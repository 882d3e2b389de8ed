-- WHAT AN END DOES, and the orders under way at both: the other stands still. `Both` is `Orders` of Views.antt in both
-- directions; `acts` says that a change of one end which makes no order keeps it (`Acts`), and `queues_both` that
-- queueing one does, about a link that its end just left. Views.antt argues on queues; here the rows and links of a
-- state give what it asks: a new message joins the queue of its place (`grows`, and `places` for an order), and an
-- order's target is up, so it isn't the link that the order is about. Case by case on the message's fate, no induction.
-- Keeping.antt, Leaving.antt, Turning.antt, Passing.antt, Obeying.antt and Blind.antt make an `Acts` of each event's
-- change, by link (`by_link`).
use Rattle.std.proofs.Common.{not, refl, ◌≡◌, ◌≢◌, ◌∙◌, ap, sym, subst, ℕ, ◌==◌, ◌-◌, Bool, true, false, List, [], ◌∷◌, ◌++◌, drop, slice_get, slice_set, Option, Some, None, ◌⊎◌, inl, inr}
use Rattle.std.proofs.lemmas.Bool.{eqb-true}
use Rattle.std.proofs.lemmas.List.{append-nil}
use Rattle.l3_orders.specs.declared.order.Order.{Order}
use Rattle.l3_orders.specs.Grammar.{text, order_any, link_of}
use Rattle.set_events.specs.declared.answer.Fate.{Fate}
use Rattle.set_events.specs.declared.answer.Fate.TheVariants.{Waiting, Unacked, Acked, Held, Parked, Back, Discarded}
use Rattle.set_model.specs.Rows.{is_managements, Row, is_on, is_waiting, is_unacked, is_held, is_parked, held, parked, unack, appended, put_ahead}
use Rattle.set_model.specs.Sound.{IsSound}
use Rattle.set_model.specs.State.{is_open, link_is_open, given, LinkState, State, is_up, is_settled, link_is_up, link_is_settled, target}
use Rattle.set_model.specs.Changeover.{fate_on, queued}
use Rattle.set_model.proofs.Ahead.{put_in, put_out}
use Rattle.set_model.proofs.Events.{untouched}
use Rattle.set_model.proofs.Lists.{found_up, get_set_same, get_set_other, within, target_open}
use Rattle.set_model.proofs.Places.{false_true, itself}
use Rattle.set_model.proofs.Rows.{new_order}
use Rattle.pair_model.specs.Run.{Message, messages}
use Rattle.pair_changeover.proofs.Table.{joined, joins_at, new_message, new_order_message, queue_waits, queue_holds, queue_apart, queue_untouched, aside_joins, aside_apart}
use Rattle.pair_changeover.proofs.Views.{view, pending, aside, queue, acked_on, accepted_of, accepted_on, last_of, last_on, Among, among_joined, among_front, among_behind, stands_on, stands_aside, IsNoOrder, NoneAbout, Tells, Orders, Came, plain, stayed, moved, CameAside, plain_aside, was_in, plain_not, Passes, carries, Queues, queued_in}

-- the orders of both
pub record Both (emergencies : Bool) (s f : State) : Type 0 where
  pub near : Orders emergencies (view s f) (view f s)
  pub far : Orders emergencies (view f s) (view s f)

pub both_back : {emergencies : Bool} (s f : State) → Both emergencies s f → Both emergencies f s
both_back s f b = record { near = b.far; far = b.near }

-- A CHANGE OF ONE END in which it makes no order
pub record Acts (s t f : State) : Type 0 where
  pub came : (link : ℕ) (m : Message) → Among m (pending link t f) → Came (view s f) link m
  pub came_aside : (m : Message) → Among m (aside t) → CameAside (view s f) m
  pub up_less : (link : ℕ) → is_up link t ≡ true → is_up link s ≡ true
  pub settled_more : (link : ℕ) → is_settled link t ≡ true → (is_settled link s ≡ true) ⊎ ((is_up link f ≡ false) × NoneAbout link (view f s))
  pub accepted : (link : ℕ) → (last_on link t ≡ last_on link s) ⊎ (is_up link s ≡ true)
  pub far_came : (link : ℕ) (m : Message) → Among m (pending link f t) → Among m (pending link f s)

down_if : (a b : Bool) → (b ≡ true → a ≡ true) → a ≡ false → b ≡ false
down_if a false w e = refl
down_if a true w e = absurd (let no : true ≡ false = sym (w refl) ∙ e in cc)

module _ {emergencies : Bool} (s t f : State) (a : Acts s t f) (o : Both emergencies s f) where
  near_passes : Passes (view s f) (view t f) (view f t)
  near_passes = record {
    came = a.came;
    came_aside = a.came_aside;
    none_up = λ link up. o.near.none_up link (a.up_less link up);
    none_settled = λ link settled. o.near.none_settled link settled;
    accepted = λ link. accepted_case link (a.accepted link);
    apart = λ link settled. apart_case link (a.settled_more link settled);
  }
    where
      accepted_case : (link : ℕ) → (last_on link t ≡ last_on link s) ⊎ (is_up link s ≡ true) → (last_on link t ≡ last_on link s) ⊎ NoneAbout link (view s f)
      accepted_case link (inl same) = inl same
      accepted_case link (inr up) = inr (o.near.none_up link up)

      apart_case : (link : ℕ) → (is_settled link s ≡ true) ⊎ ((is_up link f ≡ false) × NoneAbout link (view f s)) → is_up link f ≡ false
      apart_case link (inl old) = o.near.apart link old
      apart_case link (inr both) = both.0

  far_passes : Passes (view f s) (view f t) (view t f)
  far_passes = record {
    came = λ link m among. stayed (a.far_came link m among);
    came_aside = λ m among. was_in (stands_aside among);
    none_up = λ link up. o.far.none_up link up;
    none_settled = λ link settled. settled_case link (a.settled_more link settled);
    accepted = λ link. inl refl;
    apart = λ link settled. down_if (is_up link s) (is_up link t) (a.up_less link) (o.far.apart link settled);
  }
    where
      settled_case : (link : ℕ) → (is_settled link s ≡ true) ⊎ ((is_up link f ≡ false) × NoneAbout link (view f s)) → NoneAbout link (view f s)
      settled_case link (inl old) = o.far.none_settled link old
      settled_case link (inr both) = both.1

  pub acts : Both emergencies t f
  acts = record {
    near = carries (view s f) (view t f) (view f s) (view f t) near_passes o.near;
    far = carries (view f s) (view f t) (view s f) (view t f) far_passes o.far;
  }

-- where it accepts nothing the other's queues are the same
pub far_same : (s t f : State) → ((link : ℕ) → accepted_on link t ≡ accepted_on link s) → (link : ℕ) (m : Message)
    → Among m (pending link f t) → Among m (pending link f s)
far_same s t f same link m among = subst (λ (k : ℕ). Among m (queue (k - acked_on link f) link f.rows)) (same link) among

-- the same rows and links
pub stands_still : (s t f : State) → t.rows ≡ s.rows → t.links ≡ s.links → Acts s t f
stands_still s t f rows links = record {
  came = λ link m among. stayed (subst (λ (q : List Message). Among m q) (rw (rows, links) refl) among);
  came_aside = λ m among. was_in (stands_aside (subst (λ (q : List Message). Among m q) (rw rows refl) among));
  up_less = λ link up. ap (λ (ls : List LinkState). link_is_up (slice_get ls link)) (sym links) ∙ up;
  settled_more = λ link settled. inl (ap (λ (ls : List LinkState). link_is_settled (slice_get ls link)) (sym links) ∙ settled);
  accepted = λ link. inl (ap (λ (ls : List LinkState). last_of (slice_get ls link)) links);
  far_came = far_same s t f (λ link. ap (λ (ls : List LinkState). accepted_of (slice_get ls link)) links);
}

-- A NEW MESSAGE joins the queue of its place
pub data Grows (z : Message) (is_there : Bool) (old new : List Message) : Type 0 where
  grown : is_there ≡ true → new ≡ old ++ z ∷ [] → Grows z is_there old new
  ungrown : is_there ≡ false → new ≡ old → Grows z is_there old new

module _ (count link number : ℕ) (rows : List Row) (body : List ℕ) where
  waits_so : (k : ℕ) (b : Bool) → (k == link) ≡ b → (b ≡ true → held link rows ≡ [])
      → Grows (new_message number body) b (queue count link rows)
      (queue count link (appended number rows body (Waiting k)))
  waits_so k true e none = grown refl (queue_waits count link number rows body (Waiting k) e refl refl (none refl))
  waits_so k false e none = ungrown refl (queue_apart count link number rows body (Waiting k) e)

  holds_so : (k : ℕ) (b : Bool) → (k == link) ≡ b
      → Grows (new_message number body) b (queue count link rows)
      (queue count link (appended number rows body (Held k)))
  holds_so k true e = grown refl (queue_holds count link number rows body (Held k) refl refl e)
  holds_so k false e = ungrown refl (queue_apart count link number rows body (Held k) e)

  -- one that waits, is held, is parked or stands back
  pub data IsNew : Fate → Type 0 where
    to_wait : (k : ℕ) → ((k == link) ≡ true → held link rows ≡ []) → IsNew (Waiting k)
    to_hold : (k : ℕ) → IsNew (Held k)
    to_park : IsNew Parked
    to_back : (code : ℕ) → IsNew (Back code)

  pub grows : (fate : Fate) → IsNew fate
      → Grows (new_message number body) (is_on link fate) (queue count link rows)
      (queue count link (appended number rows body fate))
  grows (Waiting l) (to_wait k none) = waits_so k (k == link) refl none
  grows (Held l) (to_hold k) = holds_so k (k == link) refl
  grows Parked to_park = ungrown refl (queue_apart count link number rows body Parked refl)
  grows (Unacked l) new = elim new [ ]
  grows (Acked l) new = elim new [ ]
  grows (Back code) (to_back c) = ungrown refl (queue_apart count link number rows body (Back code) refl)
  grows (Discarded cause) new = elim new [ ]

-- AN ORDER joins it anywhere, as far as the orders under way go
pub data Placed (z : Message) (is_there : Bool) (old new : List Message) : Type 0 where
  joined_in : is_there ≡ true → (front rest : List Message) → old ≡ front ++ rest → new ≡ front ++ z ∷ rest → Placed z is_there old new
  left_out : is_there ≡ false → new ≡ old → Placed z is_there old new

pub placed_last : (z : Message) (b : Bool) (old new : List Message) → Grows z b old new → Placed z b old new
placed_last z b old new (grown e q) = joined_in e old [] (sym (append-nil old)) q
placed_last z b old new (ungrown e q) = left_out e q

pub placed_among : (z : Message) (b : Bool) (old new : List Message) → Placed z b old new → (m : Message) → Among m new
    → Among m old ⊎ ((m ≡ z) × (b ≡ true))
placed_among z b old new (left_out e q) m a = inl (subst (λ (x : List Message). Among m x) q a)
placed_among z b old new (joined_in e front rest was is) m a =
    go (among_joined m front (z ∷ rest) (subst (λ (x : List Message). Among m x) is a))
  where
    back : Among m (front ++ rest) → Among m old
    back = subst (λ (x : List Message). Among m x) (sym was)

    go : Among m front ⊎ Among m (z ∷ rest) → Among m old ⊎ ((m ≡ z) × (b ≡ true))
    go (inl f) = inl (back (among_front m front rest f))
    go (inr (inl same)) = inr (same, e)
    go (inr (inr r)) = inl (back (among_behind m front rest r))

module _ (number : ℕ) (rows : List Row) (body : List ℕ) where
  abbrev put : Option ℕ → List Row
  put to = put_ahead number rows body (fate_on to)

  module _ (count link : ℕ) where
    places_waiting : (to : ℕ) (b : Bool) → (to == link) ≡ b
        → Placed (new_order_message number body) b (queue count link rows) (queue count link (put (Some to)))
    places_waiting to false e =
        left_out refl (queue_untouched count link rows (put (Some to))
        (untouched link rows (put (Some to)) (put_out (λ (row : Row). is_on link row.fate) number rows body (Waiting to) e)))
    places_waiting to true e =
        let sent = drop count (unack link rows) in
        let there = put_in (λ (row : Row). is_waiting link row.fate) number rows body (Waiting to) e in
        joined_in refl (messages (sent ++ there.front)) (messages (there.rest ++ held link rows))
        (rw there.was (joins_at sent there.front there.rest (held link rows)))
        (rw (
          put_out (λ (row : Row). is_unacked link row.fate) number rows body (Waiting to) refl,
          there.is,
          put_out (λ (row : Row). is_held link row.fate) number rows body (Waiting to) refl,
        )
        (joins_at sent there.front (new_order number body (Waiting to) ∷ there.rest) (held link rows)))

    pub places : (to : Option ℕ)
        → Placed (new_order_message number body) (is_on link (fate_on to)) (queue count link rows) (queue count link (put to))
    places None = left_out refl (queue_untouched count link rows (put None)
        (untouched link rows (put None) (put_out (λ (row : Row). is_on link row.fate) number rows body Parked refl)))
    places (Some to) = places_waiting to (to == link) refl

  pub places_aside : (to : Option ℕ)
      → Placed (new_order_message number body) (is_parked (fate_on to)) (messages (parked rows)) (messages (parked (put to)))
  places_aside None =
      let there = put_in (λ (row : Row). is_parked row.fate) number rows body Parked refl in
      joined_in refl (messages there.front) (messages there.rest)
      (ap messages there.was ∙ joined there.front there.rest)
      (ap messages there.is ∙ joined there.front (new_order number body Parked ∷ there.rest))
  places_aside (Some to) = left_out refl (ap messages (put_out (λ (row : Row). is_parked row.fate) number rows body (Waiting to) refl))

-- a link that is up holds nothing
pub held_none : (s : State) (link : ℕ) → IsSound s → is_up link s ≡ true → held link s.rows ≡ []
held_none s link sound up = go (slice_get s.links link) refl
  where
    go : (o : Option LinkState) → slice_get s.links link ≡ o → held link s.rows ≡ []
    go None e = absurd (let no : false ≡ true = sym (ap link_is_up e) ∙ up in cc)
    go (Some state) e = (sound.links link state e).none_held (sym (ap link_is_up e) ∙ up)

pub held_open : (s : State) (link : ℕ) → IsSound s → is_open link s ≡ true → held link s.rows ≡ []
held_open s link sound is = held_none s link sound (found_up (slice_get s.links link) is)

-- A NEW MESSAGE that is no order of a changeover
module _ (s f : State) (body : List ℕ) (users : Bool) (t : State) (links : t.links ≡ s.links) (no_order : IsNoOrder body) where
  abbrev fresh_one : Message
  fresh_one = record { number = given s; body = body; users = users }

  fresh_plain : (m : Message) → m ≡ fresh_one → IsNoOrder m.body
  fresh_plain m e order is over = no_order order (ap (λ (x : Message). order_any x.body) (sym e) ∙ is) over

  pub new_acts : (on_link : ℕ → Bool) (on_none : Bool)
      → ((link : ℕ) → Placed fresh_one (on_link link) (pending link s f) (pending link t f))
      → Placed fresh_one on_none (aside s) (aside t) → Acts s t f
  new_acts on_link on_none on besides = record {
    came = λ link m among. on_case link m (placed_among fresh_one (on_link link) (pending link s f) (pending link t f) (on link) m among);
    came_aside = λ m among. aside_case m (placed_among fresh_one on_none (aside s) (aside t) besides m among);
    up_less = λ link up. ap (λ (ls : List LinkState). link_is_up (slice_get ls link)) (sym links) ∙ up;
    settled_more = λ link settled. inl (ap (λ (ls : List LinkState). link_is_settled (slice_get ls link)) (sym links) ∙ settled);
    accepted = λ link. inl (ap (λ (ls : List LinkState). last_of (slice_get ls link)) links);
    far_came = far_same s t f (λ link. ap (λ (ls : List LinkState). accepted_of (slice_get ls link)) links);
  }
    where
      on_case : (link : ℕ) (m : Message) → Among m (pending link s f) ⊎ ((m ≡ fresh_one) × (on_link link ≡ true)) → Came (view s f) link m
      on_case link m (inl a) = stayed a
      on_case link m (inr e) = plain (fresh_plain m e.0)

      aside_case : (m : Message) → Among m (aside s) ⊎ ((m ≡ fresh_one) × (on_none ≡ true)) → CameAside (view s f) m
      aside_case m (inl a) = was_in (stands_aside a)
      aside_case m (inr e) = plain_aside (fresh_plain m e.0)

-- it stands last
module _ (s f : State) (body : List ℕ) (fate : Fate) (t : State) (rows : t.rows ≡ appended (given s) s.rows body fate)
    (links : t.links ≡ s.links) (new : (link : ℕ) → IsNew 0 link (given s) s.rows body fate) (no_order : IsNoOrder body)
  where
    abbrev count_at : ℕ → ℕ
    count_at link = accepted_on link f - acked_on link s

    abbrev offer_z : Message
    offer_z = new_message (given s) body

    offer_on : (link : ℕ) → Placed offer_z (is_on link fate) (pending link s f) (pending link t f)
    offer_on link = placed_last offer_z (is_on link fate) (pending link s f) (pending link t f)
        (subst (λ (q : List Message). Grows offer_z (is_on link fate) (pending link s f) q) (rw (rows, links) refl)
        (grows (count_at link) link (given s) s.rows body fate (again fate (new link))))
      where
        again : (fate : Fate) → IsNew 0 link (given s) s.rows body fate → IsNew (count_at link) link (given s) s.rows body fate
        again (Waiting l) (to_wait k none) = to_wait k none
        again (Held l) (to_hold k) = to_hold k
        again Parked to_park = to_park
        again (Unacked l) new = elim new [ ]
        again (Acked l) new = elim new [ ]
        again (Back code) (to_back c) = to_back code
        again (Discarded cause) new = elim new [ ]

    offer_aside : (b : Bool) → is_parked fate ≡ b → Grows offer_z b (aside s) (messages (parked (appended (given s) s.rows body fate)))
    offer_aside false e = ungrown refl (aside_apart 0 0 (given s) s.rows body fate e)
    offer_aside true e = grown refl (aside_joins 0 0 (given s) s.rows body fate e)

    pub offers_acts : Acts s t f
    offers_acts = new_acts s f body (not (is_managements body)) t links no_order (λ link. is_on link fate) (is_parked fate) offer_on
        (placed_last offer_z (is_parked fate) (aside s) (aside t)
        (subst (λ (q : List Message). Grows offer_z (is_parked fate) (aside s) q) (rw rows refl) (offer_aside (is_parked fate) refl)))

-- or it's an order, which stands ahead of the users' messages
pub orders_acts : (s f : State) (order : Order)
    → IsNoOrder (text s.settings.profile order s.settings.sio s.settings.dpc s.settings.opc) → Acts s (queued order s) f
orders_acts s f order no_order =
    let body = text s.settings.profile order s.settings.sio s.settings.dpc s.settings.opc in
    new_acts s f body false (queued order s) refl no_order (λ link. is_on link (fate_on (target s.links))) (is_parked (fate_on (target s.links)))
    (λ link. places (given s) s.rows body (accepted_on link f - acked_on link s) link (target s.links))
    (places_aside (given s) s.rows body (target s.links))

-- AN ORDER IS QUEUED
module _ {emergencies : Bool} (s f : State) (order : Order) (sound : IsSound s) (o : Both emergencies s f)
    (is : order_any (text s.settings.profile order s.settings.sio s.settings.dpc s.settings.opc) ≡ Some order)
    (tells : Tells emergencies (view s f) order) (fresh : NoneAbout (link_of order) (view s f))
    (down : is_up (link_of order) s ≡ false) (unsettled : is_settled (link_of order) f ≡ false) where
  abbrev body : List ℕ
  body = text s.settings.profile order s.settings.sio s.settings.dpc s.settings.opc

  abbrev z : Message
  z = new_order_message (given s) body

  up_at : (to : ℕ) → target s.links ≡ Some to → is_up to s ≡ true
  up_at to e = let to_is = target_open s.links to e in found_up (slice_get s.links to) (ap link_is_open to_is.1 ∙ to_is.2)

  -- the link that the order is about is no target
  elsewhere : (link : ℕ) (to : Option ℕ) → target s.links ≡ to → is_on link (fate_on to) ≡ true → link ≢ link_of order
  elsewhere link None e on same = absurd cc
  elsewhere link (Some to) e on same =
      let up : is_up link s ≡ true = subst (λ (k : ℕ). is_up k s ≡ true) (eqb-true to link on) (up_at to e) in
      let no : false ≡ true = sym down ∙ ap (λ (k : ℕ). is_up k s) (sym same) ∙ up in
      cc

  queue_came : (link : ℕ) (m : Message)
      → Among m (pending link s f) ⊎ ((m ≡ z) × (is_on link (fate_on (target s.links)) ≡ true))
      → ((m ≡ z) × (link ≢ link_of order)) ⊎ Among m (pending link s f)
  queue_came link m (inl a) = inr a
  queue_came link m (inr e) = inl (e.0, elsewhere link (target s.links) refl e.1)

  queue_aside : (m : Message) → Among m (aside s) ⊎ ((m ≡ z) × (is_parked (fate_on (target s.links)) ≡ true)) → (m ≡ z) ⊎ Among m (aside s)
  queue_aside m (inl a) = inr a
  queue_aside m (inr e) = inl e.0

  queues : Queues emergencies z order (view s f) (view (queued order s) f) (view f s)
  queues = record {
    is = is;
    tells = tells;
    fresh = fresh;
    down = down;
    unsettled = unsettled;
    came = λ link m among. queue_came link m
        (placed_among z (is_on link (fate_on (target s.links))) (pending link s f) (pending link (queued order s) f)
        (places (given s) s.rows body (accepted_on link f - acked_on link s) link (target s.links)) m among);
    came_aside = λ m among. queue_aside m
        (placed_among z (is_parked (fate_on (target s.links))) (aside s) (aside (queued order s))
        (places_aside (given s) s.rows body (target s.links)) m among);
    up_same = λ link. refl;
    settled_same = λ link. refl;
    accepted_same = λ link. refl;
  }

  pub queues_both : Both emergencies (queued order s) f
  queues_both = record {
    near = queued_in z order (view s f) (view (queued order s) f) (view f s) queues o.near;
    far = record { tells = o.far.tells; none_up = o.far.none_up; none_settled = o.far.none_settled; one = o.far.one; own = o.far.own; apart = o.far.apart };
  }

-- ONE LINK CHANGES
module _ (k : ℕ) (link link' : LinkState) (s t : State) (there : slice_get s.links k ≡ Some link) (links_are : t.links ≡ slice_set s.links k link') where
  pub own_then : slice_get t.links k ≡ Some link'
  own_then = ap (λ (ls : List LinkState). slice_get ls k) links_are ∙ get_set_same s.links k link' (within s.links k link there)

  pub other_then : (l : ℕ) → (k == l) ≡ false → slice_get t.links l ≡ slice_get s.links l
  other_then l d = ap (λ (ls : List LinkState). slice_get ls l) links_are ∙ get_set_other s.links k l link' (λ same. false_true (k == l) d (rw same (itself l)))

  pub by_link : (P : ℕ → Option LinkState → Option LinkState → Type 0) → P k (Some link) (Some link')
      → ((l : ℕ) (o : Option LinkState) → (k == l) ≡ false → P l o o) → (l : ℕ)
      → P l (slice_get s.links l) (slice_get t.links l)
  by_link P own other l = go (k == l) refl
    where
      go : (b : Bool) → (k == l) ≡ b → P l (slice_get s.links l) (slice_get t.links l)
      go true e = subst (λ (n : ℕ). P n (slice_get s.links n) (slice_get t.links n)) (eqb-true k l e)
          (subst (λ (o : Option LinkState). P k o (slice_get t.links k)) (sym there)
          (subst (λ (o : Option LinkState). P k (Some link) o) (sym own_then) own))
      go false e = subst (λ (o : Option LinkState). P l (slice_get s.links l) o) (sym (other_then l e)) (other l (slice_get s.links l) e)

-- what stood at neither end about a link doesn't then
module _ (s t f : State) (a : Acts s t f) (link : ℕ) where
  pub acts_none : NoneAbout link (view s f) → NoneAbout link (view t f)
  acts_none none m (stands_on l among) about = go (a.came l m among)
    where
      go : Came (view s f) l m → ⊥
      go (plain p) = plain_not link m p about
      go (stayed b) = none m (stands_on l b) about
      go (moved i n) = none m i about
  acts_none none m (stands_aside among) about = go (a.came_aside m among)
    where
      go : CameAside (view s f) m → ⊥
      go (plain_aside p) = plain_not link m p about
      go (was_in i) = none m i about

  pub acts_far_none : NoneAbout link (view f s) → NoneAbout link (view f t)
  acts_far_none none m (stands_on l among) about = none m (stands_on l (a.far_came l m among)) about
  acts_far_none none m (stands_aside among) about = none m (stands_aside among) about
