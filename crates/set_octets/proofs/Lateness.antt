-- LATE ORDERS ARE COUNTED ONCE: of all that a step does, only an order about a link that is settled changes its count,
-- and a step hears one order at most. Case by case on the event, and on a heard unit's order. `where_set`, where one
-- link changes, is an induction on the links, and so are `declared_links` and `released_links` on what is left.
use Rattle.std.proofs.Common.{refl, subst, arith, ap, ◌≡◌, ◌∙◌, ◌⊎◌, inl, inr, ℕ, zero, suc, Bool, true, false, List, [], ◌∷◌, Option, Some, None, slice_get, slice_set, if◌then◌else◌}
use Rattle.l3_orders.specs.declared.order.Order.{Order}
use Rattle.l3_orders.specs.Grammar.{order_of}
use Rattle.l2_units.specs.declared.unit.Unit.{Unit as SignalUnit}
use Rattle.set_events.specs.declared.event.Event.{Event}
use Rattle.set_events.specs.declared.event.Event.TheVariants.{Next, Heard, Up as UpEvent, Down as DownEvent, DownBlind, NoAnswer, Timed, Redeclare}
use Rattle.set_model.specs.declared.phase.Phase.{Phase}
use Rattle.set_model.specs.declared.phase.Phase.TheVariants.{Up, Down, Settled}
use Rattle.set_model.specs.declared.reached.Reached.{Reached}
use Rattle.set_model.specs.declared.reached.Reached.TheVariants.{Upto, Unknown, Unanswered, Unasked}
use Rattle.set_model.specs.State.{LinkState, State, given, late_at, late_in}
use Rattle.set_model.specs.Changeover.{acknowledged, acknowledged_by, answered, answered_link, changed_over, cleared, declared, declared_from, declared_if, can_declare, discarded, is_reasonable, left_link, moved_over, obeyed, one_later, order_obeyed, reached_by, released, released_from, settled, taken_back}
use Rattle.set_model.specs.Rows.{Fate, Waiting, Parked, Unreasonable, place}
use Rattle.set_model.specs.Step.{Outcome, opened_link, risen, risen_link, rises, timed, times_out, brought, controlled, controls, falls, heard, in_service, is_heard, next, Nothing, part_in, refused, step, takes}
use Rattle.set_model.proofs.Lists.{get_set_same, within}
use Rattle.set_model.proofs.Walk.{redeclares_links}
use Rattle.set_octets.specs.Lives.{IsLateOnce, LateOrdersAreCounted}

-- what holds of the count of the link that is set, and of each that stays, holds of every link's
where_set : (P : ℕ → ℕ → Type 0) (links : List LinkState) (k : ℕ) (old new : LinkState) → slice_get links k ≡ Some old
    → P old.late new.late → ((count : ℕ) → P count count) → (n : ℕ)
    → P (late_in (slice_get links n)) (late_in (slice_get (slice_set links k new) n))
where_set P [] k old new there one all n = absurd cc
where_set P (link ∷ links) zero old new there one all zero =
    let is : old ≡ link = cc in subst (λ (l : LinkState). P l.late new.late) is one
where_set P (link ∷ links) zero old new there one all (suc n) = all (late_in (slice_get links n))
where_set P (link ∷ links) (suc k) old new there one all zero = all link.late
where_set P (link ∷ links) (suc k) old new there one all (suc n) = where_set P links k old new there one all n

set_late : (links : List LinkState) (k : ℕ) (old new : LinkState) → slice_get links k ≡ Some old → new.late ≡ old.late
    → (n : ℕ) → late_in (slice_get (slice_set links k new) n) ≡ late_in (slice_get links n)
set_late links k old new there same n = where_set (λ a b. b ≡ a) links k old new there same (λ count. refl) n

declared_links : (home alternative count : ℕ) (s : State) → (declared_from home alternative count s).links ≡ s.links
declared_links home alternative zero s = refl
declared_links home alternative (suc count) s =
    declared_links home (suc alternative) count (declared_if home alternative s) ∙ one (can_declare home alternative s)
  where
    one : (b : Bool) → (if b then declared home alternative s else s).links ≡ s.links
    one true = refl
    one false = refl

released_links : (code count : ℕ) (s : State) → (released_from code count s).links ≡ s.links
released_links code zero s = refl
released_links code (suc count) s = released_links (suc code) count (released code s)

module _ (n : ℕ) where
  -- the count stands, or one more was heard
  abbrev Counts : State → State → Type 0
  Counts s t = (late_at n t ≡ late_at n s) ⊎ (late_at n t ≡ one_later (late_at n s))

  abbrev Stands : State → State → Type 0
  Stands s t = late_at n t ≡ late_at n s

  -- SETTLED
  settled_late : (reached : Reached) (k : ℕ) (link : LinkState) (s : State) → slice_get s.links k ≡ Some link
      → Stands s (settled reached k link s)
  settled_late Unknown k link s there = set_late s.links k link _ there refl n
  settled_late Unanswered k link s there = set_late s.links k link _ there refl n
  settled_late Unasked k link s there = set_late s.links k link _ there refl n
  settled_late (Upto fsn) k link s there = judge (is_reasonable fsn k link s.rows)
    where
      count : ℕ
      count = reached_by fsn k link s.rows

      some : LinkState
      some = acknowledged count link

      mid : Bool → State
      mid b = if b then acknowledged_by count k link s else discarded Unreasonable k s

      judge : (b : Bool) → Stands s (moved_over true k (if b then some else link) (mid b))
      judge true =
          set_late (slice_set s.links k some) k some _ (get_set_same s.links k some (within s.links k link there)) refl n
          ∙ set_late s.links k link some there refl n
      judge false = set_late s.links k link _ there refl n

  -- ORDERS
  over_counts : (reached : Reached) (k : ℕ) (link : LinkState) (phase : Phase) (s : State)
      → slice_get s.links k ≡ Some link → Counts s (changed_over reached k link phase s).state
  over_counts reached k link Up s there =
      let left = left_link false (given s) link in
      let at = get_set_same s.links k left (within s.links k link there) in
      inl (settled_late reached k left _ at ∙ set_late s.links k link left there refl n)
  over_counts reached k link Down s there = inl (settled_late reached k link s there)
  over_counts reached k link Settled s there =
      where_set (λ a b. (b ≡ a) ⊎ (b ≡ one_later a)) s.links k link (answered_link link) there (inr refl)
      (λ count. inl refl) n

  answer_stands : (reached : Reached) (k : ℕ) (link : LinkState) (phase : Phase) (s : State)
      → slice_get s.links k ≡ Some link → Stands s (answered reached k link phase s).state
  answer_stands reached k link Down s there = settled_late reached k link s there
  answer_stands reached k link phase s there = grind arith

  order_counts : (order : Order) (s : State) → Counts s (order_obeyed order s).state
  order_counts order s = grind (arith, over_counts, answer_stands)

  obeyed_counts : (order : Option Order) (s : State) → Counts s (obeyed order s).state
  obeyed_counts None s = inl refl
  obeyed_counts (Some order) s = order_counts order s

  takes_count : (body : Option (List ℕ)) (s : State) → Counts s (takes body s).state
  takes_count None s = inl refl
  takes_count (Some body) s = let by = obeyed_counts (order_of s.settings.profile body) s in grind arith

  -- EVENTS
  -- a unit that is heard leaves the count, till its body is taken
  controls_count : (unit : SignalUnit) (k : ℕ) (s : State) (link : LinkState) → slice_get s.links k ≡ Some link
      → Counts s (controls unit k s link).state
  controls_count unit k s link there =
      let heard = controlled unit k s link in
      let same : Stands s heard = set_late s.links k link _ there refl n in
      let after = late_at n (controls unit k s link).state in
      subst (λ (count : ℕ). (after ≡ count) ⊎ (after ≡ one_later count)) same
      (takes_count (brought (part_in unit k link s).accept unit) heard)

  heard_counts : (unit : SignalUnit) (k : ℕ) (s : State) (link : LinkState) → slice_get s.links k ≡ Some link
      → Counts s (heard unit k s link).state
  heard_counts unit k s link there = fits (is_heard s.settings.profile unit)
    where
      fits : (b : Bool) → Counts s (if b then controls unit k s link else refused s Nothing).state
      fits true = controls_count unit k s link there
      fits false = inl refl

  in_counts : (k : ℕ) (s : State) (f : LinkState → Outcome)
      → ((link : LinkState) → slice_get s.links k ≡ Some link → Counts s (f link).state) → Counts s (in_service k s f).state
  in_counts k s f each = grind arith

  -- where the link that changes keeps its count
  same_counts : (k : ℕ) (s : State) (link link' : LinkState) → slice_get s.links k ≡ Some link → link'.late ≡ link.late
      → Counts s (record s { links = slice_set s.links k link' })
  same_counts k s link link' there same = inl (set_late s.links k link link' there same n)

  -- an order is taken back, and the link settles
  timed_counts : (k : ℕ) (order : Option Fate) (link : LinkState) (s : State) → slice_get s.links k ≡ Some link
      → Counts s (timed order k s link).state
  timed_counts k (Some (Waiting to)) link s there = inl (settled_late Unasked k link (taken_back link.order (Waiting to) s) there)
  timed_counts k (Some Parked) link s there = inl (settled_late Unasked k link (taken_back link.order Parked s) there)
  timed_counts k order link s there = grind arith

  times_count : (k : ℕ) (phase : Phase) (link : LinkState) (s : State) → slice_get s.links k ≡ Some link
      → Counts s (times_out k s link phase).state
  times_count k Down link s there = timed_counts k (place link.order s.rows) link s there
  times_count k Up link s there = inl refl
  times_count k Settled link s there = inl refl

  -- a link that comes up opens
  rises_count : (k : ℕ) (phase : Phase) (link : LinkState) (s : State) → slice_get s.links k ≡ Some link
      → Counts s (rises k s phase).state
  rises_count k Up link s there = inl refl
  rises_count k Down link s there = inl refl
  rises_count k Settled link s there =
      let new = risen_link s.settings.profile s.settings.method (late_at k s) in
      inl (set_late (risen k s).links k new (opened_link new) (get_set_same s.links k new (within s.links k link there)) refl n
      ∙ set_late s.links k link new there (ap late_in there) n)

  late_counts : (s : State) (event : Event) → Counts s (step s event).state
  unfolding step
  late_counts s (Heard k unit) = in_counts k s (heard unit k s) (heard_counts unit k s)
  late_counts s (NoAnswer k) =
      let settle = λ (link : LinkState) (there : slice_get s.links k ≡ Some link). settled_late Unanswered k link s there in
      grind (arith, settle)
  late_counts s (Timed k) = grind (arith, times_count)
  late_counts s (Redeclare k) = inl (ap (λ (ls : List LinkState). late_in (slice_get ls n)) (redeclares_links k s))
  late_counts s (UpEvent k) = grind (arith, rises_count)
  late_counts s (Next k) = in_counts k s (next k (cleared k s)) (λ link there. same_counts k s link _ there refl)
  late_counts s (DownEvent k) = in_counts k s (falls false k s) (λ link there. same_counts k s link _ there refl)
  late_counts s (DownBlind k) = in_counts k s (falls true k s) (λ link there. same_counts k s link _ there refl)
  late_counts s event = grind (arith, declared_links, released_links)

pub late_orders : LateOrdersAreCounted
late_orders n s event = once (late_counts n s event)
  where
    once : (late_at n (step s event).state ≡ late_at n s) ⊎ (late_at n (step s event).state ≡ one_later (late_at n s))
        → IsLateOnce n s (step s event).state
    once (inl same) = IsLateOnce.as_before same
    once (inr more) = IsLateOnce.one_more more
