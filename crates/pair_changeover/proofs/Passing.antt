-- WHAT AN END DOES ON ONE LINK, and the orders under way at both: it sends, it hears, the link settles, or comes up.
-- `passing` is of a link that is up, `was_first` of what leaves the other's queue when it's accepted, `settles_acts` of
-- a link that settles by a number which leaves just what was pending (`IsReached`), `rises_orders` of one that comes up
-- at both ends. Queues are read off Table.antt, by link (`by_link`). The case that matters is settling: an order that
-- moves to the target isn't about it, since the target is up. No induction. Used by Keeping.antt, Hearing.antt,
-- Obeying.antt, Blind.antt and Ordered.antt, and by pair_streams's Settled.antt and Risen.antt.
use Rattle.std.proofs.Common.{refl, arith, ◌≡◌, ◌∙◌, ap, sym, subst, ℕ, suc, ◌≤◌, ◌==◌, ◌-◌, Bool, true, false, List, [], ◌∷◌, ◌++◌, slice_get, slice_set, Option, Some, None, ◌⊎◌, inl, inr}
use Rattle.std.proofs.lemmas.Bool.{eqb-true}
use Rattle.set_events.specs.declared.answer.Fate.TheVariants.{Acked, Parked}
use Rattle.set_model.specs.declared.phase.Phase.TheVariants.{Up, Down}
use Rattle.set_model.specs.declared.reached.Reached.TheVariants.{Upto}
use Rattle.set_model.specs.Rows.{Row, is_on, is_unacked, all_with, unack, held, parked, turned, moved as moved_rows}
use Rattle.set_model.specs.Sound.{IsSound}
use Rattle.set_model.specs.State.{link_is_open, LinkState, State, is_up, is_settled, link_is_up, link_is_settled, has_phase_settled, target}
use Rattle.set_model.specs.Changeover.{fate_on, acknowledged as acknowledged_link, settled_link, reached_by, is_reasonable, settled}
use Rattle.set_model.proofs.Events.{Untouched, acknowledged, moved_to, left as left_by_rows}
use Rattle.std.proofs.lemmas.List.{set-set}
use Rattle.set_model.proofs.Lists.{found_up, target_open}
use Rattle.set_model.proofs.Places.{apart}
use Rattle.set_model.proofs.Settling.{moves_the_rest, no_target}
use Rattle.set_model.proofs.Walk.{IsAt}
use Rattle.pair_model.specs.Run.{Message, messages}
use Rattle.pair_changeover.proofs.Changes.{Both, Acts, far_same, by_link, own_then, other_then, held_open}
use Rattle.pair_changeover.proofs.Table.{drop_none, queue_untouched, queue_settled, aside_settled, queue_accepted}
use Rattle.pair_changeover.proofs.Views.{view, pending, aside, queue, acked_of, acked_on, accepted_of, accepted_on, last_of, last_on, Among, among_joined, In, stands_on, stands_aside, NoneAbout, Orders, Came, stayed, moved, CameAside, was_in, Passes, carries}

-- A CHANGE ON A LINK THAT IS UP, by which no queue of this end changes: it sends, or hears
module _ (k : ℕ) (link link' : LinkState) (s t f : State) (at : IsAt k link Up s)
    (links : t.links ≡ slice_set s.links k link') (up : link'.phase ≡ Up)
    (own : queue (accepted_on k f - link'.acked) k t.rows ≡ queue (accepted_on k f - link.acked) k s.rows)
    (others : (l : ℕ) → (k == l) ≡ false → Untouched l s.rows t.rows) (parked_same : parked t.rows ≡ parked s.rows)
    (far_came : (l : ℕ) (m : Message) → Among m (pending l f t) → Among m (pending l f s)) where
  all : (P : ℕ → Option LinkState → Option LinkState → Type 0) → P k (Some link) (Some link')
      → ((l : ℕ) (o : Option LinkState) → (k == l) ≡ false → P l o o) → (l : ℕ)
      → P l (slice_get s.links l) (slice_get t.links l)
  all = by_link k link link' s t at.there links

  -- no queue of this end changes
  pub passing_queues : (l : ℕ) → pending l t f ≡ pending l s f
  passing_queues = all (λ n old new. queue (accepted_on n f - acked_of new) n t.rows
      ≡ queue (accepted_on n f - acked_of old) n s.rows) own
      (λ n old d. queue_untouched (accepted_on n f - acked_of old) n s.rows t.rows (others n d))

  pub passing : Acts s t f
  passing = record {
    came = λ l m among. stayed (subst (λ (q : List Message). Among m q) (passing_queues l) among);
    came_aside = λ m among. was_in (stands_aside (subst (λ (q : List Message). Among m q) (ap messages parked_same) among));
    up_less = λ l e. all (λ n old new. link_is_up new ≡ true → link_is_up old ≡ true) (λ g. was_up) (λ n old d g. g) l e;
    settled_more = λ l e. inl (all (λ n old new. link_is_settled new ≡ true → link_is_settled old ≡ true)
        (λ g. absurd (let no : false ≡ true = ap has_phase_settled (sym up) ∙ g in cc)) (λ n old d g. g) l e);
    accepted = λ l. accepted_at l;
    far_came = far_came;
  }
    where
      was_up : link_is_up (Some link) ≡ true
      was_up = ap Rattle.set_model.specs.State.has_phase_up at.phase_is

      accepted_at : (l : ℕ) → (last_on l t ≡ last_on l s) ⊎ (is_up l s ≡ true)
      accepted_at l = all (λ n old new. (last_of new ≡ last_of old) ⊎ (link_is_up old ≡ true)) (inr was_up) (λ n old d. inl refl) l

-- what the other's queues lose when this end accepts the first of one
module _ (k : ℕ) (link link' : LinkState) (s t f : State) (there : slice_get s.links k ≡ Some link) (links : t.links ≡ slice_set s.links k link') where
  -- nothing, where none is accepted
  pub far_stays : link'.accepted ≡ link.accepted → (l : ℕ) (m : Message) → Among m (pending l f t) → Among m (pending l f s)
  far_stays same = far_same s t f (by_link k link link' s t there links (λ n old new. accepted_of new ≡ accepted_of old) same (λ n old d. refl))

  module _ (one : link'.accepted ≡ suc link.accepted) (row : Row) (due : acked_on k f ≤ link.accepted)
      (head : slice_get (unack k f.rows) (link.accepted - acked_on k f) ≡ Some row) where
    abbrev pub first : Message
    first = record { number = row.number; body = row.body; users = row.users }

    pub was_first : pending k f s ≡ first ∷ pending k f t
    was_first =
        let next : suc (link.accepted - acked_on k f) ≡ link'.accepted - acked_on k f = omega (arith, due, one) in
        let then_accepted : accepted_on k t ≡ link'.accepted = ap accepted_of (own_then k link link' s t there links) in
        let now_accepted : accepted_on k s ≡ link.accepted = ap accepted_of there in
        ap (λ (n : ℕ). queue (n - acked_on k f) k f.rows) now_accepted
        ∙ queue_accepted (link.accepted - acked_on k f) k f.rows row head
        ∙ ap (λ (n : ℕ). first ∷ queue n k f.rows) next
        ∙ ap (λ (n : ℕ). first ∷ queue (n - acked_on k f) k f.rows) (sym then_accepted)

    pub far_loses : (l : ℕ) (m : Message) → Among m (pending l f t) → Among m (pending l f s)
    far_loses l m among = go (k == l) refl
      where
        go : (b : Bool) → (k == l) ≡ b → Among m (pending l f s)
        go true e = subst (λ (n : ℕ). Among m (pending n f t) → Among m (pending n f s)) (eqb-true k l e)
            (λ a. subst (λ (q : List Message). Among m q) (sym was_first) (inr a)) among
        go false e = subst (λ (o : Option LinkState). Among m (queue (accepted_of o - acked_on l f) l f.rows))
            (other_then k link link' s t there links l e) among

-- A LINK SETTLES by a number: it's reasonable, and what it leaves is just what was pending
pub record IsReached (fsn n : ℕ) (link : LinkState) (s f : State) : Type 0 where
  pub reasonable : is_reasonable fsn n link s.rows ≡ true
  pub left : pending n s f ≡ queue (reached_by fsn n link s.rows) n s.rows

module _ (fsn n : ℕ) (link : LinkState) (s f : State) (sound : IsSound s) (at : IsAt n link Down s) (r : IsReached fsn n link s f) where
  reasonable : is_reasonable fsn n link s.rows ≡ true
  reasonable = r.reasonable

  abbrev pub after : State
  after = settled (Upto fsn) n link s

  abbrev count : ℕ
  count = reached_by fsn n link s.rows

  abbrev pub link_then : LinkState
  link_then = settled_link true (acknowledged_link count link)

  pub links_then : after.links ≡ slice_set s.links n link_then
  links_then = rw reasonable (set-set s.links n (acknowledged_link count link) link_then)

  pub rows_then : after.rows ≡ moved_rows (is_on n) (all_with (fate_on (target s.links))) (turned (is_unacked n) (Acked n) count s.rows)
  rows_then = (moves_the_rest fsn n link s at.there reasonable).rows_are

  abbrev mid : List Row
  mid = turned (is_unacked n) (Acked n) count s.rows

  abbrev there_then : Option ℕ → List Row
  there_then to = moved_rows (is_on n) (all_with (fate_on to)) mid

  mid_others : (l : ℕ) → (n == l) ≡ false → Untouched l s.rows mid
  mid_others = (acknowledged n count s.rows).others

  no_own : (to : ℕ) → target s.links ≡ Some to → (n == to) ≡ false
  no_own to e = apart n to (no_target fsn n link s at.there reasonable at.phase_is to e)

  -- nothing is left on it
  left_none : (k : ℕ) (to : Option ℕ) → target s.links ≡ to → queue k n (there_then to) ≡ []
  left_none k None e =
      let m = left_by_rows n Parked mid refl refl in
      rw (m.unack_none, m.wait_none, m.held_none, drop_none {X = Row} k) refl
  left_none k (Some to) e =
      let m = (moved_to n to mid (no_own to e)).left_is in
      rw (m.unack_none, m.wait_none, m.held_none, drop_none {X = Row} k) refl

  own_pending : pending n s f ≡ queue count n s.rows
  own_pending = r.left

  others_stay : (k l : ℕ) (to : Option ℕ) → target s.links ≡ to → (n == l) ≡ false → is_on l (fate_on to) ≡ false → queue k l (there_then to) ≡ queue k l s.rows
  others_stay k l None e d f = queue_untouched k l mid _ ((left_by_rows n Parked mid refl refl).others l d f) ∙ queue_untouched k l s.rows mid (mid_others l d)
  others_stay k l (Some to) e d f = queue_untouched k l mid _ ((moved_to n to mid (no_own to e)).left_is.others l d f)
      ∙ queue_untouched k l s.rows mid (mid_others l d)

  held_at : (to : ℕ) → target s.links ≡ Some to → held to s.rows ≡ []
  held_at to e = let there = target_open s.links to e in held_open s to sound (ap link_is_open there.1 ∙ there.2)

  pub joins_target : (k to : ℕ) → target s.links ≡ Some to → queue k to (there_then (Some to)) ≡ queue k to s.rows ++ queue count n s.rows
  joins_target k to e =
      let own = sound.links n link at.there in
      queue_settled count k n to s.rows (no_own to e) own.in_order own.held_last (held_at to e)

  pub joins_aside : messages (parked (there_then None)) ≡ messages (parked s.rows) ++ queue count n s.rows
  joins_aside =
      let own = sound.links n link at.there in
      aside_settled count n s.rows own.in_order own.held_last

  -- its own, the target's, and the others'
  pub gone : (k : ℕ) → queue k n after.rows ≡ []
  gone k = ap (λ (rows : List Row). queue k n rows) rows_then ∙ left_none k (target s.links) refl

  counts_stay : (l : ℕ) → (n == l) ≡ false → acked_on l after ≡ acked_on l s
  counts_stay l d = ap acked_of (other_then n link link_then s after at.there links_then l d)

  pub settles_to : (to : ℕ) → target s.links ≡ Some to → pending to after f ≡ pending to s f ++ pending n s f
  settles_to to e =
      ap (λ (i : ℕ). queue (accepted_on to f - i) to after.rows) (counts_stay to (no_own to e))
      ∙ ap (λ (rows : List Row). queue (accepted_on to f - acked_on to s) to rows) (rows_then ∙ ap (λ (t : Option ℕ). there_then t) e)
      ∙ joins_target (accepted_on to f - acked_on to s) to e
      ∙ ap (λ (q : List Message). pending to s f ++ q) (sym own_pending)

  pub settles_apart : (l : ℕ) → (n == l) ≡ false → is_on l (fate_on (target s.links)) ≡ false → pending l after f ≡ pending l s f
  settles_apart l d off =
      ap (λ (i : ℕ). queue (accepted_on l f - i) l after.rows) (counts_stay l d)
      ∙ ap (λ (rows : List Row). queue (accepted_on l f - acked_on l s) l rows) rows_then
      ∙ others_stay (accepted_on l f - acked_on l s) l (target s.links) refl d off

  pub settles_aside : target s.links ≡ None → aside after ≡ aside s ++ pending n s f
  settles_aside e = ap (λ (rows : List Row). messages (parked rows)) (rows_then ∙ ap (λ (t : Option ℕ). there_then t) e)
      ∙ joins_aside ∙ ap (λ (q : List Message). aside s ++ q) (sym own_pending)

  pub settles_none_aside : (to : ℕ) → target s.links ≡ Some to → aside after ≡ aside s
  settles_none_aside to e = ap (λ (rows : List Row). messages (parked rows))
      (rows_then ∙ ap (λ (t : Option ℕ). there_then t) e)
      ∙ ap messages ((moved_to n to mid (no_own to e)).parked_same ∙ (acknowledged n count s.rows).parked_same)

  -- where its end left it and no order about it is pending there any more
  module _ {emergencies : Bool} (o : Both emergencies s f) (far_down : is_up n f ≡ false) (none : NoneAbout n (view f s)) where
    all_links : (P : ℕ → Option LinkState → Option LinkState → Type 0) → P n (Some link) (Some link_then)
        → ((l : ℕ) (old : Option LinkState) → (n == l) ≡ false → P l old old) → (l : ℕ)
        → P l (slice_get s.links l) (slice_get after.links l)
    all_links = by_link n link link_then s after at.there links_then

    abbrev At : ℕ → List Message → Type 0
    At l q = (m : Message) → Among m q → Came (view s f) l m

    came_other : (l : ℕ) (to : Option ℕ) → target s.links ≡ to → (n == l) ≡ false → (b : Bool)
        → is_on l (fate_on to) ≡ b → At l (queue (accepted_on l f - acked_on l s) l (there_then to))
    came_other l to e d false g m among = stayed (subst (λ (q : List Message). Among m q) (others_stay _ l to e d g) among)
    came_other l None e d true g m among = absurd cc
    came_other l (Some to) e d true g m among =
        subst (λ (i : ℕ). At i (queue (accepted_on i f - acked_on i s) i (there_then (Some to)))) (eqb-true to l g)
        (λ x a. joined_case to e x (among_joined x (pending to s f) (queue count n s.rows)
        (subst (λ (q : List Message). Among x q) (joins_target (accepted_on to f - acked_on to s) to e) a))) m
        among
      where
        joined_case : (to : ℕ) → target s.links ≡ Some to → (x : Message) → Among x (pending to s f) ⊎ Among x (queue count n s.rows) → Came (view s f) to x
        joined_case to e x (inl a) = stayed a
        joined_case to e x (inr a) =
            let stood : In x (view s f) = stands_on n (subst (λ (q : List Message). Among x q) (sym own_pending) a) in
            let there = target_open s.links to e in
            moved stood (λ about. o.near.none_up to (found_up (slice_get s.links to) (ap link_is_open there.1 ∙ there.2)) x stood about)

    came_at : (l : ℕ) → At l (pending l after f)
    came_at l m among = go (n == l) refl
      where
        go : (b : Bool) → (n == l) ≡ b → Came (view s f) l m
        go true e = absurd (subst (λ (q : List Message). Among m q) (gone (accepted_on n f - acked_on n after))
            (subst (λ (i : ℕ). Among m (pending i after f)) (sym (eqb-true n l e)) among))
        go false e =
            let counts : acked_on l after ≡ acked_on l s = ap acked_of (other_then n link link_then s after at.there links_then l e) in
            let same : pending l after f ≡ queue (accepted_on l f - acked_on l s) l (there_then (target s.links)) =
            ap (λ (i : ℕ). queue (accepted_on l f - i) l after.rows) counts
            ∙ ap (λ (rows : List Row). queue (accepted_on l f - acked_on l s) l rows) rows_then in
            came_other l (target s.links) refl e (is_on l (fate_on (target s.links))) refl m (subst (λ (q : List Message). Among m q) same among)

    came_aside_at : (to : Option ℕ) → target s.links ≡ to → (m : Message) → Among m (messages (parked (there_then to))) → CameAside (view s f) m
    came_aside_at (Some to) e m among =
        was_in (stands_aside (subst (λ (q : List Message). Among m q)
        (ap messages ((moved_to n to mid (no_own to e)).parked_same
        ∙ (acknowledged n count s.rows).parked_same)) among))
    came_aside_at None e m among = go (among_joined m (aside s) (queue count n s.rows) (subst (λ (q : List Message). Among m q) joins_aside among))
      where
        go : Among m (aside s) ⊎ Among m (queue count n s.rows) → CameAside (view s f) m
        go (inl a) = was_in (stands_aside a)
        go (inr a) = was_in (stands_on n (subst (λ (q : List Message). Among m q) (sym own_pending) a))

    pub settles_acts : Acts s after f
    settles_acts = record {
      came = came_at;
      came_aside = λ m among. came_aside_at (target s.links) refl m
          (subst (λ (q : List Message). Among m q) (ap (λ (rows : List Row). messages (parked rows)) rows_then) among);
      up_less = λ l up. all_links (λ i old new. link_is_up new ≡ true → link_is_up old ≡ true) (λ e. absurd cc) (λ i old d e. e) l up;
      settled_more = λ l e. all_links
          (λ i old new. link_is_settled new ≡ true → (link_is_settled old ≡ true)
          ⊎ ((is_up i f ≡ false) × NoneAbout i (view f s))) (λ g. inr (far_down, none)) (λ i old d g. inl g) l e;
      accepted = λ l. inl (all_links (λ i old new. last_of new ≡ last_of old) refl (λ i old d. refl) l);
      far_came = far_same s after f (all_links (λ i old new. accepted_of new ≡ accepted_of old) refl (λ i old d. refl));
    }

-- A LINK COMES UP at both ends: at each, what stood aside waits for it
pub record Rises (k : ℕ) (s t : State) : Type 0 where
  pub settled_was : is_settled k s ≡ true
  pub up_then : is_up k t ≡ true
  pub accepted_then : accepted_on k t ≡ 0
  pub unsettled_then : is_settled k t ≡ false
  pub own : (count : ℕ) → queue count k t.rows ≡ aside s
  pub others : (l : ℕ) → (k == l) ≡ false → Untouched l s.rows t.rows
  pub none_aside : parked t.rows ≡ []
  pub links : (l : ℕ) → (k == l) ≡ false → slice_get t.links l ≡ slice_get s.links l

module _ {emergencies : Bool} (k : ℕ) (s t f g : State) (a : Rises k s t) (b : Rises k f g) (o : Orders emergencies (view s f) (view f s)) where
  -- the link itself, or another
  split : (P : ℕ → Type 0) → P k → ((l : ℕ) → (k == l) ≡ false → P l) → (l : ℕ) → P l
  split P own other l = go (k == l) refl
    where
      go : (c : Bool) → (k == l) ≡ c → P l
      go true e = subst P (eqb-true k l e) own
      go false e = other l e

  rises_passes : Passes (view s f) (view t g) (view g t)
  rises_passes = record {
    came = split (λ l. (m : Message) → Among m (pending l t g) → Came (view s f) l m)
        (λ m among. let stood : In m (view s f) =
        stands_aside (subst (λ (q : List Message). Among m q) (a.own (accepted_on k g - acked_on k t)) among)
        in moved stood (λ about. o.none_settled k b.settled_was m stood about))
        (λ l d m among. stayed (subst (λ (q : List Message). Among m q) (same_at_other l d) among));
    came_aside = λ m among. absurd (subst (λ (q : List Message). Among m q) (ap messages a.none_aside) among);
    none_up = split (λ l. is_up l t ≡ true → NoneAbout l (view s f)) (λ e. o.none_settled k b.settled_was)
        (λ l d e. o.none_up l (ap link_is_up (sym (a.links l d)) ∙ e));
    none_settled = split (λ l. is_settled l g ≡ true → NoneAbout l (view s f)) (λ e. o.none_settled k b.settled_was)
        (λ l d e. o.none_settled l (ap link_is_settled (sym (b.links l d)) ∙ e));
    accepted = split (λ l. (last_on l t ≡ last_on l s) ⊎ NoneAbout l (view s f)) (inr (o.none_settled k b.settled_was)) (λ l d. inl (ap last_of (a.links l d)));
    apart = split (λ l. is_settled l t ≡ true → is_up l g ≡ false)
        (λ e. absurd (let no : false ≡ true = sym a.unsettled_then ∙ e in cc))
        (λ l d e. ap link_is_up (b.links l d) ∙ o.apart l (ap link_is_settled (sym (a.links l d)) ∙ e));
  }
    where
      same_at_other : (l : ℕ) → (k == l) ≡ false → pending l t g ≡ pending l s f
      same_at_other l d =
          ap (λ (i : ℕ). queue (i - acked_on l t) l t.rows) (ap accepted_of (b.links l d))
          ∙ ap (λ (i : ℕ). queue (accepted_on l f - i) l t.rows) (ap acked_of (a.links l d))
          ∙ queue_untouched (accepted_on l f - acked_on l s) l s.rows t.rows (a.others l d)

  pub rises_orders : Orders emergencies (view t g) (view g t)
  rises_orders = carries (view s f) (view t g) (view f s) (view g t) rises_passes o
