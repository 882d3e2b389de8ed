-- EVERY MESSAGE OF A USER THAT A SET HOLDS was offered there: whatever is asked, an own new row is an order. And what
-- was discarded stays so. `Covers` says both, for any account of what is known and what is gone; `covers_on` that every
-- event but an offer keeps it, `covers_appended` that a row which is known does. It's a walk of small changes
-- (`step_walks`, set_model's Walk.antt): each keeps the bodies of rows, or appends an order, which is of the
-- management; only `last_row` is an induction, on the rows. Acting.antt and Hearing.antt keep it; by it Runs.antt knows
-- that what is acknowledged was offered.
use Rattle.std.proofs.Common.{option_map, refl, arith, ◌+◌, ◌≡◌, ◌∙◌, ap, sym, subst, ℕ, ◌==◌, ◌%◌, Bool, true, false, not, ◌||◌, List, [], ◌∷◌, ◌++◌, length, cond, Some, None, ◌⊎◌, inl, inr}
use Rattle.std.proofs.lemmas.Option.{same_Some}
use Rattle.std.proofs.lemmas.Bool.{eq-eqb, eqb-true}
use Rattle.l3_orders.specs.declared.order.Order.{Order}
use Rattle.l3_orders.specs.declared.order.Order.TheVariants.{Cbd}
use Rattle.l3_orders.specs.Grammar.{text}
use Rattle.set_events.specs.declared.answer.Fate.{Fate}
use Rattle.set_events.specs.declared.answer.Fate.TheVariants.{Waiting, Unacked, Acked, Discarded}
use Rattle.set_events.specs.declared.answer.DiscardCause.TheVariants.{Emergency, NoAnswer as NoAnswerCame}
use Rattle.set_route.specs.Routing.{code_for, home_of}
use Rattle.set_events.specs.declared.event.Event.{Event}
use Rattle.set_events.specs.declared.event.Event.TheVariants.{Offer}
use Rattle.set_model.specs.Changeover.{answered_link, queued, fate_on, left_by, moved_over, taken_back, acknowledged_code, declared, redeclared_on, released, withdrawn}
use Rattle.l2_units.specs.Grammar.{head_of}
use Rattle.set_model.specs.Control.{Choice, again, first, fill, choice_of, part_of}
use Rattle.set_model.specs.Rows.{orders_changed, is_users, is_managements, AreMarked, same_fate, waits, Row, is_on, is_back, is_back_to, is_unacked, is_waiting, is_parked, all_with, appended, moved, unack, octets_in, place, body_at, owner_at, row_of, service_indicator, IsNumbered}
use Rattle.set_model.specs.Sound.{IsManaged}
use Rattle.set_model.specs.State.{On, fate_at, given, LinkState, State, target, window_of, with_link}
use Rattle.set_model.specs.Step.{risen, opened, is_msu, sends, step}
use Rattle.std.proofs.lemmas.Bool.{cond_both}
use Rattle.set_model.proofs.Ahead.{numbered_put, put_length, put_row, each_put}
use Rattle.set_model.proofs.Events.{sent}
use Rattle.set_model.proofs.Rows.{numbered_appended, new_row, body_moved, moved_length, moved_numbered, moved_marked, each_append}
use Rattle.pair_changeover.proofs.Acked.{numbered_on}
use Rattle.pair_streams.proofs.Rising.{one_more}
use Rattle.set_model.proofs.Walk.{KeptBy, step_walks}
use Rattle.pair_changeover.proofs.Staying.{picked_stay, Stays, turned_stay, changed_stay, moved_stay, joined_stay, put_stay}

-- in an emergency
abbrev pub given_up : Fate
given_up = Discarded Emergency

never_given_up : (from : Fate) → (waits from || is_parked from) ≡ true → same_fate given_up from ≡ false
never_given_up from unsent = grind arith

-- the row that is found under a number has its mark
pub owner_marked : (number : ℕ) (rows : List Row) (body : List ℕ) (users : Bool) → AreMarked rows → body_at number rows ≡ Some body
    → owner_at number rows ≡ Some users → users ≡ not (is_managements body)
owner_marked number [] body users marked there owner = absurd cc
owner_marked number (x ∷ rows) body users marked there owner =
    go (x.number == number) there owner (λ b o. owner_marked number rows body users marked.1 b o)
  where
    go : (c : Bool) → option_map (λ (r : Row). r.body) (cond c (Some x) (row_of number rows)) ≡ Some body
        → option_map is_users (cond c (Some x) (row_of number rows)) ≡ Some users
        → (body_at number rows ≡ Some body → owner_at number rows ≡ Some users → users ≡ not (is_managements body))
        → users ≡ not (is_managements body)
    go true b o later = sym (same_Some x.users users o) ∙ marked.0 ∙ ap (λ (c : List ℕ). not (is_managements c)) (same_Some x.body body b)
    go false b o later = later b o

module _ (P : ℕ → List ℕ → Type 0) (Q : ℕ → Type 0) where
  pub record Covers (s : State) : Type 0 where
    pub managed : IsManaged s.settings
    pub numbered : IsNumbered (given s) s.rows
    pub marked : AreMarked s.rows
    pub known : (number : ℕ) (body : List ℕ) → body_at number s.rows ≡ Some body → (service_indicator body == 0) ≡ false → P number body
    pub gone : (number : ℕ) → Q number → place number s.rows ≡ Some given_up

  -- rows that keep their bodies
  covers_kept : (s t : State) → t.settings ≡ s.settings → t.finished ≡ s.finished → length t.rows ≡ length s.rows
      → IsNumbered (given s) t.rows → AreMarked t.rows → ((number : ℕ) → body_at number t.rows ≡ body_at number s.rows)
      → Stays given_up s.rows t.rows → Covers s → Covers t
  covers_kept s t settings left long numbered marked bodies stays c = record {
    managed = subst IsManaged (sym settings) c.managed;
    numbered = numbered_on s t left long numbered;
    marked = marked;
    known = λ number body e users. c.known number body (sym (bodies number) ∙ e) users;
    gone = λ number q. stays number (c.gone number q);
  }

  -- a new row has its own body
  last_row : (number : ℕ) (row : Row) (rows : List Row) (body : List ℕ) → body_at number (rows ++ row ∷ []) ≡ Some body
      → (body_at number rows ≡ Some body) ⊎ ((row.number ≡ number) × (row.body ≡ body))
  last_row number row [] body e = go (row.number == number) refl e
    where
      go : (b : Bool) → (row.number == number) ≡ b → body_at number (row ∷ []) ≡ Some body
          → (body_at number [] ≡ Some body) ⊎ ((row.number ≡ number) × (row.body ≡ body))
      go true h e = let same : Some row.body ≡ Some body = rw h at e in inr (eqb-true row.number number h, cc)
      go false h e = let no : None ≡ Some body = rw h at e in absurd cc
  last_row number row (r ∷ rows) body e = go (r.number == number) refl e (λ f. last_row number row rows body f)
    where
      go : (b : Bool) → (r.number == number) ≡ b → body_at number ((r ∷ rows) ++ row ∷ []) ≡ Some body
          → (body_at number (rows ++ row ∷ []) ≡ Some body → (body_at number rows ≡ Some body)
          ⊎ ((row.number ≡ number) × (row.body ≡ body))) → (body_at number (r ∷ rows) ≡ Some body)
          ⊎ ((row.number ≡ number) × (row.body ≡ body))
      go true h e later = inl (rw h (rw h at e))
      go false h e later = cases (later (rw h at e))
        where
          cases : (body_at number rows ≡ Some body) ⊎ ((row.number ≡ number) × (row.body ≡ body))
              → (body_at number (r ∷ rows) ≡ Some body) ⊎ ((row.number ≡ number) × (row.body ≡ body))
          cases (inl f) = inl (rw h f)
          cases (inr f) = inr f

  pub covers_appended : (s t : State) (body : List ℕ) (fate : Fate) → t.settings ≡ s.settings → t.finished ≡ s.finished
      → t.rows ≡ appended (given s) s.rows body fate → ((service_indicator body == 0) ≡ false → P (given s) body)
      → Covers s → Covers t
  covers_appended s t body fate settings left rows new c = record {
    managed = subst IsManaged (sym settings) c.managed;
    numbered = subst (λ (n : ℕ). IsNumbered n t.rows) (sym (one_more s t body fate left rows))
        (rw rows (numbered_appended (given s) s.rows body fate c.numbered));
    marked = rw rows (each_append _ s.rows _ c.marked (refl, tt));
    known = λ number other e users. go number other users (last_row number (new_row (given s) body fate) s.rows other (ap (body_at number) (sym rows) ∙ e));
    gone = λ number q. rw rows (joined_stay given_up s.rows _ number (c.gone number q));
  }
    where
      go : (number : ℕ) (other : List ℕ) → (service_indicator other == 0) ≡ false → (body_at number s.rows ≡ Some other)
          ⊎ ((given s ≡ number) × (body ≡ other)) → P number other
      go number other users (inl e) = c.known number other e users
      go number other users (inr e) =
          subst (λ (n : ℕ). P n other) e.0
          (subst (λ (b : List ℕ). P (given s) b) e.1 (new (ap (λ (b : List ℕ). service_indicator b == 0) e.1 ∙ users)))

  -- an order is no user's
  abbrev body_of : Order → State → List ℕ
  body_of order s = text s.settings.profile order s.settings.sio s.settings.dpc s.settings.opc

  never_users : {X : Type 0} (order : Order) (s : State) → Covers s → (service_indicator (body_of order s) == 0) ≡ false → X
  never_users order s c users =
      let own : (s.settings.sio % 16 == 0) ≡ true = eq-eqb (s.settings.sio % 16) 0 c.managed in
      let no : true ≡ false = sym own ∙ users in
      absurd cc

  order_marked : (order : Order) (s : State) → Covers s → false ≡ not (is_managements (body_of order s))
  order_marked order s c = subst (λ (b : Bool). false ≡ not b) (sym (eq-eqb (s.settings.sio % 16) 0 c.managed)) refl

  pub order_covers : (order : Order) (s : State) → Covers s → Covers (queued order s)
  order_covers order s c =
      let body = body_of order s in
      let fate = fate_on (target s.links) in
      let long = put_length (given s) s.rows body fate in
      let more : given (queued order s) ≡ given s + 1 = omega (arith, long) in
      record {
        managed = c.managed;
        numbered = subst (λ (n : ℕ). IsNumbered n (queued order s).rows) (sym more) (numbered_put (given s) s.rows body fate c.numbered);
        marked = each_put _ (given s) s.rows body fate c.marked (order_marked order s c);
        known = λ number other e users. go number other users (put_row (given s) s.rows body fate c.numbered number other e);
        gone = λ number q. put_stay given_up (given s) s.rows body fate c.numbered number (c.gone number q);
      }
    where
      go : (number : ℕ) (other : List ℕ) → (service_indicator other == 0) ≡ false → (body_at number s.rows ≡ Some other)
          ⊎ ((given s ≡ number) × (body_of order s ≡ other)) → P number other
      go number other users (inl e) = c.known number other e users
      go number other users (inr e) = never_users order s c (ap (λ (b : List ℕ). service_indicator b == 0) e.1 ∙ users)

  moved_covers : (test : Fate → Bool) (fate : Row → Fate) (s t : State) → test given_up ≡ false
      → t.settings ≡ s.settings → t.finished ≡ s.finished → t.rows ≡ moved test fate s.rows → Covers s → Covers t
  moved_covers test fate s t off settings left rows c =
      covers_kept s t settings left (rw rows (moved_length test fate s.rows))
      (rw rows (moved_numbered test fate (given s) s.rows c.numbered)) (rw rows (moved_marked test fate s.rows c.marked))
      (λ number. ap (body_at number) rows ∙ body_moved test fate (given s) number s.rows c.numbered)
      (rw rows (moved_stay given_up test off (given s) fate s.rows c.numbered)) c

  small : (Known : ℕ → Type 0) (May : Type 0) → KeptBy Known May (λ s t. Covers s → Covers t)
  small Known May = record {
    same = λ s c. c;
    after = λ a b d p q c. q (p c);
    delivers = λ body s c. record { managed = c.managed; numbered = c.numbered; marked = c.marked; known = c.known; gone = c.gone };
    queues = λ order s c. order_covers order s c;
    leaves = λ blind n link s known at c. moved_covers (is_back_to n) _ s (left_by blind n link s) refl refl refl refl c;
    acknowledges = λ count n link s known at few g c.
        covers_kept s _ refl refl g.kept.count (g.kept.numbered (given s) c.numbered) (g.kept.marked c.marked)
        (g.kept.bodies (given s) c.numbered) (turned_stay given_up (is_unacked n) refl (Acked n) count s.rows) c;
    gives_up = λ was_sent cause n link s known at g c.
        let off = cond_both was_sent (is_unacked n) (is_waiting n) (λ test. test given_up ≡ false) (λ e. refl) (λ e. refl) in
        covers_kept s _ refl refl g.kept.count (g.kept.numbered (given s) c.numbered) (g.kept.marked c.marked)
        (g.kept.bodies (given s) c.numbered)
        (changed_stay given_up (cond was_sent (is_unacked n) (is_waiting n)) off (Discarded cause) s.rows) c;
    gives_up_orders = λ cause n link s known at g c.
        covers_kept s (record s { rows = orders_changed (is_waiting n) (Discarded cause) s.rows }) refl refl g.kept.count
        (g.kept.numbered (given s) c.numbered) (g.kept.marked c.marked) (g.kept.bodies (given s) c.numbered)
        (picked_stay given_up (is_waiting n) refl (Discarded cause) (λ row. not (is_users row)) s.rows) c;
    takes_back = λ order from s unsent known g c.
        covers_kept s (taken_back order from s) refl refl g.kept.count
        (g.kept.numbered (given s) c.numbered) (g.kept.marked c.marked) (g.kept.bodies (given s) c.numbered)
        (picked_stay given_up (λ f. same_fate f from) (never_given_up from unsent) (Discarded NoAnswerCame) (λ row. row.number == order) s.rows) c;
    moves_off = λ told n link s known at c. moved_covers (is_on n) _ s (moved_over told n link s) refl refl refl refl c;
    answers = λ n link s known at c. covers_kept s (with_link n (answered_link link) s) refl refl refl c.numbered c.marked (λ number. refl) (λ number e. e) c;
    withdraws = λ count n link s known at g c.
        covers_kept s (withdrawn count n s) refl refl g.kept.count (g.kept.numbered (given s) c.numbered) (g.kept.marked c.marked)
        (g.kept.bodies (given s) c.numbered)
        (turned_stay given_up (is_waiting n) refl (Discarded NoAnswerCame) count s.rows) c;
    declares = λ may home alternative s up can c.
        let order = Cbd home (code_for home alternative) in
        covers_appended s (declared home alternative s) (body_of order s) (Waiting alternative) refl refl refl
        (λ users. never_users order s c users) c;
    redeclares = λ code via s due c.
        let order = Cbd (home_of code) code in
        covers_appended s (redeclared_on code (Some via) s) (body_of order s) (fate_at (On via) s) refl refl refl
        (λ users. never_users order s c users) c;
    acknowledges_back = λ code s known c. moved_covers (is_back code) _ s (acknowledged_code code s) refl refl refl refl c;
    releases = λ code s known c. moved_covers (is_back code) _ s (released code s) refl refl refl refl c;
    opens = λ n link s known at shut u c. moved_covers is_parked _ s (opened n link s) refl refl refl refl c;
  }

  sends_covers : (choice : Choice) (n : ℕ) (link : LinkState) (s : State) → Covers s → Covers (sends choice n s link).state
  sends_covers (again place) n link s c = covers_kept s _ refl refl refl c.numbered c.marked (λ number. refl) (λ number e. e) c
  sends_covers fill n link s c = covers_kept s _ refl refl refl c.numbered c.marked (λ number. refl) (λ number e. e) c
  sends_covers first n link s c = let k =
      (sent n s.rows).kept in covers_kept s _ refl refl k.count (k.numbered (given s) c.numbered) (k.marked c.marked)
      (k.bodies (given s) c.numbered) (turned_stay given_up (is_waiting n) refl (Unacked n) 1 s.rows) c

  -- every event but an offer
  pub covers_on : (s : State) (event : Event) → ((body : List ℕ) → event ≡ Offer body → ⊥) → Covers s → Covers (step s event).state
  covers_on s event apart c = step_walks s (λ t u. Covers t → Covers u) Covers event (record {
    small = small _ _;
    unmoved = c;
    rests = λ t u p q. q p;
    offers = λ body e none. absurd (apart body e);
    takes = λ body rest e there. record { managed = c.managed; numbered = c.numbered; marked = c.marked; known = c.known; gone = c.gone };
    sends = λ n link t e keeps at g. sends_covers (choice_of (octets_in (unack n t.rows)) link.control (window_of n link t.rows)) n link t (keeps c);
    hears = λ n unit link e fits at g.
        let count = (part_of link.control (window_of n link s.rows) (head_of unit) (is_msu unit)).acked in
        covers_kept s _ refl refl g.kept.count (g.kept.numbered (given s) c.numbered) (g.kept.marked c.marked)
        (g.kept.bodies (given s) c.numbered) (turned_stay given_up (is_unacked n) refl (Acked n) count s.rows) c;
    rises = λ n link e at. covers_kept s (risen n s) refl refl refl c.numbered c.marked (λ number. refl) (λ number e. e) c;
  })
