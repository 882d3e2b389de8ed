-- THE WALK over the cases of the step, once: what each small change keeps, every event keeps. `KeptBy` lists the small
-- changes: a link is left, some of its messages are acknowledged or given up, what it has moves off, an order is
-- queued, and so on; `WalkedBy` adds the first change of an event, and `step_walks` leads each event through them. It's
-- case by case on the event, the order and the phase; `declare_walks` and `release_walks` are inductions on the links
-- and codes that are left. Soundness.antt, Staying.antt and Framing.antt are such walks; so are parts of pair_model's
-- Following.antt and pair_changeover's Acked.antt.
use Rattle.std.proofs.Common.{refl, arith, ap, ◌≡◌, ◌∙◌, ◌<◌, ◌≤◌, length, ℕ, zero, suc, ◌+◌, Bool, true, false, ◌⊎◌, List, [], ◌∷◌, ◌++◌, slice_get, Option, Some, None, inl, inr, cond, ◌||◌}
use Rattle.std.proofs.lemmas.Bool.{cond_both}
use Rattle.std.proofs.lemmas.Bool.Decides.{nat_tests}
use Rattle.l3_orders.specs.Grammar.{link_of, order_of}
use Rattle.set_route.specs.Routing.{code_for, code_of, home_of}
use Rattle.set_model.specs.Step.{SignalUnit, Event, BackTimeout, Restore, Redeclare, DownEvent, DownBlind, Heard, Next, NoAnswer, Timed, timed, times_out, Offer, Take, UpEvent, step, Outcome, brought, controlled, controls, falls, in_service, restores, NotUp, opened, risen, risen_link, comes_back, next, offer_refusal, offered, part_in, rises, taken, takes, stepped, is_heard, with_known, redeclares, runs_out, refused, Done, Nothing}
use Rattle.set_model.specs.Changeover.{Order, Cba, Cbd, Coa, Reached, Unanswered, Unasked, order_at, taken_back, Unknown, Upto, acknowledged_by, answered, answered_link, can_declare, changed_over, cleared, acknowledged as acknowledged_link, acknowledged_code, declared, declared_from, some_declare, discarded, is_reasonable, overdue_via, redeclared_from, redeclared_if, redeclared_on, is_overtaken, leading, leaving_order, left_by, left_link, moved_over, obeyed, order_obeyed, queued, reached_by, released, released_from, reply_of, settled, some_in_use, some_overdue, withdrawn}
use Rattle.set_model.specs.Frame.{BringsAbout, BringsBackTo, Concerns}
use Rattle.set_model.specs.Rows.{DiscardCause, Emergency, NoAnswer as NoAnswerCame, Unreasonable, Discarded, changed, orders_changed, is_unacked, is_waiting, unack, wait, waits, is_parked, Fate, Waiting, Parked, place}
use Rattle.set_model.specs.Sound.{BeginsNone}
use Rattle.set_model.specs.State.{Phase, Down, Settled, Up, link_count, LinkState, State, given, is_open, link_is_open, open_link, last_accepted, late_at, with_link}
use Rattle.set_model.proofs.Events.{ChangesOn, Unparked, acknowledged, given_up, orders_given_up, sent_by, TakenBack, taken_back_rows, unparked, withdrawn_rows}
use Rattle.set_model.proofs.Lists.{within, get_set_same}
use Rattle.std.proofs.lemmas.List.{length-set}

-- where a link stands, left or in service
pub record IsAt (n : ℕ) (link : LinkState) (phase : Phase) (s : State) : Type 0 where
  pub there : slice_get s.links n ≡ Some link
  pub phase_is : link.phase ≡ phase

-- a relation of two states that each small change keeps, on links of which something is known, and where a changeback
-- may begin
pub record KeptBy (Known : ℕ → Type 0) (May : Type 0) (R : State → State → Type 0) : Type 0 where
  pub same : (s : State) → R s s
  pub after : (a b c : State) → R a b → R b c → R a c
  pub delivers : (body : List ℕ) (s : State) → R s (record s { inbox = s.inbox ++ body ∷ [] })
  pub queues : (order : Order) (s : State) → R s (queued order s)
  pub leaves : (blind : Bool) (n : ℕ) (link : LinkState) (s : State) → Known n → IsAt n link Up s → R s (left_by blind n link s)
  pub acknowledges : (count n : ℕ) (link : LinkState) (s : State) → Known n → IsAt n link Down s
      → count ≤ length (unack n s.rows) → ChangesOn n s.rows (acknowledged_by count n link s).rows
      → R s (acknowledged_by count n link s)
  pub gives_up : (sent : Bool) (cause : DiscardCause) (n : ℕ) (link : LinkState) (s : State) → Known n
      → IsAt n link Down s → ChangesOn n s.rows
      (changed (cond sent (is_unacked n) (is_waiting n)) (Discarded cause) s.rows)
      → R s (record s { rows = changed (cond sent (is_unacked n) (is_waiting n)) (Discarded cause) s.rows })
  pub gives_up_orders : (cause : DiscardCause) (n : ℕ) (link : LinkState) (s : State) → Known n → IsAt n link Down s
      → ChangesOn n s.rows (orders_changed (is_waiting n) (Discarded cause) s.rows)
      → R s (record s { rows = orders_changed (is_waiting n) (Discarded cause) s.rows })
  pub takes_back : (order : ℕ) (from : Fate) (s : State) → (waits from || is_parked from) ≡ true
      → ((n : ℕ) → is_waiting n from ≡ true → Known n) → TakenBack from s.rows (taken_back order from s).rows
      → R s (taken_back order from s)
  pub moves_off : (told : Bool) (n : ℕ) (link : LinkState) (s : State) → Known n → IsAt n link Down s → R s (moved_over told n link s)
  pub answers : (n : ℕ) (link : LinkState) (s : State) → Known n → IsAt n link Settled s → R s (with_link n (answered_link link) s)
  pub withdraws : (count n : ℕ) (link : LinkState) (s : State) → Known n → IsAt n link Up s
      → ChangesOn n s.rows (withdrawn count n s).rows → R s (withdrawn count n s)
  pub declares : May → (home alternative : ℕ) (s : State) → is_open home s ≡ true → can_declare home alternative s ≡ true → R s (declared home alternative s)
  pub redeclares : (code via : ℕ) (s : State) → overdue_via (code_of code s.routing) s.rows ≡ Some via → R s (redeclared_on code (Some via) s)
  pub acknowledges_back : (code : ℕ) (s : State) → Known (home_of code) → R s (acknowledged_code code s)
  pub releases : (code : ℕ) (s : State) → Known (home_of code) → R s (released code s)
  pub opens : (n : ℕ) (link : LinkState) (s : State) → Known n → IsAt n link Up s → open_link link ≡ false
      → Unparked n s.rows (opened n link s).rows → R s (opened n link s)

-- the link of an order, or the home of the code that it acknowledges
abbrev pub Touches : Order → ℕ → Type 0
Touches order n = (link_of order ≡ n) ⊎ ((link code : ℕ) × (order ≡ Cba link code) × (home_of code ≡ n))

module _ (Known : ℕ → Type 0) (May : Type 0) (R : State → State → Type 0) (k : KeptBy Known May R) where
  -- settling
  both_given_up : (cause : DiscardCause) (n : ℕ) (link : LinkState) (s : State) → Known n → IsAt n link Down s
      → R s (record s {
        rows = changed (is_waiting n) (Discarded cause)
            (changed (is_unacked n) (Discarded cause) s.rows);
      })
  both_given_up cause n link s known at =
      let mid : State = record s { rows = changed (is_unacked n) (Discarded cause) s.rows } in
      k.after s mid (record mid { rows = changed (is_waiting n) (Discarded cause) mid.rows })
      (k.gives_up true cause n link s known at (given_up n true cause s.rows))
      (k.gives_up false cause n link mid known (record { there = at.there; phase_is = at.phase_is })
      (given_up n false cause mid.rows))

  off : (told : Bool) (n : ℕ) (link : LinkState) (s mid : State) → Known n → R s mid → IsAt n link Down mid → R s (moved_over told n link mid)
  off told n link s mid known r at = k.after s mid (moved_over told n link mid) r (k.moves_off told n link mid known at)

  pub settle_walks : (reached : Reached) (n : ℕ) (link : LinkState) (s : State) → Known n → IsAt n link Down s → R s (settled reached n link s)
  settle_walks Unknown n link s known at =
      off true n link s _ known (k.gives_up true Emergency n link s known at (given_up n true Emergency s.rows))
      (record { there = at.there; phase_is = at.phase_is })
  settle_walks Unanswered n link s known at =
      let mid : State = record s { rows = changed (is_unacked n) (Discarded NoAnswerCame) s.rows } in
      off false n link s _ known
      (k.after s mid (record mid { rows = orders_changed (is_waiting n) (Discarded NoAnswerCame) mid.rows })
      (k.gives_up true NoAnswerCame n link s known at (given_up n true NoAnswerCame s.rows))
      (k.gives_up_orders NoAnswerCame n link mid known (record { there = at.there; phase_is = at.phase_is })
      (orders_given_up n NoAnswerCame mid.rows)))
      (record { there = at.there; phase_is = at.phase_is })
  settle_walks Unasked n link s known at =
      off false n link s _ known (k.gives_up true NoAnswerCame n link s known at (given_up n true NoAnswerCame s.rows))
      (record { there = at.there; phase_is = at.phase_is })
  settle_walks (Upto fsn) n link s known at = go (is_reasonable fsn n link s.rows) refl
    where
      count : ℕ
      count = reached_by fsn n link s.rows

      go : (b : Bool) → is_reasonable fsn n link s.rows ≡ b
          → R s (moved_over true n (cond b (acknowledged_link count link) link) (cond b (acknowledged_by count n link s) (discarded Unreasonable n s)))
      go true e = off true n (acknowledged_link count link) s (acknowledged_by count n link s) known
          (k.acknowledges count n link s known at (grind (arith, nat_tests, e)) (acknowledged n count s.rows).in_place)
          (record { there = get_set_same s.links n (acknowledged_link count link) (within s.links n link at.there); phase_is = at.phase_is })
      go false e = off true n link s _ known (both_given_up Unreasonable n link s known at) (record { there = at.there; phase_is = at.phase_is })

  -- orders
  over_walks : (reached : Reached) (n : ℕ) (link : LinkState) (phase : Phase) (s : State) → Known n
      → IsAt n link phase s → R s (changed_over reached n link phase s).state
  over_walks reached n link Up s known at =
      let told = queued (Coa n (last_accepted link)) (left_by false n link s) in
      k.after s told _ (k.after s _ told (k.leaves false n link s known at)
      (k.queues (Coa n (last_accepted link)) (left_by false n link s)))
      (settle_walks reached n (left_link false (given s) link) told known
      (record {
        there = get_set_same s.links n (left_link false (given s) link) (within s.links n link at.there);
        phase_is = refl;
      }))
  over_walks reached n link Down s known at = settle_walks reached n link s known at
  over_walks reached n link Settled s known at =
      let told = queued (reply_of n link) s in
      k.after s told (with_link n (answered_link link) told) (k.queues (reply_of n link) s)
      (k.answers n link told known (record { there = at.there; phase_is = at.phase_is }))

  answer_walks : (reached : Reached) (n : ℕ) (link : LinkState) (phase : Phase) (s : State) → Known n
      → IsAt n link phase s → R s (answered reached n link phase s).state
  answer_walks reached n link phase s known at = grind (arith, settle_walks)

  -- changeback
  pub declare_walks : May → (home alternative n : ℕ) (s : State) → is_open home s ≡ true → R s (declared_from home alternative n s)
  declare_walks may home alternative zero s o = k.same s
  declare_walks may home alternative (suc n) s o =
      cond_both (can_declare home alternative s) (declared home alternative s) s (λ (u : State). R s (declared_from home (suc alternative) n u))
      (λ e. k.after s (declared home alternative s) _ (k.declares may home alternative s o e)
      (declare_walks may home (suc alternative) n (declared home alternative s) o))
      (λ e. declare_walks may home (suc alternative) n s o)

  redeclare_walks : (code : ℕ) (o : Option ℕ) (s : State) → overdue_via (code_of code s.routing) s.rows ≡ o
      → R s (redeclared_on code o s)
  redeclare_walks code None s e = k.same s
  redeclare_walks code (Some via) s e = k.redeclares code via s e

  pub again_walks : (code n : ℕ) (s : State) → R s (redeclared_from code n s)
  again_walks code zero s = k.same s
  again_walks code (suc n) s =
      k.after s (redeclared_if code s) _ (redeclare_walks code (overdue_via (code_of code s.routing) s.rows) s refl)
      (again_walks (suc code) n (redeclared_if code s))

  pub release_walks : (code n : ℕ) (s : State) → ((c : ℕ) → code ≤ c → c < code + n → Known (home_of c)) → R s (released_from code n s)
  release_walks code zero s known = k.same s
  release_walks code (suc n) s known =
      k.after s (released code s) _ (k.releases code s (known code (omega arith) (omega arith)))
      (release_walks (suc code) n (released code s) (λ c low high. known c (omega (arith, low)) (omega (arith, high))))

  pub obeys_walks : (order : Order) (s : State) → ((n : ℕ) → Touches order n → Known n) → R s (order_obeyed order s).state
  obeys_walks (Cbd n code) s known = k.queues (Cba n code) s
  obeys_walks (Cba n code) s known = let there = known (home_of code) (inr (n, code, refl, refl)) in grind arith
  obeys_walks order s known = grind (arith, over_walks, answer_walks, known)

  obeyed_walks : (o : Option Order) (s : State) → ((order : Order) → o ≡ Some order → (n : ℕ) → Touches order n → Known n) → R s (obeyed o s).state
  obeyed_walks o s known = grind (arith, obeys_walks)

  pub takes_walks : (body : Option (List ℕ)) (s : State)
      → ((b : List ℕ) → body ≡ Some b → (o : Order) → order_of s.settings.profile b ≡ Some o → (n : ℕ) → Touches o n
      → Known n) → R s (takes body s).state
  takes_walks None s known = grind arith
  takes_walks (Some body) s known = let by = obeyed_walks (order_of s.settings.profile body) s (known body refl) in grind arith

-- what the first small change of an event leads to, and what each one after it keeps
pub record WalkedBy (s : State) (event : Event) (R : State → State → Type 0) (S : State → Type 0) : Type 0 where
  pub small : KeptBy (λ n. Concerns event n s) (BeginsNone event → ⊥) R
  pub unmoved : S s
  pub rests : (t u : State) → S t → R t u → S u
  pub offers : (body : List ℕ) → event ≡ Offer body → offer_refusal s.settings.profile s.rows body ≡ None → S (offered None s body).state
  pub takes : (body : List ℕ) (rest : List (List ℕ)) → event ≡ Take → s.inbox ≡ body ∷ rest → S (record s { inbox = rest })
  pub sends : (n : ℕ) (link : LinkState) (t : State) → event ≡ Next n → R s t → IsAt n link Up t
      → ChangesOn n t.rows (next n t link).state.rows → S (next n t link).state
  pub hears : (n : ℕ) (unit : SignalUnit) (link : LinkState) → event ≡ Heard n unit
      → is_heard s.settings.profile unit ≡ true → IsAt n link Up s → ChangesOn n s.rows (controlled unit n s link).rows
      → S (controlled unit n s link)
  pub rises : (n : ℕ) (link : LinkState) → event ≡ UpEvent n → IsAt n link Settled s
      → S (risen n s)

module _ (s : State) (R : State → State → Type 0) (S : State → Type 0) where
  in_walks : (n : ℕ) (f : LinkState → Outcome) → S s → ((link : LinkState) → IsAt n link Up s → S (f link).state) → S (in_service n s f).state
  in_walks n f unmoved all = grind arith

  take_walks : WalkedBy s Take R S → (inbox : List (List ℕ)) → s.inbox ≡ inbox → S (taken inbox s).state
  take_walks w inbox e = grind arith

  hear_walks : (n : ℕ) (unit : SignalUnit) (link : LinkState) → WalkedBy s (Heard n unit) R S
      → is_heard s.settings.profile unit ≡ true → IsAt n link Up s → S (controls unit n s link).state
  hear_walks n unit link w fits at =
      let part = part_in unit n link s in
      let either : (accept : Bool) (unit : SignalUnit) (b : List ℕ) → brought accept unit ≡ Some b → (o : Order)
      → order_of s.settings.profile b ≡ Some o → (m : ℕ) → Touches o m → BringsAbout s.settings.profile m unit
      ⊎ BringsBackTo s.settings.profile m unit = λ accept unit b e o f m touches. grind arith in
      w.rests _ (controls unit n s link).state (w.hears n unit link refl fits at (acknowledged n part.acked s.rows).in_place)
      (takes_walks (λ m. Concerns (Heard n unit) m s) (BeginsNone (Heard n unit) → ⊥) R w.small
      (brought part.accept unit) _ (λ b e o f m g. inr (either part.accept unit b e o f m g)))

  rise_walks : (n : ℕ) (link : LinkState) → WalkedBy s (UpEvent n) R S → slice_get s.links n ≡ Some link → S (rises n s link.phase).state
  rise_walks n link w there =
      let new = risen_link s.settings.profile s.settings.method (late_at n s) in
      let rise : IsAt n link Settled s → S (rises n s Settled).state =
      λ at. w.rests (risen n s) (rises n s Settled).state (w.rises n link refl at)
      (w.small.opens n new (risen n s) refl (record { there = get_set_same s.links n new (within s.links n link there); phase_is = refl }) refl (unparked n s.rows)) in
      let still = w.unmoved in
      grind (arith, rise, still)

  fall_walks : (event : Event) (blind : Bool) (n : ℕ) (link : LinkState) → WalkedBy s event R S → Concerns event n s
      → IsAt n link Up s → S (falls blind n s link).state
  fall_walks event blind n link w known at =
      w.rests s _ w.unmoved (w.small.after s (left_by blind n link s) _ (w.small.leaves blind n link s known at)
      (w.small.queues (leaving_order blind n link) (left_by blind n link s)))

  -- an order is taken back, and the link settles
  over_walks_by_time : (n : ℕ) (link : LinkState) (from : Fate) → WalkedBy s (Timed n) R S → IsAt n link Down s
      → place link.order s.rows ≡ Some from → (waits from || is_parked from) ≡ true
      → S (settled Unasked n link (taken_back link.order from s))
  over_walks_by_time n link from w at e unsent =
      let back = taken_back link.order from s in
      let found : order_at n s ≡ Some from = rw at.there e in
      w.rests s _ w.unmoved (w.small.after s back _
      (w.small.takes_back link.order from s unsent
      (λ m there. inr (found ∙ (let is : from ≡ Waiting m = grind (arith, nat_tests) in ap Some is)))
      (taken_back_rows link.order from s.rows unsent))
      (settle_walks (λ m. Concerns (Timed n) m s) (BeginsNone (Timed n) → ⊥) R w.small Unasked n link back
      (inl refl) (record { there = at.there; phase_is = at.phase_is })))

  timed_walks : (n : ℕ) (link : LinkState) (o : Option Fate) → WalkedBy s (Timed n) R S → IsAt n link Down s
      → place link.order s.rows ≡ o → S (timed o n s link).state
  timed_walks n link (Some (Waiting to)) w at e = over_walks_by_time n link (Waiting to) w at e refl
  timed_walks n link (Some Parked) w at e = over_walks_by_time n link Parked w at e refl
  timed_walks n link o w at e = let still = w.unmoved in grind arith

  time_walks : (n : ℕ) (link : LinkState) → WalkedBy s (Timed n) R S → slice_get s.links n ≡ Some link
      → S (times_out n s link link.phase).state
  time_walks n link w there =
      let over = λ (at : IsAt n link Down s). timed_walks n link (place link.order s.rows) w at refl in
      let still = w.unmoved in grind arith

  pub redeclared_at : (n : ℕ) (o : Option LinkState) → S s → S (redeclared_from (code_for n 0) 16 s) → S (with_known o s (λ link. redeclares n s)).state
  redeclared_at n None unmoved done = unmoved
  redeclared_at n (Some link) unmoved done =
      cond_both (some_overdue (code_for n 0) 16 s) (record { answer = Done; state = redeclared_from (code_for n 0) 16 s }) (refused s Nothing)
      (λ (o : Outcome). S o.state) (λ e. done) (λ e. unmoved)

  back_walks : (n : ℕ) → WalkedBy s (Restore n) R S → is_open n s ≡ true → S (comes_back n s).state
  back_walks n w o =
      cond_both (some_declare n 0 (link_count s) s) (record { answer = Done; state = declared_from n 0 (link_count s) s }) (refused s Nothing)
      (λ (o : Outcome). S o.state)
      (λ e. w.rests s _ w.unmoved (declare_walks (λ m. Concerns (Restore n) m s) (BeginsNone (Restore n) → ⊥) R w.small (λ b. b) n 0 (link_count s) s o))
      (λ e. w.unmoved)

  out_walks : (n : ℕ) (o : Option LinkState) → S s → S (released_from (code_for n 0) 16 s) → S (with_known o s (λ link. runs_out n s)).state
  out_walks n None unmoved done = unmoved
  out_walks n (Some link) unmoved done =
      cond_both (some_in_use (code_for n 0) 16 s) (record { answer = Done; state = released_from (code_for n 0) 16 s }) (refused s Nothing)
      (λ (o : Outcome). S o.state) (λ e. done) (λ e. unmoved)

  pub step_walks : (event : Event) → WalkedBy s event R S → S (step s event).state
  unfolding step
  step_walks Take w = take_walks w s.inbox refl
  step_walks (NoAnswer n) w =
      let settle = λ (link : LinkState) (at : IsAt n link Down s). w.rests s (settled Unanswered n link s) w.unmoved
      (settle_walks (λ m. Concerns (NoAnswer n) m s) (BeginsNone (NoAnswer n) → ⊥) R w.small Unanswered n link s
      refl at) in
      grind (arith, settle)
  step_walks (Timed n) w = grind (arith, time_walks)
  step_walks (Redeclare n) w =
      redeclared_at n (slice_get s.links n) w.unmoved
      (w.rests s _ w.unmoved (again_walks (λ m. Concerns (Redeclare n) m s) (BeginsNone (Redeclare n) → ⊥) R w.small (code_for n 0) 16 s))
  step_walks (BackTimeout n) w =
      let release = w.rests s _ w.unmoved
      (release_walks (λ m. Concerns (BackTimeout n) m s) (BeginsNone (BackTimeout n) → ⊥) R w.small (code_for n 0)
      16 s (λ c low high. omega (arith, low, high))) in
      out_walks n (slice_get s.links n) w.unmoved release
  step_walks (Restore n) w = in_walks n (restores n s) w.unmoved (λ link at.
      cond_both (open_link link) (comes_back n s) (refused s NotUp) (λ (o : Outcome). S o.state)
      (λ e. back_walks n w (ap link_is_open at.there ∙ e)) (λ e. w.unmoved))
  step_walks (DownEvent n) w = in_walks n _ w.unmoved (λ link at. fall_walks (DownEvent n) false n link w refl at)
  step_walks (DownBlind n) w = in_walks n _ w.unmoved (λ link at. fall_walks (DownBlind n) true n link w refl at)
  step_walks (Next n) w = in_walks n _ w.unmoved (λ link at.
      let count = leading (is_overtaken s) (wait n s.rows) in
      w.sends n link (cleared n s) refl (w.small.withdraws count n link s refl at (withdrawn_rows count n s.rows))
      (record { there = at.there; phase_is = at.phase_is }) (sent_by _ n (cleared n s).rows))
  step_walks event w = grind (arith, hear_walks, rise_walks)

-- The sealed step is its cases.
pub step_is : (s : State) (event : Event) → step s event ≡ stepped s event
unfolding step
step_is s event = refl

-- What is declared once more changes no link.
pub redeclared_links : (code n : ℕ) (s : State) → (redeclared_from code n s).links ≡ s.links
redeclared_links code zero s = refl
redeclared_links code (suc n) s = redeclared_links (suc code) n (redeclared_if code s) ∙ one (overdue_via (code_of code s.routing) s.rows)
  where
    one : (o : Option ℕ) → (redeclared_on code o s).links ≡ s.links
    one None = refl
    one (Some via) = refl

pub redeclares_links : (n : ℕ) (s : State) → (step s (Redeclare n)).state.links ≡ s.links
unfolding step
redeclares_links n s = redeclared_at s (λ a b. a ≡ a) (λ t. t.links ≡ s.links) n (slice_get s.links n) refl (redeclared_links (code_for n 0) 16 s)

pub link_count_stays : (s : State) (event : Event) → length (step s event).state.links ≡ length s.links
link_count_stays s event = step_walks s (λ t u. length u.links ≡ length t.links) (λ t. length t.links ≡ length s.links) event (grind (arith, length-set))
