-- HOW MANY LATE ORDERS the set heard about a link stays where a step's answer tells of no order: of all that a step does to
-- a link only such an order counts. Case by case on the event; `declared_links` and `released_links` are inductions on the
-- links. And where no count changed no link is told to stop.
use Rattle.set_model.proofs.Lists.{get_set_same, within}
use Rattle.std.proofs.Common.{refl, sym, ap, arith, ◌≡◌, ◌∙◌, ◌<◌, ◌≤◌, ◌+◌, ℕ, zero, suc, Bool, true, false, List, [], ◌∷◌, length, Option, Some, None, slice_get, slice_set, cond}
use Rattle.l3_orders.specs.declared.order.Order.{Order}
use Rattle.l3_orders.specs.declared.order.Order.TheVariants.{Coo, Coa, Cbd, Cba, Eco, Eca}
use Rattle.l3_orders.specs.Grammar.{order_of}
use Rattle.l2_units.specs.declared.unit.Unit.{Unit as SignalUnit}
use Rattle.set_events.specs.declared.answer.Answer.{Answer}
use Rattle.set_events.specs.declared.answer.Fate.{Fate}
use Rattle.set_events.specs.declared.answer.Refusal.{Refusal as SetRefusal}
use Rattle.set_events.specs.declared.event.Event.{Event}
use Rattle.set_events.specs.declared.event.Event.TheVariants.{Offer, Take, Find, Next, Heard, Up as UpEvent, Down as DownEvent, DownBlind, NoAnswer, Timed, Restore, Redeclare, BackTimeout, Test}
use Rattle.set_route.specs.Routing.{code_for, code_of}
use Rattle.set_route.specs.declared.place.Code.{Code}
use Rattle.set_route.specs.declared.place.Code.TheVariants.{Free}
use Rattle.set_model.specs.declared.phase.Phase.{Phase}
use Rattle.set_model.specs.declared.phase.Phase.TheVariants.{Up, Down, Settled}
use Rattle.set_model.specs.declared.reached.Reached.{Reached}
use Rattle.set_model.specs.declared.reached.Reached.TheVariants.{Upto, Unknown}
use Rattle.set_model.specs.Rows.{Fate, Waiting, Unacked, Acked, Held, Back, Parked, Discarded, place}
use Rattle.set_model.specs.State.{open_link, LinkState, State, has_phase_up, late_at, late_in, link_count}
use Rattle.set_model.proofs.Walk.{redeclared_links}
use Rattle.set_model.specs.Changeover.{acknowledged_back, answered, at_link, can_declare, changed_over, cleared, declared, declared_from, declared_if, obeyed, order_obeyed, released, released_from, some_declare, some_in_use, some_overdue}
use Rattle.set_model.specs.Step.{restores, opened_link, risen, risen_link, Outcome, brought, comes_back, controls, controlled, falls, found, gives_up, heard, in_service, is_heard, next, offer_refusal, offered, on_link, part_in, redeclares, refused, rises, runs_out, step, timed, times_out, taken, takes, with_known}
use Rattle.term_bench.specs.Ends.{AtLink}
use Rattle.term_bench.specs.Late.{AreLate, brings_order, ended_from, is_order}
use Rattle.term_bench.proofs.BenchLemmas.{not_late}

-- a link that has the count of the one that was there
set_late : (links : List LinkState) (k : ℕ) (old new : LinkState) → slice_get links k ≡ Some old → new.late ≡ old.late
    → (n : ℕ) → late_in (slice_get (slice_set links k new) n) ≡ late_in (slice_get links n)
set_late [] k old new there same n = absurd cc
set_late (link ∷ links) zero old new there same zero = let is : link ≡ old = cc in same ∙ sym (ap (λ (l : LinkState). l.late) is)
set_late (link ∷ links) zero old new there same (suc n) = refl
set_late (link ∷ links) (suc k) old new there same zero = refl
set_late (link ∷ links) (suc k) old new there same (suc n) = set_late links k old new there same n

declared_one : (home alternative : ℕ) (s : State) (b : Bool) → (cond b (declared home alternative s) s).links ≡ s.links
declared_one home alternative s true = refl
declared_one home alternative s false = refl

declared_links : (home alternative count : ℕ) (s : State) → (declared_from home alternative count s).links ≡ s.links
declared_links home alternative zero s = refl
declared_links home alternative (suc count) s =
    declared_links home (suc alternative) count (declared_if home alternative s) ∙ declared_one home alternative s (can_declare home alternative s)

released_links : (code count : ℕ) (s : State) → (released_from code count s).links ≡ s.links
released_links code zero s = refl
released_links code (suc count) s = released_links (suc code) count (released code s)

module _ (n : ℕ) where
  abbrev Keeps : State → Outcome → Type 0
  Keeps s o = brings_order o.answer ≡ false → late_at n o.state ≡ late_at n s

  known_keeps : (k : ℕ) (s : State) (f : LinkState → Outcome) → ((link : LinkState) → slice_get s.links k ≡ Some link → Keeps s (f link))
      → Keeps s (on_link k s f)
  known_keeps k s f each = go (slice_get s.links k) refl
    where
      go : (m : Option LinkState) → slice_get s.links k ≡ m → Keeps s (with_known m s f)
      go None e = λ none. refl
      go (Some link) e = each link e

  if_keeps : (b : Bool) (s : State) (o : Outcome) (why : SetRefusal) → Keeps s o → Keeps s (cond b o (refused s why))
  if_keeps true s o why keeps = keeps
  if_keeps false s o why keeps = λ none. refl

  service_keeps : (k : ℕ) (s : State) (f : LinkState → Outcome) → ((link : LinkState) → slice_get s.links k ≡ Some link → Keeps s (f link))
      → Keeps s (in_service k s f)
  service_keeps k s f each = known_keeps k s _ (λ link e. if_keeps (has_phase_up link.phase) s (f link) SetRefusal.NotUp (each link e))

  offer_keeps : (why : Option SetRefusal) (s : State) (body : List ℕ) → Keeps s (offered why s body)
  offer_keeps (Some why) s body = λ none. refl
  offer_keeps None s body = λ none. refl

  take_keeps : (inbox : List (List ℕ)) (s : State) → Keeps s (taken inbox s)
  take_keeps [] s = λ none. refl
  take_keeps (body ∷ rest) s = λ none. refl

  find_keeps : (fate : Option Fate) (number : ℕ) (s : State) → Keeps s (found fate number s)
  find_keeps (Some fate) number s = λ none. refl
  find_keeps None number s = λ none. refl

  next_keeps : (k : ℕ) (s : State) (link : LinkState) → slice_get s.links k ≡ Some link → Keeps s (next k (cleared k s) link)
  next_keeps k s link e = λ none. set_late s.links k link _ e refl n

  rises_keeps : (k : ℕ) (s : State) (link : LinkState) (phase : Phase) → slice_get s.links k ≡ Some link → Keeps s (rises k s phase)
  rises_keeps k s link Up e = λ none. refl
  rises_keeps k s link Down e = λ none. refl
  rises_keeps k s link Settled e = λ none.
      let new = risen_link s.settings.profile s.settings.method (late_at k s) in
      set_late (risen k s).links k new (opened_link new) (get_set_same s.links k new (within s.links k link e)) refl n
      ∙ set_late s.links k link new e (ap late_in e) n

  falls_keeps : (blind : Bool) (k : ℕ) (s : State) (link : LinkState) → slice_get s.links k ≡ Some link → Keeps s (falls blind k s link)
  falls_keeps blind k s link e = λ none. set_late s.links k link _ e refl n

  gives_keeps : (k : ℕ) (s : State) (link : LinkState) (phase : Phase) → slice_get s.links k ≡ Some link → Keeps s (gives_up k s link phase)
  gives_keeps k s link Down e = λ none. set_late s.links k link _ e refl n
  gives_keeps k s link Up e = λ none. refl
  gives_keeps k s link Settled e = λ none. refl

  time_keeps : (k : ℕ) (s : State) (link : LinkState) (order : Option Fate) → slice_get s.links k ≡ Some link → Keeps s (timed order k s link)
  time_keeps k s link (Some (Waiting to)) e = λ none. set_late s.links k link _ e refl n
  time_keeps k s link (Some Parked) e = λ none. set_late s.links k link _ e refl n
  time_keeps k s link None e = λ none. refl
  time_keeps k s link (Some (Unacked to)) e = λ none. refl
  time_keeps k s link (Some (Acked to)) e = λ none. refl
  time_keeps k s link (Some (Held to)) e = λ none. refl
  time_keeps k s link (Some (Back code)) e = λ none. refl
  time_keeps k s link (Some (Discarded cause)) e = λ none. refl

  times_keep : (k : ℕ) (s : State) (link : LinkState) (phase : Phase) → slice_get s.links k ≡ Some link → Keeps s (times_out k s link phase)
  times_keep k s link Down e = time_keeps k s link (place link.order s.rows) e
  times_keep k s link Up e = λ none. refl
  times_keep k s link Settled e = λ none. refl

  comes_keeps : (k : ℕ) (s : State) → Keeps s (comes_back k s)
  comes_keeps k s = if_keeps (some_declare k 0 (link_count s) s) s _ SetRefusal.Nothing
      (λ none. ap (λ (ls : List LinkState). late_in (slice_get ls n)) (declared_links k 0 (link_count s) s))

  redeclares_keep : (k : ℕ) (s : State) → Keeps s (redeclares k s)
  redeclares_keep k s = if_keeps (some_overdue (code_for k 0) 16 s) s _ SetRefusal.Nothing
      (λ none. ap (λ (ls : List LinkState). late_in (slice_get ls n)) (redeclared_links (code_for k 0) 16 s))

  runs_keeps : (k : ℕ) (s : State) → Keeps s (runs_out k s)
  runs_keeps k s = if_keeps (some_in_use (code_for k 0) 16 s) s _ SetRefusal.Nothing
      (λ none. ap (λ (ls : List LinkState). late_in (slice_get ls n)) (released_links (code_for k 0) 16 s))

  -- an order that counts is told of
  over_keeps : (reached : Reached) (k : ℕ) (link : LinkState) (phase : Phase) (s : State) → is_order (changed_over reached k link phase s).took ≡ true
  over_keeps reached k link Up s = refl
  over_keeps reached k link Down s = refl
  over_keeps reached k link Settled s = refl

  over_late : (reached : Reached) (k : ℕ) (s : State) (m : Option LinkState)
      → is_order (at_link k s (λ link. changed_over reached k link link.phase s) m).took ≡ false
      → late_at n (at_link k s (λ link. changed_over reached k link link.phase s) m).state ≡ late_at n s
  over_late reached k s None none = refl
  over_late reached k s (Some link) none = let told = over_keeps reached k link link.phase s in absurd (let no : true ≡ false = sym told ∙ none in cc)

  phase_late : (reached : Reached) (k : ℕ) (link : LinkState) (phase : Phase) (s : State)
      → is_order (answered reached k link phase s).took ≡ false → late_at n (answered reached k link phase s).state ≡ late_at n s
  phase_late reached k link Up s none = refl
  phase_late reached k link Down s none = absurd cc
  phase_late reached k link Settled s none = refl

  answer_late : (reached : Reached) (k : ℕ) (s : State) (m : Option LinkState)
      → is_order (at_link k s (λ link. answered reached k link link.phase s) m).took ≡ false
      → late_at n (at_link k s (λ link. answered reached k link link.phase s) m).state ≡ late_at n s
  answer_late reached k s None none = refl
  answer_late reached k s (Some link) none = phase_late reached k link link.phase s none

  back_late : (code : ℕ) (now : Code) (s : State) → is_order (acknowledged_back code now s).took ≡ false
      → late_at n (acknowledged_back code now s).state ≡ late_at n s
  back_late code Free s none = refl
  back_late code _ s none = absurd cc

  order_late : (order : Order) (s : State) → is_order (order_obeyed order s).took ≡ false
      → late_at n (order_obeyed order s).state ≡ late_at n s
  order_late (Coo k fsn) s none = over_late (Upto fsn) k s (slice_get s.links k) none
  order_late (Eco k) s none = over_late Unknown k s (slice_get s.links k) none
  order_late (Coa k fsn) s none = answer_late (Upto fsn) k s (slice_get s.links k) none
  order_late (Eca k) s none = answer_late Unknown k s (slice_get s.links k) none
  order_late (Cbd k code) s none = absurd cc
  order_late (Cba k code) s none = back_late code (code_of code s.routing) s none

  obeyed_late : (order : Option Order) (s : State) → is_order (obeyed order s).took ≡ false → late_at n (obeyed order s).state ≡ late_at n s
  obeyed_late None s none = refl
  obeyed_late (Some order) s none = order_late order s none

  takes_late : (body : Option (List ℕ)) (s : State) → is_order (takes body s).took ≡ false → late_at n (takes body s).state ≡ late_at n s
  takes_late None s none = refl
  takes_late (Some body) s none = let by = obeyed_late (order_of s.settings.profile body) s in grind arith

  controls_keep : (unit : SignalUnit) (k : ℕ) (s : State) (link : LinkState) → slice_get s.links k ≡ Some link → Keeps s (controls unit k s link)
  controls_keep unit k s link e = λ none.
      takes_late (brought (part_in unit k link s).accept unit) (controlled unit k s link) none ∙ set_late s.links k link _ e refl n

  heard_keeps : (unit : SignalUnit) (k : ℕ) (s : State) (link : LinkState) → slice_get s.links k ≡ Some link → Keeps s (heard unit k s link)
  heard_keeps unit k s link e = if_keeps (is_heard s.settings.profile unit) s _ SetRefusal.Nothing (controls_keep unit k s link e)

  pub late_stays : (s : State) (event : Event) → Keeps s (step s event)
  unfolding step
  late_stays s (Offer body) = offer_keeps (offer_refusal s.settings.profile s.rows body) s body
  late_stays s Take = take_keeps s.inbox s
  late_stays s (Find number) = find_keeps (place number s.rows) number s
  late_stays s (Next k) = service_keeps k s _ (λ link e. next_keeps k s link e)
  late_stays s (Heard k unit) = service_keeps k s _ (λ link e. heard_keeps unit k s link e)
  late_stays s (UpEvent k) = known_keeps k s _ (λ link e. rises_keeps k s link link.phase e)
  late_stays s (DownEvent k) = service_keeps k s _ (λ link e. falls_keeps false k s link e)
  late_stays s (DownBlind k) = service_keeps k s _ (λ link e. falls_keeps true k s link e)
  late_stays s (NoAnswer k) = known_keeps k s _ (λ link e. gives_keeps k s link link.phase e)
  late_stays s (Timed k) = known_keeps k s _ (λ link e. times_keep k s link link.phase e)
  late_stays s (Restore k) = service_keeps k s (restores k s) (λ link e. if_keeps (open_link link) s (comes_back k s) SetRefusal.NotUp (comes_keeps k s))
  late_stays s (Redeclare k) = known_keeps k s _ (λ link e. redeclares_keep k s)
  late_stays s (BackTimeout k) = known_keeps k s _ (λ link e. runs_keeps k s)
  late_stays s (Test k) = service_keeps k s _ (λ link e none. refl)

-- so what was counted stands
pub counts_stand : (s t : State) (event : Event) (answer : Answer) (counts : List ℕ) → answer ≡ (step s event).answer
    → t ≡ (step s event).state → brings_order answer ≡ false → AreLate s counts → AreLate t counts
counts_stand s t event answer counts answer_is state_is none late = λ link few.
    let same : late_at link t ≡ late_at link s = ap (late_at link) state_is ∙ late_stays link s event (ap brings_order (sym answer_is) ∙ none) in
    late link few ∙ ap (λ (n : ℕ). Some n) (sym same)

-- and where no count changed no link is told to stop
same_counts : (s t : State) (counts : List ℕ) → AreLate s counts → AreLate t counts → (link : ℕ) → link < 16 → late_at link t ≡ late_at link s
same_counts s t counts before behind link few =
    let one : Some (late_at link t) ≡ Some (late_at link s) = sym (behind link few) ∙ before link few in cc

none_from : (from : ℕ) (s t : State) (links : List AtLink) → ((link : ℕ) → link < 16 → late_at link t ≡ late_at link s)
    → from + length links ≤ 16 → ended_from from s t links ≡ links
none_from from s t [] same few = refl
none_from from s t (at ∷ links) same few =
    ap (λ (a : AtLink). a ∷ ended_from (suc from) s t links) (not_late from s t at (same from (omega (arith, few))))
    ∙ ap (λ (ls : List AtLink). at ∷ ls) (none_from (suc from) s t links same (omega (arith, few)))

pub none_ended : (s t : State) (counts : List ℕ) (links : List AtLink) → AreLate s counts → AreLate t counts → length links ≤ 16
    → ended_from 0 s t links ≡ links
none_ended s t counts links before behind few = none_from 0 s t links (same_counts s t counts before behind) (omega (arith, few))
