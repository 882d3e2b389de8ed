-- WHAT A SETTLED LINK ANSWERS to a late order: the number of a link on which nothing was accepted, in a run in which each
-- order is answered. A link that never was up counted nothing; one that an order settled was answered for. So it's of the
-- sets as they are, and kept (`replies_kept`): an order that is heard settles by an answer, or was answered late
-- (`heard_older`), and whatever else happens leaves settled links as they are (`asked_older`, `next_older`), or brings
-- them up (`rises_older`).
use Rattle.std.proofs.Common.{refl, ◌≡◌, ◌≢◌, ◌∙◌, ap, sym, subst, ℕ, zero, suc, ◌==◌, Bool, true, false, List, [], ◌∷◌, ◌++◌, slice_get, slice_set, replicate, Option, Some, None, cond, ◌⊎◌, inl, inr}
use Rattle.std.proofs.lemmas.Bool.{eqb-true}
use Rattle.std.proofs.lemmas.Option.{same_Some}
use Rattle.l2_units.specs.declared.unit.Unit.{Unit as SignalUnit}
use Rattle.l2_window.specs.Window.{fsn_before_first}
use Rattle.l2_window.proofs.Numbers.{from_zero}
use Rattle.l3_orders.specs.declared.order.Order.{Order}
use Rattle.l3_orders.specs.declared.order.Order.TheVariants.{Coo, Coa, Cbd, Cba, Eco, Eca}
use Rattle.l3_orders.specs.Grammar.{order_of}
use Rattle.pair_steps.specs.declared.step.End.{End}
use Rattle.pair_steps.specs.declared.step.Step.TheVariants.{Act}
use Rattle.set_events.specs.declared.answer.Answer.TheVariants.{Done}
use Rattle.set_events.specs.declared.answer.DiscardCause.TheVariants.{Unreasonable}
use Rattle.set_events.specs.declared.answer.Fate.{Fate}
use Rattle.set_events.specs.declared.answer.Refusal.{Refusal}
use Rattle.set_events.specs.declared.answer.Refusal.TheVariants.{Nothing, NotUp}
use Rattle.set_events.specs.declared.answer.Took.TheVariants.{Message as TookMessage}
use Rattle.set_events.specs.declared.event.Event.{Event}
use Rattle.set_events.specs.declared.event.Event.TheVariants.{Offer, Take, Find, Next, Heard as HeardEvent, Up as UpEvent, Down as DownEvent, DownBlind, NoAnswer, Timed, Restore, Redeclare, BackTimeout, Test}
use Rattle.set_route.specs.Routing.{code_for, code_of}
use Rattle.set_model.proofs.Walk.{redeclared_at, redeclared_links}
use Rattle.set_route.specs.declared.place.Code.{Code}
use Rattle.set_route.specs.declared.place.Code.TheVariants.{Free, Asked, Spent}
use Rattle.set_model.specs.declared.phase.Phase.{Phase}
use Rattle.set_model.specs.declared.phase.Phase.TheVariants.{Up, Down, Settled}
use Rattle.set_model.specs.declared.reached.Reached.{Reached}
use Rattle.set_model.specs.declared.reached.Reached.TheVariants.{Upto, Unknown, Unanswered, Unasked}
use Rattle.set_model.specs.Changeover.{reply_of, settled, settled_link, left_link, is_reasonable, acknowledged, reached_by, acknowledged_by, discarded, judged, judged_link, is_told, cleared, can_declare, declared, declared_if, declared_from, some_declare, Obeyed, answered_link, changed_over, answered, at_link, obeyed_at, acknowledged_back, order_obeyed, obeyed}
use Rattle.set_model.specs.Rows.{service_indicator, place}
use Rattle.set_model.specs.State.{open_link, LinkState, State, given, Settings, has_phase_up, is_settled, link_is_settled, has_phase_settled, link_count, new_link, opened_with}
use Rattle.set_model.specs.Step.{restores, Outcome, refused, offer_refusal, offered, taken, found, with_known, in_service, next, brought, takes, part_in, controlled, controls, is_heard, heard, falls, comes_back, step}
use Rattle.set_model.proofs.Lists.{at_set}
use Rattle.pair_model.specs.World.{has_own_step}
use Rattle.pair_changeover.proofs.Obeying.{left_and_told}
use Rattle.pair_changeover.proofs.Passing.{Rises}
use Rattle.pair_rises.specs.Rises.{IsPlainStep}

abbrev pub Replies : State → Type 0
Replies s = (l : ℕ) (link : LinkState) → slice_get s.links l ≡ Some link → has_phase_settled link.phase ≡ true
    → reply_of l link ≡ Coa l (fsn_before_first link.profile)

-- links that are settled then were so
abbrev pub Older : List LinkState → List LinkState → Type 0
Older links new = (l : ℕ) (link : LinkState) → slice_get new l ≡ Some link → has_phase_settled link.phase ≡ true
    → (slice_get links l ≡ Some link) ⊎ (link.answered ≡ true)

pub replies_kept : (s t : State) → Older s.links t.links → Replies s → Replies t
replies_kept s t older r l link there phase = go (older l link there phase)
  where
    go : (slice_get s.links l ≡ Some link) ⊎ (link.answered ≡ true) → reply_of l link ≡ Coa l (fsn_before_first link.profile)
    go (inl was) = r l link was phase
    go (inr told) = rw told refl

older_same : (links : List LinkState) → Older links links
older_same links l link there phase = inl there

older_then : (a b c : List LinkState) → Older a b → Older b c → Older a c
older_then a b c p q l link there phase = go (q l link there phase)
  where
    go : (slice_get b l ≡ Some link) ⊎ (link.answered ≡ true) → (slice_get a l ≡ Some link) ⊎ (link.answered ≡ true)
    go (inl was) = p l link was phase
    go (inr told) = inr told

-- one is set, which isn't settled or was answered for
older_set : (links : List LinkState) (n : ℕ) (x : LinkState) → (has_phase_settled x.phase ≡ false) ⊎ (x.answered ≡ true) → Older links (slice_set links n x)
older_set links n x is l link there phase = go (at_set links n l x link there) is
  where
    go : ((l ≡ n) × (link ≡ x)) ⊎ ((l ≢ n) × (slice_get links l ≡ Some link)) → (has_phase_settled x.phase ≡ false) ⊎ (x.answered ≡ true)
        → (slice_get links l ≡ Some link) ⊎ (link.answered ≡ true)
    go (inr was) is = inl was.1
    go (inl e) (inr told) = inr (ap (λ (k : LinkState). k.answered) e.1 ∙ told)
    go (inl e) (inl unsettled) =
        absurd (let no : true ≡ false = sym phase ∙ ap (λ (k : LinkState). has_phase_settled k.phase) e.1 ∙ unsettled in cc)

-- it settles by an order
judged_older : (fsn n : ℕ) (link : LinkState) (s : State) → has_phase_settled link.phase ≡ false → Older s.links (judged (Upto fsn) n link s).links
judged_older fsn n link s unsettled = go (is_reasonable fsn n link s.rows)
  where
    go : (b : Bool) → Older s.links (cond b (acknowledged_by (reached_by fsn n link s.rows) n link s) (discarded Unreasonable n s)).links
    go true = older_set s.links n (acknowledged (reached_by fsn n link s.rows) link) (inl unsettled)
    go false = older_same s.links

settles_older : (fsn n : ℕ) (link : LinkState) (s : State) → has_phase_settled link.phase ≡ false → Older s.links (settled (Upto fsn) n link s).links
settles_older fsn n link s unsettled =
    older_then s.links (judged (Upto fsn) n link s).links (settled (Upto fsn) n link s).links (judged_older fsn n link s unsettled)
    (older_set (judged (Upto fsn) n link s).links n (settled_link true (judged_link (Upto fsn) n link s.rows)) (inr refl))

blind_older : (n : ℕ) (link : LinkState) (s : State) → Older s.links (settled Unknown n link s).links
blind_older n link s = older_set s.links n (settled_link true link) (inr refl)

-- by the answer to its own order, or by the other end's
told_older : (reached : Reached) → is_told reached ≡ true → (n : ℕ) (link : LinkState) (s : State) → has_phase_settled link.phase ≡ false
    → Older s.links (settled reached n link s).links
told_older (Upto fsn) told n link s unsettled = settles_older fsn n link s unsettled
told_older Unknown told n link s unsettled = blind_older n link s
told_older Unanswered told n link s unsettled = absurd (let no : false ≡ true = told in cc)
told_older Unasked told n link s unsettled = absurd (let no : false ≡ true = told in cc)

changed_older : (reached : Reached) → is_told reached ≡ true → (n : ℕ) (link : LinkState) (phase : Phase) (s : State) → link.phase ≡ phase
    → Older s.links (changed_over reached n link phase s).state.links
changed_older reached told n link Up s e =
    older_then s.links (left_and_told n link s).links (settled reached n (left_link false (given s) link) (left_and_told n link s)).links
    (older_set s.links n (left_link false (given s) link) (inl refl)) (told_older reached told n (left_link false (given s) link) (left_and_told n link s) refl)
changed_older reached told n link Down s e = told_older reached told n link s (ap has_phase_settled e)
changed_older reached told n link Settled s e = older_set s.links n (answered_link link) (inr refl)

answered_older : (reached : Reached) → is_told reached ≡ true → (n : ℕ) (link : LinkState) (phase : Phase) (s : State) → link.phase ≡ phase
    → Older s.links (answered reached n link phase s).state.links
answered_older reached told n link Up s e = older_same s.links
answered_older reached told n link Down s e = told_older reached told n link s (ap has_phase_settled e)
answered_older reached told n link Settled s e = older_same s.links

at_older : (n : ℕ) (s : State) (f : LinkState → Phase → State → Obeyed)
    → ((link : LinkState) (phase : Phase) → link.phase ≡ phase → Older s.links (f link phase s).state.links) → Older s.links (obeyed_at n f s).state.links
at_older n s f each = go (slice_get s.links n)
  where
    go : (o : Option LinkState) → Older s.links (at_link n s (λ link. f link link.phase s) o).state.links
    go None = older_same s.links
    go (Some link) = each link link.phase refl

back_older : (code : ℕ) (c : Code) (s : State) → Older s.links (acknowledged_back code c s).state.links
back_older code Free s = older_same s.links
back_older code (Asked via declaration owed) s = older_same s.links
back_older code (Spent owed) s = older_same s.links

order_older : (order : Order) (s : State) → Older s.links (order_obeyed order s).state.links
order_older (Coo n fsn) s = at_older n s (changed_over (Upto fsn) n) (λ link phase e. changed_older (Upto fsn) refl n link phase s e)
order_older (Eco n) s = at_older n s (changed_over Unknown n) (λ link phase e. changed_older Unknown refl n link phase s e)
order_older (Coa n fsn) s = at_older n s (answered (Upto fsn) n) (λ link phase e. answered_older (Upto fsn) refl n link phase s e)
order_older (Eca n) s = at_older n s (answered Unknown n) (λ link phase e. answered_older Unknown refl n link phase s e)
order_older (Cbd n code) s = older_same s.links
order_older (Cba n code) s = back_older code (code_of code s.routing) s

obeyed_older : (order : Option Order) (s : State) → Older s.links (obeyed order s).state.links
obeyed_older None s = older_same s.links
obeyed_older (Some order) s = order_older order s

takes_older : (body : Option (List ℕ)) (s : State) → Older s.links (takes body s).state.links
takes_older None s = older_same s.links
takes_older (Some body) s = go (service_indicator body == 0)
  where
    go : (b : Bool) → Older s.links (cond b (obeyed (order_of s.settings.profile body) s) (record { took = TookMessage; state = record s { inbox = s.inbox ++ body ∷ [] } })).state.links
    go true = obeyed_older (order_of s.settings.profile body) s
    go false = older_same s.links

-- AN EVENT OF A LINK THAT IS UP
unsettled_up : (phase : Phase) → has_phase_up phase ≡ true → has_phase_settled phase ≡ false
unsettled_up Up e = refl
unsettled_up Down e = refl
unsettled_up Settled e = absurd (let no : false ≡ true = e in cc)

in_older : (n : ℕ) (s : State) (f : LinkState → Outcome) → ((link : LinkState) → has_phase_up link.phase ≡ true → Older s.links (f link).state.links)
    → Older s.links (in_service n s f).state.links
in_older n s f each = go (slice_get s.links n)
  where
    at : (link : LinkState) (b : Bool) → has_phase_up link.phase ≡ b → Older s.links (cond b (f link) (refused s NotUp)).state.links
    at link true e = each link e
    at link false e = older_same s.links

    go : (o : Option LinkState) → Older s.links (with_known o s (λ link. cond (has_phase_up link.phase) (f link) (refused s NotUp))).state.links
    go None = older_same s.links
    go (Some link) = at link (has_phase_up link.phase) refl

pub heard_older : (k : ℕ) (unit : SignalUnit) (s : State) → Older s.links (step s (HeardEvent k unit)).state.links
unfolding step
heard_older k unit s = in_older k s (heard unit k s) (λ link up. go link up (is_heard s.settings.profile unit))
  where
    go : (link : LinkState) → has_phase_up link.phase ≡ true → (b : Bool) → Older s.links (cond b (controls unit k s link) (refused s Nothing)).state.links
    go link up true =
        older_then s.links (controlled unit k s link).links (controls unit k s link).state.links
        (older_set s.links k _ (inl (unsettled_up link.phase up))) (takes_older (brought (part_in unit k link s).accept unit) (controlled unit k s link))
    go link up false = older_same s.links

pub next_older : (k : ℕ) (s : State) → Older s.links (step s (Next k)).state.links
unfolding step
next_older k s = in_older k s (next k (cleared k s)) (λ link up. older_set s.links k _ (inl (unsettled_up link.phase up)))

from_same : (n home alternative : ℕ) (s : State) → (declared_from home alternative n s).links ≡ s.links
from_same zero home alternative s = refl
from_same (suc n) home alternative s = from_same n home (suc alternative) (declared_if home alternative s) ∙ go (can_declare home alternative s)
  where
    go : (b : Bool) → (cond b (declared home alternative s) s).links ≡ s.links
    go true = refl
    go false = refl

-- ONE THAT HAS NO STEP OF ITS OWN, and gives no order up
pub asked_older : (emergencies : Bool) (end : End) (event : Event) (s : State) → IsPlainStep emergencies (Act end event) → has_own_step event ≡ false
    → Older s.links (step s event).state.links
unfolding step
asked_older em end (Offer body) s plain own = go (offer_refusal s.settings.profile s.rows body)
  where
    go : (o : Option Refusal) → Older s.links (offered o s body).state.links
    go None = older_same s.links
    go (Some why) = older_same s.links
asked_older em end Take s plain own = go s.inbox
  where
    go : (inbox : List (List ℕ)) → Older s.links (taken inbox s).state.links
    go [] = older_same s.links
    go (body ∷ rest) = older_same s.links
asked_older em end (Find number) s plain own = go (place number s.rows)
  where
    go : (o : Option Fate) → Older s.links (found o number s).state.links
    go None = older_same s.links
    go (Some fate) = older_same s.links
asked_older em end (Next k) s plain own = absurd cc
asked_older em end (HeardEvent k unit) s plain own = absurd cc
asked_older em end (UpEvent k) s plain own = absurd cc
asked_older em end (DownEvent k) s plain own = in_older k s (falls false k s) (λ link up. older_set s.links k (left_link false (given s) link) (inl refl))
asked_older em end (DownBlind k) s plain own = in_older k s (falls true k s) (λ link up. older_set s.links k (left_link true (given s) link) (inl refl))
asked_older false end (NoAnswer k) s plain own = absurd plain
asked_older true end (NoAnswer k) s plain own = absurd plain
asked_older false end (Timed k) s plain own = absurd plain
asked_older true end (Timed k) s plain own = absurd plain
asked_older em end (Restore k) s plain own = in_older k s (restores k s) (λ link up. at (open_link link))
  where
    go : (b : Bool) → Older s.links (cond b (record { answer = Done; state = declared_from k 0 (link_count s) s }) (refused s Nothing)).state.links
    go true = subst (λ (ls : List LinkState). Older s.links ls) (sym (from_same (link_count s) k 0 s)) (older_same s.links)
    go false = older_same s.links

    at : (b : Bool) → Older s.links (cond b (comes_back k s) (refused s NotUp)).state.links
    at true = go (some_declare k 0 (link_count s) s)
    at false = older_same s.links
asked_older em end (Redeclare k) s plain own =
    redeclared_at s (λ a b. a ≡ a) (λ t. Older s.links t.links) k (slice_get s.links k) (older_same s.links)
    (subst (λ (ls : List LinkState). Older s.links ls) (sym (redeclared_links (code_for k 0) 16 s)) (older_same s.links))
asked_older false end (BackTimeout k) s plain own = absurd plain
asked_older true end (BackTimeout k) s plain own = absurd plain
asked_older em end (Test k) s plain own = in_older k s (λ link. refused s Nothing) (λ link up. older_same s.links)

-- a link comes up
pub rises_older : (k : ℕ) (s t : State) → Rises k s t → Older s.links t.links
rises_older k s t a l link there phase = go (k == l) refl
  where
    go : (b : Bool) → (k == l) ≡ b → (slice_get s.links l ≡ Some link) ⊎ (link.answered ≡ true)
    go false d = inl (sym (a.links l d) ∙ there)
    go true d = absurd (let no : true ≡ false = sym phase ∙ ap link_is_settled (sym there)
        ∙ ap (λ (n : ℕ). is_settled n t) (sym (eqb-true k l d)) ∙ a.unsettled_then in cc)

-- AT FIRST
pub first_replies : (settings : Settings) → Replies (opened_with settings)
first_replies settings l link there phase =
    let same : link ≡ new_link settings.profile settings.method = new_at settings.links l there in
    rw same (ap (Coa l) (sym (from_zero settings.profile)))
  where
    new_at : (n l : ℕ) → slice_get (replicate n (new_link settings.profile settings.method)) l ≡ Some link → link ≡ new_link settings.profile settings.method
    new_at zero l e = absurd cc
    new_at (suc n) zero e = same_Some link (new_link settings.profile settings.method) (sym e)
    new_at (suc n) (suc l) e = new_at n l e
