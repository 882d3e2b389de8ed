-- WHAT IS SENT AND HEARD, by what is kept and by the state that it stands for: a control tells the same by the window
-- that is kept and by the rows' (`told`), a BSN reaches as many in the queue as it acknowledges (`part_reaches`), a
-- unit that is sent has the body of the row that was chosen (`body_is`, `given`), and a body that is accepted leads to
-- the same (`message_taken`, `order_obeyed`). `space_still` says that room is kept. It's read off agreement, case by
-- case; inductions are on rows (`fit_at`, `sum_of`) and codes (`same_from`). Used by the functions of src/sending.rt
-- and src/hearing.rt, by Overtaken.antt and by set_step's Kept.antt.
use Rattle.std.proofs.Common.{refl, arith, ◌≡◌, ◌==◌, ap, sym, ◌<◌, ◌+◌, ℕ, Bool, length, Option, Some, slice_get, slice_index_or, option_map, ◌∙◌, ◌≤◌, [], ◌∷◌, List, suc, true, ◌*◌, ◌++◌, zero, false, slice_set, cond, subst}
use Rattle.std.proofs.lemmas.Bool.Decides.{nat_tests}
use Rattle.arrayvec.specs.declared.array_vec.ArrayVec.{ArrayVec}
use Rattle.l2_window.specs.Window.{WindowState}
use Rattle.l2_window.specs.Control.{fsn_of}
use Rattle.l2_window.specs.declared.control.Choice.{Choice}
use Rattle.set_queues.specs.Buffers.{queue_at, last_at, profile_at, Lists, is_standing}
use Rattle.l2_units.specs.declared.profile.Profile.{Profile}
use Rattle.l2_units.specs.declared.profile.Profile.TheVariants.{Narrow, Wide}
use Rattle.l2_units.specs.Profile.{longest_body}
use Rattle.l2_units.specs.Grammar.{IsHeadOf, head_of as header_in}
use Rattle.l2_units.specs.Lent.{body_in, unit_in}
use Rattle.l2_units.specs.declared.lent.UnitRef.{UnitRef}
use Rattle.l2_units.specs.declared.lent.UnitRef.TheVariants.{Fisu as LentFisu, Lssu as LentLssu, Msu as LentMsu}
use Rattle.set_model.specs.Rows.{Waiting, Unacked, Row, Fate, is_unacked, unack, numbers, octets_in, body_at, AreFit, Held, service_indicator}
use Rattle.l3_orders.specs.Grammar.{order_of}
use Rattle.set_model.specs.Control.{Header, Control, head_of, part_of}
use Rattle.set_model.specs.State.{open_link, LinkState, State, window_of, target}
use Rattle.set_model.specs.Step.{choice_in, SignalUnit, Msu, Sent, next as next_of, sends, chosen, unit_of, in_service, Took, Ignored, is_heard, Message as MessageTaken, NothingTaken, takes, brought as accepted_body}
use Rattle.set_changeover.specs.declared.link.Link.{Link}
use Rattle.set_changeover.specs.declared.parts.Parts.{Parts}
use Rattle.set_changeover.specs.Agreement.{Holds, StandsFor, Message as KeptMessage, Kept, is_there, rows_at}
use Rattle.set_changeover.specs.Parts.{Up, kept_of, Gives, Obeys}
use Rattle.set_changeover.proofs.Links.{IsHere, served, stands_for, same_target, profile_of, whole_of}
use Rattle.set_traffic.specs.Traffic.{ReachesTo, KeepsSpace, Brought, Nothing, Message, OrderBrought, Unread, brought_by, HasSpaceFor}
use Rattle.set_queues.specs.Messages.{octets_at, octets_of, slot_at}
use Rattle.set_model.proofs.Rows.{Found, found_by_number, row_in_filter}
use Rattle.set_model.proofs.Lists.{present}
use Rattle.std.proofs.lemmas.List.{length-map}
use Rattle.std.proofs.lemmas.List.Sums.{sum_by-cons}
use Rattle.set_queues.specs.Backs.{back_from}
use Rattle.set_route.specs.Routing.{home_of}
use Rattle.set_route.specs.Target.{target_of}
use Rattle.set_model.specs.Changeover.{Order, Coo, Coa, Cbd, Cba, Eco, Eca, fate_on, obeyed, order_obeyed as obeyed_by}
use Rattle.set_changeover.specs.Room.{IsSpaciousFor, IsReady, target_beside}

-- The queue of a link that is there.
pub queue_there : {A : Type 0} (parts : Parts A) (n : ℕ) → Holds (kept_of parts) → n < length parts.links.items → n < length parts.queues.lists.links
queue_there parts n holds known = let many = (whole_of parts holds).as_many in omega (arith, many, known)

-- WHAT A CONTROL TELLS A TERMINAL by the kept window, it tells by the rows' window: the room alone is another.
pub told : {A : Type 0} (parts : Parts A) (s : State) (n i : ℕ) (x : Link) (control : Control) (w : WindowState) (link : LinkState) → i ≡ n → n < length parts.links.items → x ≡ slice_index_or parts.links.items i x → control ≡ x.control → w.last ≡ last_at n parts.queues.lists → w.profile ≡ profile_at n parts.queues.lists → w.unacked ≡ queue_at (Unacked n) parts.queues.lists → w.unsent ≡ queue_at (Waiting n) parts.queues.lists
    → slice_get s.links n ≡ Some link → StandsFor (kept_of parts) s → (control ≡ link.control) × (w ≡ record (window_of n link s.rows) { room = w.room })
told parts s n i x control w link is known read same last profile unacked unsent there f =
    (same ∙ ap (λ (l : LinkState). l.control) (stands_for parts.links.items n i x is known read s.links link f.links there), grind (arith, f.fsns n link there, f.profiles n link there, f.stands.queues (Unacked n) refl, f.stands.queues (Waiting n) refl))

-- WHAT A HEARD UNIT TELLS: so many are acknowledged as the BSN reaches, or none.
pub part_reaches : (c : Control) (w : WindowState) (head : Header) (msu : Bool) (q : Lists) (n : ℕ) → w.last ≡ last_at n q → w.profile ≡ profile_at n q → w.unacked ≡ queue_at (Unacked n) q → 0 < (part_of c w head msu).acked → ReachesTo head.bsn (part_of c w head msu).acked n q
part_reaches c w head msu q n last profile unacked h = record { count_is = grind (arith, nat_tests); there = grind (arith, nat_tests) }

-- the numbers of a unit that is heard are those of its link
numbers_in : (p : Profile) (unit : SignalUnit) → is_heard p unit ≡ true → IsHeadOf p (header_in unit)
numbers_in p unit e = grind (arith, nat_tests)

-- and it has a body that a unit has room for
pub body_fits : (p : Profile) (unit : UnitRef) → is_heard p (unit_in unit) ≡ true → length (body_in unit) ≤ 273
body_fits p (LentFisu head) e = omega arith
body_fits p (LentLssu head status) e = omega arith
body_fits Narrow (LentMsu head body) e = grind (arith, nat_tests)
body_fits Wide (LentMsu head body) e = grind (arith, nat_tests)

pub numbers_fit : {A : Type 0} (parts : Parts A) (n : ℕ) (unit : SignalUnit) → Holds (kept_of parts) → n < length parts.links.items → is_heard parts.config.profile unit ≡ true → IsHeadOf (profile_at n parts.queues.lists) (header_in unit)
numbers_fit parts n unit h known e =
    let x = present h.0.links n (rw h.1.stands.links at known) in
    subst (λ (p : Profile). IsHeadOf p (header_in unit)) (sym (h.1.stands.profiles n x.0 x.1 ∙ profile_of parts h.0 n x.0 h.1 x.1)) (numbers_in parts.config.profile unit e)

-- WHAT IS SENT, as the step has it
pub given : {A : Type 0} (n : ℕ) (s t : State) (parts : Parts A) (i : IsHere s.links n Up) (choice : Choice) (head : Header) (unit : SignalUnit) → choice ≡ choice_in n i.link t → head ≡ head_of i.link.control (window_of n i.link t.rows) (fsn_of choice (window_of n i.link t.rows)) → unit ≡ unit_of (chosen choice n t.rows) head → StandsFor (kept_of parts) (sends choice n t i.link).state
    → Gives (in_service n s (next_of n t)) (Sent unit) parts
given n s t parts i choice head unit is heads sent stands = served s n (next_of n t) (Sent unit) parts i (rw (← is) (record { answer_is = rw (sent, heads) refl; stands = stands }))

pub with_body : (o : Option Row) (head : Header) (body : ArrayVec ℕ 273 (Unit {0})) → option_map (λ (row : Row). row.body) o ≡ Some body.items → Msu head body ≡ unit_of o head
with_body o head body e = grind arith

-- THE BODIES that the queues name, and their octets.
longest_few : (p : Profile) → longest_body p ≤ 273
longest_few Narrow = omega arith
longest_few Wide = omega arith

pub fit_at : (p : Profile) (number : ℕ) (rows : List Row) (body : List ℕ) → AreFit p rows → body_at number rows ≡ Some body → length body ≤ 273
fit_at p number [] body fit e = absurd (cc)
fit_at p number (x ∷ rows) body fit e = let few = longest_few p in grind (arith, few, fit_at p number rows body fit.1)

sum_of : (xs : List Row) (ms : List (Option KeptMessage)) → ((i : ℕ) (row : Row) → slice_get xs i ≡ Some row → octets_at row.number ms ≡ length row.body) → octets_of (numbers xs) ms ≡ octets_in xs
sum_of [] ms h = refl
sum_of (x ∷ xs) ms h = let here = h 0 x refl in let rest = sum_of xs ms (λ i row e. h (suc i) row e) in omega (arith, here, rest, sum_by-cons (λ (n : ℕ). octets_at n ms) x.number (numbers xs))

module _ (k : Kept) (s : State) (f : StandsFor k s) where
  -- at a place of a queue stands the row that the number there finds, with its body
  pub found_at : (fate : Fate) (i message : ℕ) → is_standing fate ≡ true → slice_get (queue_at fate k.lists) i ≡ Some message → Found (length k.messages) (λ (row : Row). is_there fate row.fate) s.rows i message
  found_at fate i message stands e = found_by_number (length k.messages) _ s.rows i message f.stands.numbered (ap (λ (ns : List ℕ). slice_get ns i) (sym (f.stands.queues fate stands)) ∙ e)

  pub body_is : (fate : Fate) (i message : ℕ) → is_standing fate ≡ true → slice_get (queue_at fate k.lists) i ≡ Some message → option_map (λ (row : Row). row.body) (slice_get (rows_at fate s.rows) i) ≡ slot_at message k.bodies
  body_is fate i message stands e = let at = found_at fate i message stands e in rw at.there (sym (f.bodies message ∙ at.body_is))

  -- the octets that are kept are the rows'
  pub weight_is : (n : ℕ) → octets_of (queue_at (Unacked n) k.lists) k.messages ≡ octets_in (unack n s.rows)
  weight_is n =
      ap (λ (ns : List ℕ). octets_of ns k.messages) (f.stands.queues (Unacked n) refl)
      ∙ sum_of (unack n s.rows) k.messages (λ i row e. let found = row_in_filter (length k.messages) (λ (r : Row). is_unacked n r.fate) s.rows i row.number row f.stands.numbered e refl in let label = f.stands.labels row.number in grind arith)

-- THE INBOX
pub delivered : (k : Kept) (s : State) (inbox : List (List ℕ)) (message : List ℕ) → StandsFor k s → inbox ≡ k.inbox ++ message ∷ [] → StandsFor (record k { inbox = inbox }) (record s { inbox = s.inbox ++ message ∷ [] })
delivered k s inbox message f is = record { settings = f.settings; stands = f.stands; bodies = f.bodies; held_bodies = f.held_bodies; given_out = f.given_out; finished = f.finished; links = f.links; as_many = f.as_many; fsns = f.fsns; profiles = f.profiles; routing = f.routing; inbox = is ∙ ap (λ (i : List (List ℕ)). i ++ message ∷ []) f.inbox }

-- WHAT A UNIT BRINGS, if it's accepted
module _ {A : Type 0} (parts : Parts A) (s : State) (unit : SignalUnit) where
  pub unaccepted : StandsFor (kept_of parts) s → Obeys (takes (accepted_body false unit) s) NothingTaken parts
  unaccepted stands = grind arith

  pub nothing_brought : (accept : Bool) → ◌≡◌ {A = Brought A} Nothing (brought_by s.settings.profile unit) → StandsFor (kept_of parts) s → Obeys (takes (accepted_body accept unit) s) NothingTaken parts
  nothing_brought accept e stands = grind arith

  pub message_taken : (message : List ℕ) → ◌≡◌ {A = Brought A} (Message message) (brought_by s.settings.profile unit) → StandsFor (kept_of parts) (record s { inbox = s.inbox ++ message ∷ [] }) → Obeys (takes (accepted_body true unit) s) MessageTaken parts
  message_taken message e stands = grind arith

  obeyed_in : (body : List ℕ) (managed : Bool) → managed ≡ true → (took : Took) → Obeys (obeyed (order_of s.settings.profile body) s) took parts → Obeys (cond managed (obeyed (order_of s.settings.profile body) s) (record { took = MessageTaken; state = record s { inbox = s.inbox ++ body ∷ [] } })) took parts
  obeyed_in body true e took o = o
  obeyed_in body false e took o = absurd cc

  pub order_obeyed : (order : Order) (took : Took) → ◌≡◌ {A = Brought A} (OrderBrought order) (brought_by s.settings.profile unit) → Obeys (obeyed_by order s) took parts → Obeys (takes (accepted_body true unit) s) took parts
  order_obeyed order took e o =
      let is : (body : List ℕ) × (accepted_body true unit ≡ Some body) × ((service_indicator body == 0) ≡ true) × (order_of s.settings.profile body ≡ Some order) = grind (arith, nat_tests) in
      subst (λ (b : Option (List ℕ)). Obeys (takes b s) took parts) (sym is.1)
      (obeyed_in is.0 (service_indicator is.0 == 0) is.2 took (subst (λ (d : Option Order). Obeys (obeyed d s) took parts) (sym is.3) o))

  pub unread : ◌≡◌ {A = Brought A} Unread (brought_by s.settings.profile unit) → StandsFor (kept_of parts) s → Obeys (takes (accepted_body true unit) s) Ignored parts
  unread e stands = grind (arith, nat_tests)

-- ROOM is kept.
module _ {A : Type 0} (old new : Parts A) (k : KeepsSpace old new) where
  as_many : length new.links.items ≡ length old.links.items
  as_many = sym (length-map new.links.items (λ (l : Link). open_link l)) ∙ ap length k.opens ∙ length-map old.links.items (λ (l : Link). open_link l)

  same_beside : (n : ℕ) → target_beside n new.links.items ≡ target_beside n old.links.items
  same_beside n = ap (λ flags. target_of (slice_set flags n false)) k.opens

  -- as much stands back
  same_from : (code n : ℕ) → back_from code n new.queues.lists ≡ back_from code n old.queues.lists
  unfolding back_from
  same_from code zero = refl
  same_from code (suc n) = omega (arith, same_from code n, ap length (k.queues.backs (code + n)))

  ready_still : (n : ℕ) → (n < length old.links.items → IsReady n 1 old) → n < length new.links.items → IsReady n 1 new
  ready_still n ready low = let r = ready (rw as_many at low) in record {
    message = rw k.queues.message r.message;
    body = rw k.bodies r.body;
    place = grind (arith, same_beside n, same_from (16 * n) 16, k.queues.fewer n, k.queues.rooms (fate_on (target_beside n old.links.items)), r.place);
    each = λ link low. grind (arith, as_many, same_from (16 * n) 16, k.queues.rooms (Waiting link), k.queues.rooms (Held link), r.each link);
  }

  spacious_still : (order : Order) → IsSpaciousFor order old → IsSpaciousFor order new
  spacious_still (Coo link number) r = ready_still link r
  spacious_still (Coa link number) r = ready_still link r
  spacious_still (Eco link) r = ready_still link r
  spacious_still (Eca link) r = ready_still link r
  spacious_still (Cbd link code) r = grind (arith, same_target old.links.items new.links.items k.opens, k.queues.message, k.bodies, k.queues.rooms (fate_on (target old.links.items)), r.message, r.body, r.place)
  spacious_still (Cba link code) r = λ low. grind (arith, r, as_many, k.queues.rooms (Waiting (home_of code)), k.queues.backs code)

  -- and the orders are of the same grammar
  pub space_still : (brought : Brought A) → HasSpaceFor brought old → HasSpaceFor brought new
  space_still brought r = grind (arith, spacious_still, k.inbox, k.config)
