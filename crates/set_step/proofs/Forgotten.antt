-- WHAT A CHECKPOINT KEEPS agrees with the state that it leads to (`kept_agrees`). What is kept is forgotten number by
-- number, while the model filters its rows; both say the same of each number (`StaysAs`), since a fate is that of a
-- queue just where more can become of the message (`final_is`). So no queue changes, and as many are counted as leave
-- (`finished_are`, by induction on the rows in `orders_ended`), no more than were given out (`fits`). It stands on
-- set_model's Checkpointing.antt and set_traffic's Counts.antt; the functions kept and forget of src/forgetting.rt use it.
use Rattle.std.proofs.Common.{refl, arith, ◌≡◌, ◌∙◌, ap, sym, subst, ◌+◌, ◌≤◌, ◌&&◌, [], ◌∷◌, List, ℕ, Bool, true, not, length, filter, cond, Option, None, Some, option_map}
use Rattle.std.proofs.lemmas.Bool.Decides.{nat_tests}
use Rattle.std.proofs.lemmas.List.{length-map}
use Rattle.std.specs.Prelude.{IsSome}
use Rattle.set_queues.specs.Bodies.{AreHeld, kept_bodies}
use Rattle.set_queues.specs.Buffers.{is_standing}
use Rattle.set_queues.specs.Messages.{count_of, finished_in, is_ended_order, is_there, is_unfinished, is_users, kept_slot, slot_at, unfinished as unfinished_messages, was_acked, was_discarded_by}
use Rattle.set_queues.proofs.Placing.{length_slots, slot_in, slots_same}
use Rattle.set_queues.proofs.Standing.{same_is, slot_map, slot_past}
use Rattle.set_model.specs.Checkpoint.{checkpointed, counted, stays, unfinished}
use Rattle.set_model.specs.Rows.{Emergency, NoAnswer, Unreasonable, Fate, IsNumbered, Row, is_users as is_users_row, numbers, row_of, standing, users}
use Rattle.set_model.specs.Sound.{is_unfinished as is_unfinished_fate}
use Rattle.set_model.specs.State.{State, all_finished, given}
use Rattle.set_model.proofs.Checkpointing.{checkpoints, stand_still}
use Rattle.set_changeover.specs.Agreement.{Message, Agrees, Holds, Kept, Stands, StandsFor, is_there as is_fate, kind_of, label_in, label_of}
use Rattle.set_changeover.specs.Parts.{kept_of}
use Rattle.set_changeover.specs.declared.parts.Parts.{Parts}
use Rattle.set_traffic.proofs.Counts.{counted as counted_by, users_there}
use Rattle.set_step.specs.Forgotten.{together}

-- a fate that isn't final is that of a queue
pub final_is : (fate : Fate) → is_standing fate ≡ is_unfinished_fate fate
final_is fate = grind arith

-- THE SLOT OF A NUMBER and its row, if they stay
record StaysAs (slot : Option Message) (octets : Option (List ℕ)) (row : Option Row) : Type 0 where
  pub fate : option_map (λ (m : Message). m.fate) (kept_slot slot) ≡ option_map (λ (r : Row). r.fate) (stays row)
  pub label : option_map label_in (kept_slot slot) ≡ option_map label_of (stays row)
  pub body : cond (is_unfinished slot) octets None ≡ option_map (λ (r : Row). r.body) (stays row)

stays_as : (slot : Option Message) (body : Option (List ℕ)) (row : Option Row) → option_map (λ (m : Message). m.fate) slot ≡ option_map (λ (r : Row). r.fate) row → option_map label_in slot ≡ option_map label_of row → body ≡ option_map (λ (r : Row). r.body) row → StaysAs slot body row
stays_as None body None f l b = record { fate = refl; label = refl; body = refl }
stays_as None body (Some r) f l b = absurd (cc)
stays_as (Some m) body None f l b = absurd (cc)
stays_as (Some m) body (Some r) f l b = let is = final_is m.fate in grind arith

-- HOW MANY LEAVE
orders_ended : (rows : List Row) → length (filter (λ (r : Row). not (is_users (kind_of r)) && not (is_standing r.fate)) rows) ≡ length (filter (λ (r : Row). not (is_users_row r) && not (is_unfinished_fate r.fate)) rows)
orders_ended [] = refl
orders_ended (x ∷ rows) = let is = final_is x.fate in grind (arith, orders_ended rows)

finished_are : (k : Kept) (s : State) → StandsFor k s → together k.finished (finished_in k.messages) ≡ counted s.finished s.rows
finished_are k s f =
    let in_place : (test : Fate → Bool) → count_of test k.messages ≡ length (standing test (users s.rows)) = λ test. counted_by (λ l fate. is_users l.kind && test fate) (is_there test) refl (λ m. refl) k.lists k.messages s.rows f.stands ∙ users_there test s.rows in
    let orders = counted_by (λ l fate. not (is_users l.kind) && not (is_standing fate)) is_ended_order refl (λ m. refl) k.lists k.messages s.rows f.stands ∙ orders_ended s.rows in
    rw (f.finished, in_place was_acked, in_place (was_discarded_by Emergency), in_place (was_discarded_by Unreasonable), in_place (was_discarded_by NoAnswer), orders) refl

-- WHAT IS KEPT, without what is finished
abbrev pub kept_in : Kept → Kept
kept_in k = record k { messages = unfinished_messages k.messages; bodies = kept_bodies k.messages k.bodies; finished = together k.finished (finished_in k.messages) }

module _ (k : Kept) (s : State) (a : Agrees k s) where
  staying : (number : ℕ) → StaysAs (slot_at number k.messages) (slot_at number k.bodies) (row_of number s.rows)
  staying number = stays_as _ _ _ (a.stands.stands.fates number) (a.stands.stands.labels number) (a.stands.bodies number)

  row_is : (number : ℕ) → row_of number (unfinished s.rows) ≡ stays (row_of number s.rows)
  row_is number = (checkpoints s).kept number a.sound

  many : length (unfinished_messages k.messages) ≡ given (checkpointed s)
  many = length-map k.messages kept_slot ∙ a.stands.given_out ∙ sym (checkpoints s).given_same

  body_is : (number : ℕ) → slot_at number (kept_bodies k.messages k.bodies) ≡ cond (is_unfinished (slot_at number k.messages)) (slot_at number k.bodies) None
  body_is number =
      let at = slot_in (λ n. cond (is_unfinished (slot_at n k.messages)) (slot_at n k.bodies) None) (length k.bodies) number in
      let past = slot_past k.bodies number in
      grind (arith, nat_tests, at, past)

  stands : Stands k.lists (unfinished_messages k.messages) (unfinished s.rows)
  stands = record {
    queues = λ fate t. a.stands.stands.queues fate t ∙ ap numbers (sym (stand_still (is_fate fate) (λ f e. let is = same_is f fate t e in rw is (sym (final_is fate) ∙ t)) s.rows));
    fates = λ number. ap (option_map (λ (m : Message). m.fate)) (slot_map kept_slot refl k.messages number) ∙ (staying number).fate ∙ sym (ap (option_map (λ (r : Row). r.fate)) (row_is number));
    labels = λ number. ap (option_map label_in) (slot_map kept_slot refl k.messages number) ∙ (staying number).label ∙ sym (ap (option_map label_of) (row_is number));
    numbered = subst (λ (n : ℕ). IsNumbered n (unfinished s.rows)) (sym many) ((checkpoints s).sound a.sound).numbered;
  }

  pub kept_agrees : Agrees (kept_in k) (checkpointed s)
  kept_agrees = record {
    stands = record {
      settings = a.stands.settings;
      stands = stands;
      bodies = λ number. body_is number ∙ (staying number).body ∙ sym (ap (option_map (λ (r : Row). r.body)) (row_is number));
      held_bodies = length_slots _ (length k.bodies) ∙ a.stands.held_bodies ∙ sym (length-map k.messages kept_slot);
      given_out = many;
      finished = finished_are k s a.stands;
      links = a.stands.links;
      as_many = a.stands.as_many;
      fsns = a.stands.fsns;
      profiles = a.stands.profiles;
      routing = a.stands.routing;
      inbox = a.stands.inbox;
    };
    sound = (checkpoints s).sound a.sound;
  }

-- they are no more than the numbers that were given out
pub fits : {A : Type 0} (parts : Parts A) → Holds (kept_of parts) → all_finished parts.finished + all_finished (finished_in parts.queues.messages) ≤ length parts.queues.messages
fits parts h =
    let f = h.1.stands in
    let all = ap all_finished (finished_are (kept_of parts) h.0 f) in
    let given_is = (checkpoints h.0).given_same in
    omega (arith, all, given_is, f.given_out)

-- each message that isn't finished has its body
slot_there : (slot : Option Message) (row : Option Row) (body : Option (List ℕ)) → option_map (λ (m : Message). m.fate) slot ≡ option_map (λ (r : Row). r.fate) row → body ≡ option_map (λ (r : Row). r.body) row → is_unfinished slot ≡ true → IsSome body
slot_there None row body f b h = absurd cc
slot_there (Some m) None body f b h = absurd cc
slot_there (Some m) (Some r) body f b h = rw b refl

pub held : (k : Kept) → Holds k → AreHeld k.messages k.bodies
held k h = λ number is. slot_there (slot_at number k.messages) (row_of number h.0.rows) (slot_at number k.bodies) (h.1.stands.stands.fates number) (h.1.stands.bodies number) is

-- also where the finished ones left already, and then as many bodies stay
still_unfinished : (slot : Option Message) → is_unfinished (kept_slot slot) ≡ is_unfinished slot
still_unfinished None = refl
still_unfinished (Some m) = grind arith

unfinished_at : (ms : List (Option Message)) (number : ℕ) → is_unfinished (slot_at number (unfinished_messages ms)) ≡ is_unfinished (slot_at number ms)
unfinished_at ms number = ap is_unfinished (slot_map kept_slot refl ms number) ∙ still_unfinished (slot_at number ms)

pub held_then : (k : Kept) → Holds k → AreHeld (unfinished_messages k.messages) k.bodies
held_then k h = λ number is. held k h number (sym (unfinished_at k.messages number) ∙ is)

pub many_then : (k : Kept) → Holds k → length (unfinished_messages k.messages) ≡ length k.bodies
many_then k h = length-map k.messages kept_slot ∙ sym h.1.stands.held_bodies

pub bodies_then : (k : Kept) → kept_bodies (unfinished_messages k.messages) k.bodies ≡ kept_bodies k.messages k.bodies
bodies_then k = slots_same (λ n. cond (is_unfinished (slot_at n (unfinished_messages k.messages))) (slot_at n k.bodies) None) (λ n. cond (is_unfinished (slot_at n k.messages)) (slot_at n k.bodies) None) (length k.bodies) (λ n low. ap (λ (b : Bool). cond b (slot_at n k.bodies) None) (unfinished_at k.messages n))

-- what is kept then is kept so
pub forgets : (k k' : Kept) → k' ≡ kept_in k → (s : State) → Agrees k s → Agrees k' (checkpointed s)
forgets k k' e s a = subst (λ (k : Kept). Agrees k (checkpointed s)) (sym e) (kept_agrees k s a)
