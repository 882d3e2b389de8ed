-- What holds of every set's queues goes on holding.
use Rattle.std.proofs.Common.{refl, arith, ◌≡◌, ◌∙◌, ap, sym, ◌+◌, ◌≤◌, ◌<◌, [], ◌∷◌, ◌++◌, length, ℕ, Bool, true, false, ◌==◌, List, Some, cond, take, drop, slice_get, ◌≢◌, subst, Option, None, append_assoc, IfSome}
use Rattle.set_queues.specs.Messages.{one_if, fate_at, Message, restood_one, restood, unfinished, kept_slot, IsFit, AreFit}
use Rattle.set_queues.specs.Buffers.{Fate, Waiting, Unacked, no_lists, empty_lists, LinkLists, Lists, is_standing, same_fate, queue_at, with_queue, with_last, profile_at, on_link, IsKnown, IsQueued, Rooms, Held, room_at, TakesRoom}
use Rattle.l2_units.specs.declared.profile.Profile.{Profile}
use Rattle.l2_window.specs.Window.{most_unacked}
use Rattle.set_queues.specs.Queues.{occurs, stands, passed, passed_first, AreTied, AreSound, AreNarrow}
use Rattle.set_queues.proofs.Standing.{length-updated, updated_same, updated_other, slot_push, slot_past, slot_map, Moves, moved_tie, take_get, same_is, occurs-append, occurs-split, queue_set, links_stay, queue_away, SameSize, size_stays, known_on, restood-append, same_self, queued_stands}
use Rattle.set_queues.proofs.Tallies.{fit_push, fit_restood, fit_kept}
use Rattle.std.proofs.lemmas.List.{get_or-replicate, get_or_past, length-replicate, length-append, length-take, length-drop}
use Rattle.std.proofs.lemmas.Option.{slice_get_cases, slice_get_within}
use Rattle.std.proofs.lemmas.Bool.{eq-eqb}
use Rattle.std.proofs.lemmas.Bool.Decides.{nat_tests}
use Rattle.set_queues.specs.Settling.{fate_on, on, Settles}

-- two queues change: messages leave the one and join the other
abbrev pub Replaces : Lists → Lists → Fate → Fate → List ℕ → List ℕ → Type 0
Replaces q q' from to left joined = (f : Fate) → is_standing f ≡ true → queue_at f q' ≡ cond (same_fate from f) left (cond (same_fate to f) joined (queue_at f q))

pub both_size : (q : Lists) (from to : Fate) (left joined : List ℕ) → SameSize q (with_queue from left (with_queue to joined q))
both_size q from to left joined = let once = size_stays to joined q in let twice = size_stays from left (with_queue to joined q) in record { links = twice.links ∙ once.links; back = twice.back ∙ once.back }

pub both_replaced : (q : Lists) (from to : Fate) (left joined : List ℕ) → IsKnown from q → IsKnown to q → Replaces q (with_queue from left (with_queue to joined q)) from to left joined
both_replaced q from to left joined k o f s =
    let there = known_on from q _ (size_stays to joined q) k in
    grind (arith, queue_set)

pub passed_replaces : (q : Lists) (from to : Fate) → is_standing from ≡ true → IsKnown from q → IsKnown to q → Replaces q (passed from to q) from to [] (queue_at to q ++ queue_at from q)
passed_replaces q from to s k o = both_replaced q from to [] (queue_at to q ++ queue_at from q) k o

pub known_passed : (f from to : Fate) (q now : Lists) → now ≡ passed from to q → IsKnown f q → IsKnown f now
known_passed f from to q now e k = rw e (known_on f q _ (both_size q from to _ _) k)

-- THE PROFILE OF A LINK stays, whatever its queues hold
pub profile_updated : (f : LinkLists → LinkLists) → ((z : LinkLists) → (f z).profile ≡ z.profile) → (l k : ℕ) (q : Lists) → profile_at k (on_link l f q) ≡ profile_at k q
profile_updated f same l k q = grind (arith, nat_tests, updated_same, updated_other, slice_get_cases, same)

pub profile_queue : (f : Fate) (ns : List ℕ) (k : ℕ) (q : Lists) → profile_at k (with_queue f ns q) ≡ profile_at k q
profile_queue (Waiting l) ns k q = profile_updated (λ (z : LinkLists). record z { unsent = ns }) (λ z. refl) l k q
profile_queue (Unacked l) ns k q = profile_updated (λ (z : LinkLists). record z { unacked = ns }) (λ z. refl) l k q
profile_queue (Held l) ns k q = profile_updated (λ (z : LinkLists). record z { held = ns }) (λ z. refl) l k q
profile_queue f ns k q = grind arith

pub profile_last : (l fsn k : ℕ) (q : Lists) → profile_at k (with_last l fsn q) ≡ profile_at k q
profile_last l fsn k q = profile_updated (λ (z : LinkLists). record z { last = fsn }) (λ z. refl) l k q

-- of as many links and codes
pub sound_on : (q q' : Lists) (ms ms' : List (Option Message)) → AreSound q ms → SameSize q q' → AreNarrow q' → AreTied q' ms' → AreFit ms' → AreSound q' ms'
sound_on q q' ms ms' s e n t f = record { one = omega (arith, s.one, e.links); few = omega (arith, s.few, e.links); codes = e.back ∙ s.codes; narrow = n; tied = t; fit = f }

-- THE FIRST SO MANY OF A QUEUE stand last in another place

pub sound_moved : (k : ℕ) (from to : Fate) (q : Lists) (ms : List (Option Message)) → is_standing from ≡ true → IsKnown from q → IsKnown to q → same_fate to from ≡ false → AreSound q ms → ((l : ℕ) → same_fate to (Unacked l) ≡ true → length (queue_at to q) + k ≤ most_unacked (profile_at l q)) → AreSound (passed_first k from to q) (restood (take k (queue_at from q)) to ms)
sound_moved k from to q ms standing known other apart s n =
    let queues = both_replaced q from to (drop k (queue_at from q)) (queue_at to q ++ take k (queue_at from q)) known other in
    let moves : Moves (take k (queue_at from q)) from to q (passed_first k from to q) = λ f t m. let there = queues f t in let left = same_is from f t in let come = same_is to f t in grind (arith, occurs-split, occurs-append) in
    let narrow : AreNarrow (passed_first k from to q) = λ l. let there = queues (Unacked l) refl in let had = s.narrow l in let more = n l in let kept = profile_queue from (drop k (queue_at from q)) l (with_queue to (queue_at to q ++ take k (queue_at from q)) q) ∙ profile_queue to (queue_at to q ++ take k (queue_at from q)) l q in grind (arith, same_is, length-append, length-take, length-drop) in
    let within : (m : ℕ) → occurs m (take k (queue_at from q)) ≤ occurs m (queue_at from q) = λ m. omega (arith, occurs-split m k (queue_at from q)) in
    sound_on q _ ms _ s (both_size q from to _ _) narrow (moved_tie q _ ms _ from to s.tied standing within moves) (fit_restood (take k (queue_at from q)) to ms s.fit)

pub unqueued : (to : Fate) (l : ℕ) → (is_standing to ≡ true → IsQueued to) → same_fate to (Unacked l) ≡ false
unqueued to l h = grind arith

-- to where messages come otherwise than by being sent
pub sound_passed : (k : ℕ) (from to : Fate) (q q' : Lists) (ms ms' : List (Option Message)) → AreSound q ms → is_standing from ≡ true → IsKnown from q → IsKnown to q → same_fate to from ≡ false → (is_standing to ≡ true → IsQueued to) → q' ≡ passed_first k from to q → ms' ≡ restood (take k (queue_at from q)) to ms → AreSound q' ms'
sound_passed k from to q q' ms ms' s standing known other apart n e m = rw (e, m) (sound_moved k from to q ms standing known other apart s (λ l f. let no = unqueued to l n in absurd (cc)))

pub moved_one : (from to : Fate) (q mid new : Lists) → IsKnown to q → same_fate to from ≡ false → mid ≡ with_queue to (queue_at to q ++ take 1 (queue_at from q)) q → new ≡ with_queue from (drop 1 (queue_at from mid)) mid → new ≡ passed_first 1 from to q
moved_one from to q mid new o a m n = rw (n, queue_away to from _ q mid m o a, m) refl

-- A NEW MESSAGE

stood_push : (f : Fate) (m : ℕ) (ms : List (Option Message)) (x : Message) (b : Bool) → (length ms == m) ≡ b → one_if (stands f m (ms ++ Some x ∷ [])) ≡ one_if (stands f m ms) + cond b (one_if (same_fate x.fate f)) 0
stood_push f m ms x true e = let past : length ms ≤ m = grind (arith, nat_tests) in rw (slot_push ms (Some x) m, e, slot_past ms m past) (omega arith)
stood_push f m ms x false e = rw (slot_push ms (Some x) m, e) (omega arith)

-- its number stands in the queue of its fate, wherever in it
put_tie : (q : Lists) (ms : List (Option Message)) (x : Message) (xs : List ℕ) → AreTied q ms → is_standing x.fate ≡ true → IsKnown x.fate q → ((m : ℕ) → occurs m xs ≡ occurs m (queue_at x.fate q) + one_if (length ms == m)) → AreTied (with_queue x.fate xs q) (ms ++ Some x ∷ [])
put_tie q ms x xs tie u k put f s m = rw (stood_push f m ms x (length ms == m) refl, queue_set x.fate f xs q u k) (go (same_fate x.fate f) refl)
  where
    go : (b : Bool) → same_fate x.fate f ≡ b → occurs m (cond b xs (queue_at f q)) ≡ one_if (stands f m ms) + cond (length ms == m) (one_if b) 0
    go true e = let is = same_is x.fate f s e in let had = tie f s m in let there = put m in grind (arith, is, had, there)
    go false e = let had = tie f s m in grind (arith, had)

pub sound_put : (q : Lists) (ms : List (Option Message)) (x : Message) (xs : List ℕ) → AreSound q ms → IsFit x → IsKnown x.fate q → IsQueued x.fate → ((m : ℕ) → occurs m xs ≡ occurs m (queue_at x.fate q) + one_if (length ms == m)) → AreSound (with_queue x.fate xs q) (ms ++ Some x ∷ [])
sound_put q ms x xs s fit k u put =
    let same : (l : ℕ) → queue_at (Unacked l) (with_queue x.fate xs q) ≡ queue_at (Unacked l) q = λ l. queue_away x.fate (Unacked l) _ q _ refl k (unqueued x.fate l (λ s. u)) in
    sound_on q _ ms _ s (size_stays x.fate _ q) (λ l. rw (same l, profile_queue x.fate xs l q) (s.narrow l)) (put_tie q ms x xs s.tied (queued_stands x.fate u) k put) (fit_push ms x s.fit fit)

pub sound_added : (q : Lists) (ms : List (Option Message)) (x : Message) → AreSound q ms → IsFit x → IsKnown x.fate q → IsQueued x.fate → AreSound (with_queue x.fate (queue_at x.fate q ++ length ms ∷ []) q) (ms ++ Some x ∷ [])
sound_added q ms x s fit k u = sound_put q ms x _ s fit k u (λ m. grind (arith, occurs-append m (queue_at x.fate q) (length ms ∷ [])))

-- WHAT IS FINISHED is forgotten

stands_kept : (f : Fate) (number : ℕ) (ms : List (Option Message)) → is_standing f ≡ true → stands f number (unfinished ms) ≡ stands f number ms
stands_kept f number ms s = let is = slot_map kept_slot refl ms number in grind arith

pub sound_kept : (q : Lists) (ms : List (Option Message)) → AreSound q ms → AreSound q (unfinished ms)
sound_kept q ms s = record {
  one = s.one;
  few = s.few;
  codes = s.codes;
  narrow = s.narrow;
  tied = λ f t number. s.tied f t number ∙ ap one_if (sym (stands_kept f number ms t));
  fit = fit_kept ms s.fit;
}

-- NO MESSAGE

empty_queue : (p : Profile) (n codes : ℕ) (f : Fate) → queue_at f (empty_lists p n codes) ≡ []
empty_queue p n codes f = grind (arith, slice_get_cases, get_or-replicate, get_or_past, length-replicate, nat_tests)

pub sound_new : (p : Profile) (q : Lists) (n : ℕ) → q ≡ empty_lists p n 256 → 1 ≤ n → n ≤ 16 → AreSound q []
sound_new p q n e low high = rw e (record {
  one = omega (arith, length-replicate n (no_lists p));
  few = omega (arith, length-replicate n (no_lists p));
  codes = length-replicate {A = List ℕ} 256 [];
  narrow = λ l. omega (arith, ap length (empty_queue p n 256 (Unacked l)));
  tied = λ f t i. rw (empty_queue p n 256 f) refl;
  fit = λ i x h. absurd (cc);
})

-- THE FIRST THAT WAITS IS SENT

pub sound_sent : (q q' : Lists) (ms : List (Option Message)) (l n : ℕ) → AreSound q ms → l < length q.links → slice_get (queue_at (Waiting l) q) 0 ≡ Some n → length (queue_at (Unacked l) q) < most_unacked (profile_at l q) → q' ≡ passed_first 1 (Waiting l) (Unacked l) q → AreSound q' (restood_one n (Unacked l) ms)
sound_sent q q' ms l n s b first few e =
    let one : take 1 (queue_at (Waiting l) q) ≡ n ∷ [] = take_get _ 0 n first in
    rw e (subst (λ (ns : List ℕ). AreSound (passed_first 1 (Waiting l) (Unacked l) q) (restood ns (Unacked l) ms)) one (sound_moved 1 (Waiting l) (Unacked l) q ms refl b b refl s
    (λ k t. let same : l ≡ k = grind (arith, nat_tests) in subst (λ (m : ℕ). length (queue_at (Unacked l) q) + 1 ≤ most_unacked (profile_at m q)) same (omega (arith, few)))))

-- THE FIRST OF THE UNACKNOWLEDGED LEAVE, and a link has a new life

pub queue_last : (f : Fate) (l fsn : ℕ) (q : Lists) → queue_at f (with_last l fsn q) ≡ queue_at f q
queue_last f l fsn q = grind (arith, updated_same, updated_other)

pub last_links : (l fsn : ℕ) (q : Lists) → length (with_last l fsn q).links ≡ length q.links
last_links l fsn q = length-updated (λ (z : LinkLists). record z { last = fsn }) q.links l

pub sound_with_last : (q q' : Lists) (ms : List (Option Message)) (l fsn : ℕ) → q' ≡ with_last l fsn q → AreSound q ms → AreSound q' ms
sound_with_last q q' ms l fsn e s = rw e (sound_on q _ ms ms s (record { links = last_links l fsn q; back = refl }) (λ k. rw (queue_last (Unacked k) l fsn q, profile_last l fsn k q) (s.narrow k)) (λ f t m. rw (queue_last f l fsn q) (s.tied f t m)) s.fit)

-- A LINK SETTLES: what stands on it goes elsewhere, first what was sent, then what waited, then what was held

-- a place for what leaves the link
pub record IsAside (link : ℕ) (to : Fate) (q : Lists) : Type 0 where
  pub known : link < length q.links
  pub other : IsKnown to q
  pub queued : IsQueued to
  pub unsent : same_fate to (Waiting link) ≡ false
  pub held : same_fate to (Held link) ≡ false

pub aside_of : (target : Option ℕ) (link : ℕ) (to : Fate) (q : Lists) → to ≡ fate_on target → link < length q.links → IsKnown (fate_on target) q → IfSome target (λ t. t ≢ link) → IsAside link to q
aside_of target link to q e k o a = grind arith

pub aside_passed : (link : ℕ) (from to : Fate) (q : Lists) → IsAside link to q → IsAside link to (passed from to q)
aside_passed link from to q a = grind (arith, both_size, known_on)

pub waits_on : (link : ℕ) (to : Fate) (q : Lists) → IsAside link to q → queue_at (Waiting link) (passed (Unacked link) to q) ≡ queue_at (Waiting link) q
waits_on link to q a = let now = passed_replaces q (Unacked link) to refl a.known a.other (Waiting link) refl in let unsent = a.unsent in cc

pub held_last : (link : ℕ) (to : Fate) (q : Lists) → IsAside link to q → queue_at (Held link) (passed (Waiting link) to (passed (Unacked link) to q)) ≡ queue_at (Held link) q
held_last link to q a =
    let there = aside_passed link (Unacked link) to q a in
    grind (arith, a.held, passed_replaces q (Unacked link) to refl a.known a.other (Held link) refl, passed_replaces (passed (Unacked link) to q) (Waiting link) to refl there.known there.other (Held link) refl)

-- the room that is left
pub room_left : (to : Fate) (count : ℕ) (old new : Rooms) → IsQueued to → TakesRoom to count old new → room_at to old ≤ room_at to new + count
room_left to count old new u t = subst (λ (b : Bool). room_at to old ≤ room_at to new + cond b count 0) (same_self to (queued_stands to u)) (t to)

pub on_length : (link : ℕ) (q : Lists) → length (on link q) ≡ length (queue_at (Unacked link) q) + length (queue_at (Waiting link) q) + length (queue_at (Held link) q)
on_length link q = omega (arith, length-append (queue_at (Unacked link) q ++ queue_at (Waiting link) q) (queue_at (Held link) q), length-append (queue_at (Unacked link) q) (queue_at (Waiting link) q))

pub settling : (link : ℕ) (to : Fate) (q : Lists) → IsAside link to q → Settles link to q
settling link to q a =
    let a1 = aside_passed link (Unacked link) to q a in
    let a2 = aside_passed link (Waiting link) to (passed (Unacked link) to q) a1 in
    let one = passed_replaces q (Unacked link) to refl a.known a.other in
    let two = passed_replaces (passed (Unacked link) to q) (Waiting link) to refl a1.known a1.other in
    let three = passed_replaces (passed (Waiting link) to (passed (Unacked link) to q)) (Held link) to refl a2.known a2.other in
    let there = queued_stands to a.queued in
    record {
      unacked = grind (arith, unqueued, eq-eqb, one (Unacked link) refl, two (Unacked link) refl, three (Unacked link) refl);
      unsent = grind (arith, eq-eqb, two (Waiting link) refl, three (Waiting link) refl);
      held = grind (arith, eq-eqb, three (Held link) refl);
      there = grind (arith, append_assoc, waits_on link to q a, held_last link to q a, same_self to there, one to there, two to there, three to there);
      elsewhere = λ f s t u w h. grind (arith, one f s, two f s, three f s);
    }

pub ruleset settles = (aside_of, waits_on, held_last, on_length, restood-append, links_stay, length-updated, known_passed)

-- a message that waits for a link waits for one of the set
pub waits_known : (q : Lists) (ms : List (Option Message)) (n l : ℕ) → AreSound q ms → fate_at n ms ≡ Some (Waiting l) → l < length q.links
waits_known q ms n l s e = go (slice_get q.links l) refl
  where
    go : (o : Option LinkLists) → slice_get q.links l ≡ o → l < length q.links
    go None none =
        let once = s.tied (Waiting l) refl n in
        absurd (grind (arith, once, nat_tests))
    go (Some link) there = slice_get_within q.links l link there
