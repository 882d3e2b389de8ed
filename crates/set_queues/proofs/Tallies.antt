-- The running counts of a list of messages, when one of them changes or joins, and the octets of their bodies.
use Rattle.l2_window.proofs.Numbers.{most_small}
use Rattle.set_queues.specs.Buffers.{profile_at}
use Rattle.std.proofs.Common.{Fits, w32, ◌^◌, arith, sym, ◌∙◌, option_map, ◌≡◌, ◌+◌, ◌≤◌, ◌<◌, [], ◌∷◌, ◌++◌, length, ℕ, zero, suc, Bool, List, Option, Some, None, refl, cond, filter, sum_by, slice_get, slice_set, get_or, ◌-◌, true, false, ◌&&◌, nat_le, nat_lt, add-one}
use Rattle.std.proofs.lemmas.List.Sums.{length-filter, count_by-le-length, get_or-le-sum_by, sum_by-set, sum_by_push, sum_by-le, sum_by-cons}
use Rattle.std.proofs.lemmas.Option.{slice_get-get_or, slice_get_within, get_or_from_slice_get}
use Rattle.std.specs.Option.{option_map_or}
use Rattle.set_queues.specs.Buffers.{Acked, Back, Discarded, Emergency, Fate, Held, Lists, NoAnswer, Parked, Unacked, Unreasonable, Waiting, is_standing, queue_at, same_fate}
use Rattle.set_queues.specs.Messages.{AreFew, AreFit, Forgets, IsAmong, IsFit, IsMore, IsTally, Message, Tally, count_of, is_ended_order, is_queued, is_there, kept_slot, octets_at, octets_of, octets_on, one_if, restood, restood_one, slot_at, stands_at, unfinished, was_discarded, was_discarded_by, with_fate}
use Rattle.set_queues.proofs.Standing.{set_updated, restood_at, stood_is, stood_same, stood_other, slot_there, slot_get, slot_push, slot_map, fate_moves, fate_stays, length-restood, occurs-append, occurs_here}
use Rattle.std.proofs.lemmas.Bool.Decides.{nat_tests}
use Rattle.set_queues.specs.Queues.{occurs, stands, AreTied, AreSound}
use Rattle.set_queues.specs.Backs.{back_from}

-- what items weigh, when one of them changes
sum_set : {X : Type 0} (w : X → ℕ) (xs : List X) (n : ℕ) (x y : X) → slice_get xs n ≡ Some x → sum_by w (slice_set xs n y) + w x ≡ sum_by w xs + w y
sum_set w xs n x y e = rw (get_or_from_slice_get xs n x x e) at (sum_by-set w xs n y x (slice_get_within xs n x e))

pub count_few : {X : Type 0} (p : X → Bool) (xs : List X) → length (filter p xs) ≤ length xs
count_few p xs = rw length-filter (count_by-le-length p xs)

pub tally_in : (t : Tally) (xs : List (Option Message)) (n : ℕ) (x : Message) → IsTally t xs → slot_at n xs ≡ Some x → IsAmong x t
tally_in t xs n x h at =
    let e = slot_there xs n x at in
    let sums = λ (w : Option Message → ℕ). rw (get_or_from_slice_get xs n (Some x) (Some x) e) at (get_or-le-sum_by w xs n (Some x) (slice_get_within xs n (Some x) e)) in
    let counts = λ (p : Option Message → Bool). rw (← length-filter p) at (sums (λ m. cond (p m) 1 0)) in
    grind arith

-- each count is far from the end of its range, and so with one message fewer
light : (l : ℕ) (xs : List (Option Message)) (k : ℕ) (slot : Option Message) → AreFit xs → slice_get xs k ≡ Some slot → octets_on l slot ≤ 273
light l xs k None fit e = omega arith
light l xs k (Some m) fit e = let f = fit k m (slot_get xs k (Some m) e) in grind (arith, f.octets)

pub few : (t : Tally) (xs : List (Option Message)) → IsTally t xs → length xs < 2 ^ 63 → AreFew t
few t xs h n = record {
  counts = λ f. omega (arith, n, h.counts f, count_few (is_there (stands_at f)) xs);
  unsent = λ s b. omega (arith, n, h.unsent s b, count_few (is_queued s) xs);
  octets = λ l b. omega (arith, n, h.octets l b, sum_by-le (octets_on l) 273 xs (λ k d w. light l xs k _ h.fit (slice_get-get_or xs k d w)));
  orders = omega (arith, n, h.orders, count_few is_ended_order xs);
}

pub few_left : (t u : Tally) (xs : List (Option Message)) (x : Message) → IsTally t xs → length xs < 2 ^ 63 → IsMore x u t → AreFew u
few_left t u xs x h n m = let all = few t xs h n in grind arith

-- every message stays fit
pub fit_push : (xs : List (Option Message)) (y : Message) → AreFit xs → IsFit y → AreFit (xs ++ Some y ∷ [])
fit_push xs y h f n m e = let old = h n m in grind (arith, slot_push)

pub fit_restood : (ns : List ℕ) (f : Fate) (ms : List (Option Message)) → AreFit ms → AreFit (restood ns f ms)
fit_restood ns f ms fit k m e = go (slot_at k ms) refl
  where
    go : (o : Option Message) → slot_at k ms ≡ o → IsFit m
    go None h = absurd (grind (arith, restood_at))
    go (Some x) h = let was = fit k x h in grind (arith, restood_at)

pub fit_kept : (ms : List (Option Message)) → AreFit ms → AreFit (unfinished ms)
fit_kept ms fit k m e = let was = fit k m in let is = slot_map kept_slot refl ms k in grind arith

pub tally_push : (t u : Tally) (xs : List (Option Message)) (y : Message) → IsTally t xs → IsFit y → IsMore y t u → IsTally u (xs ++ Some y ∷ [])
tally_push t u xs y h f i =
    let fit = fit_push xs y h.fit f in
    let sums = λ (w : Option Message → ℕ). sum_by_push w xs (Some y) in
    let counts = λ (p : Option Message → Bool). rw (← length-filter p xs, ← length-filter p (xs ++ Some y ∷ [])) at (sums (λ m. cond (p m) 1 0)) in
    grind arith

if_is : (b : Bool) → cond b 1 0 ≡ one_if b
if_is true = refl
if_is false = refl

pub tally_stood : (t u v : Tally) (xs : List (Option Message)) (n : ℕ) (x : Message) (fate : Fate) → IsTally t xs → slot_at n xs ≡ Some x → IsMore x u t → IsMore (with_fate fate x) u v → IsTally v (restood_one n fate xs)
tally_stood t u v xs n x fate h at i j =
    let e = slot_there xs n x at in
    let fit = fit_restood (n ∷ []) fate xs h.fit in
    let set : slice_set xs n (Some (with_fate fate x)) ≡ restood_one n fate xs = set_updated (option_map (with_fate fate)) xs n (Some x) e ∙ sym (stood_is n fate xs) in
    let sums = λ (w : Option Message → ℕ). rw set at (sum_set w xs n (Some x) (Some (with_fate fate x)) e) in
    let counts = λ (p : Option Message → Bool). rw (← length-filter p xs, ← length-filter p (restood_one n fate xs)) at (sums (λ m. cond (p m) 1 0)) in
    record {
      counts = λ place. omega (arith, h.counts place, i.counts place, j.counts place, counts (is_there (stands_at place)), if_is (is_there (stands_at place) (Some x)), if_is (is_there (stands_at place) (Some (with_fate fate x))));
      unsent = λ s b. omega (arith, h.unsent s b, i.unsent s b, j.unsent s b, counts (is_queued s), if_is (is_queued s (Some x)), if_is (is_queued s (Some (with_fate fate x))));
      octets = λ l b. omega (arith, h.octets l b, i.octets l b, j.octets l b, sums (octets_on l));
      orders = omega (arith, h.orders, i.orders, j.orders, counts is_ended_order, if_is (is_ended_order (Some x)), if_is (is_ended_order (Some (with_fate fate x))));
      fit = fit;
    }

-- what was discarded was for one of the causes
pub by_cause : (ms : List (Option Message)) → count_of was_discarded ms ≡ count_of (was_discarded_by Emergency) ms + count_of (was_discarded_by Unreasonable) ms + count_of (was_discarded_by NoAnswer) ms
by_cause [] = refl
by_cause (None ∷ ms) = by_cause ms
by_cause (Some m ∷ ms) = grind (arith, by_cause ms)

-- WHAT IS FINISHED is forgotten: a place of which none is finished keeps its count, and one where all are has none
module _ (p : Option Message → Bool) (none : p None ≡ false) where
  count_still : ((m : Message) → p (Some m) ≡ true → is_standing m.fate ≡ true) → (ms : List (Option Message)) → length (filter p (unfinished ms)) ≡ length (filter p ms)
  count_still w [] = refl
  count_still w (None ∷ ms) = let again = count_still w ms in grind (arith, none)
  count_still w (Some m ∷ ms) = let at = w m in let again = count_still w ms in grind (arith, none)

  count_gone : ((m : Message) → p (Some m) ≡ true → is_standing m.fate ≡ false) → (ms : List (Option Message)) → length (filter p (unfinished ms)) ≡ 0
  count_gone w [] = refl
  count_gone w (None ∷ ms) = let again = count_gone w ms in grind (arith, none)
  count_gone w (Some m ∷ ms) = let at = w m in let again = count_gone w ms in grind (arith, none)

octets_still : (l : ℕ) (ms : List (Option Message)) → sum_by (octets_on l) (unfinished ms) ≡ sum_by (octets_on l) ms
octets_still l [] = refl
octets_still l (slot ∷ ms) =
    let one : octets_on l (kept_slot slot) ≡ octets_on l slot = grind arith in
    omega (arith, sum_by-cons (octets_on l) (kept_slot slot) (unfinished ms), sum_by-cons (octets_on l) slot ms, one, octets_still l ms)

counts_kept : (place : Fate) (ms : List (Option Message)) → count_of (stands_at place) (unfinished ms) ≡ cond (is_standing place) (count_of (stands_at place) ms) 0
counts_kept (Acked l) ms = count_gone (is_there (stands_at (Acked l))) refl (λ m e. grind arith) ms
counts_kept (Discarded cause) ms = count_gone (is_there (stands_at (Discarded cause))) refl (λ m e. grind arith) ms
counts_kept (Waiting l) ms = count_still (is_there (stands_at (Waiting l))) refl (λ m e. grind arith) ms
counts_kept (Unacked l) ms = count_still (is_there (stands_at (Unacked l))) refl (λ m e. grind arith) ms
counts_kept (Held l) ms = count_still (is_there (stands_at (Held l))) refl (λ m e. grind arith) ms
counts_kept Parked ms = count_still (is_there (stands_at Parked)) refl (λ m e. grind arith) ms
counts_kept (Back code) ms = count_still (is_there (stands_at (Back code))) refl (λ m e. grind arith) ms

pub tally_kept : (t u : Tally) (ms : List (Option Message)) → IsTally t ms → Forgets t u → IsTally u (unfinished ms)
tally_kept t u ms h f = record {
  counts = λ place. let kept = counts_kept place ms in let had = h.counts place in let is = f.counts place in grind arith;
  unsent = λ s b. rw f.unsent (h.unsent s b ∙ sym (count_still (is_queued s) refl (λ m e. grind arith) ms));
  octets = λ l b. rw f.octets (h.octets l b ∙ sym (octets_still l ms));
  orders = f.orders ∙ sym (count_gone is_ended_order refl (λ m e. grind arith) ms);
  fit = fit_kept ms h.fit;
}

-- a message that comes to stand elsewhere keeps its octets

pub octets_kept : (n : ℕ) (ks : List ℕ) (f : Fate) (ms : List (Option Message)) → octets_at n (restood ks f ms) ≡ octets_at n ms
octets_kept n ks f ms = grind (arith, restood_at)

pub ruleset laws = (octets_kept, fate_moves, fate_stays, length-restood)

-- HOW MANY WAIT for the acknowledgements of the changebacks of a home's codes

pub back_none : (code : ℕ) (q : Lists) → back_from code 0 q ≡ 0
unfolding back_from
back_none code q = refl

back_suc : (code n : ℕ) (q : Lists) → back_from code (suc n) q ≡ back_from code n q + length (queue_at (Back (code + n)) q)
unfolding back_from
back_suc code n q = refl

pub back_more : (code n : ℕ) (q : Lists) → back_from code (n + 1) q ≡ back_from code n q + length (queue_at (Back (code + n)) q)
back_more code n q = rw add-one (back_suc code n q)

pub back_grows : (code n k m : ℕ) (q : Lists) → n + k ≡ m → back_from code n q ≤ back_from code m q
back_grows code n zero m q e = grind arith
back_grows code n (suc k) m q e = grind (arith, back_grows code n k (n + k) q refl, back_suc code (n + k) q)

pub back_below : (code n : ℕ) (q : Lists) → n < 16 → back_from code n q + length (queue_at (Back (code + n)) q) ≤ back_from code 16 q
back_below code n q h = omega (arith, back_more code n q, back_grows code (n + 1) (15 - n) 16 q (omega arith))

-- THOSE THAT STAND IN ONE QUEUE, each once: what they weigh in all

abbrev weight : Fate → (Message → ℕ) → Option Message → ℕ
weight g w None = 0
weight g w (Some m) = cond (same_fate m.fate g) (w m) 0

abbrev AreThose : Fate → List ℕ → List (Option Message) → Type 0
AreThose g ns ms = (m : ℕ) → occurs m ns ≡ one_if (stands g m ms)

module _ (g : Fate) (standing : is_standing g ≡ true) (w : Message → ℕ) (same : (f : Fate) (m : Message) → w (with_fate f m) ≡ w m) where
  -- one of them stands in no queue any more
  one_less : (n : ℕ) (ms : List (Option Message)) (o : Option Message) → slot_at n ms ≡ o → stands g n ms ≡ true → sum_by (weight g w) (restood_one n (Acked 0) ms) + option_map_or w o 0 ≡ sum_by (weight g w) ms
  one_less n ms None e h = absurd (cc)
  one_less n ms (Some x) e h = let there = slot_there ms n x e in let set = rw (set_updated (option_map (with_fate (Acked 0))) ms n (Some x) there ∙ sym (stood_is n (Acked 0) ms)) at (sum_set (weight g w) ms n (Some x) (Some (with_fate (Acked 0) x)) there) in grind arith

  -- one that stands elsewhere weighs the same
  kept_like : (v : ℕ → ℕ) (ms : List (Option Message)) (n k : ℕ) (x : Message) → ((n : ℕ) (x : Message) → slot_at n ms ≡ Some x → v n ≡ w x) → slot_at k (restood_one n (Acked 0) ms) ≡ Some x → v k ≡ w x
  kept_like v ms n k x like e = go (slot_at k ms) refl
    where
      go : (o : Option Message) → slot_at k ms ≡ o → v k ≡ w x
      go None h = absurd (grind (arith, nat_tests, stood_same, stood_other))
      go (Some y) h = let is = like k y h in let kept = same (Acked 0) y in grind (arith, nat_tests, stood_same, stood_other)

  weightless : (ms : List (Option Message)) (k : ℕ) (slot : Option Message) → AreThose g [] ms → slice_get ms k ≡ Some slot → weight g w slot ≤ 0
  weightless ms k None h e = omega arith
  weightless ms k (Some m) h e = let there = slot_get ms k (Some m) e in let none = h k in grind (arith, none, there)

  weighed : (v : ℕ → ℕ) (ns : List ℕ) (ms : List (Option Message)) → AreThose g ns ms → ((n : ℕ) (x : Message) → slot_at n ms ≡ Some x → v n ≡ w x) → sum_by v ns ≡ sum_by (weight g w) ms
  weighed v [] ms h like = omega (arith, sum_by-le (weight g w) 0 ms (λ k d b. weightless ms k _ h (slice_get-get_or ms k d b)))
  weighed v (n ∷ ns) ms h like =
      let here = h n in
      let once = occurs_here n n refl in
      let those : AreThose g ns (restood_one n (Acked 0) ms) = λ m. let was = h m in grind (arith, nat_tests, stood_same, stood_other) in
      let rest = weighed v ns (restood_one n (Acked 0) ms) those (λ k x e. kept_like v ms n k x like e) in
      let less = one_less n ms (slot_at n ms) refl (grind arith) in
      grind (arith, sum_by-cons v n ns, rest, like n, less)

-- the octets of what stands in a link's queue are those that are counted
pub weighs : (l : ℕ) (ns : List ℕ) (ms : List (Option Message)) → AreThose (Unacked l) ns ms → octets_of ns ms ≡ sum_by (octets_on l) ms
weighs l ns ms h = weighed (Unacked l) refl (λ m. m.octets) (λ f m. refl) (λ n. octets_at n ms) ns ms h (λ n x e. grind arith)

pub octets_fit : (l : ℕ) (q : Lists) (ms : List (Option Message)) → AreSound q ms → l < length q.links → Fits w32 (sum_by (octets_on l) ms)
octets_fit l q ms s h = omega (arith, weighs l _ ms (s.tied (Unacked l) refl), sum_by-le (λ n. octets_at n ms) 273 (queue_at (Unacked l) q) (λ k d b. let fit = λ (m : Message) (e : slot_at (get_or (queue_at (Unacked l) q) k d) ms ≡ Some m). (s.fit (get_or (queue_at (Unacked l) q) k d) m e).octets in grind (arith, fit)), s.narrow l, most_small (profile_at l q))

-- all that wait for so many codes: each stands in one queue, and was given out

ones : (ns : List ℕ) → sum_by (λ n. 1) ns ≡ length ns
ones [] = refl
ones (n ∷ ns) = omega (arith, sum_by-cons (λ n. 1) n ns, ones ns)

abbrev is_in : ℕ → ℕ → Fate → Bool
is_in code n (Back d) = nat_le code d && nat_lt d (code + n)
is_in code n _ = false

abbrev among : ℕ → ℕ → Option Message → ℕ
among code n None = 0
among code n (Some m) = one_if (is_in code n m.fate)

in_more : (code n : ℕ) (ms : List (Option Message)) → sum_by (among code (suc n)) ms ≡ sum_by (among code n) ms + sum_by (weight (Back (code + n)) (λ m. 1)) ms
in_more code n [] = refl
in_more code n (x ∷ xs) =
    let one : among code (suc n) x ≡ among code n x + weight (Back (code + n)) (λ m. 1) x = grind (arith, nat_tests) in
    omega (arith, sum_by-cons (among code (suc n)) x xs, sum_by-cons (among code n) x xs, sum_by-cons (weight (Back (code + n)) (λ m. 1)) x xs, one, in_more code n xs)

back_sum : (code n : ℕ) (q : Lists) (ms : List (Option Message)) → AreTied q ms → back_from code n q ≤ sum_by (among code n) ms
back_sum code zero q ms tie = omega (arith, back_none code q)
back_sum code (suc n) q ms tie =
    let there = weighed (Back (code + n)) refl (λ m. 1) (λ f m. refl) (λ n. 1) (queue_at (Back (code + n)) q) ms (tie (Back (code + n)) refl) (λ n x e. refl) in
    omega (arith, back_suc code n q, back_sum code n q ms tie, in_more code n ms, there, ones (queue_at (Back (code + n)) q))

pub back_few : (code n : ℕ) (q : Lists) (ms : List (Option Message)) → AreTied q ms → back_from code n q ≤ length ms
back_few code n q ms tie = omega (arith, back_sum code n q ms tie, sum_by-le (among code n) 1 ms (λ k d b. grind arith))

pub ruleset backs = (back_none, back_more, back_below, back_few)
