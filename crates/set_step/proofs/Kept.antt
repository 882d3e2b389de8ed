-- WHAT IS READ OF A SET, a set of which nothing was asked, and what holds after each event. `unacked_is` and
-- `counts_told` say that the number and FSN at a place of a link, and the counts, are the state's; `opened` that new
-- parts agree with a new set's state; `is_empty` that nothing stands on a settled link; `answers_for` and `holds_after`
-- that an answer is the step's, and that agreement holds after it. All is read off what is kept and the laws of the
-- model (`settled_empty`, `step_sound`); only `replicated` is an induction. The functions of src/contents.rt and
-- src/step.rt use it.
use Rattle.std.proofs.Common.{refl, arith, ◌≡◌, ap, ◌≤◌, ◌+◌, [], ◌∷◌, List, ℕ, suc, length, Option, Some, None, ◌<◌, ◌%◌, slice_get, option_map, true, false, IsOk, Result, subst, zero, ◌^◌, nat_lt, if◌then◌else◌, replicate, ◌∙◌}
use Rattle.std.proofs.lemmas.Bool.Decides.{nat_tests}
use Rattle.set_queues.specs.Buffers.{Lists, is_standing, queue_at, last_at, profile_at, no_lists}
use Rattle.l2_window.specs.Window.{fsn_count}
use Rattle.l2_window.proofs.Numbers.{from_zero, number_at}
use Rattle.set_queues.specs.Messages.{counts_of}
use Rattle.set_model.specs.Rows.{Fate, Unacked, numbers, Waiting, is_users, total_of, users}
use Rattle.set_events.specs.declared.answer.Counts.{Counts}
use Rattle.set_model.specs.Checkpoint.{counts_in}
use Rattle.set_model.proofs.Rows.{total_is, fewer_filter}
use Rattle.set_changeover.specs.Agreement.{Kept, StandsFor, Agrees, Holds, HoldsFew, rows_at}
use Rattle.std.proofs.lemmas.Option.{slice_get_past, slice_get-map}
use Rattle.set_model.specs.State.{State, LinkState, all_finished, none_finished, unacked_of, unacked_in, settings_of, new_link, new_state}
use Rattle.set_model.proofs.Lists.{present}
use Rattle.std.proofs.lemmas.List.{length-replicate}
use Rattle.set_events.specs.declared.config.SetConfig.{SetConfig}
use Rattle.set_queues.specs.Queues.{AreGiven, AreSound}
use Rattle.set_route.specs.Routing.{Routing, new_routing}
use Rattle.set_model.specs.Step.{Event, Answer, step, stepped}
use Rattle.set_model.proofs.Soundness.{opened_sound, step_sound}
use Rattle.set_model.proofs.Walk.{step_is}
use Rattle.set_changeover.specs.declared.parts.Parts.{Parts}
use Rattle.set_step.specs.Answering.{AnswersFor, wants_none}
use Rattle.set_changeover.specs.Parts.{Answers, AreCounted, kept_of, Settled, IsHere}
use Rattle.set_queues.proofs.Standing.{occurs_here, given_queue}
use Rattle.set_model.proofs.Settling.{settled_empty}
use Rattle.set_changeover.specs.Room.{SameButRoom}
use Rattle.set_changeover.proofs.Links.{agrees_same, is_in, whole_of}
use Rattle.set_traffic.proofs.Traffic.{queue_there}
use Rattle.set_traffic.proofs.Counts.{counts_are}

-- THE UNACKNOWLEDGED MESSAGE at a place of a link, if there is one: its number is the queue's, and its FSN follows the last one
pub unacked_is : (k : Kept) (s : State) (n place : ℕ) (o : Option ℕ) → StandsFor k s → n < length k.links → slice_get (queue_at (Unacked n) k.lists) place ≡ o → unacked_in s n place ≡ option_map (λ number. record { number = number; fsn = (last_at n k.lists + 1 + place) % fsn_count (profile_at n k.lists) }) o
unacked_is k s n place o f low at =
    let l = present s.links n (omega (arith, low, ap length f.links)) in
    let same = number_at l.0.profile (last_at n k.lists) l.0.acked place (f.fsns n l.0 l.1) in
    grind (arith, nat_tests, l.1, slice_get-map, same, f.profiles n l.0 l.1, f.stands.queues (Unacked n) refl)

-- there is none on a link that isn't there
pub unacked_past : (k : Kept) (s : State) (n place : ℕ) → StandsFor k s → length k.links ≤ n → unacked_in s n place ≡ None
unacked_past k s n place f past = ap (λ (o : Option LinkState). unacked_of o n place s.rows) (slice_get_past s.links n (omega (arith, past, ap length f.links)))

-- HOW MANY MESSAGES are counted, where they stand or since they left: no more than were given out
pub counted_few : {A : Type 0} (parts : Parts A) → Holds (kept_of parts) → all_finished parts.finished + total_of (counts_of parts.queues.messages) ≤ length parts.queues.messages
counted_few parts h =
    let f = h.1.stands in
    let out = f.given_out in
    omega (arith, out, ap all_finished f.finished, ap total_of (counts_are parts.queues.lists parts.queues.messages h.0.rows f.stands), total_is h.0.rows, fewer_filter is_users h.0.rows)

-- THE COUNTS of those that are there, with those that left
pub counts_told : (k : Kept) (s : State) (here : Counts) → StandsFor k s → here ≡ counts_of k.messages → record here { acked = k.finished.acked + here.acked; discarded = k.finished.emergency + k.finished.unreasonable + k.finished.no_answer + here.discarded } ≡ counts_in s
counts_told k s here f is = rw (is ∙ counts_are k.lists k.messages s.rows f.stands, f.finished) refl

pub all_told : (s : State) → total_of (counts_in s) + s.finished.orders ≡ all_finished s.finished + length (users s.rows)
all_told s = omega (arith, total_is s.rows)

-- NO MESSAGE
replicated : {X : Type 0} (n k : ℕ) (x : X) → slice_get (replicate n x) k ≡ (if nat_lt k n then Some x else None)
replicated zero k x = grind (arith, nat_tests)
replicated (suc n) zero x = grind (arith, nat_tests)
replicated (suc n) (suc k) x = grind (arith, nat_tests, replicated n k x)

-- of no messages none stands in a queue
none_given : (ns : List ℕ) → AreGiven ns [] → ns ≡ []
none_given [] given = refl
none_given (n ∷ ns) given = let there = given n (omega (arith, occurs_here n n refl)) in absurd cc

none_stands : (q : Lists) → AreSound q [] → (fate : Fate) → is_standing fate ≡ true → queue_at fate q ≡ numbers (rows_at fate [])
none_stands q sound fate stood = none_given (queue_at fate q) (given_queue q [] fate sound.tied stood)

-- links that stand for new ones, sound queues with nothing, and nothing else
stands_new : {A : Type 0} (config : SetConfig) (parts : Parts A) (routing : Routing) → parts.config ≡ config → parts.links.items ≡ replicate config.links (new_link config.profile config.method) → parts.queues.lists.links ≡ replicate config.links (no_lists config.profile) → AreSound parts.queues.lists parts.queues.messages → parts.queues.messages ≡ [] → parts.bodies.items ≡ [] → parts.finished ≡ none_finished → parts.routes ≡ routing → parts.inbox.items ≡ []
    → StandsFor (kept_of parts) (record (new_state config) { routing = routing })
stands_new config parts routing c links lists sound messages bodies finished routes inbox = grind (arith, nat_tests, none_stands parts.queues.lists (rw messages at sound), length-replicate, replicated, from_zero config.profile)

pub opened : {A : Type 0} (config : SetConfig) (parts : Parts A) → parts.config ≡ config → parts.links.items ≡ replicate config.links (new_link config.profile config.method) → parts.queues.lists.links ≡ replicate config.links (no_lists config.profile) → AreSound parts.queues.lists parts.queues.messages → parts.queues.messages ≡ [] → parts.bodies.items ≡ [] → parts.finished ≡ none_finished → parts.routes ≡ new_routing config.links → parts.inbox.items ≡ []
    → Agrees (kept_of parts) (new_state config)
opened config parts c links lists sound messages bodies finished routes inbox = record {
  stands = stands_new config parts (new_routing config.links) c links lists sound messages bodies finished routes inbox;
  sound = opened_sound (settings_of config) (record { some_link = config.has_links; at_most_16 = config.links_in_range; managed = config.management });
}

-- A LINK THAT COMES UP
-- a settled link is there, and nothing stands on it, once room was taken
pub record IsEmpty {A : Type 0} (parts : Parts A) (n : ℕ) : Type 0 where
  pub known : n < length parts.queues.lists.links
  pub routed : n < parts.routes.links
  pub unacked : queue_at (Unacked n) parts.queues.lists ≡ []
  pub unsent : queue_at (Waiting n) parts.queues.lists ≡ []

pub is_empty : {A : Type 0} (old parts : Parts A) (n : ℕ) → Holds (kept_of old) → IsHere old.links.items n Settled → SameButRoom old parts → IsEmpty parts n
is_empty old parts n holds h same =
    let a = agrees_same old parts holds.0 same holds.1 in
    let here : IsHere parts.links.items n Settled = rw same.links h in
    let i = is_in parts holds.0 n Settled a here in
    let e = settled_empty holds.0 n i.link a.sound i.there i.phase_is in
    let routed = (whole_of parts (holds.0, a)).routed in
    let low = here.known in
    record { known = queue_there parts n (holds.0, a) low; routed = omega (arith, routed, low); unacked = a.stands.stands.queues (Unacked n) refl ∙ ap numbers e.unack_none; unsent = a.stands.stands.queues (Waiting n) refl ∙ ap numbers e.wait_none }

-- AFTER AN EVENT

-- an event that may want memory is no other
pub may_want : {E : Type 0} (result : Result (Unit {0}) E) (event known : Event) → event ≡ known → wants_none known ≡ false → wants_none event ≡ true → IsOk result
may_want result event known is wants none = cc

pub answers_for : {A : Type 0} (old new : Parts A) (event : Event) (answer : Answer) → Answers old new answer (λ s. stepped s event) → (s : State) → Agrees (kept_of old) s → AnswersFor (step s event) answer (kept_of new)
answers_for old new event answer ok s a = grind (arith, nat_tests, step_is, step_sound, a.sound)

pub holds_after : {A : Type 0} (old new : Parts A) (event : Event) (answer : Answer) → Answers old new answer (λ s. stepped s event) → Holds (kept_of old) → Holds (kept_of new)
holds_after old new event answer answers h = ((step h.0 event).state, (answers_for old new event answer answers h.0 h.1).agrees)

-- whole numbers of a set are far from the end of their range
pub counted_of : {A : Type 0} (parts : Parts A) → HoldsFew (2 ^ 48) (kept_of parts) → AreCounted (2 ^ 60) parts.links.items
counted_of parts h number link there =
    let few = h.2 number link (subst (λ (ls : List LinkState). slice_get ls number ≡ Some link) h.1.stands.links there) in
    let sent = few.sent in
    let accepted = few.accepted in
    record { acked = omega (arith, sent); accepted = omega (arith, accepted) }
