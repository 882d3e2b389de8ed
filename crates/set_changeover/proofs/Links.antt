-- ONE LINK OF THE LIST CHANGES, and what the list stands for with it: the link that an index read is the state's
-- (`found`, `stands_for`), and so is the list that it's put back into (`link_set`). Of a set that agrees with a state
-- (`Agrees`) it follows that a link is there in its phase (`is_in`), what is answered there (`served`, `known_here`) or
-- ignored (`none_there`, `not_left`), which link is the target once one is left (`beside_left`), and that there's room
-- (`here_room`, `has_room_left`). Case by case, without induction. The functions of src/changeover.rt, src/settling.rt
-- and src/changeback.rt use it; so do set_traffic's Traffic.antt and set_step's Kept.antt.
use Rattle.std.proofs.Common.{arith, ◌≡◌, ◌∙◌, ap, sym, ◌<◌, ℕ, Bool, List, map, length, slice_get, slice_set, slice_index_or, Some, ◌≢◌, false, Option, IfSome, refl, subst, ◌≤◌, None, option_map, true, [], drop, not, ◌==◌}
use Rattle.std.proofs.lemmas.Option.{slice_get-get_or}
use Rattle.set_changeover.specs.Parts.{Link, Parts, kept_of, AtLink, IsOut, IsReach, Gives, Obeys, Phase, Down, IsWhole, IsCounted, AreCounted}
use Rattle.std.proofs.lemmas.List.{length-map, length-drop}
use Rattle.std.proofs.lemmas.List.Filters.{length-filter_both}
use Rattle.set_queues.specs.Messages.{is_order_at}
use Rattle.set_queues.specs.Queues.{others_in, without}
use Rattle.set_changeover.specs.Agreement.{Message, Agrees, Holds}
use Rattle.set_model.specs.State.{LinkState, Profile, Settings, State, has_phase_up, link_is_open, open_link, target}
use Rattle.set_model.proofs.Lists.{map_at, map_set, map_set_same, not_open, same_at, present, target_open, within, set_same, at_set}
use Rattle.set_queues.specs.Buffers.{Fate, Lists, IsKnown, Waiting, Unacked, Held, with_queue, room_at, profile_at, is_standing, queue_at}
use Rattle.set_queues.proofs.Soundness.{IsAside, aside_of, on_length, queue_last}
use Rattle.set_events.specs.declared.answer.Took.TheVariants.{Ignored}
use Rattle.set_model.specs.Changeover.{Obeyed, answered, at_link, fate_on, obeyed_at}
use Rattle.set_route.specs.Target.{target_of}
use Rattle.set_changeover.specs.Room.{SameButRoom, HasRoom, IsReady, target_beside}
pub use Rattle.set_changeover.specs.Parts.{Link, Parts, Phase, Up, Down, Settled, Unanswered, Reached, IsHere}
use Rattle.set_model.specs.Step.{Answer, Outcome, on_link, in_service}
use Rattle.std.proofs.lemmas.Bool.Decides.{nat_tests}
use Rattle.set_queues.specs.Backs.{back_count}
use Rattle.set_queues.specs.Settling.{on}
use Rattle.set_queues.proofs.Standing.{queue_set}
use Rattle.set_changeover.specs.Turning.{TakesTurns}
use Rattle.set_queues.specs.Sending.{acknowledged, reach}

-- the link that an index of this number read
module _ (links : List Link) (n i : ℕ) (x : Link) (is : i ≡ n) (known : n < length links) (read : x ≡ slice_index_or links i x) where
  pub found : slice_get links n ≡ Some x
  found = slice_get-get_or links n x known ∙ ap Some (ap (λ k. slice_index_or links k x) (sym is) ∙ sym read)

  -- what the state has there
  pub stands_for : (ls : List Link) (link : Link) → links ≡ ls → slice_get ls n ≡ Some link → x ≡ link
  stands_for ls link all there = same_at ls n link x there (ap (λ xs. slice_get xs n) (sym all) ∙ found)

  -- it changes
  pub link_set : (change : Link → Link) (y : Link) (ls : List Link) (link : Link) → y ≡ x → links ≡ ls → slice_get ls n ≡ Some link → slice_set links i (change y) ≡ slice_set ls n (change link)
  link_set change y ls link same all there = rw (is, same ∙ stands_for ls link all there, all) refl

  -- and nothing that this tells of it
  pub set_view : {Y : Type 0} (f : Link → Y) (y : Link) → f y ≡ f x → map f (slice_set links i y) ≡ map f links
  set_view f y e = ap (λ k. map f (slice_set links k y)) is ∙ map_set_same f links n x y found e

-- The link that messages are moved to.

-- links of which the same are open have the same target
pub same_target : (old new : List Link) → map (λ (link : Link). open_link link) new ≡ map (λ (link : Link). open_link link) old → target new ≡ target old
same_target old new e = ap target_of e

-- the place of what leaves a link that is out of service: it's known, and no queue of the link
pub place_for : {links read : List Link} (n : ℕ) (o : Option ℕ) (to : Fate) (q : Lists) → read ≡ links → o ≡ target read → IfSome o (λ t. t < length read) → to ≡ fate_on o → length q.links ≡ length links → n < length links → AtLink n links IsOut → IsAside n to q × IfSome o (λ t. t ≢ n)
place_for {links} {read} n o to q same is below there many known out =
    let x = present links n known in
    let down = out x.0 x.1 in
    let apart : IfSome o (λ t. t ≢ n) = grind (arith, same_at, target_open) in
    let known_to : IsKnown (fate_on o) q = grind arith in
    (aside_of o n to q there (omega (arith, many, known)) known_to apart, apart)

-- What an event of a link does where the link is there, and as the event needs it.
-- the same of the state that the links stand for
pub is_in : {A : Type 0} (parts : Parts A) (s : State) (n : ℕ) (phase : Phase) → Agrees (kept_of parts) s → IsHere parts.links.items n phase → IsHere s.links n phase
is_in parts s n phase a h = rw (← a.stands.links) h

-- whether it's open
pub open_there : {A : Type 0} (parts : Parts A) (s : State) (n : ℕ) (phase : Phase) (o : Bool) → Agrees (kept_of parts) s → (i : IsHere s.links n phase)
    → o ≡ link_is_open (slice_get parts.links.items n) → open_link i.link ≡ o
open_there parts s n phase o a i e = sym (ap link_is_open (ap (λ (ls : List Link). slice_get ls n) a.stands.links ∙ i.there)) ∙ sym e

-- What is answered there.
pub served : {A : Type 0} (s : State) (n : ℕ) (outcome : LinkState → Outcome) (answer : Answer) (parts : Parts A) (i : IsHere s.links n Up) → Gives (outcome i.link) answer parts → Gives (in_service n s outcome) answer parts
served s n outcome answer parts i g = rw i.there (rw (ap has_phase_up i.phase_is) g)

-- what is answered, where the link is there
pub known_here : {A : Type 0} (old parts : Parts A) (s : State) (n : ℕ) (answer : Answer) (outcome : Outcome) → Agrees (kept_of old) s → n < length old.links.items → Gives outcome answer parts → Gives (on_link n s (λ link. outcome)) answer parts
known_here old parts s n answer outcome a known g = rw (← a.stands.links, (present old.links.items n known).1) g

pub phase_here : (links : List Link) (n : ℕ) (o : Option Link) → slice_get links n ≡ o → IfSome (option_map (λ (l : Link). l.phase) o) (IsHere links n)
phase_here links n None e = tt
phase_here links n (Some link) e = record { link = link; there = e; phase_is = refl; known = within links n link e }

-- a link that isn't up is out
pub out_at : (links : List Link) (n : ℕ) (phase : Phase) → IsHere links n phase → has_phase_up phase ≡ false → AtLink n links IsOut
out_at links n phase h e link there =
    not_open link.tested link.phase (ap (λ (l : Link). has_phase_up l.phase) (same_at links n h.link link h.there there) ∙ ap has_phase_up h.phase_is ∙ e)

-- After room was taken.
pub agrees_same : {A : Type 0} (old new : Parts A) (s : State) → SameButRoom old new → Agrees (kept_of old) s → Agrees (kept_of new) s
agrees_same old new s same a = subst (λ k. Agrees k s) (sym same.kept) a

-- THE TARGET beside a link that is out, and once it's left
pub beside_out : (links : List Link) (n : ℕ) → n < length links → AtLink n links IsOut → target_beside n links ≡ target links
beside_out links n known out =
    let x = present links n known in
    let down = out x.0 x.1 in
    let there = map_at (λ (link : Link). open_link link) links n x.0 x.1 in
    grind (arith, set_same)

pub beside_left : (links new : List Link) (n : ℕ) (link : Link) → new ≡ slice_set links n link → open_link link ≡ false → target new ≡ target_beside n links
beside_left links new n link e out = grind (arith, map_set (λ (link : Link). open_link link) links n link)

-- THE WHOLE NUMBERS of a list in which one link changed otherwise
pub counted_set : (bound : ℕ) (links new : List Link) (n : ℕ) (link : Link) → AreCounted bound links → new ≡ slice_set links n link → IsCounted bound link → AreCounted bound new
counted_set bound links new n link all e one m other there = grind (arith, nat_tests, at_set)

-- A SET IS WHOLE that stands for a state.
pub whole_of : {A : Type 0} (parts : Parts A) → Holds (kept_of parts) → IsWhole parts
whole_of parts h = grind (arith, length-map)

pub here_room : {A : Type 0} (parts : Parts A) (n orders : ℕ) (phase : Phase) → IsHere parts.links.items n phase → has_phase_up phase ≡ false → IsReady n orders parts → length (on n parts.queues.lists) ≤ room_at (fate_on (target parts.links.items)) parts.queues.rooms
here_room parts n orders phase h down r =
    let beside = beside_out parts.links.items n h.known (out_at parts.links.items n phase h down) in
    grind (arith, beside)

-- room for an order once the link is left, and what stood back for it turned
pub has_room_left : {A : Type 0} (n : ℕ) (old new : Parts A) → IsReady n 1 old → TakesTurns (back_count n old.queues.lists) old.queues new.queues → new.bodies ≡ old.bodies → target new.links.items ≡ target_beside n old.links.items → HasRoom (fate_on (target new.links.items)) new
has_room_left n old new r turns bodies same = grind arith

pub wider : (bound more : ℕ) (links : List Link) → bound ≤ more → AreCounted bound links → AreCounted more links
wider bound more links h all n link there = let k = all n link there in record { acked = let low = k.acked in omega (arith, h, low); accepted = let low = k.accepted in omega (arith, h, low) }

-- Queues that got no longer.

abbrev pub NoLonger : Lists → Lists → Type 0
NoLonger q q' = (f : Fate) → length (queue_at f q') ≤ length (queue_at f q)

-- a queue is replaced by one that is no longer
replaced_less : (g : Fate) (xs : List ℕ) (q : Lists) → is_standing g ≡ true → IsKnown g q → length xs ≤ length (queue_at g q) → NoLonger q (with_queue g xs q)
replaced_less g xs q s h few f = grind (arith, nat_tests, queue_set g f xs q s h)

pub cleared_less : (g : Fate) (q q' : Lists) → q' ≡ with_queue g [] q → is_standing g ≡ true → IsKnown g q → NoLonger q q'
cleared_less g q q' e s h f = rw e (replaced_less g [] q s h (omega arith) f)

-- one of which some are left
pub sifted_less : (g : Fate) (q q' : Lists) (ms : List (Option Message)) → q' ≡ with_queue g (others_in ms (queue_at g q)) q → is_standing g ≡ true → IsKnown g q → NoLonger q q'
sifted_less g q q' ms e s h f = rw e (replaced_less g (others_in ms (queue_at g q)) q s h (omega (arith, length-filter_both (is_order_at ms) (λ (n : ℕ). not (is_order_at ms n)) (λ n. refl) (queue_at g q))) f)

pub without_less : (g : Fate) (q q' : Lists) (number : ℕ) → q' ≡ with_queue g (without number (queue_at g q)) q → is_standing g ≡ true → IsKnown g q → NoLonger q q'
without_less g q q' number e s h f = rw e (replaced_less g (without number (queue_at g q)) q s h (omega (arith, length-filter_both (λ (n : ℕ). n == number) (λ (n : ℕ). not (n == number)) (λ n. refl) (queue_at g q))) f)

pub acked_less : (l fsn : ℕ) (q : Lists) → l < length q.links → NoLonger q (acknowledged l fsn q)
acked_less l fsn q h f = rw (queue_last f l fsn _) (replaced_less (Unacked l) (drop (reach l fsn q) (queue_at (Unacked l) q)) q refl h (omega (arith, length-drop (reach l fsn q) (queue_at (Unacked l) q))) f)

-- so does what stands on a link
pub on_less : (n : ℕ) (q q' : Lists) → NoLonger q q' → length (on n q') ≤ length (on n q)
on_less n q q' less = let u = less (Unacked n) in let w = less (Waiting n) in let h = less (Held n) in omega (arith, u, w, h, on_length n q, on_length n q')

-- THE NUMBERS OF EACH LINK are those of the set
pub profile_of : {A : Type 0} (parts : Parts A) (s : State) (n : ℕ) (link : LinkState) → Agrees (kept_of parts) s → slice_get s.links n ≡ Some link → link.profile ≡ parts.config.profile
profile_of parts s n link a there = (a.sound.links n link there).profile ∙ sym (ap (λ (m : Settings). m.profile) a.stands.settings)

pub reach_here : {A : Type 0} (parts : Parts A) (n : ℕ) (reached : Reached) → Holds (kept_of parts) → n < length parts.links.items → IsReach parts.config.profile reached → IsReach (profile_at n parts.queues.lists) reached
reach_here parts n reached h known reach =
    let x = present h.0.links n (rw h.1.stands.links at known) in
    subst (λ (p : Profile). IsReach p reached) (sym (h.1.stands.profiles n x.0 x.1 ∙ profile_of parts h.0 n x.0 h.1 x.1)) reach

-- AN ORDER IS IGNORED that is for no link of the set, and an acknowledgement for one that wasn't left
pub none_there : {A : Type 0} (parts : Parts A) (s : State) (n : ℕ) (by : LinkState → Phase → State → Obeyed) → Agrees (kept_of parts) s → None ≡ option_map (λ (l : LinkState). l.phase) (slice_get parts.links.items n) → Obeys (obeyed_at n by s) Ignored parts
none_there parts s n by a none = go (slice_get s.links n) (none ∙ ap (λ (ls : List LinkState). option_map (λ (l : LinkState). l.phase) (slice_get ls n)) a.stands.links)
  where
    go : (o : Option LinkState) → None ≡ option_map (λ (l : LinkState). l.phase) o → Obeys (at_link n s (λ link. by link link.phase s) o) Ignored parts
    go None e = record { took_is = refl; stands = a.stands }
    go (Some link) e = absurd cc

pub not_left : {A : Type 0} (parts : Parts A) (s : State) (n : ℕ) (reached : Reached) → Agrees (kept_of parts) s → (Some Down ≡ option_map (λ (l : LinkState). l.phase) (slice_get parts.links.items n) → ⊥) → Obeys (obeyed_at n (answered reached n) s) Ignored parts
not_left parts s n reached a other = go (slice_get s.links n) (λ e. other (e ∙ sym (ap (λ (ls : List LinkState). option_map (λ (l : LinkState). l.phase) (slice_get ls n)) a.stands.links)))
  where
    of_phase : (link : LinkState) (phase : Phase) → (Some Down ≡ Some phase → ⊥) → Obeys (answered reached n link phase s) Ignored parts
    of_phase link Up other = record { took_is = refl; stands = a.stands }
    of_phase link Down other = absurd (other refl)
    of_phase link Settled other = record { took_is = refl; stands = a.stands }

    go : (o : Option LinkState) → (Some Down ≡ option_map (λ (l : LinkState). l.phase) o → ⊥) → Obeys (at_link n s (λ link. answered reached n link link.phase s) o) Ignored parts
    go None other = record { took_is = refl; stands = a.stands }
    go (Some link) other = of_phase link link.phase other
