-- The queues of one link change: what that is for the lists and the rooms of a set.
use Rattle.std.proofs.Common.{refl, arith, ◌≡◌, ◌∙◌, ap, ◌+◌, ◌≤◌, ◌<◌, length, map, ℕ, ◌==◌, [], List, Some, cond, get_or, slice_get, slice_set, option_map, drop}
use Rattle.std.proofs.lemmas.Bool.{eq-eqb}
use Rattle.std.proofs.lemmas.List.{length-map}
use Rattle.std.proofs.lemmas.Option.{slice_get-map, slice_get_read, slice_get_within, get_or_from_slice_get}
use Rattle.l2_window.specs.Queue.{QueueState}
use Rattle.set_queues.specs.declared.buffers.Link.{Link}
use Rattle.set_queues.specs.Buffers.{updated, on_link, Lists, LinkLists, LinkRooms, Rooms, BuffersState, KeepsRoom}
use Rattle.std.specs.Option.{option_map_or}
use Rattle.set_queues.specs.Sending.{acknowledged}
use Rattle.l2_window.specs.Window.{distance_to}
use Rattle.set_queues.specs.Kept.{lists_of, rooms_of, state_of}
use Rattle.set_queues.specs.declared.buffers.Buffers.TheInside.{Inside}
use Rattle.set_queues.proofs.Standing.{updated_there, updated_other, updated_twice, map_set_updated, map_set_same, read_set}

-- the link that an index of this number reads, or the queue
pub found : {A : Type 0} (fields : Inside A) (value : BuffersState) (i l : ℕ) (x : Link A) → state_of fields ≡ value → l < length value.lists.links → i ≡ l → x ≡ get_or fields.links.items i x → slice_get fields.links.items l ≡ Some x
found fields value i l x v b n e = grind (arith, length-map, slice_get_read)

pub back_found : {A : Type 0} (fields : Inside A) (value : BuffersState) (i c : ℕ) (x : QueueState) → state_of fields ≡ value → c < length value.lists.back → i ≡ c → x ≡ get_or fields.back.items i x → slice_get fields.back.items c ≡ Some x
back_found fields value i c x v b n e = grind (arith, length-map, slice_get_read)

-- THE QUEUES OF ONE LINK: its lists, and when it's set to another

pub lists_set : {A : Type 0} (f : LinkLists → LinkLists) (xs : List (Link A)) (l : ℕ) (x y : Link A) → slice_get xs l ≡ Some x → lists_of y ≡ f (lists_of x) → map lists_of (slice_set xs l y) ≡ updated l f (map lists_of xs)
lists_set f xs l x y e h = map_set_updated lists_of f xs l x y e h

pub lists_same : {A : Type 0} (xs : List (Link A)) (l : ℕ) (x y : Link A) → slice_get xs l ≡ Some x → lists_of y ≡ lists_of x → map lists_of (slice_set xs l y) ≡ map lists_of xs
lists_same xs l x y e h = map_set_same lists_of xs l x y e h

pub rooms_set : {A : Type 0} (room : LinkRooms → ℕ) (xs : List (Link A)) (l k : ℕ) (x y : Link A) → slice_get xs l ≡ Some x → option_map_or room (slice_get (map rooms_of (slice_set xs l y)) k) 0 ≡ cond (l == k) (room (rooms_of y)) (option_map_or room (slice_get (map rooms_of xs) k) 0)
rooms_set room xs l k x y e = rw (map_set_updated rooms_of (λ (z : LinkRooms). rooms_of y) xs l x y e refl) (grind (arith, updated_there, updated_other, slice_get-map))

abbrev rooms : {A : Type 0} → List (Link A) → ℕ → List ℕ → Rooms
rooms xs parked back = record { links = map rooms_of xs; parked = parked; back = back }

pub keeps : {A : Type 0} (xs : List (Link A)) (l : ℕ) (x y : Link A) (parked : ℕ) (back : List ℕ) → slice_get xs l ≡ Some x → x.window.room ≤ y.window.room → x.held.room ≤ y.held.room → KeepsRoom (rooms xs parked back) (rooms (slice_set xs l y) parked back)
keeps xs l x y parked back e u h fate = grind (arith, rooms_set, slice_get-map)

-- The same by what is known after a call on a link of the vector: its index `i`, what stood there, and what stands there.

module _ {A : Type 0} (fields : Inside A) (i l : ℕ) (x y : Link A) (known : l < length (map lists_of fields.links.items)) (n : i ≡ l) (e : x ≡ get_or fields.links.items i x) where
  there : slice_get fields.links.items l ≡ Some x
  there = found fields (state_of fields) i l x refl known n e

  pub relinked : (f : LinkLists → LinkLists) → lists_of y ≡ f (lists_of x) → ◌≡◌ {A = Lists} (record { links = map lists_of (slice_set fields.links.items i y); parked = fields.parked.messages; back = map (λ queue. queue.messages) fields.back.items }) (on_link l f (state_of fields).lists)
  relinked f h = rw (n, lists_set f fields.links.items l x y there h) refl

  pub relinked_same : lists_of y ≡ lists_of x → ◌≡◌ {A = Lists} (record { links = map lists_of (slice_set fields.links.items i y); parked = fields.parked.messages; back = map (λ queue. queue.messages) fields.back.items }) (state_of fields).lists
  relinked_same h = rw (n, lists_same fields.links.items l x y there h) refl

  pub relinked_keeps : x.window.room ≤ y.window.room → x.held.room ≤ y.held.room → KeepsRoom (state_of fields).rooms (record { links = map rooms_of (slice_set fields.links.items i y); parked = fields.parked.room; back = map (λ queue. queue.room) fields.back.items })
  relinked_keeps u h = rw n (keeps fields.links.items l x y fields.parked.room (map (λ queue. queue.room) fields.back.items) there u h)

  -- its window has this number acknowledged from now on, and fewer messages unacknowledged
  pub relinked_acked : (fsn : ℕ) → y.window ≡ record x.window { last = fsn; unacked = drop (distance_to x.window fsn) x.window.unacked } → y.held ≡ x.held → ◌≡◌ {A = Lists} (record { links = map lists_of (slice_set fields.links.items i y); parked = fields.parked.messages; back = map (λ queue. queue.messages) fields.back.items }) (acknowledged l fsn (state_of fields).lists)
  relinked_acked fsn w h =
      let reads : slice_get (map lists_of fields.links.items) l ≡ Some (lists_of x) = slice_get-map lists_of fields.links.items l ∙ ap (option_map lists_of) there in
      let last : (z : LinkLists) → LinkLists = λ z. record z { last = fsn } in
      let fewer : (z : LinkLists) → LinkLists = λ z. record z { unacked = drop (distance_to x.window fsn) x.window.unacked } in
      rw (reads, updated_twice last fewer (map lists_of fields.links.items) l) (relinked (λ z. last (fewer z)) (grind (arith, w, h)))

  pub relinked_room : (room : LinkRooms → ℕ) → option_map_or room (slice_get (map rooms_of (slice_set fields.links.items i y)) l) 0 ≡ room (rooms_of y)
  relinked_room room = rw n (grind (arith, there, rooms_set, eq-eqb))

-- THE QUEUE OF A CHANGEBACK'S CODE

pub back_there : {X : Type 0} (v : QueueState → X) (xs : List QueueState) (c : ℕ) (x : QueueState) (d : X) → slice_get xs c ≡ Some x → get_or (map v xs) c d ≡ v x
back_there v xs c x d e = get_or_from_slice_get (map v xs) c (v x) d (slice_get-map v xs c ∙ ap (option_map v) e)

pub back_set : (ns : List ℕ) (xs : List QueueState) (c : ℕ) (x y : QueueState) → slice_get xs c ≡ Some x → y.messages ≡ ns → map (λ (z : QueueState). z.messages) (slice_set xs c y) ≡ updated c (λ (z : List ℕ). ns) (map (λ (z : QueueState). z.messages) xs)
back_set ns xs c x y e h = map_set_updated (λ z. z.messages) (λ (z : List ℕ). ns) xs c x y e h

pub back_same : (xs : List QueueState) (c : ℕ) (x y : QueueState) → slice_get xs c ≡ Some x → y.messages ≡ x.messages → map (λ (z : QueueState). z.messages) (slice_set xs c y) ≡ map (λ (z : QueueState). z.messages) xs
back_same xs c x y e h = map_set_same (λ z. z.messages) xs c x y e h

pub room_read : (xs : List QueueState) (c k : ℕ) (x y : QueueState) → slice_get xs c ≡ Some x → get_or (map (λ (z : QueueState). z.room) (slice_set xs c y)) k 0 ≡ cond (c == k) y.room (get_or (map (λ (z : QueueState). z.room) xs) k 0)
room_read xs c k x y e = rw (map_set_updated (λ z. z.room) (λ (r : ℕ). y.room) xs c x y e refl) (read_set y.room (map (λ (z : QueueState). z.room) xs) c k 0 (omega (arith, slice_get_within xs c x e, length-map xs (λ (z : QueueState). z.room))))

-- what a call on a queue of a link is for the set; and one on a code's
pub ruleset of_link = (found, length-map, slice_get-map, lists_set, lists_same, rooms_set, keeps, updated_twice, eq-eqb)

pub ruleset of_code = (back_found, length-map, back_there, back_set, back_same, room_read, eq-eqb)
