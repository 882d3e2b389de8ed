-- ROOM that an event takes before it changes anything.
use Rattle.std.specs.Prelude.{◌≡◌, ℕ, ◌+◌, ◌-◌, ◌*◌, ◌<◌, ◌≤◌, false, List, length, map, Option, slice_set}
use Rattle.set_queues.specs.Backs.{back_count}
use Rattle.set_queues.specs.Bodies.{CanHold}
use Rattle.set_queues.specs.Buffers.{Fate, Waiting, Back, HaveRoom, queue_at, room_at}
use Rattle.set_queues.specs.Settling.{on}
use Rattle.set_route.specs.Routing.{home_of}
use Rattle.set_route.specs.Target.{target_of}
use Rattle.set_model.specs.Changeover.{Order, Coo, Coa, Cbd, Cba, Eco, Eca, fate_on}
use Rattle.set_model.specs.State.{open_link, target}
use Rattle.set_changeover.specs.Parts.{Link, Parts, kept_of}

-- the link that messages go to once this one is out of service
abbrev pub target_beside : ℕ → List Link → Option ℕ
target_beside number links = target_of (slice_set (map (λ link. open_link link) links) number false)

-- where an order stands
abbrev pub order_fate : {A : Type 0} → Parts A → Fate
order_fate parts = fate_on (target parts.links.items)

-- what stands back by this code, and the room in the queue of its home
abbrev pub back_at : {A : Type 0} → ℕ → Parts A → List ℕ
back_at code parts = queue_at (Back code) parts.queues.lists

abbrev pub home_room : {A : Type 0} → ℕ → Parts A → ℕ
home_room code parts = room_at (Waiting (home_of code)) parts.queues.rooms

-- all that waits for a code of this home has room where it waits for the home
abbrev pub CanComeBack : {A : Type 0} → ℕ → Parts A → Type 0
CanComeBack home parts = back_count home parts.queues.lists ≤ room_at (Waiting home) parts.queues.rooms

-- wherever what stands back for this link may turn there is room for it
abbrev pub CanTurnBack : {A : Type 0} → ℕ → Parts A → Type 0
CanTurnBack number parts =
    HaveRoom (length parts.links.items) (back_count number parts.queues.lists) parts.queues.rooms

-- for one new message there
pub record HasRoom {A : Type 0} (fate : Fate) (parts : Parts A) : Type 0 where
  pub message : 0 < parts.queues.room
  pub body : CanHold 1 parts.bodies
  pub place : 0 < room_at fate parts.queues.rooms

-- for one declaration on each link from this one on
pub record HasRoomFrom {A : Type 0} (first : ℕ) (parts : Parts A) : Type 0 where
  pub message : 16 ≤ first + parts.queues.room
  pub body : CanHold (16 - first) parts.bodies
  pub each : (link : ℕ) → first ≤ link → link < length parts.links.items
      → 0 < room_at (Waiting link) parts.queues.rooms

-- for so many declarations once more, on whatever links
pub record HasRoomAgain {A : Type 0} (more : ℕ) (parts : Parts A) : Type 0 where
  pub message : more ≤ parts.queues.room
  pub body : CanHold more parts.bodies
  pub each : HaveRoom (length parts.links.items) more parts.queues.rooms

-- for all that stand on the link where they go once it's out of service, and for so many orders
pub record IsReady {A : Type 0} (number orders : ℕ) (parts : Parts A) : Type 0 where
  pub message : orders ≤ parts.queues.room
  pub body : CanHold orders parts.bodies
  pub place : length (on number parts.queues.lists) + orders + 2 * back_count number parts.queues.lists
      ≤ room_at (fate_on (target_beside number parts.links.items)) parts.queues.rooms
  pub each : CanTurnBack number parts

-- nothing changed but the room
pub record SameButRoom {A : Type 0} (old new : Parts A) : Type 0 where
  pub kept : kept_of new ≡ kept_of old
  pub links : new.links ≡ old.links
  pub inbox : new.inbox ≡ old.inbox

-- there is room for what an order moves, and for the one that answers it
abbrev pub IsSpaciousFor : {A : Type 0} → Order → Parts A → Type 0
IsSpaciousFor (Cbd link code) parts = HasRoom (order_fate parts) parts
IsSpaciousFor (Cba link code) parts =
    home_of code < length parts.links.items → length (back_at code parts) ≤ home_room code parts
IsSpaciousFor (Coo link number) parts = link < length parts.links.items → IsReady link 1 parts
IsSpaciousFor (Coa link number) parts = link < length parts.links.items → IsReady link 1 parts
IsSpaciousFor (Eco link) parts = link < length parts.links.items → IsReady link 1 parts
IsSpaciousFor (Eca link) parts = link < length parts.links.items → IsReady link 1 parts
