-- WHAT A USER'S CALL DOES, by what it answers: the set's answer to that event, or a fault, where nothing was done.
use Rattle.std.specs.Prelude.{◌≡◌, ◌<◌, ◌≤◌, ℕ, Bool, true, false, List, ◌++◌, drop, length, Result, Ok, Err}
use Rattle.end_calls.specs.Codes.{detail_of, place_number}
use Rattle.end_calls.specs.declared.fault.CallFault.{CallFault}
use Rattle.end_calls.specs.declared.users.FoundValues.{FoundValues}
use Rattle.set_events.specs.declared.answer.Answer.{Answer}
use Rattle.set_events.specs.declared.answer.Fate.{Fate}
use Rattle.set_events.specs.declared.event.Actor.{Actor}
use Rattle.set_events.specs.declared.event.Event.{Event}
use Rattle.set_model.specs.History.{IsStep, entries_in, longest_history}
use Rattle.term_managed.specs.Ends.{ManagedState}

-- users have the numbers below this
abbrev pub most_users : ℕ
most_users = 64

-- THE SET ANSWERED an event of a user so, and nothing but the set changed
pub record Asks (user : ℕ) (event : Event) (answer : Answer) (old new : ManagedState) : Type 0 where
  pub is_user : user < most_users
  pub step : IsStep old.bench.set (Actor.User user) event answer new.bench.set
  pub links_are : new.bench.links ≡ old.bench.links
  pub kept_are : new.kept ≡ old.kept

-- where a message of this fate stands
abbrev pub found : Fate → FoundValues
found fate = record { place = place_number fate; detail = detail_of fate }

-- what a set answers to an offer, a take and a find, and what is told of that; it answers nothing else
abbrev pub answers_offer : Answer → Bool
answers_offer (Answer.Accepted number) = true
answers_offer (Answer.Refused why) = true
answers_offer _ = false

abbrev pub answers_take : Answer → Bool
answers_take (Answer.Taken body) = true
answers_take (Answer.Refused why) = true
answers_take _ = false

abbrev pub answers_find : Answer → Bool
answers_find (Answer.Found fate) = true
answers_find (Answer.Refused why) = true
answers_find _ = false

abbrev pub told_of_offer : Answer → Result ℕ CallFault
told_of_offer (Answer.Accepted number) = Ok number
told_of_offer (Answer.Refused why) = Err (CallFault.Refused why)
told_of_offer _ = Err CallFault.Failed

abbrev pub told_of_find : Answer → Result FoundValues CallFault
told_of_find (Answer.Found fate) = Ok (found fate)
told_of_find (Answer.Refused why) = Err (CallFault.Refused why)
told_of_find _ = Err CallFault.Failed

abbrev pub TellsTaken : Answer → List ℕ → Result ℕ CallFault → List ℕ → Type 0
TellsTaken (Answer.Taken body) room told room' =
    (told ≡ Ok (length body.items)) × (room' ≡ body.items ++ drop (length body.items) room)
TellsTaken (Answer.Refused why) room told room' = (told ≡ Err (CallFault.Refused why)) × (room' ≡ room)
TellsTaken _ room told room' = ⊥

-- A FAULT of a user's call: nothing was done
abbrev pub NotAsked : ℕ → CallFault → ManagedState → ManagedState → Type 0
NotAsked user CallFault.NoSuchUser old new = (most_users ≤ user) × (new ≡ old)
NotAsked user CallFault.NoMemory old new = new ≡ old
NotAsked user CallFault.Exhausted old new = (longest_history ≤ entries_in old.bench.set) × (new ≡ old)
NotAsked user _ old new = ⊥

-- OFFER
abbrev pub Offers : ℕ → List ℕ → ManagedState → Result ℕ CallFault → ManagedState → Type 0
Offers user message old (Ok number) new = Asks user (Event.Offer message) (Answer.Accepted number) old new
Offers user message old (Err (CallFault.Refused why)) new = Asks user (Event.Offer message) (Answer.Refused why) old new
Offers user message old (Err fault) new = NotAsked user fault old new

-- TAKE: the message stands at the front of the room, whose other octets stay
abbrev pub Takes : ℕ → List ℕ → ManagedState → Result ℕ CallFault → List ℕ → ManagedState → Type 0
Takes user room old (Ok count) room' new =
    (body : List ℕ) × Asks user Event.Take (Answer.Taken (record { items = body })) old new
    × (count ≡ length body) × (room' ≡ body ++ drop (length body) room)
Takes user room old (Err (CallFault.Refused why)) room' new = Asks user Event.Take (Answer.Refused why) old new × (room' ≡ room)
Takes user room old (Err CallFault.NoRoom) room' new = (length room < 273) × (room' ≡ room) × (new ≡ old)
Takes user room old (Err fault) room' new = NotAsked user fault old new × (room' ≡ room)

-- FIND
abbrev pub Finds : ℕ → ℕ → ManagedState → Result FoundValues CallFault → ManagedState → Type 0
Finds user number old (Ok values) new =
    (fate : Fate) × Asks user (Event.Find number) (Answer.Found fate) old new × (values ≡ found fate)
Finds user number old (Err (CallFault.Refused why)) new = Asks user (Event.Find number) (Answer.Refused why) old new
Finds user number old (Err fault) new = NotAsked user fault old new
