-- WHAT A USER DOES, as the entries that its calls leave in the set's history.
use Rattle.std.specs.Prelude.{◌≡◌, ℕ, zero, suc, List, [], ◌∷◌, ◌++◌, map, drop, Option, None, Some, MatchOption, Result, Ok, Err, IfOk}
use Rattle.set_events.specs.declared.answer.Answer.{Answer}
use Rattle.set_events.specs.declared.answer.Answer.TheVariants.{Accepted, Found, Refused, Taken}
use Rattle.set_events.specs.declared.event.Actor.{Actor}
use Rattle.set_events.specs.declared.event.Actor.TheVariants.{User}
use Rattle.set_events.specs.declared.event.Event.{Event}
use Rattle.set_events.specs.declared.event.Event.TheVariants.{Offer, Take as TakeOne, Find}
use Rattle.set_events.specs.declared.fault.SetFault.{SetFault}
use Rattle.set_events.specs.declared.history.Entry.{Entry}
use Rattle.set_events.specs.declared.answer.Refusal.TheVariants.{Finished}
use Rattle.set_events.specs.declared.books.Books.{Books}
use Rattle.bank_crew.specs.declared.plan.Job.{Job}
use Rattle.bank_crew.specs.declared.plan.Job.TheVariants.{Collect, Offer as OfferAll, Take}
use Rattle.bank_crew.specs.declared.fault.UserFault.{UserFault}
use Rattle.bank_crew.specs.declared.fault.UserFault.TheVariants.{NotFound}
use Rattle.bank_crew.specs.declared.report.UserReport.{UserReport}
use Rattle.bank_crew.specs.Faults.{fault_of}
use Rattle.bank_crew.specs.Seats.{AreCalls}

-- WHAT IS DONE at a seat: how it ends, and the entries before it and after it
abbrev pub Deed : Type 1
Deed = Result (Unit {0}) UserFault → List Entry → List Entry → Type 0

abbrev pub Nothing : Deed
Nothing ended before after = (ended ≡ Ok tt) × (after ≡ before)

-- where the first ended well the second follows
abbrev pub Unless : Result (Unit {0}) UserFault → Deed → Deed
Unless (Ok done) Second ended before after = Second ended before after
Unless (Err fault) Second ended before after = (ended ≡ Err fault) × (after ≡ before)

abbrev pub AndThen : Deed → Deed → Deed
AndThen First Second ended before after =
    (first : Result (Unit {0}) UserFault) × (between : List Entry)
    × First first before between × Unless first Second ended between after

-- A CALL leaves an entry with its answer, or at a fault none
abbrev pub Calls : Actor → Event → Result Answer SetFault → List Entry → List Entry → Type 0
Calls who event (Ok answer) before after =
    after ≡ before ++ record { who = who; event = event; answer = answer } ∷ []
Calls who event (Err fault) before after = after ≡ before

-- a message that was accepted is there, or is finished and left at a checkpoint
abbrev pub end_of_find : Result Answer SetFault → Result (Unit {0}) UserFault
end_of_find (Ok (Found fate)) = Ok tt
end_of_find (Ok (Refused Finished)) = Ok tt
end_of_find (Ok answer) = Err NotFound
end_of_find (Err fault) = Err (fault_of fault)

abbrev pub Finds : Actor → ℕ → Deed
Finds who number ended before after =
    (found : Result Answer SetFault) × Calls who (Find number) found before after × (ended ≡ end_of_find found)

-- the number under which an offer was accepted
abbrev pub number_of : Result Answer SetFault → Option ℕ
number_of (Ok (Accepted number)) = Some number
number_of (Ok answer) = None
number_of (Err fault) = None

-- whatever is answered to a call, it's no matter
abbrev pub end_of_call : Result Answer SetFault → Result (Unit {0}) UserFault
end_of_call (Ok answer) = Ok tt
end_of_call (Err fault) = Err (fault_of fault)

-- where an offer was accepted its number is found
abbrev pub AfterOffer : Actor → Result Answer SetFault → Deed
AfterOffer who offered ended before after = MatchOption (number_of offered)
    ((ended ≡ end_of_call offered) × (after ≡ before))
    (λ number. Finds who number ended before after)

-- A BODY is offered, and where it was accepted its number is found
abbrev pub OffersOne : Actor → List ℕ → Deed
OffersOne who body ended before after =
    (offered : Result Answer SetFault) × (between : List Entry)
    × Calls who (Offer body) offered before between × AfterOffer who offered ended between after

-- one body after another
abbrev pub Offers : Actor → List (List ℕ) → Deed
Offers who [] = Nothing
Offers who (body ∷ bodies) = AndThen (OffersOne who body) (Offers who bodies)

abbrev pub TakesOne : Actor → Deed
TakesOne who ended before after =
    (taken : Result Answer SetFault) × Calls who TakeOne taken before after × (ended ≡ end_of_call taken)

abbrev pub Takes : Actor → ℕ → Deed
Takes who zero = Nothing
Takes who (suc n) = AndThen (TakesOne who) (Takes who n)

-- A JOB, as it's seen: to offer these bodies, or to take so often, or to take so often and keep what was taken
pub data Duty : Type 0 where
  offers : List (List ℕ) → Duty
  takes : ℕ → Duty
  collects : ℕ → Duty

abbrev pub duty_of : Job → Duty
duty_of (OfferAll bodies) = offers (map (λ body. body.items) bodies.items)
duty_of (Take times) = takes times
duty_of (Collect times) = collects times

abbrev pub Does : Actor → Duty → Deed
Does who (offers bodies) = Offers who bodies
Does who (takes times) = Takes who times
Does who (collects times) = Takes who times

-- WHAT WAS TAKEN, oldest first
abbrev pub body_in : Answer → List (List ℕ)
body_in (Taken body) = body.items ∷ []
body_in answer = []

abbrev pub bodies_of : Result Answer SetFault → List (List ℕ)
bodies_of (Ok answer) = body_in answer
bodies_of (Err fault) = []

abbrev pub taken_in : List Entry → List (List ℕ)
taken_in [] = []
taken_in (entry ∷ entries) = body_in entry.answer ++ taken_in entries

-- WHAT IS REPORTED of a job: how it ended, and what was kept
abbrev pub ended_by : Result UserReport UserFault → Result (Unit {0}) UserFault
ended_by (Ok report) = Ok tt
ended_by (Err fault) = Err fault

abbrev pub kept_by : UserReport → List (List ℕ)
kept_by report = map (λ body. body.items) report.taken.items

abbrev pub kept_of : Duty → List Entry → List (List ℕ)
kept_of (offers bodies) calls = []
kept_of (takes times) calls = []
kept_of (collects times) calls = taken_in calls

-- A USER DID ITS JOB, by these calls
pub record DoesJob (who : Actor) (duty : Duty) (told : Result UserReport UserFault) (calls : List Entry) : Type 0 where
  pub does : Does who duty (ended_by told) [] calls
  pub kept : IfOk told (λ (report : UserReport). kept_by report ≡ kept_of duty calls)

-- a user that has no job makes no call
abbrev pub no_duty : Duty
no_duty = takes 0

abbrev pub first_or : {X : Type 0} → X → List X → X
first_or none [] = none
first_or none (x ∷ xs) = x

-- THE USERS, from this number on, each did its own job, and nothing else
abbrev pub DidJobs : ℕ → List Duty → List (Result UserReport UserFault) → Books → List Entry → Type 0
DidJobs user jobs [] books history = Unit {0}
DidJobs user jobs (told ∷ more) books history =
    ((calls : List Entry) × AreCalls (User user) books history calls × DoesJob (User user) (first_or no_duty jobs) told calls)
    × DidJobs (suc user) (drop 1 jobs) more books history
