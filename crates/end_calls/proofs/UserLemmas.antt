-- From what a set answers to a user to what the call tells.
use Rattle.std.proofs.Common.{◌≡◌, sym, refl, subst, ℕ, true, false, List, Result}
use Rattle.end_calls.specs.Calls.{Asks, Finds, Offers, Takes, TellsTaken, answers_find, answers_offer, told_of_find, told_of_offer}
use Rattle.end_calls.specs.declared.fault.CallFault.{CallFault}
use Rattle.end_calls.specs.declared.users.FoundValues.{FoundValues}
use Rattle.set_events.specs.declared.answer.Answer.{Answer}
use Rattle.set_events.specs.declared.event.Event.{Event}
use Rattle.term_managed.specs.Ends.{ManagedState}

no_answer : {X : Type 0} → false ≡ true → X
no_answer is = absurd (cc is)

of_offer : (user : ℕ) (message : List ℕ) (old new : ManagedState) (answer : Answer) → answers_offer answer ≡ true
    → Asks user (Event.Offer message) answer old new → Offers user message old (told_of_offer answer) new
of_offer user message old new (Answer.Accepted number) is asks = asks
of_offer user message old new (Answer.Refused why) is asks = asks
of_offer user message old new (Answer.Taken body) is asks = no_answer is
of_offer user message old new (Answer.Found fate) is asks = no_answer is
of_offer user message old new (Answer.Sent unit) is asks = no_answer is
of_offer user message old new (Answer.Heard report) is asks = no_answer is
of_offer user message old new Answer.Done is asks = no_answer is

pub offers_told : (user : ℕ) (message body : List ℕ) (old new : ManagedState) (answer : Answer) (told : Result ℕ CallFault)
    → answers_offer answer ≡ true → body ≡ message → Asks user (Event.Offer body) answer old new → told ≡ told_of_offer answer
    → Offers user message old told new
offers_told user message body old new answer told is same asks tells =
    subst (λ (r : Result ℕ CallFault). Offers user message old r new) (sym tells)
    (of_offer user message old new answer is (subst (λ (b : List ℕ). Asks user (Event.Offer b) answer old new) same asks))

of_find : (user number : ℕ) (old new : ManagedState) (answer : Answer) → answers_find answer ≡ true
    → Asks user (Event.Find number) answer old new → Finds user number old (told_of_find answer) new
of_find user number old new (Answer.Found fate) is asks = (fate, asks, refl)
of_find user number old new (Answer.Refused why) is asks = asks
of_find user number old new (Answer.Accepted given) is asks = no_answer is
of_find user number old new (Answer.Taken body) is asks = no_answer is
of_find user number old new (Answer.Sent unit) is asks = no_answer is
of_find user number old new (Answer.Heard report) is asks = no_answer is
of_find user number old new Answer.Done is asks = no_answer is

pub finds_told : (user number : ℕ) (old new : ManagedState) (answer : Answer) (told : Result FoundValues CallFault)
    → answers_find answer ≡ true → Asks user (Event.Find number) answer old new → told ≡ told_of_find answer
    → Finds user number old told new
finds_told user number old new answer told is asks tells =
    subst (λ (r : Result FoundValues CallFault). Finds user number old r new) (sym tells) (of_find user number old new answer is asks)

pub takes_told : (user : ℕ) (room room' : List ℕ) (old new : ManagedState) (answer : Answer) (told : Result ℕ CallFault)
    → Asks user Event.Take answer old new → TellsTaken answer room told room' → Takes user room old told room' new
takes_told user room room' old new (Answer.Taken body) told asks tells =
    subst (λ (r : Result ℕ CallFault). Takes user room old r room' new) (sym tells.0) (body.items, asks, refl, tells.1)
takes_told user room room' old new (Answer.Refused why) told asks tells =
    subst (λ (r : Result ℕ CallFault). Takes user room old r room' new) (sym tells.0) (asks, tells.1)
takes_told user room room' old new (Answer.Accepted number) told asks tells = absurd tells
takes_told user room room' old new (Answer.Found fate) told asks tells = absurd tells
takes_told user room room' old new (Answer.Sent unit) told asks tells = absurd tells
takes_told user room room' old new (Answer.Heard report) told asks tells = absurd tells
takes_told user room room' old new Answer.Done told asks tells = absurd tells
