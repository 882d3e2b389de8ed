-- What a set answers to users' events.
use Rattle.std.proofs.Common.{◌≡◌, ◌∙◌, ap, refl, ℕ, true, List, Option, Some, None, [], ◌∷◌}
use Rattle.set_events.specs.declared.answer.Answer.{Answer}
use Rattle.set_events.specs.declared.event.Actor.{Actor}
use Rattle.set_events.specs.declared.event.Event.{Event}
use Rattle.set_model.specs.History.{LinkSet, IsStep}
use Rattle.set_model.specs.Rows.{Fate, place}
use Rattle.set_model.specs.State.{State}
use Rattle.set_model.specs.Step.{SetRefusal, found, offer_refusal, offered, step, taken}
use Rattle.end_calls.specs.Calls.{answers_find, answers_offer, answers_take}

of_offer : (why : Option SetRefusal) (s : State) (body : List ℕ) → answers_offer (offered why s body).answer ≡ true
of_offer None s body = refl
of_offer (Some why) s body = refl

of_take : (inbox : List (List ℕ)) (s : State) → answers_take (taken inbox s).answer ≡ true
of_take [] s = refl
of_take (body ∷ rest) s = refl

of_find : (fate : Option Fate) (number : ℕ) (s : State) → answers_find (found fate number s).answer ≡ true
of_find None number s = refl
of_find (Some fate) number s = refl

offers : (s : State) (body : List ℕ) → answers_offer (step s (Event.Offer body)).answer ≡ true
unfolding step
offers s body = of_offer (offer_refusal s.settings.profile s.rows body) s body

takes : (s : State) → answers_take (step s Event.Take).answer ≡ true
unfolding step
takes s = of_take s.inbox s

finds : (s : State) (number : ℕ) → answers_find (step s (Event.Find number)).answer ≡ true
unfolding step
finds s number = of_find (place number s.rows) number s

pub offer_answered : (old : LinkSet) (who : Actor) (body : List ℕ) (answer : Answer) (new : LinkSet)
    → IsStep old who (Event.Offer body) answer new → answers_offer answer ≡ true
offer_answered old who body answer new is = ap answers_offer is.answer_is ∙ offers old.state body

pub take_answered : (old : LinkSet) (who : Actor) (answer : Answer) (new : LinkSet) → IsStep old who Event.Take answer new
    → answers_take answer ≡ true
take_answered old who answer new is = ap answers_take is.answer_is ∙ takes old.state

pub find_answered : (old : LinkSet) (who : Actor) (number : ℕ) (answer : Answer) (new : LinkSet)
    → IsStep old who (Event.Find number) answer new → answers_find answer ≡ true
find_answered old who number answer new is = ap answers_find is.answer_is ∙ finds old.state number
