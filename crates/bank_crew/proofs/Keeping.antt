-- What a user took is kept.
use Rattle.std.proofs.Common.{◌≡◌, ◌∙◌, ap, sym, subst, List, [], ◌∷◌, ◌++◌, map, ℕ, Result, Ok, Err, OnOk}
use Rattle.std.proofs.lemmas.List.{append_assoc, append-nil}
use Rattle.set_events.specs.declared.answer.Answer.{Answer}
use Rattle.set_events.specs.declared.event.Actor.{Actor}
use Rattle.set_events.specs.declared.event.Event.TheVariants.{Take}
use Rattle.set_events.specs.declared.fault.SetFault.{SetFault}
use Rattle.set_events.specs.declared.history.Entry.{Entry}
use Rattle.bank_crew.specs.declared.fault.UserFault.{UserFault}
use Rattle.bank_crew.specs.Jobs.{Calls, bodies_of, body_in, end_of_call, taken_in}

taken_more : (entries : List Entry) (entry : Entry) → taken_in (entries ++ entry ∷ []) ≡ taken_in entries ++ body_in entry.answer
taken_more [] entry = append-nil (body_in entry.answer)
taken_more (e ∷ entries) entry =
    ap (λ (rest : List (List ℕ)). body_in e.answer ++ rest) (taken_more entries entry)
    ∙ sym (append_assoc (body_in e.answer) (taken_in entries) (body_in entry.answer))

on_ok : (X : Type 0) (ended : Result (Unit {0}) UserFault) → X → OnOk ended X
on_ok X (Ok done) x = x
on_ok X (Err fault) x = tt

-- one answer more is kept, where the call ended well
pub one_kept : {B : Type 0} (of : B → List ℕ) (answered : Result Answer SetFault) (who : Actor) (old new : List Entry) (ended : Result (Unit {0}) UserFault) (xs xs' ys : List B) (bodies : List (List ℕ))
    → Calls who Take answered old new → ended ≡ end_of_call answered → bodies_of answered ≡ bodies → xs' ≡ xs → map of ys ≡ map of xs' ++ bodies → map of xs ≡ taken_in old
    → OnOk ended (map of ys ≡ taken_in new)
one_kept {B} of (Ok answer) who old new ended xs xs' ys bodies calls is some same more was =
    on_ok (map of ys ≡ taken_in new) ended
    (more ∙ ap (λ (zs : List B). map of zs ++ bodies) same ∙ ap (λ (front : List (List ℕ)). front ++ bodies) was ∙ ap (λ (bs : List (List ℕ)). taken_in old ++ bs) (sym some)
    ∙ sym (taken_more old (record { who = who; event = Take; answer = answer })) ∙ ap taken_in (sym calls))
one_kept {B} of (Err fault) who old new ended xs xs' ys bodies calls is some same more was =
    subst (λ (e : Result (Unit {0}) UserFault). OnOk e (map of ys ≡ taken_in new)) (sym is) tt
