use Rattle.std.proofs.Common.{arith, subst, sym, ap, ◌∙◌, ◌<◌, ◌∷◌, length, filter, Option, Some}
use Rattle.set_events.specs.declared.event.Actor.{Actor}
use Rattle.set_ledger.specs.Ending.{is_by}
use Rattle.set_ledger.specs.Places.{IsLeft, IsNot, place_of}
use Rattle.set_ledger.specs.declared.places.Own.{Own}
use Rattle.set_ledger.proofs.Placing.{Hears, at_on, has_at, heard_on, left_at, next_hears, next_there, unheard}
use Rattle.set_ledger.proofs.Searching.{not_both}
use Rattle.set_ledger.proofs.places.hear.Goals as goal

pub returns-in_default-clause-heard : goal.returns-in_default-clause-heard
returns-in_default-clause-heard c heard left =
    let within : c.place_of-place.result < length c.args.places.now = omega (arith, c.place_of-place.ensures.below, c.requires.long) in
    let here = has_at c.args.places.now c.place_of-place.result c.index-places-place.result within c.index-places-place.is in
    let is = c.place_of-place.ensures.value ∙ ap place_of c.who-who.ensures in
    unheard c.args.places.now c.place_of-place.result c.args.entry.now left is c.requires
    (subst (λ (place : Option Own). IsNot c.args.entry.now.who place) (sym here)
    (subst (λ (who : Actor). IsNot who c.index-places-place.result) c.who-who.ensures
    (subst (λ (place : Option Own). IsNot c.who-who.result place) (sym c.index-places-place.is) c.in_default.ensures)))

pub returns-then-not-is_next-clause-other : goal.returns-then-not-is_next-clause-other
returns-then-not-is_next-clause-other c left all =
    let within : c.place_of-place.result < length c.args.places.now = omega (arith, c.place_of-place.ensures.below, c.requires.long) in
    let stands = left_at c.args.places.now c.place_of-place.result c.index-places-place.result (c.args.entry.now ∷ left) within c.index-places-place.is all in
    let is = subst (λ (place : Option Own). IsLeft place (c.args.entry.now ∷ left)) (c.index-places-place.is ∙ c.in-Some.ensures) stands in
    let next = next_there c.who-who.result c.args.entry.now left c.in-Some.receipts c.who-who.ensures is in
    absurd (not_both c.if-not-is_next.true (c.is_next.ensures.other (filter (is_by c.who-who.result) left) next))

pub returns-clause-heard : goal.returns-clause-heard
returns-clause-heard c heard left =
    let within : c.place_of-place.result < length c.args.places.now = omega (arith, c.place_of-place.ensures.below, c.requires.long) in
    let here = has_at c.args.places.now c.place_of-place.result c.index-places-place.result within c.index-places-place.is in
    let is = c.place_of-place.ensures.value ∙ ap place_of c.who-who.ensures in
    let new : Option Own = Some (record { who = c.who-who.result; receipts = c.is_next.new.receipts }) in
    heard_on c.args.places.now c.place_of-place.result c.index-places-place.result new c.args.entry.now left within here is c.requires
    (subst (λ (place : Option Own). Hears place c.args.entry.now new) (sym (c.index-places-place.is ∙ c.in-Some.ensures))
    (next_hears c.who-who.result c.args.entry.now c.in-Some.receipts c.is_next.new.receipts c.who-who.ensures (c.is_next.ensures.next c.if-not-is_next.false)))

pub returns-clause-at : goal.returns-clause-at
returns-clause-at c =
    let within : c.place_of-place.result < length c.args.places.now = omega (arith, c.place_of-place.ensures.below, c.requires.long) in
    at_on c.args.places.now c.place_of-place.result (Some (record { who = c.who-who.result; receipts = c.is_next.new.receipts })) within c.requires (sym c.place_of-place.ensures.value)
