use Rattle.std.proofs.Common.{arith, refl, sym, subst, ◌<◌, ◌≤◌, [], length, Option}
use Rattle.set_ledger.specs.Places.{IsLeft}
use Rattle.set_ledger.specs.declared.places.Own.{Own}
use Rattle.set_ledger.proofs.Placing.{left_at, read_all, read_on}
use Rattle.set_ledger.proofs.Searching.{not_both}
use Rattle.set_ledger.proofs.places.are_read.Goals as goal

pub loop-place-init : goal.loop-place-init
loop-place-init c k below = absurd (omega (arith, below))

pub returns-then-not-is_read : goal.returns-then-not-is_read
returns-then-not-is_read c =
    let within : c.loop-place.place-index < length c.args.places.now = omega (arith, c.loop-place-test.true, c.requires) in (
      (λ wrong. absurd (not_both refl wrong)),
      (λ all. absurd (not_both c.if-not-is_read.true (c.is_read.ensures.1 (subst (λ (place : Option Own). IsLeft place []) c.place-item.is (left_at c.args.places.now c.loop-place.place-index c.place-item.result [] within c.place-item.is all))))),
    )

pub loop-place-preserved : goal.loop-place-preserved
loop-place-preserved c =
    let within : c.loop-place.place-index < length c.args.places.now = omega (arith, c.loop-place-test.true, c.requires) in
    read_on c.args.places.now c.loop-place.place-index c.place-item.result within c.place-item.is (subst (λ (place : Option Own). IsLeft place []) (sym c.place-item.is) (c.is_read.ensures.0 c.if-not-is_read.false)) c.loop-place.invariant

pub returns : goal.returns
returns c =
    let past : length c.args.places.now ≤ c.loop-place.place-index = omega (arith, c.loop-place-test.false, c.requires) in
    ((λ yes. read_all c.args.places.now c.loop-place.place-index past c.loop-place.invariant), (λ all. refl))
