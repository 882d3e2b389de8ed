use Rattle.std.proofs.Common.{arith, refl, ◌≡◌, ◌∙◌, sym, length, Some}
use Rattle.std.proofs.lemmas.Option.{slice_get_read}
use Rattle.set_queues.specs.Slots.{place_within}
use Rattle.set_queues.proofs.Placing.{within_says}
use Rattle.set_queues.proofs.Forgetting.{seen_found, seen_none}
use Rattle.set_queues.proofs.messages.Messages.at.Goals as goal

pub returns-in_err-place : goal.returns-in_err-place
returns-in_err-place o c =
    let n : c.len.result ≡ length c.self.inside.all.items = grind arith in
    let none = seen_none c.self.inside.period c.self.inside.numbers.older.items c.self.inside.numbers.first c.self.inside.all.items c.args.number c.self.invariant.0 (rw n at (sym c.place.ensures) ∙ c.in_err-place.was) in
    rw (c.from_residual.ensures, ← c.self.view_is) (sym none)

pub index-requires : goal.index-requires
index-requires o c =
    let n : c.len.result ≡ length c.self.inside.all.items = grind arith in
    let says = within_says c.args.number c.self.inside.numbers.older.items c.self.inside.numbers.first c.self.inside.all.items c.in_ok-place.place c.self.invariant.0 (rw n at (sym c.place.ensures) ∙ c.in_ok-place.was) in
    grind (arith, says)

pub returns : goal.returns
returns o c =
    let n : c.len.result ≡ length c.self.inside.all.items = grind arith in
    let e : place_within c.args.number c.self.inside.numbers.older.items c.self.inside.numbers.first (length c.self.inside.all.items) ≡ Some c.in_ok-place.place = rw n at (sym c.place.ensures) ∙ c.in_ok-place.was in
    let says = within_says c.args.number c.self.inside.numbers.older.items c.self.inside.numbers.first c.self.inside.all.items c.in_ok-place.place c.self.invariant.0 e in
    let there = slice_get_read c.self.inside.all.items _ c.in_ok-place.place c.index.result.now refl says.1 c.index.ensures in
    rw (← c.self.view_is) (c.shown.ensures ∙ sym (seen_found c.self.inside.period c.self.inside.numbers.older.items c.self.inside.numbers.first c.self.inside.all.items c.args.number c.in_ok-place.place c.index.result.now c.self.invariant.0 e there))
