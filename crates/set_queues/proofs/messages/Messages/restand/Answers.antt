use Rattle.std.proofs.Common.{arith, refl, ◌≡◌, ◌∙◌, sym, length, Some}
use Rattle.std.proofs.lemmas.List.{length-set}
use Rattle.std.proofs.lemmas.Option.{slice_get_read}
use Rattle.set_queues.specs.Messages.{with_fate}
use Rattle.set_queues.specs.Slots.{place_within}
use Rattle.set_queues.proofs.Placing.{within_says}
use Rattle.set_queues.proofs.Forgetting.{before_set, seen_few, seen_found, seen_none, seen_still, seen_stood}
use Rattle.set_queues.proofs.Tallies.{tally_in, few_left, tally_stood}
use Rattle.set_queues.proofs.messages.Messages.restand.Goals as goal

pub returns-in_default-clause-items : goal.returns-in_default-clause-items
returns-in_default-clause-items o c =
    let n : c.len.result ≡ length c.self.inside.all.items = grind arith in
    let none = seen_none c.self.inside.period c.self.inside.numbers.older.items c.self.inside.numbers.first c.self.inside.all.items c.args.number c.self.invariant.0 (rw n at (sym c.place.ensures) ∙ c.in_default.is) in
    rw (← c.self.view_is) (seen_still c.self.inside.period c.self.inside.numbers.older.items c.self.inside.numbers.first c.self.inside.all.items c.args.number c.args.fate none)

pub index-requires : goal.index-requires
index-requires o c =
    let n : c.len.result ≡ length c.self.inside.all.items = grind arith in
    let e : place_within c.args.number c.self.inside.numbers.older.items c.self.inside.numbers.first (length c.self.inside.all.items) ≡ Some c.in-Some.place = rw n at (sym c.place.ensures) ∙ c.in-Some.is in
    let says = within_says c.args.number c.self.inside.numbers.older.items c.self.inside.numbers.first c.self.inside.all.items c.in-Some.place c.self.invariant.0 e in
    grind (arith, says)

pub returns-in_default-shown-clause-items : goal.returns-in_default-shown-clause-items
returns-in_default-shown-clause-items o c =
    let n : c.len.result ≡ length c.self.inside.all.items = grind arith in
    let e : place_within c.args.number c.self.inside.numbers.older.items c.self.inside.numbers.first (length c.self.inside.all.items) ≡ Some c.in-Some.place = rw n at (sym c.place.ensures) ∙ c.in-Some.is in
    let says = within_says c.args.number c.self.inside.numbers.older.items c.self.inside.numbers.first c.self.inside.all.items c.in-Some.place c.self.invariant.0 e in
    let there = slice_get_read c.self.inside.all.items _ c.in-Some.place c.index.result.now refl says.1 c.index.ensures in
    let seen = sym c.shown.ensures ∙ c.in_default-shown.is in
    let none = seen_found c.self.inside.period c.self.inside.numbers.older.items c.self.inside.numbers.first c.self.inside.all.items c.args.number c.in-Some.place c.index.result.now c.self.invariant.0 e there ∙ seen in
    rw (← c.self.view_is) (seen_still c.self.inside.period c.self.inside.numbers.older.items c.self.inside.numbers.first c.self.inside.all.items c.args.number c.args.fate none)

pub leave-requires-clause-among : goal.leave-requires-clause-among
leave-requires-clause-among o c =
    let n : c.len.result ≡ length c.self.inside.all.items = grind arith in
    let e : place_within c.args.number c.self.inside.numbers.older.items c.self.inside.numbers.first (length c.self.inside.all.items) ≡ Some c.in-Some.place = rw n at (sym c.place.ensures) ∙ c.in-Some.is in
    let says = within_says c.args.number c.self.inside.numbers.older.items c.self.inside.numbers.first c.self.inside.all.items c.in-Some.place c.self.invariant.0 e in
    let there = slice_get_read c.self.inside.all.items _ c.in-Some.place c.index.result.now refl says.1 c.index.ensures in
    let seen = sym c.shown.ensures ∙ c.in-Some-shown.is in
    let at = seen_found c.self.inside.period c.self.inside.numbers.older.items c.self.inside.numbers.first c.self.inside.all.items c.args.number c.in-Some.place c.index.result.now c.self.invariant.0 e there ∙ seen in
    tally_in _ _ c.args.number c.in-Some-shown.was c.self.invariant.1 at

pub leave-requires-clause-known : goal.leave-requires-clause-known
leave-requires-clause-known o c =
    let n : c.len.result ≡ length c.self.inside.all.items = grind arith in
    let e : place_within c.args.number c.self.inside.numbers.older.items c.self.inside.numbers.first (length c.self.inside.all.items) ≡ Some c.in-Some.place = rw n at (sym c.place.ensures) ∙ c.in-Some.is in
    let says = within_says c.args.number c.self.inside.numbers.older.items c.self.inside.numbers.first c.self.inside.all.items c.in-Some.place c.self.invariant.0 e in
    let there = slice_get_read c.self.inside.all.items _ c.in-Some.place c.index.result.now refl says.1 c.index.ensures in
    let seen = sym c.shown.ensures ∙ c.in-Some-shown.is in
    let at = seen_found c.self.inside.period c.self.inside.numbers.older.items c.self.inside.numbers.first c.self.inside.all.items c.args.number c.in-Some.place c.index.result.now c.self.invariant.0 e there ∙ seen in
    (c.self.invariant.1.fit c.args.number c.in-Some-shown.was at).known

pub enter-requires-clause-few : goal.enter-requires-clause-few
enter-requires-clause-few o c =
    few_left _ _ _ c.in-Some-shown.was c.self.invariant.1 (seen_few c.self.inside.period c.self.inside.numbers.older.items c.self.inside.numbers.first c.self.inside.all.items c.self.invariant.0) c.leave.ensures

pub enter-requires-clause-known : goal.enter-requires-clause-known
enter-requires-clause-known o c =
    let n : c.len.result ≡ length c.self.inside.all.items = grind arith in
    let e : place_within c.args.number c.self.inside.numbers.older.items c.self.inside.numbers.first (length c.self.inside.all.items) ≡ Some c.in-Some.place = rw n at (sym c.place.ensures) ∙ c.in-Some.is in
    let says = within_says c.args.number c.self.inside.numbers.older.items c.self.inside.numbers.first c.self.inside.all.items c.in-Some.place c.self.invariant.0 e in
    let there = slice_get_read c.self.inside.all.items _ c.in-Some.place c.index.result.now refl says.1 c.index.ensures in
    let seen = sym c.shown.ensures ∙ c.in-Some-shown.is in
    let at = seen_found c.self.inside.period c.self.inside.numbers.older.items c.self.inside.numbers.first c.self.inside.all.items c.args.number c.in-Some.place c.index.result.now c.self.invariant.0 e there ∙ seen in
    (c.self.invariant.1.fit c.args.number c.in-Some-shown.was at).known

pub index_mut-requires : goal.index_mut-requires
index_mut-requires o c =
    let n : c.len.result ≡ length c.self.inside.all.items = grind arith in
    let e : place_within c.args.number c.self.inside.numbers.older.items c.self.inside.numbers.first (length c.self.inside.all.items) ≡ Some c.in-Some.place = rw n at (sym c.place.ensures) ∙ c.in-Some.is in
    let says = within_says c.args.number c.self.inside.numbers.older.items c.self.inside.numbers.first c.self.inside.all.items c.in-Some.place c.self.invariant.0 e in
    grind (arith, says)

pub invariant_of-self : goal.invariant_of-self
invariant_of-self o c =
    let n : c.len.result ≡ length c.self.inside.all.items = grind arith in
    let e : place_within c.args.number c.self.inside.numbers.older.items c.self.inside.numbers.first (length c.self.inside.all.items) ≡ Some c.in-Some.place = rw n at (sym c.place.ensures) ∙ c.in-Some.is in
    let says = within_says c.args.number c.self.inside.numbers.older.items c.self.inside.numbers.first c.self.inside.all.items c.in-Some.place c.self.invariant.0 e in
    let there = slice_get_read c.self.inside.all.items _ c.in-Some.place c.index.result.now refl says.1 c.index.ensures in
    let seen = sym c.shown.ensures ∙ c.in-Some-shown.is in
    let at = seen_found c.self.inside.period c.self.inside.numbers.older.items c.self.inside.numbers.first c.self.inside.all.items c.args.number c.in-Some.place c.index.result.now c.self.invariant.0 e there ∙ seen in
    let put = seen_stood c.self.inside.period c.self.inside.numbers.older.items c.self.inside.numbers.first c.self.inside.all.items c.args.number c.in-Some.place c.index.result.now c.in-Some-shown.was c.args.fate c.self.invariant.0 e there seen in (
      rw (length-set c.self.inside.all.items c.in-Some.place (record { message = with_fate c.args.fate c.in-Some-shown.was; period = c.self.inside.period })) c.self.invariant.0,
      rw put (tally_stood _ _ _ _ c.args.number c.in-Some-shown.was c.args.fate c.self.invariant.1 at c.leave.ensures c.enter.ensures),
      before_set c.self.inside.period c.self.inside.all.items c.in-Some.place (with_fate c.args.fate c.in-Some-shown.was) says.1 c.self.invariant.2,
    )

pub returns-clause-items : goal.returns-clause-items
returns-clause-items o c =
    let n : c.len.result ≡ length c.self.inside.all.items = grind arith in
    let e : place_within c.args.number c.self.inside.numbers.older.items c.self.inside.numbers.first (length c.self.inside.all.items) ≡ Some c.in-Some.place = rw n at (sym c.place.ensures) ∙ c.in-Some.is in
    let says = within_says c.args.number c.self.inside.numbers.older.items c.self.inside.numbers.first c.self.inside.all.items c.in-Some.place c.self.invariant.0 e in
    let there = slice_get_read c.self.inside.all.items _ c.in-Some.place c.index.result.now refl says.1 c.index.ensures in
    let seen = sym c.shown.ensures ∙ c.in-Some-shown.is in
    let at = seen_found c.self.inside.period c.self.inside.numbers.older.items c.self.inside.numbers.first c.self.inside.all.items c.args.number c.in-Some.place c.index.result.now c.self.invariant.0 e there ∙ seen in
    rw (← c.self.view_is) (seen_stood c.self.inside.period c.self.inside.numbers.older.items c.self.inside.numbers.first c.self.inside.all.items c.args.number c.in-Some.place c.index.result.now c.in-Some-shown.was c.args.fate c.self.invariant.0 e there seen)
