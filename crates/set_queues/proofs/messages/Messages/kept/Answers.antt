use Rattle.std.proofs.Common.{arith, ◌≡◌, ◌∙◌, sym, length}
use Rattle.set_queues.specs.Messages.{unfinished}
use Rattle.set_queues.specs.Slots.{given_to}
use Rattle.set_queues.specs.Stored.{seen_in}
use Rattle.set_queues.proofs.Forgetting.{before_all, seen_kept, seen_length}
use Rattle.set_queues.proofs.Tallies.{tally_kept}
use Rattle.set_queues.proofs.messages.Messages.kept.Given.{Over}
use Rattle.set_queues.proofs.messages.Messages.kept.Goals as goal

abbrev Is : (o : Over) (c : goal.After-forget_finished o) → Type 0
Is o c = seen_in 0 c.in_ok-older.older.items c.given-first.result c.in_ok-older.all.items ≡ unfinished (seen_in c.self.inside.period c.self.inside.numbers.older.items c.self.inside.numbers.first c.self.inside.all.items)

number_is : (o : Over) (c : goal.After-forget_finished o) → c.given-first.result ≡ given_to c.self.inside.numbers.older.items c.self.inside.numbers.first (length c.self.inside.all.items)
number_is o c = rw (← c.self.view_is) at c.given-first.ensures.value ∙ seen_length c.self.inside.period c.self.inside.numbers.older.items c.self.inside.numbers.first c.self.inside.all.items

kept_is : (o : Over) (c : goal.After-forget_finished o) → Is o c
kept_is o c =
    let kept = rw c.deref.ensures.value at c.in_ok-older.ensures.kept in
    rw (number_is o c) (seen_kept c.self.inside.period c.self.inside.numbers.older.items c.self.inside.numbers.first c.self.inside.all.items c.in_ok-older.older.items c.in_ok-older.all.items kept)

pub invariant_of-result : goal.invariant_of-result
invariant_of-result o c =
    let kept = rw c.deref.ensures.value at c.in_ok-older.ensures.kept in
    let few = c.self.invariant.0.few in
    let n = number_is o c in
    (record { order = rw n kept.order; many = omega (arith, kept.many); few = omega (arith, n, few, kept.many) }, rw (kept_is o c) (tally_kept _ _ _ c.self.invariant.1 c.forget_finished.ensures), before_all 0 c.in_ok-older.all.items c.in_ok-older.ensures.standing)

pub returns : goal.returns
returns o c = rw (← c.self.view_is) (kept_is o c)
