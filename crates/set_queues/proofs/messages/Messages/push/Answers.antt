use Rattle.std.proofs.Common.{◌∷◌, [], length}
use Rattle.std.proofs.lemmas.List.{length-append}
use Rattle.set_queues.proofs.Placing.{one_more}
use Rattle.set_queues.proofs.Forgetting.{before_push, seen_few, seen_push}
use Rattle.set_queues.proofs.Tallies.{few, tally_push}
use Rattle.set_queues.proofs.messages.Messages.push.Goals as goal

pub enter-requires-clause-few : goal.enter-requires-clause-few
enter-requires-clause-few o c = few _ _ c.self.invariant.1 (seen_few c.self.inside.period c.self.inside.numbers.older.items c.self.inside.numbers.first c.self.inside.all.items c.self.invariant.0)

pub invariant_of-self : goal.invariant_of-self
invariant_of-self o c =
    let left = rw (← c.self.view_is) at c.requires.room in
    let more = one_more c.self.inside.numbers.older.items c.self.inside.numbers.first (length c.self.inside.all.items) _ c.self.invariant.0 left in
    let push = seen_push c.self.inside.period c.self.inside.numbers.older.items c.self.inside.numbers.first c.self.inside.all.items c.args.message c.self.invariant.0 in
    rw c.push_reserved.ensures.items (
      rw (length-append c.self.inside.all.items (record { message = c.args.message; period = c.self.inside.period } ∷ [])) more,
      rw push (tally_push _ _ _ c.args.message c.self.invariant.1 c.requires.fit c.enter.ensures),
      before_push c.self.inside.period c.self.inside.all.items c.args.message c.self.invariant.2,
    )

pub returns-clause-items : goal.returns-clause-items
returns-clause-items o c =
    let push = seen_push c.self.inside.period c.self.inside.numbers.older.items c.self.inside.numbers.first c.self.inside.all.items c.args.message c.self.invariant.0 in
    rw (c.push_reserved.ensures.items, ← c.self.view_is) push
