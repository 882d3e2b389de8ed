use Rattle.std.proofs.Common.{arith}
use Rattle.std.proofs.lemmas.Bool.Decides.{nat_tests}
use Rattle.std.proofs.lemmas.List.Sorted.{searched}
use Rattle.set_queues.proofs.Placing.{rises, search_is}
use Rattle.set_queues.proofs.slots.Numbers.place.Goals as goal

pub returns-then-number-self : goal.returns-then-number-self
returns-then-number-self o c =
    let found = searched c.args.self.now.older.items c.args.number c.binary_search.result (rw c.deref.ensures.value at c.binary_search.ensures.position) (λ i j low h. (rises 0 c.args.self.now.older.items c.args.self.now.first i j c.requires.slots.order low h).1) in
    let is = search_is c.args.number c.args.self.now.older.items c.args.self.now.first c.binary_search.result c.requires.slots.order found in
    grind (arith, nat_tests, is)
