use Rattle.std.proofs.Common.{refl, true, false}
use Rattle.set_ledger.proofs.Closing.{complete_as, faithful_as}
use Rattle.set_ledger.proofs.Searching.{not_both}
use Rattle.set_ledger.proofs.ending.Held+O.end.Goals as goal

pub returns-then-not-has_all_seats-clause-back : goal.returns-then-not-has_all_seats-clause-back
returns-then-not-has_all_seats-clause-back g c = rw (complete_as c.args.self.users c.args.self.links c.args.users.items c.deref.result.now c.args.terminals.items c.deref-2.result.now c.has_all_seats.result false c.has_all_seats.ensures c.deref.ensures.value c.deref-2.ensures.value c.if-not-has_all_seats.true) refl

pub returns-then-not-has_all_seats-clause-strange : goal.returns-then-not-has_all_seats-clause-strange
returns-then-not-has_all_seats-clause-strange g c = (λ complete. absurd (not_both (complete_as c.args.self.users c.args.self.links c.args.users.items c.deref.result.now c.args.terminals.items c.deref-2.result.now c.has_all_seats.result false c.has_all_seats.ensures c.deref.ensures.value c.deref-2.ensures.value c.if-not-has_all_seats.true) complete))

pub returns-then-not-are_faithful-clause-back : goal.returns-then-not-are_faithful-clause-back
returns-then-not-are_faithful-clause-back g c = rw (complete_as c.args.self.users c.args.self.links c.args.users.items c.deref.result.now c.args.terminals.items c.deref-2.result.now c.has_all_seats.result true c.has_all_seats.ensures c.deref.ensures.value c.deref-2.ensures.value c.if-not-has_all_seats.false) refl

pub returns-then-not-are_faithful-clause-strange : goal.returns-then-not-are_faithful-clause-strange
returns-then-not-are_faithful-clause-strange g c = (λ complete faithful. not_both c.if-not-are_faithful.true ((faithful_as c.args.self.set.base.books c.args.self.set.history c.args.users.items c.deref-3.result.now c.args.terminals.items c.deref-4.result.now c.are_faithful.result c.are_faithful.ensures c.deref-3.ensures.value c.deref-4.ensures.value).1 faithful))

pub closed-requires-clause-complete : goal.closed-requires-clause-complete
closed-requires-clause-complete g c = complete_as c.args.self.users c.args.self.links c.args.users.items c.deref.result.now c.args.terminals.items c.deref-2.result.now c.has_all_seats.result true c.has_all_seats.ensures c.deref.ensures.value c.deref-2.ensures.value c.if-not-has_all_seats.false

pub closed-requires-clause-faithful : goal.closed-requires-clause-faithful
closed-requires-clause-faithful g c = (faithful_as c.args.self.set.base.books c.args.self.set.history c.args.users.items c.deref-3.result.now c.args.terminals.items c.deref-4.result.now c.are_faithful.result c.are_faithful.ensures c.deref-3.ensures.value c.deref-4.ensures.value).0 c.if-not-are_faithful.false

pub returns-clause-complete : goal.returns-clause-complete
returns-clause-complete g c = complete_as c.args.self.users c.args.self.links c.args.users.items c.deref.result.now c.args.terminals.items c.deref-2.result.now c.has_all_seats.result true c.has_all_seats.ensures c.deref.ensures.value c.deref-2.ensures.value c.if-not-has_all_seats.false

pub returns-clause-closed : goal.returns-clause-closed
returns-clause-closed g c = c.closed.ensures.closed
