use Rattle.std.proofs.Common.{arith}
use Rattle.set_ledger.proofs.held.with_seats.Goals as goal

-- from nothing all totals are 0
pub invariant_of-result : goal.invariant_of-result
invariant_of-result g c = (
  rw (c.open-call_book.ensures.total, c.open-message_book.ensures.total, c.open-octet_book.ensures.total, c.open-acked_book.ensures.total) c.requires.new,
  c.requires.parts,
  rw c.open-checkpoint_book.ensures.total c.requires.opening,
  (λ some. absurd (let none = c.open-full_book.ensures.total in omega (arith, none, some))),
)
