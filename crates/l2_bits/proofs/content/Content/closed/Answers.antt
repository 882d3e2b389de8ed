use Rattle.std.proofs.Common.{sym, ◌∙◌, arith}
use Rattle.std.proofs.lemmas.Bool.{false≢true}
use Rattle.l2_bits.proofs.PackingLemmas.{closed_there, closed_below, closed_six, closed_len, closed_part, closed_sealed}
use Rattle.l2_bits.proofs.content.Content.closed.Goals as goal
use Rattle.l2_bits.proofs.content.Content.closed.Goals.{then-not-has_flag_part-via-then-not-has_flag_part, then-not-has_flag_part-via-else-not-has_flag_part+then-self-lt5, then-not-has_flag_part-via-else-not-has_flag_part+else-self-lt5+then-self-ge-TOO_MANY}

pub returns-then-not-has_flag_part-clause-none : goal.returns-then-not-has_flag_part-clause-none
returns-then-not-has_flag_part-clause-none c = λ content holds octets closed.
    let old = c.args.self.now in
    elim c.then-not-has_flag_part.branch [
      | then-not-has_flag_part-via-then-not-has_flag_part w ↦
          false≢true (sym w.if-not-has_flag_part.true ∙ c.has_flag_part.ensures.1 (closed_six content old holds octets closed, closed_part content old holds octets closed))
      | then-not-has_flag_part-via-else-not-has_flag_part+then-self-lt5 w ↦ omega (arith, closed_len content old holds octets closed, closed.shortest, w.if-self-lt5.true)
      | then-not-has_flag_part-via-else-not-has_flag_part+else-self-lt5+then-self-ge-TOO_MANY w ↦ omega (arith, closed_below content old holds octets closed, w.if-self-ge-TOO_MANY.true)
    ]

pub returns-then-is_sealed-clause-good : goal.returns-then-is_sealed-clause-good
returns-then-is_sealed-clause-good c = λ content holds below.
    let part = c.has_flag_part.ensures.0 c.if-not-has_flag_part.false in
    closed_there content c.args.self.now holds part.0 part.1 (omega arith) below (c.is_sealed.ensures.yes c.if-is_sealed.true)

pub returns-else-is_sealed-clause-none : goal.returns-else-is_sealed-clause-none
returns-else-is_sealed-clause-none c = λ content holds octets closed.
    c.is_sealed.ensures.no c.if-is_sealed.false (closed_sealed content c.args.self.now holds octets closed)
