use Rattle.std.proofs.Common.{◌≡◌, ◌+◌, ◌-◌, ◌++◌, [], ◌∷◌, arith}
use Rattle.l2_bits.proofs.FlagLemmas.{ones_there, ones_not_there}
use Rattle.l2_bits.proofs.DeframingLemmas.{no_unit, counted_more, begins_seven, begins_long, calm_on, calm_mark, waits_mark}
use Rattle.l2_bits.proofs.deframing.wait.Goals as goal
use Rattle.l2_bits.proofs.deframing.wait.Goals.{else-room-gt1-via-then-room-gt1+else-last-ne-SEVEN_ONES, else-room-gt1-via-else-room-gt1}

pub returns-then-counting-clause-stands : goal.returns-then-counting-clause-stands
returns-then-counting-clause-stands c = λ past since bit ends goes keeps.
    rw c.if-counting.true (counted_more past since (since ++ bit ∷ []) bit c.args.room.now c.count.new.room c.count.result (rw c.if-counting.true at keeps) (no_unit past since bit goes) c.count.ensures.more c.count.ensures.whole).0

pub returns-then-counting-clause-mark : goal.returns-then-counting-clause-mark
returns-then-counting-clause-mark c = λ past since bit octets goes keeps.
    (counted_more past since (since ++ bit ∷ []) bit c.args.room.now c.count.new.room c.count.result (rw c.if-counting.true at keeps) (no_unit past since bit goes) c.count.ensures.more c.count.ensures.whole).1 octets

pub returns-then-last-ne-SEVEN_ONES-clause-stands : goal.returns-then-last-ne-SEVEN_ONES-clause-stands
returns-then-last-ne-SEVEN_ONES-clause-stands c = λ past since bit ends goes keeps.
    let split : c.args.room.now ≡ c.args.room.now - 1 + 1 = omega arith in
    calm_on past since bit c.args.counting.now (c.args.room.now - 1) goes
    (ones_not_there (past ++ bit ∷ []) c.args.last ends (omega arith) c.if-last-ne-SEVEN_ONES.true) (rw split at keeps) (omega arith)

pub returns-then-last-ne-SEVEN_ONES-clause-mark : goal.returns-then-last-ne-SEVEN_ONES-clause-mark
returns-then-last-ne-SEVEN_ONES-clause-mark c = λ past since bit octets goes keeps.
    let split : c.args.room.now ≡ c.args.room.now - 1 + 1 = omega arith in
    calm_mark past since bit c.args.counting.now (c.args.room.now - 1) goes (rw split at keeps) (omega arith)

pub returns-clause-stands : goal.returns-clause-stands
returns-clause-stands c = λ past since bit ends goes keeps.
    elim c.else-room-gt1.branch [
      | else-room-gt1-via-then-room-gt1+else-last-ne-SEVEN_ONES w ↦
          begins_seven past since bit goes c.args.room.now (rw c.if-counting.false at keeps) (ones_there (past ++ bit ∷ []) c.args.last ends w.if-last-ne-SEVEN_ONES.false)
      | else-room-gt1-via-else-room-gt1 w ↦
          begins_long past since bit goes c.args.room.now (rw c.if-counting.false at keeps) w.if-room-gt1.false
    ]

pub returns-clause-mark : goal.returns-clause-mark
returns-clause-mark c = λ past since bit octets goes keeps.
    waits_mark past since bit goes c.args.room.now (rw c.if-counting.false at keeps)
