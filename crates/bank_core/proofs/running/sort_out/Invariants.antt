use Rattle.std.proofs.Common.{◌≡◌, ◌+◌, ◌≤◌, length}
use Rattle.std.specs.Vec.{vec_len, vec_capacity}
use Rattle.std.specs.Vec.Iter.{into_iter_items, into_iter_len}
use Rattle.bank_core.specs.Ends.{outcome}
use Rattle.bank_core.proofs.Ending.{put_before}
use Rattle.bank_core.proofs.running.sort_out.Given as goal

abbrev pub invariant-loop-answer : goal.invariant-loop-answer
invariant-loop-answer l = (outcome l.fn.answers.items ≡ put_before l.ends.items (outcome (into_iter_items l.answers)))
    × (into_iter_len l.answers ≡ length (into_iter_items l.answers))
    × (vec_len l.ends + into_iter_len l.answers ≡ length l.fn.answers.items)
    × (length l.fn.answers.items ≤ vec_capacity l.ends)

abbrev pub decreases-loop-answer : goal.decreases-loop-answer
decreases-loop-answer l = into_iter_len l.answers
