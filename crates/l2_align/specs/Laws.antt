-- Laws above the table, over all lists of inputs from a new machine.
use Rattle.std.specs.Prelude.{◌≡◌, ◌↔◌, Some, List, [], ◌∷◌, ◌++◌}
use Rattle.l2_align.specs.declared.align.State.{State}
use Rattle.l2_align.specs.declared.signals.AlignIn.{AlignIn}
use Rattle.l2_align.specs.declared.signals.Outcome.{Outcome}
use Rattle.l2_align.specs.declared.signals.Monitor.{Monitor}
use Rattle.l2_align.specs.Alignment.{initial}
use Rattle.l2_align.specs.Runs.{after, told_at, HasProved, StaysProving, aborts_among}

-- Complete is told only at an end of T4 since whose start no abort came
abbrev pub CompletesUnbroken : Type 0
CompletesUnbroken =
    (past : List AlignIn) (input : AlignIn) → (told_at past input).outcome ≡ Some Outcome.Complete →
    (input ≡ AlignIn.T4) × HasProved initial past

-- Aligned was left for proving, and `since` kept the machine there: an abort that counts then gives NotPossible
-- exactly where four have counted before it
abbrev pub FifthAbortEnds : Type 0
FifthAbortEnds =
    (past : List AlignIn) (leaving : AlignIn) (since : List AlignIn) →
    (after initial past).state ≡ State.Aligned →
    StaysProving (after initial (past ++ leaving ∷ [])) since →
    (told_at (past ++ leaving ∷ since) AlignIn.Abort).monitor ≡ Monitor.Off →
    ((told_at (past ++ leaving ∷ since) AlignIn.Abort).outcome ≡ Some Outcome.NotPossible)
    ↔ (aborts_among (after initial (past ++ leaving ∷ [])) since ≡ 4)

-- after each end the machine is as new
abbrev pub NewAfterEnd : Type 0
NewAfterEnd =
    (past : List AlignIn) (input : AlignIn) (outcome : Outcome) →
    (told_at past input).outcome ≡ Some outcome → after initial (past ++ input ∷ []) ≡ initial
