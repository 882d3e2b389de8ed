use Rattle.std.proofs.Common.{take}
use Rattle.terminal_text.specs.Answers.{one_by_one}
use Rattle.terminal_text.specs.Hearing.{Hears}
use Rattle.terminal_text.proofs.hearing.hear_once.Given as goal

-- the bits so far
abbrev pub invariant-loop-bit : goal.invariant-loop-bit
invariant-loop-bit l = Hears l.link (one_by_one (take l.bit-index l.bits)) l.initial.bench l.bench l.initial.hearing l.hearing
