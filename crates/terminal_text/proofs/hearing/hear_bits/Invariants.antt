use Rattle.terminal_text.specs.Answers.{one_by_one}
use Rattle.terminal_text.specs.Hearing.{Hears}
use Rattle.terminal_text.specs.Showing.{over}
use Rattle.terminal_text.proofs.hearing.hear_bits.Given as goal

-- as often as it was so far
abbrev pub invariant-loop : goal.invariant-loop
invariant-loop l = Hears l.link (one_by_one (over l.counter l.bits)) l.initial.bench l.bench l.initial.hearing l.hearing
