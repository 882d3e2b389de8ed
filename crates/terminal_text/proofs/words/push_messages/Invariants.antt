use Rattle.std.proofs.Common.{◌≡◌, ◌++◌}
use Rattle.terminal_text.specs.Showing.{message_line, over}
use Rattle.terminal_text.proofs.words.push_messages.Given as goal

-- a line for each message so far
abbrev pub invariant-loop : goal.invariant-loop
invariant-loop l = l.out.items ≡ l.initial.out.items ++ over l.counter (message_line l.link l.turn.number)
