use Rattle.std.proofs.Common.{◌≡◌}
use Rattle.terminal_text.specs.Moving.{places_to}
use Rattle.terminal_text.proofs.moving.Places.of.Given as goal

-- the streams so far
abbrev pub invariant-loop-stream : goal.invariant-loop-stream
invariant-loop-stream l = l.numbers.items ≡ places_to l.stream l.set.state
