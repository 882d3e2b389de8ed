use Rattle.std.proofs.Common.{◌≡◌}
use Rattle.terminal_text.specs.Moving.{moves_to}
use Rattle.terminal_text.proofs.moving.Places.write_moves.Given as goal

-- the streams so far
abbrev pub invariant-loop-stream : goal.invariant-loop-stream
invariant-loop-stream l = l.text.items ≡ moves_to l.turn l.self l.stream l.set.state
