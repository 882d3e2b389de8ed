use Rattle.std.proofs.Common.{◌≡◌, drop}
use Rattle.terminal_text.specs.Stopping.{ask_stop}
use Rattle.terminal_text.proofs.stopping.ask_stop.Given as goal

-- none so far
abbrev pub invariant-loop-deed : goal.invariant-loop-deed
invariant-loop-deed l = ask_stop (drop l.deed-index l.deeds) ≡ ask_stop l.deeds
