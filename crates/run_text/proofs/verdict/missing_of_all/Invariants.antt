use Rattle.std.proofs.Common.{map}
use Rattle.run_text.specs.Verdict.{AllOfSet}
use Rattle.run_text.proofs.verdict.missing_of_all.Given as goal

abbrev pub invariant-loop-stream : goal.invariant-loop-stream
invariant-loop-stream l = AllOfSet l.stream l.traffic.messages (map (λ body. body.items) l.taken)
