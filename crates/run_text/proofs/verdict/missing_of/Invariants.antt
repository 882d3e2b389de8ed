use Rattle.std.proofs.Common.{◌≡◌, ◌≤◌, map, take}
use Rattle.run_text.specs.Verdict.{messages_below, of_stream}
use Rattle.run_text.proofs.verdict.missing_of.Given as goal

abbrev pub invariant-loop-body : goal.invariant-loop-body
invariant-loop-body l = (l.came ≤ l.messages) × (of_stream l.stream (map (λ body. body.items) (take l.body-index l.taken)) ≡ messages_below l.stream l.came)
