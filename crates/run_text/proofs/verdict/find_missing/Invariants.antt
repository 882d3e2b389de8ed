use Rattle.std.proofs.Common.{◌≡◌, drop, Option}
use Rattle.run_text.specs.declared.verdict.Missing.{Missing}
use Rattle.run_text.specs.Verdict.{IsVerdict}
use Rattle.run_text.proofs.verdict.find_missing.Given as goal

-- what is left completes it
abbrev pub invariant-loop-end : goal.invariant-loop-end
invariant-loop-end l = (l.set ≡ l.end-index) × ((verdict : Option Missing) → IsVerdict l.traffic.users l.traffic.messages l.set (drop l.end-index l.far) verdict
    → IsVerdict l.traffic.users l.traffic.messages 0 l.far verdict)
