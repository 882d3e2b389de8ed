use Rattle.std.proofs.Common.{◌≡◌, All, map, take}
use Rattle.bank_core.specs.Totals.{IsInRange}
use Rattle.run_text.specs.RunText.{end_totals}
use Rattle.run_text.proofs.summing.totals_of_ends.Given as goal

abbrev pub invariant-loop-end : goal.invariant-loop-end
invariant-loop-end l = (l.totals.items ≡ map end_totals (take l.end-index l.ends)) × All IsInRange l.totals.items
