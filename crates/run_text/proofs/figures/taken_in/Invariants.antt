use Rattle.std.proofs.Common.{◌≡◌, ◌+◌, ◌<◌, ◌^◌, drop}
use Rattle.run_text.specs.Figures.{capped, taken_in}
use Rattle.run_text.proofs.figures.taken_in.Given as goal

abbrev pub invariant-loop-user : goal.invariant-loop-user
invariant-loop-user l = (capped (taken_in l.users) ≡ capped (l.sum + taken_in (drop l.user-index l.users))) × (l.sum < 2 ^ 64)
