use Rattle.std.proofs.lemmas.List.{take_min}
use Rattle.script_ladder.proofs.fitting.front_of.Goals as goal

-- src/fitting.rt
pub returns : goal.returns
returns c = rw c.min.ensures (take_min c.args.columns c.args.text.now)
