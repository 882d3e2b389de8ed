use Rattle.std.proofs.Common.{◌∙◌}
use Rattle.std.proofs.lemmas.List.{drop_min, take_rest}
use Rattle.script_ladder.proofs.units.back_of.Goals as goal

-- src/units.rt
pub returns : goal.returns
returns c = rw c.min.ensures (take_rest c.args.text.now _ ∙ drop_min c.args.columns c.args.text.now)
