use Rattle.std.proofs.lemmas.List.{take_min}
use Rattle.text_forms.proofs.showing.cut.Goals as goal

pub returns : goal.returns
returns c = rw c.min.ensures (take_min 96 c.args.text.now)
