use Rattle.l2_basic.proofs.Runs as runs
use Rattle.l2_basic.proofs.law.one_link.Goals as goal

pub returns : goal.returns
returns c = runs.one_link
