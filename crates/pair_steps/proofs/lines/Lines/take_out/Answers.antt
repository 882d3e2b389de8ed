use Rattle.pair_steps.proofs.LineLemmas.{taken}
use Rattle.pair_steps.proofs.lines.Lines.take_out.Goals as goal

pub returns : goal.returns
returns o c =
    rw (← c.self.view_is)
    (taken c.take_out.result c.self.inside.lines.items c.args.link c.args.place _ c.index_mut.result.now
    c.take_out.new.self (rw c.self.view_is c.requires) c.index_mut.ensures.value c.take_out.ensures)
