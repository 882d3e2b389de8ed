use Rattle.set_ledger.proofs.Telling.{set_of}
use Rattle.set_ledger.proofs.held.Held.replays.Goals as goal

pub returns : goal.returns
returns g c = rw (← c.self.view_is) (set_of g.O.Opening.settings c.self.inside.core c.self.invariant.2.is_base c.replays.ensures.legal c.replays.ensures.agrees c.replays.ensures.short)
