use Rattle.l2_units.specs.Lent.{unit_in}
use Rattle.link_term.proofs.Choices.{own_sent}
use Rattle.link_term.proofs.choosing.send_own.Goals as goal

pub returns-clause-sends : goal.returns-clause-sends
returns-clause-sends g c = λ made. own_sent (unit_in c.args.unit.now) c.args.inside.now c.append.new.self made _ _ _ c.append.ensures.on_line c.append.ensures.next c.sends.ensures
