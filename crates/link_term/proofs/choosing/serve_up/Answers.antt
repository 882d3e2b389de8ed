use Rattle.std.proofs.Common.{refl, ◌≡◌, rules}
use Rattle.l2_units.specs.declared.status.Status.TheVariants.{Busy}
use Rattle.l2_units.specs.Lent.{unit_in}
use Rattle.term_model.specs.Choosing.{serves, sends, sends_status, unless_out}
use Rattle.link_term.proofs.Choices.{as_chosen}
use Rattle.link_term.proofs.choosing.serve_up.Goals as goal

pub returns-then-not-is_up-clause-sends : goal.returns-then-not-is_up-clause-sends
returns-then-not-is_up-clause-sends g c =
    let same : unless_out (serves c.args.paused c.args.inside.now) c.args.inside.now ≡ sends (unit_in c.start_fisu.result) c.args.inside.now = search rules in
    (as_chosen _ _ _ (g.D.Door.made c.args.door.now) _ c.send_own.new.inside _ _ _ same (c.send_own.ensures.sends _), refl)

pub returns-then-is_b_due-clause-sends : goal.returns-then-is_b_due-clause-sends
returns-then-is_b_due-clause-sends g c =
    let same : unless_out (serves c.args.paused c.args.inside.now) c.args.inside.now ≡ sends_status Busy c.drop_b.new.self = search rules in
    (as_chosen _ _ _ (g.D.Door.made c.args.door.now) _ c.send_status-then-is_b_due.new.inside _ _ _ same (c.send_status-then-is_b_due.ensures.sends _), refl)
