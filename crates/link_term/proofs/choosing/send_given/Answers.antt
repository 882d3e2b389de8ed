use Rattle.std.proofs.Common.{refl, ◌∙◌, sym}
use Rattle.l2_units.specs.Lent.{unit_in}
use Rattle.link_term.proofs.Choices.{given_wide, given_narrow}
use Rattle.link_term.proofs.choosing.send_given.Goals as goal

pub returns-then-not-has_narrow_numbers-clause-sends : goal.returns-then-not-has_narrow_numbers-clause-sends
returns-then-not-has_narrow_numbers-clause-sends g c = λ made.
    given_wide (unit_in c.args.unit.now) c.args.inside.now _ _ _ _ (sym c.has_narrow_numbers.ensures.value ∙ c.if-not-has_narrow_numbers.true) refl

pub returns-clause-sends : goal.returns-clause-sends
returns-clause-sends g c = λ made.
    given_narrow (unit_in c.args.unit.now) c.args.inside.now _ _ _ _ _ _ _ (sym c.has_narrow_numbers.ensures.value ∙ c.if-not-has_narrow_numbers.false)
    c.count_sent.ensures.counts (c.send_held.ensures.sends made)
