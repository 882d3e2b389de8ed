use Rattle.std.proofs.Common.{refl, ◌∙◌, sym}
use Rattle.pair_world.proofs.WorldLemmas.{arrives_so}
use Rattle.pair_world.proofs.world.World.arrive.Goals as goal

pub returns-then-not-is_link_up-clause-carried : goal.returns-then-not-is_link_up-clause-carried
returns-then-not-is_link_up-clause-carried o c =
    arrives_so _ c.take_out.new.self _ _ c.in-Some.under_way
    (sym c.holds_link.ensures.value ∙ c.if-not-holds_link.false) c.in-Some.ensures
    ∙ rw (sym c.is_link_up.ensures ∙ c.if-not-is_link_up.true, c.set_lost.ensures) refl

pub returns-clause-carried : goal.returns-clause-carried
returns-clause-carried o c =
    rw (arrives_so _ c.take_out.new.self _ _ c.in-Some.under_way
    (sym c.holds_link.ensures.value ∙ c.if-not-holds_link.false) c.in-Some.ensures)
    (rw (sym c.is_link_up.ensures ∙ c.if-not-is_link_up.false, sym c.unit_ref.ensures.value) c.act.ensures.acts)
