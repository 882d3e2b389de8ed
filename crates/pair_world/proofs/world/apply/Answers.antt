use Rattle.set_events.specs.Lent.{event_in}
use Rattle.pair_world.proofs.WorldLemmas.{kept_by}
use Rattle.pair_world.proofs.world.apply.Goals as goal

pub returns-clause-links : goal.returns-clause-links
returns-clause-links o c = kept_by c.apply_into.result _ _ c.args.who (event_in c.args.event.now) c.apply_into.new.reply
    c.apply_into.ensures.ok c.apply_into.ensures.err
