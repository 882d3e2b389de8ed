use Rattle.std.proofs.Common.{ap, ◌∙◌, [], ◌∷◌, ◌++◌}
use Rattle.link_term.specs.Talking.{at_door}
use Rattle.link_term.proofs.Feeding.{hears_one, breaks_later, breaks_now, same_gains, same_breaks}
use Rattle.link_term.proofs.octets.+hear_bits.Goals as goal

pub returns-in-Err-clause-hears : goal.returns-in-Err-clause-hears
returns-in-Err-clause-hears g t c = λ past stands.
    let feeds = c.in-Some.ensures.marks past stands in
    let broke = c.in-Err.ensures.talks in (
      breaks_now past _ _ _ _ _ (at_door g.D.Door c.args.inside.now c.args.door.now) feeds _
          (same_breaks c.in-Some.kind _ _ c.args.inside.now _ _ c.unit.ensures broke.0)
          (c.drain.ensures (past ++ feeds.taken) feeds.stands),
      broke.1,
    )

pub returns-in-Ok-hear_bits-clause-hears : goal.returns-in-Ok-hear_bits-clause-hears
returns-in-Ok-hear_bits-clause-hears g t c = λ past stands.
    let feeds = c.in-Some.ensures.marks past stands in
    let first = c.in-Ok.ensures.talks in
    let later = c.in-Ok-hear_bits.ensures.hears (past ++ feeds.taken) feeds.stands in (
      hears_one past _ _ _ _ _ (at_door g.D.Door c.args.inside.now c.args.door.now) feeds
          (at_door g.D.Door c.mark.new.inside c.mark.new.door) _ _ _
          (same_gains c.in-Some.kind _ _ c.args.inside.now c.mark.new.inside _ _ c.unit.ensures first.0)
          (λ marks is. c.after.ensures.counts marks _ is) later.0,
      later.1 ∙ first.1,
    )

pub returns-in-Err-hear_bits-clause-hears : goal.returns-in-Err-hear_bits-clause-hears
returns-in-Err-hear_bits-clause-hears g t c = λ past stands.
    let feeds = c.in-Some.ensures.marks past stands in
    let first = c.in-Ok.ensures.talks in
    let later = c.in-Err-hear_bits.ensures.hears (past ++ feeds.taken) feeds.stands in (
      breaks_later past _ _ _ _ _ (at_door g.D.Door c.args.inside.now c.args.door.now) feeds
          (at_door g.D.Door c.mark.new.inside c.mark.new.door) _
          (same_gains c.in-Some.kind _ _ c.args.inside.now c.mark.new.inside _ _ c.unit.ensures first.0) later.0,
      later.1 ∙ ap (λ fs. fs ++ c.in-Err-hear_bits.fault ∷ []) first.1,
    )
