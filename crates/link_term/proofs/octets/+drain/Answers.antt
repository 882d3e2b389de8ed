use Rattle.std.proofs.Common.{refl, [], ◌++◌}
use Rattle.link_term.proofs.Feeding.{fed_none, fed_one}
use Rattle.link_term.proofs.octets.+drain.Goals as goal

pub returns-in-Some : goal.returns-in-Some
returns-in-Some t c = λ past stands.
    let feeds = c.in-Some.ensures.marks past stands in
    let later = c.drain.ensures (past ++ feeds.taken) feeds.stands in
    record { marks = _; fed = fed_one past _ _ _ _ _ later.marks feeds later.fed }

pub returns-in-None : goal.returns-in-None
returns-in-None t c = λ past stands.
    record { marks = []; fed = fed_none past _ _ _ (c.in-None.ensures.all refl) (c.in-None.ensures.marks past stands) }
