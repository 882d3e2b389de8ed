use Rattle.std.proofs.Common.{refl, ◌≡◌, false, nat_lt, length, rules}
use Rattle.link_term.proofs.Choices.{none_chosen}
use Rattle.link_term.proofs.choosing.fill.Goals as goal

pub returns-then-not-is_short-clause-fills : goal.returns-then-not-is_short-clause-fills
returns-then-not-is_short-clause-fills g c =
    let long : nat_lt (length c.args.inside.now.bits) 8 ≡ false = search rules in
    (none_chosen c.args.inside.now _ _ _ _ long refl, refl)
