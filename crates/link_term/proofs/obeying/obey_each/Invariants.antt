use Rattle.std.proofs.Common.{◌≡◌, drop}
use Rattle.link_term.specs.Orders.{obeys_among}
use Rattle.link_term.specs.Talking.{asked}
use Rattle.link_term.proofs.Rows.{Completes}
use Rattle.link_term.proofs.obeying.obey_each.Given as goal

-- what is left of the row completes it, and the door is that of the terminal's link
abbrev pub invariant-loop-command : goal.invariant-loop-command
invariant-loop-command g l = record {
  at : g.D.Door.number l.door ≡ l.inside.link;
  number : g.D.Door.number l.door ≡ g.D.Door.number l.initial.door;
  door : g.D.Door.is_same l.initial.door l.door;
  completes : Completes (obeys_among l.commands) l.order (drop l.command-index l.order) l.initial.inside l.inside
      (asked g.D.Door l.initial.door) (asked g.D.Door l.door);
}
