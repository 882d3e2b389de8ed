use Rattle.std.proofs.Common.{◌≡◌, drop}
use Rattle.link_term.specs.Orders.{ends}
use Rattle.link_term.specs.Talking.{asked}
use Rattle.link_term.proofs.Rows.{Completes}
use Rattle.link_term.proofs.timing.end_each.Given as goal

-- what is left of the row completes it, and the door is that of the terminal's link
abbrev pub invariant-loop-timer : goal.invariant-loop-timer
invariant-loop-timer g l = record {
  at : g.D.Door.number l.door ≡ l.inside.link;
  number : g.D.Door.number l.door ≡ g.D.Door.number l.initial.door;
  door : g.D.Door.is_same l.initial.door l.door;
  completes : Completes ends l.timers (drop l.timer-index l.timers) l.initial.inside l.inside
      (asked g.D.Door l.initial.door) (asked g.D.Door l.door);
}
