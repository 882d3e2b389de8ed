use Rattle.std.proofs.Common.{◌≡◌, ◌≤◌, ◌*◌, false}
use Rattle.link_term.specs.Standing.{lent, stands}
use Rattle.link_term.proofs.Turns.{RanSo}
use Rattle.link_term.proofs.works.Works.run.Given as goal

-- the turns so far, and that no count is too large
abbrev pub invariant-loop-turn : goal.invariant-loop-turn
invariant-loop-turn g l = record {
  so : RanSo (stands g.D.Door g.L.Line (lent l.initial.self l.initial.door l.initial.line)) l.report (stands g.D.Door g.L.Line (lent l.self l.door l.line));
  at : g.D.Door.number l.door ≡ l.self.inside.link;
  number : g.D.Door.number l.door ≡ g.D.Door.number l.initial.door;
  door : g.D.Door.is_same l.initial.door l.door;
  same : g.L.Line.is_same l.initial.line l.line;
  works : l.self.failed ≡ false;
  turns : l.report.turns ≡ l._turn;
  sent : l.report.sent ≤ l._turn;
  good : l.report.good ≤ 255 * l._turn;
  bad : l.report.bad ≤ 255 * l._turn;
  sixteen : l.report.sixteen ≤ 255 * l._turn;
}
