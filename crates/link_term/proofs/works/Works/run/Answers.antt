use Rattle.std.proofs.Common.{refl, ap, arith, rules, ◌≡◌, ◌∙◌, ◌≤◌}
use Rattle.link_term.specs.Turning.{one_if_chosen}
use Rattle.link_term.proofs.Turns.{ran_none, ran_more, ran_all, run_failed, at_most_one}
use Rattle.link_term.proofs.works.Works.run.Goals as goal

pub loop-turn-init : goal.loop-turn-init
loop-turn-init g c = record {
  so = ran_none _ _ refl;
  at = c.requires.at;
  number = refl;
  door = g.met.D.Door.same_self _;
  same = g.met.L.Line.same_self _;
  works = search rules;
  turns = refl;
  sent = omega arith;
  good = omega arith;
  bad = omega arith;
  sixteen = omega arith;
}

pub loop-turn-preserved : goal.loop-turn-preserved
loop-turn-preserved g c =
    let turn = c.in_ok-turn.ensures.turns in
    let sums = c.and_one-report.ensures in
    let so = c.loop-turn.invariant in
    let one : one_if_chosen c.in_ok-turn.field-0.filling ≤ 1 = at_most_one c.in_ok-turn.field-0.filling in record {
      so = ran_more _ _ _ _ _ _ so.so turn.went.1
          sums.turns sums.sent sums.good.0 sums.bad.0 sums.sixteen.0;
      at = turn.at;
      number = turn.number ∙ so.number;
      door = g.met.D.Door.same_on _ _ _ so.door turn.door;
      same = g.met.L.Line.same_on _ _ _ so.same turn.same;
      works = turn.goes_on;
      turns = omega (arith, sums.turns, so.turns);
      sent = omega (arith, sums.sent, so.sent, one);
      good = omega (arith, sums.good.0, sums.good.1, so.good);
      bad = omega (arith, sums.bad.0, sums.bad.1, so.bad);
      sixteen = omega (arith, sums.sixteen.0, sums.sixteen.1, so.sixteen);
    }

pub returns-in_err-turn : goal.returns-in_err-turn
returns-in_err-turn g c =
    let so = c.loop-turn.invariant in
    let broke = c.in_err-turn.ensures.turns in record {
      runs = record {
        went = search rules;
        breaks = λ _. run_failed _ _ _ _ _ _ _ _ c.from_residual.ensures.1 so.so so.turns c.loop-turn-test.true (broke.breaks so.works);
        failed = search rules;
        fails = search rules;
        goes_on = search rules;
        at = broke.at;
        number = broke.number ∙ so.number;
        door = g.met.D.Door.same_on _ _ _ so.door broke.door;
        same = g.met.L.Line.same_on _ _ _ so.same broke.same;
      };
    }

pub returns : goal.returns
returns g c =
    let so = c.loop-turn.invariant in
    let all : c.loop-turn.report.turns ≡ c.args.turns = search rules in record {
      runs = record {
        went = (
          search rules,
          ran_all _ _ _ _ _ so.so all
              (ap (λ x. record c.loop-turn.report { cause = x })
              c.last_cause.ensures),
        );
        breaks = λ _. tt;
        failed = search rules;
        fails = tt;
        goes_on = so.works;
        at = so.at;
        number = so.number;
        door = so.door;
        same = so.same;
      };
    }
