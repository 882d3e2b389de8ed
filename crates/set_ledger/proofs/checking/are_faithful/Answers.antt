use Rattle.std.proofs.Common.{refl, sym, subst, List}
use Rattle.set_events.specs.declared.history.Entry.{Entry}
use Rattle.set_ledger.specs.Places.{AreLeft}
use Rattle.set_ledger.proofs.Placing.{decide_on, decided_all, rest_short}
use Rattle.set_ledger.proofs.Searching.{not_both}
use Rattle.set_ledger.proofs.checking.are_faithful.Goals as goal

pub loop-left-init : goal.loop-left-init
loop-left-init g c = ((λ all. all), (λ all. all))

pub returns-in_default : goal.returns-in_default
returns-in_default g c = (
  (λ wrong. absurd (not_both refl wrong)),
  (λ all. absurd (c.in_default.ensures c.args.history.now (c.loop-left.invariant.0 all))),
)

pub returns-then-not-are_all : goal.returns-then-not-are_all
returns-then-not-are_all g c =
    let put = c.in-Some.ensures in (
      (λ wrong. absurd (not_both refl wrong)),
      (λ all. absurd (not_both c.if-not-are_all.true (c.are_all.ensures.1
          (subst (λ (history : List Entry). AreLeft c.put.new.places history) (sym c.again.ensures) ((put.decide c.args.history.now).0 (c.loop-left.invariant.0 all)).0)))),
    )

pub loop-left-smaller : goal.loop-left-smaller
loop-left-smaller g c =
    let put = c.in-Some.ensures in
    rest_short c.loop-left.left.now c.in-Some.many put.few c.loop-left-test.ensures put.some

pub loop-left-preserved : goal.loop-left-preserved
loop-left-preserved g c =
    let put = c.in-Some.ensures in
    decide_on g.S.Step.state c.args.books.now c.args.seats.now c.loop-left.left.now c.in-Some.many c.put.new.places c.args.history.now c.loop-left.invariant put.decide
    (subst (λ (history : List Entry). AreLeft c.put.new.places history) c.again.ensures (c.are_all.ensures.0 c.if-not-are_all.false))

pub returns : goal.returns
returns g c = (
  (λ yes. decided_all g.S.Step.state c.args.books.now c.args.seats.now c.loop-left.left.now c.args.history.now c.loop-left.invariant c.loop-left-test.ensures),
  (λ all. refl),
)
