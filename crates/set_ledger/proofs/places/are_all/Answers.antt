use Rattle.std.proofs.Common.{refl, sym, subst, List}
use Rattle.set_events.specs.declared.history.Entry.{Entry}
use Rattle.set_ledger.specs.Places.{AreLeft}
use Rattle.set_ledger.proofs.Searching.{not_both}
use Rattle.set_ledger.proofs.places.are_all.Goals as goal

pub loop-entry-init : goal.loop-entry-init
loop-entry-init c = (c.requires, ((λ all. all), (λ all. all)))

pub returns-then-not-hear : goal.returns-then-not-hear
returns-then-not-hear c = (
  (λ wrong. absurd (not_both refl wrong)),
  (λ all. absurd (not_both c.if-not-hear.true (c.hear.ensures.other c.next.new.self
      (subst (λ (left : List Entry). AreLeft c.loop-entry.places left) c.in-Some.ensures (c.loop-entry.invariant.1.0 all))))),
)

pub loop-entry-preserved : goal.loop-entry-preserved
loop-entry-preserved c =
    let inv = c.loop-entry.invariant in
    let step = c.hear.ensures.heard c.if-not-hear.false c.next.new.self in (
      c.hear.ensures.at,
      (
        (λ all. step.0 (subst (λ (left : List Entry). AreLeft c.loop-entry.places left) c.in-Some.ensures (inv.1.0 all))),
        (λ all. inv.1.1 (subst (λ (left : List Entry). AreLeft c.loop-entry.places left) (sym c.in-Some.ensures) (step.1 all))),
      ),
    )

pub returns : goal.returns
returns c = (
  (λ yes. c.loop-entry.invariant.1.1 (subst (λ (left : List Entry). AreLeft c.loop-entry.places left) (sym c.in_default.ensures) (c.are_read.ensures.0 yes))),
  (λ all. c.are_read.ensures.1 (subst (λ (left : List Entry). AreLeft c.loop-entry.places left) c.in_default.ensures (c.loop-entry.invariant.1.0 all))),
)
