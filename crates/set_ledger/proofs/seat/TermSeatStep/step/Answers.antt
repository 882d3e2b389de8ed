use Rattle.std.proofs.Common.{ap, refl, subst, sym}
use Rattle.set_events.specs.Lent.{event_in}
use Rattle.set_ledger.specs.Openings.{IsBaseBehind}
use Rattle.set_ledger.specs.Totals.{HeldState}
use Rattle.set_ledger.proofs.Growing.{term_adds_up, term_totals, term_grows, term_acknowledges, room_for, few_enough, full_stays}
use Rattle.set_ledger.proofs.seat.TermSeatStep.step.Goals as goal

pub gain-requires : goal.gain-requires
gain-requires g c = let gains = c.in-Ok.ensures.gains in room_for _ _ _ _ c.held.invariant.0.calls_is gains.calls (few_enough gains.few_calls)

pub gain-requires-in-Ok : goal.gain-requires-in-Ok
gain-requires-in-Ok g c = let gains = c.in-Ok.ensures.gains in room_for _ _ _ _ c.held.invariant.0.acknowledged_is gains.acknowledged (few_enough gains.few_acknowledged)

-- the receipt is the entry that was made, and the share grew by it
pub invariant_of-self : goal.invariant_of-self
invariant_of-self g c = (
  c.self.invariant.0,
  term_adds_up c.self.inside.link c.self.inside.calls.told c.self.inside.acknowledged.told c.gain.new.self.told c.gain-in-Ok.new.self.told c.self.inside.forgotten c.self.inside.receipts.items c.make.new.receipts.items c.self.inside.full.told c.self.inside.checkpoints.share.amount (event_in c.args.event.now)
      c.make.new.reply c.in-Ok.gained c.held.inside.core c.make.new.core c.self.invariant.1 c.in-Ok.ensures.gains c.gain.ensures.told c.in-Ok.ensures.receipt,
)

pub invariant_of-held : goal.invariant_of-held
invariant_of-held g c = (
  term_totals c.self.inside.link _ _ _ _ _ _ (event_in c.args.event.now) c.make.new.reply c.in-Ok.gained c.held.inside.core c.make.new.core c.held.invariant.0 c.in-Ok.ensures.gains c.gain.ensures.total c.gain-in-Ok.ensures.total,
  c.held.invariant.1,
  subst (IsBaseBehind g.O.Opening.settings c.held.inside.checkpoints.total) (sym c.in-Ok.ensures.step.base_is) c.held.invariant.2,
  full_stays c.held.inside.full.total c.held.inside.core c.make.new.core _ (event_in c.args.event.now) c.make.new.reply c.in-Ok.gained c.in-Ok.ensures.gains c.held.invariant.3,
)

pub returns-in-Ok-clause-step : goal.returns-in-Ok-clause-step
returns-in-Ok-clause-step g c = rw (← c.held.view_is, ← c.self.view_is) c.in-Ok.ensures.step

pub returns-in-Ok-clause-receipt : goal.returns-in-Ok-clause-receipt
returns-in-Ok-clause-receipt g c = rw (← c.self.view_is) (record {
  who_same = refl;
  forgotten_same = refl;
  full_same = refl;
  checkpoints_same = refl;
  receipt = c.in-Ok.ensures.receipt;
  grows = term_grows c.self.inside.link _ _ _ _ (event_in c.args.event.now) c.make.new.reply c.in-Ok.gained c.held.inside.core c.make.new.core c.in-Ok.ensures.gains c.gain.ensures.told;
})

pub returns-in-Ok-clause-acknowledged : goal.returns-in-Ok-clause-acknowledged
returns-in-Ok-clause-acknowledged g c = rw (← c.held.view_is, ← c.self.view_is) (term_acknowledges c.self.inside.link _ _ (event_in c.args.event.now) c.make.new.reply c.in-Ok.gained c.held.inside.core c.make.new.core c.in-Ok.ensures.gains c.gain-in-Ok.ensures.told)

pub returns-in-Ok-clause-seats : goal.returns-in-Ok-clause-seats
returns-in-Ok-clause-seats g c = (ap (λ (h : HeldState). h.users) c.held.view_is, ap (λ (h : HeldState). h.links) c.held.view_is)
