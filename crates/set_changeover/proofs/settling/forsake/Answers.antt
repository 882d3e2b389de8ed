use Rattle.std.proofs.Common.{rules, refl, arith, []}
use Rattle.set_queues.proofs.Standing.{links_stay}
use Rattle.set_changeover.specs.Parts.{kept_of}
use Rattle.set_queues.specs.Buffers.{IsKnown}
use Rattle.set_model.specs.Rows.{Unacked, Waiting, NoAnswer}
use Rattle.set_changeover.proofs.States.{becomes, given_up_for, orders_given_up_for}
use Rattle.set_changeover.proofs.Links.{cleared_less, sifted_less, on_less}
use Rattle.set_changeover.proofs.settling.forsake.Goals as goal

pub returns-clause-stands : goal.returns-clause-stands
returns-clause-stands o c = λ s f.
    let mid = kept_of (record c.args.parts.now { queues = c.discard.new.self }) in
    let first = becomes {new = mid} (given_up_for (kept_of c.args.parts.now) s (Unacked c.args.number) NoAnswer f refl (omega arith)) (search rules) in
    becomes (orders_given_up_for mid _ (Waiting c.args.number) NoAnswer first refl (grind arith)) (search rules)

pub returns-clause-fewer : goal.returns-clause-fewer
returns-clause-fewer o c = let known : IsKnown (Waiting c.args.number) c.discard.new.self.lists = grind (arith, links_stay (Unacked c.args.number) []) in
    omega (arith, on_less c.args.number _ _ (cleared_less (Unacked c.args.number) _ _ c.discard.ensures.lists refl (omega arith)), on_less c.args.number _ _ (sifted_less (Waiting c.args.number) _ _ _ c.discard_orders.ensures.lists refl known))
