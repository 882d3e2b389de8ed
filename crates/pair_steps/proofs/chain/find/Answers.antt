use Rattle.std.proofs.Common.{arith, length, take, ap, refl, List}
use Rattle.std.proofs.lemmas.List.{length-append}
use Rattle.l2_units.specs.declared.unit.Unit.{Unit as SignalUnit}
use Rattle.pair_steps.specs.Nests.{joined}
use Rattle.pair_steps.proofs.Nesting.{one_read}
use Rattle.pair_steps.proofs.chain.find.Goals as goal

-- src/chain.rt
pub loop-index-preserved : goal.loop-index-preserved
loop-index-preserved g c =
    let units = g.S.HasUnits.units in
    let parts = c.args.parts.now in
    let i = c.loop-index.index in
    let part = c.index-parts-index.result in
    let more = one_read units parts i (length parts) part refl (omega arith) c.index-parts-index.is in
    let longer = ap (λ (these : List SignalUnit). length these) more in
    omega (arith, longer, length-append (joined units (take i parts)) (units part), c.loop-index.invariant, c.len-count.ensures, c.if-rest-count.false)
