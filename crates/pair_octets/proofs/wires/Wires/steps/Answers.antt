use Rattle.std.proofs.Common.{arith, subst, ◌≡◌, ◌+◌, suc}
use Rattle.pair_octets.proofs.Running.{IsUnderWay, goes_on, stops}
use Rattle.pair_octets.proofs.wires.Wires.steps.Goals as goal

pub returns-in-Err-clause-err : goal.returns-in-Err-clause-err
returns-in-Err-clause-err c =
    stops c.args.self.now c.args.steps.now c.loop-place.place c.loop-place.self c.index-steps-place.result c.in-Err.fault
    c.loop-place.invariant c.loop-place-test.true c.index-steps-place.is c.in-Err.ensures.fails

pub loop-place-preserved : goal.loop-place-preserved
loop-place-preserved c =
    let next : suc c.loop-place.place ≡ c.loop-place.place + 1 = omega arith in
    subst (λ n. IsUnderWay c.args.self.now c.args.steps.now n c.step.new.self) next
    (goes_on c.args.self.now c.args.steps.now c.loop-place.place c.loop-place.self c.step.new.self c.index-steps-place.result
    c.loop-place.invariant c.loop-place-test.true c.index-steps-place.is c.in-Ok.ensures.happens)
