use Rattle.pair_octets.proofs.Running.{run_of, run_fails}
use Rattle.pair_octets.proofs.wires.Wires.run.Goals as goal

pub returns-in-Ok : goal.returns-in-Ok
returns-in-Ok c =
    run_of c.args.a.now c.args.b.now c.args.lengths.now c.args.steps.now c.in_ok-wires.wires c.in_ok-wires.ensures.0 c.in_ok-wires.ensures.1 _
    c.in-Ok.ensures.ok

pub returns-in-Err : goal.returns-in-Err
returns-in-Err c =
    run_fails c.args.a.now c.args.b.now c.args.lengths.now c.args.steps.now c.in_ok-wires.wires c.in_ok-wires.ensures.0 c.in_ok-wires.ensures.1
    c.in-Err.fault c.in-Err.ensures.err
