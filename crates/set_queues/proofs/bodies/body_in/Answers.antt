use Rattle.std.proofs.Common.{arith}
use Rattle.set_queues.proofs.Storing.{found}
use Rattle.set_queues.proofs.bodies.body_in.Goals as goal

pub slice_bounds-result-count : goal.slice_bounds-result-count
slice_bounds-result-count c = let f = found c.args.place 0 c.args.ends.now c.args.octets.now c.requires.all c.requires.within in omega (arith, f.1, c.start_of-start.ensures)

pub slice_bounds-result-start : goal.slice_bounds-result-start
slice_bounds-result-start c = let f = found c.args.place 0 c.args.ends.now c.args.octets.now c.requires.all c.requires.within in omega (arith, f.1, f.2, c.start_of-start.ensures)

pub slice_bounds-result-end : goal.slice_bounds-result-end
slice_bounds-result-end c = let f = found c.args.place 0 c.args.ends.now c.args.octets.now c.requires.all c.requires.within in omega (arith, f.1, f.2)
