use Rattle.std.proofs.Common.{arith, sym, ◌∙◌, take, drop, take-append-drop}
use Rattle.std.proofs.KnownBytes.{Appends-kept}
use Rattle.text_base.proofs.PrintLemmas.{passed_on, appends_more, take_then, length-slice}
use Rattle.text_base.proofs.printing.write_all.Goals as goal

pub loop-written-preserved : goal.loop-written-preserved
loop-written-preserved g c = (
  omega (arith, c.in_ok-written.ensures.within, length-slice c.args.octets.now c.loop-written.written, c.loop-written-test.true, c.loop-written.invariant.0),
  appends_more _ _ _ _ _ _ c.loop-written.invariant.1 c.in_ok-written.ensures.octets (take_then c.args.octets.now c.loop-written.written c.in_ok-written.field-0 c.in_ok-written.ensures.within),
  c.in_ok-written.ensures.sound ∙ c.loop-written.invariant.2,
)

pub returns-in_err-written-clause-writes : goal.returns-in_err-written-clause-writes
returns-in_err-written-clause-writes g c = record {
  written = take c.loop-written.written c.args.octets.now;
  more = drop c.loop-written.written c.args.octets.now;
  split = sym (take-append-drop c.loop-written.written c.args.octets.now);
  added = Appends-kept _ _ _ _ c.loop-written.invariant.1 c.in_err-written.ensures.octets;
  ends = rw (passed_on c.from_residual.result c.in_err-written.field-0.0 c.from_residual.ensures.1) tt;
}
