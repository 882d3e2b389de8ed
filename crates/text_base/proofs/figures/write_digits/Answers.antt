use Rattle.std.proofs.Common.{arith, ◌∙◌, ◌+◌, ◌%◌}
use Rattle.std.proofs.lemmas.List.{length-set}
use Rattle.text_base.proofs.FigureLemmas.{digit_before, first_digit, place_fewer}
use Rattle.text_base.proofs.figures.write_digits.Goals as goal

pub loop-left-preserved : goal.loop-left-preserved
loop-left-preserved c =
    let l = c.loop-left in
    record {
      written = digit_before l.left l.place c.args.value l.digits c.loop-left-test.true l.invariant.small l.invariant.room (omega (arith, l.invariant.within, l.invariant.places)) l.invariant.written;
      room = place_fewer l.left l.place c.loop-left-test.true l.invariant.room;
      within = omega (arith, l.invariant.within);
      small = omega (arith, l.invariant.small);
      places = length-set l.digits l.place (48 + l.left % 10) ∙ l.invariant.places;
    }

pub returns-clause-written : goal.returns-clause-written
returns-clause-written c =
    let l = c.loop-left in
    first_digit l.left l.place c.args.value l.digits (omega (arith, c.loop-left-test.false)) (omega (arith, l.invariant.within, l.invariant.places)) l.invariant.written
