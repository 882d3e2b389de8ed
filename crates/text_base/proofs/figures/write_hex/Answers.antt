use Rattle.std.proofs.Common.{arith, ◌∙◌, ◌*◌, ◌+◌}
use Rattle.std.proofs.lemmas.List.{length-set}
use Rattle.text_base.proofs.FigureLemmas.{hex_more}
use Rattle.text_base.proofs.figures.write_hex.Goals as goal

pub loop-place-preserved : goal.loop-place-preserved
loop-place-preserved c =
    let l = c.loop-place in
    record {
      written = hex_more c.args.octets.now l.digits l.place c.digit_of.result c.digit_of-in-loop-place.result (omega arith) (omega (arith, l.invariant.places, c.requires)) c.digit_of.ensures c.digit_of-in-loop-place.ensures l.invariant.written;
      places = length-set _ (2 * l.place + 1) c.digit_of-in-loop-place.result ∙ length-set l.digits (2 * l.place) c.digit_of.result ∙ l.invariant.places;
    }
