use Rattle.std.proofs.Common.{arith, ◌∙◌, ◌<◌, length}
use Rattle.std.proofs.lemmas.List.{length-set}
use Rattle.end_calls.proofs.HearingLemmas.{heard_more}
use Rattle.end_calls.proofs.hearing.hear_each.Goals as goal

pub loop-place-preserved : goal.loop-place-preserved
loop-place-preserved c =
    let so = c.loop-place.invariant in let heard = c.in_ok-passed.ensures.hears in
    let inside : c.loop-place.place < length c.loop-place.put = omega (arith, c.loop-place-test.true, c.requires.room, so.room) in record {
      links = c.hear_one.ensures.links ∙ so.links;
      room = length-set c.loop-place.put c.loop-place.place c.in_ok-passed.passed.put ∙ so.room;
      octets = omega (arith, so.octets);
      messages = omega (arith, so.messages, c.in_ok-passed.ensures.few, c.from.ensures);
      heard = heard_more c.args.link c.args.octets.now c.loop-place.place c.args.put.now c.loop-place.put c.args.end.now c.loop-place.end
          c.hear_one.new.end c.loop-place.heard c.in_ok-passed.passed.put c.from.result c.loop-place-test.true inside
          so.octets so.heard (heard.0, heard.1, heard.2, c.from.ensures ∙ heard.3);
    }
