use Rattle.std.proofs.Common.{refl, arith, ◌∙◌, ap, sym, ℕ, List, [], ◌++◌, ◌+◌}
use Rattle.std.proofs.lemmas.Grind.{common_steps}
use Rattle.std.proofs.lemmas.List.{append_assoc}
use Rattle.l2_bits.specs.declared.marks.Mark.{Mark}
use Rattle.text_pcap.specs.declared.sent.Packet.{Packet}
use Rattle.text_pcap.specs.Sent.{packets_of}
use Rattle.text_pcap.proofs.Sending.{all_sent, completes_more}
use Rattle.text_pcap.proofs.sent.push_sent.Goals as goal

-- src/sent.rt
pub loop-octet-preserved : goal.loop-octet-preserved
loop-octet-preserved c =
    let so = c.loop-octet.invariant in
    let marks = c.feed_octet-marks.result.items in
    let its = packets_of c.args.side c.loop-octet.turn in (
      _,
      so.1 ++ its marks,
      c.feed_octet-marks.ensures.stands so.0 so.2,
      c.in_ok-push_marked.ensures ∙ ap (λ (xs : List Packet). xs ++ its c.as_slice.result.now) so.3 ∙ append_assoc c.args.packets.now.items so.1 (its c.as_slice.result.now)
          ∙ ap (λ (ms : List Mark). c.args.packets.now.items ++ (so.1 ++ its ms)) c.as_slice.ensures.value,
      completes_more c.args.side c.loop-octet.turn _ c.loop-octet.octet-index so.0 _ c.args.octets.now so.1 marks c.loop-octet-test.true refl refl so.4 (c.feed_octet-marks.ensures.marks so.0 so.2),
      ap (λ (n : ℕ). n + 1) so.5,
    )

pub returns : goal.returns
returns c =
    let so = c.loop-octet.invariant in
    (so.1, all_sent c.args.side c.loop-octet.turn c.loop-octet.octet-index so.0 c.args.octets.now so.1 (grind (arith, common_steps)) so.4, so.3)
