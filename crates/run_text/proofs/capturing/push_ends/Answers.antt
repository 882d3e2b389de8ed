use Rattle.std.proofs.Common.{refl, ◌∙◌, ap, subst, List, Result, ◌+◌, ◌++◌}
use Rattle.std.proofs.lemmas.List.{append_assoc, drop_all}
use Rattle.run_text.specs.Capturing.{AreOfSet, IsOfEnd}
use Rattle.link_term.specs.declared.fault.TermFault.{TermFault}
use Rattle.bank_crew.specs.declared.report.ShiftReport.{ShiftReport}
use Rattle.text_pcap.specs.declared.sent.Packet.{Packet}
use Rattle.run_text.proofs.Each.{all_given, completes_more}
use Rattle.run_text.proofs.capturing.push_ends.Goals as goal

-- src/capturing.rt
pub loop-end-preserved : goal.loop-end-preserved
loop-end-preserved c =
    let so = c.loop-end.invariant in
    let sent = c.in_ok-push_set.ensures in (
      so.0 ++ sent.0,
      sent.2 ∙ ap (λ (xs : List Packet). xs ++ sent.0) so.1 ∙ append_assoc c.args.packets.now.items so.0 sent.0,
      completes_more (IsOfEnd c.args.is_a) c.loop-end.set _ c.loop-end.end-index c.end-item.result c.args.ends.now so.0 sent.0 c.loop-end-test.true c.end-item.is refl so.2 (subst (λ (rs : List (Result ShiftReport TermFault)). AreOfSet c.args.is_a c.loop-end.set rs sent.0) c.deref.ensures.value sent.1),
      ap (λ n. n + 1) so.3,
    )

pub returns : goal.returns
returns c =
    let so = c.loop-end.invariant in
    (so.0, all_given (IsOfEnd c.args.is_a) c.loop-end.set c.loop-end.end-index c.args.ends.now so.0 (drop_all c.loop-end.end-index c.args.ends.now c.loop-end-test.false) so.2, so.1)
