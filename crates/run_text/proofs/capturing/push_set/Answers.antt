use Rattle.std.proofs.Common.{refl, ◌∙◌, ap, List, ◌+◌, ◌++◌}
use Rattle.std.proofs.lemmas.List.{append_assoc, drop_all}
use Rattle.run_text.specs.Capturing.{IsTaped}
use Rattle.text_pcap.specs.declared.sent.Packet.{Packet}
use Rattle.run_text.proofs.Each.{all_given, completes_more}
use Rattle.run_text.proofs.capturing.push_set.Goals as goal

-- src/capturing.rt
pub loop-report-preserved : goal.loop-report-preserved
loop-report-preserved c =
    let so = c.loop-report.invariant in
    let sent = c.in_ok-push_link.ensures in (
      so.0 ++ sent.0,
      sent.2 ∙ ap (λ (xs : List Packet). xs ++ sent.0) so.1 ∙ append_assoc c.args.packets.now.items so.0 sent.0,
      completes_more (IsTaped c.args.is_a c.args.set) c.loop-report.link _ c.loop-report.report-index c.report-item.result c.args.reports.now so.0 sent.0 c.loop-report-test.true c.report-item.is refl so.2 sent.1,
      ap (λ n. n + 1) so.3,
    )

pub returns : goal.returns
returns c =
    let so = c.loop-report.invariant in
    (so.0, all_given (IsTaped c.args.is_a c.args.set) c.loop-report.link c.loop-report.report-index c.args.reports.now so.0 (drop_all c.loop-report.report-index c.args.reports.now c.loop-report-test.false) so.2, so.1)
