use Rattle.std.proofs.Common.{◌∙◌}
use Rattle.text_entries.proofs.Pieces.{report_pieces}
use Rattle.text_entries.proofs.texts.push_report.Goals as goal

pub returns : goal.returns
returns c =
    let last = c.push_flags in
    report_pieces last.result c.args.report.now c.as_bytes.result.now c.args.out.now.items c.push_field.new.out.items c.push_piece.new.out.items last.new.out.items
    (c.as_bytes.ensures.value ∙ c.took_field.ensures) c.in_ok-push_field.ensures c.in_ok-push_piece.ensures last.ensures
