use Rattle.std.proofs.Common.{◌++◌, sym, ap, ◌∙◌, append-nil, None, Some, List, ℕ}
use Rattle.l2_bits.specs.Deframing.{marked, unit_of, left_in}
use Rattle.text_base.proofs.PrintLemmas.{passed_on}
use Rattle.text_units.specs.UnitsText.{mark_text}
use Rattle.text_units.proofs.UnitsLemmas.{first_fed, breaks_at}
use Rattle.text_units.proofs.marked_line.MarkedLine.feed_first.Goals as goal

pub returns-in_default-clause-feeds : goal.returns-in_default-clause-feeds
returns-in_default-clause-feeds c =
    first_fed c.args.self.now _ (left_in c.args.left.now) (left_in c.feed_octets.new.octets) None c.in_default.ensures.marks
    (λ marks fits same. rw (append-nil marks) same) c.args.out.now.items c.args.out.now.items (sym (append-nil c.args.out.now.items))

pub returns-clause-feeds : goal.returns-clause-feeds
returns-clause-feeds c =
    let octets = unit_of c.feed_octets.new.self in
    let mark = marked c.in-Some.kind octets in
    first_fed c.args.self.now _ (left_in c.args.left.now) (left_in c.feed_octets.new.octets) (Some mark) c.in-Some.ensures.marks
    (λ marks fits same. c.counted-self.ensures marks octets fits same) c.args.out.now.items c.add_mark.new.out.items
    (c.in_ok-add_mark.ensures ∙ ap (λ (unit : List ℕ). c.args.out.now.items ++ mark_text (marked c.in-Some.kind unit)) c.unit.ensures ∙ ap (λ (text : List ℕ). c.args.out.now.items ++ text) (sym (append-nil (mark_text mark))))

pub returns-in_err-add_mark-clause-feeds : goal.returns-in_err-add_mark-clause-feeds
returns-in_err-add_mark-clause-feeds c =
    rw (passed_on c.from_residual.result c.in_err-add_mark.field-0.0 c.from_residual.ensures.1)
    (breaks_at c.args.self.now (left_in c.args.left.now) c.args.out.now.items c.add_mark.new.out.items c.in_err-add_mark.ensures)
