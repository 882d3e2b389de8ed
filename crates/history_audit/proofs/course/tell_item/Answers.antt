use Rattle.std.proofs.Common.{sym, ◌∙◌}
use Rattle.history_audit.proofs.Courses.{passes}
use Rattle.history_audit.proofs.course.tell_item.Goals as goal

pub returns : goal.returns
returns c = λ told is. passes told c.args.number c.args.item.now c.args.course.now c.pass_over.new.stand is (sym c.is_legal.ensures ∙ c.if-is_legal.false) c.pass_over.ensures
