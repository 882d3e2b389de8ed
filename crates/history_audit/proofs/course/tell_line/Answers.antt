use Rattle.std.proofs.Common.{sym, ◌∙◌}
use Rattle.history_audit.proofs.Courses.{remark_read}
use Rattle.history_audit.proofs.course.tell_line.Goals as goal

pub returns-then-is_passed_over : goal.returns-then-is_passed_over
returns-then-is_passed_over c = λ told stands. (told, remark_read c.args.number told c.args.line.now (sym c.is_passed_over.ensures ∙ c.if-is_passed_over.true), stands)
