use Rattle.history_audit.proofs.Courses.{accepted, refused}
use Rattle.history_audit.proofs.verdict.judge_course.Goals as goal

-- src/verdict.rt
pub returns-in-Legal : goal.returns-in-Legal
returns-in-Legal c = λ told is.
    accepted told c.args.course.now is c.in-Legal.is c.entries.result c.books.result c.entries.ensures.heard c.entries.ensures.short c.books.ensures c.accept.result c.accept.ensures.text c.accept.ensures.fault

pub returns-in-Wrong : goal.returns-in-Wrong
returns-in-Wrong c = λ told is.
    refused told c.args.course.now is c.in-Wrong.line c.in-Wrong.answer c.in-Wrong.entries c.in-Wrong.is c.refuse.result c.refuse.ensures.text c.refuse.ensures.fault
