use Rattle.std.proofs.Common.{Option, subst}
use Rattle.history_audit.specs.Reading.{StandsFor}
use Rattle.history_audit.specs.declared.course.Course.{Course}
use Rattle.history_audit.proofs.Courses.{in_all}
use Rattle.history_audit.proofs.verdict.judge.Goals as goal

pub returns-in-Some : goal.returns-in-Some
returns-in-Some c = λ told stands.
    let is = subst (λ (course : Option Course). StandsFor told course) c.in-Some.is stands in
    in_all told c.in-Some.course is c.args.number c.judge_course.result (c.judge_course.ensures told is)
