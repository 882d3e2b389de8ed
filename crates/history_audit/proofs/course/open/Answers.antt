use Rattle.set_model.specs.State.{settings_of}
use Rattle.history_audit.proofs.Courses.{begins}
use Rattle.history_audit.proofs.course.open.Goals as goal

pub returns-in-Ok-clause-told : goal.returns-in-Ok-clause-told
returns-in-Ok-clause-told c = begins c.args.number c.args.line.now (settings_of c.in-Some.config) c.profile.result c.in-Ok.auditor c.in-Some.ensures c.profile.ensures c.in-Ok.ensures.ok
