use Rattle.std.proofs.Common.{◌∙◌, ap, Some, None, Err}
use Rattle.set_core.specs.Hearing.{IsEntry, unasked}
use Rattle.history_audit.proofs.Courses.{has_room, is_full, is_right, is_wrong, nobody_found, wrong_found}
use Rattle.set_core.proofs.HeardEntries.{found_right}
use Rattle.history_audit.proofs.course.hear.Goals as goal

-- src/course.rt
pub returns-in-Ok-Right : goal.returns-in-Ok-Right
returns-in-Ok-Right c = λ told is.
    is_right told c.args.number c.args.item.now c.args.course.now is c.requires c.hear.new.self
    (λ base items h. found_right base items c.args.item.now c.in-Ok-Right.field-0 c.hear.new.self c.in-Ok-Right.field-0-is (c.in-Ok-Right.ensures.found base items h))

pub returns-in-Ok-WrongAnswer : goal.returns-in-Ok-WrongAnswer
returns-in-Ok-WrongAnswer c = λ told is.
    let item = c.args.item.now in
    is_wrong told c.args.number item c.args.course.now is c.requires c.hear.new.self (Some c.answer.result) c.entries-entries.result
    (λ opening items h. wrong_found opening items item c.in-Ok-WrongAnswer.field-0 c.hear.new.self c.answer.result c.in-Ok-WrongAnswer.field-0-is (c.in-Ok-WrongAnswer.ensures.found (unasked opening) items h) c.answer.ensures)
    c.entries-entries.ensures.heard (has_room c.hear.result _ _ (IsEntry item) _ c.in-Ok-WrongAnswer.is c.hear.ensures.exhausted.1)

pub returns-in-Ok-NoSuchActor : goal.returns-in-Ok-NoSuchActor
returns-in-Ok-NoSuchActor c = λ told is.
    let item = c.args.item.now in
    is_wrong told c.args.number item c.args.course.now is c.requires c.hear.new.self None c.entries-entries.result
    (λ opening items h. nobody_found opening items item c.in-Ok-NoSuchActor.field-0 c.hear.new.self c.in-Ok-NoSuchActor.field-0-is (c.in-Ok-NoSuchActor.ensures.found (unasked opening) items h))
    c.entries-entries.ensures.heard (has_room c.hear.result _ _ (IsEntry item) _ c.in-Ok-NoSuchActor.is c.hear.ensures.exhausted.1)

pub returns-in-Err-Exhausted : goal.returns-in-Err-Exhausted
returns-in-Err-Exhausted c = λ told is.
    is_full told c.args.number c.args.item.now c.args.course.now is c.requires c.hear.new.self (c.hear.ensures.exhausted.0 (c.in-Err-Exhausted.is ∙ ap Err c.in-Err-Exhausted.field-0-is))
