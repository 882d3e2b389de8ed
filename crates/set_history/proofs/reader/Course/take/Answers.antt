use Rattle.std.proofs.Common.{arith, ap, ◌≡◌, ◌∙◌}
use Rattle.std.proofs.lemmas.Grind.{common_steps}
use Rattle.set_history.specs.Told.{entry_told, behind_entry}
use Rattle.set_history.specs.Courses.{behind_told}
use Rattle.set_history.proofs.Courses.{round_taken}
use Rattle.set_history.proofs.reader.Course.take.Goals as goal

pub returns-else-self-gt0 : goal.returns-else-self-gt0
returns-else-self-gt0 c =
    let none : c.args.self.now.entries ≡ 0 = grind (arith, common_steps) in
    round_taken c.args.self.now.entries c.args.self.now.more c.args.self.now.left.now c.args.self.now.cycle.now c.args.self.now.at.now
    c.octets-else-self-gt0.inside.left.now (behind_told c.args.self.now) c.entry-told-else-self-gt0.result none c.requires
    (c.entry-told-else-self-gt0.ensures.value ∙ ap entry_told c.begun.ensures)
    (c.octets-else-self-gt0.view_is ∙ c.entry-told-else-self-gt0.ensures.behind ∙ ap behind_entry c.begun.ensures)
