use Rattle.std.proofs.Common.{◌∙◌, ◌++◌, ap, arith, List, ℕ}
use Rattle.std.proofs.lemmas.Result.{on_ok_weaker}
use Rattle.set_queues.specs.Buffers.{Held, Waiting, queue_at}
use Rattle.set_changeover.specs.Parts.{kept_of}
use Rattle.set_step.proofs.Listed.{listed, none_listed}
use Rattle.set_step.proofs.contents.Core.push_numbers_on.Goals as goal

-- src/contents.rt
pub returns-then-from-links : goal.returns-then-from-links
returns-then-from-links g c = λ s f.
    none_listed (kept_of c.self.inside.parts) s c.args.link c.args.numbers.now.items (rw (← c.self.view_is) at f)
    (omega (arith, c.if-from-links.true, c.links.ensures.value, c.from.ensures))

-- src/contents.rt
pub returns : goal.returns
returns g c =
    let lists = c.self.inside.parts.queues.lists in
    on_ok_weaker c.push_queue-3.result
    (λ is. λ s f. is
    ∙ ap (λ (ns : List ℕ). ns ++ queue_at (Held c.args.link) lists) (c.in_ok-push_queue-2.ensures
    ∙ ap (λ (ns : List ℕ). ns ++ queue_at (Waiting c.args.link) lists) c.in_ok-push_queue.ensures)
    ∙ listed (kept_of c.self.inside.parts) s c.args.link c.args.numbers.now.items (rw (← c.self.view_is) at f))
    c.push_queue-3.ensures
