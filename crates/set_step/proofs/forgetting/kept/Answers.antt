use Rattle.std.proofs.Common.{arith, refl, ◌≡◌, sym, subst}
use Rattle.set_model.specs.Checkpoint.{checkpointed}
use Rattle.set_changeover.specs.declared.parts.Parts.{Parts}
use Rattle.set_changeover.specs.Agreement.{Agrees, Kept}
use Rattle.set_changeover.specs.Parts.{kept_of}
use Rattle.set_step.proofs.Forgotten.{fits, kept_agrees, kept_in}
use Rattle.set_step.proofs.forgetting.kept.Given.{Over}
use Rattle.set_step.proofs.forgetting.kept.Goals as goal
use Rattle.set_step.proofs.forgetting.kept.Goals.{In_ok-inbox_copied}

abbrev parts_of : (o : Over) (c : In_ok-inbox_copied o) → Parts o.row.A.Denot
parts_of o c = record { config = c.args.parts.now.config; links = c.in_ok-links_copied.field-0; queues = c.in_ok-kept.field-0; bodies = c.in_ok-kept-2.field-0; finished = c.together.result; routes = c.copied.result; inbox = c.in_ok-inbox_copied.field-0 }

pub together-requires : goal.together-requires
together-requires o c = let all = fits c.args.parts.now c.requires in rw c.finished.ensures (omega (arith, all, c.len.ensures.value, c.len.ensures.few))

pub returns : goal.returns
returns o c = λ s a.
    let links = rw c.deref.ensures.value at c.in_ok-links_copied.ensures in
    let same : kept_of (parts_of o c) ≡ kept_in (kept_of c.args.parts.now) = rw (links, c.in_ok-kept.ensures.lists, c.in_ok-kept.ensures.messages, c.in_ok-kept-2.ensures, c.together.ensures, c.finished.ensures, c.copied.ensures, c.in_ok-inbox_copied.ensures) refl in
    subst (λ (k : Kept). Agrees k (checkpointed s)) (sym same) (kept_agrees (kept_of c.args.parts.now) s a)
