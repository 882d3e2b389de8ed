use Rattle.std.proofs.Common.{refl}
use Rattle.set_step.proofs.forgetting.copied.Goals as goal

pub returns : goal.returns
returns o c =
    let links = rw c.deref.ensures.value at c.in_ok-links_copied.ensures in
    rw (links, c.in_ok-copied.ensures.lists, c.in_ok-copied.ensures.messages, c.in_ok-copied-2.ensures, c.copied-3.ensures, c.in_ok-inbox_copied.ensures) refl
