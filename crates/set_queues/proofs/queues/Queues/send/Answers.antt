use Rattle.std.proofs.Common.{arith, ◌<◌, length}
use Rattle.set_queues.proofs.Linked.{of_link}
use Rattle.set_queues.proofs.Soundness.{sound_sent}
use Rattle.set_queues.proofs.queues.Queues.send.Goals as goal

pub invariant_of-self-2 : goal.invariant_of-self-2
invariant_of-self-2 o c =
    let sent = c.in_ok-number.ensures.sent in
    let full = c.in_ok-number.ensures.full in
    let known : c.args.link < length c.self.inside.buffers.lists.links = rw (← c.self.view_is) at c.requires in
    rw c.restand.ensures.items (
    sound_sent _ _ _ c.args.link c.in_ok-number.number c.self.invariant known (grind (arith, of_link)) (grind (arith, of_link)) (grind (arith, of_link)))
