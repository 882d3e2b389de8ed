use Rattle.std.proofs.Common.{arith, sym, ◌∙◌}
use Rattle.l2_window.proofs.Numbers.{most_small}
use Rattle.l2_pcr.proofs.Choosing.{again_within}
use Rattle.l2_pcr.proofs.pcr.Pcr.send.Goals as goal

pub overflow_add-more : goal.overflow_add-more
overflow_add-more o c =
    let within = again_within c.args.octets c.args.self.now c.args.window.now c.in-Again.place (sym c.requires ∙ c.in-Again.is) in
    omega (arith, within, c.unacked_len-messages.ensures.sound.few, most_small c.args.window.now.profile)
