use Rattle.std.proofs.Common.{arith, ap, ◌≡◌, ◌∙◌, length}
use Rattle.l2_bits.specs.Deframing.{rest_of}
use Rattle.l2_bits.specs.LineBits.{line_bits}
use Rattle.l2_bits.proofs.BitLemmas.{length-bits_of}
use Rattle.link_term.proofs.Feeding.{all_fed, octet_taken, octet_heard}
use Rattle.link_term.proofs.receiver.Receiver.hear.Goals as goal

pub hear_bits-heard-requires-clause-few : goal.hear_bits-heard-requires-clause-few
hear_bits-heard-requires-clause-few g c =
    let eight : length (rest_of c.new.result) ≡ 8 = ap length c.new.ensures ∙ length-bits_of 8 c.args.octet in
    omega (arith, eight)

pub invariant_of-self : goal.invariant_of-self
invariant_of-self g c =
    let hears = c.hear_bits-heard.ensures.hears (line_bits c.self.inside.taken) c.self.invariant in
    octet_taken c.self.inside.taken c.note.new.self c.args.octet _ _ c.note.ensures c.new.ensures
    (all_fed _ _ _ _ _ _ hears)

pub returns-clause-hears : goal.returns-clause-hears
returns-clause-hears g c =
    let hears = c.hear_bits-heard.ensures.hears (line_bits c.self.inside.taken) c.self.invariant in
    octet_heard _ _ _ _ _ _ _ _ (ap line_bits c.self.view_is) c.new.ensures hears
