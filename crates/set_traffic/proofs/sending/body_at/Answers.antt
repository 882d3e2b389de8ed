use Rattle.std.proofs.Common.{◌∙◌, ap, refl, sym, Some}
use Rattle.set_changeover.specs.Parts.{kept_of}
use Rattle.set_traffic.proofs.Traffic.{found_at, body_is}
use Rattle.set_traffic.proofs.sending.body_at.Goals as goal

pub returns-clause-body : goal.returns-clause-body
returns-clause-body o c = λ s f. body_is (kept_of c.args.parts.now) s f c.args.fate c.args.place c.unwrap-message.result c.requires.standing (sym c.number_at.ensures ∙ c.unwrap-message.ensures) ∙ c.body.ensures

pub body-requires : goal.body-requires
body-requires o c =
    let f = c.requires.holds.1.1.stands in
    let at = found_at _ _ f c.args.fate c.args.place c.unwrap-message.result c.requires.standing (sym c.number_at.ensures ∙ c.unwrap-message.ensures) in
    rw (f.bodies c.unwrap-message.result, at.body_is) refl
