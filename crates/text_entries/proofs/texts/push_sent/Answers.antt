use Rattle.std.proofs.Common.{◌≡◌, ◌∙◌, ◌++◌, ap, sym, ℕ, List, codes}
use Rattle.l2_bits.specs.SealedText.{sealed_text}
use Rattle.l2_units.specs.Lent.{unit_in}
use Rattle.text_base.specs.Figures.{hex_text}
use Rattle.text_entries.specs.Texts.{unit_octets}
use Rattle.text_entries.proofs.Pieces.{behind}
use Rattle.text_entries.proofs.texts.push_sent.Goals as goal

pub returns : goal.returns
returns c =
    let last = c.push_piece-2 in
    let body = c.unit_octets-octets.result.body.now in
    let octets = c.as_slice.result.now ++ body in
    let are : octets ≡ unit_octets c.args.profile (unit_in c.args.unit.now) = ap (λ (x : List ℕ). x ++ body) c.as_slice.ensures.value ∙ c.unit_octets-octets.ensures in
    rw (sym are)
    (behind last.result c.args.out.now.items c.push_piece.new.out.items (codes "sent ") (hex_text (sealed_text octets) ++ codes "\n") last.new.out.items c.in_ok-push_piece.ensures
    (behind last.result c.push_piece.new.out.items c.push_sealed.new.out.items (hex_text (sealed_text octets)) (codes "\n") last.new.out.items c.in_ok-push_sealed.ensures last.ensures))
