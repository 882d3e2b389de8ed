use Rattle.text_entries.proofs.Pieces.{sealed_pieces}
use Rattle.text_entries.proofs.texts.push_sealed.Goals as goal

pub returns : goal.returns
returns c =
    let last = c.push_hex-3 in
    sealed_pieces last.result c.args.front.now c.args.rest.now c.check_octets_of.result c.args.out.now.items c.push_hex.new.text.items c.push_hex-2.new.text.items last.new.text.items
    c.check_octets_of.ensures c.in_ok-push_hex.ensures c.in_ok-push_hex-2.ensures last.ensures
