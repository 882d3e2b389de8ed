use Rattle.std.proofs.Common.{◌∙◌}
use Rattle.terminal_text.proofs.HearingLemmas.{stuffed_unit}
use Rattle.terminal_text.proofs.hearing.unit_bits.Goals as goal

pub returns : goal.returns
returns c = stuffed_unit c.args.octets.now _ _ _ _ (c.deref.ensures.0 ∙ c.seal.ensures.text) c.new-bits.ensures c.stuff_into.ensures.text c.flag_into.ensures.text
