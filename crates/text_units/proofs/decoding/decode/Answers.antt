use Rattle.text_lines.proofs.FunctionLemmas.{alike_all}
use Rattle.l2_units.specs.declared.profile.Profile.TheVariants.{Narrow, Wide}
use Rattle.text_units.specs.Decoding.{decode_rules}
use Rattle.text_units.proofs.decoding.decode.Goals as goal

pub returns-in-Narrow-clause-text : goal.returns-in-Narrow-clause-text
returns-in-Narrow-clause-text g c = rw c.in-Narrow.is (alike_all (decode_rules Narrow) c.print_talk.result _ _ _ c.print_talk.ensures.text)

pub returns-in-Wide-clause-text : goal.returns-in-Wide-clause-text
returns-in-Wide-clause-text g c = rw c.in-Wide.is (alike_all (decode_rules Wide) c.print_talk-in-Wide.result _ _ _ c.print_talk-in-Wide.ensures.text)
