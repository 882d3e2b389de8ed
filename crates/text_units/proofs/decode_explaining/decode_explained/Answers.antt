use Rattle.text_lines.proofs.FunctionLemmas.{alike_all}
use Rattle.text_lines.specs.Explaining.{fault_alone}
use Rattle.l2_units.specs.declared.profile.Profile.TheVariants.{Narrow, Wide}
use Rattle.text_units.specs.Decoding.{decode_rules}
use Rattle.text_units.proofs.decode_explaining.decode_explained.Goals as goal

pub returns-in-Narrow-clause-same : goal.returns-in-Narrow-clause-same
returns-in-Narrow-clause-same g c = rw c.in-Narrow.is (alike_all (decode_rules Narrow) (fault_alone c.print_explained.result) _ _ _ c.print_explained.ensures.same)

pub returns-in-Wide-clause-same : goal.returns-in-Wide-clause-same
returns-in-Wide-clause-same g c = rw c.in-Wide.is (alike_all (decode_rules Wide) (fault_alone c.print_explained-in-Wide.result) _ _ _ c.print_explained-in-Wide.ensures.same)
