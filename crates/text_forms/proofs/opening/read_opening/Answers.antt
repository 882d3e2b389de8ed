use Rattle.text_forms.proofs.Fitting.{values_fit}
use Rattle.text_forms.proofs.opening.read_opening.Goals as goal

pub ends_of-requires : goal.ends_of-requires
ends_of-requires c =
    let read = c.read_values.ensures in
    let was = c.in_ok-values.was in
    let is = c.in_ok-values.is in
    values_fit c.args.text.now c.in_ok-values.values cc
