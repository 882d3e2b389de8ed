use Rattle.std.proofs.Common.{refl, ap, ◌∙◌, List, [], ◌∷◌, ◌++◌}
use Rattle.set_events.specs.declared.fault.SetFault.{SetFault}
use Rattle.link_term.proofs.SixSteps.{steps_broken, broken_marks, broken_timers, broken_choice, steps_went}
use Rattle.link_term.proofs.turning.from_octet.Goals as goal

pub returns-in_err-marks-clause-steps : goal.returns-in_err-marks-clause-steps
returns-in_err-marks-clause-steps g c =
    let broke = c.in_err-marks.ensures.hears in
    steps_broken _ _ _ _ _ _ _ _ _ c.from_residual.ensures.1 (broken_marks _ c.args.octet _ _ broke.0) broke.1 refl

pub returns-in_err-end_timers-clause-steps : goal.returns-in_err-end_timers-clause-steps
returns-in_err-end_timers-clause-steps g c =
    let heard = c.in_ok-marks.ensures.hears in
    let broke = c.in_err-end_timers.ensures.talks in
    steps_broken _ _ _ _ _ _ _ _ _ c.from_residual-in_err-end_timers.ensures.1
    (broken_timers _ c.args.octet _ _ _ heard.0 _ broke.0)
    (broke.1 ∙ ap (λ (fs : List SetFault). fs ++ c.in_err-end_timers.field-0.0 ∷ []) heard.1) refl

pub returns-in_err-filling-clause-steps : goal.returns-in_err-filling-clause-steps
returns-in_err-filling-clause-steps g c =
    let heard = c.in_ok-marks.ensures.hears in
    let timers = c.in_ok-end_timers.ensures.talks in
    let broke = c.in_err-filling.ensures.fills in
    steps_broken _ _ _ _ _ _ _ _ _ c.from_residual-in_err-filling.ensures.1
    (broken_choice _ c.args.octet _ _ _ heard.0 _ _ _ timers.0 broke.0)
    (broke.1 ∙ ap (λ (fs : List SetFault). fs ++ c.in_err-filling.field-0.0 ∷ []) (timers.1 ∙ heard.1)) broke.2

pub returns-clause-steps : goal.returns-clause-steps
returns-clause-steps g c =
    let heard = c.in_ok-marks.ensures.hears in
    let timers = c.in_ok-end_timers.ensures.talks in
    let fills = c.in_ok-filling.ensures.fills in
    (steps_went _ c.args.octet _ _ _ heard.0 _ _ _ _ _ _ _ timers.0 fills.0, fills.1 ∙ timers.1 ∙ heard.1)
