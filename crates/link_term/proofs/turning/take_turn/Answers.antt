use Rattle.std.proofs.Common.{refl, ap, ◌∙◌, List, [], ◌∷◌, ◌++◌}
use Rattle.set_events.specs.declared.fault.SetFault.{SetFault}
use Rattle.link_term.specs.Standing.{seen_of}
use Rattle.link_term.specs.Talking.{at_door}
use Rattle.link_term.proofs.Passing.{took, none_waited}
use Rattle.link_term.proofs.SixSteps.{turn_broken, breaks_at_command, breaks_after, turn_went, turn_wide}
use Rattle.link_term.proofs.turning.take_turn.Goals as goal

pub returns-in_err-obey-clause-fails : goal.returns-in_err-obey-clause-fails
returns-in_err-obey-clause-fails g c =
    let broke = c.in_err-obey.ensures.talks in
    turn_broken _ _ _ _ _ _ c.from_residual.ensures.1 (breaks_at_command _ _ broke.0 refl refl) broke.1 refl

pub returns-in_err-turned-clause-fails : goal.returns-in_err-turned-clause-fails
returns-in_err-turned-clause-fails g c =
    let obeyed = c.in_ok-obey.ensures.talks in
    let broke = c.in_err-turned.ensures.steps in
    let take = c.take-octet.ensures in
    turn_broken _ _ _ _ _ _ c.from_residual-in_err-turned.ensures.1
    (breaks_after _ _ c.take-octet.result (at_door g.D.Door c.obey.new.inside c.obey.new.door) obeyed.0 broke.0 c.in_err-turned.ensures.taken
    (took c.take-octet.result _ _ _ _ _ _ _ _ take.some take.none take.put take.free)
    (none_waited c.take-octet.result _ _ _ _ take.none))
    (broke.1 ∙ ap (λ (fs : List SetFault). fs ++ c.in_err-turned.field-0.0 ∷ []) obeyed.1) broke.2

pub returns-clause-turns : goal.returns-clause-turns
returns-clause-turns g c =
    let obeyed = c.in_ok-obey.ensures.talks in
    let steps = c.in_ok-turned.ensures.steps in
    let take = c.take-octet.ensures in
    turn_went _ _ _ (at_door g.D.Door c.from_octet.new.inside c.from_octet.new.door) (seen_of g.L.Line c.take-octet.new.self) _ _ _
    (record {
      octet = c.take-octet.result;
      mid = at_door g.D.Door c.obey.new.inside c.obey.new.door;
      obeyed = obeyed.0;
      steps = steps.0;
      taken_is = c.in_ok-turned.ensures.taken;
      passes = took c.take-octet.result _ _ _ _ _ _ _ _ take.some take.none take.put take.free;
      none_waited = none_waited c.take-octet.result _ _ _ _ take.none;
      made_is = refl;
      no_fault = steps.1 ∙ obeyed.1;
    })
    c.put_octet.ensures.puts
    (λ wide. let is = c.is_wide.ensures.1 wide in let not = c.if-is_wide.false in cc)

pub returns-then-is_wide-clause-fails : goal.returns-then-is_wide-clause-fails
returns-then-is_wide-clause-fails g c =
    let obeyed = c.in_ok-obey.ensures.talks in
    let steps = c.in_ok-turned.ensures.steps in
    let take = c.take-octet.ensures in
    turn_wide _ _ _ (at_door g.D.Door c.from_octet.new.inside c.from_octet.new.door) (seen_of g.L.Line c.take-octet.new.self) _ _ _
    (record {
      octet = c.take-octet.result;
      mid = at_door g.D.Door c.obey.new.inside c.obey.new.door;
      obeyed = obeyed.0;
      steps = steps.0;
      taken_is = c.in_ok-turned.ensures.taken;
      passes = took c.take-octet.result _ _ _ _ _ _ _ _ take.some take.none take.put take.free;
      none_waited = none_waited c.take-octet.result _ _ _ _ take.none;
      made_is = refl;
      no_fault = steps.1 ∙ obeyed.1;
    })
    refl refl (c.is_wide.ensures.0 c.if-is_wide.true)
