-- Walks over lists of inputs.
use Rattle.std.proofs.Common.{◌≡◌, ◌⊎◌, inl, inr, Some, List, [], ◌∷◌, ◌++◌, refl, ap, subst, ◌∙◌}
use Rattle.l2_state.specs.declared.link_state.State.{State}
use Rattle.l2_state.specs.declared.signals.StateIn.{StateIn}
use Rattle.l2_state.specs.declared.signals.Indication.{Indication}
use Rattle.l2_state.specs.Laws.{UpOnlyFromReady, HasStart, StartBetweenDowns}
use Rattle.l2_state.specs.Runs.{after}
use Rattle.l2_state.specs.Table.{row}
use Rattle.l2_state.proofs.Steps.{up_from, down_leads, no_down}

pub up_only_from_ready : UpOnlyFromReady
up_only_from_ready past input h = up_from (after State.OutOfService past) input h

after-append : (s : State) (xs ys : List StateIn) → after s (xs ++ ys) ≡ after (after s xs) ys
after-append s [] ys = refl
after-append s (i ∷ xs) ys = after-append (row s i).next xs ys

-- out of service, a link stays so until a Start
started_or : (i : StateIn) (is : List StateIn) → HasStart is ⊎ (after State.OutOfService is ≡ State.OutOfService) → HasStart (i ∷ is) ⊎ (after State.OutOfService (i ∷ is) ≡ State.OutOfService)
started_or StateIn.Start is h = inl (record { before = []; since = is; split = refl })
started_or i is (inl h) =
    inl (record { before = i ∷ h.before; since = h.since; split = ap (λ xs. i ∷ xs) h.split })
started_or _ is (inr e) = inr e

started : (is : List StateIn) → HasStart is ⊎ (after State.OutOfService is ≡ State.OutOfService)
started [] = inr refl
started (i ∷ is) = started_or i is (started is)

pub start_between_downs : StartBetweenDowns
start_between_downs past first between second c d h k =
    let joins : after State.OutOfService (past ++ first ∷ between) ≡ after (row (after State.OutOfService past) first).next between = after-append State.OutOfService past (first ∷ between) in
    let down : (row (after State.OutOfService past) first).next ≡ State.OutOfService = down_leads (after State.OutOfService past) first c h in
    elim (started between) [
      | inl start ↦ start
      | inr stays ↦
          let there : after State.OutOfService (past ++ first ∷ between) ≡ State.OutOfService = joins ∙ (ap (λ s. after s between) down ∙ stays) in
          absurd (no_down second d (subst (λ (s : State). (row s second).out.indication ≡ Some (Indication.Down d)) there k))
    ]
