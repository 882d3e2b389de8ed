-- WHAT A REASON SAYS of the world in which a move can't be made.
use Rattle.std.specs.Prelude.{◌≡◌, ◌≤◌, ℕ, false, List, [], length, Some}
use Rattle.l2_units.specs.declared.profile.Profile.{Profile}
use Rattle.set_model.specs.State.{is_settled, link_count}
use Rattle.pair_steps.specs.declared.step.Step.TheVariants.{Act, Emit, Arrive, Lose, Together, Inject}
use Rattle.pair_model.specs.World.{World, impossible, actor_of, at_end, has_actor, has_link, is_settled_at_both, line_to}
use Rattle.pair_rises.specs.declared.moves.Move.{Move}
use Rattle.pair_rises.specs.declared.moves.Move.TheVariants.{Step as MoveStep, Rise, Fill}
use Rattle.pair_rises.specs.Rises.{moved}
use Rattle.text_forms.specs.Moves.{move_of}
use Rattle.text_forms.specs.declared.mistake.Mistake.{Mistake}
use Rattle.text_forms.specs.declared.mistake.Mistake.TheVariants.{NoSuchLink, NotSettled, NotSettledThere, NothingUnderWay, NoUnitThere}
use Rattle.text_forms.specs.Impossible.{why_not}

-- the move is about a link that the world hasn't
abbrev pub HasNoLink : World → Move → Type 0
HasNoLink w (MoveStep (Act end event)) = has_actor w (actor_of event) ≡ false
HasNoLink w (MoveStep (Emit end link)) = has_link w link ≡ false
HasNoLink w (MoveStep (Arrive end link)) = has_link w link ≡ false
HasNoLink w (MoveStep (Lose end link place)) = has_link w link ≡ false
HasNoLink w (MoveStep (Together link)) = has_link w link ≡ false
HasNoLink w (MoveStep (Inject end link unit)) = has_link w link ≡ false
HasNoLink w (Rise end link) = has_link w link ≡ false
HasNoLink w (Fill end link) = has_link w link ≡ false

-- what each of them says; of another move it would be wrong
abbrev pub IsSo : Mistake → World → Move → Type 0
IsSo NoSuchLink w move = HasNoLink w move
IsSo NotSettled w (MoveStep (Together link)) = is_settled_at_both w link ≡ false
IsSo NotSettledThere w (Rise end link) = is_settled link (at_end w end).state ≡ false
IsSo NothingUnderWay w (MoveStep (Arrive end link)) = line_to w end link ≡ []
IsSo NoUnitThere w (MoveStep (Lose end link place)) = length (line_to w end link) ≤ place
IsSo _ w move = ⊥

-- LAW: of each line whose move can't be made
abbrev pub EveryReasonIsSo : Type 0
EveryReasonIsSo =
    (w : World) (profile : Profile) (text : List ℕ) (move : Move) → move_of profile text ≡ Some move
    → moved w move ≡ impossible
    → IsSo (why_not (link_count w.a.state) move).1 w move
