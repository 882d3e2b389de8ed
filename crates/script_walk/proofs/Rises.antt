-- TOGETHER IN A LIST OF MOVES is two rises.
use Rattle.std.proofs.Common.{refl, ◌≡◌, ◌∙◌, ap, ℕ, suc, Bool, true, false, ◌&&◌, ◌||◌, List, [], ◌∷◌, cond}
use Rattle.set_model.specs.State.{is_settled}
use Rattle.pair_steps.specs.declared.step.End.TheVariants.{A, B}
use Rattle.pair_steps.specs.declared.step.Shown.{Shown}
use Rattle.pair_steps.specs.declared.step.Shown.TheVariants.{Up}
use Rattle.pair_steps.specs.declared.step.Step.TheVariants.{Act, Emit, Arrive, Lose, Together, Inject}
use Rattle.pair_model.specs.Run.{Played, goes_on as plays_on, leads_to, no_past}
use Rattle.pair_model.specs.World.{World, Outcome, shows, impossible, exhausted, carried_out, has_link, is_full, risen}
use Rattle.pair_rises.specs.declared.moves.Move.{Move}
use Rattle.pair_rises.specs.declared.moves.Move.TheVariants.{Step as MoveStep, Rise, Fill}
use Rattle.pair_rises.specs.Rises.{AreTwoRises, all_inside, moved}
use Rattle.pair_rises.proofs.Together.{together_is_two}
use Rattle.pair_world.specs.Moved.{moved_from}
use Rattle.script_walk.specs.Runs.{RisesLeadAlike, by_rises}

-- a step of both ends shows that the link came up
only_up : (known both full : Bool) (up w : World) (s : Shown) → cond known (cond both (cond full exhausted (shows Up up)) impossible) impossible ≡ shows s w → s ≡ Up
only_up true true false up w s is = cc
only_up true true true up w s is = absurd cc
only_up true false full up w s is = absurd cc
only_up false both full up w s is = absurd cc

shows_up : (w new : World) (link : ℕ) (s : Shown) → carried_out w (Together link) ≡ shows s new → s ≡ Up
unfolding carried_out
shows_up w new link s is =
    only_up (has_link w link) (is_settled link w.a.state && is_settled link w.b.state) (is_full w.a || is_full w.b) (risen w link) new s is

-- what goes on behind a move
onward : (place place' : ℕ) (o : Outcome) (f f' : World → Played) (new : World) → ((w : World) → f w ≡ leads_to new → f' w ≡ leads_to new)
    → plays_on place o f ≡ leads_to new → plays_on place' o f' ≡ leads_to new
onward place place' (shows s w) f f' new on is = on w is
onward place place' impossible f f' new on is = absurd (cc is)
onward place place' exhausted f f' new on is = absurd (cc is)

both : (place place' : ℕ) (w new : World) (link : ℕ) (moves : List Move) (o : Outcome)
    → ((v : World) → moved_from (suc place) v moves ≡ leads_to new → moved_from (suc (suc place')) v (by_rises moves) ≡ leads_to new)
    → carried_out w (Together link) ≡ o → plays_on place o (λ v. moved_from (suc place) v moves) ≡ leads_to new
    → moved_from place' w (Rise A link ∷ Rise B link ∷ by_rises moves) ≡ leads_to new
both place place' w new link moves (shows s up) rest same is =
    let came : carried_out w (Together link) ≡ shows Up up = same ∙ ap (λ (t : Shown). shows t up) (shows_up w up link s same) in
    let two : AreTwoRises (record { stage = record { world = w; a = no_past; b = no_past }; open_a = all_inside; open_b = all_inside }) link up =
    together_is_two (record { stage = record { world = w; a = no_past; b = no_past }; open_a = all_inside; open_b = all_inside }) link up came in
    ap (λ (x : Outcome). plays_on place' x (λ v. moved_from (suc place') v (Rise B link ∷ by_rises moves))) two.first
    ∙ ap (λ (x : Outcome). plays_on (suc place') x (λ v. moved_from (suc (suc place')) v (by_rises moves))) two.second
    ∙ rest up is
both place place' w new link moves impossible rest same is = absurd (cc is)
both place place' w new link moves exhausted rest same is = absurd (cc is)

lead : (place place' : ℕ) (w new : World) (moves : List Move) → moved_from place w moves ≡ leads_to new → moved_from place' w (by_rises moves) ≡ leads_to new
lead place place' w new [] is = is
lead place place' w new (MoveStep (Together link) ∷ moves) is =
    both place place' w new link moves (carried_out w (Together link)) (λ v. lead (suc place) (suc (suc place')) v new moves) refl is
lead place place' w new (MoveStep (Act actor event) ∷ moves) is = onward place place' (moved w (MoveStep (Act actor event))) _ _ new (λ v. lead (suc place) (suc place') v new moves) is
lead place place' w new (MoveStep (Emit end link) ∷ moves) is = onward place place' (moved w (MoveStep (Emit end link))) _ _ new (λ v. lead (suc place) (suc place') v new moves) is
lead place place' w new (MoveStep (Arrive end link) ∷ moves) is = onward place place' (moved w (MoveStep (Arrive end link))) _ _ new (λ v. lead (suc place) (suc place') v new moves) is
lead place place' w new (MoveStep (Lose end link at) ∷ moves) is = onward place place' (moved w (MoveStep (Lose end link at))) _ _ new (λ v. lead (suc place) (suc place') v new moves) is
lead place place' w new (MoveStep (Inject end link unit) ∷ moves) is = onward place place' (moved w (MoveStep (Inject end link unit))) _ _ new (λ v. lead (suc place) (suc place') v new moves) is
lead place place' w new (Rise end link ∷ moves) is = onward place place' (moved w (Rise end link)) _ _ new (λ v. lead (suc place) (suc place') v new moves) is
lead place place' w new (Fill end link ∷ moves) is = onward place place' (moved w (Fill end link)) _ _ new (λ v. lead (suc place) (suc place') v new moves) is

pub rises_lead_alike : RisesLeadAlike
rises_lead_alike place w new moves is = lead place place w new moves is
