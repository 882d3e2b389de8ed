-- A SCRIPT IS A RUN of its moves, which its lines ask for, from the two ends that its first line makes.
use Rattle.std.specs.Prelude.{◌≡◌, ℕ, List, [], ◌∷◌, ◌++◌, map, Option, Some, None, if◌then◌else◌}
use Rattle.std.specs.Option.{option_map, option_and_then}
use Rattle.l2_units.specs.declared.profile.Profile.{Profile}
use Rattle.pair_steps.specs.declared.step.End.TheVariants.{A, B}
use Rattle.pair_steps.specs.declared.step.Step.{Step}
use Rattle.pair_steps.specs.declared.step.Step.TheVariants.{Together}
use Rattle.pair_model.specs.Run.{leads_to, played_from}
use Rattle.pair_model.specs.World.{World}
use Rattle.pair_rises.specs.declared.moves.Move.{Move}
use Rattle.pair_rises.specs.declared.moves.Move.TheVariants.{Step as MoveStep, Rise}
use Rattle.pair_world.specs.Moved.{moved_from, played_by}
use Rattle.text_forms.specs.declared.opened.Opening.{Opening}
use Rattle.text_forms.specs.declared.opened.Values.{Values}
use Rattle.text_forms.specs.Opened.{IsMadeOf}
use Rattle.text_forms.specs.Moves.{move_of}
use Rattle.text_forms.specs.Opening.{first_line}
use Rattle.text_lines.specs.Lines.{is_remark, lines_of, lines_text}
use Rattle.script_walk.specs.Scripts.{Told, script_rules}

-- the first line that is no remark, and those behind it
abbrev pub behind_remarks : List (List ℕ) → List (List ℕ)
behind_remarks [] = []
behind_remarks (line ∷ lines) = if is_remark line then behind_remarks lines else line ∷ lines

-- the moves that lines ask for, where units have the form of this profile; None: one of them can't be read
abbrev pub moves_of : Profile → List (List ℕ) → Option (List Move)
moves_of profile [] = Some []
moves_of profile (line ∷ lines) =
    if is_remark line then moves_of profile lines
    else option_and_then (λ move. option_map (λ moves. move ∷ moves) (moves_of profile lines))
    (move_of profile line)

-- the first line makes two ends, the moves of the others lead from them to a world, and of that the end of the text tells
pub record IsRunFrom (t : Told) (first : List ℕ) (lines : List (List ℕ)) (printed : List ℕ) : Type 0 where
  pub values : Values
  pub values_are : first_line first ≡ Some values
  pub moves : List Move
  pub moves_are : moves_of values.profile lines ≡ Some moves
  pub new : World
  pub leads : (ends : Opening) → IsMadeOf values ends → played_by ends.a ends.b moves ≡ leads_to new
  pub front : List ℕ
  pub told : printed ≡ front ++ t.at_the_end (Some new)

-- a script of remarks alone makes no ends
abbrev pub IsRunOf : Told → List (List ℕ) → List ℕ → Type 0
IsRunOf t [] printed = printed ≡ t.at_the_end None
IsRunOf t (first ∷ lines) printed = IsRunFrom t first lines printed

-- LAW: of each script that ends without a fault, whatever is told of it
abbrev pub EveryScriptIsARun : Type 0
EveryScriptIsARun =
    (t : Told) (input : List ℕ) → (lines_text (script_rules t) input).fault ≡ None
    → IsRunOf t (behind_remarks (lines_of input)) (lines_text (script_rules t) input).printed

-- LAW: moves that are all steps lead where these lead
abbrev pub StepsLeadAlike : Type 0
StepsLeadAlike =
    (place : ℕ) (w : World) (steps : List Step)
    → moved_from place w (map MoveStep steps) ≡ played_from place w steps

-- each step by which a link comes up at both ends together, as its two rises
abbrev pub rises_of : Move → List Move
rises_of (MoveStep (Together link)) = Rise A link ∷ Rise B link ∷ []
rises_of move = move ∷ []

abbrev pub by_rises : List Move → List Move
by_rises [] = []
by_rises (move ∷ moves) = rises_of move ++ by_rises moves

-- LAW: where moves lead to a world, they lead there by rises, too
abbrev pub RisesLeadAlike : Type 0
RisesLeadAlike =
    (place : ℕ) (w new : World) (moves : List Move) → moved_from place w moves ≡ leads_to new
    → moved_from place w (by_rises moves) ≡ leads_to new
