-- A SCRIPT OF TWO ENDS with explanations: what is said of a line that ends it with a fault.
use Rattle.std.specs.Prelude.{ℕ, List, Option, Some, None}
use Rattle.std.specs.Option.{option_map}
use Rattle.std.specs.Result.{result_err}
use Rattle.set_model.specs.State.{link_count}
use Rattle.pair_model.specs.World.{World}
use Rattle.pair_rises.specs.declared.moves.Move.{Move}
use Rattle.text_forms.specs.Impossible.{blamed_impossible}
use Rattle.text_forms.specs.Moves.{move_of, move_read}
use Rattle.text_forms.specs.Opening.{opening_read}
use Rattle.text_forms.specs.Showing.{explanation}
use Rattle.text_forms.specs.declared.words.Blame.{Blame}
use Rattle.text_lines.specs.Explaining.{Explained, explained_rules}
use Rattle.text_lines.specs.Talks.{IsTalkText, by_function}
use Rattle.text_base.specs.Printing.{Printed}
use Rattle.script_walk.specs.declared.explaining.Made.{Made}
use Rattle.script_walk.specs.declared.fault.ScriptFault.{ScriptFault}
use Rattle.script_walk.specs.declared.fault.ScriptFault.TheVariants.{Text, Step, Exhausted}
use Rattle.script_walk.specs.Scripts.{Told, profile_of, script_rules}

-- how many links there are and of which profile, once the first line has made the world
abbrev pub made_in : Option World → Option Made
made_in world = option_map (λ w. record { links = link_count w.a.state; profile = profile_of w }) world

-- the word at fault of a line that can't be read
abbrev pub unread : Option Made → List ℕ → Option Blame
unread None text = result_err (opening_read text)
unread (Some made) text = result_err (move_read made.profile text)

-- the word at fault of a line whose move can't be made
abbrev pub undone_move : ℕ → List ℕ → Option Move → Option Blame
undone_move links text None = None
undone_move links text (Some move) = Some (blamed_impossible links move text)

abbrev pub undone : Option Made → List ℕ → Option Blame
undone None text = None
undone (Some made) text = undone_move made.links text (move_of made.profile text)

-- the lines that explain a fault on this line, in a world that was made so
abbrev pub said : Option Made → List ℕ → ScriptFault → Option (List ℕ)
said made text (Text n flaw) = option_map (λ blame. explanation n blame text) (unread made text)
said made text (Step n) = option_map (λ blame. explanation n blame text) (undone made text)
said made text Exhausted = None

-- THE TEXT: that of the script, with an explanation of the fault
abbrev pub IsExplainedText : Told → List ℕ → Printed (Explained ScriptFault) → Type 0
IsExplainedText t = IsTalkText (explained_rules (by_function (script_rules t)) (λ world. said (made_in world)))
