-- THE HISTORY OF AN END: what its set was opened with, and an entry a line, when a script has ended.
use Rattle.std.specs.Prelude.{ℕ, List, [], Option, Some, None}
use Rattle.set_model.specs.History.{LinkSet}
use Rattle.pair_steps.specs.declared.step.End.{End}
use Rattle.pair_model.specs.World.{World, at_end}
use Rattle.text_entries.specs.FirstLine.{history_text}
use Rattle.text_base.specs.Printing.{Printed}
use Rattle.script_walk.specs.declared.fault.ScriptFault.{ScriptFault}
use Rattle.script_walk.specs.Explaining.{IsExplainedText}
use Rattle.script_walk.specs.Scripts.{Told, IsScriptText}
use Rattle.text_lines.specs.Explaining.{Explained}

-- all that a set was asked and answered
abbrev pub set_text : LinkSet → List ℕ
set_text set = history_text set.base.state.settings set.history

-- a script that makes no world has no history
abbrev pub at_the_end : End → Option World → List ℕ
at_the_end end None = []
at_the_end end (Some w) = set_text (at_end w end)

-- what is told of a script: nothing of its lines
abbrev pub history_told : End → Told
history_told end = record {
  opening = λ w. [];
  step = λ n before move shown w. [];
  at_the_end = at_the_end end;
}

-- THE TEXT (script_walk, specs/Scripts.antt)
abbrev pub IsHistoryText : End → List ℕ → Printed ScriptFault → Type 0
IsHistoryText end = IsScriptText (history_told end)

-- the text, with an explanation of the line that ends the script with a fault (script_walk, specs/Explaining.antt)
abbrev pub IsExplainedHistoryText : End → List ℕ → Printed (Explained ScriptFault) → Type 0
IsExplainedHistoryText end = IsExplainedText (history_told end)
