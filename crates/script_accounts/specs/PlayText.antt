-- THE TEXT OF `play`: each line prints the answer of what it asks for, and how both ends stand comes behind the last.
use Rattle.std.specs.Prelude.{ℕ, List, [], ◌++◌, Option, Some, None}
use Rattle.pair_steps.specs.declared.step.End.TheVariants.{A, B}
use Rattle.pair_model.specs.World.{World, counts_at}
use Rattle.text_entries.specs.Reasons.{named}
use Rattle.text_entries.specs.Texts.{shown_text, end_text}
use Rattle.text_base.specs.Printing.{Printed}
use Rattle.script_walk.specs.declared.fault.ScriptFault.{ScriptFault}
use Rattle.script_walk.specs.Scripts.{Told, profile_of, IsScriptText}
use Rattle.text_lines.specs.Explaining.{Explained}
use Rattle.script_walk.specs.Explaining.{IsExplainedText}

-- how the ends stand when the script has ended, a first
unfoldable pub ends_text : World → List ℕ
ends_text w = end_text A (counts_at w A) ++ end_text B (counts_at w B)

abbrev pub at_the_end : Option World → List ℕ
at_the_end None = []
at_the_end (Some w) = ends_text w

-- what is told of a script: nothing of the line that makes the world, and what each further one showed, in a wording
abbrev pub answers_told : (List ℕ → List ℕ) → Told
answers_told worded = record {
  opening = λ w. [];
  step = λ n before move shown w. worded (shown_text (profile_of w) shown);
  at_the_end = at_the_end;
}

-- in numbers alone
abbrev pub play_told : Told
play_told = answers_told (λ text. text)

-- THE TEXT (script_walk, specs/Scripts.antt)
abbrev pub IsPlayText : List ℕ → Printed ScriptFault → Type 0
IsPlayText = IsScriptText play_told

-- what is told in words: a number that tells a reason has its words behind it
abbrev pub named_told : Told
named_told = answers_told named

-- the text in words, with an explanation of the line that ends it with a fault (script_walk, specs/Explaining.antt)
abbrev pub IsExplainedPlayText : List ℕ → Printed (Explained ScriptFault) → Type 0
IsExplainedPlayText = IsExplainedText named_told
