-- WHAT IS SAID OF A FAULT of a script: the number of its line, and what is wrong there.
use Rattle.std.specs.Prelude.{ℕ, List, ◌++◌, codes, decimal}
use Rattle.script_walk.specs.declared.fault.ScriptFault.{ScriptFault}
use Rattle.script_walk.specs.declared.fault.ScriptFault.TheVariants.{Text, Step, Exhausted}
use Rattle.text_lines.specs.Flaws.{flaw_text}

abbrev pub fault_text : ScriptFault → List ℕ
fault_text (Text n flaw) = codes "line " ++ (decimal n ++ (codes " text" ++ flaw_text flaw))
fault_text (Step n) = codes "line " ++ (decimal n ++ codes " step")
fault_text Exhausted = codes "exhausted"
