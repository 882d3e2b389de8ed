-- WHAT IS SAID OF A FAULT of an input of `terminal`: the number of its line, and what is wrong there.
use Rattle.std.specs.Prelude.{ℕ, List, ◌++◌, codes, decimal}
use Rattle.terminal_text.specs.declared.fault.TerminalFault.{TerminalFault}
use Rattle.terminal_text.specs.declared.fault.TerminalFault.TheVariants.{Text, Step}
use Rattle.text_lines.specs.Flaws.{flaw_text}

abbrev pub fault_text : TerminalFault → List ℕ
fault_text (Text n flaw) = codes "line " ++ (decimal n ++ (codes " text" ++ flaw_text flaw))
fault_text (Step n) = codes "line " ++ (decimal n ++ codes " step")
