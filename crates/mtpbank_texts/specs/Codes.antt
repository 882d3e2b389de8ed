-- WHAT THE FUNCTION ANSWERS IN C.
use Rattle.std.specs.Prelude.{ℤ, pos, Result, Ok, Err}
use Rattle.text_calls.specs.Numbers.{refusal_number}
use Rattle.text_calls.specs.declared.telling.TextRefusal.{TextRefusal}

-- 0 where it was done, else the number of its refusal
abbrev pub code_of : Result (Unit {0}) TextRefusal → ℤ
code_of (Ok done) = pos 0
code_of (Err refusal) = pos (refusal_number refusal)
