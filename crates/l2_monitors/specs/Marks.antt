-- A monitor is given a list of marks, one for each signal unit received and one for each 16 octets of octet
-- counting (Q.703 10.2): `true` is an error, `false` a good unit.
use Rattle.std.specs.Prelude.{ℕ, ◌+◌, Bool, true, false, List, [], ◌∷◌}

-- how many of the marks are errors
abbrev pub errors : List Bool → ℕ
errors [] = 0
errors (true ∷ marks) = errors marks + 1
errors (false ∷ marks) = errors marks
