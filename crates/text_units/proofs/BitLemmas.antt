-- Bits as digits
use Rattle.std.proofs.Common.{◌≡◌, Bool, true, false, [], ◌∷◌, arith}
use Rattle.std.proofs.lemmas.Fmt.{decimal_digit}
use Rattle.std.specs.Fmt.{decimal}
use Rattle.text_base.specs.Figures.{bit}

pub yes_is_1 : (yes : Bool) → yes ≡ true → decimal (bit yes) ≡ 49 ∷ []
yes_is_1 true e = decimal_digit 1 (omega arith)
yes_is_1 false e = cc

pub no_is_0 : (yes : Bool) → yes ≡ false → decimal (bit yes) ≡ 48 ∷ []
no_is_0 true e = cc
no_is_0 false e = decimal_digit 0 (omega arith)
