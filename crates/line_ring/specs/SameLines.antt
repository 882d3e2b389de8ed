-- A line that is joined to itself is the same as long as it loses the same octets.
use Rattle.std.specs.Prelude.{◌≡◌, refl}
use Rattle.std.proofs.Common.{◌∙◌}
use Rattle.line_ring.specs.Lossy.{LossyState}

abbrev pub IsSameLine : LossyState → LossyState → Type 0
IsSameLine first second = second.every ≡ first.every

pub same_itself : (line : LossyState) → IsSameLine line line
same_itself line = refl

pub same_onwards : (first second third : LossyState)
    → IsSameLine first second → IsSameLine second third → IsSameLine first third
same_onwards first second third one two = two ∙ one
