-- An end is the same as itself, and as what becomes of the same.
use Rattle.std.specs.Prelude.{refl}
use Rattle.std.proofs.Common.{◌∙◌}
use Rattle.line_ring.specs.declared.ring.RingLine.{RingLine}
use Rattle.line_ring.specs.Rings.{IsSameEnd}

pub same_itself : {A : Type 0} (line : RingLine A) → IsSameEnd line line
same_itself line = (((refl, refl, refl, refl), refl), ((refl, refl, refl, refl), refl))

pub same_onwards : {A : Type 0} (first second third : RingLine A)
    → IsSameEnd first second → IsSameEnd second third → IsSameEnd first third
same_onwards first second third one two = (
  ((two.0.0.0 ∙ one.0.0.0, two.0.0.1 ∙ one.0.0.1, two.0.0.2 ∙ one.0.0.2, two.0.0.3 ∙ one.0.0.3), two.0.1 ∙ one.0.1),
  ((two.1.0.0 ∙ one.1.0.0, two.1.0.1 ∙ one.1.0.1, two.1.0.2 ∙ one.1.0.2, two.1.0.3 ∙ one.1.0.3), two.1.1 ∙ one.1.1),
)
