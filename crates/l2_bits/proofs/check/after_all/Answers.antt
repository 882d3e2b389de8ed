use Rattle.std.proofs.Common.{◌≡◌, ◌<◌, ◌≤◌, [], ◌∷◌, length, List, ℕ, get_or, refl, arith}
use Rattle.std.proofs.lemmas.List.{append-nil}
use Rattle.l2_bits.specs.LineBits.{bits_of, line_bits}
use Rattle.l2_bits.proofs.DivisionLemmas.{DividesTo_none}
use Rattle.l2_bits.proofs.check.after_all.Goals as goal

one_left : (octets : List ℕ) → 1 ≤ length octets → length octets < 2 → line_bits octets ≡ bits_of 8 (get_or octets 0 0)
one_left [] some few = absurd (omega arith)
one_left (octet ∷ []) some few = append-nil (bits_of 8 octet)
one_left (octet ∷ next ∷ octets) some few = absurd (omega arith)

none_left : (octets : List ℕ) → length octets ≡ 0 → line_bits octets ≡ []
none_left [] none = refl
none_left (octet ∷ octets) none = absurd (omega arith)

pub returns-in-len1-up : goal.returns-in-len1-up
returns-in-len1-up c =
    c.loop-left.invariant.completes _ (rw (one_left c.loop-left.left.now (omega arith) (omega arith)) c.after_octet.ensures)

pub returns-in-empty : goal.returns-in-empty
returns-in-empty c =
    c.loop-left.invariant.completes _ (rw (none_left c.loop-left.left.now (omega arith)) (DividesTo_none c.loop-left.register))
