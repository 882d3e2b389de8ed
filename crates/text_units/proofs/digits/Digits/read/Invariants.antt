use Rattle.std.proofs.Common.{List, ℕ, length}
use Rattle.text_base.specs.declared.fault.Stop.{Stop}
use Rattle.text_units.specs.declared.digits.Digits.{Digits}
use Rattle.text_units.specs.declared.fault.UnreadableOctet.{UnreadableOctet}
use Rattle.text_units.specs.UnitsReading.{Decodes, Halts}
use Rattle.text_units.proofs.digits.Digits.read.Given as goal

-- what the characters that are left do completes what all do
abbrev pub invariant-loop-left : goal.invariant-loop-left
invariant-loop-left l = record {
  decodes : (after : List ℕ) (new : Digits) → Decodes l.self l.left l.octets.items after new
      → Decodes l.initial.self l.text l.initial.octets.items after new;
  halts : (stop : Stop UnreadableOctet) (after : List ℕ) → Halts stop l.self l.left l.octets.items after
      → Halts stop l.initial.self l.text l.initial.octets.items after;
}

abbrev pub decreases-loop-left : goal.decreases-loop-left
decreases-loop-left l = length l.left
