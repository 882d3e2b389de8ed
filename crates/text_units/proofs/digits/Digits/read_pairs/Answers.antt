use Rattle.std.proofs.Common.{arith, refl, sym, ◌∙◌, ◌≡◌, ◌<◌, ◌+◌, ◌^◌, ℕ, min}
use Rattle.text_units.proofs.DigitLemmas.{pairs_decoded, none_waits}
use Rattle.text_units.proofs.digits.Digits.read_pairs.Goals as goal

on : (old size new : ℕ) → new ≡ min (old + size) 18446744073709551615 → old + size < 2 ^ 64 → new ≡ old + size
on old size new e fits = omega (arith, e, fits)

pub returns-clause-reads : goal.returns-clause-reads
returns-clause-reads c =
    pairs_decoded c.args.self.now _ c.args.text.now c.push_pairs-left.result.now c.args.octets.now.items c.push_pairs-left.new.octets.items
    (rw c.in_ok-reserve.ensures.items at c.push_pairs-left.ensures.reads) (none_waits c.args.self.now.high (sym c.is_some.ensures ∙ c.if-is_some.false)) refl
    (on c.args.self.now.place _ c.saturating_add-self.result c.saturating_add-self.ensures)
