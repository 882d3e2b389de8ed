use Rattle.std.proofs.Common.{refl, arith, sym, ◌∙◌, ap, ◌≡◌, ◌<◌, ◌+◌, ◌^◌, ℕ, min}
use Rattle.std.specs.Option.{option_map}
use Rattle.text_base.specs.declared.fault.Stop.TheVariants.{Memory}
use Rattle.text_units.specs.declared.digit.Digit.{Digit}
use Rattle.text_base.proofs.PrintLemmas.{passed_on}
use Rattle.text_units.proofs.DigitLemmas.{decodes_blank, decodes_first, decodes_second, halts_for_memory, halts_bad}
use Rattle.text_units.proofs.digits.Digits.take.Goals as goal

next : (old new : ℕ) → new ≡ min (old + 1) 18446744073709551615 → old + 1 < 2 ^ 64 → new ≡ old + 1
next old new e fits = omega (arith, e, fits)

pub returns-then-is_skipped : goal.returns-then-is_skipped
returns-then-is_skipped c =
    decodes_blank c.args.self.now _ c.args.c c.args.octets.now.items (sym c.in_default.ensures) (sym c.is_skipped.ensures ∙ c.if-is_skipped.true) refl
    (next c.args.self.now.place c.saturating_add-self.result c.saturating_add-self.ensures)

pub returns-in_default : goal.returns-in_default
returns-in_default c = halts_bad c.args.self.now c.args.c c.args.octets.now.items (sym c.is_skipped.ensures ∙ c.if-is_skipped.false) (sym c.in_default.ensures)

pub returns-in_default-high : goal.returns-in_default-high
returns-in_default-high c =
    decodes_first c.args.self.now _ c.args.c c.in-Some.digit.value c.args.octets.now.items (sym c.in-Some.ensures) c.in_default-high.is refl
    (next c.args.self.now.place c.saturating_add-self.result c.saturating_add-self.ensures)

pub returns : goal.returns
returns c =
    decodes_second c.args.self.now _ c.args.c c.in-Some-high.high.value c.in-Some.digit.value c.args.octets.now.items c.push.new.self.items (sym c.in-Some.ensures)
    (ap (option_map (λ (digit : Digit). digit.value)) c.in-Some-high.is) refl
    (next c.args.self.now.place c.saturating_add-self.result c.saturating_add-self.ensures) c.in_ok-push.ensures.items

pub returns-in_err-push : goal.returns-in_err-push
returns-in_err-push c =
    rw (passed_on c.from_residual.result Memory c.from_residual.ensures.1)
    (halts_for_memory c.args.self.now _ c.args.octets.now.items c.push.new.self.items c.in_err-push.ensures.items)
