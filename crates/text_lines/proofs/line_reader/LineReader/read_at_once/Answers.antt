use Rattle.std.proofs.Common.{refl, arith, ◌≡◌, ◌∷◌, ◌++◌, []}
use Rattle.std.proofs.lemmas.Grind.{common_steps}
use Rattle.text_base.proofs.PrintLemmas.{passed_on}
use Rattle.text_lines.proofs.ReaderLemmas.{ends_a_line, halts_line, halts_long, halts_before}
use Rattle.text_lines.specs.Under.{text_by}
use Rattle.text_lines.proofs.line_reader.LineReader.read_at_once.Goals as goal

pub returns-then-octets-LONGEST_LINE : goal.returns-then-octets-LONGEST_LINE
returns-then-octets-LONGEST_LINE g c =
    rw (← c.self.view_is, c.very_long.ensures)
    (halts_before (text_by g.L.LineText.is_text) _ _ c.args.octets.now (10 ∷ []) _ _
    (halts_long g.L.LineText.is_text g.L.LineText.has_read g.L.LineText.LONGEST_LINE g.L.LineText.very_long c.laws.ensures.refuses _ c.args.octets.now c.args.out.now.items c.self.invariant.is_open c.requires.open (omega (arith, c.if-octets-LONGEST_LINE.true))))

pub returns : goal.returns
returns g c =
    let none : c.self.inside.text.items ≡ [] = rw (← c.self.view_is) at c.requires.begins in
    let whole : c.args.octets.now ≡ c.self.inside.text.items ++ c.args.octets.now = rw none refl in
    rw (← c.self.view_is) (ends_a_line g.L.LineText.is_text g.L.LineText.has_read _ c.args.octets.now c.args.octets.now _ _ _ whole c.requires.open c.in_ok-line.ensures (λ room. grind (arith, common_steps, c.saturating_add-self-inside.ensures, room)) none)

pub returns-in_err-line : goal.returns-in_err-line
returns-in_err-line g c =
    let none : c.self.inside.text.items ≡ [] = rw (← c.self.view_is) at c.requires.begins in
    let whole : c.args.octets.now ≡ c.self.inside.text.items ++ c.args.octets.now = rw none refl in
    rw (← c.self.view_is, passed_on c.from_residual.result c.in_err-line.field-0.0 c.from_residual.ensures.1)
    (halts_line g.L.LineText.is_text g.L.LineText.has_read c.in_err-line.field-0.0 _ c.args.octets.now c.args.octets.now _ _ whole c.requires.open c.in_err-line.ensures)
