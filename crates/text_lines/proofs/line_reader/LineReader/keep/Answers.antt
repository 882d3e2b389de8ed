use Rattle.std.proofs.Common.{arith, refl, length-append}
use Rattle.text_lines.proofs.LineLemmas.{open_more}
use Rattle.text_lines.proofs.ReaderLemmas.{adds_octets, halts_long}
use Rattle.text_lines.proofs.line_reader.LineReader.keep.Goals as goal

pub returns-then-octets-LONGEST_LINE : goal.returns-then-octets-LONGEST_LINE
returns-then-octets-LONGEST_LINE g c =
    rw (← c.self.view_is, c.very_long.ensures) (λ out. halts_long g.L.LineText.is_text g.L.LineText.has_read g.L.LineText.LONGEST_LINE g.L.LineText.very_long c.laws.ensures.refuses _ c.args.octets.now out c.self.invariant.is_open c.requires (omega (arith, c.if-octets-LONGEST_LINE.true, c.len.ensures, c.self.invariant.short)))

pub invariant_of-self-2 : goal.invariant_of-self-2
invariant_of-self-2 g c =
    rw c.in_ok-extend_from_slice.ensures.items (record {
      short = omega (arith, length-append c.self.inside.text.items c.args.octets.now, c.if-octets-LONGEST_LINE.false, c.len.ensures, c.self.invariant.short);
      is_open = open_more c.self.inside.text.items c.args.octets.now c.self.invariant.is_open c.requires;
    })

pub returns : goal.returns
returns g c = rw (← c.self.view_is) (λ out. adds_octets g.L.LineText.is_text g.L.LineText.has_read _ c.args.octets.now out _ refl refl c.in_ok-extend_from_slice.ensures.items)
