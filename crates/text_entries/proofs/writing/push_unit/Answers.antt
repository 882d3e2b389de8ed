use Rattle.std.proofs.Common.{◌≡◌, ◌∙◌, ◌++◌, ap, sym, ℕ, List, append_assoc, Result, Ok, Err, MatchResult, OnOk}
use Rattle.text_base.specs.Figures.{hex_text}
use Rattle.text_base.proofs.FigureLemmas.{hex_append}
use Rattle.text_entries.proofs.writing.push_unit.Goals as goal

pieces : {E : Type 0} (result : Result (Unit {0}) E) (o0 o1 new front body octets : List ℕ)
    → front ++ body ≡ octets → o1 ≡ o0 ++ hex_text front
    → MatchResult result (λ done. new ≡ o1 ++ hex_text body) (λ want. new ≡ o1) → OnOk result (new ≡ o0 ++ hex_text octets)
pieces (Ok done) o0 o1 new front body octets are e1 e2 =
    e2 ∙ ap (λ (x : List ℕ). x ++ hex_text body) e1 ∙ append_assoc o0 (hex_text front) (hex_text body)
    ∙ ap (λ (x : List ℕ). o0 ++ x) (sym (hex_append front body) ∙ ap hex_text are)
pieces (Err want) o0 o1 new front body octets are e1 e2 = tt

pub returns : goal.returns
returns c =
    let body = c.unit_octets-octets.result.body.now in
    let last = c.push_hex-2 in
    pieces last.result c.args.text.now.items c.push_hex.new.text.items last.new.text.items c.as_slice.result.now body _
    (ap (λ (x : List ℕ). x ++ body) c.as_slice.ensures.value ∙ c.unit_octets-octets.ensures)
    c.in_ok-push_hex.ensures last.ensures
