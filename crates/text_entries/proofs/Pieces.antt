-- Pieces of a text behind one another.
use Rattle.std.proofs.Common.{◌≡◌, ◌∙◌, ℕ, List, ◌++◌, length, take, ap, sym, arith, append_assoc, ◌≤◌, Result, Ok, Err, MatchResult, take-take, length-append, codes, decimal}
use Rattle.std.proofs.Math.Seq.{take-append_seam}
use Rattle.std.proofs.lemmas.List.{take_all}
use Rattle.l2_bits.specs.SealedText.{check_octets, sealed_text}
use Rattle.text_base.specs.Figures.{hex_text}
use Rattle.text_base.proofs.FigureLemmas.{hex_append}
use Rattle.set_events.specs.declared.answer.Report.{Report}
use Rattle.text_entries.specs.Texts.{Appends, report_text, flags_text, took_text}

-- a piece that was written, and a text behind it
pub behind : {E : Type 0} (result : Result (Unit {0}) E) (old middle piece more new : List ℕ) → middle ≡ old ++ piece
    → Appends result middle more new → Appends result old (piece ++ more) new
behind (Ok done) old middle piece more new e f = f ∙ ap (λ (x : List ℕ). x ++ more) e ∙ append_assoc old piece more
behind (Err want) old middle piece more new e f =
    let shorter : length old ≤ length middle = rw (e, length-append old piece) (omega arith) in
    sym (take-take (length old) (length middle) new shorter) ∙ ap (take (length old)) (f ∙ e) ∙ take-append_seam old piece

-- the pieces of what a heard unit did
pub report_pieces : {E : Type 0} (result : Result (Unit {0}) E) (r : Report) (took : List ℕ) (o0 o1 o2 new : List ℕ)
    → took ≡ codes " took=" ++ took_text r.took → o1 ≡ o0 ++ (codes "heard acked=" ++ decimal r.acked) → o2 ≡ o1 ++ took
    → Appends result o2 (flags_text r) new → Appends result o0 (report_text r) new
report_pieces result r took o0 o1 o2 new word e1 e2 end =
    behind result o0 o1 (codes "heard acked=" ++ decimal r.acked) (codes " took=" ++ (took_text r.took ++ flags_text r)) new e1
    (behind result o1 o2 (codes " took=" ++ took_text r.took) (flags_text r) new (rw word at e2) end)

-- a piece that was written whole, or not at all
appends : {E : Type 0} (result : Result (Unit {0}) E) (old piece new : List ℕ)
    → MatchResult result (λ done. new ≡ old ++ piece) (λ want. new ≡ old) → Appends result old piece new
appends (Ok done) old piece new e = e
appends (Err want) old piece new e = ap (take (length old)) e ∙ take_all (length old) old (omega arith)

-- the octets in hexadecimal, and their check octets
sealed_in_hex : (front rest : List ℕ)
    → hex_text (sealed_text (front ++ rest)) ≡ hex_text front ++ (hex_text rest ++ hex_text (check_octets (front ++ rest)))
unfolding sealed_text
sealed_in_hex front rest =
    hex_append (front ++ rest) (check_octets (front ++ rest))
    ∙ ap (λ (x : List ℕ). x ++ hex_text (check_octets (front ++ rest))) (hex_append front rest)
    ∙ append_assoc (hex_text front) (hex_text rest) (hex_text (check_octets (front ++ rest)))

pub sealed_pieces : {E : Type 0} (result : Result (Unit {0}) E) (front rest check o0 o1 o2 new : List ℕ)
    → check ≡ check_octets (front ++ rest) → o1 ≡ o0 ++ hex_text front → o2 ≡ o1 ++ hex_text rest
    → MatchResult result (λ done. new ≡ o2 ++ hex_text check) (λ want. new ≡ o2)
    → Appends result o0 (hex_text (sealed_text (front ++ rest))) new
sealed_pieces result front rest check o0 o1 o2 new are e1 e2 last =
    rw (sealed_in_hex front rest, sym are)
    (behind result o0 o1 (hex_text front) (hex_text rest ++ hex_text check) new e1
    (behind result o1 o2 (hex_text rest) (hex_text check) new e2 (appends result o2 (hex_text check) new last)))
