-- Steps of the line of a fill-in unit.
use Rattle.std.proofs.Common.{arith, ◌≡◌, ◌∙◌, ap, sym, ◌≤◌, ◌<◌, ◌/◌, ◌%◌, ◌^◌, ℕ, Bool, true, false, List, [], ◌++◌, append_assoc, append-nil, codes, if◌then◌else◌}
use Rattle.std.proofs.lemmas.Fmt.{decimal_digit, decimal_step}
use Rattle.std.specs.Fmt.{decimal}
use Rattle.l2_units.specs.declared.unit.Header.{Header}
use Rattle.l2_units.specs.declared.unit.Unit.TheVariants.{Fisu}
use Rattle.text_base.specs.Figures.{bit}
use Rattle.text_units.specs.UnitsText.{unit_text}

-- one digit more
pub digit_more : (value : ℕ) (before middle last : List ℕ) → 10 ≤ value → value < 2 ^ 64
    → middle ≡ before ++ decimal (value / 10) → last ≡ middle ++ decimal (value % 10) → last ≡ before ++ decimal value
digit_more value before middle last more fits first second =
    second
    ∙ ap (λ (front : List ℕ). front ++ decimal (value % 10)) first
    ∙ append_assoc before (decimal (value / 10)) (decimal (value % 10))
    ∙ ap (λ (digits : List ℕ). before ++ digits)
    (ap (λ (back : List ℕ). decimal (value / 10) ++ back) (decimal_digit (value % 10) (omega arith)) ∙ sym (decimal_step value more fits))

-- the pieces of the line, as they are put and as they are told
pieces : (bsn bib fsn fib : List ℕ)
    → (((codes "good fisu bsn=" ++ bsn) ++ (codes " bib=" ++ (bib ++ codes " fsn="))) ++ fsn) ++ (codes " fib=" ++ (fib ++ codes "\n"))
    ≡ codes "good " ++ ((codes "fisu" ++ (codes " bsn=" ++ (bsn ++ (codes " bib=" ++ (bib ++ (codes " fsn=" ++ (fsn ++ (codes " fib=" ++ fib)))))))) ++ codes "\n")
pieces bsn bib fsn fib =
    let start = codes "good fisu bsn=" in
    let words = codes " bib=" ++ (bib ++ codes " fsn=") in
    let end = codes " fib=" ++ (fib ++ codes "\n") in
    let last = codes " fib=" ++ fib in
    let later = codes " fsn=" ++ (fsn ++ last) in
    append_assoc ((start ++ bsn) ++ words) fsn end
    ∙ append_assoc (start ++ bsn) words (fsn ++ end)
    ∙ append_assoc start bsn (words ++ (fsn ++ end))
    ∙ ap (λ (x : List ℕ). start ++ (bsn ++ (codes " bib=" ++ x))) (append_assoc bib (codes " fsn=") (fsn ++ end))
    ∙ sym (
    ap (λ (x : List ℕ). start ++ x) (append_assoc bsn (codes " bib=" ++ (bib ++ later)) (codes "\n"))
    ∙ ap (λ (x : List ℕ). start ++ (bsn ++ (codes " bib=" ++ x))) (append_assoc bib later (codes "\n"))
    ∙ ap (λ (x : List ℕ). start ++ (bsn ++ (codes " bib=" ++ (bib ++ (codes " fsn=" ++ x))))) (append_assoc fsn last (codes "\n"))
    )

pub whole_line : (head : Header) (first second third fourth fifth words end : List ℕ)
    → first ≡ codes "good fisu bsn=" → second ≡ first ++ decimal head.bsn → third ≡ second ++ words → fourth ≡ third ++ decimal head.fsn → fifth ≡ fourth ++ end
    → words ≡ codes " bib=" ++ (decimal (bit head.bib) ++ codes " fsn=") → end ≡ codes " fib=" ++ (decimal (bit head.fib) ++ codes "\n")
    → fifth ≡ unit_text (Fisu head)
whole_line head first second third fourth fifth words end a b c d e words_are end_is =
    e
    ∙ ap (λ (x : List ℕ). x ++ end) (d ∙ ap (λ (x : List ℕ). x ++ decimal head.fsn) (c ∙ ap (λ (x : List ℕ). x ++ words) (b ∙ ap (λ (x : List ℕ). x ++ decimal head.bsn) a)))
    ∙ ap (λ (x : List ℕ). (((codes "good fisu bsn=" ++ decimal head.bsn) ++ x) ++ decimal head.fsn) ++ end) words_are
    ∙ ap (λ (x : List ℕ). (((codes "good fisu bsn=" ++ decimal head.bsn) ++ (codes " bib=" ++ (decimal (bit head.bib) ++ codes " fsn="))) ++ decimal head.fsn) ++ x) end_is
    ∙ pieces (decimal head.bsn) (decimal (bit head.bib)) (decimal head.fsn) (decimal (bit head.fib))

-- it's added whole, or nothing is
pub added_whole : (done : Bool) (before line text after : List ℕ) → after ≡ (if done then before ++ line else before) → line ≡ text → after ≡ before ++ (if done then text else [])
added_whole true before line text after is same = is ∙ ap (λ (x : List ℕ). before ++ x) same
added_whole false before line text after is same = is ∙ sym (append-nil before)
