-- Numbers with commas between, and pieces of a line one behind another.
use Rattle.std.proofs.Common.{arith, ◌≡◌, ◌∙◌, ap, sym, subst, ◌+◌, ◌++◌, List, ℕ, suc}
use Rattle.std.proofs.lemmas.List.{append_assoc}
use Rattle.std.specs.Prelude.{decimal}
use Rattle.set_model.specs.State.{State}
use Rattle.terminal_text.specs.Counting.{comma_before, count_of, counts_to}
use Rattle.terminal_text.specs.declared.counting.Counted.{Counted}

-- one number more
pub one_more : (what : Counted) (s : State) (n count : ℕ) (first old comma new : List ℕ) → old ≡ first ++ counts_to what s n
    → comma ≡ old ++ comma_before n → count ≡ count_of what n s → new ≡ comma ++ decimal count
    → new ≡ first ++ counts_to what s (n + 1)
one_more what s n count first old comma new before behind counted is =
    let next : suc n ≡ n + 1 = omega arith in
    subst (λ (k : ℕ). new ≡ first ++ counts_to what s k) next
    (is ∙ ap (λ (xs : List ℕ). xs ++ decimal count) (behind ∙ ap (λ (xs : List ℕ). xs ++ comma_before n) before)
    ∙ append_assoc (first ++ counts_to what s n) (comma_before n) (decimal count)
    ∙ append_assoc first (counts_to what s n) (comma_before n ++ decimal count)
    ∙ ap (λ (k : ℕ). first ++ (counts_to what s n ++ (comma_before n ++ decimal k))) counted)

-- a piece that was put before the rest
pub put_before : (end old before piece rest : List ℕ) → end ≡ old ++ rest → old ≡ before ++ piece → end ≡ before ++ (piece ++ rest)
put_before end old before piece rest e f = e ∙ ap (λ (xs : List ℕ). xs ++ rest) f ∙ append_assoc before piece rest
