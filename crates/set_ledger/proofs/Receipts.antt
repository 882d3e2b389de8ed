-- What is needed where receipts are held against a history.
use Rattle.std.proofs.Common.{arith, ◌≡◌, ◌∙◌, ap, sym, subst, ◌≤◌, ◌<◌, ◌↔◌, ◌+◌, ℕ, zero, suc, List, [], ◌∷◌, ◌++◌, length, take, drop, Option, None, Some, MatchOption}
use Rattle.std.proofs.lemmas.List.{length-append, length-drop, drop_all, drop_at, length-take-le, take-append-drop}
use Rattle.set_events.specs.declared.history.Entry.{Entry}
use Rattle.set_ledger.specs.Ending.{EndsWith}

-- one entry more was read past
first_off : {X : Type 0} (xs more : List X) (x : X) → xs ≡ x ∷ more → more ≡ drop 1 xs
first_off [] more x e = absurd cc
first_off (y ∷ ys) more x e = cc

one_past : {X : Type 0} (many : ℕ) (xs rest more : List X) (x : X) → rest ≡ drop many xs → rest ≡ x ∷ more → more ≡ drop (suc many) xs
one_past zero xs rest more x is next = first_off xs more x (sym is ∙ next)
one_past (suc many) [] rest more x is next = absurd (cc (sym is ∙ next))
one_past (suc many) (y ∷ ys) rest more x is next = one_past many ys rest more x is next

pub next_past : (read : Option Entry) (many : ℕ) (xs rest more : List Entry) → MatchOption read (rest ≡ []) (λ x. rest ≡ x ∷ more) → (length rest ≡ 0 → ⊥) → rest ≡ drop many xs → more ≡ drop (many + 1) xs
next_past (Some x) many xs rest more next some is =
    let one : suc many ≡ many + 1 = omega arith in
    subst (λ n. more ≡ drop n xs) one (one_past many xs rest more x is next)
next_past None many xs rest more next some is = absurd (some (ap length next))

pub all_past : {X : Type 0} (n many : ℕ) (xs rest : List X) → rest ≡ drop n xs → length rest ≡ 0 → n ≤ many → rest ≡ drop many xs
all_past n many xs rest is none less =
    let left : length (drop n xs) ≡ 0 = ap length (sym is) ∙ none in
    let past : length xs ≤ many = omega (arith, left, length-drop n xs, less) in
    let past_n : length xs ≤ n = omega (arith, left, length-drop n xs) in
    is ∙ drop_all n xs past_n ∙ sym (drop_all many xs past)

-- where as many are there, those behind them decide
pub decided : (forgotten : ℕ) (receipts own rest : List Entry) (calls many : ℕ) → forgotten + many ≡ calls → many ≤ length receipts → rest ≡ drop many receipts → (rest ≡ own) ↔ EndsWith forgotten receipts calls own
decided forgotten receipts own rest calls many all there is = (
  (λ same. record {
    before = take many receipts;
    receipts_are = sym (take-append-drop many receipts) ∙ ap (λ more. take many receipts ++ more) (sym is ∙ same);
    all_before = omega (arith, length-take-le many receipts there, all);
  }),
  (λ ends.
      let stood = ends.all_before in
      is ∙ ap (drop many) ends.receipts_are ∙ drop_at ends.before own many (omega (arith, stood, all))),
)

-- where more were forgotten than stand before, or fewer are there, they don't end so
pub forgot_more : (forgotten : ℕ) (receipts own : List Entry) (calls : ℕ) → calls < forgotten → EndsWith forgotten receipts calls own → ⊥
forgot_more forgotten receipts own calls more ends = let all = ends.all_before in omega (arith, more, all)

pub too_few : (forgotten : ℕ) (receipts own : List Entry) (calls : ℕ) → forgotten + length receipts < calls → EndsWith forgotten receipts calls own → ⊥
too_few forgotten receipts own calls fewer ends =
    let all = ends.all_before in
    omega (arith, fewer, all, ap length ends.receipts_are, length-append ends.before own)
