-- One of a list more.
use Rattle.std.proofs.Common.{refl, arith, ◌≡◌, ◌∙◌, ap, sym, subst, ℕ, suc, ◌+◌, ◌<◌, drop, drop-cons, add-one, get_or, length, List, [], ◌∷◌, ◌++◌}
use Rattle.std.proofs.lemmas.List.{append-nil, append_assoc}
use Rattle.text_pcap.specs.declared.sent.Packet.{Packet}
use Rattle.run_text.specs.Capturing.{EachFrom}

-- what those that are left give completes what all give
abbrev pub Completes : {X : Type 0} → (ℕ → X → List Packet → Type 0) → ℕ → List X → List X → List Packet → Type 0
Completes Gives n left all before = (more : List Packet) → EachFrom Gives n left more → EachFrom Gives 0 all (before ++ more)

completes_one : {X : Type 0} (Gives : ℕ → X → List Packet → Type 0) (n : ℕ) (x : X) (left all : List X) (before own : List Packet) → Completes Gives n (x ∷ left) all before → Gives n x own
    → Completes Gives (suc n) left all (before ++ own)
completes_one Gives n x left all before own completes gives more each =
    subst (EachFrom Gives 0 all) (sym (append_assoc before own more)) (completes (own ++ more) (own, more, gives, each, refl))

pub completes_more : {X : Type 0} (Gives : ℕ → X → List Packet → Type 0) (n n' i : ℕ) (x : X) (all : List X) (before own : List Packet) → i < length all → x ≡ get_or all i x → n' ≡ n + 1
    → Completes Gives n (drop i all) all before → Gives n x own → Completes Gives n' (drop (i + 1) all) all (before ++ own)
completes_more Gives n n' i x all before own less is next completes gives =
    let first : drop i all ≡ x ∷ drop (i + 1) all = rw add-one (drop-cons all i x less ∙ ap (λ y. y ∷ drop (suc i) all) (sym is)) in
    let number : suc n ≡ n' = omega (arith, next) in
    subst (λ (k : ℕ). Completes Gives k (drop (i + 1) all) all (before ++ own)) number
    (completes_one Gives n x (drop (i + 1) all) all before own (subst (λ xs. Completes Gives n xs all before) first completes) gives)

pub all_given : {X : Type 0} (Gives : ℕ → X → List Packet → Type 0) (n i : ℕ) (all : List X) (before : List Packet) → drop i all ≡ [] → Completes Gives n (drop i all) all before → EachFrom Gives 0 all before
all_given Gives n i all before none completes =
    let ends = subst (λ xs. Completes Gives n xs all before) none completes in
    subst (EachFrom Gives 0 all) (append-nil before) (ends [] refl)
