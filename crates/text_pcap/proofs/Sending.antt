-- An octet of a tape more, and a mark more.
use Rattle.std.proofs.Common.{refl, arith, ◌≡◌, ◌∙◌, ap, sym, subst, ℕ, zero, suc, ◌+◌, ◌<◌, Bool, drop, drop-cons, add-one, get_or, length, List, [], ◌∷◌, ◌++◌}
use Rattle.std.proofs.lemmas.List.{append-nil, append_assoc}
use Rattle.l2_bits.specs.declared.marks.Mark.{Mark}
use Rattle.l2_bits.specs.LineBits.{bits_of}
use Rattle.l2_bits.specs.Marks.{AreMarks}
use Rattle.text_pcap.specs.declared.sent.Packet.{Packet}
use Rattle.text_pcap.specs.declared.sent.Side.{Side}
use Rattle.text_pcap.specs.Sent.{AreSentFrom, packets_of}

-- what the octets that are left give completes what all give
abbrev pub Completes : Side → ℕ → List Bool → List ℕ → List ℕ → List Packet → Type 0
Completes side turn past left all before =
    (more : List Packet) → AreSentFrom side turn past left more → AreSentFrom side 0 [] all (before ++ more)

completes_one : (side : Side) (turn : ℕ) (past : List Bool) (octet : ℕ) (left all : List ℕ) (before : List Packet) (marks : List Mark) → Completes side turn past (octet ∷ left) all before → AreMarks past (bits_of 8 octet) marks
    → Completes side (suc turn) (past ++ bits_of 8 octet) left all (before ++ packets_of side turn marks)
completes_one side turn past octet left all before marks completes are more sent =
    subst (AreSentFrom side 0 [] all) (sym (append_assoc before (packets_of side turn marks) more))
    (completes (packets_of side turn marks ++ more) (marks, more, are, sent, refl))

pub completes_more : (side : Side) (turn turn' i : ℕ) (past : List Bool) (octet : ℕ) (all : List ℕ) (before : List Packet) (marks : List Mark) → i < length all → octet ≡ get_or all i 0 → turn' ≡ turn + 1
    → Completes side turn past (drop i all) all before → AreMarks past (bits_of 8 octet) marks → Completes side turn' (past ++ bits_of 8 octet) (drop (i + 1) all) all (before ++ packets_of side turn marks)
completes_more side turn turn' i past octet all before marks less is next completes are =
    let first : drop i all ≡ octet ∷ drop (i + 1) all = rw add-one (drop-cons all i 0 less ∙ ap (λ (o : ℕ). o ∷ drop (suc i) all) (sym is)) in
    let number : suc turn ≡ turn' = omega (arith, next) in
    subst (λ (n : ℕ). Completes side n (past ++ bits_of 8 octet) (drop (i + 1) all) all (before ++ packets_of side turn marks)) number
    (completes_one side turn past octet (drop (i + 1) all) all before marks (subst (λ (xs : List ℕ). Completes side turn past xs all before) first completes) are)

-- where no octet is left, all are sent
pub all_sent : (side : Side) (turn i : ℕ) (past : List Bool) (all : List ℕ) (before : List Packet) → drop i all ≡ [] → Completes side turn past (drop i all) all before → AreSentFrom side 0 [] all before
all_sent side turn i past all before none completes =
    let ends = subst (λ (xs : List ℕ). Completes side turn past xs all before) none completes in
    subst (AreSentFrom side 0 [] all) (append-nil before) (ends [] refl)
