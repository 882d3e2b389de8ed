-- What is said of a history, and that nothing else can be said of it.
use Rattle.std.proofs.Common.{refl, arith, sym, subst, ◌≡◌, ◌∙◌, ap, ◌<◌, ◌≤◌, ◌+◌, [], ◌∷◌, ℕ, zero, suc, Bool, true, false, nat_lt, List, take, get_or}
use Rattle.std.proofs.lemmas.Bool.Decides.{nat_tests}
use Rattle.text_base.specs.Printing.{Printed}
use Rattle.set_core.specs.declared.item.Item.{Item}
use Rattle.set_core.specs.Items.{AreLegal, left_by}
use Rattle.set_model.specs.State.{State, opened_with}
use Rattle.set_core.specs.FirstWrong.{IsFirstWrong, answer_at}
use Rattle.text_entries.specs.Telling.{Telling, tells, unreadable, history_in}
use Rattle.history_audit.specs.declared.fault.AuditFault.{AuditFault}
use Rattle.history_audit.specs.Auditing.{IsAudited, legal, wrong, full, IsAuditOf, IsAuditText, refuses}

-- Nothing else can be said.

legal_front : (s : State) (k : ℕ) (items : List Item) → AreLegal s items → AreLegal s (take k items)
legal_front s zero [] h = tt
legal_front s zero (e ∷ es) h = tt
legal_front s (suc k) [] h = tt
legal_front s (suc k) (e ∷ es) h = (h.0, legal_front (left_by s e) k es h.1)

-- a front of a front
front_of : (j k : ℕ) (items : List Item) → j ≤ k → take j (take k items) ≡ take j items
front_of zero zero [] h = refl
front_of zero (suc k) [] h = refl
front_of zero zero (e ∷ es) h = refl
front_of zero (suc k) (e ∷ es) h = refl
front_of (suc j) zero items h = absurd (omega (arith, h))
front_of (suc j) (suc k) [] h = refl
front_of (suc j) (suc k) (e ∷ es) h = ap (λ (l : List Item). e ∷ l) (front_of j k es (omega (arith, h)))

not_before : (s : State) (items : List Item) (p q : ℕ) → IsFirstWrong s items p → IsFirstWrong s items q → p < q → ⊥
not_before s items p q a b lt =
    a.wrong (subst (λ (l : List Item). AreLegal s l) (front_of (p + 1) q items (omega (arith, lt))) (legal_front s (p + 1) (take q items) b.legal))

one_place : (s : State) (items : List Item) (p q : ℕ) → IsFirstWrong s items p → IsFirstWrong s items q → p ≡ q
one_place s items p q a b = go (nat_lt p q) (nat_lt q p) refl refl
  where
    go : (x y : Bool) → nat_lt p q ≡ x → nat_lt q p ≡ y → p ≡ q
    go true y e f = absurd (not_before s items p q a b (grind (arith, nat_tests, e)))
    go false true e f = absurd (not_before s items q p b a (grind (arith, nat_tests, f)))
    go false false e f = grind (arith, nat_tests, e, f)

not_legal : (s : State) (items : List Item) (p : ℕ) → AreLegal s items → IsFirstWrong s items p → ⊥
not_legal s items p l w = w.wrong (legal_front s (p + 1) items l)

one_audit : (s : State) (items : List Item) (lines : List ℕ) (a b : Printed AuditFault) → IsAudited s items lines a → IsAudited s items lines b → a ≡ b
one_audit s items lines a b (legal few l is) (legal few2 l2 is2) = is ∙ sym is2
one_audit s items lines a b (legal few l is) (wrong p few2 w is2) = absurd (not_legal s items p l w)
one_audit s items lines a b (legal few l is) (full many is2) = absurd (omega (arith, few, many))
one_audit s items lines a b (wrong p few w is) (legal few2 l is2) = absurd (not_legal s items p l w)
one_audit s items lines a b (wrong p few w is) (wrong q few2 w2 is2) = is ∙ (ap (λ (n : ℕ). refuses s.settings.profile (get_or lines n 0) (answer_at s items n)) (one_place s items p q w w2) ∙ sym is2)
one_audit s items lines a b (wrong p few w is) (full many is2) = absurd (omega (arith, few, many))
one_audit s items lines a b (full many is) (legal few l is2) = absurd (omega (arith, few, many))
one_audit s items lines a b (full many is) (wrong p few w is2) = absurd (omega (arith, few, many))
one_audit s items lines a b (full many is) (full many2 is2) = is ∙ sym is2

pub one_of_telling : (t : Telling) (a b : Printed AuditFault) → IsAuditOf t a → IsAuditOf t b → a ≡ b
one_of_telling (unreadable n flaw) a b x y = x ∙ sym y
one_of_telling (tells s items lines) a b x y = one_audit (opened_with s) items lines a b x y

pub one_text_each : (input : List ℕ) (a b : Printed AuditFault) → IsAuditText input a → IsAuditText input b → a ≡ b
one_text_each input a b x y = one_of_telling (history_in input) a b x y
