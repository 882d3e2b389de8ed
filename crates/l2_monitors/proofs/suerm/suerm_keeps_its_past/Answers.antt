use Rattle.std.proofs.Common.{◌≡◌, ℕ, Bool, true, false, nat_eq, if◌then◌else◌, List, [], ◌∷◌, ◌++◌, rules, refl, sym, ap, subst, ◌∙◌, append_assoc, length, length-append, drop, arith}
use Rattle.std.proofs.lemmas.Bool.Decides.{nat_tests}
use Rattle.std.proofs.lemmas.List.{append-nil, length_push}
use Rattle.l2_monitors.specs.Marks.{errors}
use Rattle.l2_monitors.specs.Suerm.{Kept, Leaves, HasTripped, IsCount, fresh, tripping, counted, after_mark, after_marks}
use Rattle.l2_monitors.proofs.Counting.{Leaves-push}
use Rattle.l2_monitors.proofs.suerm.suerm_keeps_its_past.Goals as goal

abbrev in_service : ℕ → ℕ → Kept
in_service count place = record { tripped = false; count = count; place = place }

at_most : (count : ℕ) → true ≡ nat_eq count 63 → count ≡ 63
at_most count most = grind (arith, nat_tests, most)

-- what tripped it once is still among the marks
stays : (past : List Bool) (error : Bool) → HasTripped past → HasTripped (past ++ error ∷ [])
stays past error old = record {
  before = old.before;
  after = old.after ++ error ∷ [];
  split = ap (λ marks. marks ++ error ∷ []) old.split ∙ append_assoc (old.before ++ true ∷ []) old.after (error ∷ []);
  found = old.found;
}

-- an error, where the count is 63 or isn't
after_error : (past : List Bool) (count place : ℕ) (most : Bool) → most ≡ nat_eq count 63
    → Leaves past (in_service count place)
    → Leaves (past ++ true ∷ []) (if most then tripping (in_service count place) else counted (in_service count place) true)
after_error past count place true most old = record {
  tripped = (λ flag. record { before = past; after = []; split = sym (append-nil (past ++ true ∷ [])); found = subst (λ n. IsCount past n) (at_most count most) (old.count refl) }, λ now. search rules);
  count = λ no. absurd (search rules);
  place = λ no. absurd (search rules);
}
after_error past count place false most old =
    Leaves-push past true (in_service count place) (counted (in_service count place) true) old refl refl (λ error full. grind (arith, nat_tests, most, full)) refl refl

-- one more mark
after_one : (past : List Bool) (error has_tripped : Bool) (count place : ℕ)
    → Leaves past (record { tripped = has_tripped; count = count; place = place })
    → Leaves (past ++ error ∷ []) (after_mark (record { tripped = has_tripped; count = count; place = place }) error)
after_one past error true count place old = record {
  tripped = (λ flag. stays past error (old.tripped.0 flag), λ now. search rules);
  count = λ no. absurd (search rules);
  place = λ no. absurd (search rules);
}
after_one past true false count place old = after_error past count place (nat_eq count 63) refl old
after_one past false false count place old =
    Leaves-push past false (in_service count place) (counted (in_service count place) false) old refl refl (λ error full. absurd (search rules)) refl refl

-- marks, one after another
after_all : (past marks : List Bool) (now : Kept) → Leaves past now → Leaves (past ++ marks) (after_marks now marks)
after_all past [] now old = subst (λ all. Leaves all now) (sym (append-nil past)) old
after_all past (mark ∷ marks) now old =
    subst (λ all. Leaves all (after_marks (after_mark now mark) marks)) (append_assoc past (mark ∷ []) marks)
    (after_all (past ++ mark ∷ []) marks (after_mark now mark) (after_one past mark now.tripped now.count now.place old))

at_start : (j : ℕ) → j ≡ 0 → errors (drop j []) ≡ 0
at_start j start = ap (λ k. errors (drop k [])) start

-- no mark leaves a fresh monitor
none : Leaves [] fresh
none = record {
  tripped = (λ flag. absurd (search rules), λ now. absurd (omega (arith, ap length now.split, length-append (now.before ++ true ∷ []) now.after, length_push now.before true)));
  count = λ running. record {
    reached = (0, omega arith, refl);
    greatest = λ j within. omega (arith, at_start j (omega (arith, within)));
  };
  place = λ running. refl;
}

pub returns : goal.returns
returns c = λ marks. after_all [] marks fresh none
