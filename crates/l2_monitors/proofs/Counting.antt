-- SUERM's count and its tripping, at a list of marks that one more mark ends.
use Rattle.std.proofs.Common.{◌≡◌, ℕ, ◌+◌, ◌-◌, ◌/◌, ◌%◌, ◌≤◌, ◌⊎◌, inl, inr, Bool, true, false, nat_eq, List, [], ◌∷◌, ◌++◌, length, drop, if◌then◌else◌, IsTrue, rules, refl, sym, ap, subst, ◌∙◌, append_assoc, arith}
use Rattle.std.proofs.lemmas.List.{append-nil, length_push, drop-append-le, same_from_push}
use Rattle.std.proofs.lemmas.Bool.{cases_lt}
use Rattle.std.proofs.lemmas.Bool.Decides.{nat_tests}
use Rattle.std.proofs.Math.Seq.{drop-length}
use Rattle.l2_monitors.specs.Marks.{errors}
use Rattle.l2_monitors.specs.Suerm.{IsCount, HasTripped, Kept, Leaves}
use Rattle.l2_monitors.proofs.Errors.{errors-push}

-- the errors after a place that stood before the last mark
errors-drop-push : (marks : List Bool) (error : Bool) (j : ℕ) → j ≤ length marks → errors (drop j (marks ++ error ∷ [])) ≡ errors (drop j marks) + (if error then 1 else 0)
errors-drop-push marks error j within =
    ap errors (drop-append-le j marks (error ∷ []) within) ∙ errors-push (drop j marks) error

-- past the last mark there is no error
errors-drop-end : (marks : List Bool) (j : ℕ) → j ≡ length marks → errors (drop j marks) ≡ 0
errors-drop-end marks j end = ap (λ k. errors (drop k marks)) end ∙ ap errors (drop-length marks)

-- marks have one count
one_count : (marks : List Bool) (a b : ℕ) → IsCount marks a → IsCount marks b → a ≡ b
one_count marks a b left right =
    omega (arith, left.reached.1, left.reached.2, right.reached.1, right.reached.2, left.greatest right.reached.0 right.reached.1, right.greatest left.reached.0 left.reached.1)

-- The count after one more mark, which raises it by `up` and lowers it by `down`: the place that reached
-- the old count reaches the new one, or where the leak would take it below 0 the end does.
IsCount-push : (marks : List Bool) (error : Bool) (count up down : ℕ) → IsCount marks count → up ≡ (if error then 1 else 0) → (length marks + 1) / 256 ≡ length marks / 256 + down → IsCount (marks ++ error ∷ []) (count + up - down)
IsCount-push marks error count up down old raise leak =
    let size : length (marks ++ error ∷ []) ≡ length marks + 1 = length_push marks error in
    let kept : (j : ℕ) → j ≤ length marks → errors (drop j (marks ++ error ∷ [])) ≡ errors (drop j marks) + up = λ j within. errors-drop-push marks error j within ∙ ap (λ n. errors (drop j marks) + n) (sym raise) in
    record {
      reached = elim (cases_lt (count + up) down) [
        | inr leaks ↦ (old.reached.0, omega (arith, old.reached.1), omega (arith, old.reached.1, old.reached.2, kept old.reached.0 old.reached.1))
        | inl floored ↦ (length marks + 1, omega arith, omega (arith, errors-drop-end (marks ++ error ∷ []) (length marks + 1) (sym size)))
      ];
      greatest = λ j within. elim (cases_lt (length marks) j) [
        | inr inside ↦ omega (arith, kept j inside, old.greatest j inside)
        | inl past ↦ omega (arith, errors-drop-end (marks ++ error ∷ []) j (omega arith))
      ];
    }

-- a list is empty, or ends in a mark
ends : (marks : List Bool) → (marks ≡ []) ⊎ ((front : List Bool) × (last : Bool) × (marks ≡ front ++ last ∷ []))
ends [] = inl refl
ends (mark ∷ marks) =
    inr (elim (ends marks) [ inl empty ↦ ([], mark, ap (λ m. mark ∷ m) empty) | inr found ↦ (mark ∷ found.0, found.1, ap (λ m. mark ∷ m) found.2) ])

-- what tripped by now either trips now, or had tripped before
HasTripped-push_cases : (marks : List Bool) (error : Bool) → HasTripped (marks ++ error ∷ []) → ((error ≡ true) × IsCount marks 63) ⊎ HasTripped marks
HasTripped-push_cases marks error now =
    elim (ends now.after) [
      | inl empty ↦
          let same = same_from_push marks now.before error true (now.split ∙ ap (λ after. (now.before ++ true ∷ []) ++ after) empty ∙ append-nil (now.before ++ true ∷ [])) in
          inl (same.1, subst (λ m. IsCount m 63) (sym same.0) now.found)
      | inr found ↦
          let same = same_from_push marks ((now.before ++ true ∷ []) ++ found.0) error found.1 (now.split ∙ ap (λ after. (now.before ++ true ∷ []) ++ after) found.2 ∙ sym (append_assoc (now.before ++ true ∷ []) found.0 (found.1 ∷ []))) in
          inr (record { before = now.before; after = found.0; split = same.0; found = now.found })
    ]

-- a monitor that had not tripped, and is given no error at the count 63, has not tripped
pub HasTripped-push_not : (marks : List Bool) (error : Bool) (now : Kept) → Leaves marks now → now.tripped ≡ false → (error ≡ true → now.count ≡ 63 → ⊥) → HasTripped (marks ++ error ∷ []) → ⊥
HasTripped-push_not marks error now old running below tripped =
    elim (HasTripped-push_cases marks error tripped) [
      | inl here ↦ below here.0 (one_count marks now.count 63 (old.count running) here.1)
      | inr before ↦ let flag : IsTrue now.tripped = old.tripped.1 before in absurd (search rules)
    ]

-- the multiples of 256 among the marks go up by one where the place comes back to 0
leak_at : (n place : ℕ) → place ≡ (n % 256 + 1) % 256 → (n + 1) / 256 ≡ n / 256 + (if nat_eq place 0 then 1 else 0)
leak_at n place e = grind (arith, nat_tests)

-- what a mark that does not trip makes of the monitor
pub Leaves-push : (marks : List Bool) (error : Bool) (old new : Kept) → Leaves marks old → old.tripped ≡ false → new.tripped ≡ false → (error ≡ true → old.count ≡ 63 → ⊥) → new.place ≡ (old.place + 1) % 256 → new.count ≡ old.count + (if error then 1 else 0) - (if nat_eq new.place 0 then 1 else 0) → Leaves (marks ++ error ∷ []) new
Leaves-push marks error old new left was_running running below moved counted =
    let here : old.place ≡ length marks % 256 = left.place was_running in
    let next : new.place ≡ (length marks % 256 + 1) % 256 = moved ∙ ap (λ p. (p + 1) % 256) here in
    record {
      tripped = (λ flag. absurd (search rules), λ tripped. absurd (HasTripped-push_not marks error old left was_running below tripped));
      count = λ _. subst (λ n. IsCount (marks ++ error ∷ []) n) (sym counted) (IsCount-push marks error old.count (if error then 1 else 0) (if nat_eq new.place 0 then 1 else 0) (left.count was_running) refl (leak_at (length marks) new.place next));
      place = λ _. omega (arith, length_push marks error);
    }
