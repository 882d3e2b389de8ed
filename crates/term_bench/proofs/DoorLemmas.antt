-- The door to the set, where the set told a fault.
use Rattle.std.proofs.Common.{refl, sym, ap, subst, arith, ◌≡◌, ◌≤◌, ◌↔◌, ℕ, List, [], ◌∷◌, ◌++◌, Result, Err, append-nil, add-zero}
use Rattle.set_events.specs.declared.fault.SetFault.{SetFault}
use Rattle.set_model.specs.History.{LinkSet, entries_in, longest_history}
use Rattle.term_bench.specs.Going.{GoesOn}

full_as : {R : Type 0} (fault : SetFault) (entries : ℕ)
    → (◌≡◌ {A = Result R SetFault} (Err fault) (Err SetFault.Exhausted)) ↔ (longest_history ≤ entries)
    → (fault ≡ SetFault.Exhausted) ↔ (longest_history ≤ entries)
full_as {R} fault entries exhausted = (
  λ is. exhausted.0 (ap (λ (f : SetFault). Err f) is),
  λ full. let is = exhausted.1 full in let same : fault ≡ SetFault.Exhausted = cc is in same,
)

-- the set is as it was, and goes on so
pub by_fault : {R : Type 0} (link : ℕ) (set set' : LinkSet) (heard : ℕ) (faults faults' : List SetFault) (late : List ℕ) (fault : SetFault)
    → set' ≡ set → faults' ≡ faults ++ fault ∷ []
    → (◌≡◌ {A = Result R SetFault} (Err fault) (Err SetFault.Exhausted)) ↔ (longest_history ≤ entries_in set)
    → GoesOn link link set set' heard heard faults faults' late late
by_fault {R} link set set' heard faults faults' late fault same noted exhausted =
    subst (λ (s : LinkSet). GoesOn link link set s heard heard faults faults' late late) (sym same) (record {
      link_is = refl;
      base_is = refl;
      entries = [];
      history_is = sym (append-nil set.history);
      by = tt;
      heard_is = sym (add-zero heard);
      grows = omega arith;
      told = fault ∷ [];
      faults_are = noted;
      told_is = (
        record { entries = entries_in set; begun = omega arith; ended = omega arith; full = full_as fault (entries_in set) exhausted },
        tt,
      );
      late_is = refl;
    })
