-- What is left of a history, by the first of its runs.
use Rattle.std.proofs.Common.{arith, refl, sym, ap, ◌≡◌, ◌∙◌, ◌<◌, ◌+◌, ◌-◌, ℕ, zero, suc, List, ◌∷◌, ◌++◌, length, take, drop}
use Rattle.std.proofs.lemmas.List.{append_assoc, drop-drop}
use Rattle.set_events.specs.declared.history.Entry.{Entry}
use Rattle.set_history.specs.Told.{entry_told, behind_entry, entries_told}
use Rattle.set_history.specs.Runs.{begun, rounds, run_told, runs_told, size_of, last_told, history_told}
use Rattle.set_history.specs.declared.run.LastRun.{LastRun}
use Rattle.set_history.specs.declared.run.Run.{Run}

pub first_run : (run : Run) (runs : List Run) (last : LastRun) (octets : List ℕ) → history_told (run ∷ runs) last octets ≡ run_told run.entries run.skip run.more (take run.size octets) ++ history_told runs last (drop run.size octets)
first_run run runs last octets =
    append_assoc (run_told run.entries run.skip run.more (take run.size octets)) (runs_told runs (drop run.size octets)) (last_told last (drop (size_of (run ∷ runs)) octets))
    ∙ ap (λ (xs : List ℕ). run_told run.entries run.skip run.more (take run.size octets) ++ (runs_told runs (drop run.size octets) ++ last_told last xs))
    (sym (drop-drop (size_of runs) run.size octets))

-- of a run that tells something, an entry is left
pub some_left : (entries more skip : ℕ) (octets : List ℕ) → 0 < length (run_told entries skip more octets) → 0 < entries + more
some_left zero zero skip octets h = h
some_left zero (suc more) skip octets h = omega arith
some_left (suc entries) more skip octets h = omega arith

-- where nothing that was written is left, the next in turn comes
pub round_taken : (n more : ℕ) (left all at then_at : List ℕ) (behind : List Entry) (entry : Entry) → n ≡ 0 → 0 < n + more → entry ≡ entry_told (begun all at) → then_at ≡ behind_entry (begun all at) → entries_told n left ++ (rounds more all at ++ behind) ≡ entry ∷ (entries_told n left ++ (rounds (more - 1) all then_at ++ behind))
round_taken (suc n) more left all at then_at behind entry none some told rest = absurd (omega (arith, none))
round_taken zero zero left all at then_at behind entry none some told rest = absurd (omega (arith, some))
round_taken zero (suc more) left all at then_at behind entry none some told rest =
    let e : suc more - 1 ≡ more = omega arith in
    rw (e, told, rest) refl
