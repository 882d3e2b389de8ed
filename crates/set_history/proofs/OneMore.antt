-- One more entry, counted or written: by induction over what comes in turn, and over the runs.
use Rattle.std.proofs.Common.{arith, refl, sym, ap, subst, ◌≡◌, ◌∙◌, ◌<◌, ◌≤◌, ◌^◌, ◌+◌, ℕ, zero, suc, Bool, true, false, List, [], ◌∷◌, ◌++◌, length, take, drop, nat_lt}
use Rattle.std.specs.Prelude.{if◌then◌else◌}
use Rattle.std.specs.Int.{w16, w32, w64, to_le_bytes}
use Rattle.std.proofs.Math.Seq.{take-length}
use Rattle.std.proofs.lemmas.List.{append_assoc, append-nil, drop-drop, length-append, length-drop, take-append-le, drop-append-le, drop_all}
use Rattle.l2_units.specs.Lent.{body_in, unit_in}
use Rattle.l2_units.specs.declared.lent.UnitRef.{UnitRef}
use Rattle.set_events.specs.Lent.{event_in, octets_in}
use Rattle.set_events.specs.declared.lent.EventRef.{EventRef}
use Rattle.set_events.specs.declared.event.Actor.{Actor}
use Rattle.set_events.specs.declared.event.Actor.TheVariants.{User, Terminal}
use Rattle.set_events.specs.declared.history.Entry.{Entry}
use Rattle.set_history.specs.Told.{entry_told, behind_entry, entries_told, AreWritten, body_of_unit, body_of}
use Rattle.set_history.specs.Written.{who_text, event_text, answer_text, entry_text, IsKept}
use Rattle.set_history.specs.Runs.{begun, rounds, behind_rounds, run_told, runs_told, size_of, last_told, history_told, cycle, AreRuns, IsOneMore, IsEnded, IsOneEnded, IsSmall, begun_at, room_in}
use Rattle.set_history.specs.declared.run.LastRun.{LastRun}
use Rattle.set_history.specs.declared.run.Run.{Run}
use Rattle.set_history.proofs.Histories.{pushed, pushed_written, few_entries}

-- one more that comes in turn
round_more : (n : ℕ) (all left : List ℕ) → rounds (suc n) all left ≡ rounds n all left ++ entry_told (begun all (behind_rounds n all left)) ∷ []
round_more zero all left = refl
round_more (suc n) all left = ap (λ (es : List Entry). entry_told (begun all left) ∷ es) (round_more n all (behind_entry (begun all left)))

behind_more : (n : ℕ) (all left : List ℕ) → behind_rounds (suc n) all left ≡ behind_entry (begun all (behind_rounds n all left))
behind_more zero all left = refl
behind_more (suc n) all left = behind_more n all (behind_entry (begun all left))

-- runs that ended stay where octets are added
runs_stay : (runs : List Run) (octets text : List ℕ) → size_of runs ≤ length octets → runs_told runs (octets ++ text) ≡ runs_told runs octets
runs_stay [] octets text h = refl
runs_stay (run ∷ runs) octets text h =
    let here : run.size ≤ length octets = omega (arith, h) in
    let long = length-drop run.size octets in
    let behind : size_of runs ≤ length (drop run.size octets) = omega (arith, h, long) in
    ap (λ (xs : List ℕ). run_told run.entries run.skip run.more xs ++ runs_told runs (drop run.size (octets ++ text))) (take-append-le run.size octets text here)
    ∙ ap (λ (xs : List ℕ). run_told run.entries run.skip run.more (take run.size octets) ++ runs_told runs xs) (drop-append-le run.size octets text here)
    ∙ ap (λ (es : List Entry). run_told run.entries run.skip run.more (take run.size octets) ++ es) (runs_stay runs (drop run.size octets) text behind)

-- the last of three parts stands last
outside : (first others cycled added : List Entry) → first ++ (others ++ (cycled ++ added)) ≡ (first ++ (others ++ cycled)) ++ added
outside first others cycled added =
    ap (λ (es : List Entry). first ++ es) (sym (append_assoc others cycled added)) ∙ sym (append_assoc first (others ++ cycled) added)

one_longer : (es fs : List Entry) (entry : Entry) → fs ≡ es ++ entry ∷ [] → length fs ≡ length es + 1
one_longer es fs entry e = ap length e ∙ length-append es (entry ∷ [])

-- AN ENTRY THAT IS COUNTED
module _ (runs : List Run) (last : LastRun) (octets : List ℕ) (entry : Entry) (next : ℕ) (are : AreRuns runs last octets)
    (told : entry_told (drop last.next octets) ≡ entry)
    (turn : drop next octets ≡ begun (cycle last octets) (behind_entry (drop last.next octets)))
    (before : last.next < length octets) (more : last.more + 1 < 2 ^ 32) where
  abbrev all : List ℕ
  all = cycle last octets

  abbrev text : List ℕ
  text = drop (size_of runs) octets

  abbrev new : LastRun
  new = record { begin = last.begin; entries = last.entries; skip = last.skip; more = last.more + 1; next = next; len = last.len + 1 }

  here : drop last.skip text ≡ all
  here = drop-drop last.skip (size_of runs) octets ∙ ap (λ (k : ℕ). drop (k + last.skip) octets) (sym are.begins)

  suc_is : last.more + 1 ≡ suc last.more
  suc_is = omega arith

  first : entry_told (begun all (behind_rounds last.more all [])) ≡ entry
  first = ap entry_told (sym are.in_turn) ∙ told

  rounds_are : rounds (last.more + 1) (drop last.skip text) [] ≡ rounds last.more (drop last.skip text) [] ++ entry ∷ []
  rounds_are =
      ap (λ (k : ℕ). rounds k (drop last.skip text) []) suc_is
      ∙ round_more last.more (drop last.skip text) []
      ∙ ap (λ (xs : List ℕ). rounds last.more (drop last.skip text) [] ++ entry_told (begun xs (behind_rounds last.more xs [])) ∷ []) here
      ∙ ap (λ (e : Entry). rounds last.more (drop last.skip text) [] ++ e ∷ []) first

  pub counted_one : history_told runs new octets ≡ history_told runs last octets ++ entry ∷ []
  counted_one =
      ap (λ (es : List Entry). runs_told runs octets ++ (entries_told last.entries text ++ es)) rounds_are
      ∙ outside (runs_told runs octets) (entries_told last.entries text) (rounds last.more (drop last.skip text) []) (entry ∷ [])

  counted_turn : drop next octets ≡ begun all (behind_rounds (last.more + 1) all [])
  counted_turn =
      turn
      ∙ ap (λ (xs : List ℕ). begun all (behind_entry xs)) are.in_turn
      ∙ ap (begun all) (sym (behind_more last.more all []))
      ∙ ap (λ (k : ℕ). begun all (behind_rounds k all [])) (sym suc_is)

  pub counted_are : AreRuns runs new octets
  counted_are =
      let long = one_longer (history_told runs last octets) (history_told runs new octets) entry counted_one in
      let old_long = are.long in
      let old_some = are.some in
      let old_few = are.few in
      let counts = are.counts before in
      let some = counts.0 in
      let size = counts.1 in
      let few = counts.2 in
      record {
        begins = are.begins;
        within = are.within;
        written = are.written;
        in_turn = counted_turn;
        long = omega (arith, long, old_long);
        some = omega (arith, old_some);
        few = omega (arith, few, more);
        counts = λ _. (some, size, omega (arith, few));
        small = λ _. (some, size, more);
      }

-- AN ENTRY THAT IS WRITTEN
number_some : (n : ℕ) (a b c : Bool) → 1 ≤ length (if a then n ∷ [] else if b then 253 ∷ to_le_bytes w16 n else if c then 254 ∷ to_le_bytes w32 n else 255 ∷ to_le_bytes w64 n)
number_some n true b c = omega arith
number_some n false true c = omega arith
number_some n false false true = omega arith
number_some n false false false = omega arith

who_some : (who : Actor) → 1 ≤ length (who_text who)
who_some (User n) = number_some n (nat_lt n 253) (nat_lt n 0x10000) (nat_lt n 0x100000000)
who_some (Terminal n) = omega arith

-- an entry has two octets at least
two_octets : (entry : Entry) → 2 ≤ length (entry_text entry)
two_octets entry =
    let who = who_some entry.who in
    let first = length-append (who_text entry.who) (event_text entry.event) in
    let all = length-append (who_text entry.who ++ event_text entry.event) (answer_text entry.answer) in
    let whole : length (entry_text entry) ≡ suc (length (who_text entry.who ++ event_text entry.event ++ answer_text entry.answer)) = refl in
    omega (arith, who, first, all, whole)

module _ (runs : List Run) (last new : LastRun) (octets : List ℕ) (entry : Entry) (are : AreRuns runs last octets) (none : last.more ≡ 0)
    (kept : IsKept entry) (one : IsOneMore last new (length (octets ++ entry_text entry))) where
  abbrev added : List ℕ
  added = octets ++ entry_text entry

  abbrev own : List ℕ
  own = drop last.begin octets

  within_old : last.begin ≤ length octets
  within_old = let within = are.within in omega (arith, within)

  own_added : drop last.begin added ≡ own ++ entry_text entry
  own_added = drop-append-le last.begin octets (entry_text entry) within_old

  begins_size : size_of runs ≤ length octets
  begins_size = let begins = are.begins in let within = within_old in omega (arith, begins, within)

  -- the last run, with no entry counted
  abbrev alone : List Entry
  alone = entries_told last.entries own

  old_is : history_told runs last octets ≡ runs_told runs octets ++ alone
  old_is =
      ap (λ (k : ℕ). runs_told runs octets ++ last_told last (drop k octets)) (sym are.begins)
      ∙ ap (λ (m : ℕ). runs_told runs octets ++ (alone ++ rounds m (drop last.skip own) [])) none
      ∙ ap (λ (es : List Entry). runs_told runs octets ++ es) (append-nil alone)

  last_is : last_told new (drop (size_of runs) added) ≡ alone ++ entry ∷ []
  last_is =
      ap (λ (k : ℕ). last_told new (drop k added)) (sym are.begins)
      ∙ ap (λ (m : ℕ). entries_told new.entries (drop last.begin added) ++ rounds m (drop new.skip (drop last.begin added)) []) (one.more ∙ none)
      ∙ append-nil (entries_told new.entries (drop last.begin added))
      ∙ ap (λ (n : ℕ). entries_told n (drop last.begin added)) one.entries
      ∙ ap (λ (xs : List ℕ). entries_told (last.entries + 1) xs) own_added
      ∙ pushed last.entries own entry are.written kept

  pub written_one : history_told runs new added ≡ history_told runs last octets ++ entry ∷ []
  written_one =
      ap (λ (es : List Entry). es ++ last_told new (drop (size_of runs) added)) (runs_stay runs octets (entry_text entry) begins_size)
      ∙ ap (λ (es : List Entry). runs_told runs octets ++ es) last_is
      ∙ sym (append_assoc (runs_told runs octets) alone (entry ∷ []))
      ∙ ap (λ (es : List Entry). es ++ entry ∷ []) (sym old_is)

  written_own : AreWritten new.entries (drop new.begin added)
  written_own =
      subst (λ (n : ℕ). AreWritten n (drop new.begin added)) (sym one.entries)
      (subst (λ (k : ℕ). AreWritten (last.entries + 1) (drop k added)) (sym one.begin)
      (subst (AreWritten (last.entries + 1)) (sym own_added) (pushed_written last.entries own entry are.written kept)))

  written_turn : drop new.next added ≡ begun (cycle new added) (behind_rounds new.more (cycle new added) [])
  written_turn =
      ap (λ (k : ℕ). drop k added) one.next
      ∙ ap (λ (m : ℕ). begun (cycle new added) (behind_rounds m (cycle new added) [])) (sym (one.more ∙ none))

  pub written_are : AreRuns runs new added
  written_are =
      let long = one_longer (history_told runs last octets) (history_told runs new added) entry written_one in
      let old_long = are.long in
      let old_some = are.some in
      let old_few = are.few in
      let size = length-append octets (entry_text entry) in
      let two = two_octets entry in
      let entries = one.entries in
      let more = one.more in
      let len = one.len in
      let begin = one.begin in
      record {
        begins = one.begin ∙ are.begins;
        within = one.within;
        written = written_own;
        in_turn = written_turn;
        long = omega (arith, long, old_long, len);
        some = omega (arith, old_some, entries, more, len);
        few = omega (arith, old_few, size, two, len);
        counts = λ h. let c = one.counts h in let c0 = c.0 in let c1 = c.1 in (omega (arith, entries), omega (arith, c0, begin), omega (arith, c1, len));
        small = λ h. absurd (omega (arith, h, more, none));
      }

-- A RUN THAT ENDS
size_more : (runs : List Run) (run : Run) → size_of (runs ++ run ∷ []) ≡ size_of runs + run.size
size_more [] run = omega arith
size_more (first ∷ runs) run = let more = size_more runs run in omega (arith, more)

runs_more : (runs : List Run) (run : Run) (octets : List ℕ) → runs_told (runs ++ run ∷ []) octets ≡ runs_told runs octets ++ run_told run.entries run.skip run.more (take run.size (drop (size_of runs) octets))
runs_more [] run octets = append-nil (run_told run.entries run.skip run.more (take run.size octets))
runs_more (first ∷ runs) run octets =
    ap (λ (es : List Entry). run_told first.entries first.skip first.more (take first.size octets) ++ es) (runs_more runs run (drop first.size octets))
    ∙ ap (λ (xs : List ℕ). run_told first.entries first.skip first.more (take first.size octets) ++ (runs_told runs (drop first.size octets) ++ run_told run.entries run.skip run.more (take run.size xs))) (drop-drop (size_of runs) first.size octets)
    ∙ sym (append_assoc (run_told first.entries first.skip first.more (take first.size octets)) (runs_told runs (drop first.size octets)) (run_told run.entries run.skip run.more (take run.size (drop (first.size + size_of runs) octets))))

module _ (runs : List Run) (last : LastRun) (octets : List ℕ) (run : Run) (are : AreRuns runs last octets) (ended : IsEnded last (length octets) run) where
  abbrev then_runs : List Run
  then_runs = runs ++ run ∷ []

  abbrev then_last : LastRun
  then_last = begun_at (length octets) last.len

  abbrev rest : List ℕ
  rest = drop (size_of runs) octets

  whole : take run.size rest ≡ rest
  whole =
      let size = ended.size in
      let begins = are.begins in
      let long = length-drop (size_of runs) octets in
      let same : run.size ≡ length rest = omega (arith, size, begins, long) in
      ap (λ (n : ℕ). take n rest) same ∙ take-length rest

  run_is : run_told run.entries run.skip run.more (take run.size rest) ≡ last_told last rest
  run_is =
      ap (λ (xs : List ℕ). run_told run.entries run.skip run.more xs) whole
      ∙ ap (λ (n : ℕ). run_told n run.skip run.more rest) ended.entries
      ∙ ap (λ (n : ℕ). run_told last.entries n run.more rest) ended.skip
      ∙ ap (λ (n : ℕ). run_told last.entries last.skip n rest) ended.more

  pub ended_same : history_told then_runs then_last octets ≡ history_told runs last octets
  ended_same =
      append-nil (runs_told then_runs octets)
      ∙ runs_more runs run octets
      ∙ ap (λ (es : List Entry). runs_told runs octets ++ es) run_is

  pub ended_are : AreRuns then_runs then_last octets
  ended_are =
      let size = ended.size in
      let begins = are.begins in
      let within = are.within in
      let more = size_more runs run in
      let few = are.few in
      let nothing = drop_all (length octets) octets (omega arith) in
      record {
        begins = omega (arith, size, begins, within, more);
        within = omega arith;
        written = subst (AreWritten 0) (sym nothing) (refl, tt);
        in_turn = nothing ∙ sym (ap (λ (k : ℕ). begun (drop k octets) []) (omega arith) ∙ nothing);
        long = are.long ∙ ap length (sym ended_same);
        some = omega arith;
        few = few;
        counts = λ h. absurd (omega (arith, h));
        small = λ h. absurd (omega (arith, h));
      }

-- the same of whatever runs and last run these are
module _ (runs then_runs : List Run) (last then_last : LastRun) (octets : List ℕ) (n : ℕ) (size : n ≡ length octets)
    (are : AreRuns runs last octets) (one : IsOneEnded runs then_runs last n) (new : then_last ≡ begun_at n last.len) where
  it : IsOneEnded runs then_runs last (length octets)
  it = subst (IsOneEnded runs then_runs last) size one

  begun_is : then_last ≡ begun_at (length octets) last.len
  begun_is = new ∙ ap (λ (k : ℕ). begun_at k last.len) size

  pub opened_are : AreRuns then_runs then_last octets
  opened_are =
      subst (λ (l : LastRun). AreRuns then_runs l octets) (sym begun_is)
      (subst (λ (rs : List Run). AreRuns rs (begun_at (length octets) last.len) octets) (sym it.2) (ended_are runs last octets it.0 are it.1))

  pub opened_same : history_told then_runs then_last octets ≡ history_told runs last octets
  opened_same =
      ap (λ (rs : List Run). history_told rs then_last octets) it.2
      ∙ ap (λ (l : LastRun). history_told (runs ++ it.0 ∷ []) l octets) begun_is
      ∙ ended_same runs last octets it.0 are it.1

pub small_run : (runs : List Run) (last : LastRun) (octets : List ℕ) → AreRuns runs last octets → 0 < last.more → IsSmall last (length octets)
small_run runs last octets are some =
    let small = are.small some in
    let within = are.within in
    let entries = few_entries last.entries (drop last.begin octets) are.written in
    let long = length-drop last.begin octets in
    let size = small.1 in
    record {
      entries = omega (arith, size, entries, long);
      size = omega (arith, size);
      skip = omega (arith, size, within);
      more = small.2;
    }

-- ROOM
pub has_run : (needs spare room : ℕ) → 0 < needs → needs ≤ room_in spare room → 0 < spare
has_run needs zero room some h = absurd (omega (arith, some, h))
has_run needs (suc spare) room some h = omega arith

pub has_octets : (needs spare room : ℕ) → needs ≤ room_in spare room → needs ≤ room
has_octets needs zero room h = omega (arith, h)
has_octets needs (suc spare) room h = h

same_body : (unit : UnitRef) → length (body_in unit) ≡ length (body_of_unit (unit_in unit))
same_body (UnitRef.Fisu head) = refl
same_body (UnitRef.Lssu head status) = refl
same_body (UnitRef.Msu head body) = refl

-- an event that is lent has as many octets as the event
pub same_octets : (event : EventRef) → length (octets_in event) ≡ length (body_of (event_in event))
same_octets (EventRef.Offer body) = refl
same_octets EventRef.Take = refl
same_octets (EventRef.Find number) = refl
same_octets (EventRef.Next link) = refl
same_octets (EventRef.Heard link unit) = same_body unit
same_octets (EventRef.Up link) = refl
same_octets (EventRef.Down link) = refl
same_octets (EventRef.DownBlind link) = refl
same_octets (EventRef.NoAnswer link) = refl
same_octets (EventRef.Timed link) = refl
same_octets (EventRef.Restore link) = refl
same_octets (EventRef.Redeclare link) = refl
same_octets (EventRef.BackTimeout link) = refl
same_octets (EventRef.Test link) = refl
