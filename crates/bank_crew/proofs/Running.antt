-- A terminal's turns.
use Rattle.std.proofs.Common.{refl, true, ap, ap₂, ◌≡◌, ◌∙◌, sym, subst, ◌/◌, ◌-◌, ◌<◌, ◌≤◌, ℕ, Bool, Option, None, Some, List, [], ◌∷◌, ◌++◌, length, Result, Ok, Err, IfOk, IfErr, MatchResult}
use Rattle.std.proofs.lemmas.List.{append-nil, append_assoc}
use Rattle.std.specs.Option.{option_eq}
use Rattle.std.specs.Prelude.{nat_eq}
use Rattle.term_model.specs.declared.report.TermReport.{TermReport}
use Rattle.link_term.specs.declared.fault.TermFault.{TermFault}
use Rattle.set_events.specs.declared.fault.SetFault.{SetFault}
use Rattle.set_events.specs.declared.history.Entry.{Entry}
use Rattle.term_model.specs.Terminal.{Terminal, opened, told}
use Rattle.term_model.specs.declared.command.Command.TheVariants.{Emergency, Start}
use Rattle.bank_crew.specs.declared.manager.Instruction.{Instruction}
use Rattle.bank_crew.specs.declared.plan.Managed.{Managed}
use Rattle.bank_crew.specs.declared.plan.Plan.{Plan}
use Rattle.bank_crew.specs.declared.report.Answered.{Answered}
use Rattle.bank_crew.specs.declared.report.ShiftReport.{ShiftReport}
use Rattle.bank_crew.specs.declared.carried.Carried.{Carried}
use Rattle.bank_crew.specs.Carrying.{carried_in}
use Rattle.bank_crew.specs.Counts.{answered_in, reported}
use Rattle.bank_crew.specs.declared.questions.Awaited.{Awaited}
use Rattle.bank_crew.specs.Awaiting.{AsksFrom}
use Rattle.bank_crew.specs.Managing.{Look, are_marks, looks_in, of_turns}
use Rattle.line_tape.specs.Taping.{IsTape}
use Rattle.line_ring.specs.declared.line.Line as line_end
use Rattle.link_term.specs.Looking.{Seen, seen as seen_line}
use Rattle.link_term.specs.Standing.{Standing, standing}
use Rattle.bank_crew.specs.declared.manager.Sight.{Sight}
use Rattle.bank_crew.specs.Shifts.{DoesShift, MayBe, RunsOver, SlicesFrom, all_taken, broken_off, told_end, one_more, TurnsOf, both, fresh, look_at, look_of, longest_slice, Slice, stop_of, up_to}

-- it went, or it failed
pub either_way : (A : Type 0) (P : TermReport → Type 0) (Q : TermFault → Type 0) (result : Result TermReport TermFault) → IfOk result (λ report. A × P report) → IfErr result Q → MatchResult result P Q
either_way A P Q (Ok report) went failed = went.1
either_way A P Q (Err fault) went failed = failed

-- A SHIFT, from a new terminal on
pub shift_of : (plan : Plan) (link number : ℕ) (counts : Result TermReport TermFault) (ended : Result ShiftReport TermFault) (answered : Answered) (carried : Carried) (tape : Option (List ℕ)) (marks : List ℕ) (looks : List Look) (awaited : Awaited) (before after : Standing) (made : List Entry)
    → TurnsOf plan number counts looks before after → looks_in marks ≡ looks → before.taken ≡ [] → before.inside ≡ told Start (told Emergency (opened number plan.timers))
    → before.made ≡ [] → before.faults ≡ [] → number ≡ link → are_marks number marks made ≡ true → AsksFrom plan.managed number marks made awaited → of_turns marks made ≡ after.made → ended ≡ reported answered carried tape counts
    → answered ≡ answered_in number made → carried ≡ carried_in plan.managed number made → before.line.put ≡ [] → IsTape plan.keeps tape after.line.put
    → (does : DoesShift plan link ended made) × (does.line ≡ before.line) × (does.after ≡ after)
shift_of plan link number counts ended answered carried tape marks looks awaited before after made turned looked taken_is inside_is made_is faults_is same marked asks end_is told_is counted carries none taped =
    let new = told Start (told Emergency (opened number plan.timers)) in
    let start : before ≡ fresh number plan.timers before.line =
    ap (λ (t : List ℕ). standing t before.inside before.made before.faults before.line) taken_is
    ∙ ap (λ (t : Terminal). standing [] t before.made before.faults before.line) inside_is
    ∙ ap (λ (m : List Entry). standing [] new m before.faults before.line) made_is
    ∙ ap (λ (fs : List SetFault). standing [] new [] fs before.line) faults_is in
    subst (λ (k : ℕ). (does : DoesShift plan k ended made) × (does.line ≡ before.line) × (does.after ≡ after)) same (
      record {
        line = before.line;
        after = after;
        counts = counts;
        marks = marks;
        turns = subst (λ (ls : List Look). TurnsOf plan number counts ls (fresh number plan.timers before.line) after) (sym looked)
            (subst (λ (b : Standing). TurnsOf plan number counts looks b after) start turned);
        marks_are = marked;
        awaited = awaited;
        asks = asks;
        made_is = end_is;
        none_put = none;
        tape = tape;
        tape_is = taped;
        ended_is = told_is ∙ ap (λ (a : Answered). reported a carried tape counts) counted ∙ ap (λ (c : Carried). reported (answered_in number made) c tape counts) carries;
      },
      refl,
      refl,
    )

-- a look changes nothing of how a terminal stands
pub looked_on : (taken : List ℕ) (inside : Terminal) (line : Seen) (made made' : List Entry) (faults faults' : List SetFault) → made' ≡ made → faults' ≡ faults → standing taken inside made' faults' line ≡ standing taken inside made faults line
looked_on taken inside line made made' faults faults' same quiet = ap₂ (λ (m : List Entry) (f : List SetFault). standing taken inside m f line) same quiet

-- it saw how the terminal stood
pub look_seen : (made : List Entry) (out is : Bool) (sight : Sight) → out ≡ is → look_of (length made) out sight ≡ look_of (length made) is sight
look_seen made out is sight same = ap (λ (o : Bool). look_of (length made) o sight) same

-- ONE LOOK MORE of a door: behind these from that one on
pub looks_on : (start now looked ran looks : List Look) (look look' : Look) → now ≡ start ++ looks → looked ≡ now ++ look ∷ [] → ran ≡ looked → look ≡ look' → ran ≡ start ++ (looks ++ look' ∷ [])
looks_on start now looked ran looks look look' so_far more same is =
    same ∙ more ∙ ap₂ (λ (ls : List Look) (l : Look). ls ++ l ∷ []) so_far is ∙ append_assoc start looks (look' ∷ [])

-- A SLICE more.
module _ (plan : Plan) (link left turns : ℕ) (sight : Sight) (instruction : Instruction) (counted : TermReport) (before looked : Standing) (same : looked ≡ before) (told : MayBe plan link left instruction) (few : turns ≤ up_to (stop_of plan link) left) (short : turns ≤ longest_slice) where
  seen : (ended : Result TermReport TermFault) (after : Standing) → Slice sight instruction turns ended looked after → Slice sight instruction turns ended before after
  seen ended after slice = subst (λ (it : Standing). Slice sight instruction turns ended it after) same slice

  pub slice_more : (report total : TermReport) (ended : Result TermReport TermFault) (looks : List Look) (between after : Standing) → 0 < turns → Slice sight instruction turns (Ok report) looked between
      → total ≡ both counted report → SlicesFrom plan link (left - turns) total ended looks between after → SlicesFrom plan link left counted ended (look_at before sight ∷ looks) before after
  slice_more report total ended looks between after some slice is rest =
      one_more left turns sight instruction counted report ended looks before between after told some few short (seen (Ok report) between slice)
      (subst (λ (t : TermReport). SlicesFrom plan link (left - turns) t ended looks between after) is rest)

  pub slice_breaks : (fault : TermFault) (after : Standing) → Slice sight instruction turns (Err fault) looked after → SlicesFrom plan link left counted (Err fault) (look_at before sight ∷ []) before after
  slice_breaks fault after slice = broken_off left turns sight instruction counted fault before after told few short (seen (Err fault) after slice)

-- or none is left, or they end
pub all_slices : (plan : Plan) (link left : ℕ) (counted : TermReport) (at : Standing) → left ≡ 0 → SlicesFrom plan link left counted (Ok counted) [] at at
all_slices plan link left counted at none = subst (λ (n : ℕ). SlicesFrom plan link n counted (Ok counted) [] at at) (sym none) (all_taken counted at)

pub slices_end : (plan : Plan) (link left : ℕ) (sight : Sight) (counted : TermReport) (before looked : Standing) → looked ≡ before → MayBe plan link left Instruction.End → 0 < left
    → SlicesFrom plan link left counted (Ok counted) (look_at before sight ∷ []) before looked
slices_end plan link left sight counted before looked same told some =
    subst (λ (it : Standing). SlicesFrom plan link left counted (Ok counted) (look_at before sight ∷ []) before it) (sym same) (told_end left sight counted before told some)

-- THE LINE that was handed in, with a tape on which nothing stood, and how it's left
pub runs_over : {L : Type 0} (l : line_end.Ghosts L) (line first left : L) (put : List ℕ) (before after : Seen) → first ≡ line → l.is_same first left → l.put_so_far left ≡ l.put_so_far line ++ put
    → before ≡ seen_line (l.taken_so_far first) (l.waiting first) [] (l.free first) → after ≡ seen_line (l.taken_so_far left) (l.waiting left) put (l.free left) → RunsOver l line before after
runs_over {L} l line first left put before after handed same passed was is = record {
  left = left;
  same = subst (λ (it : L). l.is_same it left) handed same;
  first_is = was ∙ ap (λ (it : L). seen_line (l.taken_so_far it) (l.waiting it) [] (l.free it)) handed;
  last_is = is ∙ ap (λ (p : List ℕ). seen_line (l.taken_so_far left) (l.waiting left) p (l.free left)) (ap (λ (s : Seen). s.put) (sym is));
  put_is = passed ∙ ap (λ (p : List ℕ). l.put_so_far line ++ p) (ap (λ (s : Seen). s.put) (sym is));
}
