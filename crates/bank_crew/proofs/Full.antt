-- What a full history leaves: who tells of it was told so by the set.
use Rattle.std.proofs.Common.{refl, ◌≡◌, ◌∙◌, sym, subst, ◌/◌, true, ℕ, Bool, true, false, All, List, [], ◌∷◌, ◌++◌, Option, None, Some, Result, Ok, Err}
use Rattle.std.proofs.lemmas.List.Elements.{All-append, All-cons, All-head, All-nil, All-tail}
use Rattle.link_term.specs.declared.fault.TermFault.{TermFault}
use Rattle.link_term.specs.Faults.{fault_of as term_fault_of}
use Rattle.link_term.specs.Standing.{Standing}
use Rattle.link_term.specs.Turning.{TurnFails, by_fault, by_profile}
use Rattle.set_events.specs.declared.answer.Answer.{Answer}
use Rattle.set_events.specs.declared.fault.SetFault.{SetFault}
use Rattle.term_model.specs.declared.report.TermReport.{TermReport}
use Rattle.bank_crew.specs.declared.carried.Carried.{Carried}
use Rattle.bank_crew.specs.declared.fault.UserFault.{UserFault}
use Rattle.bank_crew.specs.declared.manager.Instruction.{Instruction}
use Rattle.bank_crew.specs.declared.plan.Managed.{Managed}
use Rattle.bank_crew.specs.declared.plan.Plan.{Plan}
use Rattle.bank_crew.specs.declared.report.Answered.{Answered}
use Rattle.bank_crew.specs.declared.report.ShiftReport.{ShiftReport}
use Rattle.bank_crew.specs.Counts.{reported}
use Rattle.bank_crew.specs.Faults.{fault_of}
use Rattle.bank_crew.specs.Jobs.{end_of_call}
use Rattle.bank_crew.specs.Managing.{Look}
use Rattle.bank_crew.specs.Shifts.{SlicesFrom, all_taken, broken_off, one_more, told_end, TurnsOf}

-- A USER'S CALL that is told as a full history was answered so
user_fault : (fault : SetFault) (F : Type 0) → (fault ≡ SetFault.Exhausted → F) → fault_of fault ≡ UserFault.Exhausted → F
user_fault SetFault.NoMemory F full is = absurd (cc is)
user_fault SetFault.Exhausted F full is = full refl

pub call_full : (answered : Result Answer SetFault) (F : Type 0) → (answered ≡ Err SetFault.Exhausted → F) → end_of_call answered ≡ Err UserFault.Exhausted → F
call_full (Ok answer) F full is = absurd (cc is)
call_full (Err SetFault.NoMemory) F full is = absurd (cc is)
call_full (Err SetFault.Exhausted) F full is = full refl

-- THE SET'S FAULTS at a door
module _ (full : Bool) where
  pub full_on : (full' : Bool) (faults : List SetFault) → (full ≡ true → full' ≡ true) → All (λ (fault : SetFault). fault ≡ SetFault.Exhausted → full ≡ true) faults → All (λ (fault : SetFault). fault ≡ SetFault.Exhausted → full' ≡ true) faults
  full_on full' faults stays all = λ k d lt is. stays (all k d lt is)

  pub full_more : (faults : List SetFault) (fault : SetFault) → (fault ≡ SetFault.Exhausted → full ≡ true) → All (λ (f : SetFault). f ≡ SetFault.Exhausted → full ≡ true) faults
      → All (λ (f : SetFault). f ≡ SetFault.Exhausted → full ≡ true) (faults ++ fault ∷ [])
  full_more faults fault is all =
      let P : SetFault → Type 0 = λ (f : SetFault). f ≡ SetFault.Exhausted → full ≡ true in
      All-append P faults (fault ∷ []) all (All-cons P fault [] is (All-nil P))

-- A TERMINAL that failed by a full history was answered so
module _ (F : Type 0) where
  abbrev pub Told : SetFault → Type 0
  Told fault = fault ≡ SetFault.Exhausted → F

  last_told : (faults : List SetFault) (fault : SetFault) → All Told (faults ++ fault ∷ []) → Told fault
  last_told [] fault all = All-head Told fault [] all
  last_told (f ∷ faults) fault all = last_told faults fault (All-tail Told f (faults ++ fault ∷ []) all)

  by_set : (told : SetFault) (fault : TermFault) → fault ≡ term_fault_of told → fault ≡ TermFault.Exhausted → Told told → F
  by_set SetFault.NoMemory fault of is told = absurd (cc (sym of ∙ is))
  by_set SetFault.Exhausted fault of is told = told refl

  turn_full : (fault : TermFault) (before after : Standing) → TurnFails fault before after → fault ≡ TermFault.Exhausted → All Told after.faults → F
  turn_full fault before after (by_fault broken turn) is all =
      by_set broken.told fault broken.fault_is is (last_told before.faults broken.told (subst (All Told) broken.faults_are all))
  turn_full fault before after (by_profile profile same turn) is all = absurd (cc (sym profile ∙ is))

  slices_full : (plan : Plan) (link left : ℕ) (counted : TermReport) (ended : Result TermReport TermFault) (looks : List Look) (before after : Standing) → SlicesFrom plan link left counted ended looks before after
      → ended ≡ Err TermFault.Exhausted → All Told after.faults → F
  slices_full plan link left counted ended looks before after (all_taken c at) is all = absurd (cc is)
  slices_full plan link left counted ended looks before after (told_end m sight c at told some) is all = absurd (cc is)
  slices_full plan link left counted ended looks before after (broken_off m turns sight instruction c fault b a told few short slice) is all =
      turn_full fault slice.between a slice.fails (cc is) all
  slices_full plan link left counted ended looks before after (one_more m turns sight instruction c report e ls b between a told some few short slice rest) is all =
      slices_full plan link _ _ e ls between a rest is all

  reported_full : (answered : Answered) (carried : Carried) (tape : Option (List ℕ)) (counts : Result TermReport TermFault) (told : Result ShiftReport TermFault) → told ≡ reported answered carried tape counts → told ≡ Err TermFault.Exhausted → counts ≡ Err TermFault.Exhausted
  reported_full answered carried tape (Ok report) told same is = absurd (cc (sym same ∙ is))
  reported_full answered carried tape (Err fault) told same is = cc (sym same ∙ is)

  pub shift_full : (plan : Plan) (link : ℕ) (answered : Answered) (carried : Carried) (tape : Option (List ℕ)) (counts : Result TermReport TermFault) (told : Result ShiftReport TermFault) (looks : List Look) (before after : Standing)
      → TurnsOf plan link counts looks before after → All Told after.faults → told ≡ reported answered carried tape counts → told ≡ Err TermFault.Exhausted → F
  shift_full plan link answered carried tape counts told looks before after turned all same is =
      slices_full plan link plan.turns _ counts looks before after turned (reported_full answered carried tape counts told same is) all
