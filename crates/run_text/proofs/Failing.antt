-- Where no failure is told each user got through, and no terminal failed.
use Rattle.std.proofs.Common.{refl, ◌≡◌, ◌≢◌, sym, subst, ℕ, suc, List, [], ◌∷◌, Option, None, Some, Result, Ok, Err, All, IsOk, IfErr}
use Rattle.std.specs.Option.{option_or}
use Rattle.std.proofs.lemmas.List.Elements.{All-nil, All-cons}
use Rattle.bank_crew.specs.declared.report.ShiftReport.{ShiftReport}
use Rattle.bank_crew.specs.declared.report.UserReport.{UserReport}
use Rattle.link_term.specs.declared.fault.TermFault.{TermFault}
use Rattle.bank_crew.specs.declared.end.SetEnd.{SetEnd}
use Rattle.pair_steps.specs.declared.step.End.{End}
use Rattle.pair_steps.specs.declared.step.End.TheVariants.{A, B}
use Rattle.bank_crew.specs.declared.fault.UserFault.{UserFault}
use Rattle.run_text.specs.declared.failures.Failed.{Failed}
use Rattle.run_text.specs.declared.failures.Stuck.{Stuck}
use Rattle.run_text.specs.Failures.{stuck_from, failed_from, failure_in, failure_from, failure_of}
use Rattle.text_base.specs.declared.fault.Fault.{Fault}
use Rattle.text_base.specs.declared.fault.Fault.TheVariants.{Input, Memory, Read, Long, Write}
use Rattle.text_base.specs.Printing.{IsDevices}
use Rattle.bank_core.specs.declared.fault.BankFault.{BankFault}
use Rattle.bank_core.specs.declared.fault.BankFault.TheVariants.{NoMemory, Users, Sets, NoThread, Unclosed, Wide}
use Rattle.bank_traffic.specs.declared.asked.Traffic.{Traffic}
use Rattle.bank_traffic.specs.Opening.{AreEndsOf, far_end, near_end}
use Rattle.run_text.specs.declared.fault.RunFault.{RunFault}
use Rattle.run_text.specs.declared.fault.RunFault.TheVariants.{Thread, Close, User, Terminal}
use Rattle.run_text.specs.Running.{GotThrough, IsFailure, IsFaultOfEnds, IsFaultOfRun, TellsLack}

pub neither : {T : Type 0} (a b : Option T) → option_or a b ≡ None → (a ≡ None) × (b ≡ None)
neither None b h = (refl, h)
neither (Some x) b h = cc h

none_stuck : (user : ℕ) (users : List (Result UserReport UserFault)) → stuck_from user users ≡ None → All IsOk users
none_stuck user [] h = All-nil IsOk
none_stuck user (Ok done ∷ users) h = All-cons IsOk (Ok done) users refl (none_stuck (suc user) users h)
none_stuck user (Err fault ∷ users) h = cc h

none_failed : (link : ℕ) (reports : List (Result ShiftReport TermFault)) → failed_from link reports ≡ None → All IsOk reports
none_failed link [] h = All-nil IsOk
none_failed link (Ok report ∷ reports) h = All-cons IsOk (Ok report) reports refl (none_failed (suc link) reports h)
none_failed link (Err fault ∷ reports) h = cc h

none_in : (end : End) (set : ℕ) (user : Option Stuck) (failed : Option Failed) → failure_in end set user failed ≡ None → (user ≡ None) × (failed ≡ None)
none_in end set (Some user) failed h = cc h
none_in end set None (Some failed) h = cc h
none_in end set None None h = (refl, refl)

none_from : (end : End) (set : ℕ) (sets : List SetEnd) → failure_from end set sets ≡ None → All GotThrough sets
none_from end set [] h = All-nil GotThrough
none_from end set (of_set ∷ sets) h =
    let both = neither _ (failure_from end (suc set) sets) h in
    let here = none_in end set _ _ both.0 in
    All-cons GotThrough of_set sets (record { users = none_stuck 0 of_set.users.items here.0; terminals = none_failed 0 of_set.reports.items here.1 })
    (none_from end (suc set) sets both.1)

pub all_got_through : (near far : List SetEnd) → failure_of near far ≡ None → All GotThrough near × All GotThrough far
all_got_through near far h =
    let both = neither (failure_from A 0 near) (failure_from B 0 far) h in
    (none_from A 0 near both.0, none_from B 0 far both.1)

-- what is told of ends is told of the traffic that came to them
told : (traffic : Traffic) (near far : List SetEnd) → AreEndsOf traffic (near_end traffic) near
    → AreEndsOf traffic (far_end traffic) far → (fault : RunFault) → failure_of near far ≡ Some fault → IsFailure traffic fault
told traffic near far a b Thread is = tt
told traffic near far a b Close is = tt
told traffic near far a b (User set end user fault) is = record { near = near; far = far; near_are = a; far_are = b; failure_is = is }
told traffic near far a b (Terminal set end link fault) is = record { near = near; far = far; near_are = a; far_are = b; failure_is = is }

told_of_run : (traffic : Traffic) (near far : List SetEnd) → AreEndsOf traffic (near_end traffic) near
    → AreEndsOf traffic (far_end traffic) far → (fault : Fault RunFault) → IsFaultOfEnds near far fault → IsFaultOfRun traffic fault
told_of_run traffic near far a b (Input fault) is = told traffic near far a b fault is
told_of_run traffic near far a b Memory is = tt
told_of_run traffic near far a b Read is = is
told_of_run traffic near far a b Long is = is
told_of_run traffic near far a b Write is = tt

pub fault_of_run : {T : Type 0} (traffic : Traffic) (near far : List SetEnd) → AreEndsOf traffic (near_end traffic) near
    → AreEndsOf traffic (far_end traffic) far → (result : Result T (Fault RunFault)) → IfErr result (IsFaultOfEnds near far)
    → IfErr result (IsFaultOfRun traffic)
fault_of_run traffic near far a b (Ok done) is = tt
fault_of_run traffic near far a b (Err fault) is = told_of_run traffic near far a b fault is

-- a bank that ended early lacked something
pub lack_of_run : (traffic : Traffic) (lacked : BankFault) (fault : Fault RunFault) → TellsLack lacked fault → IsFaultOfRun traffic fault
lack_of_run traffic NoMemory fault is = subst (IsFaultOfRun traffic) (sym is) tt
lack_of_run traffic Users fault is = absurd is
lack_of_run traffic Sets fault is = absurd is
lack_of_run traffic NoThread fault is = subst (IsFaultOfRun traffic) (sym is) tt
lack_of_run traffic Unclosed fault is = subst (IsFaultOfRun traffic) (sym is) tt
lack_of_run traffic Wide fault is = absurd is

-- and its sink wasn't asked for anything
pub lack_fails : (lacked : BankFault) (fault : Fault RunFault) (writes : ℕ) → TellsLack lacked fault
    → IsDevices fault ⊥ ⊥ (writes ≢ writes) (writes ≡ writes)
lack_fails NoMemory fault writes is = subst (λ fault. IsDevices fault ⊥ ⊥ (writes ≢ writes) (writes ≡ writes)) (sym is) refl
lack_fails Users fault writes is = absurd is
lack_fails Sets fault writes is = absurd is
lack_fails NoThread fault writes is = subst (λ fault. IsDevices fault ⊥ ⊥ (writes ≢ writes) (writes ≡ writes)) (sym is) refl
lack_fails Unclosed fault writes is = subst (λ fault. IsDevices fault ⊥ ⊥ (writes ≢ writes) (writes ≡ writes)) (sym is) refl
lack_fails Wide fault writes is = absurd is
