-- WHO FAILED: the first user of an end that ended before its job was done, or terminal that stopped early.
use Rattle.std.specs.Prelude.{ℕ, suc, List, [], ◌∷◌, ◌++◌, Option, None, Some, Result, Ok, Err, codes, decimal}
use Rattle.std.specs.Option.{option_or}
use Rattle.bank_crew.specs.declared.report.ShiftReport.{ShiftReport}
use Rattle.bank_crew.specs.declared.report.UserReport.{UserReport}
use Rattle.link_term.specs.declared.fault.TermFault.{TermFault}
use Rattle.bank_crew.specs.declared.end.SetEnd.{SetEnd}
use Rattle.pair_steps.specs.declared.step.End.{End}
use Rattle.pair_steps.specs.declared.step.End.TheVariants.{A, B}
use Rattle.bank_crew.specs.declared.fault.UserFault.{UserFault}
use Rattle.bank_crew.specs.Faults.{fault_number as number_of_user_fault}
use Rattle.link_term.specs.Faults.{fault_number as number_of_term_fault}
use Rattle.run_text.specs.declared.failures.Failed.{Failed}
use Rattle.run_text.specs.declared.failures.Stuck.{Stuck}
use Rattle.run_text.specs.declared.fault.RunFault.{RunFault}
use Rattle.run_text.specs.declared.fault.RunFault.TheVariants.{Thread, Close, User, Terminal}

abbrev pub end_word : End → List ℕ
end_word A = codes "a"
end_word B = codes "b"

-- the first user that ended early, from this number on
abbrev pub stuck_from : ℕ → List (Result UserReport UserFault) → Option Stuck
stuck_from user [] = None
stuck_from user (Ok done ∷ users) = stuck_from (suc user) users
stuck_from user (Err fault ∷ users) = Some (record { user = user; fault = fault })

-- the first terminal that failed, from the link of this number on
abbrev pub failed_from : ℕ → List (Result ShiftReport TermFault) → Option Failed
failed_from link [] = None
failed_from link (Ok report ∷ reports) = failed_from (suc link) reports
failed_from link (Err fault ∷ reports) = Some (record { link = link; fault = fault })

-- of an end of a set: its users before its terminals
abbrev pub failure_in : End → ℕ → Option Stuck → Option Failed → Option RunFault
failure_in end set (Some stuck) failed = Some (User set end stuck.user stuck.fault)
failure_in end set None (Some failed) = Some (Terminal set end failed.link failed.fault)
failure_in end set None None = None

-- of this end of each set, from this number on
abbrev pub failure_from : End → ℕ → List SetEnd → Option RunFault
failure_from end set [] = None
failure_from end set (of_set ∷ sets) =
    option_or
    (failure_in end set (stuck_from 0 of_set.users.items) (failed_from 0 of_set.reports.items))
    (failure_from end (suc set) sets)

-- THE FAILURE that is told: of the ends a before the ends b
abbrev pub failure_of : List SetEnd → List SetEnd → Option RunFault
failure_of near far = option_or (failure_from A 0 near) (failure_from B 0 far)

-- ITS LINE, behind the word `fault`
abbrev pub line_at : ℕ → End → List ℕ → ℕ → ℕ → List ℕ
line_at set end who number fault =
    codes " set=" ++ (decimal set ++ (codes " end=" ++ (end_word end ++ (who ++ (decimal number
    ++ (codes " fault=" ++ decimal fault))))))

abbrev pub fault_line : RunFault → List ℕ
fault_line Thread = codes "thread"
fault_line Close = codes "close"
fault_line (User set end user fault) =
    codes "user" ++ line_at set end (codes " user=") user (number_of_user_fault fault)
fault_line (Terminal set end link fault) =
    codes "terminal" ++ line_at set end (codes " link=") link (number_of_term_fault fault)
