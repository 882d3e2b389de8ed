-- The lines of a history, read one after another, and what is said at the end.
use Rattle.std.proofs.Common.{refl, arith, sym, subst, ◌≡◌, ◌∙◌, ap, ◌<◌, ◌≤◌, [], ◌∷◌, ◌++◌, length, ℕ, suc, false, true, List, Option, None, Some, Result, Ok, Err, append_assoc, append-nil}
use Rattle.std.proofs.lemmas.Bool.Decides.{nat_tests}
use Rattle.std.proofs.lemmas.List.{length-append}
use Rattle.text_base.specs.Printing.{IsBegun, Printed, StopsIn}
use Rattle.text_base.specs.declared.fault.Stop.{Stop}
use Rattle.text_base.specs.declared.fault.Stop.TheVariants.{Input, Memory}
use Rattle.history_audit.specs.Auditing.{IsAuditOf, IsAuditOfLines, fails}
use Rattle.history_audit.specs.Explaining.{said_from, said_on}
use Rattle.history_audit.specs.Reading.{Concludes, HasTold, IsRead, IsUnread, StandsFor}
use Rattle.history_audit.specs.declared.course.Course.{Course}
use Rattle.history_audit.specs.declared.fault.AuditFault.{AuditFault}
use Rattle.history_audit.specs.declared.fault.AuditFault.TheVariants.{Text}
use Rattle.history_audit.proofs.Verdicts.{one_of_telling}
use Rattle.text_entries.specs.Telling.{Telling, Told, flaw_in, goes_on, is_very_long, longest_line, nothing_told, told_from, told_in_all, unreadable, with_any_line, with_line}
use Rattle.text_lines.specs.LineTexts.{AreBegun, EndsLines, HaveOneText, IsLast, ReadsLine, ReadsLineOrStops, RefuseVeryLong, StopsAtLine}
use Rattle.text_lines.specs.declared.flaw.LineFlaw.TheVariants.{VeryLong}
use Rattle.text_lines.specs.Flaws.{flaw_of}

pub begins : HasTold None [] []
begins = record { told = nothing_told; stands = refl; nothing = refl; goes_on = λ left. refl; says = λ left. refl }

-- A LINE

told_on : (n : ℕ) (line : List ℕ) (outcome : Option Told) (told : Told) (more : Told → Telling) → outcome ≡ Some told → goes_on n line outcome more ≡ more told
told_on n line outcome told more e = rw e refl

said_more : (n : ℕ) (before : Told) (line : List ℕ) (outcome : Option Told) (told : Told) (more : Told → Option (List ℕ)) → outcome ≡ Some told → said_on n before line outcome more ≡ more told
said_more n before line outcome told more e = rw e refl

untold : (n : ℕ) (line : List ℕ) (outcome : Option Told) (more : Told → Telling) → outcome ≡ None → goes_on n line outcome more ≡ unreadable n (flaw_in line)
untold n line outcome more e = rw e refl

-- one that isn't too long is read, and has the flaw that its octets tell
pub isnt_very_long : (line : List ℕ) → length line ≤ longest_line → is_very_long line ≡ false
isnt_very_long line short = grind (arith, nat_tests, short)

pub is_read : (n : ℕ) (told : Told) (line : List ℕ) → length line ≤ longest_line → with_any_line n told line ≡ with_line n told line
is_read n told line short = rw (isnt_very_long line short) refl

flaw_is : (line : List ℕ) → length line ≤ longest_line → flaw_in line ≡ flaw_of line
flaw_is line short = rw (isnt_very_long line short) refl

numbered : (past : List (List ℕ)) (line : List ℕ) → suc (suc (length past)) ≡ suc (length (past ++ line ∷ []))
numbered past line = omega (arith, length-append past (line ∷ []))

-- it was read
pub told_more : (old new : Option Course) (n : ℕ) (line : List ℕ) → length line ≤ longest_line → ((told : Told) → StandsFor told old → IsRead (Ok tt) n line (with_line n told line) new)
    → (past : List (List ℕ)) (lines : List ℕ) → n ≡ suc (length past) → HasTold old past lines → HasTold new (past ++ line ∷ []) (lines ++ [])
told_more old new n line short read past lines at had =
    let r = read had.told had.stands in
    let same : with_any_line (suc (length past)) had.told line ≡ Some r.0 = subst (λ (m : ℕ). with_any_line m had.told line ≡ Some r.0) at (is_read n had.told line short ∙ r.1) in
    record {
      told = r.0;
      stands = r.2;
      nothing = append-nil lines ∙ had.nothing;
      goes_on = λ left.
          ap (told_from 1 nothing_told) (append_assoc past (line ∷ []) left) ∙ had.goes_on (line ∷ left)
          ∙ told_on (suc (length past)) line (with_any_line (suc (length past)) had.told line) r.0 (λ next. told_from (suc (suc (length past))) next left) same
          ∙ ap (λ (m : ℕ). told_from m r.0 left) (numbered past line);
      says = λ left.
          ap (said_from 1 nothing_told) (append_assoc past (line ∷ []) left) ∙ had.says (line ∷ left)
          ∙ said_more (suc (length past)) had.told line (with_any_line (suc (length past)) had.told line) r.0 (λ next. said_from (suc (suc (length past))) next left) same
          ∙ ap (λ (m : ℕ). said_from m r.0 left) (numbered past line);
    }

-- it can't be read
pub fault_told : (old new : Option Course) (n : ℕ) (line : List ℕ) (fault : AuditFault) → length line ≤ longest_line → ((told : Told) → StandsFor told old → IsRead (Err (Input fault)) n line (with_line n told line) new)
    → (past : List (List ℕ)) (lines : List ℕ) → n ≡ suc (length past) → HasTold old past lines → (left : List (List ℕ))
    → (told_from 1 nothing_told (past ++ line ∷ left) ≡ unreadable n (flaw_of line)) × (fault ≡ Text n (flaw_of line))
fault_told old new n line fault short read past lines at had left =
    let u = read had.told had.stands in
    let none : with_any_line (suc (length past)) had.told line ≡ None = subst (λ (m : ℕ). with_any_line m had.told line ≡ None) at (is_read n had.told line short ∙ u.1) in (
      had.goes_on (line ∷ left)
          ∙ untold (suc (length past)) line (with_any_line (suc (length past)) had.told line) (λ next. told_from (suc (suc (length past))) next left) none
          ∙ ap (unreadable (suc (length past))) (flaw_is line short) ∙ ap (λ (m : ℕ). unreadable m (flaw_of line)) (sym at),
      u.0,
    )

pub fails_so : (telling : Telling) (n : ℕ) (line : List ℕ) (fault : AuditFault) (lines : List ℕ) → lines ≡ [] → (telling ≡ unreadable n (flaw_of line)) × (fault ≡ Text n (flaw_of line))
    → IsAuditOf telling (record { printed = lines ++ []; fault = Some fault })
fails_so telling n line fault lines none e = rw (e.0, e.1, none) refl

-- nothing is the beginning of every text
pub nothing_begins : {F : Type 0} (IsIt : Printed F → Type 0) (lines : List ℕ) → lines ≡ [] → IsBegun IsIt lines
nothing_begins IsIt lines none = λ text is. (text.printed, rw none refl)

pub no_more : (lines : List ℕ) → lines ≡ [] → lines ++ [] ≡ []
no_more lines none = append-nil lines ∙ none

stops : (stop : Stop AuditFault) (old new : Option Course) (n : ℕ) (line : List ℕ) → length line ≤ longest_line → ((told : Told) → StandsFor told old → IsRead (Err stop) n line (with_line n told line) new)
    → (past : List (List ℕ)) (lines : List ℕ) → n ≡ suc (length past) → HasTold old past lines → (left : List (List ℕ)) → StopsIn stop (IsAuditOfLines (past ++ line ∷ left)) (lines ++ [])
stops (Input fault) old new n line short read past lines at had left =
    fails_so (told_from 1 nothing_told (past ++ line ∷ left)) n line fault lines had.nothing (fault_told old new n line fault short read past lines at had left)
stops Memory old new n line short read past lines at had left = nothing_begins (IsAuditOfLines (past ++ line ∷ left)) (lines ++ []) (no_more lines had.nothing)

pub reads_line : (result : Result (Unit {0}) (Stop AuditFault)) (old new : Option Course) (n : ℕ) (line out : List ℕ) → length line ≤ longest_line
    → ((told : Told) → StandsFor told old → IsRead result n line (with_line n told line) new)
    → ReadsLineOrStops IsAuditOfLines result (HasTold old) n line out out (HasTold new)
reads_line (Ok done) old new n line out short read = record { printed = []; added = sym (append-nil out); goes_on = told_more old new n line short read }
reads_line (Err stop) old new n line out short read = record { printed = []; added = sym (append-nil out); ends = stops stop old new n line short read }

-- THE LAWS

pub lines_have_one : HaveOneText IsAuditOfLines
lines_have_one lines a b x y = one_of_telling (told_from 1 nothing_told lines) a b x y

pub begun_by : {F : Type 0} (IsText : List (List ℕ) → Printed F → Type 0) → AreBegun IsText HasTold
begun_by IsText course past printed had left = nothing_begins (IsText (past ++ left)) printed had.nothing

-- the line is too long
pub none_read : (n : ℕ) (told : Told) (line : List ℕ) → is_very_long line ≡ true → with_any_line n told line ≡ None
none_read n told line e = rw e refl

flaw_long : (line : List ℕ) → is_very_long line ≡ true → flaw_in line ≡ VeryLong
flaw_long line e = rw e refl

told_long : (n : ℕ) (told : Told) (line : List ℕ) (more : Told → Telling) → is_very_long line ≡ true → goes_on n line (with_any_line n told line) more ≡ unreadable n VeryLong
told_long n told line more e = untold n line (with_any_line n told line) more (none_read n told line e) ∙ ap (unreadable n) (flaw_long line e)

pub refuses_long : RefuseVeryLong 16384 (λ n. Text n VeryLong) IsAuditOfLines HasTold
refuses_long course past printed had line left h =
    let long : is_very_long line ≡ true = grind (arith, nat_tests, h) in
    let telling : told_from 1 nothing_told (past ++ line ∷ left) ≡ unreadable (suc (length past)) VeryLong =
    had.goes_on (line ∷ left) ∙ told_long (suc (length past)) had.told line (λ next. told_from (suc (suc (length past))) next left) long in
    rw (telling, had.nothing) refl

-- THE END

nothing_more : (out : List ℕ) → out ≡ out ++ []
nothing_more out = sym (append-nil out)

pub concludes : (course : Option Course) (n : ℕ) (before after text : List ℕ) (fault : Option AuditFault) → after ≡ before ++ text → fault ≡ None
    → ((told : Told) → StandsFor told course → IsAuditOf (told_in_all n told.settings told) (record { printed = text; fault = fault })) → Concludes (Ok tt) course n before after
concludes course n before after text fault added none said = record {
  printed = text;
  added = added;
  ends = λ told s. subst (λ (f : Option AuditFault). IsAuditOf (told_in_all n told.settings told) (record { printed = text; fault = f })) none (said told s);
}

pub concludes_with : (course : Option Course) (n : ℕ) (before after text : List ℕ) (fault : Option AuditFault) (ended : AuditFault) → after ≡ before ++ text → fault ≡ Some ended
    → ((told : Told) → StandsFor told course → IsAuditOf (told_in_all n told.settings told) (record { printed = text; fault = fault })) → Concludes (Err (Input ended)) course n before after
concludes_with course n before after text fault ended added is said = record {
  printed = text;
  added = added;
  ends = λ told s. subst (λ (f : Option AuditFault). IsAuditOf (told_in_all n told.settings told) (record { printed = text; fault = f })) is (said told s);
}

pub concludes_none : (course : Option Course) (n : ℕ) (before after : List ℕ) → after ≡ before → Concludes (Err Memory) course n before after
concludes_none course n before after e = record {
  printed = [];
  added = e ∙ nothing_more before;
  ends = λ told s. nothing_begins (IsAuditOf (told_in_all n told.settings told)) [] refl;
}

told_all : (course : Option Course) (past : List (List ℕ)) (lines : List ℕ) (n : ℕ) (had : HasTold course past lines) → n ≡ suc (length past) → told_in_all n had.told.settings had.told ≡ told_from 1 nothing_told past
told_all course past lines n had at =
    ap (λ (m : ℕ). told_in_all m had.told.settings had.told) at ∙ sym (ap (told_from 1 nothing_told) (sym (append-nil past)) ∙ had.goes_on [])

pub ends : (result : Result (Unit {0}) (Stop AuditFault)) (course : Option Course) (n : ℕ) (before after : List ℕ) → Concludes result course n before after
    → EndsLines IsAuditOfLines result (HasTold course) n before after
ends result course n before after c = record {
  printed = c.printed;
  added = c.added;
  ends = λ past lines at had.
      subst (λ (l : List ℕ). IsLast result (IsAuditOfLines past) (l ++ c.printed)) (sym had.nothing)
      (subst (λ (t : Telling). IsLast result (IsAuditOf t) c.printed) (told_all course past lines n had at) (c.ends had.told had.stands));
}
