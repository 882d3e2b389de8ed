-- What is said of a line of a history that ends it with a fault.
use Rattle.std.proofs.Common.{refl, arith, sym, subst, ◌≡◌, ◌∙◌, ap, ◌<◌, ◌≤◌, [], ◌∷◌, ◌++◌, length, ℕ, suc, false, true, List, Option, None, Some, IfSome, Result, Ok, Err, append_assoc, append-nil}
use Rattle.std.specs.Option.{option_map}
use Rattle.std.proofs.lemmas.Bool.Decides.{nat_tests}
use Rattle.text_base.specs.Printing.{IsBegun, Printed, Prints, StopsIn}
use Rattle.text_base.specs.declared.fault.Fault.{Fault}
use Rattle.text_base.specs.declared.fault.Fault.TheVariants.{Input as FaultInput, Memory as FaultMemory, Read, Long, Write}
use Rattle.text_base.specs.declared.fault.Stop.{Stop}
use Rattle.text_base.specs.declared.fault.Stop.TheVariants.{Input, Memory}
use Rattle.history_audit.specs.Auditing.{IsAuditOfLines, IsAuditText}
use Rattle.history_audit.specs.Explaining.{IsExplainedAuditText, IsExplainedOfLines, explains, said_from, said_of, said_on}
use Rattle.history_audit.specs.Reading.{Concludes, HasTold, IsRead, StandsFor}
use Rattle.history_audit.specs.declared.course.Course.{Course}
use Rattle.history_audit.specs.declared.fault.AuditFault.{AuditFault}
use Rattle.history_audit.specs.declared.fault.AuditFault.TheVariants.{Text}
use Rattle.history_audit.proofs.Told.{ends, fails_so, fault_told, is_read, isnt_very_long, lines_have_one, no_more, none_read, nothing_begins, refuses_long, told_more}
use Rattle.l2_units.specs.declared.profile.Profile.{Profile}
use Rattle.set_model.specs.State.{Settings}
use Rattle.text_entries.specs.Blaming.{explained_line}
use Rattle.text_entries.specs.Telling.{Told, is_very_long, longest_line, nothing_told, told_from, with_any_line, with_line}
use Rattle.text_lines.specs.Explaining.{Explained, IsExplained, fault_alone, with_fault_alone}
use Rattle.text_lines.specs.LineTexts.{EndsLines, HaveOneText, ReadsLine, RefuseVeryLong, StopsAtLine}
use Rattle.text_lines.specs.Lines.{lines_of}
use Rattle.text_lines.specs.declared.flaw.LineFlaw.TheVariants.{VeryLong}

-- A LINE

-- the profile that was told
told_profile : (told : Told) (course : Option Course) → StandsFor told course → option_map (λ s. s.profile) told.settings ≡ option_map (λ c. c.profile) course
told_profile told None s = rw s refl
told_profile told (Some course) s = rw (s.told_is, s.profile_is) refl

unsaid : (n : ℕ) (told : Told) (line : List ℕ) (outcome : Option Told) (more : Told → Option (List ℕ)) → outcome ≡ None → said_on n told line outcome more ≡ said_of n told.settings line
unsaid n told line outcome more e = rw e refl

said_short : (n : ℕ) (settings : Option Settings) (line : List ℕ) → length line ≤ longest_line → said_of n settings line ≡ explained_line (option_map (λ s. s.profile) settings) n line
said_short n settings line short = rw (isnt_very_long line short) refl

said_long : (n : ℕ) (settings : Option Settings) (line : List ℕ) → is_very_long line ≡ true → said_of n settings line ≡ None
said_long n settings line long = rw long refl

pub reads_on : (old new : Option Course) (n : ℕ) (line out : List ℕ) → length line ≤ longest_line → ((told : Told) → StandsFor told old → IsRead (Ok tt) n line (with_line n told line) new)
    → ReadsLine (HasTold old) n line out out (HasTold new)
reads_on old new n line out short read = record { printed = []; added = sym (append-nil out); goes_on = told_more old new n line short read }

module _ (old new : Option Course) (n : ℕ) (line : List ℕ) (fault : AuditFault) (short : length line ≤ longest_line) (read : (told : Told) → StandsFor told old → IsRead (Err (Input fault)) n line (with_line n told line) new) where
  -- what is said of it
  is_said : (past : List (List ℕ)) (lines : List ℕ) → n ≡ suc (length past) → HasTold old past lines → (left : List (List ℕ))
      → said_from 1 nothing_told (past ++ line ∷ left) ≡ explained_line (option_map (λ c. c.profile) old) n line
  is_said past lines at had left =
      let u = read had.told had.stands in
      let none : with_any_line (suc (length past)) had.told line ≡ None = subst (λ (m : ℕ). with_any_line m had.told line ≡ None) at (is_read n had.told line short ∙ u.1) in
      had.says (line ∷ left)
      ∙ unsaid (suc (length past)) had.told line (with_any_line (suc (length past)) had.told line) (λ next. said_from (suc (suc (length past))) next left) none
      ∙ said_short (suc (length past)) had.told.settings line short
      ∙ ap (λ (p : Option Profile). explained_line p (suc (length past)) line) (told_profile had.told old had.stands)
      ∙ ap (λ (m : ℕ). explained_line (option_map (λ c. c.profile) old) m line) (sym at)

  stops_so : (e : Explained AuditFault) → e ≡ record { fault = fault; told = explained_line (option_map (λ c. c.profile) old) n line }
      → (past : List (List ℕ)) (lines : List ℕ) → n ≡ suc (length past) → HasTold old past lines → (left : List (List ℕ))
      → IsExplainedOfLines (past ++ line ∷ left) (record { printed = lines ++ []; fault = Some e })
  stops_so e is past lines at had left = record {
    own = record { printed = lines ++ []; fault = Some fault };
    is_own = fails_so (told_from 1 nothing_told (past ++ line ∷ left)) n line fault lines had.nothing (fault_told old new n line fault short read past lines at had left);
    text_is = rw (is, is_said past lines at had left) refl;
  }

  -- or memory is wanted to say it
  stops_by : (stop : Stop (Explained AuditFault)) → IsExplained stop fault (explained_line (option_map (λ c. c.profile) old) n line)
      → (past : List (List ℕ)) (lines : List ℕ) → n ≡ suc (length past) → HasTold old past lines → (left : List (List ℕ))
      → StopsIn stop (IsExplainedOfLines (past ++ line ∷ left)) (lines ++ [])
  stops_by (Input e) is past lines at had left = stops_so e is past lines at had left
  stops_by Memory is past lines at had left = nothing_begins (IsExplainedOfLines (past ++ line ∷ left)) (lines ++ []) (no_more lines had.nothing)

  pub stops_explained : (stop : Stop (Explained AuditFault)) (profile : Option Profile) (out : List ℕ) → profile ≡ option_map (λ c. c.profile) old → IsExplained stop fault (explained_line profile n line)
      → StopsAtLine IsExplainedOfLines stop (HasTold old) n line out out
  stops_explained stop profile out p is = record {
    printed = [];
    added = sym (append-nil out);
    ends = stops_by stop (subst (λ (q : Option Profile). IsExplained stop fault (explained_line q n line)) p is);
  }

pub stops_for_memory : (old : Option Course) (n : ℕ) (line out : List ℕ) → StopsAtLine IsExplainedOfLines Memory (HasTold old) n line out out
stops_for_memory old n line out = record {
  printed = [];
  added = sym (append-nil out);
  ends = λ past lines at had left. nothing_begins (IsExplainedOfLines (past ++ line ∷ left)) (lines ++ []) (no_more lines had.nothing);
}

-- THE LAWS

pub explained_have_one : HaveOneText IsExplainedOfLines
explained_have_one lines a b x y =
    x.text_is ∙ ap (explains (said_from 1 nothing_told lines)) (lines_have_one lines x.own y.own x.is_own y.is_own) ∙ sym y.text_is

pub explained_refuses : RefuseVeryLong 16384 (λ n. record { fault = Text n VeryLong; told = None }) IsExplainedOfLines HasTold
explained_refuses course past printed had line left h =
    let long : is_very_long line ≡ true = grind (arith, nat_tests, h) in
    let said : said_from 1 nothing_told (past ++ line ∷ left) ≡ None =
    had.says (line ∷ left)
    ∙ unsaid (suc (length past)) had.told line (with_any_line (suc (length past)) had.told line) (λ next. said_from (suc (suc (length past))) next left) (none_read (suc (length past)) had.told line long)
    ∙ said_long (suc (length past)) had.told.settings line long in
    record {
      own = record { printed = printed; fault = Some (Text (suc (length past)) VeryLong) };
      is_own = refuses_long course past printed had line left h;
      text_is = rw said refl;
    }

-- THE END: all lines were read

begun_so : (lines : List (List ℕ)) (printed : List ℕ) → IsBegun (IsAuditOfLines lines) printed → IsBegun (IsExplainedOfLines lines) printed
begun_so lines printed b text is =
    let more = b is.own is.is_own in (more.0, ap (λ (t : Printed (Explained AuditFault)). t.printed) is.text_is ∙ more.1)

nothing_said : (course : Option Course) (past : List (List ℕ)) (lines : List ℕ) → HasTold course past lines → said_from 1 nothing_told past ≡ None
nothing_said course past lines had = ap (said_from 1 nothing_told) (sym (append-nil past)) ∙ had.says []

pub ends_well : (course : Option Course) (n : ℕ) (before after : List ℕ) → Concludes (Ok tt) course n before after → EndsLines IsExplainedOfLines (Ok tt) (HasTold course) n before after
ends_well course n before after c =
    let e = ends (Ok tt) course n before after c in record {
      printed = e.printed;
      added = e.added;
      ends = λ past lines at had. record { own = record { printed = lines ++ e.printed; fault = None }; is_own = e.ends past lines at had; text_is = refl };
    }

pub ends_with : (course : Option Course) (n : ℕ) (before after : List ℕ) (fault : AuditFault) → Concludes (Err (Input fault)) course n before after
    → EndsLines IsExplainedOfLines (Err (Input (record { fault = fault; told = None }))) (HasTold course) n before after
ends_with course n before after fault c =
    let e = ends (Err (Input fault)) course n before after c in record {
      printed = e.printed;
      added = e.added;
      ends = λ past lines at had. record {
        own = record { printed = lines ++ e.printed; fault = Some fault };
        is_own = e.ends past lines at had;
        text_is = rw (nothing_said course past lines had) refl;
      };
    }

pub ends_short : (course : Option Course) (n : ℕ) (before after : List ℕ) → Concludes (Err Memory) course n before after → EndsLines IsExplainedOfLines (Err Memory) (HasTold course) n before after
ends_short course n before after c =
    let e = ends (Err Memory) course n before after c in record {
      printed = e.printed;
      added = e.added;
      ends = λ past lines at had. begun_so past (lines ++ e.printed) (e.ends past lines at had);
    }

-- THE TEXT is that of `audit`, but for what is said of its fault

alone_is : (said : Option (List ℕ)) (printed : List ℕ) (fault : Option AuditFault)
    → with_fault_alone (explains said (record { printed = printed; fault = fault })) ≡ record { printed = printed; fault = fault }
alone_is said printed None = refl
alone_is said printed (Some fault) = refl

own_text : (input : List ℕ) (text : Printed (Explained AuditFault)) → IsExplainedAuditText input text → IsAuditText input (with_fault_alone text)
own_text input text is =
    subst (λ (t : Printed AuditFault). IsAuditText input t) (sym (ap with_fault_alone is.text_is ∙ alone_is (said_from 1 nothing_told (lines_of input)) is.own.printed is.own.fault)) is.is_own

own_begun : (input printed : List ℕ) → IsBegun (IsExplainedAuditText input) printed → IsBegun (IsAuditText input) printed
own_begun input printed b text is =
    b (explains (said_from 1 nothing_told (lines_of input)) text) (record { own = text; is_own = is; text_is = refl })

alone : (ran : Result (Unit {0}) (Fault (Explained AuditFault))) (input : List ℕ) (old new : Option (List ℕ)) → Prints ran (IsExplainedAuditText input) old new → Prints (fault_alone ran) (IsAuditText input) old new
alone (Ok done) input old new p = record { printed = p.printed; added = p.added; ends = own_text input (record { printed = p.printed; fault = None }) p.ends }
alone (Err (FaultInput e)) input old new p = record { printed = p.printed; added = p.added; ends = own_text input (record { printed = p.printed; fault = Some e }) p.ends }
alone (Err FaultMemory) input old new p = record { printed = p.printed; added = p.added; ends = own_begun input p.printed p.ends }
alone (Err Read) input old new p = record { printed = p.printed; added = p.added; ends = own_begun input p.printed p.ends }
alone (Err Long) input old new p = record { printed = p.printed; added = p.added; ends = own_begun input p.printed p.ends }
alone (Err Write) input old new p = record { printed = p.printed; added = p.added; ends = own_begun input p.printed p.ends }

pub alone_all : (ran : Result (Unit {0}) (Fault (Explained AuditFault))) (left old new : Option (List ℕ))
    → IfSome left (λ input. Prints ran (IsExplainedAuditText input) old new) → IfSome left (λ input. Prints (fault_alone ran) (IsAuditText input) old new)
alone_all ran None old new p = p
alone_all ran (Some input) old new p = alone ran input old new p
