-- Lines under way, read piece by piece.
use Rattle.std.proofs.Common.{refl, arith, ◌≡◌, ◌∙◌, ap, sym, ◌<◌, [], ◌∷◌, length, ℕ, suc, ◌+◌, ◌^◌, List, ◌++◌, Some, None, Result, Ok, Err, append_assoc, append-nil, length-append, subst}
use Rattle.text_base.proofs.PrintLemmas.{begun_of_end}
use Rattle.text_base.specs.declared.fault.Stop.{Stop}
use Rattle.text_base.specs.declared.fault.Stop.TheVariants.{Input, Memory}
use Rattle.text_base.specs.Printing.{Printed, IsBegun, Progress, StopsIn, ReadsOrStops, Ends, Texts}
use Rattle.text_lines.specs.Lines.{lines_of}
use Rattle.text_lines.specs.LineTexts.{AreBegun, EndsLines, HaveOneText, IsLast, LinesRead, LinesText, ReadsLine, RefuseVeryLong, StopsAtLine}
use Rattle.text_lines.specs.Reading.{Reading, IsOpen}
use Rattle.text_lines.specs.Under.{Advances, AdvancesOrHalts, Finishes, Halts, HasReadLines, text_by}
use Rattle.text_lines.proofs.LineLemmas.{begins_at, last_lines, line_goes_on, open_more}

-- OCTETS one after another

pub advances_none : (A : Progress) (before : List ℕ) → Advances A [] before before A
advances_none A before = record {
  printed = [];
  added = sym (append-nil before);
  goes_on = λ past lines fits had.
      subst (λ (l : List ℕ). A l (lines ++ [])) (sym (append-nil past)) (subst (λ (l : List ℕ). A past l) (sym (append-nil lines)) had);
}

advances_more : (A B C : Progress) (xs ys p q r : List ℕ) → Advances A xs p q B → Advances B ys q r C → Advances A (xs ++ ys) p r C
advances_more A B C xs ys p q r f g = record {
  printed = f.printed ++ g.printed;
  added = g.added ∙ ap (λ (x : List ℕ). x ++ g.printed) f.added ∙ append_assoc p f.printed g.printed;
  goes_on = λ past lines fits had.
      let mid = f.goes_on past lines (omega (arith, fits, length-append xs ys)) had in
      let last = g.goes_on (past ++ xs) (lines ++ f.printed) (omega (arith, fits, length-append xs ys, length-append past xs)) mid in
      subst (λ (l : List ℕ). C l (lines ++ (f.printed ++ g.printed))) (append_assoc past xs ys)
      (subst (λ (l : List ℕ). C ((past ++ xs) ++ ys) l) (append_assoc lines f.printed g.printed) last);
}

-- the octets that were read, and those that are left
pub record ReadUpTo (A : Progress) (octets before after : List ℕ) (B : Progress) (left : List ℕ) : Type 0 where
  pub read : List ℕ
  pub octets_are : read ++ left ≡ octets
  pub advances : Advances A read before after B

pub begins_to_read : (A : Progress) (octets before : List ℕ) → ReadUpTo A octets before before A octets
begins_to_read A octets before = record { read = []; octets_are = refl; advances = advances_none A before }

pub reads_on : (A B C : Progress) (octets p q r ys left whole : List ℕ) → ys ++ left ≡ whole → ReadUpTo A octets p q B whole → Advances B ys q r C → ReadUpTo A octets p r C left
reads_on A B C octets p q r ys left whole e f g = record {
  read = f.read ++ ys;
  octets_are = append_assoc f.read ys left ∙ ap (λ (x : List ℕ). f.read ++ x) e ∙ f.octets_are;
  advances = advances_more A B C f.read ys p q r f.advances g;
}

module _ {F : Type 0} (IsText : Texts F) where
  halts_more : (stop : Stop F) (A B : Progress) (xs ys p q r : List ℕ) → Advances A xs p q B → Halts IsText stop B ys q r → Halts IsText stop A (xs ++ ys) p r
  halts_more stop A B xs ys p q r f g = record {
    printed = f.printed ++ g.printed;
    added = g.added ∙ ap (λ (x : List ℕ). x ++ g.printed) f.added ∙ append_assoc p f.printed g.printed;
    ends = λ past lines fits had left.
        let mid = f.goes_on past lines (omega (arith, fits, length-append xs ys)) had in
        let last = g.ends (past ++ xs) (lines ++ f.printed) (omega (arith, fits, length-append xs ys, length-append past xs)) mid left in
        let same : (past ++ xs) ++ (ys ++ left) ≡ past ++ ((xs ++ ys) ++ left) = append_assoc past xs (ys ++ left) ∙ ap (λ (l : List ℕ). past ++ l) (sym (append_assoc xs ys left)) in
        subst (λ (l : List ℕ). StopsIn stop (IsText l) (lines ++ (f.printed ++ g.printed))) same
        (subst (λ (l : List ℕ). StopsIn stop (IsText ((past ++ xs) ++ (ys ++ left))) l) (append_assoc lines f.printed g.printed) last);
  }

  -- what stands behind the fault changes nothing
  pub halts_before : (stop : Stop F) (A : Progress) (xs ys p q : List ℕ) → Halts IsText stop A xs p q → Halts IsText stop A (xs ++ ys) p q
  halts_before stop A xs ys p q f = record {
    printed = f.printed;
    added = f.added;
    ends = λ past lines fits had left.
        subst (λ (l : List ℕ). StopsIn stop (IsText (past ++ l)) (lines ++ f.printed)) (sym (append_assoc xs ys left))
        (f.ends past lines (omega (arith, fits, length-append xs ys)) had (ys ++ left));
  }

  pub goes_further : (result : Result (Unit {0}) (Stop F)) (A B C : Progress) (xs ys p q r : List ℕ) → Advances A xs p q B → AdvancesOrHalts IsText result B ys q r C → AdvancesOrHalts IsText result A (xs ++ ys) p r C
  goes_further (Ok done) A B C xs ys p q r f g = advances_more A B C xs ys p q r f g
  goes_further (Err stop) A B C xs ys p q r f g = halts_more stop A B xs ys p q r f g

  pub stops_in : (stop : Stop F) (A B : Progress) (octets p q r ys left whole : List ℕ) → ys ++ left ≡ whole → ReadUpTo A octets p q B whole → Halts IsText stop B ys q r → Halts IsText stop A octets p r
  stops_in stop A B octets p q r ys left whole e f g =
      subst (λ (x : List ℕ). Halts IsText stop A x p r) (ap (λ (x : List ℕ). f.read ++ x) e ∙ f.octets_are)
      (halts_more stop A B f.read (ys ++ left) p q r f.advances (halts_before stop B ys left q r g))

  pub reads_last : (result : Result (Unit {0}) (Stop F)) (A B C : Progress) (octets p q r left : List ℕ) → ReadUpTo A octets p q B left → AdvancesOrHalts IsText result B left q r C → AdvancesOrHalts IsText result A octets p r C
  reads_last result A B C octets p q r left f g =
      subst (λ (x : List ℕ). AdvancesOrHalts IsText result A x p r C) f.octets_are (goes_further result A B C f.read left p q r f.advances g)

-- LINES

module _ {S F : Type 0} (IsText : LinesText F) (HasRead : S → LinesRead) where
  pub begins : (start : S) → HasRead start [] [] → HasReadLines HasRead (record { line = 1; text = []; state = start }) [] []
  begins start has = record { lines = []; read = has; numbered = refl; few = omega arith; goes_on = λ left. refl }

  -- octets go onto the line
  pub adds_octets : (old : Reading S) (octets before : List ℕ) (new : Reading S) → new.line ≡ old.line → new.state ≡ old.state → new.text ≡ old.text ++ octets
      → Advances (HasReadLines HasRead old) octets before before (HasReadLines HasRead new)
  adds_octets old octets before new n s t = record {
    printed = [];
    added = sym (append-nil before);
    goes_on = λ past lines fits had.
        let low = had.few in record {
          lines = had.lines;
          read = subst (λ (state : S). HasRead state had.lines (lines ++ [])) (sym s) (subst (λ (l : List ℕ). HasRead old.state had.lines l) (sym (append-nil lines)) had.read);
          numbered = n ∙ had.numbered;
          few = omega (arith, low, length-append past octets);
          goes_on = λ left.
              ap lines_of (append_assoc past octets left) ∙ had.goes_on (octets ++ left)
              ∙ ap (λ (x : List ℕ). had.lines ++ lines_of x) (sym (append_assoc old.text octets left) ∙ ap (λ (x : List ℕ). x ++ left) (sym t));
        };
  }

  -- octets are the last of a line, and its LF follows
  with_line : (old : Reading S) (octets whole past lines left : List ℕ) (had : HasReadLines HasRead old past lines) → whole ≡ old.text ++ octets → IsOpen whole
      → lines_of (past ++ ((octets ++ 10 ∷ []) ++ left)) ≡ had.lines ++ whole ∷ lines_of left
  with_line old octets whole past lines left had w o =
      had.goes_on ((octets ++ 10 ∷ []) ++ left) ∙ ap (λ (ls : List (List ℕ)). had.lines ++ ls) (line_goes_on old.text octets left whole w o)

  pub ends_a_line : (old : Reading S) (octets whole before after : List ℕ) (new : Reading S) → whole ≡ old.text ++ octets → IsOpen whole → ReadsLine (HasRead old.state) old.line whole before after (HasRead new.state)
      → (old.line + 1 < 2 ^ 64 → new.line ≡ old.line + 1) → new.text ≡ [] → Advances (HasReadLines HasRead old) (octets ++ 10 ∷ []) before after (HasReadLines HasRead new)
  ends_a_line old octets whole before after new w o r e g = record {
    printed = r.printed;
    added = r.added;
    goes_on = λ past lines fits had.
        let low = had.few in
        let at = had.numbered in
        let one : new.line ≡ old.line + 1 = e (omega (arith, at, low, fits)) in record {
          lines = had.lines ++ whole ∷ [];
          read = r.goes_on had.lines lines had.numbered had.read;
          numbered = omega (arith, one, at, length-append had.lines (whole ∷ []));
          few = omega (arith, low, length-append past (octets ++ 10 ∷ []), length-append octets (10 ∷ []), length-append had.lines (whole ∷ []));
          goes_on = λ left.
              ap lines_of (append_assoc past (octets ++ 10 ∷ []) left) ∙ with_line old octets whole past lines left had w o
              ∙ sym (append_assoc had.lines (whole ∷ []) (lines_of left))
              ∙ ap (λ (x : List ℕ). (had.lines ++ whole ∷ []) ++ lines_of (x ++ left)) (sym g);
        };
  }

  pub halts_line : (stop : Stop F) (old : Reading S) (octets whole before after : List ℕ) → whole ≡ old.text ++ octets → IsOpen whole → StopsAtLine IsText stop (HasRead old.state) old.line whole before after
      → Halts (text_by IsText) stop (HasReadLines HasRead old) (octets ++ 10 ∷ []) before after
  halts_line stop old octets whole before after w o r = record {
    printed = r.printed;
    added = r.added;
    ends = λ past lines fits had left.
        subst (λ (ls : List (List ℕ)). StopsIn stop (IsText ls) (lines ++ r.printed)) (sym (with_line old octets whole past lines left had w o))
        (r.ends had.lines lines had.numbered had.read (lines_of left));
  }

  -- the line is too long, however it goes on
  pub halts_long : (longest : ℕ) (fault : ℕ → F) → RefuseVeryLong longest fault IsText HasRead → (old : Reading S) (octets before : List ℕ) → IsOpen old.text → IsOpen octets → longest < length old.text + length octets
      → Halts (text_by IsText) (Input (fault old.line)) (HasReadLines HasRead old) octets before before
  halts_long longest fault refuses old octets before o h long = record {
    printed = [];
    added = sym (append-nil before);
    ends = λ past lines fits had left.
        let b = begins_at (old.text ++ octets) left (open_more old.text octets o h) (omega (arith, long, length-append old.text octets)) (append_assoc old.text octets left) in
        let text = refuses old.state had.lines lines had.read ((old.text ++ octets) ++ b.more) b.others (omega (arith, long, length-append old.text octets, length-append (old.text ++ octets) b.more)) in
        let all : List (List ℕ) = had.lines ++ ((old.text ++ octets) ++ b.more) ∷ b.others in
        let same : lines_of (past ++ (octets ++ left)) ≡ all = had.goes_on (octets ++ left) ∙ ap (λ (ls : List (List ℕ)). had.lines ++ ls) b.lines_are in
        subst (λ (ls : List (List ℕ)). IsText ls (record { printed = lines ++ []; fault = Some (fault old.line) })) (sym same)
        (subst (λ (n : ℕ). IsText all (record { printed = lines ++ []; fault = Some (fault n) })) (sym had.numbered)
        (subst (λ (l : List ℕ). IsText all (record { printed = l; fault = Some (fault (suc (length had.lines))) })) (sym (append-nil lines)) text));
  }

  is_begun : AreBegun IsText HasRead → (r : Reading S) (past lines left : List ℕ) → HasReadLines HasRead r past lines → IsBegun (text_by IsText (past ++ left)) lines
  is_begun begun r past lines left had =
      subst (λ (ls : List (List ℕ)). IsBegun (IsText ls) lines) (sym (had.goes_on left)) (begun r.state had.lines lines had.read (lines_of (r.text ++ left)))

  -- memory is wanted
  pub halts_for_memory : AreBegun IsText HasRead → (old : Reading S) (octets before : List ℕ) → Halts (text_by IsText) Memory (HasReadLines HasRead old) octets before before
  halts_for_memory begun old octets before = record {
    printed = [];
    added = sym (append-nil before);
    ends = λ past lines fits had left.
        subst (λ (l : List ℕ). IsBegun (text_by IsText (past ++ (octets ++ left))) l) (sym (append-nil lines)) (is_begun begun old past lines (octets ++ left) had);
  }

  -- THE END

  -- between lines
  no_more : (r : Reading S) (past lines : List ℕ) (had : HasReadLines HasRead r past lines) → r.text ≡ [] → had.lines ≡ lines_of past
  no_more r past lines had none =
      sym (ap lines_of (sym (append-nil past)) ∙ had.goes_on [] ∙ ap (λ (x : List ℕ). had.lines ++ lines_of (x ++ [])) none ∙ append-nil had.lines)

  pub ends_at_once : (result : Result (Unit {0}) (Stop F)) (n : ℕ) (state : S) (text before after : List ℕ) → text ≡ [] → EndsLines IsText result (HasRead state) n before after
      → Finishes (text_by IsText) result (HasReadLines HasRead (record { line = n; text = text; state = state })) before after
  ends_at_once result n state text before after none e = record {
    printed = e.printed;
    added = e.added;
    ends = λ past lines fits had.
        subst (λ (ls : List (List ℕ)). IsLast result (IsText ls) (lines ++ e.printed)) (no_more (record { line = n; text = text; state = state }) past lines had none)
        (e.ends had.lines lines had.numbered had.read);
  }

  -- in mid-line
  one_more : (r : Reading S) (past lines : List ℕ) (had : HasReadLines HasRead r past lines) → 0 < length r.text → IsOpen r.text → had.lines ++ r.text ∷ [] ≡ lines_of past
  one_more r past lines had some o =
      sym (ap lines_of (sym (append-nil past)) ∙ had.goes_on [] ∙ ap (λ (ls : List (List ℕ)). had.lines ++ ls) (last_lines r.text some o))

  pub ends_behind : (result : Result (Unit {0}) (Stop F)) (n m : ℕ) (state next : S) (text before middle after : List ℕ) → 0 < length text → IsOpen text → ReadsLine (HasRead state) n text before middle (HasRead next)
      → (n + 1 < 2 ^ 64 → m ≡ n + 1) → EndsLines IsText result (HasRead next) m middle after
      → Finishes (text_by IsText) result (HasReadLines HasRead (record { line = n; text = text; state = state })) before after
  ends_behind result n m state next text before middle after some o r counts e = record {
    printed = r.printed ++ e.printed;
    added = e.added ∙ ap (λ (x : List ℕ). x ++ e.printed) r.added ∙ append_assoc before r.printed e.printed;
    ends = λ past lines fits had.
        let low = had.few in
        let at = had.numbered in
        let one : m ≡ n + 1 = counts (omega (arith, at, low, fits)) in
        subst (λ (ls : List (List ℕ)). IsLast result (IsText ls) (lines ++ (r.printed ++ e.printed))) (one_more (record { line = n; text = text; state = state }) past lines had some o)
        (subst (λ (l : List ℕ). IsLast result (IsText (had.lines ++ text ∷ [])) l) (append_assoc lines r.printed e.printed)
        (e.ends (had.lines ++ text ∷ []) (lines ++ r.printed) (omega (arith, one, at, length-append had.lines (text ∷ []))) (r.goes_on had.lines lines had.numbered had.read)));
  }

  pub ends_at_line : (stop : Stop F) (n : ℕ) (state : S) (text before after : List ℕ) → 0 < length text → IsOpen text → StopsAtLine IsText stop (HasRead state) n text before after
      → Finishes (text_by IsText) (Err stop) (HasReadLines HasRead (record { line = n; text = text; state = state })) before after
  ends_at_line stop n state text before after some o r = record {
    printed = r.printed;
    added = r.added;
    ends = λ past lines fits had.
        subst (λ (ls : List (List ℕ)). StopsIn stop (IsText ls) (lines ++ r.printed)) (one_more (record { line = n; text = text; state = state }) past lines had some o)
        (r.ends had.lines lines had.numbered had.read []);
  }

  -- AS A TEXT that is printed while another is read

  module _ (one : HaveOneText IsText) (begun : AreBegun IsText HasRead) where
    pub lines_read : (result : Result (Unit {0}) (Stop F)) (old new : Reading S) (octets before after : List ℕ) → AdvancesOrHalts (text_by IsText) result (HasReadLines HasRead old) octets before after (HasReadLines HasRead new)
        → ReadsOrStops (text_by IsText) result (HasReadLines HasRead old) octets before after (HasReadLines HasRead new)
    lines_read (Ok done) old new octets before after f = record {
      printed = f.printed;
      added = f.added;
      goes_on = f.goes_on;
      begun = λ past lines fits had left.
          subst (λ (l : List ℕ). IsBegun (text_by IsText l) (lines ++ f.printed)) (append_assoc past octets left)
          (is_begun begun new (past ++ octets) (lines ++ f.printed) left (f.goes_on past lines fits had));
    }
    lines_read (Err stop) old new octets before after f = record {
      printed = f.printed;
      added = f.added;
      ends = f.ends;
      begun = λ past lines fits had left.
          begun_of_end stop (text_by IsText (past ++ (octets ++ left))) (lines ++ f.printed) (one (lines_of (past ++ (octets ++ left)))) (f.ends past lines fits had left);
    }

    pub lines_end : (result : Result (Unit {0}) (Stop F)) (old : Reading S) (before after : List ℕ) → Finishes (text_by IsText) result (HasReadLines HasRead old) before after
        → Ends (text_by IsText) result (HasReadLines HasRead old) before after
    lines_end (Ok done) old before after f = record {
      printed = f.printed;
      added = f.added;
      ends = f.ends;
      begun = λ past lines fits had text is.
          ([], ap (λ (t : Printed F). t.printed) (one (lines_of past) text (record { printed = lines ++ f.printed; fault = None }) is (f.ends past lines fits had)) ∙ sym (append-nil (lines ++ f.printed)));
    }
    lines_end (Err stop) old before after f = record {
      printed = f.printed;
      added = f.added;
      ends = f.ends;
      begun = λ past lines fits had. begun_of_end stop (text_by IsText past) (lines ++ f.printed) (one (lines_of past)) (f.ends past lines fits had);
    }
