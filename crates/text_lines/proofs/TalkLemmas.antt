-- The lines of a text whose outcomes a relation tells, as they're read one after another.
use Rattle.std.proofs.Common.{refl, arith, ◌≡◌, ◌∙◌, ap, sym, ◌<◌, ◌≤◌, [], ◌∷◌, length, ℕ, Bool, suc, true, false, nat_lt, List, ◌++◌, Some, None, Result, Ok, Err, append_assoc, append-nil, length-append, subst}
use Rattle.std.proofs.lemmas.Bool.Decides.{nat_tests}
use Rattle.text_base.specs.declared.fault.Stop.{Stop}
use Rattle.text_base.specs.declared.fault.Stop.TheVariants.{Input, Memory}
use Rattle.text_base.specs.Printing.{Printed, IsBegun, StopsIn}
use Rattle.text_lines.specs.Lines.{LineOutcome, is_remark, prints, stops}
use Rattle.text_lines.specs.LineTexts.{AreBegun, EndsLines, HaveOneText, ReadsLine, ReadsLineOrStops, RefuseVeryLong, StopsAtLine}
use Rattle.text_lines.specs.Reading.{Adds}
use Rattle.text_lines.specs.Talking.{HasTalked, IsCarriedOut, IsTextOfAll, Leads, MayDo, MayTell}
use Rattle.text_lines.specs.Talks.{HaveOneOutcome, IsTextOfLines, MayBe, MayRead, TalkRules}
use Rattle.text_lines.proofs.LineLemmas.{leads_on, leads_same, line_leads, one_of_lines}

module _ {S F : Type 0} (rules : TalkRules S F) where
  pub talk_begins : HasTalked rules rules.start [] []
  talk_begins left = leads_same (IsTextOfAll rules left)

  pub begun_by : AreBegun (IsTextOfAll rules) (HasTalked rules)
  begun_by state past printed has left text is =
      let later = (has left).back text is in (later.0.printed, ap (λ (t : Printed F). t.printed) later.2)

  -- with no more than was printed
  no_more : (lines : List (List ℕ)) (printed : List ℕ) → IsBegun (IsTextOfAll rules lines) printed → IsBegun (IsTextOfAll rules lines) (printed ++ [])
  no_more lines printed b = subst (λ (l : List ℕ). IsBegun (IsTextOfAll rules lines) l) (sym (append-nil printed)) b

  too_long : (n : ℕ) (state : S) (line : List ℕ) (lines : List (List ℕ)) → 4096 < length line
      → IsTextOfLines rules n state (line ∷ lines) (record { printed = []; fault = Some (rules.unreadable n) })
  too_long n state line lines h =
      let long : nat_lt 4096 (length line) ≡ true = grind (arith, nat_tests, h) in
      (stops (rules.unreadable n), rw long refl, refl)

  pub refuses_long : RefuseVeryLong 4096 rules.unreadable (IsTextOfAll rules) (HasTalked rules)
  refuses_long state past printed has line left long =
      subst (λ (l : List ℕ). IsTextOfAll rules (past ++ line ∷ left) (record { printed = l; fault = Some (rules.unreadable (suc (length past))) })) (append-nil printed)
      ((has (line ∷ left)).on (record { printed = []; fault = Some (rules.unreadable (suc (length past))) }) (too_long (suc (length past)) state line left long))

  -- one that isn't does what the text says, unless it's a remark
  may_read : (remark : Bool) (n : ℕ) (state : S) (line : List ℕ) (outcome : LineOutcome S F) → length line ≤ 4096 → is_remark line ≡ remark → MayBe false remark rules n state line outcome
      → MayRead rules n state line outcome
  may_read remark n state line outcome h e may =
      let short : nat_lt 4096 (length line) ≡ false = grind (arith, nat_tests, h) in
      rw (short, e) may

  -- a line that tells a fault
  told : (stop : Stop F) (n : ℕ) (state : S) (line : List ℕ) (past : List (List ℕ)) (lines : List ℕ) → MayTell stop (MayRead rules n state line) → n ≡ suc (length past)
      → HasTalked rules state past lines → (left : List (List ℕ)) → StopsIn stop (IsTextOfAll rules (past ++ line ∷ left)) (lines ++ [])
  told (Input fault) n state line past lines t e has left =
      (has (line ∷ left)).on (record { printed = []; fault = Some fault })
      (stops fault, subst (λ (m : ℕ). MayRead rules m state line (stops fault)) e t, refl)
  told Memory n state line past lines t e has left = no_more (past ++ line ∷ left) lines (begun_by state past lines has (line ∷ left))

  pub stops_at : (stop : Stop F) (n : ℕ) (state : S) (line before after : List ℕ) → MayTell stop (MayRead rules n state line) → after ≡ before
      → StopsAtLine (IsTextOfAll rules) stop (HasTalked rules state) n line before after
  stops_at stop n state line before after t e = record {
    printed = [];
    added = e ∙ sym (append-nil before);
    ends = λ past lines at has left. told stop n state line past lines t at has left;
  }

  pub talk_ends : (result : Result (Unit {0}) (Stop F)) (n : ℕ) (state : S) (before after : List ℕ) → Adds result (rules.at_the_end state) before after
      → EndsLines (IsTextOfAll rules) result (HasTalked rules state) n before after
  talk_ends (Ok done) n state before after h = record {
    printed = rules.at_the_end state;
    added = h;
    ends = λ past lines at has.
        subst (λ (ls : List (List ℕ)). IsTextOfAll rules ls (record { printed = lines ++ rules.at_the_end state; fault = None })) (append-nil past)
        ((has []).on (record { printed = rules.at_the_end state; fault = None }) refl);
  }
  talk_ends (Err stop) n state before after h = rw h.0 (record {
    printed = [];
    added = h.1 ∙ sym (append-nil before);
    ends = λ past lines at has.
        no_more past lines (subst (λ (ls : List (List ℕ)). IsBegun (IsTextOfAll rules ls) lines) (append-nil past) (begun_by state past lines has []));
  })

  numbered : (past : List (List ℕ)) (line : List ℕ) → suc (suc (length past)) ≡ suc (length (past ++ line ∷ []))
  numbered past line = omega (arith, length-append past (line ∷ []))

  module _ (one : HaveOneOutcome rules) where
    pub lines_have_one : HaveOneText (IsTextOfAll rules)
    lines_have_one lines a b x y = one_of_lines rules one lines 1 rules.start a b x y

    pub reads_line : (n : ℕ) (old new : S) (line before after : List ℕ) → MayDo (MayRead rules n old line) before after new
        → ReadsLine (HasTalked rules old) n line before after (HasTalked rules new)
    reads_line n old new line before after d = record {
      printed = d.printed;
      added = d.added;
      goes_on = λ past lines at has left.
          let may = subst (λ (m : ℕ). MayRead rules m old line (prints d.printed new)) at d.may in
          let leads = leads_on (IsTextOfAll rules (past ++ line ∷ left)) (IsTextOfLines rules (suc (length past)) old (line ∷ left)) (IsTextOfLines rules (suc (suc (length past))) new left) lines d.printed
          (has (line ∷ left)) (line_leads rules one (suc (length past)) old line d.printed new left may) in
          subst (λ (m : ℕ). Leads (IsTextOfAll rules ((past ++ line ∷ []) ++ left)) (lines ++ d.printed) (IsTextOfLines rules m new left)) (numbered past line)
          (subst (λ (ls : List (List ℕ)). Leads (IsTextOfAll rules ls) (lines ++ d.printed) (IsTextOfLines rules (suc (suc (length past))) new left)) (sym (append_assoc past (line ∷ []) left)) leads);
    }

    pub passes_over : (n : ℕ) (state : S) (line before : List ℕ) → length line ≤ 4096 → is_remark line ≡ true
        → ReadsLine (HasTalked rules state) n line before before (HasTalked rules state)
    passes_over n state line before h e =
        reads_line n state state line before before (record { printed = []; added = sym (append-nil before); may = may_read true n state line (prints [] state) h e refl })

    pub carried : (result : Result (Unit {0}) (Stop F)) (n : ℕ) (old new : S) (line before after : List ℕ) → length line ≤ 4096 → is_remark line ≡ false → IsCarriedOut result (rules.may n old line) before after new
        → ReadsLineOrStops (IsTextOfAll rules) result (HasTalked rules old) n line before after (HasTalked rules new)
    carried (Ok done) n old new line before after h e d =
        reads_line n old new line before after (record { printed = d.printed; added = d.added; may = may_read false n old line (prints d.printed new) h e d.may })
    carried (Err (Input fault)) n old new line before after h e d = stops_at (Input fault) n old line before after (may_read false n old line (stops fault) h e d.0) d.1
    carried (Err Memory) n old new line before after h e d = stops_at Memory n old line before after tt d.1
