-- An explained text is the text, but for what is said of its fault.
use Rattle.std.proofs.Common.{◌≡◌, refl, sym, ap, subst, ◌∙◌, ℕ, Bool, true, false, suc, nat_lt, List, [], ◌∷◌, length, Option, Some, None, Result, Ok, Err, IfSome}
use Rattle.std.specs.Option.{option_map}
use Rattle.text_base.specs.declared.fault.Fault.{Fault}
use Rattle.text_base.specs.declared.fault.Fault.TheVariants.{Input, Memory, Read, Long, Write}
use Rattle.text_base.specs.declared.fault.Stop.{Stop}
use Rattle.text_base.specs.declared.fault.Stop.TheVariants.{Input as StopsAt, Memory as NoMemory}
use Rattle.text_lines.specs.Talking.{IsCarriedOut, MayDo, MayTell}
use Rattle.text_base.specs.Printing.{Printed, behind, IsBegun, Prints}
use Rattle.text_lines.specs.Lines.{LineOutcome, prints, stops, is_remark, lines_of}
use Rattle.text_lines.specs.Talks.{GoesOnBy, IsTalkText, IsTextOfLines, MayBe, TalkRules}
use Rattle.text_lines.specs.Explaining.{Explained, IsExplained, MayExplain, Said, explains, explained_rules, fault_alone, with_fault_alone}

module _ {S F : Type 0} (rules : TalkRules S F) (said : Said S F) where
  -- the same outcome, but for what is said
  Matches : LineOutcome S (Explained F) → LineOutcome S F → Type 0
  Matches (prints printed new) own = own ≡ prints printed new
  Matches (stops e) own = own ≡ stops e.fault

  matched : (end : S) (line : List ℕ) (own : LineOutcome S F) → Matches (explains said end line own) own
  unfolding Matches
  matched end line (prints printed new) = refl
  matched end line (stops fault) = refl

  module _ (n : ℕ) (end : S) (line : List ℕ) where
    read_down : (long remark : Bool) (o : LineOutcome S (Explained F)) → MayBe long remark (explained_rules rules said) n end line o
        → (own : LineOutcome S F) × MayBe long remark rules n end line own × Matches o own
    unfolding Matches
    read_down true remark o e = (stops (rules.unreadable n), refl, subst (λ (x : LineOutcome S (Explained F)). Matches x (stops (rules.unreadable n))) (sym e) refl)
    read_down false true o e = (prints [] end, refl, subst (λ (x : LineOutcome S (Explained F)). Matches x (prints [] end)) (sym e) refl)
    read_down false false o x = (x.own, x.may, subst (λ (y : LineOutcome S (Explained F)). Matches y x.own) (sym x.outcome_is) (matched end line x.own))

    read_up : (long remark : Bool) (own : LineOutcome S F) → MayBe long remark rules n end line own
        → (o : LineOutcome S (Explained F)) × MayBe long remark (explained_rules rules said) n end line o × Matches o own
    unfolding Matches
    read_up true remark own e = (stops (record { fault = rules.unreadable n; told = None }), refl, e)
    read_up false true own e = (prints [] end, refl, e)
    read_up false false own may = (explains said end line own, record { own = own; may = may; outcome_is = refl }, matched end line own)

  module _ (Next : S → Printed (Explained F) → Type 0) (OwnNext : S → Printed F → Type 0) where
    goes_down : (o : LineOutcome S (Explained F)) (own : LineOutcome S F) (e : Printed (Explained F)) → Matches o own
        → ((new : S) (later : Printed (Explained F)) → Next new later → OwnNext new (with_fault_alone later))
        → GoesOnBy o Next e → GoesOnBy own OwnNext (with_fault_alone e)
    unfolding Matches
    goes_down (prints printed new) own e m h g =
        subst (λ (x : LineOutcome S F). GoesOnBy x OwnNext (with_fault_alone e)) (sym m) (with_fault_alone g.0, h new g.0 g.1, ap with_fault_alone g.2)
    goes_down (stops x) own e m h g = subst (λ (y : LineOutcome S F). GoesOnBy y OwnNext (with_fault_alone e)) (sym m) (ap with_fault_alone g)

    goes_up : (o : LineOutcome S (Explained F)) (own : LineOutcome S F) (t : Printed F) → Matches o own
        → ((new : S) (later : Printed F) → OwnNext new later → (e : Printed (Explained F)) × Next new e × (later ≡ with_fault_alone e))
        → GoesOnBy own OwnNext t → (e : Printed (Explained F)) × GoesOnBy o Next e × (t ≡ with_fault_alone e)
    unfolding Matches
    goes_up (prints printed new) own t m h g =
        let k = subst (λ (x : LineOutcome S F). GoesOnBy x OwnNext t) m g in
        let r = h new k.0 k.1 in
        (behind printed r.0, (r.0, r.1, refl), k.2 ∙ ap (behind printed) r.2)
    goes_up (stops x) own t m h g = (record { printed = []; fault = Some x }, refl, subst (λ (y : LineOutcome S F). GoesOnBy y OwnNext t) m g)

  down : (lines : List (List ℕ)) (n : ℕ) (end : S) (e : Printed (Explained F)) → IsTextOfLines (explained_rules rules said) n end lines e
      → IsTextOfLines rules n end lines (with_fault_alone e)
  down [] n end e is = ap with_fault_alone is
  down (line ∷ lines) n end e is =
      let own = read_down n end line (nat_lt 4096 (length line)) (is_remark line) is.0 is.1 in (
        own.0,
        own.1,
        goes_down (λ new later. IsTextOfLines (explained_rules rules said) (suc n) new lines later) (λ new later. IsTextOfLines rules (suc n) new lines later)
            is.0 own.0 e own.2 (λ new later. down lines (suc n) new later) is.2,
      )

  up : (lines : List (List ℕ)) (n : ℕ) (end : S) (t : Printed F) → IsTextOfLines rules n end lines t
      → (e : Printed (Explained F)) × IsTextOfLines (explained_rules rules said) n end lines e × (t ≡ with_fault_alone e)
  up [] n end t is = (record { printed = rules.at_the_end end; fault = None }, refl, is)
  up (line ∷ lines) n end t is =
      let o = read_up n end line (nat_lt 4096 (length line)) (is_remark line) is.0 is.1 in
      let r = goes_up (λ new later. IsTextOfLines (explained_rules rules said) (suc n) new lines later) (λ new later. IsTextOfLines rules (suc n) new lines later)
      o.0 is.0 t o.2 (λ new later. up lines (suc n) new later) is.2 in
      (r.0, (o.0, o.1, r.1), r.2)

  begun : (input printed : List ℕ) → IsBegun (IsTalkText (explained_rules rules said) input) printed → IsBegun (IsTalkText rules input) printed
  begun input printed b text is =
      let r = up (lines_of input) 1 rules.start text is in
      let more = b r.0 r.1 in
      (more.0, ap (λ (p : Printed F). p.printed) r.2 ∙ more.1)

  whole : (input printed : List ℕ) (fault : Option (Explained F)) → IsTalkText (explained_rules rules said) input (record { printed = printed; fault = fault })
      → IsTalkText rules input (record { printed = printed; fault = option_map (λ e. e.fault) fault })
  whole input printed fault is = down (lines_of input) 1 rules.start (record { printed = printed; fault = fault }) is

  alike : (ran : Result (Unit {0}) (Fault (Explained F))) (input : List ℕ) (old new : Option (List ℕ)) → Prints ran (IsTalkText (explained_rules rules said) input) old new
      → Prints (fault_alone ran) (IsTalkText rules input) old new
  alike (Ok done) input old new p = record { printed = p.printed; added = p.added; ends = whole input p.printed None p.ends }
  alike (Err (Input fault)) input old new p = record { printed = p.printed; added = p.added; ends = whole input p.printed (Some fault) p.ends }
  alike (Err Memory) input old new p = record { printed = p.printed; added = p.added; ends = begun input p.printed p.ends }
  alike (Err Read) input old new p = record { printed = p.printed; added = p.added; ends = begun input p.printed p.ends }
  alike (Err Long) input old new p = record { printed = p.printed; added = p.added; ends = begun input p.printed p.ends }
  alike (Err Write) input old new p = record { printed = p.printed; added = p.added; ends = begun input p.printed p.ends }

  pub alike_all : (ran : Result (Unit {0}) (Fault (Explained F))) (left old new : Option (List ℕ))
      → IfSome left (λ input. Prints ran (IsTalkText (explained_rules rules said) input) old new) → IfSome left (λ input. Prints (fault_alone ran) (IsTalkText rules input) old new)
  alike_all ran None old new p = p
  alike_all ran (Some input) old new p = alike ran input old new p

-- A line of the text is one of the explained text.
module _ {S F : Type 0} (rules : TalkRules S F) (said : Said S F) (n : ℕ) (state : S) (line : List ℕ) where
  done_up : (before after : List ℕ) (new : S) → MayDo (rules.may n state line) before after new → MayDo (MayExplain rules said n state line) before after new
  done_up before after new d = record {
    printed = d.printed;
    added = d.added;
    may = record { own = prints d.printed new; may = d.may; outcome_is = refl };
  }

  pub carried_up : (result : Result (Unit {0}) (Stop F)) (done : Unit {0}) (before after : List ℕ) (new : S) → result ≡ Ok done
      → IsCarriedOut result (rules.may n state line) before after new → MayDo (MayExplain rules said n state line) before after new
  carried_up (Ok x) done before after new e d = done_up before after new d
  carried_up (Err stop) done before after new e d = absurd cc

  told_up : (stop : Stop (Explained F)) (fault : F) → IsExplained stop fault (said state line fault) → rules.may n state line (stops fault)
      → MayTell stop (MayExplain rules said n state line)
  told_up (StopsAt x) fault is may = record { own = stops fault; may = may; outcome_is = ap stops is }
  told_up NoMemory fault is may = tt

  pub stopped_up : (result : Result (Unit {0}) (Stop F)) (fault : F) (stop : Stop (Explained F)) (before after : List ℕ) (new : S) → result ≡ Err (StopsAt fault)
      → IsCarriedOut result (rules.may n state line) before after new → IsExplained stop fault (said state line fault)
      → MayTell stop (MayExplain rules said n state line) × (after ≡ before)
  stopped_up (Ok x) fault stop before after new e d is = absurd cc
  stopped_up (Err NoMemory) fault stop before after new e d is = absurd cc
  stopped_up (Err (StopsAt own)) fault stop before after new e d is =
      let same : own ≡ fault = cc in (told_up stop fault is (subst (λ (x : F). rules.may n state line (stops x)) same d.0), d.1)
