-- TURNS ONE AFTER ANOTHER, and their counts, for the loop of `Terminal::run`: it keeps `RanSo`, that the turns so far are a run
-- but for the cause. None so far (`ran_none`), one more (`ran_more`), all of them (`ran_all`), and one that failed behind
-- those that went whole (`run_failed`). Inductions over lists alone, for sums and for what each turn saw of the line; uses
-- `runs_join` of `term_model`.
use Rattle.std.proofs.Common.{refl, sym, ap, subst, arith, ◌≡◌, ◌∙◌, ℕ, ◌+◌, ◌≤◌, ◌<◌, Bool, true, List, [], ◌∷◌, ◌++◌, length, Option, Some, None, Result, Ok, Err, IfErr, append_assoc, append-nil, length-append}
use Rattle.std.proofs.lemmas.Grind.{flat_map-append}
use Rattle.std.specs.List.{flat_map}
use Rattle.std.specs.Result.{IsErrAnd}
use Rattle.std.specs.Option.{option_to_list}
use Rattle.l2_bits.specs.declared.marks.Mark.{Mark}
use Rattle.l2_bits.specs.LineBits.{bits_of, line_bits}
use Rattle.l2_units.specs.declared.unit.Unit.{Unit as SignalUnit}
use Rattle.term_model.specs.declared.report.TermReport.{TermReport}
use Rattle.term_model.specs.Runs.{Doing, Did, AreTurns, octets_in, octets_out, entries_of, units_of, marks_of, counted, is_good, is_bad, is_sixteen, report_of, cause_or_0}
use Rattle.term_model.specs.Terminal.{Terminal}
use Rattle.term_model.proofs.RunSteps.{runs_join}
use Rattle.link_term.specs.declared.counts.MarkCounts.{MarkCounts}
use Rattle.link_term.specs.declared.counts.Turned.{Turned}
use Rattle.link_term.specs.declared.counts.Filling.{Filling}
use Rattle.link_term.specs.declared.fault.TermFault.{TermFault}
use Rattle.link_term.specs.Filling.{filling_of, with_unit}
use Rattle.link_term.specs.Looking.{Seen, Looks, AllLook}
use Rattle.term_model.specs.Choosing.{Filled}
use Rattle.link_term.specs.Running.{Runs, RunFails}
use Rattle.link_term.specs.Standing.{Standing}
use Rattle.link_term.specs.Turning.{TurnsOnce, TurnFails, one_if_chosen}

-- what the turns so far did, but for the cause
pub record RanSo (before : Standing) (report : TermReport) (after : Standing) : Type 0 where
  pub doings : List Doing
  pub are_turns : AreTurns doings (line_bits before.taken) before.inside after.inside
  pub taken_is : after.taken ≡ before.taken ++ octets_in doings
  pub made_is : after.made ≡ before.made ++ entries_of doings
  pub no_fault : after.faults ≡ before.faults
  pub given_is : after.line.given ≡ before.line.given ++ octets_in doings
  pub put_is : after.line.put ≡ before.line.put ++ octets_out doings
  pub looks : AllLook doings before.line after.line
  pub turns_are : report.turns ≡ length doings
  pub sent_are : report.sent ≡ length (units_of doings)
  pub good_are : report.good ≡ counted is_good (marks_of doings)
  pub bad_are : report.bad ≡ counted is_bad (marks_of doings)
  pub sixteen_are : report.sixteen ≡ counted is_sixteen (marks_of doings)

-- none so far
pub ran_none : (before : Standing) (report : TermReport)
    → report ≡ record { turns = 0; sent = 0; good = 0; bad = 0; sixteen = 0; cause = 0 }
    → RanSo before report before
ran_none before report is = record {
  doings = [];
  are_turns = refl;
  taken_is = sym (append-nil before.taken);
  made_is = sym (append-nil before.made);
  no_fault = refl;
  given_is = sym (append-nil before.line.given);
  put_is = sym (append-nil before.line.put);
  looks = refl;
  turns_are = ap (λ (r : TermReport). r.turns) is;
  sent_are = ap (λ (r : TermReport). r.sent) is;
  good_are = ap (λ (r : TermReport). r.good) is;
  bad_are = ap (λ (r : TermReport). r.bad) is;
  sixteen_are = ap (λ (r : TermReport). r.sixteen) is;
}

counted_then : (such : Mark → Bool) (xs ys : List Mark) → counted such (xs ++ ys) ≡ counted such xs + counted such ys
counted_then such [] ys = omega arith
counted_then such (x ∷ xs) ys = omega (arith, counted_then such xs ys)

one_more_mapped : {X Y : Type 0} (f : X → List Y) (xs : List X) (x : X) → flat_map f (xs ++ x ∷ []) ≡ flat_map f xs ++ f x
one_more_mapped f xs x = flat_map-append f xs (x ∷ []) ∙ ap (λ rest. flat_map f xs ++ rest) (append-nil (f x))

-- a list that grew by what a turn did, after it had grown by what those before it did
grown : {X Y : Type 0} (f : X → List Y) (xs : List X) (x : X) (start mid last : List Y)
    → mid ≡ start ++ flat_map f xs → last ≡ mid ++ f x → last ≡ start ++ flat_map f (xs ++ x ∷ [])
grown f xs x start mid last so now =
    now ∙ ap (λ (m : List _). m ++ f x) so ∙ append_assoc start (flat_map f xs) (f x)
    ∙ ap (λ (m : List _). start ++ m) (sym (one_more_mapped f xs x))

sent_one : (unit : Option SignalUnit) → one_if_chosen (with_unit unit) ≡ length (option_to_list unit)
sent_one None = refl
sent_one (Some unit) = refl

-- a unit that was chosen is counted
chosen_one : (f : Filled) → f.narrow ≡ true → one_if_chosen (filling_of f) ≡ length (option_to_list f.unit)
chosen_one f narrow = rw narrow (sent_one f.unit)

-- a turn more looked at the line
looks_then : (doings : List Doing) (doing : Doing) (a b c : Seen) → AllLook doings a b → Looks doing.octet doing.put b c
    → AllLook (doings ++ doing ∷ []) a c
looks_then [] doing a b c all one = (c, subst (λ x. Looks doing.octet doing.put x c) all one, refl)
looks_then (d ∷ rest) doing a b c (mid, first, all) one = (mid, first, looks_then rest doing mid b c all one)

-- ONE TURN MORE.
module _ (before mid after : Standing) (report report' : TermReport) (turned : Turned) (so : RanSo before report mid)
    (once : TurnsOnce mid turned after) where
  did : Doing
  did = record {
    octet = once.octet;
    entries = once.entries;
    put = once.out;
    marks = once.marks;
    unit = once.turn.chosen.unit;
  }

  bits_so : line_bits mid.taken ≡ line_bits before.taken ++ line_bits (octets_in so.doings)
  bits_so = ap line_bits so.taken_is ∙ flat_map-append (bits_of 8) before.taken (octets_in so.doings)

  more_turns : AreTurns (so.doings ++ did ∷ []) (line_bits before.taken) before.inside after.inside
  unfolding did
  more_turns = runs_join so.doings (did ∷ []) (line_bits before.taken) before.inside mid.inside after.inside so.are_turns
      (after.inside, subst (λ b. Did b mid.inside did after.inside) bits_so (record { turn = once.turn; unit_is = refl }), refl)

  more_marks : (such : Mark → Bool) (old now one : ℕ) → old ≡ counted such (marks_of so.doings) → one ≡ counted such once.marks
      → now ≡ old + one → now ≡ counted such (marks_of (so.doings ++ did ∷ []))
  unfolding did
  more_marks such old now one were is sum =
      let split : counted such (marks_of (so.doings ++ did ∷ [])) ≡ counted such (marks_of so.doings) + counted such once.marks =
      ap (counted such) (one_more_mapped (λ (d : Doing). d.marks) so.doings did)
      ∙ counted_then such (marks_of so.doings) once.marks in
      omega (arith, were, is, sum, split)

  pub ran_more : report'.turns ≡ report.turns + 1 → report'.sent ≡ report.sent + one_if_chosen turned.filling
      → report'.good ≡ report.good + turned.marks.good → report'.bad ≡ report.bad + turned.marks.bad
      → report'.sixteen ≡ report.sixteen + turned.marks.sixteen
      → RanSo before report' after
  unfolding did
  ran_more turns sent good bad sixteen = record {
    doings = so.doings ++ did ∷ [];
    are_turns = more_turns;
    taken_is = grown (λ (d : Doing). option_to_list d.octet) so.doings did before.taken mid.taken after.taken so.taken_is once.taken_is;
    made_is = grown (λ (d : Doing). d.entries) so.doings did before.made mid.made after.made so.made_is once.made_is;
    no_fault = once.no_fault ∙ so.no_fault;
    given_is = grown (λ (d : Doing). option_to_list d.octet) so.doings did before.line.given mid.line.given after.line.given so.given_is once.looks.passes.given_is;
    put_is = grown (λ (d : Doing). d.put) so.doings did before.line.put mid.line.put after.line.put so.put_is once.looks.passes.put_is;
    looks = looks_then so.doings did before.line mid.line after.line so.looks once.looks;
    turns_are = omega (arith, turns, so.turns_are, length-append so.doings (did ∷ []));
    sent_are =
        let split : length (units_of (so.doings ++ did ∷ [])) ≡ length (units_of so.doings) + length (option_to_list once.turn.chosen.unit) =
        ap length (one_more_mapped (λ (d : Doing). option_to_list d.unit) so.doings did)
        ∙ length-append (units_of so.doings) (option_to_list once.turn.chosen.unit) in
        let one : one_if_chosen turned.filling ≡ length (option_to_list once.turn.chosen.unit) =
        ap one_if_chosen once.filling_is ∙ chosen_one once.turn.chosen once.turn.narrow in
        omega (arith, sent, so.sent_are, split, one);
    good_are = more_marks is_good report.good report'.good turned.marks.good so.good_are
        (ap (λ (c : MarkCounts). c.good) once.counts_are) good;
    bad_are = more_marks is_bad report.bad report'.bad turned.marks.bad so.bad_are
        (ap (λ (c : MarkCounts). c.bad) once.counts_are) bad;
    sixteen_are = more_marks is_sixteen report.sixteen report'.sixteen turned.marks.sixteen so.sixteen_are
        (ap (λ (c : MarkCounts). c.sixteen) once.counts_are) sixteen;
  }

-- the report, field by field
told_so : (report : TermReport) (doings : List Doing) (after : Terminal) (a b c d e f : ℕ)
    → a ≡ length doings → b ≡ length (units_of doings) → c ≡ counted is_good (marks_of doings)
    → d ≡ counted is_bad (marks_of doings) → e ≡ counted is_sixteen (marks_of doings) → f ≡ cause_or_0 after.cause
    → ◌≡◌ {A = TermReport} (record { turns = a; sent = b; good = c; bad = d; sixteen = e; cause = f }) (report_of doings after)
told_so report doings after a b c d e f is_a is_b is_c is_d is_e is_f =
    ap (λ x. record { turns = x; sent = b; good = c; bad = d; sixteen = e; cause = f }) is_a
    ∙ ap (λ x. record { turns = length doings; sent = x; good = c; bad = d; sixteen = e; cause = f }) is_b
    ∙ ap (λ x. record { turns = length doings; sent = length (units_of doings); good = x; bad = d; sixteen = e; cause = f }) is_c
    ∙ ap (λ x. record { turns = length doings; sent = length (units_of doings); good = counted is_good (marks_of doings); bad = x; sixteen = e; cause = f }) is_d
    ∙ ap (λ x. record { turns = length doings; sent = length (units_of doings); good = counted is_good (marks_of doings); bad = counted is_bad (marks_of doings); sixteen = x; cause = f }) is_e
    ∙ ap (λ x. record { turns = length doings; sent = length (units_of doings); good = counted is_good (marks_of doings); bad = counted is_bad (marks_of doings); sixteen = counted is_sixteen (marks_of doings); cause = x }) is_f

pub ran_all : (turns : ℕ) (before : Standing) (report last : TermReport) (after : Standing)
    → RanSo before report after → report.turns ≡ turns
    → last ≡ record report { cause = cause_or_0 after.inside.cause } → Runs turns before last after
ran_all turns before report last after so are is = record {
  octets = octets_in so.doings;
  entries = entries_of so.doings;
  out = octets_out so.doings;
  run = record {
    doings = so.doings;
    are_turns = so.are_turns;
    turns_are = sym so.turns_are ∙ are;
    given_is = refl;
    entries_are = refl;
    put_is = refl;
    report_is = is ∙ told_so report so.doings after.inside report.turns report.sent report.good report.bad report.sixteen
        (cause_or_0 after.inside.cause) so.turns_are so.sent_are so.good_are so.bad_are so.sixteen_are refl;
  };
  taken_is = so.taken_is;
  made_is = so.made_is;
  no_fault = so.no_fault;
  given_is = so.given_is;
  put_is = so.put_is;
  looks = so.looks;
}

pub at_most_one : (filling : Filling) → one_if_chosen filling ≤ 1
at_most_one Filling.Enough = omega arith
at_most_one Filling.Chosen = omega arith
at_most_one Filling.Wide = omega arith

-- A TURN THAT FAILED, behind those that went whole
pub run_failed : (result : Result TermReport TermFault) (told : TermFault) (turns whole : ℕ) (before between after : Standing)
    (report : TermReport) → IsErrAnd result (λ e. e ≡ told)
    → RanSo before report between → report.turns ≡ whole → whole < turns → TurnFails told between after
    → IfErr result (λ fault. RunFails fault turns before after)
run_failed (Ok done) told turns whole before between after report is so are few fails = absurd is
run_failed (Err fault) told turns whole before between after report is so are few fails = record {
  whole = whole;
  fewer = few;
  report = record report { cause = cause_or_0 between.inside.cause };
  between = between;
  runs = ran_all whole before report _ between so are refl;
  fails = subst (λ f. TurnFails f between after) (sym is) fails;
}
