-- What one terminal's turns put on a line, heard by another's.
use Rattle.std.proofs.Common.{refl, sym, ap, subst, arith, ◌≡◌, ◌∙◌, ◌+◌, ◌*◌, ◌%◌, ◌<◌, ◌≤◌, ◌^◌, inl, inr, ℕ, Bool, true, false, length, List, [], ◌∷◌, ◌++◌, append_assoc, All, Option, Some, None, map}
use Rattle.std.proofs.lemmas.List.{append-nil}
use Rattle.std.proofs.lemmas.List.Elements.{All-head, All-tail, All-cons, All-nil}
use Rattle.std.specs.Option.{option_to_list}
use Rattle.l2_units.specs.declared.status.Status.{Status}
use Rattle.l2_units.specs.Numbers.{status_number}
use Rattle.l2_bits.specs.declared.marks.Mark.{Mark}
use Rattle.term_laws.specs.Carrying.{Step, signal_unit, whole_flag, Carries, SoFar, all_heard}
use Rattle.term_laws.specs.Damage.{AreSome, all_sent, damaged_line, good_in, steps_by_then}
use Rattle.term_laws.proofs.DamageLemmas.{some_heard}
use Rattle.l2_bits.specs.Contents.{IsGood}
use Rattle.l2_bits.specs.Flags.{flag}
use Rattle.l2_bits.specs.LineBits.{line_bits}
use Rattle.l2_bits.specs.Marks.{AreMarks}
use Rattle.l2_bits.specs.OctetCounting.{IsAligned}
use Rattle.l2_bits.specs.SealedText.{sealed_text}
use Rattle.l2_bits.specs.Stuffing.{Stuffed}
use Rattle.term_laws.proofs.CarryingLemmas.{heard_so_far, anywhere}
use Rattle.l2_bits.proofs.CountingLemmas.{aligned_first}
use Rattle.l2_bits.proofs.FlagLemmas.{flag_first}
use Rattle.l2_bits.proofs.MarkLemmas.{marks_alone, marks-append}
use Rattle.l2_bits.proofs.OctetLemmas.{line_bits-append}
use Rattle.l2_units.specs.declared.unit.Header.{Header}
use Rattle.l2_units.specs.declared.profile.Profile.TheVariants.{Narrow}
use Rattle.l2_units.specs.declared.unit.Unit.{Unit as SignalUnit}
use Rattle.l2_units.specs.Grammar.{IsUnit, IsBodyOf, body_of, head_of, length_indicator, sequence_octet, text, unit_of}
use Rattle.l2_units.proofs.Texts.{stands_is}
use Rattle.term_model.specs.Hearing.{unit_in}
use Rattle.term_laws.specs.HeardLaws.{IsSendable, steps_of, AreHeard, AreDamaged, SomeHeard}
use Rattle.term_model.specs.LineLaws.{AreOnLine, CarriesUnits}
use Rattle.term_model.specs.OctetIn.{bits_in}
use Rattle.term_model.specs.Runs.{Doing, AreTurns, units_of, octets_in, octets_out, marks_of}
use Rattle.term_model.specs.Terminal.{Terminal}
use Rattle.term_model.specs.TurnLaws.{IsSound}
use Rattle.term_model.proofs.OnLine.{carries}

-- THE TEXT OF A UNIT.

three_bits : (status : Status) → status_number status % 8 ≡ status_number status
three_bits Status.OutOfAlignment = refl
three_bits Status.Normal = refl
three_bits Status.Emergency = refl
three_bits Status.OutOfService = refl
three_bits Status.ProcessorOutage = refl
three_bits Status.Busy = refl
three_bits Status.Unassigned6 = refl
three_bits Status.Unassigned7 = refl

own_body : (unit : SignalUnit) → IsUnit Narrow unit → IsBodyOf unit (body_of unit)
own_body (SignalUnit.Fisu h) is = refl
own_body (SignalUnit.Lssu h status) is = (omega arith, omega arith, three_bits status)
own_body (SignalUnit.Msu h body) is = (refl, is.1.0)

body_length : (unit : SignalUnit) → IsUnit Narrow unit → length (body_of unit) ≤ 273
body_length (SignalUnit.Fisu h) is = omega arith
body_length (SignalUnit.Lssu h status) is = omega arith
body_length (SignalUnit.Msu h body) is = is.1.1

text_read : (unit : SignalUnit) → IsUnit Narrow unit → unit_of Narrow (text Narrow unit) ≡ Some unit
text_read unit is = stands_is Narrow (text Narrow unit) unit (record {
  spare = 0;
  body = body_of unit;
  in_range = omega arith;
  head_is = is.0;
  body_is = own_body unit is;
  not_long = body_length unit is;
  octets_are = refl;
})

number_fits : (number : ℕ) (indicator : Bool) → number < 2 ^ 7 → sequence_octet number indicator < 2 ^ 8
number_fits number true fits = omega arith
number_fits number false fits = omega arith

abbrev Fits8 : ℕ → Type 0
Fits8 octet = octet < 2 ^ 8

text_fits : (unit : SignalUnit) → IsSendable unit → All Fits8 (text Narrow unit)
text_fits unit is =
    let head : Header = head_of unit in
    let body = body_of unit in
    let third : List ℕ = (length_indicator body + 64 * 0) ∷ body in
    All-cons Fits8 (sequence_octet head.bsn head.bib) (sequence_octet head.fsn head.fib ∷ third) (number_fits head.bsn head.bib is.is_unit.0.0)
    (All-cons Fits8 (sequence_octet head.fsn head.fib) third (number_fits head.fsn head.fib is.is_unit.0.1)
    (All-cons Fits8 (length_indicator body + 64 * 0) body (omega arith) is.in_range))

pub unit_good : (unit : SignalUnit) (wire : List Bool) → IsSendable unit → Stuffed (line_bits (sealed_text (text Narrow unit))) wire → IsGood wire (text Narrow unit)
unit_good unit wire is stuffed = record {
  in_range = text_fits unit is;
  shortest = omega arith;
  longest = omega (arith, body_length unit is.is_unit);
  stuffed = stuffed;
}

-- UNITS ON THE LINE.

pub units_carried : (units : List SignalUnit) (line : List Bool) → All IsSendable units → AreOnLine units line → Carries (steps_of units) line
units_carried [] line all none = none
units_carried (unit ∷ units) line all on = (
  on.0 ++ flag,
  on.1,
  (on.0, unit_good unit on.0 (All-head IsSendable unit units all) on.2, refl),
  units_carried units on.1 (All-tail IsSendable unit units all) on.3,
  on.4,
)

pub steps_apart : (units : List SignalUnit) (done left : List Step) → steps_of units ≡ done ++ left
    → (heard later : List SignalUnit) × (units ≡ heard ++ later) × (done ≡ steps_of heard)
steps_apart units [] left same = ([], units, refl, refl)
steps_apart [] (step ∷ done) left same = absurd (omega (arith, ap length same))
steps_apart (unit ∷ units) (step ∷ done) left same =
    let here : signal_unit (text Narrow unit) ≡ step = cc in
    let rest : steps_of units ≡ done ++ left = cc in
    let more = steps_apart units done left rest in
    (unit ∷ more.0, more.1, ap (λ all. unit ∷ all) more.2, ap (λ all. step ∷ all) more.3 ∙ ap (λ first. first ∷ steps_of more.0) (sym here))

pub read_heard : (units : List SignalUnit) → All IsSendable units → map unit_in (all_heard (steps_of units)) ≡ map (λ unit. Some unit) units
read_heard [] all = refl
read_heard (unit ∷ units) all =
    ap (λ first. first ∷ map unit_in (all_heard (steps_of units))) (text_read unit (All-head IsSendable unit units all).is_unit)
    ∙ ap (λ rest. Some unit ∷ rest) (read_heard units (All-tail IsSendable unit units all))

pub All-first : (first later : List SignalUnit) → All IsSendable (first ++ later) → All IsSendable first
All-first [] later all = All-nil IsSendable
All-first (unit ∷ first) later all =
    All-cons IsSendable unit first (All-head IsSendable unit (first ++ later) all) (All-first first later (All-tail IsSendable unit (first ++ later) all))

both_on_line : (first second : List SignalUnit) (a b : List Bool) → AreOnLine first a → AreOnLine second b → AreOnLine (first ++ second) (a ++ b)
both_on_line [] second a b none on = subst (λ c. AreOnLine second (c ++ b)) (sym none) on
both_on_line (unit ∷ first) second a b on more =
    (on.0, on.1 ++ b, on.2, both_on_line first second on.1 b on.3 more, ap (λ c. c ++ b) on.4 ∙ append_assoc (on.0 ++ flag) on.1 b)

pub joins : (first second : List SignalUnit) (a b : List ℕ) (old mid new : List Bool) → CarriesUnits first a old mid
    → CarriesUnits second b mid new → CarriesUnits (first ++ second) (a ++ b) old new
joins first second a b old mid new one more = record {
  line = one.line ++ more.line;
  on_line = both_on_line first second one.line more.line one.on_line more.on_line;
  same = sym (append_assoc old one.line more.line) ∙ ap (λ bits. bits ++ more.line) one.same
      ∙ append_assoc (line_bits a) mid more.line ∙ ap (λ bits. line_bits a ++ bits) more.same
      ∙ sym (append_assoc (line_bits a) (line_bits b) new)
      ∙ ap (λ bits. bits ++ new) (sym (line_bits-append a b));
}

pub aligned : IsAligned []
aligned = aligned_first flag_first

heard_by : (units : List SignalUnit) (line : List Bool) (marks : List Mark) (steps left : List Step) → All IsSendable units
    → whole_flag ∷ steps_of units ≡ steps ++ left → SoFar steps line → AreMarks [] line marks → AreHeard units line marks
heard_by units line marks [] left all same far are =
    let none : marks ≡ [] = marks_alone [] line marks [] are (heard_so_far [] line [] flag_first aligned far) in
    record { heard = []; later = units; units_are = refl; so_far = inr (refl, far); marks_are = none; read = ap (λ m. map unit_in m) none }
heard_by units line marks (step ∷ steps) left all same far are =
    let opening : whole_flag ≡ step = cc in
    let rest : steps_of units ≡ steps ++ left = cc in
    let apart = steps_apart units steps left rest in
    let steps_are : step ∷ steps ≡ whole_flag ∷ steps_of apart.0 = ap (λ s. s ∷ steps) (sym opening) ∙ ap (λ more. whole_flag ∷ more) apart.3 in
    let far' : SoFar (whole_flag ∷ steps_of apart.0) line = subst (λ s. SoFar s line) steps_are far in
    let marks_are : marks ≡ all_heard (steps_of apart.0) = marks_alone [] line marks _ are (heard_so_far [] line (whole_flag ∷ steps_of apart.0) flag_first aligned far') in
    let some : All IsSendable apart.0 = All-first apart.0 apart.1 (subst (λ u. All IsSendable u) apart.2 all) in
    record {
      heard = apart.0;
      later = apart.1;
      units_are = apart.2;
      so_far = inl far';
      marks_are = marks_are;
      read = ap (λ m. map unit_in m) marks_are ∙ read_heard apart.0 some;
    }

pub units_heard : (units : List SignalUnit) (put given rest : List ℕ) (left : List Bool) (marks : List Mark)
    → CarriesUnits units put flag left → All IsSendable units → put ≡ given ++ rest
    → AreMarks [] (line_bits given) marks → AreHeard units (line_bits given) marks
units_heard units put given rest left marks on all same are =
    let whole : flag ++ on.line ≡ line_bits given ++ (line_bits rest ++ left) =
    on.same ∙ ap (λ octets. line_bits octets ++ left) same ∙ ap (λ bits. bits ++ left) (line_bits-append given rest)
    ∙ append_assoc (line_bits given) (line_bits rest) left in
    let steps : Carries (whole_flag ∷ steps_of units) (line_bits given ++ (line_bits rest ++ left)) =
    (flag, on.line, refl, units_carried units on.line all on.on_line, sym whole) in
    let cut = anywhere (line_bits given) (line_bits rest ++ left) (whole_flag ∷ steps_of units) steps in
    heard_by units (line_bits given) marks cut.0 cut.1 all cut.2 cut.3 are

-- THE MARKS OF TURNS.

octet_bits : (octet : Option ℕ) → line_bits (option_to_list octet) ≡ bits_in octet
octet_bits None = refl
octet_bits (Some octet) = append-nil _

pub turns_give : (doings : List Doing) (taken : List Bool) (before after : Terminal) → AreTurns doings taken before after
    → AreMarks taken (line_bits (octets_in doings)) (marks_of doings)
turns_give [] taken before after same = refl
turns_give (doing ∷ rest) taken before after turns =
    let first : AreMarks taken (bits_in doing.octet) doing.marks = turns.1.turn.gives in
    let later = turns_give rest (taken ++ bits_in doing.octet) turns.0 after turns.2 in
    let bits : line_bits (octets_in (doing ∷ rest)) ≡ bits_in doing.octet ++ line_bits (octets_in rest) =
    line_bits-append (option_to_list doing.octet) (octets_in rest) ∙ ap (λ b. b ++ line_bits (octets_in rest)) (octet_bits doing.octet) in
    subst (λ b. AreMarks taken b (marks_of (doing ∷ rest))) (sym bits)
    (marks-append taken (bits_in doing.octet) (line_bits (octets_in rest)) doing.marks (marks_of rest) first later)

pub hear_each_other : (sends hears : List Doing) (taken : List Bool) (a a' b b' : Terminal) (rest : List ℕ)
    → IsSound a → a.bits ≡ flag → AreTurns sends taken a a' → All IsSendable (units_of sends)
    → AreTurns hears [] b b' → octets_out sends ≡ octets_in hears ++ rest
    → AreHeard (units_of sends) (line_bits (octets_in hears)) (marks_of hears)
hear_each_other sends hears taken a a' b b' rest sound first turns all others same =
    let on : CarriesUnits (units_of sends) (octets_out sends) flag a'.bits = subst (λ bits. CarriesUnits (units_of sends) (octets_out sends) bits a'.bits) first (carries sends taken a a' sound turns) in
    units_heard (units_of sends) (octets_out sends) (octets_in hears) rest a'.bits (marks_of hears) on all same (turns_give hears [] b b' others)

-- WHERE BITS WERE DAMAGED.

texts_sent : (units : List SignalUnit) → all_sent (steps_of units) ≡ map (λ unit. text Narrow unit) units
texts_sent [] = refl
texts_sent (unit ∷ units) = ap (λ rest. text Narrow unit ∷ rest) (texts_sent units)

-- what was sent by then are the first units
some_of : (units : List SignalUnit) (front left : List Step) (marks : List Mark) → whole_flag ∷ steps_of units ≡ front ++ left
    → AreSome (good_in marks) (all_sent front) → SomeHeard units front marks
some_of units [] left marks same some =
    record { sent = []; later = units; units_are = refl; sent_are = refl; heard = some }
some_of units (step ∷ front) left marks same some =
    let opening : whole_flag ≡ step = cc in
    let rest : steps_of units ≡ front ++ left = cc in
    let apart = steps_apart units front left rest in
    let sent_are : map (λ unit. text Narrow unit) apart.0 ≡ all_sent (step ∷ front) =
    sym (texts_sent apart.0) ∙ ap (λ steps. all_sent (whole_flag ∷ steps)) (sym apart.3) ∙ ap (λ s. all_sent (s ∷ front)) opening in
    record {
      sent = apart.0;
      later = apart.1;
      units_are = apart.2;
      sent_are = sent_are;
      heard = subst (λ all. AreSome (good_in marks) all) (sym sent_are) some;
    }

pub damage_loses : (units : List SignalUnit) (hears : List Doing) (b b' : Terminal) → AreTurns hears [] b b'
    → (are : AreDamaged units (line_bits (octets_in hears)))
    → SomeHeard units (steps_by_then are.steps are.stretches are.unended) (marks_of hears)
damage_loses units hears b b' turns are =
    let marks : AreMarks [] (damaged_line are.line are.stretches are.unended) (marks_of hears) =
    subst (λ bits. AreMarks [] bits (marks_of hears)) are.bits_are (turns_give hears [] b b' turns) in
    some_of units (steps_by_then are.steps are.stretches are.unended) are.left (marks_of hears) are.sent
    (some_heard flag_first are.line are.steps are.stretches are.unended (marks_of hears) are.so_far are.kept are.shows_as_loss marks)
