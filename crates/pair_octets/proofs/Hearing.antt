-- A LINE THAT WAS IDLE AT FIRST is heard like one that wasn't (`hears_all`): the flags under way give no mark. And of what was put on
-- it all is heard once so many octets were taken (`hears_first`).
use Rattle.std.proofs.Common.{refl, arith, sym, ap, subst, ◌≡◌, ◌∙◌, ◌≤◌, ◌+◌, ◌*◌, ◌⊎◌, inl, inr, ℕ, zero, suc, Bool, List, [], ◌∷◌, ◌++◌, length, map, All, Some, append_assoc}
use Rattle.std.proofs.lemmas.List.{length-append}
use Rattle.l2_bits.specs.declared.marks.Mark.{Mark}
use Rattle.l2_bits.specs.Flags.{flag}
use Rattle.l2_bits.specs.LineBits.{bits_of, line_bits}
use Rattle.l2_bits.specs.Marks.{AreMarks}
use Rattle.l2_bits.specs.SealedText.{sealed_text}
use Rattle.l2_bits.proofs.FlagLemmas.{flag_first, length-flag}
use Rattle.l2_bits.proofs.MarkLemmas.{marks_alone}
use Rattle.l2_bits.proofs.OctetLemmas.{length-line_bits, line_bits-append}
use Rattle.l2_bits.proofs.StuffingLemmas.{one_text}
use Rattle.l2_units.specs.Grammar.{text}
use Rattle.l2_units.specs.declared.profile.Profile.TheVariants.{Narrow}
use Rattle.l2_units.specs.declared.unit.Unit.{Unit as SignalUnit}
use Rattle.term_laws.specs.Carrying.{Step, whole_flag, Carries, SoFar, all_heard}
use Rattle.term_laws.specs.HeardLaws.{IsSendable, steps_of}
use Rattle.term_laws.proofs.CarryingLemmas.{heard_so_far, anywhere}
use Rattle.term_laws.proofs.Heard.{All-first, aligned, read_heard, steps_apart, units_carried}
use Rattle.term_model.specs.Hearing.{unit_in}
use Rattle.term_model.specs.LineLaws.{AreOnLine, CarriesUnits}
use Rattle.pair_octets.specs.Wires.{idle_line}

abbrev pub flags_and : ℕ → List Step → List Step
flags_and zero steps = steps
flags_and (suc n) steps = whole_flag ∷ flags_and n steps

flag_octet : bits_of 8 126 ≡ flag
unfolding flag bits_of
flag_octet = refl

pub idle_carries : (n : ℕ) (steps : List Step) (line : List Bool) → Carries steps line → Carries (flags_and n steps) (line_bits (idle_line n) ++ line)
idle_carries zero steps line carries = carries
idle_carries (suc n) steps line carries = (
  flag,
  line_bits (idle_line n) ++ line,
  refl,
  idle_carries n steps line carries,
  ap (λ (bits : List Bool). (bits ++ line_bits (idle_line n)) ++ line) flag_octet ∙ append_assoc flag (line_bits (idle_line n)) line,
)

-- the steps that came so far are some flags and the first units
record Apart (n : ℕ) (units : List SignalUnit) (done : List Step) : Type 0 where
  pub heard : List SignalUnit
  pub later : List SignalUnit
  pub units_are : units ≡ heard ++ later
  pub same : all_heard done ≡ all_heard (steps_of heard)
  pub all_flags : (heard ≡ []) ⊎ (done ≡ flags_and n (whole_flag ∷ steps_of heard))

none_apart : (n : ℕ) (units : List SignalUnit) → Apart n units []
none_apart n units = record { heard = []; later = units; units_are = refl; same = refl; all_flags = inl refl }

apart : (n : ℕ) (units : List SignalUnit) (done left : List Step) → flags_and n (whole_flag ∷ steps_of units) ≡ done ++ left → Apart n units done
apart n units [] left is = none_apart n units
apart zero units (step ∷ done) left is =
    let opening : whole_flag ≡ step = cc in
    let rest : steps_of units ≡ done ++ left = cc in
    let two = steps_apart units done left rest in record {
      heard = two.0;
      later = two.1;
      units_are = two.2;
      same = ap (λ (s : Step). all_heard (s ∷ done)) (sym opening) ∙ ap all_heard two.3;
      all_flags = inr (ap (λ (s : Step). s ∷ done) (sym opening) ∙ ap (λ (ss : List Step). whole_flag ∷ ss) two.3);
    }
apart (suc n) units (step ∷ done) left is =
    let opening : whole_flag ≡ step = cc in
    let rest : flags_and n (whole_flag ∷ steps_of units) ≡ done ++ left = cc in
    let more = apart n units done left rest in record {
      heard = more.heard;
      later = more.later;
      units_are = more.units_are;
      same = ap (λ (s : Step). all_heard (s ∷ done)) (sym opening) ∙ more.same;
      all_flags = elim more.all_flags [
        | inl none ↦ inl none
        | inr is ↦ inr (ap (λ (s : Step). s ∷ done) (sym opening) ∙ ap (λ (ss : List Step). whole_flag ∷ ss) is)
      ];
    }

-- HOW LONG such steps are
flags_long : (n : ℕ) (steps : List Step) (line : List Bool) → Carries (flags_and n steps) line
    → (rest : List Bool) × Carries steps rest × (length line ≡ 8 * n + length rest)
flags_long zero steps line on = (line, on, let same : length line ≡ 8 * 0 + length line = omega arith in same)
flags_long (suc n) steps line on =
    let more = flags_long n steps on.1 on.3 in (
      more.0,
      more.1,
      omega (arith, more.2, ap length on.4, length-append on.0 on.1, ap length on.2, length-flag),
    )

units_long : (units : List SignalUnit) (a b : List Bool) → Carries (steps_of units) a → AreOnLine units b → length a ≡ length b
units_long [] a b x y = ap length x ∙ sym (ap length y)
units_long (unit ∷ units) a b x y =
    let rest = units_long units x.1 y.1 x.3 y.3 in
    let raw : x.2.0 ≡ y.0 = one_text (line_bits (sealed_text (text Narrow unit))) x.2.0 y.0 x.2.1.stuffed y.2 in
    omega (
      arith,
      rest,
      ap length raw,
      ap length x.2.2,
      ap length x.4,
      ap length y.4,
      length-append x.0 x.1,
      length-append x.2.0 flag,
      length-append (y.0 ++ flag) y.1,
      length-append y.0 flag,
    )

-- all that was heard came: the octets that were taken hold it, and the flags before it
abbrev pub IsLongEnough : ℕ → List SignalUnit → ℕ → Type 0
IsLongEnough idle heard taken = (line : List Bool) → AreOnLine heard line → (heard ≡ []) ⊎ (8 * idle + 8 + length line ≤ 8 * taken)

long_enough : (idle : ℕ) (heard : List SignalUnit) (done : List Step) (taken : List ℕ)
    → (heard ≡ []) ⊎ (done ≡ flags_and idle (whole_flag ∷ steps_of heard)) → SoFar done (line_bits taken) → IsLongEnough idle heard (length taken)
long_enough idle heard done taken (inl none) so_far line on = inl none
long_enough idle heard done taken (inr is) so_far line on =
    let whole = flags_long idle (whole_flag ∷ steps_of heard) so_far.front (subst (λ (ss : List Step). Carries ss so_far.front) is so_far.carries) in
    let flagged = whole.1 in
    let same = units_long heard flagged.1 line flagged.3 on in
    inr (omega (
      arith,
      same,
      whole.2,
      ap length flagged.2,
      length-flag,
      ap length flagged.4,
      length-append flagged.0 flagged.1,
      ap length so_far.split,
      length-append so_far.front so_far.part,
      length-line_bits taken,
    ))

pub record HearsFirst (idle : ℕ) (units : List SignalUnit) (taken : List ℕ) (marks : List Mark) : Type 0 where
  pub heard : List SignalUnit
  pub later : List SignalUnit
  pub units_are : units ≡ heard ++ later
  pub read : map unit_in marks ≡ map (λ unit. Some unit) heard
  pub long : IsLongEnough idle heard (length taken)

pub hears_all : (idle : ℕ) (units : List SignalUnit) (put taken line : List ℕ) (left : List Bool) (marks : List Mark)
    → CarriesUnits units put flag left → All IsSendable units → idle_line idle ++ put ≡ taken ++ line
    → AreMarks [] (line_bits taken) marks → HearsFirst idle units taken marks
hears_all idle units put taken line left marks on all same are =
    let whole : line_bits (idle_line idle) ++ (flag ++ on.line) ≡ line_bits taken ++ (line_bits line ++ left) =
    ap (λ (bits : List Bool). line_bits (idle_line idle) ++ bits) on.same
    ∙ sym (append_assoc (line_bits (idle_line idle)) (line_bits put) left)
    ∙ ap (λ (bits : List Bool). bits ++ left) (sym (line_bits-append (idle_line idle) put))
    ∙ ap (λ (os : List ℕ). line_bits os ++ left) same
    ∙ ap (λ (bits : List Bool). bits ++ left) (line_bits-append taken line)
    ∙ append_assoc (line_bits taken) (line_bits line) left in
    let steps : Carries (flags_and idle (whole_flag ∷ steps_of units)) (line_bits taken ++ (line_bits line ++ left)) =
    subst (λ (bits : List Bool). Carries (flags_and idle (whole_flag ∷ steps_of units)) bits) whole
    (idle_carries idle (whole_flag ∷ steps_of units) (flag ++ on.line) (flag, on.line, refl, units_carried units on.line all on.on_line, refl)) in
    let cut = anywhere (line_bits taken) (line_bits line ++ left) (flags_and idle (whole_flag ∷ steps_of units)) steps in
    let two = apart idle units cut.0 cut.1 cut.2 in
    let marks_are : marks ≡ all_heard cut.0 =
    marks_alone [] (line_bits taken) marks (all_heard cut.0) are (heard_so_far [] (line_bits taken) cut.0 flag_first aligned cut.3) in record {
      heard = two.heard;
      later = two.later;
      units_are = two.units_are;
      read = ap (λ (m : List Mark). map unit_in m) (marks_are ∙ two.same)
          ∙ read_heard two.heard (All-first two.heard two.later (subst (λ (us : List SignalUnit). All IsSendable us) two.units_are all));
      long = long_enough idle two.heard cut.0 taken two.all_flags cut.3;
    }
