-- Steps that a sender puts on the line, heard one after another
use Rattle.std.proofs.Common.{◌≡◌, ◌≢◌, ℕ, ◌+◌, ◌<◌, ◌≤◌, ◌⊎◌, inl, inr, Bool, true, false, List, [], ◌∷◌, ◌++◌, length, Option, Some, None, refl, ap, sym, ◌∙◌, arith, append_assoc, length-append}
use Rattle.std.proofs.lemmas.List.{append-nil, length_push, nil_from_length}
use Rattle.std.specs.Option.{option_to_list}
use Rattle.l2_bits.specs.declared.marks.Mark.{Mark}
use Rattle.l2_bits.specs.declared.marks.Mark.TheVariants.{Good, Bad, Sixteen}
use Rattle.l2_bits.specs.Flags.{flag, IsFlagEnd, Since, Closes}
use Rattle.l2_bits.specs.Stuffing.{ones, is_text}
use Rattle.l2_bits.specs.Contents.{EndsGood}
use Rattle.l2_bits.specs.OctetCounting.{LosesAlignment, IsAligned}
use Rattle.l2_bits.specs.Marks.{IsMark, AreMarks}
use Rattle.term_laws.specs.Carrying.{Step, signal_unit, whole_flag, shared_flag, Puts, Carries, IsBegun, SoFar, heard_of, all_heard, without_sixteen, AreDamaged}
use Rattle.l2_bits.proofs.StuffingLemmas.{is_text_of, text_longer}
use Rattle.l2_bits.proofs.ContentLemmas.{good_length, raw_fits}
use Rattle.l2_bits.proofs.FlagLemmas.{length-flag, since_flag, since_more, closes_is, closes_flag}
use Rattle.l2_bits.proofs.CountingLemmas.{unit_flag, flag_aligns, loses_by, still_aligned}
use Rattle.l2_bits.proofs.RunLemmas.{run_of, front_runs, flag_after_six, seven_after_six}
use Rattle.l2_bits.proofs.MarkLemmas.{mark_alone, marks_alone, marks_more, marks-append}

-- ---- bits in which no flag ends

-- no six ones stand before any of these bits
abbrev Calm : List Bool → Type 0
Calm bits = (a b : List Bool) (bit : Bool) → bits ≡ a ++ bit ∷ b → run_of 0 a ≤ 5

-- they gave no mark after the past, and no flag has ended since
record IsQuiet (past a rest bits : List Bool) : Type 0 where
  marks : AreMarks (past ++ a) rest []
  since : Since (past ++ bits) bits
  aligned : IsAligned (past ++ bits)

module _ (past bits : List Bool) (ended : IsFlagEnd past) (calm : Calm bits) (fits : length bits < 2677) where
  quiet : (rest a : List Bool) → bits ≡ a ++ rest → Since (past ++ a) a → IsAligned (past ++ a) → IsQuiet past a rest bits
  quiet [] a same since aligned =
      let all : a ≡ bits = sym (same ∙ append-nil a) in
      record { marks = refl; since = rw all at since; aligned = rw all at aligned }
  quiet (bit ∷ rest) a same since aligned =
      let few : run_of 0 a ≤ 5 = calm a rest bit same in
      let no_flag : IsFlagEnd ((past ++ a) ++ bit ∷ []) → ⊥ = λ ends. omega (arith, flag_after_six past a bit ended ends) in
      let later : Since ((past ++ a) ++ bit ∷ []) (a ++ bit ∷ []) = since_more (past ++ a) a bit since no_flag in
      let keeps : LosesAlignment ((past ++ a) ++ bit ∷ []) → ⊥ =
      λ loses.
      elim (loses_by ((past ++ a) ++ bit ∷ []) (a ++ bit ∷ []) later loses) [
        | inl seven ↦ omega (arith, seven_after_six past a bit ended seven)
        | inr long ↦ omega (arith, long, ap length same, length-append a (bit ∷ rest), length_push a bit)
      ] in
      let moved : (past ++ a) ++ bit ∷ [] ≡ past ++ (a ++ bit ∷ []) = append_assoc past a (bit ∷ []) in
      let goes = quiet rest (a ++ bit ∷ []) (same ∙ sym (append_assoc a (bit ∷ []) rest)) (rw moved at later) (rw moved at (still_aligned (past ++ a) bit aligned keeps)) in
      record {
        marks = (
          None,
          [],
          (
            (λ other unit. no_flag (unit_flag (past ++ a) bit other unit)),
            (λ bad _. no_flag (closes_flag (past ++ a) bad.raw bit bad.closes)),
            λ sixteen. aligned sixteen.counted sixteen.counts.lost,
          ),
          rw moved goes.marks,
          refl,
        );
        since = goes.since;
        aligned = goes.aligned;
      }

  all_quiet : IsAligned past → IsQuiet past [] bits bits
  all_quiet aligned =
      let here : past ++ [] ≡ past = append-nil past in
      quiet bits [] refl (rw here (since_flag past ended)) (rw here aligned)

-- ---- which bits are such

-- a part of a text and its flag
text_calm : (text part rest : List Bool) → is_text 0 text ≡ true → text ++ flag ≡ part ++ rest → rest ≢ [] → Calm part
text_calm text part [] passes same more a b bit split = absurd (more refl)
text_calm text part (x ∷ rest) passes same more a b bit split =
    front_runs text a (bit ∷ (b ++ x ∷ rest)) passes
    (same ∙ ap (λ (bits : List Bool). bits ++ x ∷ rest) split ∙ append_assoc a (bit ∷ b) (x ∷ rest))
    (omega (arith, length-append b (x ∷ rest)))

part_fits : (text part rest : List Bool) → length text ≤ 2668 → text ++ flag ≡ part ++ rest → length part < 2677
part_fits text part rest fits same = omega (arith, ap length same, length-append text flag, length-flag, length-append part rest)

run_short : (run : ℕ) (bits : List Bool) → run_of run bits ≤ run + length bits
unfolding run_of
run_short run [] = omega arith
run_short run (false ∷ bits) = omega (arith, run_short 0 bits)
run_short run (true ∷ bits) = omega (arith, run_short (run + 1) bits)

six_calm : (part rest : List Bool) → ones 6 ++ false ∷ [] ≡ part ++ rest → rest ≢ [] → Calm part
six_calm part [] same more a b bit split = absurd (more refl)
six_calm part (x ∷ rest) same more a b bit split =
    omega (arith, run_short 0 a, ap length same, length-append part (x ∷ rest), ap length split, length-append a (bit ∷ b))

six_fits : (part rest : List Bool) → ones 6 ++ false ∷ [] ≡ part ++ rest → length part < 2677
six_fits part rest same = omega (arith, ap length same, length-append part rest)

-- nothing is a text
nothing_passes : is_text 0 [] ≡ true
unfolding is_text
nothing_passes = refl

step_calm : (part rest whole : List Bool) (step : Step) → Puts step whole → whole ≡ part ++ rest → rest ≢ [] → Calm part
step_calm part rest whole (signal_unit octets) puts same more =
    text_calm puts.0 part rest (is_text_of _ puts.0 puts.1.stuffed) (sym puts.2 ∙ same) more
step_calm part rest whole whole_flag puts same more = text_calm [] part rest nothing_passes (sym puts ∙ same) more
step_calm part rest whole shared_flag puts same more = six_calm part rest (sym puts ∙ same) more

step_fits : (part rest whole : List Bool) (step : Step) → Puts step whole → whole ≡ part ++ rest → length part < 2677
step_fits part rest whole (signal_unit octets) puts same = part_fits puts.0 part rest (raw_fits puts.0 octets puts.1) (sym puts.2 ∙ same)
step_fits part rest whole whole_flag puts same = part_fits [] part rest (omega arith) (sym puts ∙ same)
step_fits part rest whole shared_flag puts same = six_fits part rest (sym puts ∙ same)

step_quiet : (past part rest whole : List Bool) (step : Step) → IsFlagEnd past → IsAligned past → Puts step whole
    → whole ≡ part ++ rest → rest ≢ [] → IsQuiet past [] part part
step_quiet past part rest whole step ended aligned puts same more =
    all_quiet past part ended (step_calm part rest whole step puts same more) (step_fits part rest whole step puts same) aligned

-- ---- the last bit of a step

-- flags give none
short_closes : (past since raw : List Bool) (bit : Bool) → Since past since → length since ≤ 7 → Closes past bit raw → length raw ≡ 0
short_closes past since raw bit is short closes =
    omega (arith, ap length (closes_is past since raw bit closes is), length_push since bit, length-append raw flag, length-flag)

no_mark : (past since : List Bool) (bit : Bool) → Since past since → length since ≤ 7 → IsAligned past → IsMark past bit None
no_mark past since bit is short aligned =
    ((λ octets unit. no_good octets unit), (λ bad _. bad.not_empty (nothing bad.raw bad.closes)), λ sixteen. aligned sixteen.counted sixteen.counts.lost)
  where
    none : (raw : List Bool) → Closes past bit raw → length raw ≡ 0
    none raw closes = short_closes past since raw bit is short closes

    nothing : (raw : List Bool) → Closes past bit raw → raw ≡ []
    nothing raw closes = nil_from_length raw (none raw closes)

    no_good : (octets : List ℕ) → EndsGood past bit octets → ⊥
    no_good octets unit = omega (arith, none unit.raw unit.closes, text_longer _ unit.raw unit.good.stuffed, good_length octets)

-- these bits gave these marks, and a flag has ended, outside octet counting
record IsReady (past bits : List Bool) (marks : List Mark) : Type 0 where
  are : AreMarks past bits marks
  ended : IsFlagEnd (past ++ bits)
  aligned : IsAligned (past ++ bits)

ready_by : (past part : List Bool) (mark : Option Mark) → IsQuiet past [] part part → IsMark (past ++ part) false mark
    → IsFlagEnd ((past ++ part) ++ false ∷ []) → IsReady past (part ++ false ∷ []) (option_to_list mark)
ready_by past part mark quiets is ends =
    let here : past ++ [] ≡ past = append-nil past in
    let moved : (past ++ part) ++ false ∷ [] ≡ past ++ (part ++ false ∷ []) = append_assoc past part (false ∷ []) in
    record {
      are = marks_more past part false [] mark (rw here at quiets.marks) is;
      ended = rw moved at ends;
      aligned = rw moved at (still_aligned (past ++ part) false quiets.aligned (flag_aligns ((past ++ part) ++ false ∷ []) ends));
    }

-- what stands before the last zero of a flag
before_zero : (raw : List Bool) → (raw ++ false ∷ ones 6) ++ false ∷ [] ≡ raw ++ flag
unfolding flag
before_zero raw = append_assoc raw (false ∷ ones 6) (false ∷ [])

shared_zero : (front : List Bool) → (front ++ flag) ++ (ones 6 ++ false ∷ []) ≡ (front ++ false ∷ ones 6) ++ flag
unfolding flag
shared_zero front = append_assoc front flag (ones 6 ++ false ∷ []) ∙ sym (append_assoc front (false ∷ ones 6) flag)

some_zero : false ∷ [] ≢ []
some_zero same = omega (arith, ap length same)

step_ready : (past whole : List Bool) (step : Step) → IsFlagEnd past → IsAligned past → Puts step whole → IsReady past whole (heard_of step)
step_ready past whole (signal_unit octets) ended aligned puts =
    let raw = puts.0 in
    let part = raw ++ false ∷ ones 6 in
    let same : whole ≡ part ++ false ∷ [] = puts.2 ∙ sym (before_zero raw) in
    let quiets = step_quiet past part (false ∷ []) whole (signal_unit octets) ended aligned puts same some_zero in
    let closes : Closes (past ++ part) false raw = record { since = part; is_since = quiets.since; closed = before_zero raw } in
    rw (sym same) at (ready_by past part (Some (Good (record { items = octets }))) quiets (record { raw = raw; closes = closes; good = puts.1 }) (closes_flag (past ++ part) raw false closes))
step_ready past whole whole_flag ended aligned puts =
    let part = false ∷ ones 6 in
    let same : whole ≡ part ++ false ∷ [] = puts ∙ sym (before_zero []) in
    let quiets = step_quiet past part (false ∷ []) whole whole_flag ended aligned puts same some_zero in
    let closes : Closes (past ++ part) false [] = record { since = part; is_since = quiets.since; closed = before_zero [] } in
    rw (sym same) at (ready_by past part None quiets (no_mark (past ++ part) part false quiets.since (omega arith) quiets.aligned) (closes_flag (past ++ part) [] false closes))
step_ready past whole shared_flag ended aligned puts =
    let quiets = step_quiet past (ones 6) (false ∷ []) whole shared_flag ended aligned puts puts some_zero in
    let ends : IsFlagEnd ((past ++ ones 6) ++ false ∷ []) = record {
      front = ended.front ++ false ∷ ones 6;
      split = ap (λ (bits : List Bool). flag ++ bits) (append_assoc past (ones 6) (false ∷ [])) ∙ sym (append_assoc flag past (ones 6 ++ false ∷ []))
          ∙ ap (λ (bits : List Bool). bits ++ (ones 6 ++ false ∷ [])) ended.split ∙ shared_zero ended.front;
    } in
    rw (sym puts) at (ready_by past (ones 6) None quiets (no_mark (past ++ ones 6) (ones 6) false quiets.since (omega arith) quiets.aligned) ends)

-- ---- all steps

all_ready : (past line : List Bool) (steps : List Step) → IsFlagEnd past → IsAligned past → Carries steps line
    → IsReady past line (all_heard steps)
all_ready past line [] ended aligned none =
    let here : past ≡ past ++ [] = sym (append-nil past) in
    rw none (record { are = refl; ended = rw here at ended; aligned = rw here at aligned })
all_ready past line (step ∷ steps) ended aligned carries =
    let first = step_ready past carries.0 step ended aligned carries.2 in
    let later = all_ready (past ++ carries.0) carries.1 steps first.ended first.aligned carries.3 in
    let moved : (past ++ carries.0) ++ carries.1 ≡ past ++ (carries.0 ++ carries.1) = append_assoc past carries.0 carries.1 in
    rw carries.4 (record {
      are = marks-append past carries.0 carries.1 (heard_of step) (all_heard steps) first.are later.are;
      ended = rw moved at later.ended;
      aligned = rw moved at later.aligned;
    })

pub heard : (past line : List Bool) (steps : List Step) → IsFlagEnd past → IsAligned past → Carries steps line → AreMarks past line (all_heard steps)
heard past line steps ended aligned carries = (all_ready past line steps ended aligned carries).are

pub stays : (past line : List Bool) (steps : List Step) → IsFlagEnd past → IsAligned past → Carries steps line
    → IsFlagEnd (past ++ line) × IsAligned (past ++ line)
stays past line steps ended aligned carries =
    let ready = all_ready past line steps ended aligned carries in (ready.ended, ready.aligned)

pub heard_so_far : (past line : List Bool) (steps : List Step) → IsFlagEnd past → IsAligned past → SoFar steps line
    → AreMarks past line (all_heard steps)
heard_so_far past line steps ended aligned far =
    let ready = all_ready past far.front steps ended aligned far.carries in
    let begun = far.begun in
    let quiets = step_quiet (past ++ far.front) far.part begun.rest begun.whole begun.step ready.ended ready.aligned begun.puts begun.split begun.more in
    let here : (past ++ far.front) ++ [] ≡ past ++ far.front = append-nil (past ++ far.front) in
    let both : AreMarks past (far.front ++ far.part) (all_heard steps ++ []) =
    marks-append past far.front far.part (all_heard steps) [] ready.are (rw here at quiets.marks) in
    rw (far.split, ← append-nil (all_heard steps)) both

-- ---- where the line ends

-- a list cut in two ways
cut : (a b c d : List Bool) → a ++ b ≡ c ++ d
    → ((rest : List Bool) × (rest ≢ []) × (c ≡ a ++ rest)) ⊎ ((more : List Bool) × (a ≡ c ++ more) × (d ≡ more ++ b))
cut a b [] d same = inr (a, refl, sym same)
cut [] b (x ∷ c) d same = inl (x ∷ c, (λ none. omega (arith, ap length none)), refl)
cut (x ∷ a) b (y ∷ c) d same =
    let rest : a ++ b ≡ c ++ d = cc in
    let here : x ≡ y = cc in
    elim (cut a b c d rest) [
      | inl within ↦ inl (within.0, within.1, rw here (ap (λ (bits : List Bool). y ∷ bits) within.2))
      | inr past ↦ inr (past.0, rw here (ap (λ (bits : List Bool). y ∷ bits) past.1), past.2)
    ]

none_begun : IsBegun []
none_begun = record { step = whole_flag; whole = flag; rest = flag; puts = refl; more = λ none. omega (arith, ap length none, length-flag); split = refl }

pub anywhere : (front back : List Bool) (steps : List Step) → Carries steps (front ++ back)
    → (done left : List Step) × (steps ≡ done ++ left) × SoFar done front
anywhere front back [] none =
    let nothing : front ≡ [] = nil_from_length front (omega (arith, ap length none, length-append front back)) in
    ([], [], refl, rw nothing (record { front = []; part = []; carries = refl; begun = none_begun; split = refl }))
anywhere front back (step ∷ steps) carries =
    elim (cut front back carries.0 carries.1 carries.4) [
      | inl within ↦ (
        [],
        step ∷ steps,
        refl,
        record {
          front = [];
          part = front;
          carries = refl;
          begun = record { step = step; whole = carries.0; rest = within.0; puts = carries.2; more = within.1; split = within.2 };
          split = refl;
        },
      )
      | inr past ↦
          let later = anywhere past.0 back steps (rw past.2 at carries.3) in (
            step ∷ later.0,
            later.1,
            ap (λ (all : List Step). step ∷ all) later.2,
            record {
              front = carries.0 ++ later.3.front;
              part = later.3.part;
              carries = (carries.0, later.3.front, carries.2, later.3.carries, refl);
              begun = later.3.begun;
              split = past.1 ∙ ap (λ (bits : List Bool). carries.0 ++ bits) later.3.split ∙ sym (append_assoc carries.0 later.3.front later.3.part);
            },
          )
    ]

pub one_list : IsFlagEnd [] → IsAligned [] → (line : List Bool) (a b : List Step) → Carries a line → Carries b line → all_heard a ≡ all_heard b
one_list ended aligned line a b first second =
    marks_alone [] line (all_heard a) (all_heard b) (heard [] line a ended aligned first) (heard [] line b ended aligned second)

-- ---- after damage

pub marks_apart : (past bits more : List Bool) (marks : List Mark) → AreMarks past (bits ++ more) marks
    → (first later : List Mark) × AreMarks past bits first × AreMarks (past ++ bits) more later × (marks ≡ first ++ later)
marks_apart past [] more marks are =
    let here : past ≡ past ++ [] = sym (append-nil past) in
    ([], marks, refl, rw here at are, refl)
marks_apart past (bit ∷ bits) more marks are =
    let moved : (past ++ bit ∷ []) ++ bits ≡ past ++ bit ∷ bits = append_assoc past (bit ∷ []) bits in
    let rest = marks_apart (past ++ bit ∷ []) bits more are.1 are.3 in (
      option_to_list are.0 ++ rest.0,
      rest.1,
      (are.0, rest.0, are.2, rest.2, refl),
      rw moved at rest.3,
      are.4 ∙ ap (λ (all : List Mark). option_to_list are.0 ++ all) rest.4 ∙ sym (append_assoc (option_to_list are.0) rest.0 rest.1),
    )

without-append : (a b : List Mark) → without_sixteen (a ++ b) ≡ without_sixteen a ++ without_sixteen b
without-append [] b = refl
without-append (Good octets ∷ a) b = ap (λ (marks : List Mark). Good octets ∷ marks) (without-append a b)
without-append (Bad ∷ a) b = ap (λ (marks : List Mark). Bad ∷ marks) (without-append a b)
without-append (Sixteen ∷ a) b = without-append a b

-- the mark of a bit that ends no flag
no_flag_mark : (past : List Bool) (bit : Bool) (mark : Option Mark) → (IsFlagEnd (past ++ bit ∷ []) → ⊥) → IsMark past bit mark
    → without_sixteen (option_to_list mark) ≡ []
no_flag_mark past bit None none is = refl
no_flag_mark past bit (Some (Good octets)) none is = absurd (none (unit_flag past bit octets.items is))
no_flag_mark past bit (Some Bad) none is = absurd (none (closes_flag past is.0.raw bit is.0.closes))
no_flag_mark past bit (Some Sixteen) none is = refl

-- only sixteens come of these bits
module _ (past bits : List Bool) (ended : IsFlagEnd past) (calm : Calm bits) where
  no_units : (rest a : List Bool) (marks : List Mark) → bits ≡ a ++ rest → Since (past ++ a) a → AreMarks (past ++ a) rest marks
      → (without_sixteen marks ≡ []) × Since (past ++ bits) bits
  no_units [] a marks same since are =
      let all : a ≡ bits = sym (same ∙ append-nil a) in
      (rw are refl, rw all at since)
  no_units (bit ∷ rest) a marks same since are =
      let few : run_of 0 a ≤ 5 = calm a rest bit same in
      let no_flag : IsFlagEnd ((past ++ a) ++ bit ∷ []) → ⊥ = λ ends. omega (arith, flag_after_six past a bit ended ends) in
      let moved : (past ++ a) ++ bit ∷ [] ≡ past ++ (a ++ bit ∷ []) = append_assoc past a (bit ∷ []) in
      let goes = no_units rest (a ++ bit ∷ []) are.1 (same ∙ sym (append_assoc a (bit ∷ []) rest)) (rw moved at (since_more (past ++ a) a bit since no_flag)) (rw moved at are.3) in (
        ap without_sixteen are.4 ∙ without-append (option_to_list are.0) are.1
            ∙ ap (λ (first : List Mark). first ++ without_sixteen are.1) (no_flag_mark (past ++ a) bit are.0 no_flag are.2) ∙ goes.0,
        goes.1,
      )

  all_no_units : (marks : List Mark) → AreMarks past bits marks → (without_sixteen marks ≡ []) × Since (past ++ bits) bits
  all_no_units marks are =
      let here : past ≡ past ++ [] = sym (append-nil past) in
      no_units bits [] marks refl (rw here at (since_flag past ended)) (rw here at are)

-- the mark of the last bit
flag_mark : (past since : List Bool) (bit : Bool) (mark : Option Mark) → Since past since → length since ≤ 7 → IsMark past bit mark
    → without_sixteen (option_to_list mark) ≡ []
flag_mark past since bit None is short mark = refl
flag_mark past since bit (Some (Good octets)) is short unit =
    absurd (omega (arith, short_closes past since unit.raw bit is short unit.closes, text_longer _ unit.raw unit.good.stuffed, good_length octets.items))
flag_mark past since bit (Some Bad) is short bad =
    absurd (bad.0.not_empty (nil_from_length bad.0.raw (short_closes past since bad.0.raw bit is short bad.0.closes)))
flag_mark past since bit (Some Sixteen) is short mark = refl

last_without : (marks others : List Mark) (mark : Option Mark) (first : List Mark) → marks ≡ first ++ (option_to_list mark ++ [])
    → without_sixteen first ≡ [] → without_sixteen (option_to_list mark) ≡ others → without_sixteen marks ≡ others
last_without marks others mark first all none last =
    ap without_sixteen (all ∙ ap (λ (rest : List Mark). first ++ rest) (append-nil (option_to_list mark))) ∙ without-append first (option_to_list mark)
    ∙ ap (λ (front : List Mark). front ++ without_sixteen (option_to_list mark)) none ∙ last

flag_again : (past part whole : List Bool) (step : Step) (marks : List Mark) → IsFlagEnd past → Puts step whole → whole ≡ part ++ false ∷ []
    → length part ≤ 7 → AreMarks past whole marks → without_sixteen marks ≡ []
flag_again past part whole step marks ended puts same short are =
    let apart = marks_apart past part (false ∷ []) marks (rw same at are) in
    let quiets = all_no_units past part ended (step_calm part (false ∷ []) whole step puts same some_zero) apart.0 apart.2 in
    last_without marks [] apart.3.0 apart.0
    (apart.4 ∙ ap (λ (rest : List Mark). apart.0 ++ rest) (apart.3.4 ∙ ap (λ (none : List Mark). option_to_list apart.3.0 ++ none) apart.3.3)) quiets.0
    (flag_mark (past ++ part) part false apart.3.0 quiets.1 short apart.3.2)

step_again : (past whole : List Bool) (step : Step) (marks : List Mark) → IsFlagEnd past → Puts step whole → AreMarks past whole marks
    → without_sixteen marks ≡ heard_of step
step_again past whole (signal_unit octets) marks ended puts are =
    let raw = puts.0 in
    let part = raw ++ false ∷ ones 6 in
    let same : whole ≡ part ++ false ∷ [] = puts.2 ∙ sym (before_zero raw) in
    let apart = marks_apart past part (false ∷ []) marks (rw same at are) in
    let quiets = all_no_units past part ended (step_calm part (false ∷ []) whole (signal_unit octets) puts same some_zero) apart.0 apart.2 in
    let closes : Closes (past ++ part) false raw = record { since = part; is_since = quiets.1; closed = before_zero raw } in
    let last : apart.3.0 ≡ Some (Good (record { items = octets })) =
    mark_alone (past ++ part) false apart.3.0 (Some (Good (record { items = octets }))) apart.3.2 (record { raw = raw; closes = closes; good = puts.1 }) in
    last_without marks (heard_of (signal_unit octets)) apart.3.0 apart.0
    (apart.4 ∙ ap (λ (rest : List Mark). apart.0 ++ rest) (apart.3.4 ∙ ap (λ (none : List Mark). option_to_list apart.3.0 ++ none) apart.3.3)) quiets.0
    (ap (λ (mark : Option Mark). without_sixteen (option_to_list mark)) last)
step_again past whole whole_flag marks ended puts are =
    let part = false ∷ ones 6 in
    let same : whole ≡ part ++ false ∷ [] = puts ∙ sym (before_zero []) in
    flag_again past part whole whole_flag marks ended puts same (omega arith) are
step_again past whole shared_flag marks ended puts are = flag_again past (ones 6) whole shared_flag marks ended puts puts (omega arith) are

-- whatever came before, each step's flag ends
pub flag_ends : (past : List Bool) → IsFlagEnd (past ++ flag)
flag_ends past = record { front = flag ++ past; split = sym (append_assoc flag past flag) }

shared_ends : (past : List Bool) → IsFlagEnd past → IsFlagEnd (past ++ (ones 6 ++ false ∷ []))
shared_ends past ended = record {
  front = ended.front ++ false ∷ ones 6;
  split = sym (append_assoc flag past (ones 6 ++ false ∷ [])) ∙ ap (λ (bits : List Bool). bits ++ (ones 6 ++ false ∷ [])) ended.split ∙ shared_zero ended.front;
}

step_ends : (past whole : List Bool) (step : Step) → IsFlagEnd past → Puts step whole → IsFlagEnd (past ++ whole)
step_ends past whole (signal_unit octets) ended puts = record {
  front = flag ++ (past ++ puts.0);
  split = ap (λ (bits : List Bool). flag ++ (past ++ bits)) puts.2 ∙ ap (λ (bits : List Bool). flag ++ bits) (sym (append_assoc past puts.0 flag))
      ∙ sym (append_assoc flag (past ++ puts.0) flag);
}
step_ends past whole whole_flag ended puts = rw puts (flag_ends past)
step_ends past whole shared_flag ended puts = rw puts (shared_ends past ended)

pub again : (past line : List Bool) (steps : List Step) (marks : List Mark) → IsFlagEnd past → Carries steps line → AreMarks past line marks
    → without_sixteen marks ≡ all_heard steps
again past line [] marks ended none are = let nothing : marks ≡ [] = rw none at are in ap without_sixteen nothing
again past line (step ∷ steps) marks ended carries are =
    let apart = marks_apart past carries.0 carries.1 marks (rw carries.4 at are) in
    ap without_sixteen apart.4 ∙ without-append apart.0 apart.1
    ∙ ap (λ (first : List Mark). first ++ without_sixteen apart.1) (step_again past carries.0 step apart.0 ended carries.2 apart.2)
    ∙ ap (λ (rest : List Mark). heard_of step ++ rest) (again (past ++ carries.0) carries.1 steps apart.1 (step_ends past carries.0 step ended carries.2) carries.3 apart.3)

all_end : (past line : List Bool) (steps : List Step) → IsFlagEnd past → Carries steps line → IsFlagEnd (past ++ line)
all_end past line [] ended none =
    let here : past ≡ past ++ [] = sym (append-nil past) in
    rw none (rw here at ended)
all_end past line (step ∷ steps) ended carries =
    let moved : (past ++ carries.0) ++ carries.1 ≡ past ++ (carries.0 ++ carries.1) = append_assoc past carries.0 carries.1 in
    rw carries.4 (rw moved at (all_end (past ++ carries.0) carries.1 steps (step_ends past carries.0 step ended carries.2) carries.3))

pub again_so_far : (past line : List Bool) (steps : List Step) (marks : List Mark) → IsFlagEnd past → SoFar steps line → AreMarks past line marks
    → without_sixteen marks ≡ all_heard steps
again_so_far past line steps marks ended far are =
    let apart = marks_apart past far.front far.part marks (rw far.split at are) in
    let begun = far.begun in
    let part = all_no_units (past ++ far.front) far.part (all_end past far.front steps ended far.carries)
    (step_calm far.part begun.rest begun.whole begun.step begun.puts begun.split begun.more) apart.1 apart.3 in
    ap without_sixteen apart.4 ∙ without-append apart.0 apart.1 ∙ ap (λ (rest : List Mark). without_sixteen apart.0 ++ rest) part.0
    ∙ append-nil (without_sixteen apart.0) ∙ again past far.front steps apart.0 ended far.carries apart.2

pub damage : IsFlagEnd [] → IsAligned [] → (line damaged behind : List Bool) (before after : List Step) (marks : List Mark) → SoFar before line
    → SoFar after behind → AreMarks [] (line ++ (damaged ++ (flag ++ behind))) marks → AreDamaged before after line damaged marks
damage ended aligned line damaged behind before after marks far begun are =
    let moved : damaged ++ (flag ++ behind) ≡ (damaged ++ flag) ++ behind = sym (append_assoc damaged flag behind) in
    let apart = marks_apart [] line ((damaged ++ flag) ++ behind) marks (rw moved at are) in
    let second = marks_apart line (damaged ++ flag) behind apart.1 apart.3 in
    let whole : line ++ (damaged ++ flag) ≡ (line ++ damaged) ++ flag = sym (append_assoc line damaged flag) in
    record {
      there = second.0;
      later = second.1;
      all = apart.4 ∙ ap (λ (first : List Mark). first ++ apart.1) (marks_alone [] line apart.0 (all_heard before) apart.2 (heard_so_far [] line before ended aligned far))
          ∙ ap (λ (rest : List Mark). all_heard before ++ rest) second.4;
      are_there = second.2;
      are_later = again_so_far (line ++ (damaged ++ flag)) behind after second.1 (rw whole (flag_ends (line ++ damaged))) begun second.3;
    }

abbrev Sealed : List Bool → List Bool → List ℕ → Type 0
Sealed past bits octets = (a b : List Bool) × (bit : Bool) × (bits ≡ a ++ bit ∷ b) × EndsGood (past ++ a) bit octets

sealed_later : (past bits : List Bool) (bit : Bool) (octets : List ℕ) → Sealed (past ++ bit ∷ []) bits octets → Sealed past (bit ∷ bits) octets
sealed_later past bits bit octets rest =
    let moved : (past ++ bit ∷ []) ++ rest.0 ≡ past ++ bit ∷ rest.0 = append_assoc past (bit ∷ []) rest.0 in
    (bit ∷ rest.0, rest.1, rest.2, ap (λ (all : List Bool). bit ∷ all) rest.3, rw moved at rest.4)

sealed_by : (past bits : List Bool) (bit : Bool) (octets : List ℕ) (mark : Option Mark) (front more all : List Mark) → IsMark past bit mark
    → front ++ Good (record { items = octets }) ∷ more ≡ option_to_list mark ++ all
    → ((f : List Mark) → all ≡ f ++ Good (record { items = octets }) ∷ more → Sealed (past ++ bit ∷ []) bits octets) → Sealed past (bit ∷ bits) octets
sealed_by past bits bit octets None front more all is same later = sealed_later past bits bit octets (later front (sym same))
sealed_by past bits bit octets (Some mark) (x ∷ front) more all is same later =
    let rest : front ++ Good (record { items = octets }) ∷ more ≡ all = cc in
    sealed_later past bits bit octets (later front (sym rest))
sealed_by past bits bit octets (Some mark) [] more all is same later =
    let here : Good (record { items = octets }) ≡ mark = cc in
    let past_here : past ≡ past ++ [] = sym (append-nil past) in
    let unit : IsMark past bit (Some (Good (record { items = octets }))) = rw (sym here) at is in
    ([], bits, bit, refl, rw past_here at unit)

pub sealed : (past bits : List Bool) (octets : List ℕ) (first more : List Mark) → AreMarks past bits (first ++ Good (record { items = octets }) ∷ more)
    → (a b : List Bool) × (bit : Bool) × (bits ≡ a ++ bit ∷ b) × EndsGood (past ++ a) bit octets
sealed past [] octets first more none = absurd (omega (arith, ap length none, length-append first (Good (record { items = octets }) ∷ more)))
sealed past (bit ∷ bits) octets first more are =
    sealed_by past bits bit octets are.0 first more are.1 are.2 are.4 (λ front same. sealed (past ++ bit ∷ []) bits octets front more (rw same at are.3))
