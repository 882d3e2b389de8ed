-- Damaged stretches of a line, one after another
use Rattle.std.proofs.Common.{◌≡◌, ℕ, Bool, List, [], ◌∷◌, ◌++◌, refl, ap, sym, ◌∙◌, subst, append_assoc}
use Rattle.std.proofs.lemmas.Grind.{flat_map-append}
use Rattle.std.specs.List.{flat_map}
use Rattle.l2_bits.specs.declared.marks.Mark.{Mark}
use Rattle.l2_bits.specs.declared.marks.Mark.TheVariants.{Good, Bad, Sixteen}
use Rattle.l2_bits.specs.Flags.{flag, IsFlagEnd}
use Rattle.l2_bits.specs.Marks.{AreMarks}
use Rattle.term_laws.specs.Carrying.{Step, signal_unit, whole_flag, shared_flag, SoFar, all_heard, without_sixteen}
use Rattle.term_laws.specs.Damage.{Stretch, Unended, bits_in, AreKept, all_sent, sent_by, good_in, AreSome, nothing, one, another, ShowsAsLoss, damaged_line, steps_in, steps_by_then}
use Rattle.term_laws.proofs.CarryingLemmas.{marks_apart, again_so_far, flag_ends}

all_some : (all : List (List ℕ)) → AreSome all all
all_some [] = nothing refl
all_some (octets ∷ all) = one octets refl refl (all_some all)

after_more : (before some all : List (List ℕ)) → AreSome some all → AreSome some (before ++ all)
after_more [] some all are = are
after_more (octets ∷ before) some all are = another octets refl (after_more before some all are)

pub some-append : (a b c d : List (List ℕ)) → AreSome a b → AreSome c d → AreSome (a ++ c) (b ++ d)
some-append a b c d (nothing none) more = subst (λ few. AreSome (few ++ c) (b ++ d)) (sym none) (after_more b c d more)
some-append a b c d (one octets {more = rest} {rest = others} here there inner) more =
    one octets (ap (λ few. few ++ c) here) (ap (λ all. all ++ d) there) (some-append rest others c d inner more)
some-append a b c d (another octets {rest = others} there inner) more =
    another octets (ap (λ all. all ++ d) there) (some-append a others c d inner more)

good-append : (a b : List Mark) → good_in (a ++ b) ≡ good_in a ++ good_in b
good-append [] b = refl
good-append (Good octets ∷ a) b = ap (λ all. octets.items ∷ all) (good-append a b)
good-append (Bad ∷ a) b = good-append a b
good-append (Sixteen ∷ a) b = good-append a b

good_without : (marks : List Mark) → good_in (without_sixteen marks) ≡ good_in marks
good_without [] = refl
good_without (Good octets ∷ marks) = ap (λ all. octets.items ∷ all) (good_without marks)
good_without (Bad ∷ marks) = good_without marks
good_without (Sixteen ∷ marks) = good_without marks

good_heard : (steps : List Step) → good_in (all_heard steps) ≡ all_sent steps
good_heard [] = refl
good_heard (signal_unit octets ∷ steps) = ap (λ all. octets ∷ all) (good_heard steps)
good_heard (whole_flag ∷ steps) = good_heard steps
good_heard (shared_flag ∷ steps) = good_heard steps

-- the good ones of steps that came as they were sent
good_kept : (past line : List Bool) (steps : List Step) (marks : List Mark) → IsFlagEnd past → SoFar steps line → AreMarks past line marks
    → AreSome (good_in marks) (all_sent steps)
good_kept past line steps marks ended far are =
    let same : good_in marks ≡ all_sent steps =
    sym (good_without marks) ∙ ap (λ m. good_in m) (again_so_far past line steps marks ended far are) ∙ good_heard steps in
    subst (λ few. AreSome few (all_sent steps)) (sym same) (all_some (all_sent steps))

sent_then : (a b : List Step) → all_sent a ++ all_sent b ≡ all_sent (a ++ b)
sent_then a b = sym (flat_map-append sent_by a b)

stretches_some : (past : List Bool) (stretches : List Stretch) (unended : Unended) (marks : List Mark) → AreKept stretches
    → ShowsAsLoss past stretches unended → AreMarks past (flat_map bits_in stretches ++ unended.damaged) marks
    → AreSome (good_in marks) (all_sent (flat_map steps_in stretches ++ unended.touched))
stretches_some past [] unended marks kept shows are = shows marks are
stretches_some past (stretch ∷ stretches) unended marks kept shows are =
    let damaged = stretch.damaged ++ flag in
    let rest = flat_map bits_in stretches ++ unended.damaged in
    let moved : flat_map bits_in (stretch ∷ stretches) ++ unended.damaged ≡ bits_in stretch ++ rest =
    append_assoc (bits_in stretch) (flat_map bits_in stretches) unended.damaged in
    let apart = marks_apart past (bits_in stretch) rest marks (subst (λ bits. AreMarks past bits marks) moved are) in
    let first = marks_apart past damaged stretch.line apart.0 apart.2 in
    let whole : (past ++ stretch.damaged) ++ flag ≡ past ++ damaged = append_assoc past stretch.damaged flag in
    let ended : IsFlagEnd (past ++ damaged) = subst (λ bits. IsFlagEnd bits) whole (flag_ends (past ++ stretch.damaged)) in
    let later : List Step = flat_map steps_in stretches ++ unended.touched in
    let sent : (all_sent stretch.touched ++ all_sent stretch.kept) ++ all_sent later
    ≡ all_sent (flat_map steps_in (stretch ∷ stretches) ++ unended.touched) =
    ap (λ all. all ++ all_sent later) (sent_then stretch.touched stretch.kept) ∙ sent_then (steps_in stretch) later
    ∙ ap (λ steps. all_sent steps) (sym (append_assoc (steps_in stretch) (flat_map steps_in stretches) unended.touched)) in
    let here : AreSome (good_in first.0 ++ good_in first.1) (all_sent stretch.touched ++ all_sent stretch.kept) =
    some-append (good_in first.0) (all_sent stretch.touched) (good_in first.1) (all_sent stretch.kept) (shows.0 first.0 first.2)
    (good_kept (past ++ damaged) stretch.line stretch.kept first.1 ended kept.0 first.3) in
    let all : good_in marks ≡ (good_in first.0 ++ good_in first.1) ++ good_in apart.1 =
    ap (λ m. good_in m) apart.4 ∙ good-append apart.0 apart.1
    ∙ ap (λ few. few ++ good_in apart.1) (ap (λ m. good_in m) first.4 ∙ good-append first.0 first.1) in
    subst (λ sent. AreSome (good_in marks) sent) sent
    (subst (λ few. AreSome few ((all_sent stretch.touched ++ all_sent stretch.kept) ++ all_sent later)) (sym all)
    (some-append (good_in first.0 ++ good_in first.1) (all_sent stretch.touched ++ all_sent stretch.kept) (good_in apart.1) (all_sent later) here
    (stretches_some (past ++ bits_in stretch) stretches unended apart.1 kept.1 shows.1 apart.3)))

pub some_heard : IsFlagEnd [] → (line : List Bool) (steps : List Step) (stretches : List Stretch) (unended : Unended) (marks : List Mark)
    → SoFar steps line → AreKept stretches → ShowsAsLoss line stretches unended → AreMarks [] (damaged_line line stretches unended) marks
    → AreSome (good_in marks) (all_sent (steps_by_then steps stretches unended))
some_heard ended line steps stretches unended marks far kept shows are =
    let later : List Step = flat_map steps_in stretches ++ unended.touched in
    let apart = marks_apart [] line (flat_map bits_in stretches ++ unended.damaged) marks are in
    subst (λ sent. AreSome (good_in marks) sent) (sent_then steps later)
    (subst (λ few. AreSome few (all_sent steps ++ all_sent later)) (sym (ap (λ m. good_in m) apart.4 ∙ good-append apart.0 apart.1))
    (some-append (good_in apart.0) (all_sent steps) (good_in apart.1) (all_sent later) (good_kept [] line steps apart.0 ended far apart.2)
    (stretches_some line stretches unended apart.1 kept shows apart.3)))
