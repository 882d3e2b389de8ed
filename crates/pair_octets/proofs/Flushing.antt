-- A READY LINK IS FLUSHED (`each_ready_link_is_flushed`): while fewer turns of it went than a proving period lasts, it waits (`waits_on`,
-- by term_late). So it took 4,096 octets since, more than were under way (`under_way_few`) and than what was left of a begun unit; and
-- the marks of the octets that hold the first units are theirs (`first_heard`).
use Rattle.std.proofs.Common.{refl, sym, ap, subst, arith, ◌≡◌, ◌∙◌, ◌<◌, ◌≤◌, ◌==◌, ◌≢◌, ◌&&◌, ◌⊎◌, inl, inr, ℕ, zero, suc, ◌+◌, ◌*◌, Bool, true, false, not, List, [], ◌∷◌, ◌++◌, length, map, All, Option, Some, slice_get, slice_set, if◌then◌else◌, append_assoc}
use Rattle.std.proofs.lemmas.List.{length-append, map-append}
use Rattle.std.proofs.lemmas.Bool.Decides.{nat_tests}
use Rattle.std.proofs.lemmas.Grind.{flat_map-append}
use Rattle.std.proofs.lemmas.Option.{same_Some}
use Rattle.std.specs.Option.{option_to_list}
use Rattle.l2_bits.specs.declared.marks.Mark.{Mark}
use Rattle.l2_bits.specs.Flags.{flag}
use Rattle.l2_bits.specs.LineBits.{line_bits}
use Rattle.l2_bits.specs.Marks.{AreMarks}
use Rattle.l2_bits.proofs.FlagLemmas.{flag_first}
use Rattle.l2_bits.proofs.MarkLemmas.{marks_alone}
use Rattle.l2_bits.proofs.OctetLemmas.{length-line_bits, line_bits-append}
use Rattle.l2_bits.proofs.StuffingLemmas.{one_text}
use Rattle.l2_units.specs.declared.unit.Unit.{Unit as SignalUnit}
use Rattle.term_laws.specs.Carrying.{Step, whole_flag, Carries, all_heard}
use Rattle.term_laws.specs.HeardLaws.{IsSendable, steps_of}
use Rattle.term_laws.proofs.CarryingLemmas.{heard}
use Rattle.term_laws.proofs.Heard.{aligned, read_heard, units_carried}
use Rattle.term_model.specs.Hearing.{unit_in}
use Rattle.term_model.specs.LineLaws.{AreOnLine, CarriesUnits}
use Rattle.term_model.specs.Runs.{Doing, marks_of, octets_in, octets_out, units_of}
use Rattle.pair_octets.specs.Wires.{Wires, Sides, CommandsIf, Happen, Happens, TakesTurn, idle_line, is_refused, seen_from}
use Rattle.link_term.specs.States.{state_of}
use Rattle.set_model.specs.State.{State}
use Rattle.set_model.proofs.Lists.{get_set_other, get_set_same, present, within}
use Rattle.std.proofs.lemmas.Bool.{eqb-true}
use Rattle.term_bench.specs.Ends.{AtLink, BenchState, told_at}
use Rattle.term_bench.specs.Late.{ended_at, ended_from, is_out, was_late}
use Rattle.term_bench.proofs.BenchLemmas.{there_is}
use Rattle.term_late.specs.Late.{Waits, is_before}
use Rattle.term_late.proofs.Late.{takes_its_time}
use Rattle.term_model.specs.Terminal.{Terminal}
use Rattle.term_model.specs.declared.command.Command.{Command}
use Rattle.pair_steps.specs.declared.step.End.{End}
use Rattle.pair_steps.specs.declared.step.End.TheVariants.{A, B}
use Rattle.pair_octets.specs.Flushed.{AreAllHeard, AreShort, EachReadyLinkIsFlushed}
use Rattle.pair_octets.specs.Passing.{all_turns, doing_in, is_same, turns_if, turns_in}
use Rattle.pair_octets.specs.declared.step.LineLengths.{LineLengths}
use Rattle.pair_octets.specs.declared.step.WireStep.{WireStep}
use Rattle.pair_octets.specs.declared.step.WireStep.TheVariants.{Turn, Command as CommandStep, Ask, Damage}
use Rattle.pair_octets.proofs.OneEnd.{did_by}
use Rattle.pair_octets.proofs.Passing.{IsPassing, flips, idle_of, passes, run_passes}
use Rattle.pair_octets.proofs.Hearing.{flags_and, idle_carries}

-- LISTS.
-- of two fronts of a list the longer one begins with the other
longer : {X : Type 0} (xs ys zs ws : List X) → xs ++ ys ≡ zs ++ ws → length xs ≤ length zs → (more : List X) × (zs ≡ xs ++ more)
longer [] ys zs ws same short = (zs, refl)
longer (x ∷ xs) ys [] ws same short = absurd (omega (arith, short))
longer (x ∷ xs) ys (z ∷ zs) ws same short =
    let here : x ≡ z = cc in
    let rest : xs ++ ys ≡ zs ++ ws = cc in
    let more = longer xs ys zs ws rest (omega (arith, short)) in
    (more.0, ap (λ y. y ∷ zs) (sym here) ∙ ap (λ l. x ∷ l) more.1)

-- MARKS of some bits and of those behind them
record Parted (past bits more : List Bool) (marks : List Mark) : Type 0 where
  pub first : List Mark
  pub later : List Mark
  pub are_first : AreMarks past bits first
  pub all : marks ≡ first ++ later

parted : (past bits more : List Bool) (marks : List Mark) → AreMarks past (bits ++ more) marks → Parted past bits more marks
parted past [] more marks are = record { first = []; later = marks; are_first = refl; all = refl }
parted past (bit ∷ bits) more marks are =
    let rest = parted (past ++ bit ∷ []) bits more are.1 are.3 in record {
      first = option_to_list are.0 ++ rest.first;
      later = rest.later;
      are_first = (are.0, rest.first, are.2, rest.are_first, refl);
      all = are.4 ∙ ap (λ (ms : List Mark). option_to_list are.0 ++ ms) rest.all ∙ sym (append_assoc (option_to_list are.0) rest.first rest.later);
    }

-- UNITS ON A LINE have one text
pub on_alone : (units : List SignalUnit) (a b : List Bool) → AreOnLine units a → AreOnLine units b → a ≡ b
on_alone [] a b x y = x ∙ sym y
on_alone (unit ∷ units) a b x y =
    x.4 ∙ ap (λ (w : List Bool). (w ++ flag) ++ x.1) (one_text _ x.0 y.0 x.2 y.2)
    ∙ ap (λ (l : List Bool). (y.0 ++ flag) ++ l) (on_alone units x.1 y.1 x.3 y.3) ∙ sym y.4

-- of some units, the first ones
pub on_front : (first later : List SignalUnit) (line : List Bool) → AreOnLine (first ++ later) line
    → (front back : List Bool) × AreOnLine first front × (line ≡ front ++ back)
on_front [] later line on = ([], line, refl, refl)
on_front (unit ∷ first) later line on =
    let rest = on_front first later on.1 on.3 in (
      (on.0 ++ flag) ++ rest.0,
      rest.1,
      (on.0, rest.0, on.2, rest.2, refl),
      on.4 ∙ ap (λ (l : List Bool). (on.0 ++ flag) ++ l) rest.3 ∙ sym (append_assoc (on.0 ++ flag) rest.0 rest.1),
    )

length-idle : (n : ℕ) → length (idle_line n) ≡ n
length-idle zero = refl
length-idle (suc n) = ap suc (length-idle n)

flags_heard : (n : ℕ) (steps : List Step) → all_heard (flags_and n steps) ≡ all_heard steps
flags_heard zero steps = refl
flags_heard (suc n) steps = flags_heard n steps

-- THE FIRST UNITS ARE HEARD once so many octets were taken as hold them and the flags before them.
pub record AllHeard (units : List SignalUnit) (marks : List Mark) : Type 0 where
  pub later : List (Option SignalUnit)
  pub heard_are : map unit_in marks ≡ map (λ unit. Some unit) units ++ later

pub first_heard : (idle : ℕ) (first later : List SignalUnit) (put put_then taken line : List ℕ) (left left_then : List Bool) (marks : List Mark)
    → CarriesUnits first put flag left → CarriesUnits (first ++ later) put_then flag left_then → All IsSendable first
    → idle_line idle ++ put_then ≡ taken ++ line → AreMarks [] (line_bits taken) marks
    → 8 * (idle + length put) + length left ≤ 8 * length taken → AllHeard first marks
first_heard idle first later put put_then taken line left left_then marks on on_then all same are enough =
    let two = on_front first later on_then.line on_then.on_line in
    let front : two.0 ≡ on.line = on_alone first two.0 on.line two.2 on.on_line in
    let flags = line_bits (idle_line idle) in
    let held = flags ++ (flag ++ on.line) in
    let whole : held ++ two.1 ≡ line_bits taken ++ (line_bits line ++ left_then) =
    append_assoc flags (flag ++ on.line) two.1
    ∙ ap (λ (bits : List Bool). flags ++ bits) (append_assoc flag on.line two.1
    ∙ ap (λ (bits : List Bool). flag ++ (bits ++ two.1)) (sym front) ∙ ap (λ (bits : List Bool). flag ++ bits) (sym two.3) ∙ on_then.same)
    ∙ sym (append_assoc flags (line_bits put_then) left_then)
    ∙ ap (λ (bits : List Bool). bits ++ left_then) (sym (line_bits-append (idle_line idle) put_then))
    ∙ ap (λ (os : List ℕ). line_bits os ++ left_then) same
    ∙ ap (λ (bits : List Bool). bits ++ left_then) (line_bits-append taken line)
    ∙ append_assoc (line_bits taken) (line_bits line) left_then in
    let short : length held ≤ length (line_bits taken) =
    omega (
      arith,
      enough,
      length-append flags (flag ++ on.line),
      length-line_bits (idle_line idle),
      length-idle idle,
      ap length on.same,
      length-append (line_bits put) left,
      length-line_bits put,
      length-line_bits taken,
    ) in
    let more = longer held two.1 (line_bits taken) (line_bits line ++ left_then) whole short in
    let cut = parted [] held more.0 marks (subst (λ (bits : List Bool). AreMarks [] bits marks) more.1 are) in
    let steps = flags_and idle (whole_flag ∷ steps_of first) in
    let carries : Carries steps held = idle_carries idle (whole_flag ∷ steps_of first) (flag ++ on.line) (flag, on.line, refl, units_carried first on.line all on.on_line, refl) in
    let are_first : cut.first ≡ all_heard (steps_of first) =
    marks_alone [] held cut.first (all_heard steps) cut.are_first (heard [] held steps flag_first aligned carries) ∙ flags_heard idle (whole_flag ∷ steps_of first) in record {
      later = map unit_in cut.later;
      heard_are = ap (λ (ms : List Mark). map unit_in ms) cut.all ∙ map-append unit_in cut.first cut.later
          ∙ ap (λ (us : List (Option SignalUnit)). us ++ map unit_in cut.later) (ap (λ (ms : List Mark). map unit_in ms) are_first ∙ read_heard first all);
    }

-- EACH TURN takes an octet and puts one.
abbrev pub TakesEach : List Doing → Type 0
TakesEach ds = (length (octets_in ds) ≡ length ds) × (length (octets_out ds) ≡ length ds)

each_of_both : (xs ys : List Doing) → TakesEach xs → TakesEach ys → TakesEach (xs ++ ys)
each_of_both xs ys a b = (
  omega (
    arith,
    a.0,
    b.0,
    length-append xs ys,
    ap length (flat_map-append (λ (d : Doing). option_to_list d.octet) xs ys),
    length-append (octets_in xs) (octets_in ys),
  ),
  omega (
    arith,
    a.1,
    b.1,
    length-append xs ys,
    ap length (flat_map-append (λ (d : Doing). d.put) xs ys),
    length-append (octets_out xs) (octets_out ys),
  ),
)

each_if : (is : Bool) (link : ℕ) (old new : Sides) (takes : TakesTurn link old new) → TakesEach (turns_if is (doing_in link old new takes))
each_if true link old new takes = (refl, refl)
each_if false link old new takes = (refl, refl)

pub each_step : (end : End) (link : ℕ) (step : WireStep) (old new : Wires) (happens : Happens step old new) → TakesEach (turns_in end link step old new happens)
each_step end link (Turn e l) old new takes = each_if (is_same end e && (link == l)) l _ _ takes
each_step end link (CommandStep e l command) old new happens = (refl, refl)
each_step end link (Ask e who event) old new happens = (refl, refl)
each_step end link (Damage e l place octet) old new happens = (refl, refl)

each_turn : (end : End) (link : ℕ) (steps : List WireStep) (old new : Wires) (happen : Happen steps old new) → TakesEach (all_turns end link steps old new happen)
each_turn end link [] old new happen = (refl, refl)
each_turn end link (step ∷ steps) old new happen =
    each_of_both (turns_in end link step old happen.0 happen.1) (all_turns end link steps happen.0 new happen.2)
    (each_step end link step old happen.0 happen.1) (each_turn end link steps happen.0 new happen.2)

-- A LINK WAITS as long as a proving period is ahead.
abbrev pub WaitsAt : ℕ → ℕ → List AtLink → Type 0
WaitsAt n link links = (now : AtLink) × (slice_get links link ≡ Some now) × Waits n now.terminal

told_one : (n k : ℕ) (s t : State) (at : AtLink) → Waits n at.terminal → Waits n (ended_at k s t at).terminal
told_one n k s t at w = go (was_late k s t && not (is_out (state_of at.terminal)))
  where
    go : (b : Bool) → Waits n (if b then told_at Command.Stop at else at).terminal
    go true = takes_its_time.told_waits n Command.Stop at.terminal w
    go false = w

ended_wait : (n k : ℕ) (s t : State) (links : List AtLink) (link : ℕ) (at : AtLink) → slice_get links link ≡ Some at → Waits n at.terminal
    → WaitsAt n link (ended_from k s t links)
ended_wait n k s t [] link at there w = absurd cc
ended_wait n k s t (x ∷ links) zero at there w =
    (ended_at k s t x, refl, told_one n k s t x (subst (λ (a : AtLink). Waits n a.terminal) (sym (same_Some x at there)) w))
ended_wait n k s t (x ∷ links) (suc link) at there w = ended_wait n (suc k) s t links link at there w

zero_more : (n : ℕ) (t : Terminal) → Waits (0 + n) t → Waits n t
zero_more n t w = let same : 0 + n ≡ n = omega arith in subst (λ k. Waits k t) same w

near_turn_waits : (link l : ℕ) (old new : Sides) (takes : TakesTurn l old new) (n : ℕ) (was : AtLink) → slice_get old.near.links link ≡ Some was
    → 1 ≤ n → length (turns_if (link == l) (doing_in l old new takes)) + n ≤ 4096
    → Waits (length (turns_if (link == l) (doing_in l old new takes)) + n) was.terminal → WaitsAt n link new.near.links
near_turn_waits link l old new takes n was there some few w =
    subst (λ (ls : List AtLink). WaitsAt n link ls) (sym takes.turns.links_are) (go (link == l) refl few w)
  where
    doing : Doing
    doing = doing_in l old new takes

    go : (b : Bool) → (link == l) ≡ b → length (turns_if b doing) + n ≤ 4096 → Waits (length (turns_if b doing) + n) was.terminal
        → WaitsAt n link (ended_from 0 old.near.set.state new.near.set.state (slice_set old.near.links l takes.turns.now))
    go true is few w =
        let same : link ≡ l = eqb-true link l is in
        let at : was ≡ takes.turns.was = same_Some was takes.turns.was (sym there ∙ ap (λ k. slice_get old.near.links k) same ∙ takes.turns.is_at) in
        let did = did_by takes.octet _ old.near.set.state new.near.set.state takes.turns.was takes.turns.now takes.turn.put takes.turns.takes.entries takes.unit takes.turns.takes.by_octet in
        let waited = takes_its_time.turns_wait (doing ∷ []) n (line_bits takes.turns.was.heard) takes.turns.was.terminal takes.turns.now.terminal some few
        (subst (λ (a : AtLink). Waits (length (doing ∷ []) + n) a.terminal) at w) (takes.turns.now.terminal, did, refl) in
        let set : slice_get (slice_set old.near.links l takes.turns.now) link ≡ Some takes.turns.now =
        ap (λ k. slice_get (slice_set old.near.links l takes.turns.now) k) same
        ∙ get_set_same old.near.links l takes.turns.now (within old.near.links l takes.turns.was takes.turns.is_at) in
        ended_wait n 0 old.near.set.state new.near.set.state (slice_set old.near.links l takes.turns.now) link takes.turns.now set waited.waits
    go false is few w =
        let apart : l ≢ link = λ e. grind (arith, nat_tests, is, e) in
        let set : slice_get (slice_set old.near.links l takes.turns.now) link ≡ Some was = get_set_other old.near.links l link takes.turns.now apart ∙ there in
        ended_wait n 0 old.near.set.state new.near.set.state (slice_set old.near.links l takes.turns.now) link was set (zero_more n was.terminal w)

same_waits : (n link : ℕ) (old new : BenchState) (was : AtLink) → new ≡ old → slice_get old.links link ≡ Some was → Waits n was.terminal → WaitsAt n link new.links
same_waits n link old new was same there w = (was, ap (λ (b : BenchState). slice_get b.links link) same ∙ there, w)

links_wait : (n link : ℕ) (old new : BenchState) (was : AtLink) → new.links ≡ old.links → slice_get old.links link ≡ Some was → Waits n was.terminal → WaitsAt n link new.links
links_wait n link old new was same there w = (was, ap (λ (ls : List AtLink). slice_get ls link) same ∙ there, w)

command_waits : (refused : Bool) (n link l : ℕ) (command : Command) (old new : BenchState) (was : AtLink) → CommandsIf refused l command old new
    → slice_get old.links link ≡ Some was → Waits n was.terminal → WaitsAt n link new.links
command_waits true n link l command old new was same there w = same_waits n link old new was same there w
command_waits false n link l command old new was told there w =
    subst (λ (ls : List AtLink). WaitsAt n link ls) (sym told.links_are) (go (link == l) refl)
  where
    go : (b : Bool) → (link == l) ≡ b → WaitsAt n link (slice_set old.links l (told_at command told.was))
    go true is =
        let same : link ≡ l = eqb-true link l is in
        let at : was ≡ told.was = same_Some was told.was (sym there ∙ ap (λ k. slice_get old.links k) same ∙ told.is_at) in (
          told_at command told.was,
          ap (λ k. slice_get (slice_set old.links l (told_at command told.was)) k) same
              ∙ get_set_same old.links l (told_at command told.was) (within old.links l told.was told.is_at),
          takes_its_time.told_waits n command told.was.terminal (subst (λ (a : AtLink). Waits n a.terminal) at w),
        )
    go false is =
        let apart : l ≢ link = λ e. grind (arith, nat_tests, is, e) in
        (was, get_set_other old.links l link (told_at command told.was) apart ∙ there, w)

pub step_waits : (end : End) (link : ℕ) (step : WireStep) (old new : Wires) (happens : Happens step old new) (n : ℕ) (was : AtLink)
    → slice_get (seen_from end old).near.links link ≡ Some was → 1 ≤ n → length (turns_in end link step old new happens) + n ≤ 4096
    → Waits (length (turns_in end link step old new happens) + n) was.terminal → WaitsAt n link (seen_from end new).near.links
step_waits A link (Turn A l) old new takes n was there some few w = near_turn_waits link l _ _ takes n was there some few w
step_waits B link (Turn B l) old new takes n was there some few w = near_turn_waits link l _ _ takes n was there some few w
step_waits A link (Turn B l) old new takes n was there some few w = same_waits n link old.a new.a was takes.far_is there (zero_more n was.terminal w)
step_waits B link (Turn A l) old new takes n was there some few w = same_waits n link old.b new.b was takes.far_is there (zero_more n was.terminal w)
step_waits A link (CommandStep A l command) old new takes n was there some few w =
    command_waits (is_refused l command old.a) n link l command old.a new.a was takes.commands there (zero_more n was.terminal w)
step_waits B link (CommandStep B l command) old new takes n was there some few w =
    command_waits (is_refused l command old.b) n link l command old.b new.b was takes.commands there (zero_more n was.terminal w)
step_waits A link (CommandStep B l command) old new takes n was there some few w = same_waits n link old.a new.a was takes.only.far_is there (zero_more n was.terminal w)
step_waits B link (CommandStep A l command) old new takes n was there some few w = same_waits n link old.b new.b was takes.only.far_is there (zero_more n was.terminal w)
step_waits A link (Ask A who event) old new asked n was there some few w = links_wait n link old.a new.a was asked.links_are there (zero_more n was.terminal w)
step_waits B link (Ask B who event) old new asked n was there some few w = links_wait n link old.b new.b was asked.links_are there (zero_more n was.terminal w)
step_waits A link (Ask B who event) old new asked n was there some few w = same_waits n link old.a new.a was asked.only.far_is there (zero_more n was.terminal w)
step_waits B link (Ask A who event) old new asked n was there some few w = same_waits n link old.b new.b was asked.only.far_is there (zero_more n was.terminal w)
step_waits A link (Damage A l place octet) old new damaged n was there some few w = same_waits n link old.a new.a was damaged.near_is there (zero_more n was.terminal w)
step_waits B link (Damage B l place octet) old new damaged n was there some few w = same_waits n link old.b new.b was damaged.near_is there (zero_more n was.terminal w)
step_waits A link (Damage B l place octet) old new damaged n was there some few w = same_waits n link old.a new.a was damaged.far_is there (zero_more n was.terminal w)
step_waits B link (Damage A l place octet) old new damaged n was there some few w = same_waits n link old.b new.b was damaged.far_is there (zero_more n was.terminal w)

steps_wait : (end : End) (link : ℕ) (steps : List WireStep) (old new : Wires) (happen : Happen steps old new) (n : ℕ) (was : AtLink)
    → slice_get (seen_from end old).near.links link ≡ Some was → 1 ≤ n → length (all_turns end link steps old new happen) + n ≤ 4096
    → Waits (length (all_turns end link steps old new happen) + n) was.terminal → WaitsAt n link (seen_from end new).near.links
steps_wait end link [] old new same n was there some few w =
    subst (λ (v : Wires). WaitsAt n link (seen_from end v).near.links) (sym same) (was, there, zero_more n was.terminal w)
steps_wait end link (step ∷ steps) old new happen n was there some few w =
    let here = turns_in end link step old happen.0 happen.1 in
    let rest = all_turns end link steps happen.0 new happen.2 in
    let sum : length (here ++ rest) + n ≡ length here + (length rest + n) = omega (arith, length-append here rest) in
    let one = step_waits end link step old happen.0 happen.1 (length rest + n) was there (omega (arith, some)) (omega (arith, few, sum))
    (subst (λ k. Waits k was.terminal) sum w) in
    steps_wait end link steps happen.0 new happen.2 n one.0 one.1 some (omega (arith, few, sum)) one.2

-- so many, or fewer
fewer : (n m : ℕ) → ((k : ℕ) × (n + suc k ≡ m)) ⊎ (m ≤ n)
fewer n zero = inr (omega arith)
fewer zero (suc m) = inl (m, omega arith)
fewer (suc n) (suc m) =
    elim (fewer n m) [
      | inl few ↦ inl (few.0, omega (arith, few.1))
      | inr enough ↦ inr (omega (arith, enough))
    ]

many_turns : (end : End) (link : ℕ) (steps : List WireStep) (old new : Wires) (happen : Happen steps old new) (was now : AtLink)
    → slice_get (seen_from end old).near.links link ≡ Some was → Waits 4096 was.terminal → slice_get (seen_from end new).near.links link ≡ Some now
    → is_before now.terminal.state ≡ false → 4096 ≤ length (all_turns end link steps old new happen)
many_turns end link steps old new happen was now there w then_there ready =
    elim (fewer (length (all_turns end link steps old new happen)) 4096) [
      | inl few ↦ absurd (
          let waits = steps_wait end link steps old new happen (suc few.0) was there (omega arith) (omega (arith, few.1))
          (subst (λ k. Waits k was.terminal) (sym few.1) w) in
          let same : waits.0 ≡ now = same_Some waits.0 now (sym waits.1 ∙ then_there) in
          let before : is_before now.terminal.state ≡ true = subst (λ (a : AtLink). is_before a.terminal.state ≡ true) same waits.2.before in
          cc (sym before ∙ ready)
          )
      | inr enough ↦ enough
    ]

-- THE LAW.
pub short_at : (lengths : List LineLengths) → AreShort lengths → (n : ℕ) → idle_of lengths A n + idle_of lengths B n ≤ 3700
short_at [] short n = omega arith
short_at (line ∷ lengths) short zero = short.0
short_at (line ∷ lengths) short (suc n) = short_at lengths short.1 n

near_flushed : (count : ℕ) (near far near_then far_then : ℕ → List Doing) (i j : ℕ → ℕ) (s t : Sides) → IsPassing count near far i j s
    → IsPassing count (λ n. near n ++ near_then n) (λ n. far n ++ far_then n) i j t → (link : ℕ) → link < count → TakesEach (near link)
    → TakesEach (far link) → TakesEach (near_then link) → i link + j link ≤ 3700 → 4096 ≤ length (near_then link)
    → AreAllHeard (far link) (near link ++ near_then link)
near_flushed count near far near_then far_then i j s t p q link below each_near each_far each_then short many =
    let within_of = λ (n : ℕ) (same : n ≡ count). subst (λ k. link < k) (sym same) below in
    let sender = there_is s.far.links link (within_of (length s.far.links) p.far_links) in
    let sender_then = there_is t.far.links link (within_of (length t.far.links) q.far_links) in
    let hearer = there_is t.near.links link (within_of (length t.near.links) q.near_links) in
    let coming = present s.to_near link (within_of (length s.to_near) p.near_lines) in
    let going = present s.to_far link (within_of (length s.to_far) p.far_lines) in
    let coming_then = present t.to_near link (within_of (length t.to_near) q.near_lines) in
    let sends = p.far_end.links link sender.0 sender.1 in
    let sends_then = q.far_end.links link sender_then.0 sender_then.1 in
    let hears = q.near_end.links link hearer.0 hearer.1 in
    let fifo = p.near_line link coming.0 coming.1 in
    let back = p.far_line link going.0 going.1 in
    let taken = flat_map-append (λ (d : Doing). option_to_list d.octet) (near link) (near_then link) in
    let enough : 8 * (i link + length (octets_out (far link))) + length sender.0.terminal.bits ≤ 8 * length (octets_in (near link ++ near_then link)) =
    omega (
      arith,
      sends.few,
      short,
      many,
      each_near.0,
      each_near.1,
      each_far.0,
      each_far.1,
      each_then.0,
      ap length fifo,
      length-append (idle_line (i link)) (octets_out (far link)),
      length-idle (i link),
      length-append (octets_in (near link)) coming.0,
      ap length back,
      length-append (idle_line (j link)) (octets_out (near link)),
      length-idle (j link),
      length-append (octets_in (far link)) going.0,
      ap length taken,
      length-append (octets_in (near link)) (octets_in (near_then link)),
    ) in
    let all = first_heard (i link) (units_of (far link)) (units_of (far_then link)) (octets_out (far link)) (octets_out (far link ++ far_then link))
    (octets_in (near link ++ near_then link)) coming_then.0 sender.0.terminal.bits sender_then.0.terminal.bits (marks_of (near link ++ near_then link))
    sends.carries
    (subst (λ (us : List SignalUnit). CarriesUnits us (octets_out (far link ++ far_then link)) flag sender_then.0.terminal.bits)
    (flat_map-append (λ (d : Doing). option_to_list d.unit) (far link) (far_then link)) sends_then.carries)
    sends.sends (q.near_line link coming_then.0 coming_then.1) hears.marks enough in
    (all.later, all.heard_are)

pub each_ready_link_is_flushed : EachReadyLinkIsFlushed
each_ready_link_is_flushed a b lengths first second mid w run goes_on short on intact A link was now there waits then_there ready =
    let p = run_passes a b lengths first mid run on in
    let q = passes (length lengths) second (λ end n. all_turns end n first _ mid run.happen) (idle_of lengths) mid w goes_on intact p in
    let below : link < length lengths = subst (λ n. link < n) p.near_links (within mid.a.links link was there) in
    near_flushed (length lengths) _ _ (λ n. all_turns A n second mid w goes_on) (λ n. all_turns B n second mid w goes_on) (idle_of lengths A) (idle_of lengths B)
    (seen_from A mid) (seen_from A w) p q link below (each_turn A link first _ mid run.happen) (each_turn B link first _ mid run.happen)
    (each_turn A link second mid w goes_on) (short_at lengths short link) (many_turns A link second mid w goes_on was now there waits then_there ready)
each_ready_link_is_flushed a b lengths first second mid w run goes_on short on intact B link was now there waits then_there ready =
    let p = run_passes a b lengths first mid run on in
    let q = passes (length lengths) second (λ end n. all_turns end n first _ mid run.happen) (idle_of lengths) mid w goes_on intact p in
    let below : link < length lengths = subst (λ n. link < n) p.far_links (within mid.b.links link was there) in
    let sum : idle_of lengths B link + idle_of lengths A link ≤ 3700 = omega (arith, short_at lengths short link) in
    near_flushed (length lengths) _ _ (λ n. all_turns B n second mid w goes_on) (λ n. all_turns A n second mid w goes_on) (idle_of lengths B) (idle_of lengths A)
    (seen_from B mid) (seen_from B w) (flips (length lengths) _ _ (idle_of lengths A) (idle_of lengths B) (seen_from A mid) p)
    (flips (length lengths) _ _ (idle_of lengths A) (idle_of lengths B) (seen_from A w) q) link below
    (each_turn B link first _ mid run.happen) (each_turn A link first _ mid run.happen) (each_turn B link second mid w goes_on) sum
    (many_turns B link second mid w goes_on was now there waits then_there ready)
