-- EVERY SOUND RUN THROUGH NOISE CARRIES STREAMS (`carries_through_noise`): since damage shows as loss, what is heard is plain
-- (`steps_plain`); and a unit has come when its last bit has, so a link that has aligned, a proving period later, has nothing of
-- old under way to it (`placed_on`). So its units take a course (`noisy_course`), as on intact lines (Carrying.antt).
use Rattle.std.proofs.Common.{refl, arith, ap, sym, subst, ◌≡◌, ◌∙◌, ◌<◌, ◌≤◌, ◌-◌, ◌==◌, ◌&&◌, ◌+◌, ◌*◌, ◌⊎◌, inl, inr, ℕ, zero, suc, Bool, true, false, List, [], ◌∷◌, ◌++◌, length, map, take, drop, All, Option, Some, None, slice_get, append-nil}
use Rattle.std.proofs.lemmas.Grind.{flat_map-append}
use Rattle.std.proofs.lemmas.List.{length-append, length-drop, length-map, length-replicate}
use Rattle.std.proofs.lemmas.List.Elements.{All-cons, All-head, All-nil, All-tail}
use Rattle.std.proofs.lemmas.Option.{same_Some}
use Rattle.std.specs.Option.{option_to_list}
use Rattle.l2_bits.specs.declared.marks.Mark.{Mark}
use Rattle.l2_units.specs.declared.unit.Unit.{Unit as SignalUnit}
use Rattle.set_model.specs.History.{entries_in, longest_history}
use Rattle.set_model.proofs.Lists.{at_map, present}
use Rattle.term_asks.specs.Asking.{ArePlain, IsPlainOne}
use Rattle.term_asks.specs.Plain.{IsPlainUnit}
use Rattle.term_bench.specs.Ends.{AtLink}
use Rattle.term_bench.proofs.BenchLemmas.{there_is}
use Rattle.term_late.specs.Late.{Waits}
use Rattle.term_model.specs.Runs.{Doing, marks_of, units_of}
use Rattle.pair_steps.specs.declared.step.End.{End}
use Rattle.pair_steps.specs.declared.step.End.TheVariants.{A, B}
use Rattle.pair_octets.specs.Flushed.{AreShort}
use Rattle.pair_octets.specs.Passing.{IsNarrowEnd, all_turns, doing_in, is_same, other, turns_if, turns_in}
use Rattle.pair_octets.specs.Streams.{AreSound, IsSoundStep}
use Rattle.pair_octets.specs.Wires.{Wires, Sides, Happen, Happens, idle_line, is_refused, new_wires, seen_from}
use Rattle.pair_octets.specs.declared.step.EndConfig.{EndConfig}
use Rattle.pair_octets.specs.declared.step.LineLengths.{LineLengths}
use Rattle.pair_octets.specs.declared.step.WireStep.{WireStep}
use Rattle.pair_octets.specs.declared.step.WireStep.TheVariants.{Turn, Command as CommandStep, Ask, Damage}
use Rattle.pair_octets.proofs.CalmSteps.{each_status_is_plain}
use Rattle.pair_octets.proofs.Flushing.{step_waits}
use Rattle.pair_octets.proofs.OneEnd.{IsEnd}
use Rattle.pair_octets.proofs.Passing.{asked_end, end_same, new_end_is, told_so, turn_end}
use Rattle.pair_wires.specs.Carrying.{CarriesThroughNoise, EveryRunThroughNoiseCarriesStreams}
use Rattle.pair_wires.specs.Noise.{AreApart, IfTurnHearsSome, IsApart, Place, Places, ShowsAsLoss, bits_left, come_by, coming_in, counts_of, first_places, length_to, place_by, places_after}
use Rattle.pair_wires.specs.Turning.{AtEachTurn, IfTurn}
use Rattle.pair_wires.specs.Ways.{AreFlushed, Carried, HearsSome, no_more, is_bad, is_lost, is_good, Way, Ways, carried_in, is_marked, joined_by, left_by, no_ways, sent_by, sent_in, ways_by}
use Rattle.pair_wires.proofs.Carrying.{IfTurnComes, IsCourse, arrive}
use Rattle.pair_wires.proofs.Flushed.{IsMarked, count_at, each_at, first_marked, in_range, not_before, settled_fresh, unmarks, unsettled_old, waits_out}
use Rattle.pair_wires.proofs.Places.{FirstWithin, AllWithin, bits_step, come_first, first_of, first_on, first_weaker, line_on, line_steps, many_lines, many_on, within_on}
use Rattle.pair_wires.proofs.Starting.{AllPlain, AreSo, calm_steps, links_few, plain_parts, so_first, step_so}
use Rattle.pair_wires.proofs.Turning.{all_ask}
use Rattle.pair_wires.proofs.Ways.{carried_on}

-- PLAIN UNITS
abbrev ArePlainUnits : List Carried → Type 0
ArePlainUnits [] = Unit {0}
ArePlainUnits (c ∷ cs) = IsPlainUnit c.unit × ArePlainUnits cs

plain_take : (n : ℕ) (cs : List Carried) → ArePlainUnits cs → ArePlainUnits (take n cs)
plain_take zero cs plain = tt
plain_take (suc n) [] plain = tt
plain_take (suc n) (c ∷ cs) plain = (plain.0, plain_take n cs plain.1)

plain_drop : (n : ℕ) (cs : List Carried) → ArePlainUnits cs → ArePlainUnits (drop n cs)
plain_drop zero cs plain = plain
plain_drop (suc n) [] plain = tt
plain_drop (suc n) (c ∷ cs) plain = plain_drop n cs plain.1

plain_both : (xs ys : List Carried) → ArePlainUnits xs → ArePlainUnits ys → ArePlainUnits (xs ++ ys)
plain_both [] ys x y = y
plain_both (c ∷ xs) ys x y = (x.0, plain_both xs ys x.1 y)

sent_plain : (unit : Option SignalUnit) (given : Bool) → All IsPlainUnit (option_to_list unit)
    → ArePlainUnits (map (λ (u : SignalUnit). let c : Carried = record { unit = u; given = given } in c) (option_to_list unit))
sent_plain None given all = tt
sent_plain (Some unit) given all = (All-head IsPlainUnit unit [] all, tt)

all_front : (xs ys : List SignalUnit) → All IsPlainUnit (xs ++ ys) → All IsPlainUnit xs
all_front [] ys all = All-nil IsPlainUnit
all_front (x ∷ xs) ys all = All-cons IsPlainUnit x xs (All-head IsPlainUnit x (xs ++ ys) all) (all_front xs ys (All-tail IsPlainUnit x (xs ++ ys) all))

all_back : (xs ys : List SignalUnit) → All IsPlainUnit (xs ++ ys) → All IsPlainUnit ys
all_back [] ys all = all
all_back (x ∷ xs) ys all = all_back xs ys (All-tail IsPlainUnit x (xs ++ ys) all)

all_sent_plain : (doings : List Doing) → All IsPlainUnit (units_of doings) → ArePlainUnits (sent_in doings)
all_sent_plain [] all = tt
all_sent_plain (doing ∷ doings) all =
    plain_both (sent_by doing) (sent_in doings) (sent_plain doing.unit _ (all_front (option_to_list doing.unit) (units_of doings) all))
    (all_sent_plain doings (all_back (option_to_list doing.unit) (units_of doings) all))

-- so what is heard of them is plain
some_plain : (marks : List Mark) (came : List Carried) → HearsSome marks came → ArePlainUnits came → ArePlain marks
some_plain marks came (no_more none no_units) plain = subst (λ (ms : List Mark). ArePlain ms) (sym none) tt
some_plain marks came (is_bad mark {more = more} marks_are none rest) plain =
    subst (λ (ms : List Mark). ArePlain ms) (sym marks_are) (subst (λ (u : Option SignalUnit). IsPlainOne u) (sym none) tt, some_plain more came rest plain)
some_plain marks came (is_lost c {later = later} came_is rest) plain =
    some_plain marks later rest (subst (λ (cs : List Carried). ArePlainUnits cs) came_is plain).1
some_plain marks came (is_good mark c {more = more} {later = later} marks_are came_is unit rest) plain =
    let all : ArePlainUnits (c ∷ later) = subst (λ (cs : List Carried). ArePlainUnits cs) came_is plain in
    subst (λ (ms : List Mark). ArePlain ms) (sym marks_are) (subst (λ (u : Option SignalUnit). IsPlainOne u) (sym unit) all.0, some_plain more later rest all.1)

-- MARKS of turns
marks_both : (xs ys : List Mark) → ArePlain xs → ArePlain ys → ArePlain (xs ++ ys)
marks_both [] ys x y = y
marks_both (mark ∷ xs) ys x y = (x.0, marks_both xs ys x.1 y)

turn_plain : (c : Bool) (doing : Doing) → ArePlain doing.marks → ArePlain (marks_of (turns_if c doing))
turn_plain true doing plain = marks_both doing.marks [] plain tt
turn_plain false doing plain = tt

abbrev WaysPlain : Ways → Type 0
WaysPlain ways = (end : End) (link : ℕ) → ArePlainUnits (carried_in (ways end link))

step_plain : (step : WireStep) (old new : Wires) (happens : Happens step old new) (ways : Ways) (places : Places) → WaysPlain ways
    → IfTurnHearsSome step old new happens ways places → (end : End) (link : ℕ) → ArePlain (marks_of (turns_in end link step old new happens))
step_plain (Turn e l) old new takes ways places plain hears end link =
    turn_plain (is_same end e && (link == l)) (doing_in l _ _ takes)
    (some_plain takes.turns.takes.by_octet.marks _ hears (plain_take (counts_of (Turn e l) old new takes places e l) (carried_in (ways e l)) (plain e l)))
step_plain (CommandStep e l command) old new happens ways places plain hears end link = tt
step_plain (Ask e who event) old new happens ways places plain hears end link = tt
step_plain (Damage e l place octet) old new happens ways places plain hears end link = tt

steps_plain : (count : ℕ) (steps : List WireStep) (old new : Wires) (happen : Happen steps old new) (ways : Ways) (places : Places) → WaysPlain ways
    → ((end : End) (link : ℕ) → All IsPlainUnit (units_of (all_turns end link steps old new happen))) → ShowsAsLoss steps old new happen ways places
    → AllPlain count steps old new happen
steps_plain count [] old new happen ways places plain sends shows end link below = tt
steps_plain count (step ∷ steps) old new happen ways places plain sends shows end link below =
    let here = λ (e : End) (l : ℕ). turns_in e l step old happen.0 happen.1 in
    let rest = λ (e : End) (l : ℕ). all_turns e l steps happen.0 new happen.2 in
    let units = λ (e : End) (l : ℕ).
    subst (λ (us : List SignalUnit). All IsPlainUnit us) (flat_map-append (λ (d : Doing). option_to_list d.unit) (here e l) (rest e l)) (sends e l) in
    let counts = counts_of step old happen.0 happen.1 places in
    let plain_then : WaysPlain (ways_by counts step old happen.0 happen.1 ways) =
    λ e l. subst (λ (cs : List Carried). ArePlainUnits cs)
    (sym (carried_on (counts e l) (sent_in (here (other e) l)) (is_marked (slice_get (seen_from e happen.0).near.links l)) (ways e l)))
    (plain_both (drop (counts e l) (carried_in (ways e l))) (sent_in (here (other e) l)) (plain_drop (counts e l) (carried_in (ways e l)) (plain e l))
    (all_sent_plain (here (other e) l) (all_front (units_of (here (other e) l)) (units_of (rest (other e) l)) (units (other e) l)))) in
    subst (λ (ms : List Mark). ArePlain ms) (sym (flat_map-append (λ (d : Doing). d.marks) (here end link) (rest end link)))
    (marks_both (marks_of (here end link)) (marks_of (rest end link))
    (step_plain step old happen.0 happen.1 ways places plain shows.0 end link)
    (steps_plain count steps happen.0 new happen.2 (ways_by counts step old happen.0 happen.1 ways) (places_after step old happen.0 happen.1 places) plain_then
    (λ e l. all_back (units_of (here e l)) (units_of (rest e l)) (units e l)) shows.1 end link below))

-- WHERE UNITS STAND, of a link to an end. Of what is old where the link isn't marked: it has come within the turns that the link waits.
abbrev OldPasses : AtLink → Place → ℕ → Type 0
OldPasses at place n = (n ≡ 0) ⊎ ((r : ℕ) × (1 ≤ r) × (r ≤ 4096) × Waits r at.terminal × FirstWithin n (8 * (place.came + r)) place.ends)

record IsPlaced (s : Sides) (link : ℕ) (place : Place) (way : Way) : Type 0 where
  pub line_is : (line : List ℕ) → slice_get s.to_near link ≡ Some line → place.put ≡ place.came + length line
  pub within : (at : AtLink) → slice_get s.far.links link ≡ Some at → AllWithin (8 * place.put + length at.terminal.bits) place.ends
  pub as_many : length place.ends ≡ length (carried_in way)
  pub settled : (at : AtLink) → slice_get s.near.links link ≡ Some at → IsMarked at → way.fresh ≡ []
  pub passes : (at : AtLink) → slice_get s.near.links link ≡ Some at → is_marked (Some at) ≡ false → OldPasses at place (length way.old)

record ArePlaced (count : ℕ) (w : Wires) (ds : End → ℕ → List Doing) (ways : Ways) (places : Places) : Type 0 where
  pub ends : (end : End) → IsEnd (ds end) (seen_from end w).near
  pub each : (end : End) (link : ℕ) → IsPlaced (seen_from end w) link (places end link) (ways end link)
  pub short : (link : ℕ) (a b : List ℕ) → slice_get w.to_a link ≡ Some a → slice_get w.to_b link ≡ Some b → length a + length b ≤ 3700
  pub lines : (end : End) → length (seen_from end w).to_near ≡ count

no_old : (old : List Carried) → length old ≡ 0 → old ≡ []
no_old [] none = refl
no_old (c ∷ old) none = absurd (omega (arith, none))

-- A LINK THAT HAS ALIGNED has nothing of old
are_flushed : (count : ℕ) (w : Wires) (ds : End → ℕ → List Doing) (ways : Ways) (places : Places) → ArePlaced count w ds ways places → AreFlushed w ways
are_flushed count w ds ways places p end link at there unmarked aligned =
    elim ((p.each end link).passes at there unmarked) [
      | inl none ↦ no_old (ways end link).old none
      | inr waits ↦ absurd (let wrong : true ≡ false = sym waits.3.before ∙ not_before at.terminal.state at.terminal.up aligned in cc)
    ]

-- A STEP
pub few_turns : (end : End) (link : ℕ) (step : WireStep) (old new : Wires) (happens : Happens step old new) → length (turns_in end link step old new happens) ≤ 1
few_turns end link (Turn e l) old new takes = few_if (is_same end e && (link == l)) (doing_in l _ _ takes)
  where
    few_if : (c : Bool) (doing : Doing) → length (turns_if c doing) ≤ 1
    few_if true doing = omega arith
    few_if false doing = omega arith
few_turns end link (CommandStep e l command) old new happens = omega arith
few_turns end link (Ask e who event) old new happens = omega arith
few_turns end link (Damage e l place octet) old new happens = omega arith

far_is : (end : End) (w : Wires) → (seen_from end w).far ≡ (seen_from (other end) w).near
far_is A w = refl
far_is B w = refl

to_far_is : (end : End) (w : Wires) → (seen_from end w).to_far ≡ (seen_from (other end) w).to_near
to_far_is A w = refl
to_far_is B w = refl

both_short : (end : End) (w : Wires) (link : ℕ) → ((a b : List ℕ) → slice_get w.to_a link ≡ Some a → slice_get w.to_b link ≡ Some b → length a + length b ≤ 3700)
    → (near far : List ℕ) → slice_get (seen_from end w).to_near link ≡ Some near → slice_get (seen_from (other end) w).to_near link ≡ Some far
    → length near + length far ≤ 3700
both_short A w link short near far here there = short near far here there
both_short B w link short near far here there = let sum = short far near there here in omega (arith, sum)

-- what was left of old, so many turns later
old_on : (n k : ℕ) (hears sends : List Doing) (left : ℕ) (place : Place) (was now : AtLink) → length hears ≡ k → k ≤ 1 → OldPasses was place n
    → ((r : ℕ) → 1 ≤ r → k + r ≤ 4096 → Waits (k + r) was.terminal → Waits r now.terminal)
    → OldPasses now (place_by hears sends left place) (n - coming_in hears place)
old_on n k hears sends left place was now many few (inl none) waits = let less : n - coming_in hears place ≡ 0 = omega (arith, none) in inl less
old_on n zero [] sends left place was now many few (inr p) waits =
    let same : place.came + 0 + p.0 ≡ place.came + p.0 = omega arith in
    let zero_more : 0 + p.0 ≡ p.0 = omega arith in
    inr (
      p.0,
      p.1,
      p.2,
      waits p.0 p.1 (omega (arith, p.2)) (subst (λ (r : ℕ). Waits r was.terminal) (sym zero_more) p.3),
      first_on n 0 (8 * (place.came + 0 + p.0)) place.ends _ (subst (λ (m : ℕ). FirstWithin n (8 * m) place.ends) (sym same) p.4),
    )
old_on n (suc k) [] sends left place was now many few p waits = absurd (omega (arith, many))
old_on n zero (d ∷ hears) sends left place was now many few p waits = absurd (omega (arith, many))
old_on n (suc zero) (d ∷ hears) sends left place was now many few (inr (zero, some, most, w, first)) waits = absurd (omega (arith, some))
old_on n (suc zero) (d ∷ hears) sends left place was now many few (inr (suc zero, some, most, w, first)) waits =
    let all : n ≤ come_by (8 * suc place.came) place.ends =
    let same : place.came + 1 ≡ suc place.came = omega arith in
    come_first n (8 * suc place.came) place.ends (subst (λ (m : ℕ). FirstWithin n (8 * m) place.ends) same first) in
    let less : n - come_by (8 * suc place.came) place.ends ≡ 0 = omega (arith, all) in inl less
old_on n (suc zero) (d ∷ hears) sends left place was now many few (inr (suc (suc r), some, most, w, first)) waits =
    let same : place.came + suc (suc r) ≡ place.came + length (d ∷ hears) + suc r = omega (arith, many) in
    let one_more : suc (suc r) ≡ 1 + suc r = omega arith in
    inr (
      suc r,
      omega arith,
      omega (arith, most),
      waits (suc r) (omega arith) (omega (arith, most)) (subst (λ (m : ℕ). Waits m was.terminal) one_more w),
      first_on n (come_by (8 * suc place.came) place.ends) (8 * (place.came + length (d ∷ hears) + suc r)) place.ends _
          (subst (λ (m : ℕ). FirstWithin n (8 * m) place.ends) same first),
    )
old_on n (suc (suc k)) hears sends left place was now many few p waits = absurd (omega (arith, few))

module _ (count : ℕ) (step : WireStep) (old new : Wires) (happens : Happens step old new) (ds : End → ℕ → List Doing) (ways : Ways) (places : Places)
    (sound : IsSoundStep step) (asked : IsApart step) (asks : IfTurn step old new happens) (so : AreSo count old) (so' : AreSo count new)
    (p : ArePlaced count old ds ways places) where
  abbrev turns : End → ℕ → List Doing
  turns end link = turns_in end link step old new happens

  abbrev left_at : End → ℕ → ℕ
  left_at end link = bits_left (slice_get (seen_from end new).far.links link)

  abbrev marked_at : End → ℕ → Bool
  marked_at end link = is_marked (slice_get (seen_from end new).near.links link)

  abbrev ways' : Ways
  ways' = ways_by (counts_of step old new happens places) step old new happens ways

  abbrev places' : Places
  places' = places_after step old new happens places

  abbrev ds' : End → ℕ → List Doing
  ds' end link = ds end link ++ turns end link

  -- each end is one still
  same_end : (end : End) → (seen_from end new).near ≡ (seen_from end old).near → ((link : ℕ) → turns end link ≡ []) → IsEnd (ds' end) (seen_from end new).near
  same_end end same none =
      end_same (ds end) (ds' end) (seen_from end new).near
      (λ link. sym (append-nil (ds end link)) ∙ ap (λ (es : List Doing). ds end link ++ es) (sym (none link)))
      (subst (λ b. IsEnd (ds end) b) (sym same) (p.ends end))

  -- of a link that was marked all is old, and it has a proving period ahead
  marked_old : (end : End) (link : ℕ) (was : AtLink) → slice_get (seen_from end old).near.links link ≡ Some was → IsMarked was
      → Waits 4096 was.terminal → OldPasses was (places end link) (length (ways end link).old)
  marked_old end link was there marked waits =
      let below = in_range count end old link was so there in
      let place = places end link in
      let way = ways end link in
      let here = p.each end link in
      let near = present (seen_from end old).to_near link (subst (λ n. link < n) (sym (p.lines end)) below) in
      let far = present (seen_from (other end) old).to_near link (subst (λ n. link < n) (sym (p.lines (other end))) below) in
      let sender = there_is (seen_from (other end) old).near.links link (subst (λ n. link < n) (sym (count_at count (other end) old so)) below) in
      let few = ((p.ends (other end)).links link sender.0 sender.1).few in
      let short = both_short end old link (p.short link) near.0 far.0 near.1 far.1 in
      let put = here.line_is near.0 near.1 in
      let all = here.within sender.0 (ap (λ b. slice_get b.links link) (far_is end old) ∙ sender.1) in
      let many = here.as_many in
      let sum = length-append way.old way.fresh in
      inr (
        4096,
        omega arith,
        omega arith,
        waits,
        first_weaker (length way.old) (8 * place.put + length sender.0.terminal.bits) (8 * (place.came + 4096)) place.ends (omega (arith, few, short, put))
            (first_of (length way.old) (8 * place.put + length sender.0.terminal.bits) place.ends (omega (arith, many, sum)) all),
      )

  passes_on : (end : End) (link : ℕ) (now : AtLink) → slice_get (seen_from end new).near.links link ≡ Some now → is_marked (Some now) ≡ false
      → OldPasses now (places' end link) (length (ways' end link).old)
  passes_on end link now there' unmarked =
      subst (λ (n : ℕ). OldPasses now (places' end link) n)
      (sym (ap (λ (cs : List Carried). length cs) (unsettled_old (marked_at end link) moved (ap is_marked there' ∙ unmarked)) ∙ length-drop count_off (ways end link).old))
      (old_on (length (ways end link).old) (length (turns end link)) (turns end link) (turns (other end) link) (left_at end link) (places end link) was.0 now refl
      (few_turns end link step old new happens) (before (is_marked (Some was.0)) refl) waits)
    where
      count_off : ℕ
      count_off = coming_in (turns end link) (places end link)

      moved : Way
      moved = joined_by (sent_in (turns (other end) link)) (left_by count_off (ways end link))

      below : link < count
      below = in_range count end new link now so' there'

      was : (x : AtLink) × (slice_get (seen_from end old).near.links link ≡ Some x)
      was = there_is (seen_from end old).near.links link (subst (λ n. link < n) (sym (count_at count end old so)) below)

      before : (marked : Bool) → is_marked (Some was.0) ≡ marked → OldPasses was.0 (places end link) (length (ways end link).old)
      before false is = (p.each end link).passes was.0 was.1 is
      before true is =
          marked_old end link was.0 was.1 is
          (waits_out was.0.terminal (each_at count end old so link was.0 was.1).ordinary
          (unmarks link was.0 now is unmarked end step old new happens sound asks was.1 there'))

      waits : (r : ℕ) → 1 ≤ r → length (turns end link) + r ≤ 4096 → Waits (length (turns end link) + r) was.0.terminal → Waits r now.terminal
      waits r some few w =
          let then_so = step_waits end link step old new happens r was.0 was.1 some few w in
          subst (λ (x : AtLink). Waits r x.terminal) (same_Some then_so.0 now (sym then_so.1 ∙ there')) then_so.2

  each_on : (end : End) (link : ℕ) → IsPlaced (seen_from end new) link (places' end link) (ways' end link)
  each_on end link = record {
    line_is = λ now there'.
        let was = line_steps end link step old new happens now there' in
        line_on (turns end link) (turns (other end) link) (left_at end link) (places end link) (length was.0) (length now) ((p.each end link).line_is was.0 was.1) was.2;
    within = λ now there'.
        let far_there : slice_get (seen_from (other end) new).near.links link ≡ Some now = ap (λ b. slice_get b.links link) (sym (far_is end new)) ∙ there' in
        let was = bits_step (other end) link step old new happens (ds (other end)) (p.ends (other end)) now far_there in
        let left : left_at end link ≡ length now.terminal.bits = ap bits_left there' in
        subst (λ (n : ℕ). AllWithin (8 * (places' end link).put + n) (places' end link).ends) left
        (within_on (turns end link) (turns (other end) link) (left_at end link) (places end link) (length was.0.terminal.bits)
        (let few = was.2 in omega (arith, few, left))
        ((p.each end link).within was.0 (ap (λ b. slice_get b.links link) (far_is end old) ∙ was.1)));
    as_many = many_on (turns end link) (turns (other end) link) (left_at end link) (places end link) (marked_at end link) (ways end link) (p.each end link).as_many;
    settled = λ at there marked.
        settled_fresh (marked_at end link) (joined_by (sent_in (turns (other end) link)) (left_by (coming_in (turns end link) (places end link)) (ways end link)))
        (ap is_marked there ∙ marked);
    passes = passes_on end link;
  }

  short_on : (link : ℕ) (a b : List ℕ) → slice_get new.to_a link ≡ Some a → slice_get new.to_b link ≡ Some b → length a + length b ≤ 3700
  short_on link a b at_a at_b =
      let x = line_steps A link step old new happens a at_a in
      let y = line_steps B link step old new happens b at_b in
      let sum = p.short link x.0 y.0 x.1 y.1 in
      let one = x.2 in let two = y.2 in omega (arith, sum, one, two)

-- of each kind of step
ends_on : (step : WireStep) (old new : Wires) (happens : Happens step old new) (ds : End → ℕ → List Doing) → IsApart step
    → ((end : End) → IsEnd (ds end) (seen_from end old).near)
    → (end : End) → IsEnd (λ link. ds end link ++ turns_in end link step old new happens) (seen_from end new).near
ends_on step old new happens ds asked p end = go step happens asked end
  where
    rest : (e : End) (b' : _) → IsEnd (ds e) b' → IsEnd (λ link. ds e link ++ []) b'
    rest e b' is = end_same (ds e) (λ link. ds e link ++ []) b' (λ link. sym (append-nil (ds e link))) is

    go : (step : WireStep) (happens : Happens step old new) → IsApart step → (end : End)
        → IsEnd (λ link. ds end link ++ turns_in end link step old new happens) (seen_from end new).near
    go (Turn A l) takes asked A = turn_end l (seen_from A old) (seen_from A new) (ds A) takes (p A)
    go (Turn B l) takes asked B = turn_end l (seen_from B old) (seen_from B new) (ds B) takes (p B)
    go (Turn A l) takes asked B = rest B new.b (subst (λ b. IsEnd (ds B) b) (sym takes.far_is) (p B))
    go (Turn B l) takes asked A = rest A new.a (subst (λ b. IsEnd (ds A) b) (sym takes.far_is) (p A))
    go (CommandStep A l command) takes asked A = rest A new.a (told_so (is_refused l command old.a) l command (ds A) old.a new.a takes.commands (p A)).is
    go (CommandStep B l command) takes asked B = rest B new.b (told_so (is_refused l command old.b) l command (ds B) old.b new.b takes.commands (p B)).is
    go (CommandStep A l command) takes asked B = rest B new.b (subst (λ b. IsEnd (ds B) b) (sym takes.only.far_is) (p B))
    go (CommandStep B l command) takes asked A = rest A new.a (subst (λ b. IsEnd (ds A) b) (sym takes.only.far_is) (p A))
    go (Ask A who event) took asked A = rest A new.a (asked_end who event (seen_from A old) (seen_from A new) (ds A) took asked (p A))
    go (Ask B who event) took asked B = rest B new.b (asked_end who event (seen_from B old) (seen_from B new) (ds B) took asked (p B))
    go (Ask A who event) took asked B = rest B new.b (subst (λ b. IsEnd (ds B) b) (sym took.only.far_is) (p B))
    go (Ask B who event) took asked A = rest A new.a (subst (λ b. IsEnd (ds A) b) (sym took.only.far_is) (p A))
    go (Damage A l place octet) damaged asked A = rest A new.a (subst (λ b. IsEnd (ds A) b) (sym damaged.near_is) (p A))
    go (Damage B l place octet) damaged asked B = rest B new.b (subst (λ b. IsEnd (ds B) b) (sym damaged.near_is) (p B))
    go (Damage A l place octet) damaged asked B = rest B new.b (subst (λ b. IsEnd (ds B) b) (sym damaged.far_is) (p B))
    go (Damage B l place octet) damaged asked A = rest A new.a (subst (λ b. IsEnd (ds A) b) (sym damaged.far_is) (p A))

some_come : (step : WireStep) (old new : Wires) (happens : Happens step old new) (ways : Ways) (places : Places) → IfTurnHearsSome step old new happens ways places
    → IfTurnComes step old new happens (counts_of step old new happens places) ways
some_come (Turn end link) old new takes ways places hears = hears
some_come (CommandStep end link command) old new happens ways places hears = tt
some_come (Ask end who event) old new happens ways places hears = tt
some_come (Damage end link place octet) old new happens ways places hears = tt

-- STEPS
noisy_course : (count : ℕ) → count ≤ 16 → (steps : List WireStep) (old new : Wires) (happen : Happen steps old new) (ds : End → ℕ → List Doing) (ways : Ways) (places : Places)
    → AreSound steps → AreApart steps → AllPlain count steps old new happen → AtEachTurn steps old new happen → ShowsAsLoss steps old new happen ways places
    → AreSo count old → ArePlaced count old ds ways places → IsCourse steps old new happen ways
noisy_course count few [] old new happen ds ways places sound asked plain asks shows so p = tt
noisy_course count few (step ∷ steps) old new happen ds ways places sound asked plain asks shows so p =
    let mid = happen.0 in
    let parts = λ (end : End) (link : ℕ) (below : link < count).
    plain_parts (turns_in end link step old mid happen.1) (all_turns end link steps mid new happen.2) (plain end link below) in
    let so' = step_so count few step old mid happen.1 sound.0 (λ end link below. (parts end link below).0) so in
    let counts = counts_of step old mid happen.1 places in
    let p' : ArePlaced count mid (λ end link. ds end link ++ turns_in end link step old mid happen.1) (ways_by counts step old mid happen.1 ways)
    (places_after step old mid happen.1 places) = record {
      ends = ends_on step old mid happen.1 ds asked.0 p.ends;
      each = each_on count step old mid happen.1 ds ways places sound.0 asked.0 asks.0 so so' p;
      short = short_on count step old mid happen.1 ds ways places sound.0 asked.0 asks.0 so so' p;
      lines = λ end. many_lines end step old mid happen.1 ∙ p.lines end;
    } in (
      counts,
      λ end link none. ap (λ (es : List Doing). coming_in es (places end link)) none,
      some_come step old mid happen.1 ways places shows.0,
      are_flushed count old ds ways places p,
      noisy_course count few steps mid new happen.2 _ (ways_by counts step old mid happen.1 ways) (places_after step old mid happen.1 places) sound.1 asked.1
          (λ end link below. (parts end link below).1) asks.1 shows.1 so' p',
    )

-- AT FIRST
length_idle : (n : ℕ) → length (idle_line n) ≡ n
length_idle n = length-replicate n 126

first_line : (end : End) (f : LineLengths → ℕ) (lengths : List LineLengths) (link : ℕ) (line : List ℕ)
    → ((l : LineLengths) → length_to end (Some l) ≡ f l) → slice_get (map (λ l. idle_line (f l)) lengths) link ≡ Some line
    → length_to end (slice_get lengths link) ≡ 0 + length line
first_line end f lengths link line is there =
    let at = at_map (λ (l : LineLengths). idle_line (f l)) lengths link line there in
    let none_came : length line ≡ 0 + length line = omega arith in
    ap (length_to end) at.1 ∙ is at.0 ∙ sym (length_idle (f at.0)) ∙ ap length at.2 ∙ none_came

first_short : (lengths : List LineLengths) → AreShort lengths → (link : ℕ) → length_to A (slice_get lengths link) + length_to B (slice_get lengths link) ≤ 3700
first_short [] short link = omega arith
first_short (line ∷ lengths) short zero = short.0
first_short (line ∷ lengths) short (suc link) = first_short lengths short.1 link

module _ (a b : EndConfig) (lengths : List LineLengths) (short : AreShort lengths) (narrow_a : IsNarrowEnd a) (narrow_b : IsNarrowEnd b) where
  abbrev first : Wires
  first = new_wires a b lengths

  first_a : (link : ℕ) (line : List ℕ) → slice_get first.to_a link ≡ Some line → length_to A (slice_get lengths link) ≡ 0 + length line
  first_a link line there = first_line A (λ l. l.to_a) lengths link line (λ l. refl) there

  first_b : (link : ℕ) (line : List ℕ) → slice_get first.to_b link ≡ Some line → length_to B (slice_get lengths link) ≡ 0 + length line
  first_b link line there = first_line B (λ l. l.to_b) lengths link line (λ l. refl) there

  lines_first : (end : End) (link : ℕ) (line : List ℕ) → slice_get (seen_from end first).to_near link ≡ Some line
      → length_to end (slice_get lengths link) ≡ 0 + length line
  lines_first A link line there = first_a link line there
  lines_first B link line there = first_b link line there

  ends_first : (end : End) → IsEnd (λ link. []) (seen_from end first).near
  ends_first A = new_end_is a narrow_a
  ends_first B = new_end_is b narrow_b

  many_first : (end : End) → length (seen_from end first).to_near ≡ length lengths
  many_first A = length-map lengths (λ (l : LineLengths). idle_line l.to_a)
  many_first B = length-map lengths (λ (l : LineLengths). idle_line l.to_b)

  first_placed : ArePlaced (length lengths) first (λ end link. []) no_ways (first_places lengths)
  first_placed = record {
    ends = ends_first;
    each = λ end link. record {
      line_is = lines_first end link;
      within = λ at there. tt;
      as_many = refl;
      settled = λ at there marked. refl;
      passes = λ at there unmarked. absurd (let wrong : true ≡ false = sym (first_marked a b lengths end link at there) ∙ unmarked in cc);
    };
    short = λ link x y at_x at_y.
        let one = first_a link x at_x in let two = first_b link y at_y in let sum = first_short lengths short link in omega (arith, one, two, sum);
    lines = many_first;
  }

-- THE LAW
pub carries_through_noise : EveryRunThroughNoiseCarriesStreams
carries_through_noise a b lengths steps w run s room stream low =
    let count = length lengths in
    let first = new_wires a b lengths in
    let few = links_few a b lengths run.fitting in
    let so = so_first a b lengths run.fitting in
    let plain = steps_plain count steps first w run.happen no_ways (first_places lengths) (λ end link. tt)
    (λ end link. each_status_is_plain a b lengths steps w run (calm_steps steps s.sound) end link) s.shows in
    let asks = all_ask count few steps first w run.happen s.sound plain so in
    arrive a b lengths steps w run s.narrow_a s.narrow_b s.one_method s.sound plain asks
    (noisy_course count few steps first w run.happen (λ end link. []) no_ways (first_places lengths) s.sound s.asked plain asks s.shows so
    (first_placed a b lengths s.short s.narrow_a s.narrow_b)) room stream low

-- of a run that was carried out
pub run_carries_through_noise : (a b : EndConfig) (lengths : List LineLengths) (steps : List WireStep) (w : Wires)
    → entries_in w.a.set ≤ longest_history → entries_in w.b.set ≤ longest_history → CarriesThroughNoise a b lengths steps w
run_carries_through_noise a b lengths steps w x y = λ run s stream low. carries_through_noise a b lengths steps w run s (record { a = x; b = y }) stream low
