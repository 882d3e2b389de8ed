-- EACH WAY IS UNDER WAY, AND FLUSHED (`each_way`), step by step (`walk`): a link that isn't marked began to align in a turn
-- before which it was out of service (`unmarks`), since a turn in which it's told to stop leaves it there (`stop_ends`); and
-- from then on a proving period passes until it's ready (pair_octets). By then all that was under way before that turn is
-- heard: as many units as were sent by then (`flushed`).
use Rattle.std.proofs.Common.{refl, arith, ap, sym, subst, ◌≡◌, ◌∙◌, ◌<◌, ◌≤◌, ◌==◌, ◌&&◌, ◌||◌, ◌+◌, ◌⊎◌, inl, inr, ℕ, zero, suc, Bool, true, false, List, [], ◌∷◌, ◌++◌, length, map, drop, Option, Some, None, slice_get, slice_set, append-nil, append_assoc}
use Rattle.std.proofs.lemmas.Grind.{flat_map-append}
use Rattle.std.proofs.lemmas.List.{length-append, length-map}
use Rattle.std.proofs.lemmas.Option.{same_Some}
use Rattle.l2_bits.specs.declared.marks.Mark.{Mark}
use Rattle.l2_state.specs.declared.link_state.State.{State as LinkPhase}
use Rattle.l2_units.specs.declared.unit.Unit.{Unit as SignalUnit}
use Rattle.set_events.specs.declared.history.Entry.{Entry}
use Rattle.set_model.proofs.Lists.{each_set, within}
use Rattle.term_asks.specs.Asking.{Standing, out, aligning, ready, waiting, served, standing_in, standing_of, Falls, stays, drops, tells, Times, goes_on, completes, Rises, not_yet, comes_up, Hears, passes, is_heard, HearsOne, HearsAll, AsksUp, asks_nothing, asks_again, Serves, idles, gives, Chooses, has_bits, chooses_one, AsksSo, IsOrdinary}
use Rattle.term_bench.specs.Ends.{AtLink, BenchState, new_links, told_at}
use Rattle.term_bench.proofs.BenchLemmas.{there_is}
use Rattle.term_late.specs.Late.{Waits, is_before}
use Rattle.term_late.proofs.Late.{takes_its_time}
use Rattle.term_model.specs.Hearing.{unit_in}
use Rattle.term_model.specs.Runs.{Doing, marks_of, units_of}
use Rattle.term_model.specs.Terminal.{Terminal}
use Rattle.term_model.specs.declared.command.Command.{Command}
use Rattle.term_model.specs.declared.timers.Timers.{Timers}
use Rattle.pair_steps.specs.declared.step.End.{End}
use Rattle.pair_steps.specs.declared.step.End.TheVariants.{A, B}
use Rattle.pair_octets.specs.Flushed.{AreShort}
use Rattle.pair_octets.specs.Passing.{ArePassed, AreIntact, IsNarrowEnd, IsOnIntactLines, all_turns, doing_in, is_same, other, turns_if, turns_in}
use Rattle.pair_octets.specs.Streams.{AreSound, IsSoundStep}
use Rattle.pair_octets.specs.Wires.{Wires, Sides, CommandsIf, Happen, Happens, IsRun, TakesTurn, is_refused, new_wires, seen_from}
use Rattle.pair_octets.specs.declared.step.EndConfig.{EndConfig}
use Rattle.pair_octets.specs.declared.step.LineLengths.{LineLengths}
use Rattle.pair_octets.specs.declared.step.WireStep.{WireStep}
use Rattle.pair_octets.specs.declared.step.WireStep.TheVariants.{Turn, Command as CommandStep, Ask, Damage}
use Rattle.pair_octets.proofs.Flushing.{each_ready_link_is_flushed}
use Rattle.pair_octets.proofs.OneEnd.{EachLink, ended_each}
use Rattle.pair_octets.proofs.Passing.{every_unit_is_heard, later}
use Rattle.pair_wires.specs.Turning.{AtEachTurn, IfTurn, TurnAsksSo}
use Rattle.pair_wires.specs.Ways.{AreFlushed, AreUnderWay, Carried, EachWayIsUnderWay, HearsFront, IfTurnHears, IsUnderWay, Way, Ways, carried_in, has_aligned, heard_in, is_marked, is_out, joined_by, left_by, no_ways, sent_in, settled_if, ways_after, ways_of}
use Rattle.pair_wires.proofs.Starting.{AllPlain, AreSo, EachSo, all_plain, each_new, few_links, first_so, itself, plain_parts, step_so}
use Rattle.pair_wires.proofs.Turning.{each_turn}
use Rattle.pair_wires.proofs.Ways.{IsThen, PassesOn, apart, both_intact, passes_on, then_happens}

true_false : {X : Type 0} → true ≡ false → X
true_false e = absurd cc

-- A LINK THAT IS OUT OF SERVICE stays so in a turn once its commands are obeyed.
module _ (link : ℕ) where
  falls_out : (s s' : Standing) (entries : List Entry) → Falls link s s' entries → s ≡ out → s' ≡ out
  falls_out s s' entries (stays same none) is = same ∙ is
  falls_out s s' entries (drops not_served is_out none) is = is_out
  falls_out s s' entries (tells entry is_served is_out one event) is = is_out

  rises_out : (unit : SignalUnit) (s s' : Standing) (entries : List Entry) → Rises link unit s s' entries → s ≡ out → s' ≡ out
  rises_out unit s s' entries (not_yet same none) is = same ∙ is
  rises_out unit s s' entries (comes_up entry other is_ready one event risen) is = let no : out ≡ ready = sym is ∙ is_ready in absurd cc

  hears_out : (unit : SignalUnit) (s s' : Standing) (entries : List Entry) → Hears link unit s s' entries → s ≡ out → s' ≡ out
  hears_out unit s s' entries (passes not_served same none) is = same ∙ is
  hears_out unit s s' entries (is_heard is_served other asks) is = let no : out ≡ served = sym is ∙ is_served in absurd cc

  one_out : (unit : Option SignalUnit) (s s' : Standing) (entries : List Entry) → HearsOne link unit s s' entries → s ≡ out → s' ≡ out
  one_out None s s' entries f is = falls_out s s' entries f is
  one_out (Some unit) s s' entries h is =
      hears_out unit h.risen s' h.third h.hears (rises_out unit h.judged h.risen h.second h.rises (falls_out s h.judged h.first h.falls is))

  all_out : (marks : List Mark) (s s' : Standing) (entries : List Entry) → HearsAll link marks s s' entries → s ≡ out → s' ≡ out
  all_out [] s s' entries h is = h.0 ∙ is
  all_out (mark ∷ marks) s s' entries h is = all_out marks h.0 s' h.2 h.5 (one_out (unit_in mark) s h.0 h.1 h.4 is)

  times_out : (s s' : Standing) (entries : List Entry) → Times link s s' entries → s ≡ out → s' ≡ out
  times_out s s' entries (goes_on f) is = falls_out s s' entries f is
  times_out s s' entries (completes is_aligning now_is none) is = let no : out ≡ aligning = sym is ∙ is_aligning in absurd cc

  asks_out : (s s' : Standing) (entries : List Entry) → AsksUp link s s' entries → s ≡ out → s' ≡ out
  asks_out s s' entries (asks_nothing never same none) is = same ∙ is
  asks_out s s' entries (asks_again entry is_waiting one event risen) is = let no : out ≡ waiting = sym is ∙ is_waiting in absurd cc

  serves_out : (s s' : Standing) (entries : List Entry) (unit : Option SignalUnit) → Serves link s s' entries unit → s ≡ out → s' ≡ out
  serves_out s s' entries unit (idles not_served same none idle) is = same ∙ is
  serves_out s s' entries unit (gives entry later is_served one event given falls) is = let no : out ≡ served = sym is ∙ is_served in absurd cc

  chooses_out : (s s' : Standing) (entries : List Entry) (unit : Option SignalUnit) → Chooses link s s' entries unit → s ≡ out → s' ≡ out
  chooses_out s s' entries unit (has_bits same none no_unit) is = same ∙ is
  chooses_out s s' entries unit (chooses_one c) is = serves_out c.risen s' c.second unit c.serves (asks_out s c.risen c.first c.asks is)

  stop_ends : (started stopped : Bool) (marks : List Mark) (s s' : Standing) (entries : List Entry) (unit : Option SignalUnit)
      → AsksSo link started stopped marks s s' entries unit → stopped ≡ true → s' ≡ out
  stop_ends started stopped marks s s' entries unit a is =
      chooses_out a.timed s' a.fifth unit a.chooses
      (times_out a.heard a.timed a.fourth a.times (all_out marks a.obeyed a.heard a.third a.hears (a.stops is)))

-- WHERE A LINK STANDS.
out_is : (s : Standing) → is_out s ≡ true → s ≡ out
out_is out is = refl
out_is aligning is = true_false (sym is)
out_is ready is = true_false (sym is)
out_is waiting is = true_false (sym is)
out_is served is = true_false (sym is)

out_state : (phase : LinkPhase) (up : Bool) → standing_in phase up ≡ out → phase ≡ LinkPhase.OutOfService
out_state LinkPhase.OutOfService up is = refl
out_state LinkPhase.Aligning up is = let no : aligning ≡ out = is in absurd cc
out_state LinkPhase.Ready up is = let no : ready ≡ out = is in absurd cc
out_state (LinkPhase.InService paused) true is = let no : served ≡ out = is in absurd cc
out_state (LinkPhase.InService paused) false is = let no : waiting ≡ out = is in absurd cc

pub not_before : (phase : LinkPhase) (up : Bool) → has_aligned (standing_in phase up) ≡ true → is_before phase ≡ false
not_before LinkPhase.OutOfService up is = true_false (sym is)
not_before LinkPhase.Aligning up is = true_false (sym is)
not_before LinkPhase.Ready up is = refl
not_before (LinkPhase.InService paused) up is = refl

-- out of service it has a proving period ahead
pub waits_out : (t : Terminal) → IsOrdinary t → standing_of t ≡ out → Waits 4096 t
waits_out t o is = takes_its_time.out_waits t state (o.idle state) (down t.up refl)
  where
    state : t.state ≡ LinkPhase.OutOfService
    state = out_state t.state t.up is

    down : (up : Bool) → t.up ≡ up → t.up ≡ false
    down true e = let no : out ≡ served = sym is ∙ o.served e in absurd cc
    down false e = e

-- MARKS.
abbrev pub IsMarked : AtLink → Type 0
IsMarked at = is_marked (Some at) ≡ true

or_true : (b : Bool) → (b || true) ≡ true
or_true true = refl
or_true false = refl

or_right : (b c : Bool) → b ≡ false → (b || c) ≡ true → c ≡ true
or_right true c e is = true_false e
or_right false c e is = is

or_left : (b c : Bool) → b ≡ true → (b || c) ≡ true
or_left true c e = refl
or_left false c e = true_false (sym e)

told_marked : (command : Command) (at : AtLink) → IsMarked at → IsMarked (told_at command at)
told_marked Command.Emergency at m = m
told_marked Command.Calm at m = m
told_marked Command.Start at m = m
told_marked Command.Busy at m = m
told_marked Command.Ease at m = m
told_marked Command.Blind at m = m
told_marked Command.Outage at m = m
told_marked Command.Recover at m = m
told_marked Command.Stop at m = or_true (is_out (standing_of at.terminal))

out_marked : (at : AtLink) → standing_of at.terminal ≡ out → IsMarked at
out_marked at is = or_left (is_out (standing_of at.terminal)) at.terminal.commands.stop (ap is_out is)

-- a link is marked where it's this one
abbrev Holds : ℕ → ℕ → AtLink → Type 0
Holds link n at = n ≡ link → IsMarked at

each_marked : (link : ℕ) (links : List AtLink) (at : AtLink) → slice_get links link ≡ Some at → IsMarked at → EachLink (Holds link) links
each_marked link links at there m n y is same =
    subst (λ (x : AtLink). IsMarked x) (same_Some at y (sym there ∙ ap (λ k. slice_get links k) (sym same) ∙ is)) m

turn_marks : (link l : ℕ) (old new : Sides) (takes : TakesTurn l old new) → (l ≡ link → IsMarked takes.turns.now) → EachLink (Holds link) old.near.links
    → EachLink (Holds link) new.near.links
turn_marks link l old new takes now each n at there =
    ended_each (Holds link) (λ m y held same. told_marked Command.Stop y (held same)) 0 old.near.set.state new.near.set.state
    (slice_set old.near.links l takes.turns.now) (each_set (Holds link) old.near.links l takes.turns.now now (λ m y apart is. each m y is))
    n at (subst (λ (ls : List AtLink). slice_get ls n ≡ Some at) takes.turns.links_are there)

command_marks : (refused : Bool) (link l : ℕ) (command : Command) (old new : BenchState) → CommandsIf refused l command old new → EachLink (Holds link) old.links
    → EachLink (Holds link) new.links
command_marks true link l command old new same each n at there =
    each n at (subst (λ (b : BenchState). slice_get b.links n ≡ Some at) same there)
command_marks false link l command old new told each n at there =
    each_set (Holds link) old.links l (told_at command told.was) (λ same. told_marked command told.was (each l told.was told.is_at same))
    (λ m y apart is. each m y is) n at (subst (λ (ls : List AtLink). slice_get ls n ≡ Some at) told.links_are there)

-- IT BEGINS TO ALIGN where it's out of service, by a turn of its own
module _ (link : ℕ) (at at' : AtLink) (marked : IsMarked at) (unmarked : is_marked (Some at') ≡ false) where
  abbrev IsOutBefore : Type 0
  IsOutBefore = standing_of at.terminal ≡ out

  never : (links : List AtLink) → slice_get links link ≡ Some at' → EachLink (Holds link) links → IsOutBefore
  never links there each = true_false (sym (each link at' there refl) ∙ unmarked)

  same_links : (old new : List AtLink) → new ≡ old → slice_get old link ≡ Some at → slice_get new link ≡ Some at' → IsOutBefore
  same_links old new same there then_there =
      never new then_there (subst (λ (ls : List AtLink). EachLink (Holds link) ls) (sym same) (each_marked link old at there marked))

  same_bench : (old new : BenchState) → new ≡ old → slice_get old.links link ≡ Some at → slice_get new.links link ≡ Some at' → IsOutBefore
  same_bench old new same there then_there = same_links old.links new.links (ap (λ (b : BenchState). b.links) same) there then_there

  own_turn : (l : ℕ) (old new : Sides) (takes : TakesTurn l old new) → TurnAsksSo l old new takes → slice_get old.near.links link ≡ Some at
      → slice_get new.near.links link ≡ Some at' → IsOutBefore
  own_turn l old new takes asks there then_there = go (is_out (standing_of at.terminal)) refl
    where
      stopped : is_out (standing_of at.terminal) ≡ false → l ≡ link → IsMarked takes.turns.now
      stopped not same =
          let was : at ≡ takes.turns.was =
          same_Some at takes.turns.was (sym there ∙ ap (λ k. slice_get old.near.links k) (sym same) ∙ takes.turns.is_at) in
          let told : takes.turns.was.terminal.commands.stop ≡ true =
          subst (λ (x : AtLink). x.terminal.commands.stop ≡ true) was (or_right (is_out (standing_of at.terminal)) at.terminal.commands.stop not marked) in
          out_marked takes.turns.now (stop_ends l _ _ _ _ _ _ _ asks.asks told)

      go : (b : Bool) → is_out (standing_of at.terminal) ≡ b → IsOutBefore
      go true is = out_is (standing_of at.terminal) is
      go false not = never new.near.links then_there (turn_marks link l old new takes (stopped not) (each_marked link old.near.links at there marked))

  command_turn : (l : ℕ) (command : Command) (old new : BenchState) → CommandsIf (is_refused l command old) l command old new → slice_get old.links link ≡ Some at
      → slice_get new.links link ≡ Some at' → IsOutBefore
  command_turn l command old new told there then_there =
      never new.links then_there (command_marks (is_refused l command old) link l command old new told (each_marked link old.links at there marked))

  pub unmarks : (end : End) (step : WireStep) (old new : Wires) (happens : Happens step old new) → IsSoundStep step → IfTurn step old new happens
      → slice_get (seen_from end old).near.links link ≡ Some at → slice_get (seen_from end new).near.links link ≡ Some at' → IsOutBefore
  unmarks A (Turn A l) old new takes sound asks there then_there = own_turn l _ _ takes asks there then_there
  unmarks B (Turn B l) old new takes sound asks there then_there = own_turn l _ _ takes asks there then_there
  unmarks A (Turn B l) old new takes sound asks there then_there = same_bench old.a new.a takes.far_is there then_there
  unmarks B (Turn A l) old new takes sound asks there then_there = same_bench old.b new.b takes.far_is there then_there
  unmarks A (CommandStep A l command) old new takes sound asks there then_there = command_turn l command old.a new.a takes.commands there then_there
  unmarks B (CommandStep B l command) old new takes sound asks there then_there = command_turn l command old.b new.b takes.commands there then_there
  unmarks A (CommandStep B l command) old new takes sound asks there then_there = same_bench old.a new.a takes.only.far_is there then_there
  unmarks B (CommandStep A l command) old new takes sound asks there then_there = same_bench old.b new.b takes.only.far_is there then_there
  unmarks A (Ask A who event) old new asked sound asks there then_there = same_links old.a.links new.a.links asked.links_are there then_there
  unmarks B (Ask B who event) old new asked sound asks there then_there = same_links old.b.links new.b.links asked.links_are there then_there
  unmarks A (Ask B who event) old new asked sound asks there then_there = same_bench old.a new.a asked.only.far_is there then_there
  unmarks B (Ask A who event) old new asked sound asks there then_there = same_bench old.b new.b asked.only.far_is there then_there
  unmarks A (Damage A l place octet) old new damaged sound asks there then_there = same_bench old.a new.a damaged.near_is there then_there
  unmarks B (Damage B l place octet) old new damaged sound asks there then_there = same_bench old.b new.b damaged.near_is there then_there
  unmarks A (Damage B l place octet) old new damaged sound asks there then_there = same_bench old.a new.a damaged.far_is there then_there
  unmarks B (Damage A l place octet) old new damaged sound asks there then_there = same_bench old.b new.b damaged.far_is there then_there

-- AN END OF ALL
pub count_at : (count : ℕ) (end : End) (w : Wires) → AreSo count w → length (seen_from end w).near.links ≡ count
count_at count A w so = so.links_a
count_at count B w so = so.links_b

pub each_at : (count : ℕ) (end : End) (w : Wires) → AreSo count w → EachSo (seen_from end w).near
each_at count A w so = so.a
each_at count B w so = so.b

pub in_range : (count : ℕ) (end : End) (w : Wires) (link : ℕ) (at : AtLink) → AreSo count w → slice_get (seen_from end w).near.links link ≡ Some at → link < count
in_range count end w link at so there =
    subst (λ n. link < n) (count_at count end w so) (within (seen_from end w).near.links link at there)

-- WHAT A TURN HEARS is what its step hears
front_turn : (doing : Doing) (is : Bool) (way : Way) → is ≡ true → HearsFront (marks_of (turns_if is doing)) way → HearsFront doing.marks way
front_turn doing true way e h = subst (λ (ms : List Mark). HearsFront ms way) (append-nil doing.marks) h
front_turn doing false way e h = true_false (sym e)

pub one_hears : (count : ℕ) (step : WireStep) (old new : Wires) (happens : Happens step old new) (ways : Ways) → AreSo count old
    → ((end : End) (link : ℕ) → link < count → HearsFront (marks_of (turns_in end link step old new happens)) (ways end link))
    → IfTurnHears step old new happens ways
one_hears count (Turn A link) old new takes ways so hears =
    front_turn (doing_in link _ _ takes) (is_same A A && (link == link)) (ways A link) (itself link)
    (hears A link (in_range count A old link takes.turns.was so takes.turns.is_at))
one_hears count (Turn B link) old new takes ways so hears =
    front_turn (doing_in link _ _ takes) (is_same B B && (link == link)) (ways B link) (itself link)
    (hears B link (in_range count B old link takes.turns.was so takes.turns.is_at))
one_hears count (CommandStep end link command) old new happens ways so hears = tt
one_hears count (Ask end who event) old new happens ways so hears = tt
one_hears count (Damage end link place octet) old new happens ways so hears = tt

none_left : {X : Type 0} (xs : List X) → length xs ≡ 0 → xs ≡ []
none_left [] none = refl
none_left (x ∷ xs) none = absurd (omega (arith, none))

pub settled_fresh : (marked : Bool) (way : Way) → marked ≡ true → (settled_if marked way).fresh ≡ []
settled_fresh true way e = refl
settled_fresh false way e = true_false (sym e)

pub unsettled_old : (marked : Bool) (way : Way) → marked ≡ false → (settled_if marked way).old ≡ way.old
unsettled_old true way e = true_false e
unsettled_old false way e = refl

module _ (a b : EndConfig) (lengths : List LineLengths) (narrow_a : IsNarrowEnd a) (narrow_b : IsNarrowEnd b) (short : AreShort lengths) where
  abbrev count : ℕ
  count = length lengths

  abbrev first_wires : Wires
  first_wires = new_wires a b lengths

  on_lines : (steps : List WireStep) → AreIntact steps → IsOnIntactLines a b steps
  on_lines steps intact = record { narrow_a = narrow_a; narrow_b = narrow_b; intact = intact }

  -- THE MARK of a link that isn't marked: it was out of service, and of what had been sent by then so many units at most
  -- aren't heard as are under way of old
  record Since (end : End) (link : ℕ) (w : Wires) (hears : List Doing) (old : List Carried) : Type 0 where
    pub first : List WireStep
    pub second : List WireStep
    pub mid : Wires
    pub run : IsRun a b lengths first mid
    pub then_on : Happen second mid w
    pub intact : AreIntact first
    pub intact_then : AreIntact second
    pub was : AtLink
    pub was_at : slice_get (seen_from end mid).near.links link ≡ Some was
    pub waits : Waits 4096 was.terminal
    pub hears_are : all_turns end link first first_wires mid run.happen ++ all_turns end link second mid w then_on ≡ hears
    pub few : (old ≡ []) ⊎ (length (marks_of hears) + length old ≤ length (units_of (all_turns (other end) link first first_wires mid run.happen)))

  fewer : (n : ℕ) (old : List Carried) (heard more most : ℕ) → n ≡ more → (old ≡ []) ⊎ (heard + length old ≤ most)
      → (drop n old ≡ []) ⊎ ((heard + more) + length (drop n old) ≤ most)
  fewer zero old heard more most same (inl none) = inl none
  fewer (suc n) old heard more most same (inl none) = inl (ap (λ (cs : List Carried). drop (suc n) cs) none)
  fewer zero old heard more most same (inr few) = inr (omega (arith, few, same))
  fewer (suc n) [] heard more most same (inr few) = inl refl
  fewer (suc n) (c ∷ old) heard more most same (inr few) =
      elim (fewer n old (heard + 1) n most refl (inr (omega (arith, few)))) [
        | inl none ↦ inl none
        | inr less ↦ inr (omega (arith, less, same))
      ]

  since_then : (end : End) (link : ℕ) (step : WireStep) (w new : Wires) (happens : Happens step w new) (hears : List Doing) (old : List Carried) → AreIntact (step ∷ [])
      → length (heard_in (marks_of (turns_in end link step w new happens))) ≡ length (marks_of (turns_in end link step w new happens))
      → Since end link w hears old
      → Since end link new (hears ++ turns_in end link step w new happens) (drop (length (heard_in (marks_of (turns_in end link step w new happens)))) old)
  since_then end link step w new happens hears old intact as_many s =
      let here = turns_in end link step w new happens in
      let on = then_happens s.second step s.mid w new s.then_on happens in
      let marks : length (marks_of (hears ++ here)) ≡ length (marks_of hears) + length (marks_of here) =
      ap length (flat_map-append (λ (d : Doing). d.marks) hears here) ∙ length-append (marks_of hears) (marks_of here) in
      let most = length (units_of (all_turns (other end) link s.first first_wires s.mid s.run.happen)) in
      record {
        first = s.first;
        second = s.second ++ step ∷ [];
        mid = s.mid;
        run = s.run;
        then_on = on.all;
        intact = s.intact;
        intact_then = both_intact s.second (step ∷ []) s.intact_then intact;
        was = s.was;
        was_at = s.was_at;
        waits = s.waits;
        hears_are = ap (λ (ds : List Doing). all_turns end link s.first first_wires s.mid s.run.happen ++ ds) (on.turns end link)
            ∙ sym (append_assoc (all_turns end link s.first first_wires s.mid s.run.happen) (all_turns end link s.second s.mid w s.then_on) here)
            ∙ ap (λ (ds : List Doing). ds ++ here) s.hears_are;
        few = subst (λ n. (drop (length (heard_in (marks_of here))) old ≡ []) ⊎ (n + length (drop (length (heard_in (marks_of here))) old) ≤ most)) (sym marks)
            (fewer (length (heard_in (marks_of here))) old (length (marks_of hears)) (length (marks_of here)) most as_many s.few);
      }

  -- IT'S FLUSHED once it has aligned
  flushed : (end : End) (link : ℕ) (w : Wires) (hears : List Doing) (old : List Carried) (at : AtLink) → Since end link w hears old
      → slice_get (seen_from end w).near.links link ≡ Some at → has_aligned (standing_of at.terminal) ≡ true → old ≡ []
  flushed end link w hears old at s there aligned =
      elim (s.few) [
        | inl none ↦ none
        | inr few ↦ (
            let sent = units_of (all_turns (other end) link s.first first_wires s.mid s.run.happen) in
            let all = each_ready_link_is_flushed a b lengths s.first s.second s.mid w s.run s.then_on short (on_lines s.first s.intact) s.intact_then end link s.was at
            s.was_at s.waits there (not_before at.terminal.state at.terminal.up aligned) in
            let heard : map unit_in (marks_of hears) ≡ map (λ (unit : SignalUnit). Some unit) sent ++ all.0 =
            ap (λ (ds : List Doing). map unit_in (marks_of ds)) (sym s.hears_are) ∙ all.1 in
            none_left old (omega (
              arith,
              few,
              length-map (marks_of hears) unit_in,
              ap length heard,
              length-append (map (λ (unit : SignalUnit). Some unit) sent) all.0,
              length-map sent (λ (unit : SignalUnit). Some unit),
            ))
            )
      ]

  -- STEP BY STEP: what was done so far, and what is under way
  record Kept (first : List WireStep) (w : Wires) (run : IsRun a b lengths first w) (ds : End → ℕ → List Doing) (ways : Ways) : Type 0 where
    pub intact : AreIntact first
    pub turns_are : (end : End) (link : ℕ) → all_turns end link first first_wires w run.happen ≡ ds end link
    pub way : (end : End) (link : ℕ) → link < count → IsUnderWay (ds (other end) link) (ds end link) (ways end link)
    pub settled : (end : End) (link : ℕ) (at : AtLink) → slice_get (seen_from end w).near.links link ≡ Some at → IsMarked at → (ways end link).fresh ≡ []
    pub since : (end : End) (link : ℕ) (at : AtLink) → slice_get (seen_from end w).near.links link ≡ Some at → is_marked (Some at) ≡ false
        → Since end link w (ds end link) (ways end link).old

  are_flushed : (first : List WireStep) (w : Wires) (run : IsRun a b lengths first w) (ds : End → ℕ → List Doing) (ways : Ways) → Kept first w run ds ways → AreFlushed w ways
  are_flushed first w run ds ways k end link at there unmarked aligned =
      flushed end link w (ds end link) (ways end link).old at (k.since end link at there unmarked) there aligned

  -- a link that is out of service is marked now
  marked_now : (first : List WireStep) (w : Wires) (run : IsRun a b lengths first w) (ds : End → ℕ → List Doing) (ways : Ways) → AreSo count w → Kept first w run ds ways
      → (end : End) (link : ℕ) (at : AtLink) → slice_get (seen_from end w).near.links link ≡ Some at → standing_of at.terminal ≡ out
      → Since end link w (ds end link) (ways end link).old
  marked_now first w run ds ways so k end link at there is =
      let way = ways end link in
      let under = k.way end link (in_range count end w link at so there) in
      let sends_are : all_turns (other end) link first first_wires w run.happen ≡ ds (other end) link = k.turns_are (other end) link in
      let none : way.fresh ≡ [] = k.settled end link at there (out_marked at is) in
      record {
        first = first;
        second = [];
        mid = w;
        run = run;
        then_on = refl;
        intact = k.intact;
        intact_then = tt;
        was = at;
        was_at = there;
        waits = waits_out at.terminal (each_at count end w so link at there).ordinary is;
        hears_are = append-nil (all_turns end link first first_wires w run.happen) ∙ k.turns_are end link;
        few = inr (omega (
          arith,
          ap (λ (ds : List Doing). length (units_of ds)) sends_are,
          ap length under.sent_are,
          length-append under.heard (map (λ (c : Carried). c.unit) (carried_in way)),
          length-map (carried_in way) (λ (c : Carried). c.unit),
          length-append way.old way.fresh,
          ap length none,
          length-map (marks_of (ds end link)) unit_in,
          ap length under.heard_are,
          length-map under.heard (λ (unit : SignalUnit). Some unit),
        ));
      }

  module _ (first : List WireStep) (step : WireStep) (old new : Wires) (run : IsRun a b lengths first old) (happens : Happens step old new) (ds : End → ℕ → List Doing) (ways : Ways)
      (sound : IsSoundStep step) (intact : AreIntact (step ∷ [])) (asks : IfTurn step old new happens) (so : AreSo count old) (so' : AreSo count new)
      (k : Kept first old run ds ways) where
    next : IsThen first step first_wires old new run.happen happens
    next = then_happens first step first_wires old new run.happen happens

    abbrev run_then : IsRun a b lengths (first ++ step ∷ []) new
    run_then = record { fitting = run.fitting; happen = next.all }

    abbrev ds' : End → ℕ → List Doing
    ds' = later ds step old new happens

    abbrev ways' : Ways
    ways' = ways_after step old new happens ways

    turns_then : (end : End) (link : ℕ) → all_turns end link (first ++ step ∷ []) first_wires new next.all ≡ ds' end link
    turns_then end link = next.turns end link ∙ ap (λ (es : List Doing). es ++ turns_in end link step old new happens) (k.turns_are end link)

    intact_all : AreIntact (first ++ step ∷ [])
    intact_all = both_intact first (step ∷ []) k.intact intact

    abbrev marked_at : End → ℕ → Bool
    marked_at end link = is_marked (slice_get (seen_from end new).near.links link)

    abbrev heard_at : End → ℕ → ℕ
    heard_at end link = length (heard_in (marks_of (turns_in end link step old new happens)))

    abbrev moved_at : End → ℕ → Way
    moved_at end link = joined_by (sent_in (turns_in (other end) link step old new happens)) (left_by (heard_at end link) (ways end link))

    way_on : (end : End) (link : ℕ) → link < count
        → PassesOn (ds (other end) link) (ds end link) (turns_in (other end) link step old new happens) (turns_in end link step old new happens)
        (marked_at end link) (ways end link)
    way_on end link below =
        passes_on (ds (other end) link) (ds end link) (turns_in (other end) link step old new happens) (turns_in end link step old new happens)
        (marked_at end link) (ways end link) (k.way end link below)
        (subst (λ (es : List Doing). ArePassed es (ds' end link)) (turns_then (other end) link)
        (subst (λ (es : List Doing). ArePassed (all_turns (other end) link (first ++ step ∷ []) first_wires new next.all) es) (turns_then end link)
        (every_unit_is_heard a b lengths (first ++ step ∷ []) new run_then (on_lines (first ++ step ∷ []) intact_all) end link below)))
        (apart end link step old new happens)

    since_on : (end : End) (link : ℕ) (at' : AtLink) → slice_get (seen_from end new).near.links link ≡ Some at' → is_marked (Some at') ≡ false
        → Since end link new (ds' end link) (ways' end link).old
    since_on end link at' there' unmarked =
        subst (λ (cs : List Carried). Since end link new (ds' end link) cs)
        (sym (unsettled_old (marked_at end link) (moved_at end link) (ap is_marked there' ∙ unmarked)))
        (since_then end link step old new happens (ds end link) (ways end link).old intact (way_on end link below).as_many
        (go (is_marked (Some at.0)) refl))
      where
        below : link < count
        below = in_range count end new link at' so' there'

        at : (x : AtLink) × (slice_get (seen_from end old).near.links link ≡ Some x)
        at = there_is (seen_from end old).near.links link (subst (λ n. link < n) (sym (count_at count end old so)) below)

        go : (marked : Bool) → is_marked (Some at.0) ≡ marked → Since end link old (ds end link) (ways end link).old
        go true is = marked_now first old run ds ways so k end link at.0 at.1 (unmarks link at.0 at' is unmarked end step old new happens sound asks at.1 there')
        go false not = k.since end link at.0 at.1 not

    kept_on : Kept (first ++ step ∷ []) new run_then ds' ways'
    kept_on = record {
      intact = intact_all;
      turns_are = turns_then;
      way = λ end link below. (way_on end link below).way;
      settled = λ end link at there marked. settled_fresh (marked_at end link) (moved_at end link) (ap is_marked there ∙ marked);
      since = since_on;
    }

    hears_on : IfTurnHears step old new happens ways
    hears_on = one_hears count step old new happens ways so (λ end link below. (way_on end link below).front)

  record Walked (steps : List WireStep) (old new : Wires) (happen : Happen steps old new) (ds : End → ℕ → List Doing) (ways : Ways) : Type 0 where
    pub along : AreUnderWay steps old new happen ways
    pub at_last : (end : End) (link : ℕ) → link < count
        → IsUnderWay (ds (other end) link ++ all_turns (other end) link steps old new happen) (ds end link ++ all_turns end link steps old new happen)
        (ways_of steps old new happen ways end link)

  walk : (few : count ≤ 16) (steps first : List WireStep) (old new : Wires) (run : IsRun a b lengths first old) (ds : End → ℕ → List Doing) (ways : Ways)
      (happen : Happen steps old new) → AreSound steps → AreIntact steps → AllPlain count steps old new happen → AtEachTurn steps old new happen → AreSo count old
      → Kept first old run ds ways → Walked steps old new happen ds ways
  walk few [] first old new run ds ways same sound intact plain asks so k = record {
    along = subst (λ (w : Wires). AreFlushed w ways) (sym same) (are_flushed first old run ds ways k);
    at_last = λ end link below.
        subst (λ (es : List Doing). IsUnderWay es (ds end link ++ []) (ways end link)) (sym (append-nil (ds (other end) link)))
        (subst (λ (es : List Doing). IsUnderWay (ds (other end) link) es (ways end link)) (sym (append-nil (ds end link))) (k.way end link below));
  }
  walk few (step ∷ steps) first old new run ds ways happen sound intact plain asks so k =
      let parts = λ (end : End) (link : ℕ) (below : link < count).
      plain_parts (turns_in end link step old happen.0 happen.1) (all_turns end link steps happen.0 new happen.2) (plain end link below) in
      let so' = step_so count few step old happen.0 happen.1 sound.0 (λ end link below. (parts end link below).0) so in
      let one : AreIntact (step ∷ []) = (intact.0, tt) in
      let kept = kept_on first step old happen.0 run happen.1 ds ways sound.0 one asks.0 so so' k in
      let ds' : End → ℕ → List Doing = later ds step old happen.0 happen.1 in
      let rest = walk few steps (first ++ step ∷ []) happen.0 new _ ds' (ways_after step old happen.0 happen.1 ways) happen.2
      sound.1 intact.1 (λ end link below. (parts end link below).1) asks.1 so' kept in
      let joins = λ (end : End) (link : ℕ).
      append_assoc (ds end link) (turns_in end link step old happen.0 happen.1) (all_turns end link steps happen.0 new happen.2) in
      record {
        along = (are_flushed first old run ds ways k, hears_on first step old happen.0 run happen.1 ds ways sound.0 one asks.0 so so' k, rest.along);
        at_last = λ end link below.
            subst (λ (es : List Doing). IsUnderWay es (ds end link ++ all_turns end link (step ∷ steps) old new happen)
            (ways_of (step ∷ steps) old new happen ways end link)) (joins (other end) link)
            (subst (λ (es : List Doing). IsUnderWay (ds' (other end) link ++ all_turns (other end) link steps happen.0 new happen.2) es
            (ways_of (step ∷ steps) old new happen ways end link)) (joins end link) (rest.at_last end link below));
      }

-- AT FIRST each link is marked.
new_marked : (lengths : Timers) (n link : ℕ) (at : AtLink) → slice_get (new_links lengths n) link ≡ Some at → IsMarked at
new_marked lengths n link at there =
    let one = each_new lengths n link at there in subst (λ (x : AtLink). IsMarked x) (sym one.is) refl

pub first_marked : (a b : EndConfig) (lengths : List LineLengths) (end : End) (link : ℕ) (at : AtLink)
    → slice_get (seen_from end (new_wires a b lengths)).near.links link ≡ Some at → IsMarked at
first_marked a b lengths A link at there = new_marked a.timers a.set.links link at there
first_marked a b lengths B link at there = new_marked b.timers b.set.links link at there

-- THE LAW.
pub each_way : EachWayIsUnderWay
each_way a b lengths steps w run =
    let start = new_wires a b lengths in
    let none : IsRun a b lengths [] start = record { fitting = run.run.fitting; happen = refl } in
    let walked = walk a b lengths run.so.lines.narrow_a run.so.lines.narrow_b run.so.short (few_links a b lengths steps w run) steps [] start w none (λ end link. []) no_ways
    run.run.happen run.so.sound run.so.lines.intact (all_plain a b lengths steps w run) (each_turn a b lengths steps w run) (first_so a b lengths steps w run) (record {
      intact = tt;
      turns_are = λ end link. refl;
      way = λ end link below. record { heard = []; sent_are = refl; heard_are = refl };
      settled = λ end link at there marked. refl;
      since = λ end link at there unmarked. true_false (sym (first_marked a b lengths end link at there) ∙ unmarked);
    }) in
    record { along = walked.along; at_last = walked.at_last }
