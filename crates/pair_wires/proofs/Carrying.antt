-- EVERY SOUND RUN CARRIES STREAMS (`carries`): the world follows the wires step by step (`step_follows`), so in it users take of each stream
-- the first of what was offered (pair_rises), and so do those at the wires (Read.antt).
use Rattle.std.proofs.Common.{refl, arith, ap, sym, subst, ◌≡◌, ◌∙◌, ◌<◌, ◌≤◌, ◌-◌, ℕ, ◌+◌, ◌==◌, Bool, true, false, List, [], ◌∷◌, ◌++◌, length, map, take, slice_get, Option, Some, None, append-nil}
use Rattle.std.proofs.lemmas.Bool.Decides.{nat_tests}
use Rattle.std.proofs.lemmas.List.{get_or-replicate, length-append, length-map, length-replicate}
use Rattle.std.proofs.lemmas.Option.{slice_get_cases}
use Rattle.l2_bits.specs.declared.marks.Mark.{Mark}
use Rattle.l2_units.specs.declared.profile.Profile.TheVariants.{Narrow}
use Rattle.l2_units.specs.declared.unit.Unit.{Unit as SignalUnit}
use Rattle.set_events.specs.declared.answer.Answer.{Answer}
use Rattle.set_events.specs.declared.config.Method.{Method}
use Rattle.set_events.specs.declared.config.SetConfig.{SetConfig}
use Rattle.set_events.specs.declared.event.Actor.{Actor}
use Rattle.set_events.specs.declared.event.Event.{Event}
use Rattle.set_events.specs.declared.history.Entry.{Entry}
use Rattle.set_model.specs.Checkpoint.{counts_in}
use Rattle.set_model.specs.History.{Base, LinkSet, IsStep, entries_in, entries_of, longest_history}
use Rattle.set_model.specs.State.{State, is_up, new_state}
use Rattle.set_model.specs.Step.{step}
use Rattle.set_model.proofs.Places.{apart_back}
use Rattle.term_asks.specs.Asking.{Standing, out, waiting}
use Rattle.term_bench.specs.Ends.{AtLink, BenchState, new_bench, new_links}
use Rattle.term_model.specs.Hearing.{unit_in}
use Rattle.term_model.specs.Runs.{Doing, marks_of}
use Rattle.term_model.specs.declared.timers.Timers.{Timers}
use Rattle.pair_steps.specs.Lines.{no_units, units_of, units_on}
use Rattle.pair_steps.specs.declared.step.End.{End}
use Rattle.pair_steps.specs.declared.step.End.TheVariants.{A, B}
use Rattle.pair_model.specs.World.{World, is_full, line_to}
use Rattle.pair_streams.specs.Arrived.{AreDone, HandsOutAll, IsIdle}
use Rattle.pair_model.specs.Promises.{IsOneMethod}
use Rattle.pair_rises.specs.Rises.{Rising, inside, open_at, opening}
use Rattle.pair_octets.specs.Passing.{IsNarrowEnd, doing_in, all_turns, turns_if, turns_in}
use Rattle.pair_octets.specs.Passing.{other as passing_other}
use Rattle.pair_octets.specs.Streams.{IsOneMethod as OctetMethod}
use Rattle.pair_octets.specs.Streams.{Arrives, AreSound, IsSoundRun, IsSoundStep, IsSoundly}
use Rattle.pair_octets.specs.Wires.{Wires, Sides, Happen, Happens, IsRun, TakesTurn, is_refused, new_wires, seen_from}
use Rattle.pair_octets.specs.declared.step.EndConfig.{EndConfig}
use Rattle.pair_octets.specs.declared.step.LineLengths.{LineLengths}
use Rattle.pair_octets.specs.declared.step.WireStep.{WireStep}
use Rattle.pair_octets.specs.declared.step.WireStep.TheVariants.{Turn, Command as CommandStep, Ask, Damage}
use Rattle.pair_wires.specs.Carrying.{CarriesStreams, EverySoundRunCarriesStreams, HaveRoom, IsCarried, IsNonePending}
use Rattle.pair_wires.specs.Following.{Follows}
use Rattle.pair_wires.specs.Turning.{AtEachTurn, IfTurn, TurnAsksSo}
use Rattle.pair_wires.specs.Ways.{AreFlushed, AreUnderWay, Carried, Counts, HearsFront, HearsSome, no_more, is_good, IfTurnHears, Way, Ways, carried_in, heard_in, is_marked, joined_by, left_by, no_ways, sent_by, sent_in, settled_if, ways_after, ways_by}
use Rattle.pair_wires.proofs.Ending.{EndFollows, TurnFollows, stands_in}
use Rattle.pair_wires.proofs.Flushed.{each_way}
use Rattle.pair_wires.proofs.Going.{with_entry}
use Rattle.pair_wires.proofs.Reached.{first_reached, hands_out_idle, users_take}
use Rattle.pair_wires.proofs.Read.{arrives_whole, read_off}
use Rattle.pair_wires.proofs.Starting.{AllPlain, AreSo, all_plain, down_first, each_new, itself, links_few, plain_parts, so_first, step_so}
use Rattle.pair_wires.proofs.Ways.{heard_is}
use Rattle.pair_wires.proofs.Turned.{entries_room, retold}
use Rattle.pair_wires.proofs.Turning.{each_turn}
use Rattle.pair_wires.proofs.Stepping.{ask_so_far, asks_on, command_stands, flip_going, flop_going, Followed, renamed, rests, same_set, same_stands, SameStands, still_way, turn_so_far}

turn_grows : (l : ℕ) (old new : Sides) (takes : TakesTurn l old new) → entries_in old.near.set ≤ entries_in new.near.set
turn_grows l old new takes =
    let base = takes.turns.takes.base_is in
    let more : length new.near.set.history ≡ length old.near.set.history + length takes.turns.takes.entries =
    ap (λ (es : List Entry). length es) takes.turns.takes.history_is ∙ length-append old.near.set.history takes.turns.takes.entries in
    let same : entries_in new.near.set ≡ entries_of old.near.set.base new.near.set.history = ap (λ (x : Base). entries_of x new.near.set.history) base in
    omega (arith, more, same)

same_grows : (old new : BenchState) → new ≡ old → entries_in old.set ≤ entries_in new.set
same_grows old new same = let is : entries_in new.set ≡ entries_in old.set = ap (λ (x : BenchState). entries_in x.set) same in omega (arith, is)

sets_grow : (old new : BenchState) → new.set ≡ old.set → entries_in old.set ≤ entries_in new.set
sets_grow old new same = let is : entries_in new.set ≡ entries_in old.set = ap entries_in same in omega (arith, is)

step_grows : (old new : LinkSet) (who : Actor) (event : Event) (answer : Answer) → IsStep old who event answer new → entries_in old ≤ entries_in new
step_grows old new who event answer is =
    let more : length new.history ≡ length old.history + 1 = ap (λ (es : List Entry). length es) is.history_is ∙ length-append old.history (record { who = who; event = event; answer = answer } ∷ []) in
    let same : entries_in new ≡ entries_of old.base new.history = ap (λ (x : Base). entries_of x new.history) is.base_is in
    omega (arith, more, same)

-- SO MANY UNITS COME in each step, in turns alone, and some of them are heard; and each link that has aligned is flushed
abbrev pub IfTurnComes : (step : WireStep) (old new : Wires) → Happens step old new → Counts → Ways → Type 0
IfTurnComes (Turn end link) old new takes counts ways = HearsSome takes.turns.takes.by_octet.marks (take (counts end link) (carried_in (ways end link)))
IfTurnComes (CommandStep end link command) old new happens counts ways = Unit {0}
IfTurnComes (Ask end who event) old new happens counts ways = Unit {0}
IfTurnComes (Damage end link place octet) old new happens counts ways = Unit {0}

abbrev pub OfTurns : (step : WireStep) (old new : Wires) → Happens step old new → Counts → Type 0
OfTurns step old new happens counts = (end : End) (link : ℕ) → turns_in end link step old new happens ≡ [] → counts end link ≡ 0

abbrev pub IsCourse : (steps : List WireStep) (old new : Wires) → Happen steps old new → Ways → Type 0
IsCourse [] old new happen ways = Unit {0}
IsCourse (step ∷ steps) old new happen ways =
    (counts : Counts) × OfTurns step old happen.0 happen.1 counts × IfTurnComes step old happen.0 happen.1 counts ways × AreFlushed old ways
    × IsCourse steps happen.0 new happen.2 (ways_by counts step old happen.0 happen.1 ways)

-- STEPS
still_at : (step : WireStep) (old new : Wires) (happens : Happens step old new) (counts : Counts) (ways : Ways) (end : End) (link : ℕ)
    → counts end link ≡ 0 → turns_in (passing_other end) link step old new happens ≡ []
    → ways_by counts step old new happens ways end link ≡ settled_if (is_marked (slice_get (seen_from end new).near.links link)) (ways end link)
still_at step old new happens counts ways end link none far =
    ap (λ (ds : List Doing). settled_if (is_marked (slice_get (seen_from end new).near.links link)) (joined_by (sent_in ds) (left_by (counts end link) (ways end link)))) far
    ∙ ap (λ (k : ℕ). settled_if (is_marked (slice_get (seen_from end new).near.links link)) (joined_by [] (left_by k (ways end link)))) none
    ∙ ap (settled_if (is_marked (slice_get (seen_from end new).near.links link))) (still_way (ways end link))

sent_one : (doing : Doing) (c : Bool) → c ≡ true → sent_in (turns_if c doing) ≡ sent_by doing
sent_one doing true e = append-nil (sent_by doing)
sent_one doing false e = absurd (let wrong : true ≡ false = sym e in cc)

none_taken : (doing : Doing) (c : Bool) → c ≡ false → turns_if c doing ≡ []
none_taken doing false e = refl
none_taken doing true e = absurd (let wrong : true ≡ false = e in cc)

none_sent : (doing : Doing) (c : Bool) → c ≡ false → sent_in (turns_if c doing) ≡ []
none_sent doing c e = ap sent_in (none_taken doing c e)

-- damage changes neither end
damage_near : (end : End) (link place octet : ℕ) (old new : Wires) → Happens (Damage end link place octet) old new → new.a ≡ old.a
damage_near A link place octet old new damaged = damaged.near_is
damage_near B link place octet old new damaged = damaged.far_is

damage_far : (end : End) (link place octet : ℕ) (old new : Wires) → Happens (Damage end link place octet) old new → new.b ≡ old.b
damage_far A link place octet old new damaged = damaged.far_is
damage_far B link place octet old new damaged = damaged.near_is

-- what is as it was
end_with : (g : Rising) (mine theirs : End) (count : ℕ) (near near' far far' : BenchState) (ways : ℕ → Way) → near' ≡ near → far' ≡ far
    → EndFollows g mine theirs count near far ways → EndFollows g mine theirs count near' far' ways
end_with g mine theirs count near near' far far' ways x y f =
    subst (λ (z : BenchState). EndFollows g mine theirs count z far' ways) (sym x) (subst (λ (z : BenchState). EndFollows g mine theirs count near z ways) (sym y) f)

module _ (a b : SetConfig) (count : ℕ) (few : count ≤ 16) where
  -- a turn of either end
  turned_a : (l : ℕ) (old new : Wires) (takes : TakesTurn l (seen_from A old) (seen_from A new)) (counts : Counts) (ways : Ways)
      → TurnAsksSo l (seen_from A old) (seen_from A new) takes → OfTurns (Turn A l) old new takes counts
      → HearsSome takes.turns.takes.by_octet.marks (take (counts A l) (carried_in (ways A l))) → AreFlushed old ways → AreSo count old → entries_in new.a.set ≤ longest_history
      → Followed a b count old ways → Followed a b count new (ways_by counts (Turn A l) old new takes ways)
  turned_a l old new takes counts ways asks of_turns hears flushed so room f = record {
    going = renamed a b A new.a.set new.b.set new.a.set old.b.set t.going refl (ap (λ (x : BenchState). x.set) (sym takes.far_is));
    at_a = end_with t.going.g A B count new.a new.a old.b new.b _ refl takes.far_is t.near_follows;
    at_b = end_with t.going.g B A count old.b new.b new.a new.a _ takes.far_is refl t.far_follows;
  }
    where
      doing : Doing
      doing = doing_in l (seen_from A old) (seen_from A new) takes

      after : Ways
      after = ways_by counts (Turn A l) old new takes ways

      marked_b : (m : ℕ) → is_marked (slice_get new.b.links m) ≡ is_marked (slice_get old.b.links m)
      marked_b m = ap (λ (x : BenchState). is_marked (slice_get x.links m)) takes.far_is

      t : TurnFollows a b A count new.a old.b (after A) (after B)
      t = turn_so_far a b A l count (seen_from A old) (seen_from A new) takes asks f.going (ways A) (ways B) (after A) (after B)
          f.at_a f.at_b so.a so.b so.links_a room (counts A l) hears (λ unmarked is. flushed A l takes.turns.was takes.turns.is_at unmarked is)
          refl
          (λ m apart. ap (λ (k : ℕ). settled_if (is_marked (slice_get new.a.links m)) (joined_by [] (left_by k (ways A m))))
          (of_turns A m (none_taken doing (m == l) (apart_back l m apart))))
          (ap (λ (k : ℕ). settled_if (is_marked (slice_get new.b.links l)) (joined_by (sent_in (turns_if (l == l) doing)) (left_by k (ways B l)))) (of_turns B l refl)
          ∙ ap (λ (cs : List Carried). settled_if (is_marked (slice_get new.b.links l)) (joined_by cs (left_by 0 (ways B l)))) (sent_one doing (l == l) (itself l))
          ∙ ap (λ (c : Bool). settled_if c (joined_by (sent_by doing) (left_by 0 (ways B l)))) (marked_b l))
          (λ m apart. ap (λ (k : ℕ). settled_if (is_marked (slice_get new.b.links m)) (joined_by (sent_in (turns_if (m == l) doing)) (left_by k (ways B m)))) (of_turns B m refl)
          ∙ ap (λ (cs : List Carried). settled_if (is_marked (slice_get new.b.links m)) (joined_by cs (left_by 0 (ways B m)))) (none_sent doing (m == l) (apart_back l m apart))
          ∙ ap (λ (c : Bool). settled_if c (joined_by [] (left_by 0 (ways B m)))) (marked_b m))

  turned_b : (l : ℕ) (old new : Wires) (takes : TakesTurn l (seen_from B old) (seen_from B new)) (counts : Counts) (ways : Ways)
      → TurnAsksSo l (seen_from B old) (seen_from B new) takes → OfTurns (Turn B l) old new takes counts
      → HearsSome takes.turns.takes.by_octet.marks (take (counts B l) (carried_in (ways B l))) → AreFlushed old ways → AreSo count old → entries_in new.b.set ≤ longest_history
      → Followed a b count old ways → Followed a b count new (ways_by counts (Turn B l) old new takes ways)
  turned_b l old new takes counts ways asks of_turns hears flushed so room f = record {
    going = renamed a b A new.a.set new.b.set old.a.set new.b.set (flop_going a b old.a.set new.b.set t.going) (ap (λ (x : BenchState). x.set) (sym takes.far_is)) refl;
    at_a = end_with t.going.g A B count old.a new.a new.b new.b _ takes.far_is refl t.far_follows;
    at_b = end_with t.going.g B A count new.b new.b old.a new.a _ refl takes.far_is t.near_follows;
  }
    where
      doing : Doing
      doing = doing_in l (seen_from B old) (seen_from B new) takes

      after : Ways
      after = ways_by counts (Turn B l) old new takes ways

      marked_a : (m : ℕ) → is_marked (slice_get new.a.links m) ≡ is_marked (slice_get old.a.links m)
      marked_a m = ap (λ (x : BenchState). is_marked (slice_get x.links m)) takes.far_is

      t : TurnFollows a b B count new.b old.a (after B) (after A)
      t = turn_so_far a b B l count (seen_from B old) (seen_from B new) takes asks (flip_going a b old.a.set old.b.set f.going) (ways B) (ways A)
          (after B) (after A)
          f.at_b f.at_a so.b so.a so.links_b room (counts B l) hears (λ unmarked is. flushed B l takes.turns.was takes.turns.is_at unmarked is)
          refl
          (λ m apart. ap (λ (k : ℕ). settled_if (is_marked (slice_get new.b.links m)) (joined_by [] (left_by k (ways B m))))
          (of_turns B m (none_taken doing (m == l) (apart_back l m apart))))
          (ap (λ (k : ℕ). settled_if (is_marked (slice_get new.a.links l)) (joined_by (sent_in (turns_if (l == l) doing)) (left_by k (ways A l)))) (of_turns A l refl)
          ∙ ap (λ (cs : List Carried). settled_if (is_marked (slice_get new.a.links l)) (joined_by cs (left_by 0 (ways A l)))) (sent_one doing (l == l) (itself l))
          ∙ ap (λ (c : Bool). settled_if c (joined_by (sent_by doing) (left_by 0 (ways A l)))) (marked_a l))
          (λ m apart. ap (λ (k : ℕ). settled_if (is_marked (slice_get new.a.links m)) (joined_by (sent_in (turns_if (m == l) doing)) (left_by k (ways A m)))) (of_turns A m refl)
          ∙ ap (λ (cs : List Carried). settled_if (is_marked (slice_get new.a.links m)) (joined_by cs (left_by 0 (ways A m)))) (none_sent doing (m == l) (apart_back l m apart))
          ∙ ap (λ (c : Bool). settled_if c (joined_by [] (left_by 0 (ways A m)))) (marked_a m))

  -- a command
  commanded : (old new : Wires) (step : WireStep) (happens : Happens step old new) (counts : Counts) (ways : Ways)
      → ((e : End) (m : ℕ) → ways_by counts step old new happens ways e m ≡ settled_if (is_marked (slice_get (seen_from e new).near.links m)) (ways e m))
      → SameStands old.a new.a → SameStands old.b new.b → Followed a b count old ways → Followed a b count new (ways_by counts step old new happens ways)
  commanded old new step happens counts ways still x y f = record {
    going = renamed a b A new.a.set new.b.set old.a.set old.b.set f.going (sym x.set_is) (sym y.set_is);
    at_a = rests f.going.g A B count old.a new.a old.b new.b (ways A) _ x.set_is y.set_is x.stands x.marks (still A) f.at_a;
    at_b = rests f.going.g B A count old.b new.b old.a new.a (ways B) _ y.set_is x.set_is y.stands y.marks (still B) f.at_b;
  }

  -- what is asked
  entry_is : (old new : LinkSet) (who : Actor) (event : Event) (answer : Answer) (is : IsStep old who event answer new)
      → with_entry old (record { who = who; event = event; answer = answer }) ≡ new
  entry_is old new who event answer is = same_set _ new (sym is.base_is) (sym is.state_is) (sym is.history_is)

  asked_room : (old new : LinkSet) (who : Actor) (event : Event) (answer : Answer) → IsStep old who event answer new → entries_in new ≤ longest_history → is_full old ≡ false
  asked_room old new who event answer is room =
      let same = entry_is old new who event answer is in
      let more : entries_in new ≡ entries_in old + 1 = ap entries_in (sym same) ∙ entries_room old (record { who = who; event = event; answer = answer } ∷ []) in
      grind (arith, nat_tests, room, more)

  step_follows : (step : WireStep) (old new : Wires) (happens : Happens step old new) (counts : Counts) (ways : Ways) → IsSoundStep step → IfTurn step old new happens
      → OfTurns step old new happens counts → IfTurnComes step old new happens counts ways → AreFlushed old ways → AreSo count old → HaveRoom new
      → Followed a b count old ways → Followed a b count new (ways_by counts step old new happens ways)
  step_follows (Turn A l) old new takes counts ways sound asks of_turns hears flushed so room f = turned_a l old new takes counts ways asks of_turns hears flushed so room.a f
  step_follows (Turn B l) old new takes counts ways sound asks of_turns hears flushed so room f = turned_b l old new takes counts ways asks of_turns hears flushed so room.b f
  step_follows (CommandStep A l command) old new takes counts ways sound asks of_turns hears flushed so room f =
      commanded old new (CommandStep A l command) takes counts ways (λ e m. still_at (CommandStep A l command) old new takes counts ways e m (of_turns e m refl) refl)
      (command_stands (is_refused l command old.a) l command old.a new.a takes.commands) (same_stands old.b new.b takes.only.far_is) f
  step_follows (CommandStep B l command) old new takes counts ways sound asks of_turns hears flushed so room f =
      commanded old new (CommandStep B l command) takes counts ways (λ e m. still_at (CommandStep B l command) old new takes counts ways e m (of_turns e m refl) refl)
      (same_stands old.a new.a takes.only.far_is) (command_stands (is_refused l command old.b) l command old.b new.b takes.commands) f
  step_follows (Ask A who event) old new asked counts ways sound asks of_turns hears flushed so room f =
      let entry : Entry = record { who = who; event = event; answer = asked.answer } in
      let on = asks_on a b A old.a.set old.b.set f.going count entry sound asked.is_step.answer_is (asked_room old.a.set new.a.set who event asked.answer asked.is_step room.a) in
      let t = ask_so_far a b A count old.a new.a old.b f.going (ways A) (ways B) (ways_by counts (Ask A who event) old new asked ways A) (ways_by counts (Ask A who event) old new asked ways B)
      entry sound on (entry_is old.a.set new.a.set who event asked.answer asked.is_step) asked.links_are
      (λ m. still_at (Ask A who event) old new asked counts ways A m (of_turns A m refl) refl)
      (λ m. still_at (Ask A who event) old new asked counts ways B m (of_turns B m refl) refl ∙ ap (λ (x : BenchState). settled_if (is_marked (slice_get x.links m)) (ways B m)) asked.only.far_is)
      f.at_a f.at_b in
      record {
        going = renamed a b A new.a.set new.b.set new.a.set old.b.set t.going refl (ap (λ (x : BenchState). x.set) (sym asked.only.far_is));
        at_a = end_with t.going.g A B count new.a new.a old.b new.b _ refl asked.only.far_is t.near_follows;
        at_b = end_with t.going.g B A count old.b new.b new.a new.a _ asked.only.far_is refl t.far_follows;
      }
  step_follows (Ask B who event) old new asked counts ways sound asks of_turns hears flushed so room f =
      let entry : Entry = record { who = who; event = event; answer = asked.answer } in
      let w = flip_going a b old.a.set old.b.set f.going in
      let on = asks_on a b B old.b.set old.a.set w count entry sound asked.is_step.answer_is (asked_room old.b.set new.b.set who event asked.answer asked.is_step room.b) in
      let t = ask_so_far a b B count old.b new.b old.a w (ways B) (ways A) (ways_by counts (Ask B who event) old new asked ways B) (ways_by counts (Ask B who event) old new asked ways A)
      entry sound on (entry_is old.b.set new.b.set who event asked.answer asked.is_step) asked.links_are
      (λ m. still_at (Ask B who event) old new asked counts ways B m (of_turns B m refl) refl)
      (λ m. still_at (Ask B who event) old new asked counts ways A m (of_turns A m refl) refl ∙ ap (λ (x : BenchState). settled_if (is_marked (slice_get x.links m)) (ways A m)) asked.only.far_is)
      f.at_b f.at_a in
      record {
        going = renamed a b A new.a.set new.b.set old.a.set new.b.set (flop_going a b old.a.set new.b.set t.going) (ap (λ (x : BenchState). x.set) (sym asked.only.far_is)) refl;
        at_a = end_with t.going.g A B count old.a new.a new.b new.b _ asked.only.far_is refl t.far_follows;
        at_b = end_with t.going.g B A count new.b new.b old.a new.a _ refl asked.only.far_is t.near_follows;
      }
  step_follows (Damage end link place octet) old new damaged counts ways sound asks of_turns hears flushed so room f =
      commanded old new (Damage end link place octet) damaged counts ways (λ e m. still_at (Damage end link place octet) old new damaged counts ways e m (of_turns e m refl) refl)
      (same_stands old.a new.a (damage_near end link place octet old new damaged)) (same_stands old.b new.b (damage_far end link place octet old new damaged)) f

-- ROOM: a history only grows
grows : (step : WireStep) (old new : Wires) → Happens step old new → (entries_in old.a.set ≤ entries_in new.a.set) × (entries_in old.b.set ≤ entries_in new.b.set)
grows (Turn A l) old new takes = (turn_grows l _ _ takes, same_grows old.b new.b takes.far_is)
grows (Turn B l) old new takes = (same_grows old.a new.a takes.far_is, turn_grows l _ _ takes)
grows (CommandStep A l command) old new takes =
    (sets_grow old.a new.a (command_stands (is_refused l command old.a) l command old.a new.a takes.commands).set_is, same_grows old.b new.b takes.only.far_is)
grows (CommandStep B l command) old new takes =
    (same_grows old.a new.a takes.only.far_is, sets_grow old.b new.b (command_stands (is_refused l command old.b) l command old.b new.b takes.commands).set_is)
grows (Ask A who event) old new asked = (step_grows old.a.set new.a.set who event asked.answer asked.is_step, same_grows old.b new.b asked.only.far_is)
grows (Ask B who event) old new asked = (same_grows old.a new.a asked.only.far_is, step_grows old.b.set new.b.set who event asked.answer asked.is_step)
grows (Damage A l place octet) old new damaged = (same_grows old.a new.a damaged.near_is, same_grows old.b new.b damaged.far_is)
grows (Damage B l place octet) old new damaged = (same_grows old.a new.a damaged.far_is, same_grows old.b new.b damaged.near_is)

all_grow : (steps : List WireStep) (old new : Wires) → Happen steps old new → (entries_in old.a.set ≤ entries_in new.a.set) × (entries_in old.b.set ≤ entries_in new.b.set)
all_grow [] old new same =
    let x : entries_in new.a.set ≡ entries_in old.a.set = ap (λ (w : Wires). entries_in w.a.set) same in
    let y : entries_in new.b.set ≡ entries_in old.b.set = ap (λ (w : Wires). entries_in w.b.set) same in (omega (arith, x), omega (arith, y))
all_grow (step ∷ steps) old new happen =
    let one = grows step old happen.0 happen.1 in
    let x = one.0 in let y = one.1 in
    let rest = all_grow steps happen.0 new happen.2 in
    let x' = rest.0 in let y' = rest.1 in (omega (arith, x, x'), omega (arith, y, y'))

-- ALL STEPS
module _ (a b : SetConfig) (count : ℕ) (few : count ≤ 16) where
  pub steps_follow : (steps : List WireStep) (old new : Wires) (happen : Happen steps old new) (ways : Ways) → AreSound steps → AllPlain count steps old new happen
      → AtEachTurn steps old new happen → IsCourse steps old new happen ways → AreSo count old → HaveRoom new → Followed a b count old ways
      → (ways' : Ways) × Followed a b count new ways'
  steps_follow [] old new same ways sound plain asks course so room f = (ways, subst (λ (w : Wires). Followed a b count w ways) (sym same) f)
  steps_follow (step ∷ steps) old new happen ways sound plain asks course so room f =
      let mid = happen.0 in
      let parts = λ (end : End) (link : ℕ) (in_range : link < count).
      plain_parts (turns_in end link step old mid happen.1) (all_turns end link steps mid new happen.2) (plain end link in_range) in
      let grow = all_grow steps mid new happen.2 in
      let x = grow.0 in let y = grow.1 in
      let room_a = room.a in let room_b = room.b in
      let room_mid : HaveRoom mid = record { a = omega (arith, x, room_a); b = omega (arith, y, room_b) } in
      steps_follow steps mid new happen.2 (ways_by course.0 step old mid happen.1 ways) sound.1 (λ end link in_range. (parts end link in_range).1) asks.1 course.4
      (step_so count few step old mid happen.1 sound.0 (λ end link in_range. (parts end link in_range).0) so) room
      (step_follows a b count few step old mid happen.1 course.0 ways sound.0 asks.0 course.1 course.2 course.3 so room_mid f)

-- ON INTACT LINES those come that are heard
some_units : (cs : List Carried) → map (λ (unit : SignalUnit). Some unit) (map (λ (c : Carried). c.unit) cs) ≡ map (λ (c : Carried). Some c.unit) cs
some_units [] = refl
some_units (c ∷ cs) = ap (λ (us : List (Option SignalUnit)). Some c.unit ∷ us) (some_units cs)

all_good : (marks : List Mark) (cs : List Carried) → map unit_in marks ≡ map (λ (c : Carried). Some c.unit) cs → HearsSome marks cs
all_good [] [] same = no_more refl refl
all_good [] (c ∷ cs) same = absurd cc
all_good (mark ∷ marks) [] same = absurd cc
all_good (mark ∷ marks) (c ∷ cs) same =
    let first : unit_in mark ≡ Some c.unit = cc in
    let rest : map unit_in marks ≡ map (λ (c : Carried). Some c.unit) cs = cc in
    is_good mark c refl refl first (all_good marks cs rest)

pub take_front : (xs ys : List Carried) → take (length xs) (xs ++ ys) ≡ xs
take_front [] ys = refl
take_front (x ∷ xs) ys = ap (λ (cs : List Carried). x ∷ cs) (take_front xs ys)

front_some : (marks : List Mark) (way : Way) → HearsFront marks way → HearsSome marks (take (length (heard_in marks)) (carried_in way))
front_some marks way h =
    subst (λ (cs : List Carried). HearsSome marks cs)
    (sym (ap (λ (k : ℕ). take k (carried_in way)) many ∙ ap (λ (cs : List Carried). take (length h.heard) cs) h.way_is ∙ take_front h.heard h.rest))
    (all_good marks h.heard h.heard_are)
  where
    many : length (heard_in marks) ≡ length h.heard
    many =
        ap (λ (us : List SignalUnit). length us) (heard_is marks (map (λ (c : Carried). c.unit) h.heard) (h.heard_are ∙ sym (some_units h.heard)))
        ∙ length-map h.heard (λ (c : Carried). c.unit)

abbrev pub heard_counts : (step : WireStep) (old new : Wires) → Happens step old new → Counts
heard_counts step old new happens end link = length (heard_in (marks_of (turns_in end link step old new happens)))

turn_some : (marks : List Mark) (doing : Doing) (c : Bool) (way : Way) → c ≡ true → doing.marks ≡ marks → HearsFront marks way
    → HearsSome marks (take (length (heard_in (marks_of (turns_if c doing)))) (carried_in way))
turn_some marks doing c way e same h =
    subst (λ (ms : List Mark). HearsSome marks (take (length (heard_in ms)) (carried_in way))) (sym (marks_one c e)) (front_some marks way h)
  where
    marks_one : (c : Bool) → c ≡ true → marks_of (turns_if c doing) ≡ marks
    marks_one true e = append-nil doing.marks ∙ same
    marks_one false e = absurd (let wrong : true ≡ false = sym e in cc)

pub some_come : (step : WireStep) (old new : Wires) (happens : Happens step old new) (ways : Ways) → IfTurnHears step old new happens ways
    → IfTurnComes step old new happens (heard_counts step old new happens) ways
some_come (Turn A l) old new takes ways hears = turn_some takes.turns.takes.by_octet.marks (doing_in l _ _ takes) (l == l) (ways A l) (itself l) refl hears
some_come (Turn B l) old new takes ways hears = turn_some takes.turns.takes.by_octet.marks (doing_in l _ _ takes) (l == l) (ways B l) (itself l) refl hears
some_come (CommandStep end link command) old new happens ways hears = tt
some_come (Ask end who event) old new happens ways hears = tt
some_come (Damage end link place octet) old new happens ways hears = tt

intact_course : (steps : List WireStep) (old new : Wires) (happen : Happen steps old new) (ways : Ways) → AreUnderWay steps old new happen ways
    → IsCourse steps old new happen ways
intact_course [] old new happen ways under = tt
intact_course (step ∷ steps) old new happen ways under = (
  heard_counts step old happen.0 happen.1,
  λ end link none. ap (λ (ds : List Doing). length (heard_in (marks_of ds))) none,
  some_come step old happen.0 happen.1 ways under.1,
  under.0,
  intact_course steps happen.0 new happen.2 (ways_after step old happen.0 happen.1 ways) under.2,
)

-- AT FIRST nothing is under way, and no link is up.
nothing_on : (n l : ℕ) → units_on l (no_units n) ≡ []
nothing_on n l = go (slice_get (no_units n) l) refl
  where
    go : (found : Option (List SignalUnit)) → slice_get (no_units n) l ≡ found → units_of found ≡ []
    go None e = refl
    go (Some units) e = grind (arith, e, slice_get_cases (no_units n) l, get_or-replicate, length-replicate)

module _ (link : ℕ) (s t : State) (down : is_up link s ≡ false) where
  blank : (line : List SignalUnit) (st : Standing) (marked : Bool) → line ≡ [] → st ≡ out → Follows inside inside link s t line st marked (record { old = []; fresh = [] })
  blank line st marked none is = record {
    gone = [];
    carries = sym none;
    made_old = tt;
    made_fresh = tt;
    aged = λ on. ([], refl);
    calm = λ starting unmarked never. refl;
    joins = λ starting unmarked some. let wrong : false ≡ true = some in absurd cc;
    ordered = λ on. tt;
    unheard = λ up some. let wrong : false ≡ true = some in absurd cc;
    unsent = λ waits. none;
    first = λ waits up. let wrong : true ≡ false = sym up ∙ down in absurd cc;
  }

first_stands : (lengths : Timers) (n m : ℕ) → stands_in (slice_get (new_links lengths n) m) ≡ out
first_stands lengths n m = go (slice_get (new_links lengths n) m) refl
  where
    go : (found : Option AtLink) → slice_get (new_links lengths n) m ≡ found → stands_in found ≡ out
    go None e = refl
    go (Some at) e = ap (λ (x : AtLink). stands_in (Some x)) (each_new lengths n m at e).is

first_lines : (config : SetConfig) → length (new_state config).links ≡ config.links
first_lines config = length-replicate config.links _

first_end : (config other_config : EndConfig) (count : ℕ) (g : Rising) (mine theirs : End) → ((m : ℕ) → open_at g mine m ≡ inside) → ((m : ℕ) → open_at g theirs m ≡ inside)
    → ((m : ℕ) → line_to g.stage.world mine m ≡ []) → config.set.profile ≡ Narrow → config.set.links ≡ count
    → EndFollows g mine theirs count (new_bench config.set config.timers) (new_bench other_config.set other_config.timers) (λ m. record { old = []; fresh = [] })
first_end config other_config count g mine theirs x y lines profile links = record {
  each = λ m.
      retold inside (open_at g mine m) inside (open_at g theirs m) m (new_state config.set) (new_state other_config.set) [] (line_to g.stage.world mine m)
      (stands_in (slice_get (new_links config.timers config.set.links) m)) (is_marked (slice_get (new_links config.timers config.set.links) m)) (record { old = []; fresh = [] })
      (x m) (y m) (lines m)
      (blank m (new_state config.set) (new_state other_config.set) (down_first config.set m) [] _ _ refl (first_stands config.timers config.set.links m));
  old = λ m is. refl;
  calm = λ m is. let wrong : out ≡ waiting = sym (first_stands config.timers config.set.links m) ∙ is in absurd cc;
  profile = profile;
  count_is = first_lines config.set ∙ links;
}

method_same : (m n : Method) → OctetMethod m n → IsOneMethod m n
method_same Method.Basic Method.Basic one = tt
method_same Method.Basic (Method.Cyclic n1 n2) one = absurd one
method_same (Method.Cyclic n1 n2) Method.Basic one = absurd one
method_same (Method.Cyclic n1 n2) (Method.Cyclic m1 m2) one = tt

-- THE LAWS: a run whose units take such a course, of whatever lines
module _ (a b : EndConfig) (lengths : List LineLengths) (steps : List WireStep) (w : Wires) (run : IsRun a b lengths steps w) (narrow_a : IsNarrowEnd a)
    (narrow_b : IsNarrowEnd b) (one_method : OctetMethod a.set.method b.set.method) (sound : AreSound steps)
    (plain : AllPlain (length lengths) steps (new_wires a b lengths) w run.happen) (asks : AtEachTurn steps (new_wires a b lengths) w run.happen)
    (course : IsCourse steps (new_wires a b lengths) w run.happen no_ways) (room : HaveRoom w) where
  first_followed : Followed a.set b.set (length lengths) (new_wires a b lengths) no_ways
  first_followed = record {
    going = record {
      moves = [];
      g = opening a.set b.set;
      reached = first_reached a.set b.set run.fitting.links (narrow_a.narrow ∙ sym narrow_b.narrow) (method_same a.set.method b.set.method one_method);
      near_thin = record { base = refl; state = refl; fewer = omega arith; handed = refl };
      far_thin = record { base = refl; state = refl; fewer = omega arith; handed = refl };
      near_offered = λ stream. refl;
      far_offered = λ stream. refl;
    };
    at_a = first_end a b (length lengths) (opening a.set b.set) A B (λ m. refl) (λ m. refl) (λ m. nothing_on _ m) narrow_a.narrow (sym run.fitting.lines);
    at_b = first_end b a (length lengths) (opening a.set b.set) B A (λ m. refl) (λ m. refl) (λ m. nothing_on _ m) narrow_b.narrow
        (sym run.fitting.links ∙ sym run.fitting.lines);
  }

  followed : (ways : Ways) × Followed a.set b.set (length lengths) w ways
  followed =
      steps_follow a.set b.set (length lengths) (links_few a b lengths run.fitting) steps (new_wires a b lengths) w run.happen no_ways sound
      plain asks course (so_first a b lengths run.fitting) room first_followed

  pub arrive : (stream : ℕ) → stream < 16 → IsCarried w stream
  arrive stream low = record {
    to_b = first.0;
    to_a = first.1;
    all_to_b = λ none. arrives_whole stream world.b w.a w.b f.going.g.stage.a f.going.far_thin f.going.near_offered (all none).1;
    all_to_a = λ none. arrives_whole stream world.a w.b w.a f.going.g.stage.b f.going.near_thin f.going.far_offered (all none).0;
  }
    where
      f : Followed a.set b.set (length lengths) w followed.0
      f = followed.1

      world : World
      world = f.going.g.stage.world

      first : Arrives stream w.a w.b × Arrives stream w.b w.a
      first =
          read_off f.going.g.stage w.a w.b
          (record { a_set = f.going.near_thin; b_set = f.going.far_thin; a_offered = f.going.near_offered; b_offered = f.going.far_offered })
          (users_take a.set b.set f.going.moves f.going.g f.going.reached) stream low

      idle : IsNonePending w → IsIdle world
      idle none = record {
        at_a = subst (λ (s : State). AreDone (counts_in s)) (sym f.going.near_thin.state) none.at_a;
        at_b = subst (λ (s : State). AreDone (counts_in s)) (sym f.going.far_thin.state) none.at_b;
      }

      all : IsNonePending w → HandsOutAll stream f.going.g.stage.b world.a × HandsOutAll stream f.going.g.stage.a world.b
      all none = (hands_out_idle a.set b.set f.going.moves f.going.g f.going.reached (idle none)).1 stream low

pub carries : EverySoundRunCarriesStreams
carries a b lengths steps w run room stream low =
    arrive a b lengths steps w run.run run.so.lines.narrow_a run.so.lines.narrow_b run.so.one_method run.so.sound (all_plain a b lengths steps w run) (each_turn a b lengths steps w run)
    (intact_course steps (new_wires a b lengths) w run.run.happen no_ways (each_way a b lengths steps w run).along) room stream low

-- of a run that was carried out
sound_run : (a b : EndConfig) (lengths : List LineLengths) (steps : List WireStep) (w : Wires) → IsRun a b lengths steps w → IsSoundly a b lengths steps
    → IsSoundRun a b lengths steps w
sound_run a b lengths steps w run s = record { run = run; so = s }

pub run_carries : (a b : EndConfig) (lengths : List LineLengths) (steps : List WireStep) (w : Wires) → IsRun a b lengths steps w
    → entries_in w.a.set ≤ longest_history → entries_in w.b.set ≤ longest_history → CarriesStreams a b lengths steps w
run_carries a b lengths steps w run x y =
    λ s stream low. carries a b lengths steps w (sound_run a b lengths steps w run s) (record { a = x; b = y }) stream low
