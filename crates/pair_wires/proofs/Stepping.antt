-- WHAT A STEP LEADS TO, at both ends: a turn (`turn_so_far`), a command, by which no unit moves (`rests`), and what the set of
-- an end is asked (`ask_so_far`).
use Rattle.std.proofs.Common.{refl, arith, ap, sym, subst, ◌≡◌, ◌∙◌, ◌≤◌, ◌-◌, ℕ, zero, suc, ◌+◌, ◌==◌, ◌||◌, Bool, true, false, List, [], ◌∷◌, ◌++◌, length, map, take, drop, slice_get, slice_set, Option, Some, None, append-nil, if◌then◌else◌}
use Rattle.std.proofs.lemmas.Bool.{eqb-true}
use Rattle.std.proofs.lemmas.List.{take-append-drop}
use Rattle.std.specs.Option.{option_to_list}
use Rattle.l2_bits.specs.declared.marks.Mark.{Mark}
use Rattle.l2_bits.specs.LineBits.{line_bits}
use Rattle.l2_bits.proofs.BitLemmas.{length-bits_of}
use Rattle.l2_bits.proofs.TwoMarkLemmas.{two_marks}
use Rattle.l2_units.specs.declared.unit.Unit.{Unit as SignalUnit}
use Rattle.set_events.specs.declared.config.SetConfig.{SetConfig}
use Rattle.set_events.specs.declared.event.Event.{Event}
use Rattle.set_events.specs.declared.history.Entry.{Entry}
use Rattle.set_model.specs.History.{Base, LinkSet, entries_in, longest_history}
use Rattle.set_model.specs.State.{LinkState, State, has_phase_up}
use Rattle.set_model.specs.Step.{restores, NotUp, Nothing, redeclares, refused, step, with_known}
use Rattle.set_model.proofs.Lists.{get_set_other, get_set_same, within}
use Rattle.set_model.proofs.Walk.{link_count_stays, step_is}
use Rattle.set_octets.specs.Lives.{GoesOn, IsNoUp}
use Rattle.set_octets.specs.Starting.{HearsNoneYet, IsNotHeardOn}
use Rattle.set_octets.proofs.Lives.{only_up}
use Rattle.set_octets.proofs.Starting.{none_heard}
use Rattle.term_asks.specs.Asking.{Standing, standing_of}
use Rattle.term_bench.specs.Ends.{AtLink, BenchState, told_at}
use Rattle.term_model.specs.declared.command.Command.{Command}
use Rattle.pair_steps.specs.declared.step.End.{End}
use Rattle.pair_steps.specs.declared.step.End.TheVariants.{A, B}
use Rattle.pair_steps.specs.declared.step.Step.TheVariants.{Act}
use Rattle.pair_model.specs.Run.{past_asked, past_at}
use Rattle.pair_steps.specs.declared.step.Shown.TheVariants.{Answered}
use Rattle.pair_model.specs.World.{actor_of, at_end, has_actor, has_own_step, is_full, line_to, other}
use Rattle.pair_model.proofs.Pairs.{no_other, settings_stay}
use Rattle.pair_rises.specs.declared.moves.Move.TheVariants.{Step as MoveStep}
use Rattle.pair_rises.specs.Rises.{Rising, IsPlainMove, open_at}
use Rattle.pair_octets.specs.Passing.{doing_in}
use Rattle.pair_octets.specs.Streams.{IsSoundEvent}
use Rattle.pair_octets.specs.Wires.{Wires, Sides, CommandsIf, TakesTurn}
use Rattle.pair_wires.specs.Following.{Follows, heard_from, heard_off, sent_if}
use Rattle.pair_wires.specs.Moves.{IsThinned}
use Rattle.pair_wires.specs.Read.{IsOffered}
use Rattle.pair_wires.specs.Turning.{TurnAsksSo}
use Rattle.pair_wires.specs.Ways.{Carried, HearsSome, Way, Ways, carried_in, gives_unit, has_aligned, is_marked, is_out, joined_by, left_by, sent_by, settled_if}
use Rattle.pair_wires.proofs.Ending.{EndFollows, TurnFollows, entries_base, entries_history, marks_on, settled_old, stands_in, turn_follows}
use Rattle.pair_wires.proofs.Following.{goes_far, goes_near}
use Rattle.pair_streams.specs.Handed.{handed_by}
use Rattle.pair_wires.proofs.Going.{Going, acts_keeps, known_link, vain_keeps, with_entry}
use Rattle.pair_wires.proofs.Hearing.{heard_all}
use Rattle.pair_wires.proofs.Starting.{EachSo}
use Rattle.pair_wires.proofs.Turned.{HasRoom, entries_room, entries_state, retold, with_entries}

-- WAYS, in the walk's words
left_none : (way : Way) → left_by 0 way ≡ way
left_none way = let none : 0 - length way.old ≡ 0 = omega arith in ap (λ (k : ℕ). record way { fresh = drop k way.fresh }) none

drop_nil : (k : ℕ) → ◌≡◌ {A = List Carried} (drop k []) []
drop_nil zero = refl
drop_nil (suc k) = refl

left_nil : (k : ℕ) → left_by k (record { old = []; fresh = [] }) ≡ record { old = []; fresh = [] }
left_nil k =
    ap (λ (cs : List Carried). record { old = cs; fresh = drop (k - 0) [] }) (drop_nil k)
    ∙ ap (λ (cs : List Carried). record { old = []; fresh = cs }) (drop_nil (k - 0))

left_one : (n : ℕ) (way : Way) → left_by (suc n) way ≡ left_by n (heard_off way)
left_one n way = go way.old way.fresh
  where
    go : (old fresh : List Carried) → left_by (suc n) (record { old = old; fresh = fresh }) ≡ left_by n (heard_from old fresh)
    go [] [] = left_nil (suc n) ∙ sym (left_nil n)
    go [] (c ∷ fresh) =
        let more : suc n - 0 ≡ suc n = omega arith in
        let less : n - 0 ≡ n = omega arith in
        ap (λ (k : ℕ). record { old = drop (suc n) []; fresh = drop k (c ∷ fresh) }) more
        ∙ ap (λ (cs : List Carried). record { old = cs; fresh = drop n fresh }) (drop_nil (suc n) ∙ sym (drop_nil n))
        ∙ ap (λ (k : ℕ). record { old = drop n []; fresh = drop k fresh }) (sym less)
    go (c ∷ old) fresh =
        let less : suc n - suc (length old) ≡ n - length old = omega arith in
        ap (λ (k : ℕ). record { old = drop n old; fresh = drop k fresh }) less

-- so many, or all where there are fewer
left_taken : (n : ℕ) (way : Way) → left_by n way ≡ heard_all (take n (carried_in way)) way
left_taken n way = by n way.old way.fresh
  where
    none : (k : ℕ) → heard_all (take k []) (record { old = []; fresh = [] }) ≡ record { old = []; fresh = [] }
    none zero = refl
    none (suc k) = refl

    by : (k : ℕ) (old fresh : List Carried)
        → left_by k (record { old = old; fresh = fresh }) ≡ heard_all (take k (old ++ fresh)) (record { old = old; fresh = fresh })
    by zero old fresh = left_none (record { old = old; fresh = fresh })
    by (suc k) [] [] = left_nil (suc k) ∙ sym (none (suc k))
    by (suc k) [] (c ∷ fresh) = left_one k (record { old = []; fresh = c ∷ fresh }) ∙ by k [] fresh
    by (suc k) (c ∷ old) fresh = left_one k (record { old = c ∷ old; fresh = fresh }) ∙ by k old fresh

joined_none : (way : Way) → joined_by [] way ≡ way
joined_none way = ap (λ (cs : List Carried). record way { fresh = cs }) (append-nil way.fresh)

pub still_way : (way : Way) → joined_by [] (left_by 0 way) ≡ way
still_way way = joined_none (left_by 0 way) ∙ left_none way

joined_one : (unit : Option SignalUnit) (given : Bool) (way : Way)
    → joined_by (map (λ (u : SignalUnit). let c : Carried = record { unit = u; given = given } in c) (option_to_list unit)) way ≡ sent_if unit given way
joined_one None given way = joined_none way
joined_one (Some unit) given way = refl

-- A RUN'S SETS
pub same_set : (x y : LinkSet) → x.base ≡ y.base → x.state ≡ y.state → x.history ≡ y.history → x ≡ y
same_set x y base state history =
    ap (λ (z : Base). record { base = z; state = x.state; history = x.history }) base
    ∙ ap (λ (z : State). record { base = y.base; state = z; history = x.history }) state
    ∙ ap (λ (z : List Entry). record { base = y.base; state = y.state; history = z }) history

-- the other way round
abbrev pub flip_going : (a b : SetConfig) (x y : LinkSet) → Going a b A y x → Going a b B x y
flip_going a b x y w = record {
  moves = w.moves;
  g = w.g;
  reached = w.reached;
  near_thin = w.far_thin;
  far_thin = w.near_thin;
  near_offered = w.far_offered;
  far_offered = w.near_offered;
}

abbrev pub flop_going : (a b : SetConfig) (x y : LinkSet) → Going a b B x y → Going a b A y x
flop_going a b x y w = record {
  moves = w.moves;
  g = w.g;
  reached = w.reached;
  near_thin = w.far_thin;
  far_thin = w.near_thin;
  near_offered = w.far_offered;
  far_offered = w.near_offered;
}

-- told by other names of the same sets
abbrev pub renamed : (a b : SetConfig) (end : End) (full' far' full far : LinkSet) → Going a b end far full → full ≡ full' → far ≡ far' → Going a b end far' full'
renamed a b end full' far' full far w x y = record {
  moves = w.moves;
  g = w.g;
  reached = w.reached;
  near_thin = subst (λ (z : LinkSet). IsThinned (at_end w.g.stage.world end) z) x w.near_thin;
  far_thin = subst (λ (z : LinkSet). IsThinned (at_end w.g.stage.world (other end)) z) y w.far_thin;
  near_offered = subst (λ (z : LinkSet). IsOffered (past_at w.g.stage end) z.history) x w.near_offered;
  far_offered = subst (λ (z : LinkSet). IsOffered (past_at w.g.stage (other end)) z.history) y w.far_offered;
}

-- THE WORLD FOLLOWS
pub record Followed (a b : SetConfig) (count : ℕ) (w : Wires) (ways : Ways) : Type 0 where
  pub going : Going a b A w.b.set w.a.set
  pub at_a : EndFollows going.g A B count w.a w.b (ways A)
  pub at_b : EndFollows going.g B A count w.b w.a (ways B)

-- A TURN, of either end
module _ (a b : SetConfig) (end : End) (l : ℕ) (count : ℕ) (old new : Sides) (takes : TakesTurn l old new) (asks : TurnAsksSo l old new takes)
    (w : Going a b end old.far.set old.near.set) (near_ways far_ways near_ways' far_ways' : ℕ → Way)
    (fn : EndFollows w.g end (other end) count old.near old.far near_ways) (ff : EndFollows w.g (other end) end count old.far old.near far_ways)
    (near_so : EachSo old.near) (far_so : EachSo old.far) (links_count : length old.near.links ≡ count) (room : entries_in new.near.set ≤ longest_history)
    (count_off : ℕ) (hears : HearsSome takes.turns.takes.by_octet.marks (take count_off (carried_in (near_ways l))))
    (aligned : is_marked (Some takes.turns.was) ≡ false → has_aligned (standing_of takes.turns.was.terminal) ≡ true → (near_ways l).old ≡ [])
    (near_l : near_ways' l ≡ settled_if (is_marked (slice_get new.near.links l)) (joined_by [] (left_by count_off (near_ways l))))
    (near_m : (m : ℕ) → (l == m) ≡ false → near_ways' m ≡ settled_if (is_marked (slice_get new.near.links m)) (joined_by [] (left_by 0 (near_ways m))))
    (far_l : far_ways' l ≡ settled_if (is_marked (slice_get old.far.links l)) (joined_by (sent_by (doing_in l old new takes)) (left_by 0 (far_ways l))))
    (far_m : (m : ℕ) → (l == m) ≡ false → far_ways' m ≡ settled_if (is_marked (slice_get old.far.links m)) (joined_by [] (left_by 0 (far_ways m)))) where
  abbrev marks : List Mark
  marks = takes.turns.takes.by_octet.marks

  abbrev entries : List Entry
  entries = takes.turns.takes.entries

  set_is : with_entries old.near.set entries ≡ new.near.set
  set_is = same_set (with_entries old.near.set entries) new.near.set
      (entries_base old.near.set entries ∙ sym takes.turns.takes.base_is)
      (entries_state old.near.set entries ∙ asks.leads)
      (entries_history old.near.set entries ∙ sym takes.turns.takes.history_is)

  has_room : HasRoom old.near.set entries
  has_room =
      let sum : entries_in new.near.set ≡ entries_in old.near.set + length entries = ap entries_in (sym set_is) ∙ entries_room old.near.set entries in
      omega (arith, room, sum)

  abbrev came : List Carried
  came = take count_off (carried_in (near_ways l))

  left_is : joined_by [] (left_by count_off (near_ways l)) ≡ heard_all came (near_ways l)
  left_is = joined_none (left_by count_off (near_ways l)) ∙ left_taken count_off (near_ways l)

  pub turn_so_far : TurnFollows a b end count new.near old.far near_ways' far_ways'
  turn_so_far =
      turn_follows a b end l count old.near new.near old.far w near_ways far_ways near_ways' far_ways' fn ff takes.turns.was takes.turns.now takes.turns.is_at links_count
      takes.turns.links_are near_so far_so marks entries takes.unit asks.asks asks.legal set_is has_room
      (two_marks (line_bits takes.turns.was.heard) _ marks takes.turns.takes.by_octet.gives (omega (arith, length-bits_of 8 takes.octet))) came (drop count_off (carried_in (near_ways l)))
      (sym (take-append-drop count_off (carried_in (near_ways l)))) hears aligned
      (near_l ∙ ap (settled_if (is_marked (slice_get new.near.links l))) left_is)
      (λ m apart. near_m m apart ∙ ap (settled_if (is_marked (slice_get new.near.links m))) (still_way (near_ways m)))
      (far_l ∙ ap (settled_if (is_marked (slice_get old.far.links l)))
      (ap (joined_by (sent_by (doing_in l old new takes))) (left_none (far_ways l)) ∙ joined_one takes.unit (gives_unit entries) (far_ways l)))
      (λ m apart. far_m m apart ∙ ap (settled_if (is_marked (slice_get old.far.links m))) (still_way (far_ways m)))

-- A STEP THAT MOVES NO UNIT, and changes no set
module _ (g : Rising) (mine theirs : End) (count : ℕ) (near near' far far' : BenchState) (ways ways' : ℕ → Way) where
  pub rests : near'.set ≡ near.set → far'.set ≡ far.set → ((m : ℕ) → stands_in (slice_get near'.links m) ≡ stands_in (slice_get near.links m))
      → ((m : ℕ) → is_marked (slice_get near'.links m) ≡ false → is_marked (slice_get near.links m) ≡ false)
      → ((m : ℕ) → ways' m ≡ settled_if (is_marked (slice_get near'.links m)) (ways m)) → EndFollows g mine theirs count near far ways
      → EndFollows g mine theirs count near' far' ways'
  rests near_is far_is stands marks are f = record {
    each = λ m.
        subst (λ (x : Way). Follows (open_at g mine m) (open_at g theirs m) m near'.set.state far'.set.state (line_to g.stage.world mine m)
        (stands_in (slice_get near'.links m)) (is_marked (slice_get near'.links m)) x) (sym (are m))
        (subst (λ (x : LinkSet). Follows (open_at g mine m) (open_at g theirs m) m x.state far'.set.state (line_to g.stage.world mine m)
        (stands_in (slice_get near'.links m)) (is_marked (slice_get near'.links m)) (settled_if (is_marked (slice_get near'.links m)) (ways m))) (sym near_is)
        (subst (λ (x : LinkSet). Follows (open_at g mine m) (open_at g theirs m) m near.set.state x.state (line_to g.stage.world mine m)
        (stands_in (slice_get near'.links m)) (is_marked (slice_get near'.links m)) (settled_if (is_marked (slice_get near'.links m)) (ways m))) (sym far_is)
        (subst (λ (x : Standing). Follows (open_at g mine m) (open_at g theirs m) m near.set.state far.set.state (line_to g.stage.world mine m)
        x (is_marked (slice_get near'.links m)) (settled_if (is_marked (slice_get near'.links m)) (ways m))) (sym (stands m))
        (marks_on m (open_at g mine m) (open_at g theirs m) near.set.state far.set.state (line_to g.stage.world mine m) (stands_in (slice_get near.links m))
        (is_marked (slice_get near.links m)) (is_marked (slice_get near'.links m)) (ways m) (marks m) (f.each m)))));
    old = λ m is. ap (λ (x : Way). x.fresh) (are m) ∙ settled_old (is_marked (slice_get near'.links m)) (ways m) is;
    calm = λ m is. f.calm m (sym (stands m) ∙ is);
    profile = ap (λ (x : LinkSet). x.state.settings.profile) near_is ∙ f.profile;
    count_is = ap (λ (x : LinkSet). length x.state.links) near_is ∙ f.count_is;
  }

-- A COMMAND
told_unmarked : (command : Command) (at : AtLink) → is_marked (Some (told_at command at)) ≡ false → is_marked (Some at) ≡ false
told_unmarked Command.Stop at is = absurd (let wrong : true ≡ false = sym (or_more (is_out (standing_of at.terminal))) ∙ is in cc)
  where
    or_more : (c : Bool) → (c || true) ≡ true
    or_more true = refl
    or_more false = refl
told_unmarked Command.Emergency at is = is
told_unmarked Command.Calm at is = is
told_unmarked Command.Start at is = is
told_unmarked Command.Busy at is = is
told_unmarked Command.Ease at is = is
told_unmarked Command.Blind at is = is
told_unmarked Command.Outage at is = is
told_unmarked Command.Recover at is = is

pub record SameStands (old new : BenchState) : Type 0 where
  pub set_is : new.set ≡ old.set
  pub stands : (m : ℕ) → stands_in (slice_get new.links m) ≡ stands_in (slice_get old.links m)
  pub marks : (m : ℕ) → is_marked (slice_get new.links m) ≡ false → is_marked (slice_get old.links m) ≡ false

pub same_stands : (old new : BenchState) → new ≡ old → SameStands old new
same_stands old new same = record {
  set_is = ap (λ (x : BenchState). x.set) same;
  stands = λ m. ap (λ (x : BenchState). stands_in (slice_get x.links m)) same;
  marks = λ m is. ap (λ (x : BenchState). is_marked (slice_get x.links m)) (sym same) ∙ is;
}

pub command_stands : (refused : Bool) (link : ℕ) (command : Command) (old new : BenchState) → CommandsIf refused link command old new → SameStands old new
command_stands true link command old new same = same_stands old new same
command_stands false link command old new told = record {
  set_is = told.set_is;
  stands = λ m. ap (λ (ls : List AtLink). stands_in (slice_get ls m)) told.links_are ∙ stands_at m;
  marks = λ m is. marks_at m (ap (λ (ls : List AtLink). is_marked (slice_get ls m)) (sym told.links_are) ∙ is);
}
  where
    here : slice_get (slice_set old.links link (told_at command told.was)) link ≡ Some (told_at command told.was)
    here = get_set_same old.links link (told_at command told.was) (within old.links link told.was told.is_at)

    stands_at : (m : ℕ) → stands_in (slice_get (slice_set old.links link (told_at command told.was)) m) ≡ stands_in (slice_get old.links m)
    stands_at m = go (link == m) refl
      where
        go : (c : Bool) → (link == m) ≡ c → stands_in (slice_get (slice_set old.links link (told_at command told.was)) m) ≡ stands_in (slice_get old.links m)
        go true e = subst (λ (n : ℕ). stands_in (slice_get (slice_set old.links link (told_at command told.was)) n) ≡ stands_in (slice_get old.links n)) (eqb-true link m e)
            (ap stands_in here ∙ ap stands_in (sym told.is_at))
        go false e = ap stands_in (get_set_other old.links link m (told_at command told.was) (no_other link m e))

    marks_at : (m : ℕ) → is_marked (slice_get (slice_set old.links link (told_at command told.was)) m) ≡ false → is_marked (slice_get old.links m) ≡ false
    marks_at m = go (link == m) refl
      where
        go : (c : Bool) → (link == m) ≡ c → is_marked (slice_get (slice_set old.links link (told_at command told.was)) m) ≡ false → is_marked (slice_get old.links m) ≡ false
        go true e = subst (λ (n : ℕ). is_marked (slice_get (slice_set old.links link (told_at command told.was)) n) ≡ false → is_marked (slice_get old.links n) ≡ false)
            (eqb-true link m e) (λ is. ap is_marked told.is_at ∙ told_unmarked command told.was (ap is_marked (sym here) ∙ is))
        go false e = λ is. ap is_marked (sym (get_set_other old.links link m (told_at command told.was) (no_other link m e))) ∙ is

-- WHAT IS ASKED of the set of an end
module _ (a b : SetConfig) (end : End) (full : LinkSet) (far : LinkSet) (w : Going a b end far full) (count : ℕ) (entry : Entry) where
  pub record AsksOn : Type 0 where
    pub next : Going a b end far (with_entry full entry)
    pub covers : (e : End) (m : ℕ) → open_at next.g e m ≡ open_at w.g e m
    pub same_lines : (at : End) (m : ℕ) → line_to next.g.stage.world at m ≡ line_to w.g.stage.world at m

  acts_so : entry.answer ≡ (step full.state entry.event).answer → has_own_step entry.event ≡ false → has_actor w.g.stage.world (actor_of entry.event) ≡ true
      → IsPlainMove false (MoveStep (Act end entry.event)) → is_full full ≡ false → AsksOn
  acts_so answer_is own actor plain room =
      let k = acts_keeps a b end far 0 full w entry answer_is own actor plain room in
      record { next = k.next; covers = k.covers; same_lines = k.same_lines }

  -- a link that isn't there is asked in vain
  no_link : (link : ℕ) → entry.event ≡ Event.Restore link → slice_get full.state.links link ≡ None → entry.answer ≡ (step full.state entry.event).answer → AsksOn
  no_link link event none answer_is =
      let o = ap (λ (e : Event). step full.state e) event ∙ step_is full.state (Event.Restore link)
      ∙ ap (λ (found : Option LinkState). with_known found full.state (λ at. if has_phase_up at.phase then restores link full.state at else refused full.state NotUp)) none in
      let k = vain_keeps a b end far 0 full w entry answer_is (ap (λ x. x.state) o) (ap handed_by (answer_is ∙ ap (λ x. x.answer) o))
      (λ past. ap (λ (e : Event). (past_asked e (Answered entry.answer) past).offered) event) in
      record { next = k.next; covers = k.covers; same_lines = k.same_lines }

  no_home : (link : ℕ) → entry.event ≡ Event.Redeclare link → slice_get full.state.links link ≡ None → entry.answer ≡ (step full.state entry.event).answer → AsksOn
  no_home link event none answer_is =
      let o = ap (λ (e : Event). step full.state e) event ∙ step_is full.state (Event.Redeclare link)
      ∙ ap (λ (found : Option LinkState). with_known found full.state (λ at. redeclares link full.state)) none in
      let k = vain_keeps a b end far 0 full w entry answer_is (ap (λ x. x.state) o) (ap handed_by (answer_is ∙ ap (λ x. x.answer) o))
      (λ past. ap (λ (e : Event). (past_asked e (Answered entry.answer) past).offered) event) in
      record { next = k.next; covers = k.covers; same_lines = k.same_lines }

  no_test : (link : ℕ) → entry.event ≡ Event.Test link → slice_get full.state.links link ≡ None → entry.answer ≡ (step full.state entry.event).answer → AsksOn
  no_test link event none answer_is =
      let o = ap (λ (e : Event). step full.state e) event ∙ step_is full.state (Event.Test link)
      ∙ ap (λ (found : Option LinkState). with_known found full.state (λ at. if has_phase_up at.phase then refused full.state Nothing else refused full.state NotUp)) none in
      let k = vain_keeps a b end far 0 full w entry answer_is (ap (λ x. x.state) o) (ap handed_by (answer_is ∙ ap (λ x. x.answer) o))
      (λ past. ap (λ (e : Event). (past_asked e (Answered entry.answer) past).offered) event) in
      record { next = k.next; covers = k.covers; same_lines = k.same_lines }

  pub asks_on : IsSoundEvent entry.event → entry.answer ≡ (step full.state entry.event).answer → is_full full ≡ false → AsksOn
  asks_on sound answer_is room = go entry.event refl sound
    where
      go : (event : Event) → entry.event ≡ event → IsSoundEvent event → AsksOn
      go (Event.Offer body) e s = acts_so answer_is (ap has_own_step e) (ap (λ (x : Event). has_actor w.g.stage.world (actor_of x)) e) (subst (λ (x : Event). IsPlainMove false (MoveStep (Act end x))) (sym e) tt) room
      go Event.Take e s = acts_so answer_is (ap has_own_step e) (ap (λ (x : Event). has_actor w.g.stage.world (actor_of x)) e) (subst (λ (x : Event). IsPlainMove false (MoveStep (Act end x))) (sym e) tt) room
      go (Event.Find number) e s = acts_so answer_is (ap has_own_step e) (ap (λ (x : Event). has_actor w.g.stage.world (actor_of x)) e) (subst (λ (x : Event). IsPlainMove false (MoveStep (Act end x))) (sym e) tt) room
      go (Event.Restore link) e s = by (slice_get full.state.links link) refl
        where
          by : (found : Option LinkState) → slice_get full.state.links link ≡ found → AsksOn
          by None none = no_link link e none answer_is
          by (Some at) there =
              acts_so answer_is (ap has_own_step e)
              (ap (λ (x : Event). has_actor w.g.stage.world (actor_of x)) e ∙ known_link a b end far link full w (within full.state.links link at there))
              (subst (λ (x : Event). IsPlainMove false (MoveStep (Act end x))) (sym e) tt) room
      go (Event.Redeclare link) e s = by (slice_get full.state.links link) refl
        where
          by : (found : Option LinkState) → slice_get full.state.links link ≡ found → AsksOn
          by None none = no_home link e none answer_is
          by (Some at) there =
              acts_so answer_is (ap has_own_step e)
              (ap (λ (x : Event). has_actor w.g.stage.world (actor_of x)) e ∙ known_link a b end far link full w (within full.state.links link at there))
              (subst (λ (x : Event). IsPlainMove false (MoveStep (Act end x))) (sym e) tt) room
      go (Event.Test link) e s = by (slice_get full.state.links link) refl
        where
          by : (found : Option LinkState) → slice_get full.state.links link ≡ found → AsksOn
          by None none = no_test link e none answer_is
          by (Some at) there =
              acts_so answer_is (ap has_own_step e)
              (ap (λ (x : Event). has_actor w.g.stage.world (actor_of x)) e ∙ known_link a b end far link full w (within full.state.links link at there))
              (subst (λ (x : Event). IsPlainMove false (MoveStep (Act end x))) (sym e) tt) room
      go (Event.Next link) e s = absurd s
      go (Event.Heard link unit) e s = absurd s
      go (Event.Up link) e s = absurd s
      go (Event.Down link) e s = absurd s
      go (Event.DownBlind link) e s = absurd s
      go (Event.NoAnswer link) e s = absurd s
      go (Event.Timed link) e s = absurd s
      go (Event.BackTimeout link) e s = absurd s

no_up : (event : Event) (m : ℕ) → IsSoundEvent event → IsNoUp m event × IsNotHeardOn m event
no_up (Event.Offer body) m s = (tt, tt)
no_up Event.Take m s = (tt, tt)
no_up (Event.Find number) m s = (tt, tt)
no_up (Event.Restore link) m s = (tt, tt)
no_up (Event.Redeclare link) m s = (tt, tt)
no_up (Event.Test link) m s = (tt, tt)
no_up (Event.Next link) m s = absurd s
no_up (Event.Heard link unit) m s = absurd s
no_up (Event.Up link) m s = absurd s
no_up (Event.Down link) m s = absurd s
no_up (Event.DownBlind link) m s = absurd s
no_up (Event.NoAnswer link) m s = absurd s
no_up (Event.Timed link) m s = absurd s
no_up (Event.BackTimeout link) m s = absurd s

-- both ends then
module _ (a b : SetConfig) (end : End) (count : ℕ) (near near' far : BenchState) (w : Going a b end far.set near.set) (near_ways far_ways near_ways' far_ways' : ℕ → Way)
    (entry : Entry) (sound : IsSoundEvent entry.event) (asked : AsksOn a b end near.set far.set w count entry) (set_is : with_entry near.set entry ≡ near'.set)
    (links_are : near'.links ≡ near.links)
    (near_is : (m : ℕ) → near_ways' m ≡ settled_if (is_marked (slice_get near'.links m)) (near_ways m))
    (far_is : (m : ℕ) → far_ways' m ≡ settled_if (is_marked (slice_get far.links m)) (far_ways m))
    (fn : EndFollows w.g end (other end) count near far near_ways) (ff : EndFollows w.g (other end) end count far near far_ways) where
  abbrev s : State
  s = near.set.state

  abbrev s'' : State
  s'' = (step s entry.event).state

  goes : (m : ℕ) → GoesOn m s s''
  goes m = only_up m s entry.event (no_up entry.event m sound).0

  till : (m : ℕ) → HearsNoneYet m s → HearsNoneYet m s''
  till m = none_heard m s entry.event (no_up entry.event m sound).1

  state_is : near'.set.state ≡ s''
  state_is = ap (λ (x : LinkSet). x.state) (sym set_is)

  abbrev next : Going a b end far.set near'.set
  next = renamed a b end near'.set far.set (with_entry near.set entry) far.set asked.next set_is refl

  cover_is : (e : End) (m : ℕ) → open_at next.g e m ≡ open_at w.g e m
  cover_is e m = asked.covers e m

  line_same : (at : End) (m : ℕ) → line_to next.g.stage.world at m ≡ line_to w.g.stage.world at m
  line_same at m = asked.same_lines at m

  near_each : (m : ℕ) → Follows (open_at next.g end m) (open_at next.g (other end) m) m near'.set.state far.set.state (line_to next.g.stage.world end m)
      (stands_in (slice_get near'.links m)) (is_marked (slice_get near'.links m)) (near_ways' m)
  near_each m =
      subst (λ (x : Way). Follows (open_at next.g end m) (open_at next.g (other end) m) m near'.set.state far.set.state (line_to next.g.stage.world end m)
      (stands_in (slice_get near'.links m)) (is_marked (slice_get near'.links m)) x) (sym (near_is m))
      (subst (λ (ls : List AtLink). Follows (open_at next.g end m) (open_at next.g (other end) m) m near'.set.state far.set.state (line_to next.g.stage.world end m)
      (stands_in (slice_get ls m)) (is_marked (slice_get ls m)) (settled_if (is_marked (slice_get ls m)) (near_ways m))) (sym links_are)
      (subst (λ (x : State). Follows (open_at next.g end m) (open_at next.g (other end) m) m x far.set.state (line_to next.g.stage.world end m)
      (stands_in (slice_get near.links m)) (is_marked (slice_get near.links m)) (settled_if (is_marked (slice_get near.links m)) (near_ways m))) (sym state_is)
      (retold (open_at w.g end m) (open_at next.g end m) (open_at w.g (other end) m) (open_at next.g (other end) m) m s'' far.set.state
      (line_to w.g.stage.world end m) (line_to next.g.stage.world end m) (stands_in (slice_get near.links m)) (is_marked (slice_get near.links m))
      (settled_if (is_marked (slice_get near.links m)) (near_ways m)) (cover_is end m) (cover_is (other end) m) (line_same end m)
      (marks_on m (open_at w.g end m) (open_at w.g (other end) m) s'' far.set.state (line_to w.g.stage.world end m) (stands_in (slice_get near.links m))
      (is_marked (slice_get near.links m)) (is_marked (slice_get near.links m)) (near_ways m) (λ is. is)
      (goes_near m (open_at w.g end m) (open_at w.g (other end) m) s s'' far.set.state (line_to w.g.stage.world end m) (stands_in (slice_get near.links m))
      (is_marked (slice_get near.links m)) (near_ways m) (goes m) (till m) (fn.each m))))))

  far_each : (m : ℕ) → Follows (open_at next.g (other end) m) (open_at next.g end m) m far.set.state near'.set.state (line_to next.g.stage.world (other end) m)
      (stands_in (slice_get far.links m)) (is_marked (slice_get far.links m)) (far_ways' m)
  far_each m =
      subst (λ (x : Way). Follows (open_at next.g (other end) m) (open_at next.g end m) m far.set.state near'.set.state (line_to next.g.stage.world (other end) m)
      (stands_in (slice_get far.links m)) (is_marked (slice_get far.links m)) x) (sym (far_is m))
      (subst (λ (x : State). Follows (open_at next.g (other end) m) (open_at next.g end m) m far.set.state x (line_to next.g.stage.world (other end) m)
      (stands_in (slice_get far.links m)) (is_marked (slice_get far.links m)) (settled_if (is_marked (slice_get far.links m)) (far_ways m))) (sym state_is)
      (retold (open_at w.g (other end) m) (open_at next.g (other end) m) (open_at w.g end m) (open_at next.g end m) m far.set.state s''
      (line_to w.g.stage.world (other end) m) (line_to next.g.stage.world (other end) m) (stands_in (slice_get far.links m)) (is_marked (slice_get far.links m))
      (settled_if (is_marked (slice_get far.links m)) (far_ways m)) (cover_is (other end) m) (cover_is end m) (line_same (other end) m)
      (marks_on m (open_at w.g (other end) m) (open_at w.g end m) far.set.state s'' (line_to w.g.stage.world (other end) m) (stands_in (slice_get far.links m))
      (is_marked (slice_get far.links m)) (is_marked (slice_get far.links m)) (far_ways m) (λ is. is)
      (goes_far m (open_at w.g (other end) m) (open_at w.g end m) far.set.state s s'' (line_to w.g.stage.world (other end) m) (stands_in (slice_get far.links m))
      (is_marked (slice_get far.links m)) (far_ways m) (goes m).settled (ff.each m)))))

  pub ask_so_far : TurnFollows a b end count near' far near_ways' far_ways'
  ask_so_far = record {
    going = next;
    near_follows = record {
      each = near_each;
      old = λ m is. ap (λ (x : Way). x.fresh) (near_is m) ∙ settled_old (is_marked (slice_get near'.links m)) (near_ways m) is;
      calm = λ m is. fn.calm m (ap (λ (ls : List AtLink). stands_in (slice_get ls m)) (sym links_are) ∙ is);
      profile = ap (λ (x : State). x.settings.profile) state_is ∙ ap (λ x. x.profile) (settings_stay s entry.event) ∙ fn.profile;
      count_is = ap (λ (x : State). length x.links) state_is ∙ link_count_stays s entry.event ∙ fn.count_is;
    };
    far_follows = record {
      each = far_each;
      old = λ m is. ap (λ (x : Way). x.fresh) (far_is m) ∙ settled_old (is_marked (slice_get far.links m)) (far_ways m) is;
      calm = ff.calm;
      profile = ff.profile;
      count_is = ff.count_is;
    };
  }
