-- A TURN IS OVER (`turn_follows`): what it led to of each link, at both ends. A link about which an order was heard late is told to stop, so
-- what is under way to it is old then (Q.704 5, own).
use Rattle.std.proofs.Common.{refl, arith, ap, sym, subst, ◌≡◌, ◌∙◌, ◌<◌, ◌≤◌, ◌⊎◌, inl, inr, ℕ, zero, suc, ◌+◌, ◌*◌, ◌%◌, ◌^◌, ◌==◌, ◌&&◌, ◌||◌, not, Bool, true, false, List, [], ◌∷◌, ◌++◌, length, nat_lt, slice_get, slice_set, Option, Some, None, append_assoc, if◌then◌else◌}
use Rattle.std.proofs.lemmas.Bool.{eqb-true}
use Rattle.l2_bits.specs.declared.marks.Mark.{Mark}
use Rattle.l2_state.specs.declared.link_state.State.{State as LinkPhase}
use Rattle.l2_units.specs.declared.profile.Profile.TheVariants.{Narrow}
use Rattle.l2_units.specs.declared.unit.Unit.{Unit as SignalUnit}
use Rattle.set_events.specs.declared.answer.Answer.{Answer}
use Rattle.set_events.specs.declared.answer.Refusal.{Refusal}
use Rattle.set_events.specs.declared.config.SetConfig.{SetConfig}
use Rattle.set_events.specs.declared.event.Event.{Event}
use Rattle.set_events.specs.declared.history.Entry.{Entry}
use Rattle.set_model.specs.Changeover.{one_later}
use Rattle.set_model.specs.History.{LinkSet, IsLegal}
use Rattle.set_model.specs.State.{State, is_settled, is_up, late_at}
use Rattle.set_model.specs.Step.{step}
use Rattle.set_model.proofs.Lists.{get_set_other, get_set_same, within}
use Rattle.set_model.proofs.Walk.{link_count_stays}
use Rattle.set_octets.specs.Lives.{IsLateOnce, as_before, one_more}
use Rattle.set_octets.proofs.Lateness.{late_orders}
use Rattle.set_octets.proofs.Lives.{others_refused, up_served}
use Rattle.l2_align.specs.declared.align.State.{State as AlignState}
use Rattle.link_term.specs.States.{aligning_as, state_of}
use Rattle.term_asks.specs.Asking.{Standing, out, waiting, standing_in, standing_of, AsksSo}
use Rattle.term_bench.specs.Ends.{AtLink, BenchState, told_at}
use Rattle.term_bench.specs.Late.{ended_at, ended_from, was_late}
use Rattle.term_bench.specs.Late as late
use Rattle.term_model.specs.Terminal.{Terminal}
use Rattle.term_model.specs.declared.command.Command.{Command}
use Rattle.pair_steps.specs.declared.step.End.{End}
use Rattle.pair_model.specs.World.{line_to, other}
use Rattle.pair_model.proofs.Pairs.{no_other}
use Rattle.pair_rises.specs.Rises.{Cover, Rising, open_at}
use Rattle.pair_wires.specs.Following.{Follows, sent_if}
use Rattle.pair_wires.specs.Standing.{IsStarting, StandsAt}
use Rattle.pair_wires.specs.Starting.{IsLinkSo}
use Rattle.pair_wires.specs.Ways.{Carried, HearsSome, Way, carried_in, gives_unit, has_aligned, is_marked, is_out, settled_if}
use Rattle.pair_wires.proofs.Choosing.{Sends}
use Rattle.pair_wires.proofs.Following.{ends, settles}
use Rattle.pair_wires.proofs.Going.{Going, with_entry}
use Rattle.pair_wires.proofs.Hearing.{IsFlushed, heard_all}
use Rattle.pair_wires.proofs.Turned.{Gone, HasRoom, Mid, Others, Sight, later, or_none, or_true, with_entries}
use Rattle.pair_wires.proofs.Turns.{turn_on}

-- how a link of a bench stands
abbrev pub stands_in : Option AtLink → Standing
stands_in None = out
stands_in (Some at) = standing_of at.terminal

-- ONE END FOLLOWS, link by link
pub record EndFollows (g : Rising) (mine theirs : End) (count : ℕ) (near far : BenchState) (ways : ℕ → Way) : Type 0 where
  pub each : (link : ℕ) → Follows (open_at g mine link) (open_at g theirs link) link near.set.state far.set.state (line_to g.stage.world mine link)
      (stands_in (slice_get near.links link)) (is_marked (slice_get near.links link)) (ways link)
  pub old : (link : ℕ) → is_marked (slice_get near.links link) ≡ true → (ways link).fresh ≡ []
  pub calm : (link : ℕ) → stands_in (slice_get near.links link) ≡ waiting → ⊥
  pub profile : near.set.state.settings.profile ≡ Narrow
  pub count_is : length near.set.state.links ≡ count

-- LATE ORDERS: fewer than 2^32 in a turn, so their count isn't what it was
later_is : (k n : ℕ) → 1 ≤ k → later k n ≡ (n + k) % 2 ^ 32
later_is zero n some = absurd (omega (arith, some))
later_is (suc zero) n some = refl
later_is (suc (suc k)) n some =
    let rest = later_is (suc k) n (omega arith) in
    let plus : ((n + suc k) % 2 ^ 32 + 1) % 2 ^ 32 ≡ (n + suc (suc k)) % 2 ^ 32 = omega arith in
    ap one_later rest ∙ plus

not_as_before : (k n : ℕ) → 1 ≤ k → k < 2 ^ 32 → later k n ≡ n → ⊥
not_as_before k n some few same = let is = later_is k n some in absurd (omega (arith, some, few, same, is))

-- WHAT IS TOLD TO STOP
abbrev told_if : ℕ → State → State → Option AtLink → Option AtLink
told_if n s t None = None
told_if n s t (Some at) = Some (ended_at n s t at)

get_ended : (k : ℕ) (s t : State) (links : List AtLink) (n : ℕ) → slice_get (ended_from k s t links) n ≡ told_if (k + n) s t (slice_get links n)
get_ended k s t [] n = refl
get_ended k s t (at ∷ links) zero = let same : k + 0 ≡ k = omega arith in ap (λ (x : ℕ). Some (ended_at x s t at)) (sym same)
get_ended k s t (at ∷ links) (suc n) =
    let same : suc k + n ≡ k + suc n = omega arith in
    get_ended (suc k) s t links n ∙ ap (λ (x : ℕ). told_if x s t (slice_get links n)) same

-- it stands as it did
ended_standing : (n : ℕ) (s t : State) (at : AtLink) → standing_of (ended_at n s t at).terminal ≡ standing_of at.terminal
ended_standing n s t at = go (was_late n s t && not (late.is_out (state_of at.terminal)))
  where
    go : (c : Bool) → standing_of (if c then told_at Command.Stop at else at).terminal ≡ standing_of at.terminal
    go true = refl
    go false = refl

told_standing : (n : ℕ) (s t : State) (found : Option AtLink) → stands_in (told_if n s t found) ≡ stands_in found
told_standing n s t None = refl
told_standing n s t (Some at) = ended_standing n s t at

-- one that isn't out of service is told so where an order was late
out_same : (t : Terminal) → late.is_out (state_of t) ≡ is_out (standing_of t)
out_same t = go t.state t.up refl
  where
    go : (phase : LinkPhase) (up : Bool) → t.state ≡ phase → late.is_out (state_of t) ≡ is_out (standing_of t)
    go LinkPhase.OutOfService up e = rw e refl
    go LinkPhase.Aligning up e = rw e (aligning_out t.align.state)
      where
        aligning_out : (x : _) → late.is_out (aligning_as x) ≡ false
        aligning_out AlignState.Idle = refl
        aligning_out AlignState.NotAligned = refl
        aligning_out AlignState.Aligned = refl
        aligning_out AlignState.Proving = refl
    go LinkPhase.Ready up e = rw e refl
    go (LinkPhase.InService paused) up e = rw e (serving_out t.up)
      where
        serving_out : (x : Bool) → false ≡ is_out (standing_in (LinkPhase.InService paused) x)
        serving_out true = refl
        serving_out false = refl

told_marked : (n : ℕ) (s t : State) (found : Option AtLink) → is_marked found ≡ true → is_marked (told_if n s t found) ≡ true
told_marked n s t None is = refl
told_marked n s t (Some at) is = go (was_late n s t && not (late.is_out (state_of at.terminal)))
  where
    go : (c : Bool) → is_marked (Some (if c then told_at Command.Stop at else at)) ≡ true
    go true = or_true (is_out (standing_of at.terminal))
    go false = is

late_marked : (n : ℕ) (s t : State) (found : Option AtLink) → (late_at n t ≡ late_at n s → ⊥) → is_marked (told_if n s t found) ≡ true
late_marked n s t None late_is = refl
late_marked n s t (Some at) late_is = go (is_out (standing_of at.terminal)) refl
  where
    was : was_late n s t ≡ true
    was = go_eq (late_at n t == late_at n s) refl
      where
        go_eq : (c : Bool) → (late_at n t == late_at n s) ≡ c → not (late_at n t == late_at n s) ≡ true
        go_eq false e = ap not e
        go_eq true e = absurd (late_is (eqb-true (late_at n t) (late_at n s) e))

    go : (c : Bool) → is_out (standing_of at.terminal) ≡ c → is_marked (Some (ended_at n s t at)) ≡ true
    go true e = told_marked n s t (Some at) (ap (λ (x : Bool). x || at.terminal.commands.stop) e)
    go false e =
        let stops : (was_late n s t && not (late.is_out (state_of at.terminal))) ≡ true =
        ap (λ (x : Bool). x && not (late.is_out (state_of at.terminal))) was ∙ ap not (out_same at.terminal ∙ e) in
        ap (λ (c : Bool). is_marked (Some (if c then told_at Command.Stop at else at))) stops ∙ or_true (is_out (standing_of at.terminal))

-- A WAY, marked or not
module _ (l : ℕ) (mine far : Cover) (s t : State) (line : List SignalUnit) (st : Standing) where
  pub marks_on : (marked marked' : Bool) (way : Way) → (marked' ≡ false → marked ≡ false) → Follows mine far l s t line st marked way
      → Follows mine far l s t line st marked' (settled_if marked' way)
  marks_on marked true way same f = settles l mine far s t line st true way (ends l mine mine far s t line st st marked way f)
  marks_on marked false way same f = subst (λ (c : Bool). Follows mine far l s t line st c way) (same refl) f

pub settled_old : (marked : Bool) (way : Way) → marked ≡ true → (settled_if marked way).fresh ≡ []
settled_old true way is = refl
settled_old false way is = absurd cc

-- a set with these entries is the bench's
pub entries_history : (full : LinkSet) (entries : List Entry) → (with_entries full entries).history ≡ full.history ++ entries
entries_history full [] = sym (append_nil full.history)
  where
    append_nil : (xs : List Entry) → xs ++ [] ≡ xs
    append_nil [] = refl
    append_nil (x ∷ xs) = ap (λ (ys : List Entry). x ∷ ys) (append_nil xs)
entries_history full (x ∷ xs) = entries_history (with_entry full x) xs ∙ append_assoc full.history (x ∷ []) xs

pub entries_base : (full : LinkSet) (entries : List Entry) → (with_entries full entries).base ≡ full.base
entries_base full [] = refl
entries_base full (x ∷ xs) = entries_base (with_entry full x) xs

pub entries_links : (full : LinkSet) (entries : List Entry) → length (with_entries full entries).state.links ≡ length full.state.links
entries_links full [] = refl
entries_links full (x ∷ xs) = entries_links (with_entry full x) xs ∙ link_count_stays full.state x.event

-- laws of sets, as the walk wants them
once : (m : ℕ) (s : State) (event : Event) → (late_at m (step s event).state ≡ late_at m s) ⊎ (late_at m (step s event).state ≡ one_later (late_at m s))
once m s event = go (late_orders m s event)
  where
    go : IsLateOnce m s (step s event).state → (late_at m (step s event).state ≡ late_at m s) ⊎ (late_at m (step s event).state ≡ one_later (late_at m s))
    go (as_before is) = inl is
    go (one_more is) = inr is

gives_one : (m : ℕ) (s : State) → is_up m s ≡ true → (unit : SignalUnit) × ((step s (Event.Next m)).answer ≡ Answer.Sent unit)
gives_one m s up = let is = up_served m s up in (is.unit, is.sent)

hears_it : (m : ℕ) (s : State) (unit : SignalUnit) → is_up m s ≡ true → (step s (Event.Heard m unit)).answer ≡ Answer.Refused Refusal.NotUp → ⊥
hears_it m s unit up = (up_served m s up).heard unit

starts_in : (m : ℕ) (s : State) (found : Option AtLink) → ((at : AtLink) → found ≡ Some at → IsLinkSo m at.terminal s) → IsStarting (stands_in found) → is_settled m s ≡ true
starts_in m s None so starting = absurd starting
starts_in m s (Some at) so starting = (so at refl).stands.settled starting

stands_so : (m : ℕ) (s : State) (found : Option AtLink) (at : AtLink) → found ≡ Some at → IsLinkSo m at.terminal s → StandsAt m (stands_in found) s
stands_so m s found at is so = subst (λ (x : Option AtLink). StandsAt m (stands_in x) s) (sym is) so.stands

pub record TurnFollows (a b : SetConfig) (end : End) (count : ℕ) (near' far : BenchState) (near_ways far_ways : ℕ → Way) : Type 0 where
  pub going : Going a b end far.set near'.set
  pub near_follows : EndFollows going.g end (other end) count near' far near_ways
  pub far_follows : EndFollows going.g (other end) end count far near' far_ways

module _ (a b : SetConfig) (end : End) (l : ℕ) (count : ℕ) (near near' far : BenchState) (w : Going a b end far.set near.set)
    (near_ways far_ways near_ways' far_ways' : ℕ → Way)
    (fn : EndFollows w.g end (other end) count near far near_ways) (ff : EndFollows w.g (other end) end count far near far_ways)
    (was now : AtLink) (is_at : slice_get near.links l ≡ Some was) (links_count : length near.links ≡ count)
    (links_are : near'.links ≡ ended_from 0 near.set.state near'.set.state (slice_set near.links l now))
    (near_so : (m : ℕ) (at : AtLink) → slice_get near.links m ≡ Some at → IsLinkSo m at.terminal near.set.state)
    (far_so : (m : ℕ) (at : AtLink) → slice_get far.links m ≡ Some at → IsLinkSo m at.terminal far.set.state)
    (marks : List Mark) (entries : List Entry) (unit : Option SignalUnit)
    (asks : AsksSo l was.terminal.commands.start was.terminal.commands.stop marks (standing_of was.terminal) (standing_of now.terminal) entries unit)
    (legal : IsLegal near.set.state entries) (set_is : with_entries near.set entries ≡ near'.set) (room : HasRoom near.set entries)
    (few_marks : length marks ≤ 2) (cs rest : List Carried) (front : carried_in (near_ways l) ≡ cs ++ rest)
    (heard : HearsSome marks cs)
    (aligned : is_marked (Some was) ≡ false → has_aligned (standing_of was.terminal) ≡ true → (near_ways l).old ≡ [])
    (near_l : near_ways' l ≡ settled_if (is_marked (slice_get near'.links l)) (heard_all cs (near_ways l)))
    (near_m : (m : ℕ) → (l == m) ≡ false → near_ways' m ≡ settled_if (is_marked (slice_get near'.links m)) (near_ways m))
    (far_l : far_ways' l ≡ settled_if (is_marked (slice_get far.links l)) (sent_if unit (gives_unit entries) (far_ways l)))
    (far_m : (m : ℕ) → (l == m) ≡ false → far_ways' m ≡ settled_if (is_marked (slice_get far.links m)) (far_ways m)) where
  abbrev s : State
  s = near.set.state

  abbrev s' : State
  s' = near'.set.state

  abbrev v : Sight
  v = record {
    far = far.set;
    near_ways = near_ways;
    near_standing = λ m. stands_in (slice_get near.links m);
    near_marked = λ m. is_marked (slice_get near.links m);
    late_before = λ m. late_at m s;
    far_ways = far_ways;
    far_standing = λ m. stands_in (slice_get far.links m);
    far_marked = λ m. is_marked (slice_get far.links m);
  }

  abbrev st : Standing
  st = stands_in (slice_get near.links l)

  st_is : st ≡ standing_of was.terminal
  st_is = ap stands_in is_at

  marked_is : is_marked (slice_get near.links l) ≡ (is_out st || was.terminal.commands.stop)
  marked_is = ap is_marked is_at ∙ ap (λ (x : Standing). is_out x || was.terminal.commands.stop) (sym st_is)

  far_starts : IsStarting (v.far_standing l) → is_settled l far.set.state ≡ true
  far_starts = starts_in l far.set.state (slice_get far.links l) (λ at there. far_so l at there)

  few : l < length near.set.state.links
  few = let here = within near.links l was is_at in let is = fn.count_is in omega (arith, here, links_count, is)

  at_first : Mid a b end l v 0 near.set st (is_marked (slice_get near.links l)) (near_ways l) (far_ways l)
  at_first = record {
    w = w;
    near = fn.each l;
    far = ff.each l;
    others = λ m apart. record {
      late = 0;
      late_is = refl;
      most = omega arith;
      near = subst (λ (c : Bool). Follows (open_at w.g end m) (open_at w.g (other end) m) m s far.set.state (line_to w.g.stage.world end m) (v.near_standing m) c (near_ways m))
          (sym (or_none (v.near_marked m))) (fn.each m);
      far = ff.each m;
      starts = starts_in m s (slice_get near.links m) (λ at there. near_so m at there);
    };
    stands = stands_so l s (slice_get near.links l) was is_at (near_so l was is_at);
    never_waits = fn.calm l;
    profile = fn.profile;
    few = few;
  }

  flushed_at : is_marked (slice_get near.links l) ≡ false → IsFlushed st (near_ways l)
  flushed_at unmarked =
      let un : is_marked (Some was) ≡ false = ap is_marked (sym is_at) ∙ unmarked in
      record {
        ready_is = λ e. aligned un (ap has_aligned (sym st_is ∙ e));
        served_is = λ e. aligned un (ap has_aligned (sym st_is ∙ e));
      }

  gone_by : Sends a b end l v once others_refused gives_one far_starts (5 * length marks + 4) (with_entries near.set entries) (standing_of now.terminal) entries unit
      (heard_all cs (near_ways l)) (far_ways l)
  gone_by =
      turn_on a b end l v once others_refused gives_one hears_it (ff.old l) far_starts near.set st (is_marked (slice_get near.links l)) was.terminal.commands.stop
      was.terminal.commands.start (near_ways l) at_first marked_is (fn.old l) flushed_at
      (λ started is. (near_so l was is_at).starts started (sym st_is ∙ is))
      (standing_of now.terminal) marks entries unit cs rest front heard
      (subst (λ (x : Standing). AsksSo l was.terminal.commands.start was.terminal.commands.stop marks x (standing_of now.terminal) entries unit) (sym st_is) asks)
      legal room

  gone : Gone a b end l v once (5 * length marks + 4) near'.set (standing_of now.terminal) (heard_all cs (near_ways l)) (sent_if unit gone_by.given (far_ways l))
  gone = subst (λ (x : LinkSet). Gone a b end l v once (5 * length marks + 4) x (standing_of now.terminal) (heard_all cs (near_ways l)) (sent_if unit gone_by.given (far_ways l)))
      set_is gone_by.gone

  -- the links of the near end
  here_then : slice_get near'.links l ≡ told_if l s s' (Some now)
  here_then =
      ap (λ (ls : List AtLink). slice_get ls l) links_are ∙ get_ended 0 s s' (slice_set near.links l now) l
      ∙ ap (λ (n : ℕ). told_if n s s' (slice_get (slice_set near.links l now) l)) (let same : 0 + l ≡ l = omega arith in same)
      ∙ ap (told_if l s s') (get_set_same near.links l now (within near.links l was is_at))

  other_then : (m : ℕ) → (l == m) ≡ false → slice_get near'.links m ≡ told_if m s s' (slice_get near.links m)
  other_then m apart =
      ap (λ (ls : List AtLink). slice_get ls m) links_are ∙ get_ended 0 s s' (slice_set near.links l now) m
      ∙ ap (λ (n : ℕ). told_if n s s' (slice_get (slice_set near.links l now) m)) (let same : 0 + m ≡ m = omega arith in same)
      ∙ ap (told_if m s s') (get_set_other near.links l m now (no_other l m apart))

  stands_here : stands_in (slice_get near'.links l) ≡ standing_of now.terminal
  stands_here = ap stands_in here_then ∙ ended_standing l s s' now

  stands_there : (m : ℕ) → (l == m) ≡ false → stands_in (slice_get near'.links m) ≡ stands_in (slice_get near.links m)
  stands_there m apart = ap stands_in (other_then m apart) ∙ told_standing m s s' (slice_get near.links m)

  is_false : (x : Bool) → (x ≡ true → ⊥) → x ≡ false
  is_false false never = refl
  is_false true never = absurd (never refl)

  both_none : (x y : Bool) → x ≡ false → y ≡ false → (x || y) ≡ false
  both_none x y e f = ap (λ (c : Bool). c || y) e ∙ f

  here_marked : is_marked (slice_get near'.links l) ≡ false → gone.marked ≡ false
  here_marked unmarked = is_false gone.marked (λ is.
      let told : is_marked (Some now) ≡ true = ap (λ (x : Standing). is_out x || now.terminal.commands.stop) (gone.only is) in
      let no_more : true ≡ false = sym (ap is_marked here_then ∙ told_marked l s s' (Some now) told) ∙ unmarked in absurd cc)

  other_marked : (m : ℕ) (apart : (l == m) ≡ false) → is_marked (slice_get near'.links m) ≡ false
      → (v.near_marked m || nat_lt 0 (gone.mid.others m apart).late) ≡ false
  other_marked m apart unmarked =
      both_none (v.near_marked m) (nat_lt 0 o.late)
      (is_false (v.near_marked m) (λ is. not_so (told_marked m s s' (slice_get near.links m) is)))
      (none_late o.late refl)
    where
      o : Others a b end l v near'.set gone.mid.w gone.done m
      o = gone.mid.others m apart

      not_so : is_marked (told_if m s s' (slice_get near.links m)) ≡ true → ⊥
      not_so is = let wrong : true ≡ false = sym (ap is_marked (other_then m apart) ∙ is) ∙ unmarked in absurd cc

      none_late : (k : ℕ) → o.late ≡ k → nat_lt 0 o.late ≡ false
      none_late zero e = ap (nat_lt 0) e
      none_late (suc k) e =
          let most = o.most in
          let few_done = gone.most_is in
          let bound : suc k < 2 ^ 32 = omega (arith, most, few_done, few_marks, e) in
          absurd (not_so (late_marked m s s' (slice_get near.links m)
          (λ same. not_as_before (suc k) (late_at m s) (omega arith) bound (sym (o.late_is ∙ ap (λ (x : ℕ). later x (late_at m s)) e) ∙ same))))

  each_near : (m : ℕ) → Follows (open_at gone.mid.w.g end m) (open_at gone.mid.w.g (other end) m) m s' far.set.state (line_to gone.mid.w.g.stage.world end m)
      (stands_in (slice_get near'.links m)) (is_marked (slice_get near'.links m)) (near_ways' m)
  each_near m = go (l == m) refl
    where
      here_is : Follows (open_at gone.mid.w.g end l) (open_at gone.mid.w.g (other end) l) l s' far.set.state (line_to gone.mid.w.g.stage.world end l)
          (stands_in (slice_get near'.links l)) (is_marked (slice_get near'.links l)) (near_ways' l)
      here_is = subst (λ (x : Way). Follows (open_at gone.mid.w.g end l) (open_at gone.mid.w.g (other end) l) l s' far.set.state (line_to gone.mid.w.g.stage.world end l) (stands_in (slice_get near'.links l)) (is_marked (slice_get near'.links l)) x) (sym near_l)
          (subst (λ (x : Standing). Follows (open_at gone.mid.w.g end l) (open_at gone.mid.w.g (other end) l) l s' far.set.state (line_to gone.mid.w.g.stage.world end l) x (is_marked (slice_get near'.links l)) (settled_if (is_marked (slice_get near'.links l)) (heard_all cs (near_ways l))))
          (sym stands_here)
          (marks_on l _ _ s' far.set.state _ (standing_of now.terminal) gone.marked (is_marked (slice_get near'.links l)) (heard_all cs (near_ways l)) here_marked gone.mid.near))

      go : (c : Bool) → (l == m) ≡ c → Follows (open_at gone.mid.w.g end m) (open_at gone.mid.w.g (other end) m) m s' far.set.state (line_to gone.mid.w.g.stage.world end m)
          (stands_in (slice_get near'.links m)) (is_marked (slice_get near'.links m)) (near_ways' m)
      go true e = subst (λ (n : ℕ). Follows (open_at gone.mid.w.g end n) (open_at gone.mid.w.g (other end) n) n s' far.set.state (line_to gone.mid.w.g.stage.world end n)
          (stands_in (slice_get near'.links n)) (is_marked (slice_get near'.links n)) (near_ways' n)) (eqb-true l m e) here_is
      go false e =
          subst (λ (x : Way). Follows (open_at gone.mid.w.g end m) (open_at gone.mid.w.g (other end) m) m s' far.set.state (line_to gone.mid.w.g.stage.world end m) (stands_in (slice_get near'.links m)) (is_marked (slice_get near'.links m)) x) (sym (near_m m e))
          (subst (λ (x : Standing). Follows (open_at gone.mid.w.g end m) (open_at gone.mid.w.g (other end) m) m s' far.set.state (line_to gone.mid.w.g.stage.world end m) x (is_marked (slice_get near'.links m)) (settled_if (is_marked (slice_get near'.links m)) (near_ways m)))
          (sym (stands_there m e))
          (marks_on m _ _ s' far.set.state _ (v.near_standing m) _ (is_marked (slice_get near'.links m)) (near_ways m) (other_marked m e) (gone.mid.others m e).near))

  each_far : (m : ℕ) → Follows (open_at gone.mid.w.g (other end) m) (open_at gone.mid.w.g end m) m far.set.state s' (line_to gone.mid.w.g.stage.world (other end) m)
      (stands_in (slice_get far.links m)) (is_marked (slice_get far.links m)) (far_ways' m)
  each_far m = go (l == m) refl
    where
      sent_is : far_ways' l ≡ settled_if (is_marked (slice_get far.links l)) (sent_if unit gone_by.given (far_ways l))
      sent_is = far_l ∙ ap (λ (g : Bool). settled_if (is_marked (slice_get far.links l)) (sent_if unit g (far_ways l))) gone_by.given_is

      here_is : Follows (open_at gone.mid.w.g (other end) l) (open_at gone.mid.w.g end l) l far.set.state s' (line_to gone.mid.w.g.stage.world (other end) l)
          (stands_in (slice_get far.links l)) (is_marked (slice_get far.links l)) (far_ways' l)
      here_is = subst (λ (x : Way). Follows (open_at gone.mid.w.g (other end) l) (open_at gone.mid.w.g end l) l far.set.state s' (line_to gone.mid.w.g.stage.world (other end) l) (stands_in (slice_get far.links l)) (is_marked (slice_get far.links l)) x) (sym sent_is)
          (marks_on l _ _ far.set.state s' _ _ _ (is_marked (slice_get far.links l)) (sent_if unit gone_by.given (far_ways l)) (λ is. is) gone.mid.far)

      go : (c : Bool) → (l == m) ≡ c → Follows (open_at gone.mid.w.g (other end) m) (open_at gone.mid.w.g end m) m far.set.state s' (line_to gone.mid.w.g.stage.world (other end) m)
          (stands_in (slice_get far.links m)) (is_marked (slice_get far.links m)) (far_ways' m)
      go true e = subst (λ (n : ℕ). Follows (open_at gone.mid.w.g (other end) n) (open_at gone.mid.w.g end n) n far.set.state s' (line_to gone.mid.w.g.stage.world (other end) n)
          (stands_in (slice_get far.links n)) (is_marked (slice_get far.links n)) (far_ways' n)) (eqb-true l m e) here_is
      go false e =
          subst (λ (x : Way). Follows (open_at gone.mid.w.g (other end) m) (open_at gone.mid.w.g end m) m far.set.state s' (line_to gone.mid.w.g.stage.world (other end) m) (stands_in (slice_get far.links m)) (is_marked (slice_get far.links m)) x) (sym (far_m m e))
          (marks_on m _ _ far.set.state s' _ _ _ (is_marked (slice_get far.links m)) (far_ways m) (λ is. is) (gone.mid.others m e).far)

  near_old : (m : ℕ) → is_marked (slice_get near'.links m) ≡ true → (near_ways' m).fresh ≡ []
  near_old m marked = go (l == m) refl
    where
      go : (c : Bool) → (l == m) ≡ c → (near_ways' m).fresh ≡ []
      go true e =
          let same = eqb-true l m e in
          subst (λ (n : ℕ). (near_ways' n).fresh ≡ []) same
          (ap (λ (x : Way). x.fresh) near_l ∙ settled_old (is_marked (slice_get near'.links l)) (heard_all cs (near_ways l))
          (subst (λ (n : ℕ). is_marked (slice_get near'.links n) ≡ true) (sym same) marked))
      go false e = ap (λ (x : Way). x.fresh) (near_m m e) ∙ settled_old (is_marked (slice_get near'.links m)) (near_ways m) marked

  far_old : (m : ℕ) → is_marked (slice_get far.links m) ≡ true → (far_ways' m).fresh ≡ []
  far_old m marked = go (l == m) refl
    where
      go : (c : Bool) → (l == m) ≡ c → (far_ways' m).fresh ≡ []
      go true e =
          let same = eqb-true l m e in
          subst (λ (n : ℕ). (far_ways' n).fresh ≡ []) same
          (ap (λ (x : Way). x.fresh) far_l ∙ settled_old (is_marked (slice_get far.links l)) (sent_if unit (gives_unit entries) (far_ways l))
          (subst (λ (n : ℕ). is_marked (slice_get far.links n) ≡ true) (sym same) marked))
      go false e = ap (λ (x : Way). x.fresh) (far_m m e) ∙ settled_old (is_marked (slice_get far.links m)) (far_ways m) marked

  near_calm : (m : ℕ) → stands_in (slice_get near'.links m) ≡ waiting → ⊥
  near_calm m waits = go (l == m) refl
    where
      go : (c : Bool) → (l == m) ≡ c → ⊥
      go true e = gone.mid.never_waits (sym stands_here ∙ subst (λ (n : ℕ). stands_in (slice_get near'.links n) ≡ waiting) (sym (eqb-true l m e)) waits)
      go false e = fn.calm m (sym (stands_there m e) ∙ waits)

  pub turn_follows : TurnFollows a b end count near' far near_ways' far_ways'
  turn_follows = record {
    going = gone.mid.w;
    near_follows = record {
      each = each_near;
      old = near_old;
      calm = near_calm;
      profile = gone.mid.profile;
      count_is = ap (λ (x : LinkSet). length x.state.links) (sym set_is) ∙ entries_links near.set entries ∙ fn.count_is;
    };
    far_follows = record { each = each_far; old = far_old; calm = ff.calm; profile = ff.profile; count_is = ff.count_is };
  }
