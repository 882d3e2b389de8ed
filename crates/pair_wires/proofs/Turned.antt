-- A TURN, move by move: how far it has gone (`Mid`), and how each part of it goes on (`falls_on`, `obeys_on`, `hears_on`, `times_on`,
-- `chooses_on`).
use Rattle.std.proofs.Common.{refl, arith, ap, sym, subst, ◌≡◌, ◌∙◌, ◌<◌, ◌≤◌, ◌⊎◌, inl, inr, ℕ, zero, suc, ◌+◌, ◌==◌, ◌||◌, Bool, true, false, List, [], ◌∷◌, ◌++◌, length, nat_lt, slice_get, Option, Some, None}
use Rattle.std.proofs.lemmas.Bool.Decides.{nat_tests}
use Rattle.std.proofs.lemmas.List.{length-append}
use Rattle.l2_units.specs.declared.profile.Profile.TheVariants.{Narrow}
use Rattle.l2_units.specs.declared.unit.Unit.{Unit as SignalUnit}
use Rattle.set_events.specs.declared.config.SetConfig.{SetConfig}
use Rattle.set_events.specs.declared.event.Event.{Event}
use Rattle.set_events.specs.declared.history.Entry.{Entry}
use Rattle.set_model.specs.Changeover.{one_later}
use Rattle.set_model.specs.History.{LinkSet, IsLegal, after, entries_in, longest_history}
use Rattle.set_model.specs.declared.phase.Phase.{Phase}
use Rattle.set_model.specs.State.{LinkState, State, has_phase_settled, has_phase_up, is_settled, is_up, late_at, link_is_settled, link_is_up}
use Rattle.set_model.specs.Sound.{IsSound}
use Rattle.set_model.specs.Step.{step}
use Rattle.set_model.proofs.Walk.{link_count_stays}
use Rattle.set_octets.specs.Lives.{GoesOn, IsNoUp}
use Rattle.set_octets.specs.Starting.{HearsNoneYet, IsNotHeardOn}
use Rattle.set_octets.proofs.Lives.{down_ends, only_up}
use Rattle.set_octets.proofs.Starting.{none_heard}
use Rattle.term_asks.specs.Asking.{Standing, out, ready, waiting, served, Falls, stays, drops, tells}
use Rattle.pair_steps.specs.declared.step.End.{End}
use Rattle.pair_steps.specs.declared.step.End.TheVariants.{A, B}
use Rattle.pair_steps.specs.declared.step.Step.TheVariants.{Act}
use Rattle.pair_model.specs.World.{actor_of, at_end, has_actor, has_own_step, is_full, line_to, other}
use Rattle.pair_model.proofs.Pairs.{settings_stay}
use Rattle.pair_rises.specs.declared.moves.Move.TheVariants.{Step as MoveStep}
use Rattle.pair_rises.specs.Rises.{Cover, awaited, missed, IsPlainMove, open_at}
use Rattle.pair_wires.specs.Apart.{StandsApart}
use Rattle.pair_wires.specs.Following.{Follows, LinkApart}
use Rattle.pair_wires.specs.Standing.{IsStarting, StandsAt}
use Rattle.pair_wires.specs.Ways.{Way}
use Rattle.pair_wires.proofs.Following.{ends, far_less, goes_far, goes_near}
use Rattle.pair_wires.proofs.Going.{Going, IsCovered, Leaves, acts_on, as_was, is_missed, known_link, with_entry}
use Rattle.pair_rises.proofs.Runs.{Holds}
use Rattle.pair_wires.proofs.Reached.{holds_there, stands_there}

-- an event of the terminal of link l, of another link m
abbrev pub IsElsewhere : ℕ → Event → Type 0
IsElsewhere m event = IsNoUp m event × IsNotHeardOn m event

-- so many late orders more
abbrev pub later : ℕ → ℕ → ℕ
later zero late = late
later (suc n) late = one_later (later n late)

pub other_twice : (end : End) → other (other end) ≡ end
other_twice A = refl
other_twice B = refl

pub or_true : (b : Bool) → (b || true) ≡ true
or_true true = refl
or_true false = refl

pub some_late : (b : Bool) (n : ℕ) → (b || nat_lt 0 (suc n)) ≡ true
some_late b n = let more : nat_lt 0 (suc n) ≡ true = grind (arith, nat_tests) in ap (λ (c : Bool). b || c) more ∙ or_true b

pub or_none : (b : Bool) → (b || false) ≡ b
or_none true = refl
or_none false = refl

-- told by other words
pub retold : (mine mine' theirs theirs' : Cover) (m : ℕ) (s t : State) (line line' : List SignalUnit) (st : Standing) (marked : Bool) (way : Way)
    → mine' ≡ mine → theirs' ≡ theirs → line' ≡ line → Follows mine theirs m s t line st marked way → Follows mine' theirs' m s t line' st marked way
retold mine mine' theirs theirs' m s t line line' st marked way x y z f =
    subst (λ (c : Cover). Follows c theirs' m s t line' st marked way) (sym x)
    (subst (λ (c : Cover). Follows mine c m s t line' st marked way) (sym y)
    (subst (λ (us : List SignalUnit). Follows mine theirs m s t us st marked way) (sym z) f))

-- WHAT IS FIXED IN A TURN of link l at an end: the far end's set, what is under way on other links, and how links stand
pub record Sight : Type 0 where
  pub far : LinkSet
  -- at the near end, link by link; the late orders about each that had been heard before the turn
  pub near_ways : ℕ → Way
  pub near_standing : ℕ → Standing
  pub near_marked : ℕ → Bool
  pub late_before : ℕ → ℕ
  -- at the far end
  pub far_ways : ℕ → Way
  pub far_standing : ℕ → Standing
  pub far_marked : ℕ → Bool

module _ (a b : SetConfig) (end : End) (l : ℕ) (v : Sight) where
  -- OF ANOTHER LINK
  pub record Others (full : LinkSet) (w : Going a b end v.far full) (done : ℕ) (m : ℕ) : Type 0 where
    pub late : ℕ
    pub late_is : late_at m full.state ≡ later late (v.late_before m)
    pub most : late ≤ done
    pub near : Follows (open_at w.g end m) (open_at w.g (other end) m) m full.state v.far.state (line_to w.g.stage.world end m)
        (v.near_standing m) (v.near_marked m || nat_lt 0 late) (v.near_ways m)
    pub far : Follows (open_at w.g (other end) m) (open_at w.g end m) m v.far.state full.state (line_to w.g.stage.world (other end) m)
        (v.far_standing m) (v.far_marked m) (v.far_ways m)
    pub starts : IsStarting (v.near_standing m) → is_settled m full.state ≡ true

  -- HOW FAR THE TURN HAS GONE: by so many entries the set is at this, the link stands so, and so much is under way on it
  pub record Mid (done : ℕ) (full : LinkSet) (standing : Standing) (marked : Bool) (near_way far_way : Way) : Type 0 where
    pub w : Going a b end v.far full
    pub near : Follows (open_at w.g end l) (open_at w.g (other end) l) l full.state v.far.state (line_to w.g.stage.world end l) standing marked near_way
    pub far : Follows (open_at w.g (other end) l) (open_at w.g end l) l v.far.state full.state (line_to w.g.stage.world (other end) l)
        (v.far_standing l) (v.far_marked l) far_way
    pub others : (m : ℕ) → (l == m) ≡ false → Others full w done m
    pub stands : StandsAt l standing full.state
    pub never_waits : standing ≡ waiting → ⊥
    pub profile : full.state.settings.profile ≡ Narrow
    pub few : l < length full.state.links

  -- both ends stand so to the life of a link
  pub apart_at : (full : LinkSet) (w : Going a b end v.far full) (m : ℕ)
      → LinkApart (open_at w.g end m) (open_at w.g (other end) m) m full.state v.far.state
  apart_at full w m =
      let s : StandsApart w.g = stands_there a b w.moves w.g w.reached in
      let near = w.near_thin.state in
      let far = w.far_thin.state in
      let back = λ (e : End) (same : e ≡ end). ap (λ (x : End). (at_end w.g.stage.world x).state) same ∙ near in
      record {
        settled = λ is never. ap (is_up m) (sym far) ∙ s.settled end m (ap (is_settled m) near ∙ is) never;
        settled_far = λ is never. ap (is_up m) (sym (back (other (other end)) (other_twice end)))
            ∙ s.settled (other end) m (ap (is_settled m) far ∙ is) never;
        waits = λ is. ap (is_settled m) (sym near) ∙ s.waits end m is;
        waits_far = λ is. ap (is_settled m) (sym far) ∙ s.waits (other end) m is;
        awaits = λ is. ap (is_settled m) (sym far) ∙ s.awaits end m is;
        awaits_far = λ is. ap (is_settled m) (sym (back (other (other end)) (other_twice end))) ∙ s.awaits (other end) m is;
      }

  -- the set is a sound one
  pub sound_at : (full : LinkSet) (w : Going a b end v.far full) → IsSound full.state
  sound_at full w = subst IsSound w.near_thin.state (go end)
    where
      held : Holds false a.method b.method w.reached.run.one_method w.g
      held = holds_there a b w.moves w.g w.reached

      go : (e : End) → IsSound (at_end w.g.stage.world e).state
      go A = held.sound_x
      go B = held.sound_y

  -- ONE MOVE MORE, by which the set goes on so at other links
  pub record GoesElsewhere (m : ℕ) (s s' : State) : Type 0 where
    pub goes : GoesOn m s s'
    pub till : HearsNoneYet m s → HearsNoneYet m s'
    pub once : (late_at m s' ≡ late_at m s) ⊎ (late_at m s' ≡ one_later (late_at m s))

  module _ (done : ℕ) (full full' : LinkSet) (w : Going a b end v.far full) (mine theirs : Cover) (near_line far_line : List SignalUnit)
      (moved_so : Leaves a b end v.far l full full' w mine theirs near_line far_line) where
    pub other_on : (m : ℕ) → (l == m) ≡ false → GoesElsewhere m full.state full'.state → Others full w done m → Others full' moved_so.next (suc done) m
    other_on m apart e o = by_cover (moved_so.own m apart)
      where
        next : Going a b end v.far full'
        next = moved_so.next

        near_goes : Follows (open_at w.g end m) (open_at w.g (other end) m) m full'.state v.far.state (line_to w.g.stage.world end m)
            (v.near_standing m) (v.near_marked m || nat_lt 0 o.late) (v.near_ways m)
        near_goes = goes_near m _ _ full.state full'.state v.far.state _ _ _ _ e.goes e.till o.near

        far_goes : Follows (open_at w.g (other end) m) (open_at w.g end m) m v.far.state full'.state (line_to w.g.stage.world (other end) m)
            (v.far_standing m) (v.far_marked m) (v.far_ways m)
        far_goes = goes_far m _ _ v.far.state full.state full'.state _ _ _ _ e.goes.settled o.far

        starts_on : IsStarting (v.near_standing m) → is_settled m full'.state ≡ true
        starts_on starting = e.goes.settled (o.starts starting)

        -- one late order more: it's told to stop
        one_more : late_at m full'.state ≡ one_later (late_at m full.state)
            → Follows (open_at next.g (other end) m) (open_at next.g end m) m v.far.state full'.state (line_to next.g.stage.world (other end) m)
            (v.far_standing m) (v.far_marked m) (v.far_ways m) → Others full' next (suc done) m
        one_more is far_then = record {
          late = suc o.late;
          late_is = is ∙ ap one_later o.late_is;
          most = let few = o.most in omega (arith, few);
          near = subst (λ (c : Bool). Follows (open_at next.g end m) (open_at next.g (other end) m) m full'.state v.far.state (line_to next.g.stage.world end m)
              (v.near_standing m) c (v.near_ways m)) (sym (some_late (v.near_marked m) o.late))
              (retold _ _ _ _ m full'.state v.far.state _ _ _ true _ refl (moved_so.other_covers m apart) (moved_so.lines end m apart)
              (ends m _ (open_at next.g end m) _ full'.state v.far.state _ _ (v.near_standing m) _ _ near_goes));
          far = far_then;
          starts = starts_on;
        }

        by_cover : IsCovered a b end v.far (open_at w.g end m) (open_at next.g end m) (late_at m full.state) (late_at m full'.state) → Others full' next (suc done) m
        by_cover (is_missed waits is so_far) =
            one_more so_far
            (retold _ _ _ _ m v.far.state full'.state _ _ _ _ _ (moved_so.other_covers m apart) refl (moved_so.lines (other end) m apart)
            (far_less m _ _ (open_at next.g end m) v.far.state full'.state _ _ _ _
            (λ e. let no : missed ≡ awaited = sym is ∙ e in absurd cc) far_goes))
        by_cover (as_was same) = by_late e.once
          where
            far_then : Follows (open_at next.g (other end) m) (open_at next.g end m) m v.far.state full'.state (line_to next.g.stage.world (other end) m)
                (v.far_standing m) (v.far_marked m) (v.far_ways m)
            far_then = retold _ _ _ _ m v.far.state full'.state _ _ _ _ _ (moved_so.other_covers m apart) same (moved_so.lines (other end) m apart) far_goes

            by_late : (late_at m full'.state ≡ late_at m full.state) ⊎ (late_at m full'.state ≡ one_later (late_at m full.state)) → Others full' next (suc done) m
            by_late (inr is) = one_more is far_then
            by_late (inl is) = record {
              late = o.late;
              late_is = is ∙ o.late_is;
              most = let few = o.most in omega (arith, few);
              near = retold _ _ _ _ m full'.state v.far.state _ _ _ _ _ same (moved_so.other_covers m apart) (moved_so.lines end m apart) near_goes;
              far = far_then;
              starts = starts_on;
            }

    -- and the link itself
    pub mid_goes : (st st' : Standing) (marked marked' : Bool) (near_way near_way' far_way far_way' : Way) (mid : Mid done full st marked near_way far_way) → mid.w ≡ w
        → ((m : ℕ) → (l == m) ≡ false → GoesElsewhere m full.state full'.state) → full'.state.settings ≡ full.state.settings
        → length full'.state.links ≡ length full.state.links
        → Follows mine theirs l full'.state v.far.state near_line st' marked' near_way'
        → Follows theirs mine l v.far.state full'.state far_line (v.far_standing l) (v.far_marked l) far_way' → StandsAt l st' full'.state → (st' ≡ waiting → ⊥)
        → Mid (suc done) full' st' marked' near_way' far_way'
    mid_goes st st' marked marked' near_way near_way' far_way far_way' mid same elsewhere settings links near far stands never_waits = record {
      w = moved_so.next;
      near = retold _ _ _ _ l full'.state v.far.state _ _ _ _ _ moved_so.mine_is moved_so.theirs_is moved_so.near_is near;
      far = retold _ _ _ _ l v.far.state full'.state _ _ _ _ _ moved_so.theirs_is moved_so.mine_is moved_so.far_is far;
      others = λ m apart. other_on m apart (elsewhere m apart) (subst (λ (x : Going a b end v.far full). Others full x done m) same (mid.others m apart));
      stands = stands;
      never_waits = never_waits;
      profile = ap (λ x. x.profile) settings ∙ mid.profile;
      few = let few = mid.few in omega (arith, few, links);
    }

  -- A MOVE BY WHICH THE SET STAYS as it is: so no order is counted
  never_later : (n : ℕ) → n ≡ one_later n → ⊥
  never_later n same = absurd (omega (arith, same))

  covers_rest : (full : LinkSet) (was now : Cover) (m : ℕ) → IsCovered a b end v.far was now (late_at m full.state) (late_at m full.state) → now ≡ was
  covers_rest full was now m (as_was same) = same
  covers_rest full was now m (is_missed waits is so_far) = absurd (never_later (late_at m full.state) so_far)

  pub mid_rests : (done : ℕ) (full : LinkSet) (st : Standing) (marked : Bool) (near_way near_way' far_way : Way) (near_line : List SignalUnit)
      (mid : Mid done full st marked near_way far_way)
      (moved_so : Leaves a b end v.far l full full mid.w (open_at mid.w.g end l) (open_at mid.w.g (other end) l) near_line (line_to mid.w.g.stage.world (other end) l))
      → Follows (open_at mid.w.g end l) (open_at mid.w.g (other end) l) l full.state v.far.state near_line st marked near_way'
      → Mid done full st marked near_way' far_way
  mid_rests done full st marked near_way near_way' far_way near_line mid moved_so near = record {
    w = next;
    near = retold _ _ _ _ l full.state v.far.state _ _ _ _ _ moved_so.mine_is moved_so.theirs_is moved_so.near_is near;
    far = retold _ _ _ _ l v.far.state full.state _ _ _ _ _ moved_so.theirs_is moved_so.mine_is moved_so.far_is mid.far;
    others = λ m apart.
        let o = mid.others m apart in
        let same = covers_rest full (open_at mid.w.g end m) (open_at next.g end m) m (moved_so.own m apart) in
        let far_same = moved_so.other_covers m apart in
        record {
          late = o.late;
          late_is = o.late_is;
          most = o.most;
          near = retold _ _ _ _ m full.state v.far.state _ _ _ _ _ same far_same (moved_so.lines end m apart) o.near;
          far = retold _ _ _ _ m v.far.state full.state _ _ _ _ _ far_same same (moved_so.lines (other end) m apart) o.far;
          starts = o.starts;
        };
    stands = mid.stands;
    never_waits = mid.never_waits;
    profile = mid.profile;
    few = mid.few;
  }
    where
      next : Going a b end v.far full
      next = moved_so.next

-- A SET, entry by entry
abbrev pub with_entries : LinkSet → List Entry → LinkSet
with_entries full [] = full
with_entries full (entry ∷ entries) = with_entries (with_entry full entry) entries

pub entries_more : (full : LinkSet) (xs ys : List Entry) → with_entries full (xs ++ ys) ≡ with_entries (with_entries full xs) ys
entries_more full [] ys = refl
entries_more full (x ∷ xs) ys = entries_more (with_entry full x) xs ys

pub entries_state : (full : LinkSet) (xs : List Entry) → (with_entries full xs).state ≡ after full.state xs
entries_state full [] = refl
entries_state full (x ∷ xs) = entries_state (with_entry full x) xs

pub entries_room : (full : LinkSet) (xs : List Entry) → entries_in (with_entries full xs) ≡ entries_in full + length xs
entries_room full [] = omega arith
entries_room full (x ∷ xs) =
    let rest = entries_room (with_entry full x) xs in
    let one = length-append full.history (x ∷ []) in omega (arith, rest, one)

abbrev pub HasRoom : LinkSet → List Entry → Type 0
HasRoom full entries = entries_in full + length entries ≤ longest_history

pub room_first : (full : LinkSet) (xs ys : List Entry) → HasRoom full (xs ++ ys) → HasRoom full xs
room_first full xs ys room = let sum = length-append xs ys in omega (arith, room, sum)

pub room_then : (full : LinkSet) (xs ys : List Entry) → HasRoom full (xs ++ ys) → HasRoom (with_entries full xs) ys
room_then full xs ys room = let sum = length-append xs ys in let now = entries_room full xs in omega (arith, room, sum, now)

pub has_room_for : (full : LinkSet) (x : Entry) (xs : List Entry) → HasRoom full (x ∷ xs) → is_full full ≡ false
has_room_for full x xs room = grind (arith, nat_tests, room)

pub legal_parts : (s : State) (xs ys : List Entry) → IsLegal s (xs ++ ys) → IsLegal s xs × IsLegal (after s xs) ys
legal_parts s [] ys legal = (tt, legal)
legal_parts s (x ∷ xs) ys legal = let rest = legal_parts (step s x.event).state xs ys legal.2 in ((legal.0, legal.1, rest.0), rest.1)

-- a settled link isn't up
pub settled_down : (m : ℕ) (s : State) → is_settled m s ≡ true → is_up m s ≡ false
settled_down m s settled = go (slice_get s.links m) refl settled
  where
    of : (link : LinkState) (phase : Phase) → link.phase ≡ phase → has_phase_settled link.phase ≡ true → has_phase_up link.phase ≡ false
    of link Phase.Up e is = let no : false ≡ true = ap has_phase_settled (sym e) ∙ is in absurd cc
    of link Phase.Down e is = ap has_phase_up e
    of link Phase.Settled e is = ap has_phase_up e

    go : (found : Option LinkState) → slice_get s.links m ≡ found → link_is_settled found ≡ true → is_up m s ≡ false
    go None e is = ap link_is_up e
    go (Some link) e is = ap link_is_up e ∙ of link link.phase refl is

-- one that isn't up heard nothing yet
pub none_yet : (m : ℕ) (s : State) → is_up m s ≡ false → HearsNoneYet m s
none_yet m s down link there up = let no : true ≡ false = sym up ∙ sym (ap link_is_up there) ∙ down in absurd cc

pub flipped : (mine theirs : Cover) (m : ℕ) (s t : State) → LinkApart mine theirs m s t → LinkApart theirs mine m t s
flipped mine theirs m s t x = record {
  settled = x.settled_far;
  settled_far = x.settled;
  waits = x.waits_far;
  waits_far = x.waits;
  awaits = x.awaits_far;
  awaits_far = x.awaits;
}

pub starts_where : (st : Standing) → st ≡ ready → IsStarting st
starts_where st is = subst IsStarting (sym is) tt

-- FALLING, beginning, coming up, hearing
module _ (a b : SetConfig) (end : End) (l : ℕ) (v : Sight)
    (once : (m : ℕ) (s : State) (event : Event) → (late_at m (step s event).state ≡ late_at m s) ⊎ (late_at m (step s event).state ≡ one_later (late_at m s))) where
  -- how far it has gone, by at most so many moves; and the link is marked where it's out of service alone
  pub record Gone (most : ℕ) (full : LinkSet) (standing : Standing) (near_way far_way : Way) : Type 0 where
    pub done : ℕ
    pub most_is : done ≤ most
    pub marked : Bool
    pub only : marked ≡ true → standing ≡ out
    pub mid : Mid a b end l v done full standing marked near_way far_way

  pub elsewhere_by : (full : LinkSet) (event : Event) → ((m : ℕ) → (l == m) ≡ false → IsElsewhere m event) → (m : ℕ) → (l == m) ≡ false
      → GoesElsewhere a b end l v m full.state (step full.state event).state
  elsewhere_by full event apart_from m apart =
      let is = apart_from m apart in
      record { goes = only_up m full.state event is.0; till = none_heard m full.state event is.1; once = once m full.state event }

  -- nothing changes at other links
  pub stays_elsewhere : (s : State) (m : ℕ) → GoesElsewhere a b end l v m s s
  stays_elsewhere s m = record { goes = record { settled = λ is. is; up = λ is. is }; till = λ h. h; once = inl refl }

  -- it's out of service then
  pub mid_ends : (done : ℕ) (full : LinkSet) (st : Standing) (marked : Bool) (near_way far_way : Way) → (st ≡ served → ⊥)
      → Mid a b end l v done full st marked near_way far_way → Mid a b end l v done full out true near_way far_way
  mid_ends done full st marked near_way far_way not_served mid = record {
    w = mid.w;
    near = ends l _ _ _ full.state v.far.state _ st out marked near_way mid.near;
    far = mid.far;
    others = mid.others;
    stands = record { up = λ up. absurd (not_served (mid.stands.up up)); settled = λ starting. absurd starting };
    never_waits = λ e. absurd cc;
    profile = mid.profile;
    few = mid.few;
  }

  down_apart : (m : ℕ) → (l == m) ≡ false → IsElsewhere m (Event.Down l)
  down_apart m apart = (tt, tt)

  -- the set is told
  pub tells_on : (full : LinkSet) (st : Standing) (entries : List Entry) (near_way far_way : Way) (entry : Entry) → entries ≡ entry ∷ [] → entry.event ≡ Event.Down l
      → entry.answer ≡ (step full.state entry.event).answer → HasRoom full (entry ∷ []) → (done : ℕ) (marked : Bool)
      → Mid a b end l v done full st marked near_way far_way → Gone (suc done) (with_entries full entries) out near_way far_way
  tells_on full st entries near_way far_way entry one event answer_is has done marked mid =
      subst (λ (es : List Entry). Gone (suc done) (with_entries full es) out near_way far_way) (sym one)
      (record { done = suc done; most_is = omega arith; marked = true; only = λ is. refl; mid = down_on })
    where
      known : has_actor mid.w.g.stage.world (actor_of entry.event) ≡ true
      known = ap (λ (e : Event). has_actor mid.w.g.stage.world (actor_of e)) event ∙ known_link a b end v.far l full mid.w mid.few

      own : has_own_step entry.event ≡ false
      own = ap has_own_step event

      plain : IsPlainMove false (MoveStep (Act end entry.event))
      plain = subst (λ (e : Event). IsPlainMove false (MoveStep (Act end e))) (sym event) tt

      goes : GoesOn l full.state (step full.state entry.event).state
      goes = only_up l full.state entry.event (subst (IsNoUp l) (sym event) tt)

      till : HearsNoneYet l full.state → HearsNoneYet l (step full.state entry.event).state
      till = none_heard l full.state entry.event (subst (IsNotHeardOn l) (sym event) tt)

      down : is_up l (step full.state entry.event).state ≡ false
      down = ap (λ (e : Event). is_up l (step full.state e).state) event ∙ down_ends l full.state

      down_on : Mid a b end l v (suc done) (with_entry full entry) out true near_way far_way
      down_on =
          mid_goes a b end l v done full (with_entry full entry) mid.w _ _ _ _
          (acts_on a b end v.far l full mid.w entry answer_is own known plain (has_room_for full entry [] has))
          st out marked true near_way near_way far_way far_way mid refl
          (elsewhere_by full entry.event (λ m apart. subst (IsElsewhere m) (sym event) (down_apart m apart)))
          (settings_stay full.state entry.event) (link_count_stays full.state entry.event)
          (ends l _ _ _ (step full.state entry.event).state v.far.state _ st out marked near_way
          (goes_near l _ _ full.state (step full.state entry.event).state v.far.state _ st marked near_way goes till mid.near))
          (goes_far l _ _ v.far.state full.state (step full.state entry.event).state _ _ _ far_way goes.settled mid.far)
          (record { up = λ up. let no : true ≡ false = sym up ∙ down in absurd cc; settled = λ starting. absurd starting })
          (λ e. absurd cc)

  pub falls_on : (most : ℕ) (full : LinkSet) (st st' : Standing) (entries : List Entry) (near_way far_way : Way) → Falls l st st' entries
      → IsLegal full.state entries → HasRoom full entries → Gone most full st near_way far_way → Gone (suc most) (with_entries full entries) st' near_way far_way
  falls_on most full st st' entries near_way far_way (stays same none) legal room gone =
      subst (λ (es : List Entry). Gone (suc most) (with_entries full es) st' near_way far_way) (sym none)
      (subst (λ (x : Standing). Gone (suc most) full x near_way far_way) (sym same)
      (record { done = gone.done; most_is = let few = gone.most_is in omega (arith, few); marked = gone.marked; only = gone.only; mid = gone.mid }))
  falls_on most full st st' entries near_way far_way (drops not_served is_out none) legal room gone =
      subst (λ (es : List Entry). Gone (suc most) (with_entries full es) st' near_way far_way) (sym none)
      (subst (λ (x : Standing). Gone (suc most) full x near_way far_way) (sym is_out)
      (record {
        done = gone.done;
        most_is = let few = gone.most_is in omega (arith, few);
        marked = true;
        only = λ is. refl;
        mid = mid_ends gone.done full st gone.marked near_way far_way not_served gone.mid;
      }))
  falls_on most full st st' entries near_way far_way (tells entry is_served is_out one event) legal room gone =
      subst (λ (x : Standing). Gone (suc most) (with_entries full entries) x near_way far_way) (sym is_out)
      (let g = tells_on full st entries near_way far_way entry one event (subst (IsLegal full.state) one legal).1 (subst (HasRoom full) one room) gone.done gone.marked gone.mid in
      record { done = g.done; most_is = let few = gone.most_is in let few' = g.most_is in omega (arith, few, few'); marked = g.marked; only = g.only; mid = g.mid })
