-- A TURN'S ENTRIES AS MOVES (`falls_down`, `rises_first`, `rises_second`, `hears_one`, `loses_one`, `sends_next`, `asks_vainly`): the
-- world goes on as the set of an end does, and of each line and cover what each move leaves there.
use Rattle.std.proofs.Common.{refl, arith, ap, sym, subst, ◌≡◌, ◌∙◌, ◌<◌, ◌⊎◌, inl, inr, ℕ, ◌==◌, Bool, true, false, List, [], ◌∷◌, ◌++◌, length, nat_lt, Option, Some, None, if◌then◌else◌}
use Rattle.std.proofs.lemmas.Bool.Decides.{nat_tests}
use Rattle.l2_units.specs.declared.unit.Unit.{Unit as SignalUnit}
use Rattle.set_events.specs.declared.answer.Answer.{Answer}
use Rattle.set_events.specs.declared.config.SetConfig.{SetConfig}
use Rattle.set_events.specs.declared.event.Event.{Event}
use Rattle.set_events.specs.declared.history.Entry.{Entry}
use Rattle.set_model.specs.Changeover.{one_later}
use Rattle.set_model.specs.History.{LinkSet, IsStep}
use Rattle.set_model.specs.State.{State, is_settled, is_up, late_at}
use Rattle.set_model.specs.Step.{step}
use Rattle.set_model.proofs.Places.{apart_back}
use Rattle.pair_steps.specs.Lines.{units_on}
use Rattle.pair_steps.specs.declared.step.End.{End}
use Rattle.pair_steps.specs.declared.step.End.TheVariants.{A, B}
use Rattle.pair_steps.specs.declared.step.Shown.{Shown}
use Rattle.pair_steps.specs.declared.step.Shown.TheVariants.{Answered, Up, Lost}
use Rattle.pair_steps.specs.declared.step.Step.TheVariants.{Act, Emit, Arrive, Lose}
use Rattle.pair_model.specs.Run.{Message, Past, Stage, bodies, past_arrived, past_asked, past_at, past_sent, passed, with_past}
use Rattle.pair_model.specs.World.{World, shows, after, at_end, actor_of, carried_out, has_actor, has_link, has_own_step, impossible, is_full, joined, line_to, lines_to, loses_from, other, with_end, with_line}
use Rattle.pair_streams.specs.Handed.{handed_by}
use Rattle.pair_rises.specs.declared.moves.Move.{Move}
use Rattle.pair_rises.specs.declared.moves.Move.TheVariants.{Step as MoveStep, Rise}
use Rattle.pair_rises.specs.Rises.{Cover, inside, awaited, missed, Rising, covers_heard, is_first, missed_at, missed_by, moved, moved_on, open_at, order_about, risen_at, risen_so, takes_order, told_at, IsPlainMove, MayMove, MayRise}
use Rattle.pair_rises.proofs.Covers.{told_here, told_other}
use Rattle.pair_rises.proofs.Runs.{Holds}
use Rattle.pair_rises.proofs.Veils.{seen_length}
use Rattle.pair_wires.specs.Moves.{IsThinned, Moves, IsAskedThere}
use Rattle.pair_wires.specs.Read.{IsOffered}
use Rattle.pair_wires.proofs.Lines.{emptied_here, emptied_off, joined_here, joined_near, joined_off, line_far, line_here, line_off, set_lines}
use Rattle.pair_wires.proofs.Moves.{each_moves, vain_is_none}
use Rattle.pair_wires.proofs.Reached.{Reached, counted_then, holds_there, reached_on}
use Rattle.pair_wires.proofs.Read.{offers_kept}

-- a set goes on by one entry
abbrev pub with_entry : LinkSet → Entry → LinkSet
with_entry set entry = record { base = set.base; state = (step set.state entry.event).state; history = set.history ++ entry ∷ [] }

module _ (a b : SetConfig) (end : End) (far : LinkSet) where
  -- THE WORLD SO FAR, of which these two are the ends with longer histories
  pub record Going (full : LinkSet) : Type 0 where
    pub moves : List Move
    pub g : Rising
    pub reached : Reached a b moves g
    pub near_thin : IsThinned (at_end g.stage.world end) full
    pub far_thin : IsThinned (at_end g.stage.world (other end)) far
    pub near_offered : IsOffered (past_at g.stage end) full.history
    pub far_offered : IsOffered (past_at g.stage (other end)) far.history

  -- a cover of another link: it's as it was, or a life was missed, and counted
  pub data IsCovered (was now : Cover) (late so_far : ℕ) : Type 0 where
    as_was : now ≡ was → IsCovered was now late so_far
    is_missed : was ≡ awaited → now ≡ missed → so_far ≡ one_later late → IsCovered was now late so_far

  -- WHAT A MOVE OF LINK l leaves: how both ends stand to its life, its lines; and of the others
  pub record Leaves (l : ℕ) (full full' : LinkSet) (w : Going full) (mine theirs : Cover) (near_line far_line : List SignalUnit) : Type 0 where
    pub next : Going full'
    pub mine_is : open_at next.g end l ≡ mine
    pub theirs_is : open_at next.g (other end) l ≡ theirs
    pub near_is : line_to next.g.stage.world end l ≡ near_line
    pub far_is : line_to next.g.stage.world (other end) l ≡ far_line
    pub lines : (at : End) (m : ℕ) → (l == m) ≡ false → line_to next.g.stage.world at m ≡ line_to w.g.stage.world at m
    pub other_covers : (m : ℕ) → (l == m) ≡ false → open_at next.g (other end) m ≡ open_at w.g (other end) m
    pub own : (m : ℕ) → (l == m) ≡ false
        → IsCovered (open_at w.g end m) (open_at next.g end m) (late_at m full.state) (late_at m full'.state)

  module _ (l : ℕ) (full : LinkSet) (w : Going full) where
    abbrev world : World
    world = w.g.stage.world

    held : Holds false a.method b.method w.reached.run.one_method w.g
    held = holds_there a b w.moves w.g w.reached

    -- all lines are there, and both ends have the same links
    links_same : length world.b.state.links ≡ length world.a.state.links
    links_same =
        let seen_a = seen_length w.g.open_a world.a.state in
        let seen_b = seen_length w.g.open_b world.b.state in
        omega (arith, held.links.far_links, seen_a, seen_b)

    few_lines : (at : End) → l < length world.a.state.links → l < length (lines_to world at)
    few_lines A few = let seen = seen_length w.g.open_b world.b.state in let seen_a = seen_length w.g.open_a world.a.state in omega (arith, few, held.links.back_lines, seen, seen_a)
    few_lines B few = let seen_a = seen_length w.g.open_a world.a.state in omega (arith, few, held.links.out_lines, seen_a)

    few_first : l < length full.state.links → l < length world.a.state.links
    few_first few = go end refl
      where
        same : length (at_end world end).state.links ≡ length full.state.links
        same = ap (λ (s : State). length s.links) w.near_thin.state

        go : (at : End) → end ≡ at → l < length world.a.state.links
        go A e = let is : length world.a.state.links ≡ length full.state.links = ap (λ (x : End). length (at_end world x).state.links) (sym e) ∙ same in omega (arith, few, is)
        go B e = let is : length world.b.state.links ≡ length full.state.links = ap (λ (x : End). length (at_end world x).state.links) (sym e) ∙ same in omega (arith, few, is, links_same)

    pub known_link : l < length full.state.links → has_link world l ≡ true
    known_link few = let is = few_first few in grind (arith, nat_tests, is)

    abbrev Own : LinkSet → Rising → Type 0
    Own full' so_far = (m : ℕ) → (l == m) ≡ false → IsCovered (open_at w.g end m) (open_at so_far end m) (late_at m full.state) (late_at m full'.state)

    -- WHAT STAYS
    offered_same : (p q : Past) (history : List Entry) → p.offered ≡ q.offered → IsOffered q history → IsOffered p history
    offered_same p q history same is = λ stream. ap (λ (f : ℕ → _). bodies (f stream)) same ∙ is stream

    past_world : (e : End) (past : Past) (new : World) (stage : Stage) → (with_past e past new stage).world ≡ new
    past_world A past new stage = refl
    past_world B past new stage = refl

    past_here : (e : End) (past : Past) (new : World) (stage : Stage) → past_at (with_past e past new stage) e ≡ past
    past_here A past new stage = refl
    past_here B past new stage = refl

    past_there : (e : End) (past : Past) (new : World) (stage : Stage) → past_at (with_past e past new stage) (other e) ≡ past_at stage (other e)
    past_there A past new stage = refl
    past_there B past new stage = refl

    cover_stage : (e : End) (g : Rising) (stage : Stage) → open_at (record g { stage = stage }) e ≡ open_at g e
    cover_stage A g stage = refl
    cover_stage B g stage = refl

    -- ONE ENTRY
    module _ (entry : Entry) (answer_is : entry.answer ≡ (step full.state entry.event).answer) where
      abbrev full' : LinkSet
      full' = with_entry full entry

      is_step : IsStep full entry.who entry.event entry.answer full'
      is_step = record { base_is = refl; answer_is = answer_is; state_is = refl; history_is = refl }

      asked_there : is_full full ≡ false → IsAskedThere world end full entry.who entry.event entry.answer full'
      asked_there room = record { thinned = w.near_thin; has_room = room; is_step = is_step }

      -- what was offered by then
      offered_then : (past : Past) → (past_asked entry.event (Answered entry.answer) (past_at w.g.stage end)).offered ≡ past.offered
          → IsOffered past full'.history
      offered_then past same =
          offered_same past (past_asked entry.event (Answered entry.answer) (past_at w.g.stage end)) full'.history (sym same)
          (offers_kept (past_at w.g.stage end) full.history entry.who entry.event entry.answer w.near_offered)

      -- how both ends stand to each link's life, and each line, are as they were
      pub record Keeps : Type 0 where
        pub next : Going full'
        pub covers : (e : End) (m : ℕ) → open_at next.g e m ≡ open_at w.g e m
        pub same_lines : (at : End) (m : ℕ) → line_to next.g.stage.world at m ≡ line_to world at m

      leaves_all : Keeps → Leaves l full full' w (open_at w.g end l) (open_at w.g (other end) l) (line_to world end l) (line_to world (other end) l)
      leaves_all k = record {
        next = k.next;
        mine_is = k.covers end l;
        theirs_is = k.covers (other end) l;
        near_is = k.same_lines end l;
        far_is = k.same_lines (other end) l;
        lines = λ at m apart. k.same_lines at m;
        other_covers = λ m apart. k.covers (other end) m;
        own = λ m apart. as_was (k.covers end m);
      }

      -- what is asked in vain
      pub vain_keeps : (step full.state entry.event).state ≡ full.state → handed_by entry.answer ≡ []
          → ((past : Past) → (past_asked entry.event (Answered entry.answer) past).offered ≡ past.offered) → Keeps
      vain_keeps stays none no_offer = record {
        next = record {
          moves = w.moves;
          g = w.g;
          reached = w.reached;
          near_thin = vain_is_none (at_end world end) full full' entry.who entry.event entry.answer w.near_thin is_step stays none;
          far_thin = w.far_thin;
          near_offered = offered_then (past_at w.g.stage end) (no_offer (past_at w.g.stage end));
          far_offered = w.far_offered;
        };
        covers = λ e m. refl;
        same_lines = λ at m. refl;
      }

      pub asks_vainly : (step full.state entry.event).state ≡ full.state → handed_by entry.answer ≡ []
          → ((past : Past) → (past_asked entry.event (Answered entry.answer) past).offered ≡ past.offered)
          → Leaves l full full' w (open_at w.g end l) (open_at w.g (other end) l) (line_to world end l) (line_to world (other end) l)
      asks_vainly stays none no_offer = leaves_all (vain_keeps stays none no_offer)

      -- an event alone
      pub acts_keeps : has_own_step entry.event ≡ false → has_actor world (actor_of entry.event) ≡ true → IsPlainMove false (MoveStep (Act end entry.event))
          → is_full full ≡ false → Keeps
      acts_keeps own actor plain room = record {
        next = record {
          moves = w.moves ++ move ∷ [];
          g = so_far;
          reached = reached_on a b w.moves w.g move shown new w.reached does.move_is plain tt;
          near_thin = subst (λ (v : World). IsThinned (at_end v end) full') (sym world_is) does.thinned;
          far_thin = subst (λ (v : World). IsThinned (at_end v (other end)) far) (sym world_is)
              (subst (λ (set : LinkSet). IsThinned set far) (sym does.far) w.far_thin);
          near_offered = offered_then (past_at so_far.stage end) (ap (λ (p : Past). p.offered) (sym (past_here end past new w.g.stage)));
          far_offered = subst (λ (p : Past). IsOffered p far.history) (sym (past_there end past new w.g.stage)) w.far_offered;
        };
        covers = λ e m. ap (λ (f : ℕ → Cover). f m) (cover_stage e w.g so_far.stage);
        same_lines = line_same;
      }
        where
          move : Move
          move = MoveStep (Act end entry.event)

          shown : Shown
          shown = Answered entry.answer

          new : World
          new = with_end world end (after (at_end world end) entry.event)

          past : Past
          past = past_asked entry.event shown (past_at w.g.stage end)

          so_far : Rising
          so_far = moved_on w.g move shown new

          does : Moves world end move shown new full'
          does = (each_moves world end full entry.who full').acts entry.event entry.answer (asked_there room) own actor

          world_is : so_far.stage.world ≡ new
          world_is = past_world end past new w.g.stage

          line_same : (at : End) (m : ℕ) → line_to so_far.stage.world at m ≡ line_to world at m
          line_same at m = ap (λ (v : World). line_to v at m) world_is
              ∙ ap (λ (ls : List (List SignalUnit)). units_on m ls) (set_lines world end at (after (at_end world end) entry.event))

      pub acts_on : has_own_step entry.event ≡ false → has_actor world (actor_of entry.event) ≡ true → IsPlainMove false (MoveStep (Act end entry.event))
          → is_full full ≡ false
          → Leaves l full full' w (open_at w.g end l) (open_at w.g (other end) l) (line_to world end l) (line_to world (other end) l)
      acts_on own actor plain room = leaves_all (acts_keeps own actor plain room)

      -- a unit that the set gives
      pub sends_next : (unit : SignalUnit) → entry.event ≡ Event.Next l → entry.answer ≡ Answer.Sent unit → l < length full.state.links → is_full full ≡ false
          → Leaves l full full' w (open_at w.g end l) (open_at w.g (other end) l) (line_to world end l) (line_to world (other end) l ++ unit ∷ [])
      sends_next unit event sent few room = record {
        next = record {
          moves = w.moves ++ move ∷ [];
          g = so_far;
          reached = reached_on a b w.moves w.g move shown new w.reached does.move_is tt tt;
          near_thin = subst (λ (v : World). IsThinned (at_end v end) full') (sym world_is) does.thinned;
          far_thin = subst (λ (v : World). IsThinned (at_end v (other end)) far) (sym world_is)
              (subst (λ (set : LinkSet). IsThinned set far) (sym does.far) w.far_thin);
          near_offered = offered_then (past_at so_far.stage end)
              (ap (λ (e : Event). (past_asked e (Answered entry.answer) (past_at w.g.stage end)).offered) event
              ∙ ap (λ (p : Past). p.offered) (sym (past_here end past new w.g.stage)));
          far_offered = subst (λ (p : Past). IsOffered p far.history) (sym (past_there end past new w.g.stage)) w.far_offered;
        };
        mine_is = ap (λ (f : ℕ → Cover). f l) (cover_stage end w.g so_far.stage);
        theirs_is = ap (λ (f : ℕ → Cover). f l) (cover_stage (other end) w.g so_far.stage);
        near_is = ap (λ (v : World). line_to v end l) world_is ∙ joined_near mid l end unit l ∙ set_line end l;
        far_is = ap (λ (v : World). line_to v (other end) l) world_is ∙ joined_here mid l end unit few_mid
            ∙ ap (λ (us : List SignalUnit). us ++ unit ∷ []) (set_line (other end) l);
        lines = λ at m apart. ap (λ (v : World). line_to v at m) world_is ∙ joined_off mid l end at unit m apart ∙ set_line at m;
        other_covers = λ m apart. ap (λ (f : ℕ → Cover). f m) (cover_stage (other end) w.g so_far.stage);
        own = λ m apart. as_was (ap (λ (f : ℕ → Cover). f m) (cover_stage end w.g so_far.stage));
      }
        where
          move : Move
          move = MoveStep (Emit end l)

          shown : Shown
          shown = Answered (Answer.Sent unit)

          mid : World
          mid = with_end world end (after (at_end world end) (Event.Next l))

          new : World
          new = joined mid end l unit

          past : Past
          past = past_sent l (at_end world end).state (at_end new end).state (past_at w.g.stage end)

          so_far : Rising
          so_far = moved_on w.g move shown new

          asked : IsAskedThere world end full entry.who (Event.Next l) (Answer.Sent unit) full'
          asked = subst (λ (x : Answer). IsAskedThere world end full entry.who (Event.Next l) x full') sent
              (subst (λ (e : Event). IsAskedThere world end full entry.who e entry.answer full') event (asked_there room))

          does : Moves world end move shown new full'
          does = (each_moves world end full entry.who full').sends l unit asked (known_link few)

          world_is : so_far.stage.world ≡ new
          world_is = past_world end past new w.g.stage

          set_line : (at : End) (m : ℕ) → line_to mid at m ≡ line_to world at m
          set_line at m = ap (λ (ls : List (List SignalUnit)). units_on m ls) (set_lines world end at (after (at_end world end) (Event.Next l)))

          few_mid : l < length (lines_to mid (other end))
          few_mid = subst (λ (ls : List (List SignalUnit)). l < length ls) (sym (set_lines world end (other end) (after (at_end world end) (Event.Next l))))
              (few_lines (other end) (few_first few))

      -- A LINK COMES UP
      rise_past : (first : Bool) (e : End) (k : ℕ) (v : World) (at : End) → (past_at (risen_at first e k v w.g).stage at).offered ≡ (past_at w.g.stage at).offered
      rise_past true A k v A = refl
      rise_past true A k v B = refl
      rise_past true B k v A = refl
      rise_past true B k v B = refl
      rise_past false A k v A = refl
      rise_past false A k v B = refl
      rise_past false B k v A = refl
      rise_past false B k v B = refl

      rise_world : (first : Bool) (e : End) (k : ℕ) (v : World) → (risen_at first e k v w.g).stage.world ≡ v
      rise_world true A k v = refl
      rise_world true B k v = refl
      rise_world false A k v = refl
      rise_world false B k v = refl

      first_mine : (e : End) (k : ℕ) (v : World) (m : ℕ) → open_at (risen_at true e k v w.g) e m ≡ told_at k inside (open_at w.g e) m
      first_mine A k v m = refl
      first_mine B k v m = refl

      first_theirs : (e : End) (k : ℕ) (v : World) (m : ℕ) → open_at (risen_at true e k v w.g) (other e) m ≡ told_at k awaited (open_at w.g (other e)) m
      first_theirs A k v m = refl
      first_theirs B k v m = refl

      second_mine : (e : End) (k : ℕ) (v : World) (m : ℕ) → open_at (risen_at false e k v w.g) e m ≡ told_at k inside (open_at w.g e) m
      second_mine A k v m = refl
      second_mine B k v m = refl

      second_theirs : (e : End) (k : ℕ) (v : World) (m : ℕ) → open_at (risen_at false e k v w.g) (other e) m ≡ open_at w.g (other e) m
      second_theirs A k v m = refl
      second_theirs B k v m = refl

      module _ (event : entry.event ≡ Event.Up l) (settled : is_settled l full.state ≡ true) (few : l < length full.state.links) (room : is_full full ≡ false) where
        abbrev up_set : LinkSet
        up_set = after (at_end world end) (Event.Up l)

        up_asked : IsAskedThere world end full entry.who (Event.Up l) entry.answer full'
        up_asked = subst (λ (e : Event). IsAskedThere world end full entry.who e entry.answer full') event (asked_there room)

        rise_does : Moves world end (Rise end l) Up (risen_so (is_first world end l) world end l) full'
        rise_does = (each_moves world end full entry.who full').rises l entry.answer up_asked (known_link few) settled

        first_same : is_first world end l ≡ is_settled l far.state
        first_same = ap (is_settled l) w.far_thin.state

        set_line : (at : End) (m : ℕ) → line_to (with_end world end up_set) at m ≡ line_to world at m
        set_line at m = ap (λ (ls : List (List SignalUnit)). units_on m ls) (set_lines world end at up_set)

        few_up : (at : End) → l < length (lines_to (with_end world end up_set) at)
        few_up at = subst (λ (ls : List (List SignalUnit)). l < length ls) (sym (set_lines world end at up_set)) (few_lines at (few_first few))

        -- what both rises leave
        risen_next : (first : Bool) → is_first world end l ≡ first → MayMove w.g (Rise end l) → Going full'
        risen_next first e may =
            let does = subst (λ (x : Bool). Moves world end (Rise end l) Up (risen_so x world end l) full') e rise_does in
            let new = risen_so first world end l in
            let so_far = risen_at first end l new w.g in
            record {
              moves = w.moves ++ Rise end l ∷ [];
              g = so_far;
              reached = subst (λ (x : Bool). Reached a b (w.moves ++ Rise end l ∷ []) (risen_at x end l new w.g)) e
                  (reached_on a b w.moves w.g (Rise end l) Up new w.reached does.move_is tt may);
              near_thin = subst (λ (v : World). IsThinned (at_end v end) full') (sym (rise_world first end l new)) does.thinned;
              far_thin = subst (λ (v : World). IsThinned (at_end v (other end)) far) (sym (rise_world first end l new))
                  (subst (λ (set : LinkSet). IsThinned set far) (sym does.far) w.far_thin);
              near_offered = offered_then (past_at so_far.stage end)
                  (ap (λ (e : Event). (past_asked e (Answered entry.answer) (past_at w.g.stage end)).offered) event ∙ sym (rise_past first end l new end));
              far_offered = offered_same (past_at so_far.stage (other end)) (past_at w.g.stage (other end)) far.history (rise_past first end l new (other end)) w.far_offered;
            }

        pub rises_first : is_settled l far.state ≡ true → Leaves l full full' w inside awaited [] []
        unfolding risen_next
        rises_first settled_far =
            let e : is_first world end l ≡ true = first_same ∙ settled_far in
            let new = risen_so true world end l in
            record {
              next = risen_next true e (subst (λ (b : Bool). MayRise b w.g end l) (sym e) tt);
              mine_is = first_mine end l new l ∙ told_here l inside (open_at w.g end);
              theirs_is = first_theirs end l new l ∙ told_here l awaited (open_at w.g (other end));
              near_is = ap (λ (v : World). line_to v end l) (rise_world true end l new) ∙ emptied_here (with_end world end up_set) l end (few_up end);
              far_is = ap (λ (v : World). line_to v (other end) l) (rise_world true end l new) ∙ emptied_here (with_end world end up_set) l (other end) (few_up (other end));
              lines = λ at m apart. ap (λ (v : World). line_to v at m) (rise_world true end l new) ∙ emptied_off (with_end world end up_set) l at m apart ∙ set_line at m;
              other_covers = λ m apart. first_theirs end l new m ∙ told_other l awaited (open_at w.g (other end)) m (apart_back l m apart);
              own = λ m apart. as_was (first_mine end l new m ∙ told_other l inside (open_at w.g end) m (apart_back l m apart));
            }

        pub rises_second : is_settled l far.state ≡ false → open_at w.g end l ≡ awaited
            → Leaves l full full' w inside (open_at w.g (other end) l) (line_to world end l) (line_to world (other end) l)
        unfolding risen_next
        rises_second not_settled waits =
            let e : is_first world end l ≡ false = first_same ∙ not_settled in
            let new = risen_so false world end l in
            record {
              next = risen_next false e (subst (λ (b : Bool). MayRise b w.g end l) (sym e) waits);
              mine_is = second_mine end l new l ∙ told_here l inside (open_at w.g end);
              theirs_is = second_theirs end l new l;
              near_is = ap (λ (v : World). line_to v end l) (rise_world false end l new) ∙ set_line end l;
              far_is = ap (λ (v : World). line_to v (other end) l) (rise_world false end l new) ∙ set_line (other end) l;
              lines = λ at m apart. ap (λ (v : World). line_to v at m) (rise_world false end l new) ∙ set_line at m;
              other_covers = λ m apart. second_theirs end l new m;
              own = λ m apart. as_was (second_mine end l new m ∙ told_other l inside (open_at w.g end) m (apart_back l m apart));
            }

      -- A UNIT IS HEARD
      heard_mine : (e : End) (k : ℕ) (shown : Shown) (v : World) (m : ℕ) → open_at (moved_on w.g (MoveStep (Arrive e k)) shown v) e m
          ≡ covers_heard (at_end world e).state.settings.profile (line_to world e k) shown (open_at w.g e) m
      heard_mine A k shown v m = refl
      heard_mine B k shown v m = refl

      heard_theirs : (e : End) (k : ℕ) (shown : Shown) (v : World) (m : ℕ)
          → open_at (moved_on w.g (MoveStep (Arrive e k)) shown v) (other e) m ≡ open_at w.g (other e) m
      heard_theirs A k shown v m = refl
      heard_theirs B k shown v m = refl

      heard_stage : (e : End) (k : ℕ) (shown : Shown) (v : World) → (moved_on w.g (MoveStep (Arrive e k)) shown v).stage ≡ passed w.g.stage (Arrive e k) shown v
      heard_stage A k shown v = refl
      heard_stage B k shown v = refl

      by_cover : (c : Cover) → (missed_by c ≡ c) ⊎ ((c ≡ awaited) × (missed_by c ≡ missed))
      by_cover inside = inl refl
      by_cover awaited = inr (refl, refl)
      by_cover missed = inl refl

      by_order : (o : Option ℕ) (was : ℕ → Cover) (m : ℕ) → (missed_at o was m ≡ was m) ⊎ ((was m ≡ awaited) × (missed_at o was m ≡ missed))
      by_order None was m = inl refl
      by_order (Some n) was m = go (m == n) refl
        where
          go : (c : Bool) → (m == n) ≡ c → (missed_at (Some n) was m ≡ was m) ⊎ ((was m ≡ awaited) × (missed_at (Some n) was m ≡ missed))
          go false e = inl (ap (λ (c : Bool). if c then missed_by (was m) else was m) e)
          go true e =
              let is : missed_at (Some n) was m ≡ missed_by (was m) = ap (λ (c : Bool). if c then missed_by (was m) else was m) e in
              elim (by_cover (was m)) [
                | inl same ↦ inl (is ∙ same)
                | inr gone ↦ inr (gone.0, is ∙ gone.1)
              ]

      arrived_offers : (line : List SignalUnit) (sent : List Message) (shown : Shown) (past : Past) → (past_arrived l line sent shown past).offered ≡ past.offered
      arrived_offers [] sent shown past = refl
      arrived_offers (unit ∷ line) sent (Answered (Answer.Heard report)) past = refl
      arrived_offers (unit ∷ line) sent (Answered (Answer.Accepted number)) past = refl
      arrived_offers (unit ∷ line) sent (Answered (Answer.Taken body)) past = refl
      arrived_offers (unit ∷ line) sent (Answered (Answer.Found fate)) past = refl
      arrived_offers (unit ∷ line) sent (Answered (Answer.Sent given)) past = refl
      arrived_offers (unit ∷ line) sent (Answered Answer.Done) past = refl
      arrived_offers (unit ∷ line) sent (Answered (Answer.Refused why)) past = refl
      arrived_offers (unit ∷ line) sent Up past = refl
      arrived_offers (unit ∷ line) sent Lost past = refl

      pub hears_one : (unit : SignalUnit) (rest : List SignalUnit) → entry.event ≡ Event.Heard l unit → line_to world end l ≡ unit ∷ rest
          → is_up l full.state ≡ true → l < length full.state.links → is_full full ≡ false → (open_at w.g end l ≡ awaited → ⊥)
          → Leaves l full full' w (open_at w.g end l) (open_at w.g (other end) l) rest (line_to world (other end) l)
      hears_one unit rest event front up few room never = record {
        next = record {
          moves = w.moves ++ move ∷ [];
          g = so_far;
          reached = reached_on a b w.moves w.g move shown new w.reached does.move_is tt tt;
          near_thin = near_then;
          far_thin = subst (λ (v : World). IsThinned (at_end v (other end)) far) (sym world_is)
              (subst (λ (set : LinkSet). IsThinned set far) (sym does.far) w.far_thin);
          near_offered = offered_then (past_at so_far.stage end)
              (ap (λ (e : Event). (past_asked e (Answered entry.answer) (past_at w.g.stage end)).offered) event
              ∙ sym (arrived_offers (line_to world end l) sent shown (past_at w.g.stage end))
              ∙ ap (λ (p : Past). p.offered) (sym (ap (λ (s : Stage). past_at s end) stage_is ∙ past_here end past new w.g.stage)));
          far_offered = subst (λ (p : Past). IsOffered p far.history)
              (sym (ap (λ (s : Stage). past_at s (other end)) stage_is ∙ past_there end past new w.g.stage)) w.far_offered;
        };
        mine_is = here_is (told l);
        theirs_is = heard_theirs end l shown new l;
        near_is = ap (λ (v : World). line_to v end l) world_is ∙ set_line end l ∙ line_here world l end rest (few_lines end (few_first few));
        far_is = ap (λ (v : World). line_to v (other end) l) world_is ∙ set_line (other end) l ∙ line_far world l end rest l;
        lines = λ at m apart. ap (λ (v : World). line_to v at m) world_is ∙ set_line at m ∙ line_off world l end at rest m apart;
        other_covers = λ m apart. heard_theirs end l shown new m;
        own = λ m apart. own_is m (told m);
      }
        where
          move : Move
          move = MoveStep (Arrive end l)

          shown : Shown
          shown = Answered entry.answer

          front_line : World
          front_line = with_line world end l rest

          heard_set : LinkSet
          heard_set = after (at_end world end) (Event.Heard l unit)

          new : World
          new = with_end front_line end heard_set

          sent : List Message
          sent = (past_at w.g.stage (other end)).sent l

          past : Past
          past = past_arrived l (line_to world end l) sent shown (past_at w.g.stage end)

          so_far : Rising
          so_far = moved_on w.g move shown new

          does : Moves world end move shown new full'
          does = (each_moves world end full entry.who full').hears l unit rest entry.answer
              (subst (λ (e : Event). IsAskedThere world end full entry.who e entry.answer full') event (asked_there room)) (known_link few) front up

          stage_is : so_far.stage ≡ passed w.g.stage (Arrive end l) shown new
          stage_is = heard_stage end l shown new

          world_is : so_far.stage.world ≡ new
          world_is = ap (λ (s : Stage). s.world) stage_is ∙ past_world end past new w.g.stage

          near_then : IsThinned (at_end so_far.stage.world end) full'
          near_then = subst (λ (v : World). IsThinned (at_end v end) full') (sym world_is) does.thinned

          set_line : (at : End) (m : ℕ) → line_to new at m ≡ line_to front_line at m
          set_line at m = ap (λ (ls : List (List SignalUnit)). units_on m ls) (set_lines front_line end at heard_set)

          told : (m : ℕ) → (open_at so_far end m ≡ open_at w.g end m) ⊎ ((open_at w.g end m ≡ awaited) × (open_at so_far end m ≡ missed))
          told m =
              let profile = (at_end world end).state.settings.profile in
              let is : open_at so_far end m ≡ missed_at (if takes_order shown then order_about profile unit else None) (open_at w.g end) m =
              heard_mine end l shown new m ∙ ap (λ (us : List SignalUnit). covers_heard profile us shown (open_at w.g end) m) front in
              elim (by_order (if takes_order shown then order_about profile unit else None) (open_at w.g end) m) [
                | inl same ↦ inl (is ∙ same)
                | inr gone ↦ inr (gone.0, is ∙ gone.1)
              ]

          here_is : (open_at so_far end l ≡ open_at w.g end l) ⊎ ((open_at w.g end l ≡ awaited) × (open_at so_far end l ≡ missed))
              → open_at so_far end l ≡ open_at w.g end l
          here_is (inl same) = same
          here_is (inr gone) = absurd (never gone.0)

          own_is : (m : ℕ) → (open_at so_far end m ≡ open_at w.g end m) ⊎ ((open_at w.g end m ≡ awaited) × (open_at so_far end m ≡ missed))
              → IsCovered (open_at w.g end m) (open_at so_far end m) (late_at m full.state) (late_at m full'.state)
          own_is m (inl same) = as_was same
          own_is m (inr gone) = is_missed gone.0 gone.1
              (ap (late_at m) (sym near_then.state)
              ∙ counted_then a b w.moves w.g w.reached move shown new does.move_is tt tt end m gone.0 gone.1
              ∙ ap (λ (s : State). one_later (late_at m s)) w.near_thin.state)

    -- A UNIT IS LOST
    at_line : (e at : End) (rest : List SignalUnit) → at_end (with_line world e l rest) at ≡ at_end world at
    at_line A A rest = refl
    at_line A B rest = refl
    at_line B A rest = refl
    at_line B B rest = refl

    lost_stage : (s : Stage) (v : World) (e : End) → past_at (record s { world = v }) e ≡ past_at s e
    lost_stage s v A = refl
    lost_stage s v B = refl

    lost_cover : (e : End) (v : World) (m : ℕ) → open_at (record w.g { stage = record w.g.stage { world = v } }) e m ≡ open_at w.g e m
    lost_cover A v m = refl
    lost_cover B v m = refl

    loses : (unit : SignalUnit) (rest : List SignalUnit) → l < length full.state.links → line_to world end l ≡ unit ∷ rest
        → moved world (MoveStep (Lose end l 0)) ≡ shows Lost (with_line world end l rest)
    unfolding carried_out
    loses unit rest few front =
        let some : nat_lt 0 (length (unit ∷ rest)) ≡ true = grind (arith, nat_tests) in
        let is : moved world (MoveStep (Lose end l 0)) ≡ loses_from world end l 0 (unit ∷ rest) = rw (known_link few, front) refl in
        is ∙ ap (λ (c : Bool). if c then shows Lost (with_line world end l rest) else impossible) some

    pub loses_one : (unit : SignalUnit) (rest : List SignalUnit) → l < length full.state.links → line_to world end l ≡ unit ∷ rest
        → Leaves l full full w (open_at w.g end l) (open_at w.g (other end) l) rest (line_to world (other end) l)
    loses_one unit rest few front = record {
      next = record {
        moves = w.moves ++ MoveStep (Lose end l 0) ∷ [];
        g = so_far;
        reached = reached_on a b w.moves w.g (MoveStep (Lose end l 0)) Lost new w.reached (loses unit rest few front) tt tt;
        near_thin = subst (λ (set : LinkSet). IsThinned set full) (sym (at_line end end rest)) w.near_thin;
        far_thin = subst (λ (set : LinkSet). IsThinned set far) (sym (at_line end (other end) rest)) w.far_thin;
        near_offered = subst (λ (p : Past). IsOffered p full.history) (sym (lost_stage w.g.stage new end)) w.near_offered;
        far_offered = subst (λ (p : Past). IsOffered p far.history) (sym (lost_stage w.g.stage new (other end))) w.far_offered;
      };
      mine_is = lost_cover end new l;
      theirs_is = lost_cover (other end) new l;
      near_is = line_here world l end rest (few_lines end (few_first few));
      far_is = line_far world l end rest l;
      lines = λ at m apart. line_off world l end at rest m apart;
      other_covers = λ m apart. lost_cover (other end) new m;
      own = λ m apart. as_was (lost_cover end new m);
    }
      where
        new : World
        new = with_line world end l rest

        so_far : Rising
        so_far = moved_on w.g (MoveStep (Lose end l 0)) Lost new
