-- HOW A TURN ENDS, move by move: a proving period may end (`times_on`), and a unit may be chosen (`chooses_on`), which is then under way to the
-- far end.
use Rattle.std.proofs.Common.{refl, arith, ap, sym, subst, ◌≡◌, ◌∙◌, ◌<◌, ◌≤◌, ◌⊎◌, ℕ, suc, ◌+◌, ◌==◌, ◌||◌, not, Bool, true, false, List, [], ◌∷◌, ◌++◌, length, Option, Some, None}
use Rattle.l2_units.specs.declared.unit.Unit.{Unit as SignalUnit}
use Rattle.set_events.specs.declared.answer.Answer.{Answer}
use Rattle.set_events.specs.declared.answer.Refusal.{Refusal}
use Rattle.set_events.specs.declared.config.SetConfig.{SetConfig}
use Rattle.set_events.specs.declared.event.Event.{Event}
use Rattle.set_events.specs.declared.history.Entry.{Entry}
use Rattle.set_model.specs.Changeover.{one_later}
use Rattle.set_model.specs.History.{LinkSet, IsLegal}
use Rattle.set_model.specs.State.{State, is_settled, is_up, late_at}
use Rattle.set_model.specs.Step.{step}
use Rattle.set_model.proofs.Walk.{link_count_stays}
use Rattle.set_octets.specs.Lives.{GoesOn, IsNoUp, IsRefused, IsServed}
use Rattle.set_octets.specs.Starting.{IsNotHeardOn}
use Rattle.set_octets.proofs.Lives.{only_up}
use Rattle.set_octets.proofs.Starting.{none_heard}
use Rattle.term_asks.specs.Asking.{Standing, out, aligning, ready, waiting, served, Falls, stays, drops, tells, Times, goes_on, completes, heard_by, is_status, IsStartFisu, IsPlainStatus, IsIdleOne, AsksUp, asks_nothing, asks_again, GivesUnit, Serves, idles, gives, Chooses, has_bits, chooses_one}
use Rattle.pair_steps.specs.declared.step.End.{End}
use Rattle.pair_steps.specs.declared.step.Shown.TheVariants.{Answered}
use Rattle.pair_model.specs.Run.{past_asked}
use Rattle.pair_model.specs.World.{line_to, other}
use Rattle.pair_model.proofs.Pairs.{settings_stay}
use Rattle.pair_streams.specs.Handed.{handed_by}
use Rattle.pair_rises.specs.Rises.{open_at}
use Rattle.pair_wires.specs.Following.{Follows, LinkApart, sent_if, sent_on}
use Rattle.pair_wires.specs.Standing.{IsStarting, StandsAt}
use Rattle.pair_wires.specs.Ways.{Carried, Way, gives_by, gives_unit}
use Rattle.pair_wires.proofs.Following.{completes_it, ends, given_joins, goes_far, goes_near, idle_joins, status_joins}
use Rattle.pair_wires.proofs.Going.{asks_vainly, sends_next, with_entry}
use Rattle.pair_wires.proofs.Turned.{GoesElsewhere, Gone, HasRoom, IsElsewhere, Mid, Sight, apart_at, elsewhere_by, falls_on, flipped, has_room_for, mid_goes, or_none, room_first, room_then, settled_down, stays_elsewhere, with_entries}

-- what falls gives no unit
pub falls_gives : (link : ℕ) (st st' : Standing) (entries : List Entry) → Falls link st st' entries → gives_unit entries ≡ false
falls_gives link st st' entries (stays same none) = ap gives_unit none
falls_gives link st st' entries (drops not_served is_out none) = ap gives_unit none
falls_gives link st st' entries (tells entry is_served is_out one event) =
    ap gives_unit one ∙ ap (λ (e : Event). gives_by e entry.answer || false) event ∙ or_none (gives_by (Event.Down link) entry.answer)

module _ (a b : SetConfig) (end : End) (l : ℕ) (v : Sight)
    (once : (m : ℕ) (s : State) (event : Event) → (late_at m (step s event).state ≡ late_at m s) ⊎ (late_at m (step s event).state ≡ one_later (late_at m s)))
    (down_refuses : (m : ℕ) (s : State) (event : Event) → IsServed m event → m < length s.links → is_up m s ≡ false → IsRefused s event)
    (up_gives : (m : ℕ) (s : State) → is_up m s ≡ true → (unit : SignalUnit) × ((step s (Event.Next m)).answer ≡ Answer.Sent unit))
    (far_starts : IsStarting (v.far_standing l) → is_settled l v.far.state ≡ true) where
  -- A PROVING PERIOD ENDS, if one does
  pub times_on : (most : ℕ) (full : LinkSet) (st st' : Standing) (entries : List Entry) (near_way far_way : Way) → Times l st st' entries
      → IsLegal full.state entries → HasRoom full entries → Gone a b end l v once most full st near_way far_way
      → Gone a b end l v once (suc most) (with_entries full entries) st' near_way far_way
  times_on most full st st' entries near_way far_way (goes_on f) legal room gone =
      falls_on a b end l v once most full st st' entries near_way far_way f legal room gone
  times_on most full st st' entries near_way far_way (completes is now_is none) legal room gone =
      subst (λ (es : List Entry). Gone a b end l v once (suc most) (with_entries full es) st' near_way far_way) (sym none)
      (subst (λ (x : Standing). Gone a b end l v once (suc most) full x near_way far_way) (sym now_is)
      (ready_then (subst (λ (x : Standing). Gone a b end l v once most full x near_way far_way) is gone)))
    where
      ready_then : Gone a b end l v once most full aligning near_way far_way → Gone a b end l v once (suc most) full ready near_way far_way
      ready_then g = record {
        done = g.done;
        most_is = let few = g.most_is in omega (arith, few);
        marked = g.marked;
        only = λ e. let no : aligning ≡ out = g.only e in absurd cc;
        mid = record {
          w = g.mid.w;
          near = completes_it l _ _ full.state v.far.state _ aligning ready g.marked near_way tt g.mid.near;
          far = g.mid.far;
          others = g.mid.others;
          stands = record { up = λ up. let no : aligning ≡ served = g.mid.stands.up up in absurd cc; settled = λ starting. g.mid.stands.settled tt };
          never_waits = λ e. absurd cc;
          profile = g.mid.profile;
          few = g.mid.few;
        };
      }

  -- A UNIT IS CHOSEN, and goes under way to the far end
  pub record Sends (most : ℕ) (full : LinkSet) (st : Standing) (entries : List Entry) (unit : Option SignalUnit) (near_way far_way : Way) : Type 0 where
    pub given : Bool
    pub given_is : gives_unit entries ≡ given
    pub gone : Gone a b end l v once most full st near_way (sent_if unit given far_way)

  module _ (most : ℕ) (full : LinkSet) (near_way far_way : Way) where
    -- by the terminal itself
    far_with : (st : Standing) (far_way' : Way) (gone : Gone a b end l v once most full st near_way far_way)
        → Follows (open_at gone.mid.w.g (other end) l) (open_at gone.mid.w.g end l) l v.far.state full.state (line_to gone.mid.w.g.stage.world (other end) l)
        (v.far_standing l) (v.far_marked l) far_way' → Gone a b end l v once most full st near_way far_way'
    far_with st far_way' gone f = record {
      done = gone.done;
      most_is = gone.most_is;
      marked = gone.marked;
      only = gone.only;
      mid = record {
        w = gone.mid.w;
        near = gone.mid.near;
        far = f;
        others = gone.mid.others;
        stands = gone.mid.stands;
        never_waits = gone.mid.never_waits;
        profile = gone.mid.profile;
        few = gone.mid.few;
      };
    }

    far_apart : (st : Standing) (gone : Gone a b end l v once most full st near_way far_way)
        → LinkApart (open_at gone.mid.w.g (other end) l) (open_at gone.mid.w.g end l) l v.far.state full.state
    far_apart st gone = flipped _ _ l full.state v.far.state (apart_at a b end l v full gone.mid.w l)

    sends_status : (st : Standing) (unit : SignalUnit) → IsPlainStatus unit → Gone a b end l v once most full st near_way far_way
        → Gone a b end l v once most full st near_way (sent_on (record { unit = unit; given = false }) far_way)
    sends_status st unit is gone =
        far_with st _ gone
        (status_joins l _ _ v.far.state full.state _ (v.far_standing l) (v.far_marked l) far_way (record { unit = unit; given = false }) refl
        (ap not (status_is unit is)) (λ not_given not_status. let no : true ≡ false = sym (status_is unit is) ∙ not_status in absurd cc) gone.mid.far)
      where
        status_is : (u : SignalUnit) → IsPlainStatus u → is_status u ≡ true
        status_is (SignalUnit.Lssu head status) is = refl
        status_is (SignalUnit.Fisu head) is = absurd is
        status_is (SignalUnit.Msu head body) is = absurd is

    sends_start : (st : Standing) (unit : SignalUnit) → IsStarting st → IsStartFisu unit → Gone a b end l v once most full st near_way far_way
        → Gone a b end l v once most full st near_way (sent_on (record { unit = unit; given = false }) far_way)
    sends_start st unit starting is gone =
        far_with st _ gone
        (idle_joins l _ _ v.far.state full.state _ (v.far_standing l) (v.far_marked l) far_way (far_apart st gone) gone.mid.far (record { unit = unit; given = false }) refl
        (λ not_given not_status. is) (gone.mid.stands.settled starting))

    idle_sends : (st : Standing) (unit : Option SignalUnit) → (st ≡ served → ⊥) → IsIdleOne st unit → Gone a b end l v once most full st near_way far_way
        → Gone a b end l v once most full st near_way (sent_if unit false far_way)
    idle_sends st None not_served is gone = absurd is
    idle_sends out (Some unit) not_served is gone = sends_status out unit is gone
    idle_sends aligning (Some unit) not_served is gone = sends_status aligning unit is gone
    idle_sends ready (Some unit) not_served is gone = sends_start ready unit tt is gone
    idle_sends waiting (Some unit) not_served is gone = absurd (gone.mid.never_waits refl)
    idle_sends served (Some unit) not_served is gone = absurd (not_served refl)

    -- by the set, where the link is served
    module _ (gone : Gone a b end l v once most full served near_way far_way) (entry : Entry) (answer_is : entry.answer ≡ (step full.state entry.event).answer)
        (event : entry.event ≡ Event.Next l) (unit : Option SignalUnit) (given_so : GivesUnit entry.answer unit) (has : HasRoom full (entry ∷ [])) where
      abbrev full' : LinkSet
      full' = with_entry full entry

      answer_of : entry.answer ≡ (step full.state (Event.Next l)).answer
      answer_of = answer_is ∙ ap (λ (e : Event). (step full.state e).answer) event

      next_apart : (m : ℕ) → (l == m) ≡ false → IsElsewhere m (Event.Next l)
      next_apart m apart = (tt, tt)

      no_offer : (past : _) → (past_asked entry.event (Answered entry.answer) past).offered ≡ past.offered
      no_offer past = ap (λ (e : Event). (past_asked e (Answered entry.answer) past).offered) event

      record NextSo : Type 0 where
        pub by : Bool
        pub by_is : gives_by entry.event entry.answer ≡ by
        pub so_far : Gone a b end l v once (suc most) full' (heard_by entry.answer) near_way (sent_if unit by far_way)

      next_so : NextSo
      next_so = go (is_up l full.state) refl
        where
          mid : Mid a b end l v gone.done full served gone.marked near_way far_way
          mid = gone.mid

          one_of : (u : Option SignalUnit) → IsIdleOne out u → (x : SignalUnit) × (u ≡ Some x) × IsPlainStatus x
          one_of None is = absurd is
          one_of (Some x) is = (x, refl, is)

          was_left : is_up l full.state ≡ false → NextSo
          was_left down =
              let refused = down_refuses l full.state (Event.Next l) refl mid.few down in
              let told : entry.answer ≡ Answer.Refused Refusal.NotUp = answer_of ∙ refused.answer in
              let stay : full'.state ≡ full.state = ap (λ (e : Event). (step full.state e).state) event ∙ refused.state in
              let is_out : heard_by entry.answer ≡ out = ap heard_by told in
              let found = one_of unit (subst (λ (x : Answer). GivesUnit x unit) told given_so) in
              let so_far : Mid a b end l v (suc gone.done) full' out true near_way far_way =
              mid_goes a b end l v gone.done full full' mid.w _ _ _ _ (asks_vainly a b end v.far l full mid.w entry answer_is stay (ap handed_by told) no_offer)
              served out gone.marked true near_way near_way far_way far_way mid refl
              (λ m apart. subst (λ (s : State). GoesElsewhere a b end l v m full.state s) (sym stay) (stays_elsewhere a b end l v once full.state m))
              (ap (λ (s : State). s.settings) stay) (ap (λ (s : State). length s.links) stay)
              (subst (λ (s : State). Follows (open_at mid.w.g end l) (open_at mid.w.g (other end) l) l s v.far.state (line_to mid.w.g.stage.world end l) out true near_way) (sym stay)
              (ends l _ _ _ full.state v.far.state _ served out gone.marked near_way mid.near))
              (subst (λ (s : State). Follows (open_at mid.w.g (other end) l) (open_at mid.w.g end l) l v.far.state s (line_to mid.w.g.stage.world (other end) l) (v.far_standing l) (v.far_marked l) far_way)
              (sym stay) mid.far)
              (subst (StandsAt l out) (sym stay) (record { up = λ up. let no : true ≡ false = sym up ∙ down in absurd cc; settled = λ starting. absurd starting }))
              (λ no_wait. absurd cc) in
              record {
                by = false;
                by_is = ap (λ (e : Event). gives_by e entry.answer) event ∙ ap (gives_by (Event.Next l)) told;
                so_far = subst (λ (x : Standing). Gone a b end l v once (suc most) full' x near_way (sent_if unit false far_way)) (sym is_out)
                    (subst (λ (u : Option SignalUnit). Gone a b end l v once (suc most) full' out near_way (sent_if u false far_way)) (sym found.1)
                    (status_then found.0 found.2 so_far));
              }
            where
              status_then : (x : SignalUnit) → IsPlainStatus x → Mid a b end l v (suc gone.done) full' out true near_way far_way
                  → Gone a b end l v once (suc most) full' out near_way (sent_on (record { unit = x; given = false }) far_way)
              status_then x is m = record {
                done = suc gone.done;
                most_is = let few = gone.most_is in omega (arith, few);
                marked = true;
                only = λ e. refl;
                mid = record {
                  w = m.w;
                  near = m.near;
                  far = status_joins l _ _ v.far.state full'.state _ (v.far_standing l) (v.far_marked l) far_way (record { unit = x; given = false }) refl
                      (ap not (is_one x is)) (λ not_given not_status. let no : true ≡ false = sym (is_one x is) ∙ not_status in absurd cc) m.far;
                  others = m.others;
                  stands = m.stands;
                  never_waits = m.never_waits;
                  profile = m.profile;
                  few = m.few;
                };
              }
                where
                  is_one : (u : SignalUnit) → IsPlainStatus u → is_status u ≡ true
                  is_one (SignalUnit.Lssu head status) is = refl
                  is_one (SignalUnit.Fisu head) is = absurd is
                  is_one (SignalUnit.Msu head body) is = absurd is

          up_there : is_up l full.state ≡ true → NextSo
          up_there up =
              let found = up_gives l full.state up in
              let sent : entry.answer ≡ Answer.Sent found.0 = answer_of ∙ found.1 in
              let unit_is : unit ≡ Some found.0 = subst (λ (x : Answer). GivesUnit x unit) sent given_so in
              let is_served : heard_by entry.answer ≡ served = ap heard_by sent in
              let c : Carried = record { unit = found.0; given = true } in
              let goes : GoesOn l full.state full'.state = only_up l full.state entry.event (subst (IsNoUp l) (sym event) tt) in
              let till = none_heard l full.state entry.event (subst (IsNotHeardOn l) (sym event) tt) in
              let joined = given_joins l _ _ v.far.state full.state _ (v.far_standing l) (v.far_marked l) far_way (far_apart served gone) mid.far c refl up
              (λ settled. let no : true ≡ false = sym up ∙ settled_down l full.state settled in absurd cc) far_starts in
              let so_far : Mid a b end l v (suc gone.done) full' served gone.marked near_way (sent_on c far_way) =
              mid_goes a b end l v gone.done full full' mid.w _ _ _ _
              (sends_next a b end v.far l full mid.w entry answer_is found.0 event sent mid.few (has_room_for full entry [] has))
              served served gone.marked gone.marked near_way near_way far_way (sent_on c far_way) mid refl
              (elsewhere_by a b end l v once full entry.event (λ m apart. subst (IsElsewhere m) (sym event) (next_apart m apart)))
              (settings_stay full.state entry.event) (link_count_stays full.state entry.event)
              (goes_near l _ _ full.state full'.state v.far.state _ served gone.marked near_way goes till mid.near)
              (goes_far l _ _ v.far.state full.state full'.state _ _ _ (sent_on c far_way) goes.settled joined)
              (record { up = λ e. refl; settled = λ starting. absurd starting }) (λ no_wait. absurd cc) in
              record {
                by = true;
                by_is = ap (λ (e : Event). gives_by e entry.answer) event ∙ ap (gives_by (Event.Next l)) sent;
                so_far = subst (λ (x : Standing). Gone a b end l v once (suc most) full' x near_way (sent_if unit true far_way)) (sym is_served)
                    (subst (λ (u : Option SignalUnit). Gone a b end l v once (suc most) full' served near_way (sent_if u true far_way)) (sym unit_is)
                    (record {
                      done = suc gone.done;
                      most_is = let few = gone.most_is in omega (arith, few);
                      marked = gone.marked;
                      only = gone.only;
                      mid = so_far;
                    }));
              }

          go : (c : Bool) → is_up l full.state ≡ c → NextSo
          go false e = was_left e
          go true e = up_there e

  pub weaker : (most more : ℕ) (full : LinkSet) (st : Standing) (near_way far_way : Way) → most ≤ more → Gone a b end l v once most full st near_way far_way
      → Gone a b end l v once more full st near_way far_way
  weaker most more full st near_way far_way le g =
      record { done = g.done; most_is = let few = g.most_is in omega (arith, few, le); marked = g.marked; only = g.only; mid = g.mid }

  serves_on : (most : ℕ) (full : LinkSet) (st st' : Standing) (entries : List Entry) (unit : Option SignalUnit) (near_way far_way : Way)
      → Serves l st st' entries unit → IsLegal full.state entries → HasRoom full entries → Gone a b end l v once most full st near_way far_way
      → Sends (suc (suc most)) (with_entries full entries) st' entries unit near_way far_way
  serves_on most full st st' entries unit near_way far_way (idles not_served stay none is) legal room gone = record {
    given = false;
    given_is = ap gives_unit none;
    gone = subst (λ (es : List Entry). Gone a b end l v once (suc (suc most)) (with_entries full es) st' near_way (sent_if unit false far_way)) (sym none)
        (subst (λ (x : Standing). Gone a b end l v once (suc (suc most)) full x near_way (sent_if unit false far_way)) (sym stay)
        (weaker most (suc (suc most)) full st near_way (sent_if unit false far_way) (omega arith) (idle_sends most full near_way far_way st unit not_served is gone)));
  }
  serves_on most full st st' entries unit near_way far_way (gives entry later is one event given_so falls) legal room gone =
      let gone_served = subst (λ (x : Standing). Gone a b end l v once most full x near_way far_way) is gone in
      let legal' : IsLegal full.state (entry ∷ later) = subst (IsLegal full.state) one legal in
      let room' : HasRoom full (entry ∷ later) = subst (HasRoom full) one room in
      let n = next_so most full near_way far_way gone_served entry legal'.1 event unit given_so (room_first full (entry ∷ []) later room') in
      record {
        given = n.by;
        given_is = ap gives_unit one ∙ ap (λ (x : Bool). gives_by entry.event entry.answer || x) (falls_gives l _ st' later falls)
            ∙ or_none (gives_by entry.event entry.answer) ∙ n.by_is;
        gone = subst (λ (es : List Entry). Gone a b end l v once (suc (suc most)) (with_entries full es) st' near_way (sent_if unit n.by far_way)) (sym one)
            (falls_on a b end l v once (suc most) (with_entry full entry) (heard_by entry.answer) st' later near_way (sent_if unit n.by far_way) falls legal'.2
            (room_then full (entry ∷ []) later room') n.so_far);
      }

  pub chooses_on : (most : ℕ) (full : LinkSet) (st st' : Standing) (entries : List Entry) (unit : Option SignalUnit) (near_way far_way : Way)
      → Chooses l st st' entries unit → IsLegal full.state entries → HasRoom full entries → Gone a b end l v once most full st near_way far_way
      → Sends (suc (suc most)) (with_entries full entries) st' entries unit near_way far_way
  chooses_on most full st st' entries unit near_way far_way (has_bits stay none no_unit) legal room gone = record {
    given = false;
    given_is = ap gives_unit none;
    gone = subst (λ (es : List Entry). Gone a b end l v once (suc (suc most)) (with_entries full es) st' near_way (sent_if unit false far_way)) (sym none)
        (subst (λ (x : Standing). Gone a b end l v once (suc (suc most)) full x near_way (sent_if unit false far_way)) (sym stay)
        (subst (λ (u : Option SignalUnit). Gone a b end l v once (suc (suc most)) full st near_way (sent_if u false far_way)) (sym no_unit)
        (weaker most (suc (suc most)) full st near_way far_way (omega arith) gone)));
  }
  chooses_on most full st st' entries unit near_way far_way (chooses_one c) legal room gone = go c.asks
    where
      go : AsksUp l st c.risen c.first → Sends (suc (suc most)) (with_entries full entries) st' entries unit near_way far_way
      go (asks_again entry is one event risen) = absurd (gone.mid.never_waits is)
      go (asks_nothing never same none) =
          let whole : entries ≡ c.second = c.entries_are ∙ ap (λ (es : List Entry). es ++ c.second) none in
          subst (λ (es : List Entry). Sends (suc (suc most)) (with_entries full es) st' es unit near_way far_way) (sym whole)
          (serves_on most full st st' c.second unit near_way far_way
          (subst (λ (x : Standing). Serves l x st' c.second unit) same c.serves) (subst (IsLegal full.state) whole legal) (subst (HasRoom full) whole room) gone)
