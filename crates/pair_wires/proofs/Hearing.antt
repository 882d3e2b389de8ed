-- WHAT A TURN HEARS, move by move (`hears_all_on`): a unit may bring the link up (`rises_on`), and it's heard at the set where the link
-- is up there (`served_on`), or passes (`passes_on`).
use Rattle.std.proofs.Common.{refl, arith, ap, sym, subst, ◌≡◌, ◌∙◌, ◌<◌, ◌≤◌, ◌⊎◌, inl, inr, ℕ, suc, ◌+◌, ◌*◌, ◌==◌, ◌&&◌, ◌||◌, not, Bool, true, false, List, [], ◌∷◌, ◌++◌, length, Option}
use Rattle.l2_bits.specs.declared.marks.Mark.{Mark}
use Rattle.l2_units.specs.declared.profile.Profile.{Profile}
use Rattle.l2_units.specs.declared.unit.Header.{Header}
use Rattle.l2_units.specs.declared.unit.Unit.{Unit as SignalUnit}
use Rattle.set_events.specs.declared.answer.Answer.{Answer}
use Rattle.set_events.specs.declared.answer.Refusal.{Refusal}
use Rattle.set_events.specs.declared.config.SetConfig.{SetConfig}
use Rattle.set_events.specs.declared.event.Event.{Event}
use Rattle.set_events.specs.declared.history.Entry.{Entry}
use Rattle.set_model.specs.Changeover.{one_later}
use Rattle.set_model.specs.History.{LinkSet, IsLegal}
use Rattle.set_model.specs.State.{State, is_settled, is_up, late_at}
use Rattle.set_model.specs.Step.{step}
use Rattle.set_model.proofs.Walk.{link_count_stays}
use Rattle.set_octets.specs.Lives.{GoesOn, IsNoUp, IsRefused, IsServed}
use Rattle.set_octets.specs.Starting.{ChangesNothing, HearsNoneYet, IsFirstHead, IsNotHeardOn, nothing_new}
use Rattle.set_octets.proofs.Lives.{only_up, up_begins}
use Rattle.set_octets.proofs.Starting.{first_fisus, none_heard}
use Rattle.term_asks.specs.Asking.{Standing, out, ready, waiting, served, Falls, stays, drops, tells, risen_by, is_status, IsStartFisu, Rises, not_yet, comes_up, heard_by, Hears, passes, is_heard, HearsUnit, HearsOne, HearsAll}
use Rattle.term_model.specs.Terminal.{start_head}
use Rattle.pair_steps.specs.declared.step.End.{End}
use Rattle.pair_steps.specs.declared.step.Shown.TheVariants.{Answered}
use Rattle.pair_model.specs.Run.{past_asked}
use Rattle.pair_model.specs.World.{line_to, other}
use Rattle.pair_model.proofs.Pairs.{settings_stay}
use Rattle.pair_streams.specs.Handed.{handed_by}
use Rattle.pair_rises.specs.Rises.{inside, awaited, open_at}
use Rattle.pair_wires.specs.Following.{AreMade, Follows, IsFront, IsMade, LinkApart, heard_from, heard_off, in_fresh, in_old, has_idle, has_signal}
use Rattle.pair_wires.specs.Standing.{IsStarting, StandsAt}
use Rattle.pair_wires.specs.Ways.{Carried, HearsSome, Way, no_more, is_bad, is_lost, is_good}
use Rattle.pair_wires.proofs.Following.{Passes, ends, first_far, first_near, given_heard, given_passes, goes_far, leads, other_passes, second_far, second_near, was_gone}
use Rattle.pair_wires.proofs.Going.{asks_vainly, hears_one, loses_one, rises_first, rises_second, with_entry}
use Rattle.pair_wires.proofs.Turned.{Gone, HasRoom, IsElsewhere, Mid, Sight, apart_at, elsewhere_by, entries_more, entries_state, falls_on, flipped, GoesElsewhere, has_room_for, sound_at, legal_parts, mid_goes, mid_rests, none_yet, room_first, room_then, settled_down, stays_elsewhere, with_entries}

-- THE FRONT of what is under way
pub record HasFront (c : Carried) (later : List Carried) (way : Way) : Type 0 where
  pub front : IsFront c way
  pub so_far : (heard_off way).old ++ (heard_off way).fresh ≡ later
  pub fresh_if : way.old ≡ [] → (fresh : List Carried) × (way.fresh ≡ c ∷ fresh)
  pub old_then : way.old ≡ [] → (heard_off way).old ≡ []

pub front_of : (c : Carried) (later : List Carried) (way : Way) → way.old ++ way.fresh ≡ c ∷ later → HasFront c later way
front_of c later way is = go way.old way.fresh refl refl is
  where
    go : (old fresh : List Carried) → way.old ≡ old → way.fresh ≡ fresh → old ++ fresh ≡ c ∷ later → HasFront c later way
    go [] [] e f wrong = absurd cc
    go [] (x ∷ fresh) e f same =
        let first : x ≡ c = cc in
        let rest : fresh ≡ later = cc in
        let at : way.fresh ≡ c ∷ fresh = f ∙ ap (λ (y : Carried). y ∷ fresh) first in
        let off : heard_off way ≡ record { old = []; fresh = fresh } = ap (λ (cs : List Carried). heard_from cs way.fresh) e ∙ ap (λ (cs : List Carried). heard_from [] cs) f in
        record {
          front = in_fresh fresh e at;
          so_far = ap (λ (w : Way). w.old ++ w.fresh) off ∙ rest;
          fresh_if = λ none. (fresh, at);
          old_then = λ none. ap (λ (w : Way). w.old) off;
        }
    go (x ∷ old) fresh e f same =
        let first : x ≡ c = cc in
        let rest : old ++ fresh ≡ later = cc in
        let off : heard_off way ≡ record { old = old; fresh = way.fresh } = ap (λ (cs : List Carried). heard_from cs way.fresh) e in
        record {
          front = in_old old (e ∙ ap (λ (y : Carried). y ∷ old) first);
          so_far = ap (λ (w : Way). w.old ++ w.fresh) off ∙ ap (λ (cs : List Carried). old ++ cs) f ∙ rest;
          fresh_if = λ none. absurd (no_front x old (sym e ∙ none));
          old_then = λ none. absurd (no_front x old (sym e ∙ none));
        }
      where
        no_front : (y : Carried) (ys : List Carried) → y ∷ ys ≡ [] → ⊥
        no_front y ys wrong = absurd cc

-- where the link is ready, or served, all that was under way before it began to align was heard
pub record IsFlushed (standing : Standing) (way : Way) : Type 0 where
  pub ready_is : standing ≡ ready → way.old ≡ []
  pub served_is : standing ≡ served → way.old ≡ []

-- so many units are heard
abbrev pub heard_all : List Carried → Way → Way
heard_all [] way = way
heard_all (c ∷ cs) way = heard_all cs (heard_off way)

pub falls_flushed : (l : ℕ) (st st' : Standing) (entries : List Entry) (way : Way) → Falls l st st' entries → IsFlushed st way → IsFlushed st' way
falls_flushed l st st' entries way (stays same none) f = subst (λ (x : Standing). IsFlushed x way) (sym same) f
falls_flushed l st st' entries way (drops not_served is_out none) f =
    record { ready_is = λ e. let no : out ≡ ready = sym is_out ∙ e in absurd cc; served_is = λ e. let no : out ≡ served = sym is_out ∙ e in absurd cc }
falls_flushed l st st' entries way (tells entry is_served is_out one event) f =
    record { ready_is = λ e. let no : out ≡ ready = sym is_out ∙ e in absurd cc; served_is = λ e. let no : out ≡ served = sym is_out ∙ e in absurd cc }

module _ (a b : SetConfig) (end : End) (l : ℕ) (v : Sight)
    (once : (m : ℕ) (s : State) (event : Event) → (late_at m (step s event).state ≡ late_at m s) ⊎ (late_at m (step s event).state ≡ one_later (late_at m s)))
    (down_refuses : (m : ℕ) (s : State) (event : Event) → IsServed m event → m < length s.links → is_up m s ≡ false → IsRefused s event)
    (up_hears : (m : ℕ) (s : State) (unit : SignalUnit) → is_up m s ≡ true → (step s (Event.Heard m unit)).answer ≡ Answer.Refused Refusal.NotUp → ⊥)
    (all_old : v.far_marked l ≡ true → (v.far_ways l).fresh ≡ [])
    (far_starts : IsStarting (v.far_standing l) → is_settled l v.far.state ≡ true) where
  abbrev far_way : Way
  far_way = v.far_ways l

  abbrev GoneSo : ℕ → LinkSet → Standing → Way → Type 0
  GoneSo most full st near_way = Gone a b end l v once most full st near_way far_way

  up_apart : (m : ℕ) → (l == m) ≡ false → IsElsewhere m (Event.Up l)
  up_apart m apart = (apart, tt)

  heard_apart : (unit : SignalUnit) (m : ℕ) → (l == m) ≡ false → IsElsewhere m (Event.Heard l unit)
  heard_apart unit m apart = (tt, apart)

  -- IT COMES UP
  module _ (most : ℕ) (full : LinkSet) (near_way : Way) (gone : GoneSo most full ready near_way) (entry : Entry)
      (answer_is : entry.answer ≡ (step full.state entry.event).answer) (event : entry.event ≡ Event.Up l) (has : HasRoom full (entry ∷ []))
      (none_old : near_way.old ≡ []) (has_one : has_signal near_way.fresh ≡ true) where
    abbrev mid : Mid a b end l v gone.done full ready gone.marked near_way far_way
    mid = gone.mid

    abbrev full' : LinkSet
    full' = with_entry full entry

    settled : is_settled l full.state ≡ true
    settled = mid.stands.settled tt

    down : is_up l full.state ≡ false
    down = settled_down l full.state settled

    unmarked : gone.marked ≡ false
    unmarked = go gone.marked refl
      where
        go : (c : Bool) → gone.marked ≡ c → gone.marked ≡ false
        go false e = e
        go true e = let no : ready ≡ out = gone.only e in absurd cc

    yet : HearsNoneYet l full'.state
    yet = none_heard l full.state entry.event (subst (IsNotHeardOn l) (sym event) tt) (none_yet l full.state down)

    up_then : is_up l full'.state ≡ true
    up_then = ap (λ (e : Event). is_up l (step full.state e).state) event ∙ (up_begins l full.state settled).up

    pub done_is : entry.answer ≡ Answer.Done
    done_is = answer_is ∙ ap (λ (e : Event). (step full.state e).answer) event ∙ (up_begins l full.state settled).answer

    x : LinkApart (open_at mid.w.g end l) (open_at mid.w.g (other end) l) l full.state v.far.state
    x = apart_at a b end l v full mid.w l

    y : LinkApart (open_at mid.w.g (other end) l) (open_at mid.w.g end l) l v.far.state full.state
    y = flipped _ _ l full.state v.far.state x

    stands_up : StandsAt l served full'.state
    stands_up = record { up = λ up. refl; settled = λ starting. absurd starting }

    risen : Mid a b end l v (suc gone.done) full' served false near_way far_way
    risen = go (is_settled l v.far.state) refl
      where
        elsewhere : (m : ℕ) → (l == m) ≡ false → GoesElsewhere a b end l v m full.state full'.state
        elsewhere = elsewhere_by a b end l v once full entry.event (λ m apart. subst (IsElsewhere m) (sym event) (up_apart m apart))

        go : (c : Bool) → is_settled l v.far.state ≡ c → Mid a b end l v (suc gone.done) full' served false near_way far_way
        go true e =
            mid_goes a b end l v gone.done full full' mid.w inside awaited [] []
            (rises_first a b end v.far l full mid.w entry answer_is event settled mid.few (has_room_for full entry [] has) e)
            ready served gone.marked false near_way near_way far_way far_way mid refl elsewhere
            (settings_stay full.state entry.event) (link_count_stays full.state entry.event)
            (first_near l _ _ full.state v.far.state _ ready gone.marked near_way x mid.near full'.state tt unmarked none_old e yet)
            (first_far l _ _ v.far.state full.state _ (v.far_standing l) (v.far_marked l) far_way y mid.far full'.state all_old e
            (settled_down l v.far.state e) settled)
            stands_up (λ no_wait. absurd cc)
        go false e =
            let waits : open_at mid.w.g end l ≡ awaited =
            elim (mid.near.joins tt unmarked has_one) [
              | inl is ↦ is
              | inr is ↦ absurd (let no : true ≡ false = sym is ∙ e in cc)
            ] in
            mid_goes a b end l v gone.done full full' mid.w inside _ _ _
            (rises_second a b end v.far l full mid.w entry answer_is event settled mid.few (has_room_for full entry [] has) e waits)
            ready served gone.marked false near_way near_way far_way far_way mid refl elsewhere
            (settings_stay full.state entry.event) (link_count_stays full.state entry.event)
            (second_near l _ _ full.state v.far.state _ ready gone.marked near_way x mid.near full'.state tt unmarked waits yet)
            (second_far l _ _ v.far.state full.state _ (v.far_standing l) (v.far_marked l) far_way y mid.far full'.state waits e far_starts)
            stands_up (λ no_wait. absurd cc)

    pub comes_up_on : GoneSo (suc most) full' served near_way
    comes_up_on = record {
      done = suc gone.done;
      most_is = let few = gone.most_is in omega (arith, few);
      marked = false;
      only = λ wrong. absurd cc;
      mid = risen;
    }

  pub rises_on : (most : ℕ) (full : LinkSet) (unit : SignalUnit) (st st' : Standing) (entries : List Entry) (near_way : Way) (c : Carried) (later : List Carried)
      → near_way.old ++ near_way.fresh ≡ c ∷ later → c.unit ≡ unit → Rises l unit st st' entries → IsLegal full.state entries → HasRoom full entries
      → IsFlushed st near_way → GoneSo most full st near_way → GoneSo (suc most) (with_entries full entries) st' near_way × IsFlushed st' near_way
  rises_on most full unit st st' entries near_way c later front same (not_yet stay none) legal room flushed gone = (
    subst (λ (es : List Entry). GoneSo (suc most) (with_entries full es) st' near_way) (sym none)
        (subst (λ (x : Standing). GoneSo (suc most) full x near_way) (sym stay)
        (record { done = gone.done; most_is = let few = gone.most_is in omega (arith, few); marked = gone.marked; only = gone.only; mid = gone.mid })),
    subst (λ (x : Standing). IsFlushed x near_way) (sym stay) flushed,
  )
  rises_on most full unit st st' entries near_way c later front same (comes_up entry not_status is_ready one event risen) legal room flushed gone =
      let none = flushed.ready_is is_ready in
      let first = (front_of c later near_way front).fresh_if none in
      let signal : has_signal near_way.fresh ≡ true =
      ap has_signal first.1 ∙ ap (λ (b : Bool). b || has_signal first.0) (ap (λ (u : SignalUnit). not (is_status u)) same ∙ ap not not_status) in
      let gone_ready : GoneSo most full ready near_way = subst (λ (x : Standing). GoneSo most full x near_way) is_ready gone in
      let answer_is = (subst (IsLegal full.state) one legal).1 in
      let has = subst (HasRoom full) one room in
      let is_served : st' ≡ served = risen ∙ ap risen_by (done_is most full near_way gone_ready entry answer_is event has none signal) in (
        subst (λ (es : List Entry). GoneSo (suc most) (with_entries full es) st' near_way) (sym one)
            (subst (λ (x : Standing). GoneSo (suc most) (with_entry full entry) x near_way) (sym is_served)
            (comes_up_on most full near_way gone_ready entry answer_is event has none signal)),
        record { ready_is = λ e. none; served_is = λ e. none },
      )

  -- IT'S LOST, whatever the link does
  lost_mid : (done : ℕ) (full : LinkSet) (st : Standing) (marked : Bool) (near_way : Way) (c : Carried) → IsFront c near_way
      → Mid a b end l v done full st marked near_way far_way → Mid a b end l v done full st marked (heard_off near_way) far_way
  lost_mid done full st marked near_way c front mid = go c.given refl
    where
      same : Follows (open_at mid.w.g end l) (open_at mid.w.g (other end) l) l full.state v.far.state (line_to mid.w.g.stage.world end l) st marked (heard_off near_way)
          → Mid a b end l v done full st marked (heard_off near_way) far_way
      same f = record {
        w = mid.w;
        near = f;
        far = mid.far;
        others = mid.others;
        stands = mid.stands;
        never_waits = mid.never_waits;
        profile = mid.profile;
        few = mid.few;
      }

      by : Passes l (open_at mid.w.g end l) (open_at mid.w.g (other end) l) full.state v.far.state (line_to mid.w.g.stage.world end l) st marked near_way c
          → Mid a b end l v done full st marked (heard_off near_way) far_way
      by (was_gone f) = same f
      by (leads rest line_is f) =
          mid_rests a b end l v done full st marked near_way (heard_off near_way) far_way rest mid
          (loses_one a b end v.far l full mid.w c.unit rest mid.few line_is) f

      go : (g : Bool) → c.given ≡ g → Mid a b end l v done full st marked (heard_off near_way) far_way
      go false e = same (other_passes l _ _ full.state v.far.state _ st marked near_way c front e mid.near)
      go true e = by (given_passes l _ _ full.state v.far.state _ st marked near_way c front e mid.near)

  lost_on : (most : ℕ) (full : LinkSet) (st : Standing) (near_way : Way) (c : Carried) (later : List Carried) → near_way.old ++ near_way.fresh ≡ c ∷ later
      → IsFlushed st near_way → GoneSo most full st near_way → GoneSo most full st (heard_off near_way) × IsFlushed st (heard_off near_way)
  lost_on most full st near_way c later front flushed gone =
      let f = front_of c later near_way front in (
        record {
          done = gone.done;
          most_is = gone.most_is;
          marked = gone.marked;
          only = gone.only;
          mid = lost_mid gone.done full st gone.marked near_way c f.front gone.mid;
        },
        record { ready_is = λ e. f.old_then (flushed.ready_is e); served_is = λ e. f.old_then (flushed.served_is e) },
      )

  -- IT PASSES, and the set isn't asked: as if it were lost
  later_mid : (done : ℕ) (full : LinkSet) (st : Standing) (marked : Bool) (near_way : Way) → Mid a b end l v done full st marked near_way far_way
      → Mid a b end l v (suc done) full st marked near_way far_way
  later_mid done full st marked near_way m = record {
    w = m.w;
    near = m.near;
    far = m.far;
    others = λ k apart.
        let o = m.others k apart in
        record { late = o.late; late_is = o.late_is; most = let few = o.most in omega (arith, few); near = o.near; far = o.far; starts = o.starts };
    stands = m.stands;
    never_waits = m.never_waits;
    profile = m.profile;
    few = m.few;
  }

  pub passes_mid : (done : ℕ) (full : LinkSet) (st : Standing) (marked : Bool) (near_way : Way) (c : Carried) → IsFront c near_way
      → Mid a b end l v done full st marked near_way far_way → Mid a b end l v (suc done) full st marked (heard_off near_way) far_way
  passes_mid done full st marked near_way c front mid =
      later_mid done full st marked (heard_off near_way) (lost_mid done full st marked near_way c front mid)

  -- IT'S HEARD, at a link that is served
  module _ (done : ℕ) (full : LinkSet) (marked : Bool) (near_way : Way) (c : Carried) (front : IsFront c near_way) (none_old : near_way.old ≡ [])
      (fresh : List Carried) (fresh_is : near_way.fresh ≡ c ∷ fresh)
      (mid : Mid a b end l v done full served marked near_way far_way) (entry : Entry) (answer_is : entry.answer ≡ (step full.state entry.event).answer)
      (event : entry.event ≡ Event.Heard l c.unit) (not_status : is_status c.unit ≡ false) (has : HasRoom full (entry ∷ [])) where
    abbrev heard_set : LinkSet
    heard_set = with_entry full entry

    answer_of : entry.answer ≡ (step full.state (Event.Heard l c.unit)).answer
    answer_of = answer_is ∙ ap (λ (e : Event). (step full.state e).answer) event

    state_of : heard_set.state ≡ (step full.state (Event.Heard l c.unit)).state
    state_of = ap (λ (e : Event). (step full.state e).state) event

    no_offer : (past : _) → (past_asked entry.event (Answered entry.answer) past).offered ≡ past.offered
    no_offer past = ap (λ (e : Event). (past_asked e (Answered entry.answer) past).offered) event

    -- nothing is changed by it
    in_vain : (st : Standing) (marked' : Bool) (way' : Way) → heard_set.state ≡ full.state → handed_by entry.answer ≡ [] → (st ≡ waiting → ⊥) → StandsAt l st full.state
        → Follows (open_at mid.w.g end l) (open_at mid.w.g (other end) l) l full.state v.far.state (line_to mid.w.g.stage.world end l) st marked' way'
        → Mid a b end l v (suc done) heard_set st marked' way' far_way
    in_vain st marked' way' stay none no_wait stands f =
        mid_goes a b end l v done full heard_set mid.w _ _ _ _ (asks_vainly a b end v.far l full mid.w entry answer_is stay none no_offer)
        served st marked marked' near_way way' far_way far_way mid refl
        (λ m apart. subst (λ (s : State). GoesElsewhere a b end l v m full.state s) (sym stay) (stays_elsewhere a b end l v once full.state m))
        (ap (λ (s : State). s.settings) stay) (ap (λ (s : State). length s.links) stay)
        (subst (λ (s : State). Follows (open_at mid.w.g end l) (open_at mid.w.g (other end) l) l s v.far.state (line_to mid.w.g.stage.world end l) st marked' way') (sym stay) f)
        (subst (λ (s : State). Follows (open_at mid.w.g (other end) l) (open_at mid.w.g end l) l v.far.state s (line_to mid.w.g.stage.world (other end) l) (v.far_standing l) (v.far_marked l) far_way)
        (sym stay) mid.far)
        (subst (StandsAt l st) (sym stay) stands) no_wait

    -- what was heard so leaves it served, or out of service
    record HeardSo : Type 0 where
      pub marked_is : Bool
      pub only : marked_is ≡ true → heard_by entry.answer ≡ out
      pub mid_then : Mid a b end l v (suc (suc done)) heard_set (heard_by entry.answer) marked_is (heard_off near_way) far_way

    so_served : heard_by entry.answer ≡ served → Mid a b end l v (suc done) heard_set served marked (heard_off near_way) far_way → (marked ≡ false) → HeardSo
    so_served is m unmarked = record {
      marked_is = marked;
      only = λ wrong. let no : true ≡ false = sym wrong ∙ unmarked in absurd cc;
      mid_then = subst (λ (x : Standing). Mid a b end l v (suc (suc done)) heard_set x marked (heard_off near_way) far_way) (sym is)
          (later_mid (suc done) heard_set served marked (heard_off near_way) m);
    }

    served_by : (answer : Answer) → (answer ≡ Answer.Refused Refusal.NotUp → ⊥) → heard_by answer ≡ served
    served_by (Answer.Refused Refusal.NotUp) never = absurd (never refl)
    served_by answer never = cc

    -- up there
    module _ (unmarked : marked ≡ false) (up : is_up l full.state ≡ true) where
      goes : GoesOn l full.state heard_set.state
      goes = only_up l full.state entry.event (subst (IsNoUp l) (sym event) tt)

      not_settled : is_settled l full.state ≡ true → ⊥
      not_settled settled = let no : true ≡ false = sym up ∙ settled_down l full.state settled in absurd cc

      stays_served : heard_by entry.answer ≡ served
      stays_served = ap heard_by answer_of ∙ served_by (step full.state (Event.Heard l c.unit)).answer (up_hears l full.state c.unit up)

      both : LinkApart (open_at mid.w.g end l) (open_at mid.w.g (other end) l) l full.state v.far.state
      both = apart_at a b end l v full mid.w l

      by_set : c.given ≡ true → HeardSo
      by_set given =
          let h = given_heard l _ _ full.state heard_set.state v.far.state _ served marked near_way c front none_old given up mid.near in
          so_served stays_served
          (mid_goes a b end l v done full heard_set mid.w _ _ h.rest _
          (hears_one a b end v.far l full mid.w entry answer_is c.unit h.rest event h.line_is up mid.few (has_room_for full entry [] has)
          (λ waits. not_settled (both.waits waits)))
          served served marked marked near_way (heard_off near_way) far_way far_way mid refl
          (elsewhere_by a b end l v once full entry.event (λ m apart. subst (IsElsewhere m) (sym event) (heard_apart c.unit m apart)))
          (settings_stay full.state entry.event) (link_count_stays full.state entry.event)
          h.follows (goes_far l _ _ v.far.state full.state heard_set.state _ _ _ far_way goes.settled mid.far)
          (record { up = λ e. refl; settled = λ starting. absurd starting }) (λ no_wait. absurd cc)) unmarked

      by_terminal : c.given ≡ false → HeardSo
      by_terminal not_given =
          let idle : has_idle near_way.fresh ≡ true =
          ap has_idle fresh_is ∙ ap (λ (g : Bool). (not g && not (is_status c.unit)) || has_idle fresh) not_given ∙ ap (λ (g : Bool). not g || has_idle fresh) not_status in
          let made : IsMade c = (subst AreMade fresh_is mid.near.made_fresh).0 in
          let fisu = fisu_of c.unit (made not_given not_status) in
          let changes = changes_nothing fisu.0 fisu.2 (mid.near.unheard up idle) in
          let told : entry.answer ≡ Answer.Heard nothing_new = answer_of ∙ ap (λ (u : SignalUnit). (step full.state (Event.Heard l u)).answer) fisu.1 ∙ changes.answer in
          let stay : heard_set.state ≡ full.state = state_of ∙ ap (λ (u : SignalUnit). (step full.state (Event.Heard l u)).state) fisu.1 ∙ changes.state in
          so_served stays_served
          (in_vain served marked (heard_off near_way) stay (ap handed_by told) (λ no_wait. absurd cc) mid.stands
          (other_passes l _ _ full.state v.far.state _ served marked near_way c front not_given mid.near)) unmarked
        where
          fisu_of : (unit : SignalUnit) → IsStartFisu unit → (head : Header) × (unit ≡ SignalUnit.Fisu head) × (head ≡ start_head)
          fisu_of (SignalUnit.Fisu head) is = (head, refl, is)
          fisu_of (SignalUnit.Lssu head status) is = absurd is
          fisu_of (SignalUnit.Msu head body) is = absurd is

          first_head : IsFirstHead Profile.Narrow start_head
          first_head = record { bsn = refl; bib = refl; fsn = refl; fib = refl }

          changes_nothing : (head : Header) → head ≡ start_head → HearsNoneYet l full.state → ChangesNothing l head full.state
          changes_nothing head is unheard =
              first_fisus l head full.state (sound_at a b end l v full mid.w) up unheard
              (subst (λ (p : Profile). IsFirstHead p head) (sym mid.profile) (subst (IsFirstHead Profile.Narrow) (sym is) first_head))

      is_up_there : HeardSo
      is_up_there = by c.given refl
        where
          by : (g : Bool) → c.given ≡ g → HeardSo
          by true e = by_set e
          by false e = by_terminal e

    heard_so : marked ≡ false → HeardSo
    heard_so unmarked = go (is_up l full.state) refl
      where
        -- not up at the set
        was_left : is_up l full.state ≡ false → HeardSo
        was_left down =
            let refused = down_refuses l full.state (Event.Heard l c.unit) refl mid.few down in
            let told : entry.answer ≡ Answer.Refused Refusal.NotUp = answer_of ∙ refused.answer in
            let stay : heard_set.state ≡ full.state = state_of ∙ refused.state in
            let is_out : heard_by entry.answer ≡ out = ap heard_by told in
            let first = in_vain out true near_way stay (ap handed_by told) (λ no_wait. absurd cc)
            (record { up = λ up. let no : true ≡ false = sym up ∙ down in absurd cc; settled = λ starting. absurd starting })
            (ends l _ _ _ full.state v.far.state _ served out marked near_way mid.near) in
            record {
              marked_is = true;
              only = λ e. is_out;
              mid_then = subst (λ (x : Standing). Mid a b end l v (suc (suc done)) heard_set x true (heard_off near_way) far_way) (sym is_out)
                  (passes_mid (suc done) heard_set out true near_way c front first);
            }

        go : (c : Bool) → is_up l full.state ≡ c → HeardSo
        go false e = was_left e
        go true e = is_up_there unmarked e

  -- A UNIT
  module _ (most : ℕ) (full : LinkSet) (unit : SignalUnit) (st st' : Standing) (entries : List Entry) (near_way : Way) (c : Carried) (later : List Carried)
      (front : near_way.old ++ near_way.fresh ≡ c ∷ later) (same : c.unit ≡ unit) (legal : IsLegal full.state entries) (room : HasRoom full entries)
      (flushed : IsFlushed st near_way) (gone : GoneSo most full st near_way) where
    abbrev first : HasFront c later near_way
    first = front_of c later near_way front

    then_flushed : (s : Standing) → (s ≡ ready → near_way.old ≡ []) → (s ≡ served → near_way.old ≡ []) → IsFlushed s (heard_off near_way)
    then_flushed s x y = record { ready_is = λ e. first.old_then (x e); served_is = λ e. first.old_then (y e) }

    pub hears_on : Hears l unit st st' entries
        → GoneSo (suc (suc (suc most))) (with_entries full entries) st' (heard_off near_way) × IsFlushed st' (heard_off near_way)
    hears_on (passes not_served stay none) = (
      subst (λ (es : List Entry). GoneSo (suc (suc (suc most))) (with_entries full es) st' (heard_off near_way)) (sym none)
          (subst (λ (x : Standing). GoneSo (suc (suc (suc most))) full x (heard_off near_way)) (sym stay)
          (record {
            done = suc gone.done;
            most_is = let few = gone.most_is in omega (arith, few);
            marked = gone.marked;
            only = gone.only;
            mid = passes_mid gone.done full st gone.marked near_way c first.front gone.mid;
          })),
      subst (λ (x : Standing). IsFlushed x (heard_off near_way)) (sym stay) (then_flushed st flushed.ready_is flushed.served_is),
    )
    hears_on (is_heard is not_status asks) =
        let none = flushed.served_is is in
        let fresh = first.fresh_if none in
        let gone_served : GoneSo most full served near_way = subst (λ (x : Standing). GoneSo most full x near_way) is gone in
        let legal' : IsLegal full.state (asks.entry ∷ asks.later) = subst (IsLegal full.state) asks.entries_are legal in
        let room' : HasRoom full (asks.entry ∷ asks.later) = subst (HasRoom full) asks.entries_are room in
        let not_status' : is_status c.unit ≡ false = ap is_status same ∙ not_status in
        let event : asks.entry.event ≡ Event.Heard l c.unit = asks.asked ∙ ap (Event.Heard l) (sym same) in
        let h = heard_so gone_served.done full gone_served.marked near_way c first.front none fresh.0 fresh.1 gone_served.mid asks.entry legal'.1 event not_status'
        (room_first full (asks.entry ∷ []) asks.later room') (unmarked_in gone_served.marked gone_served.only) in
        let so_far : GoneSo (suc (suc most)) (with_entry full asks.entry) (heard_by asks.entry.answer) (heard_off near_way) =
        record {
          done = suc (suc gone_served.done);
          most_is = let few = gone_served.most_is in omega (arith, few);
          marked = h.marked_is;
          only = h.only;
          mid = h.mid_then;
        } in (
          subst (λ (es : List Entry). GoneSo (suc (suc (suc most))) (with_entries full es) st' (heard_off near_way)) (sym asks.entries_are)
              (falls_on a b end l v once (suc (suc most)) (with_entry full asks.entry) (heard_by asks.entry.answer) st' asks.later (heard_off near_way) far_way
              asks.falls legal'.2 (room_then full (asks.entry ∷ []) asks.later room') so_far),
          then_flushed st' (λ e. none) (λ e. none),
        )
      where
        unmarked_in : (m : Bool) → (m ≡ true → served ≡ out) → m ≡ false
        unmarked_in false only = refl
        unmarked_in true only = let no : served ≡ out = only refl in absurd cc

  -- it may fall first, and come up by it
  pub unit_on : (most : ℕ) (full : LinkSet) (unit : SignalUnit) (st st' : Standing) (entries : List Entry) (near_way : Way) (c : Carried) (later : List Carried)
      → near_way.old ++ near_way.fresh ≡ c ∷ later → c.unit ≡ unit → HearsUnit l unit st st' entries → IsLegal full.state entries → HasRoom full entries
      → IsFlushed st near_way → GoneSo most full st near_way
      → GoneSo (suc (suc (suc (suc (suc most))))) (with_entries full entries) st' (heard_off near_way) × IsFlushed st' (heard_off near_way)
  unit_on most full unit st st' entries near_way c later front same h legal room flushed gone =
      let legal' = subst (IsLegal full.state) h.entries_are legal in
      let room' = subst (HasRoom full) h.entries_are room in
      let parts = legal_parts full.state h.first (h.second ++ h.third) legal' in
      let one = falls_on a b end l v once most full st h.judged h.first near_way far_way h.falls parts.0 (room_first full h.first (h.second ++ h.third) room') gone in
      let one_flushed = falls_flushed l st h.judged h.first near_way h.falls flushed in
      let full1 = with_entries full h.first in
      let legal1 : IsLegal full1.state (h.second ++ h.third) = subst (λ (s : State). IsLegal s (h.second ++ h.third)) (sym (entries_state full h.first)) parts.1 in
      let room1 = room_then full h.first (h.second ++ h.third) room' in
      let parts1 = legal_parts full1.state h.second h.third legal1 in
      let two = rises_on (suc most) full1 unit h.judged h.risen h.second near_way c later front same h.rises parts1.0 (room_first full1 h.second h.third room1) one_flushed one in
      let full2 = with_entries full1 h.second in
      let legal2 : IsLegal full2.state h.third = subst (λ (s : State). IsLegal s h.third) (sym (entries_state full1 h.second)) parts1.1 in
      let three = hears_on (suc (suc most)) full2 unit h.risen st' h.third near_way c later front same legal2 (room_then full1 h.second h.third room1) two.1 two.0 h.hears in
      let whole : with_entries full entries ≡ with_entries full2 h.third =
      ap (with_entries full) h.entries_are ∙ entries_more full h.first (h.second ++ h.third) ∙ entries_more full1 h.second h.third in (
        subst (λ (x : LinkSet). GoneSo (suc (suc (suc (suc (suc most))))) x st' (heard_off near_way)) (sym whole) three.0,
        three.1,
      )

  -- ALL UNITS OF A TURN, those that are lost among them
  more_moves : (most more : ℕ) (full : LinkSet) (st : Standing) (near_way : Way) → most ≤ more → GoneSo most full st near_way → GoneSo more full st near_way
  more_moves most more full st near_way le g =
      record { done = g.done; most_is = let few = g.most_is in omega (arith, few, le); marked = g.marked; only = g.only; mid = g.mid }

  pub hears_all_on : (most : ℕ) (full : LinkSet) (marks : List Mark) (st st' : Standing) (entries : List Entry) (near_way : Way) (cs later : List Carried)
      → near_way.old ++ near_way.fresh ≡ cs ++ later → HearsSome marks cs → HearsAll l marks st st' entries
      → IsLegal full.state entries → HasRoom full entries → IsFlushed st near_way → GoneSo most full st near_way
      → GoneSo (5 * length marks + most) (with_entries full entries) st' (heard_all cs near_way) × IsFlushed st' (heard_all cs near_way)
  hears_all_on most full marks st st' entries near_way cs later front (no_more no_marks no_units) h legal room flushed gone =
      let h' : HearsAll l [] st st' entries = subst (λ (ms : List Mark). HearsAll l ms st st' entries) no_marks h in
      let way_is : heard_all cs near_way ≡ near_way = ap (λ (xs : List Carried). heard_all xs near_way) no_units in (
        subst (λ (x : Way). GoneSo (5 * length marks + most) (with_entries full entries) st' x) (sym way_is)
            (subst (λ (es : List Entry). GoneSo (5 * length marks + most) (with_entries full es) st' near_way) (sym h'.1)
            (more_moves most (5 * length marks + most) full st' near_way (omega arith)
            (subst (λ (x : Standing). GoneSo most full x near_way) (sym h'.0) gone))),
        subst (λ (x : Way). IsFlushed st' x) (sym way_is) (subst (λ (x : Standing). IsFlushed x near_way) (sym h'.0) flushed),
      )
  hears_all_on most full marks st st' entries near_way cs later front (is_lost c {later = others} came_is rest) h legal room flushed gone =
      let front' : near_way.old ++ near_way.fresh ≡ c ∷ (others ++ later) = front ∙ ap (λ (xs : List Carried). xs ++ later) came_is in
      let one = lost_on most full st near_way c (others ++ later) front' flushed gone in
      let f = front_of c (others ++ later) near_way front' in
      let two = hears_all_on most full marks st st' entries (heard_off near_way) others later f.so_far rest h legal room one.1 one.0 in
      let way_is : heard_all cs near_way ≡ heard_all others (heard_off near_way) = ap (λ (xs : List Carried). heard_all xs near_way) came_is in (
        subst (λ (x : Way). GoneSo (5 * length marks + most) (with_entries full entries) st' x) (sym way_is) two.0,
        subst (λ (x : Way). IsFlushed st' x) (sym way_is) two.1,
      )
  hears_all_on most full marks st st' entries near_way cs later front (is_bad mark {more = more} marks_are none rest) h legal room flushed gone =
      let h' : HearsAll l (mark ∷ more) st st' entries = subst (λ (ms : List Mark). HearsAll l ms st st' entries) marks_are h in
      let legal' = subst (IsLegal full.state) h'.3 legal in
      let room' = subst (HasRoom full) h'.3 room in
      let parts = legal_parts full.state h'.1 h'.2 legal' in
      let falls : Falls l st h'.0 h'.1 = subst (λ (u : Option SignalUnit). HearsOne l u st h'.0 h'.1) none h'.4 in
      let one = falls_on a b end l v once most full st h'.0 h'.1 near_way far_way falls parts.0 (room_first full h'.1 h'.2 room') gone in
      let one_flushed = falls_flushed l st h'.0 h'.1 near_way falls flushed in
      let full1 = with_entries full h'.1 in
      let legal1 : IsLegal full1.state h'.2 = subst (λ (s : State). IsLegal s h'.2) (sym (entries_state full h'.1)) parts.1 in
      let two = hears_all_on (suc most) full1 more h'.0 st' h'.2 near_way cs later front rest h'.5 legal1 (room_then full h'.1 h'.2 room') one_flushed one in
      let whole : with_entries full entries ≡ with_entries full1 h'.2 = ap (with_entries full) h'.3 ∙ entries_more full h'.1 h'.2 in
      let fewer : 5 * length more + suc most ≤ 5 * length marks + most = omega (arith, ap length marks_are) in (
        subst (λ (x : LinkSet). GoneSo (5 * length marks + most) x st' (heard_all cs near_way)) (sym whole)
            (more_moves (5 * length more + suc most) (5 * length marks + most) (with_entries full1 h'.2) st' (heard_all cs near_way) fewer two.0),
        two.1,
      )
  hears_all_on most full marks st st' entries near_way cs later front (is_good mark c {more = more} {later = others} marks_are came_is unit rest) h legal room flushed gone =
      let h' : HearsAll l (mark ∷ more) st st' entries = subst (λ (ms : List Mark). HearsAll l ms st st' entries) marks_are h in
      let front' : near_way.old ++ near_way.fresh ≡ c ∷ (others ++ later) = front ∙ ap (λ (xs : List Carried). xs ++ later) came_is in
      let legal' = subst (IsLegal full.state) h'.3 legal in
      let room' = subst (HasRoom full) h'.3 room in
      let parts = legal_parts full.state h'.1 h'.2 legal' in
      let hears : HearsUnit l c.unit st h'.0 h'.1 = subst (λ (u : Option SignalUnit). HearsOne l u st h'.0 h'.1) unit h'.4 in
      let one = unit_on most full c.unit st h'.0 h'.1 near_way c (others ++ later) front' refl hears parts.0 (room_first full h'.1 h'.2 room') flushed gone in
      let full1 = with_entries full h'.1 in
      let legal1 : IsLegal full1.state h'.2 = subst (λ (s : State). IsLegal s h'.2) (sym (entries_state full h'.1)) parts.1 in
      let f = front_of c (others ++ later) near_way front' in
      let two = hears_all_on (suc (suc (suc (suc (suc most))))) full1 more h'.0 st' h'.2 (heard_off near_way) others later f.so_far rest h'.5 legal1
      (room_then full h'.1 h'.2 room') one.1 one.0 in
      let whole : with_entries full entries ≡ with_entries full1 h'.2 = ap (with_entries full) h'.3 ∙ entries_more full h'.1 h'.2 in
      let way_is : heard_all cs near_way ≡ heard_all others (heard_off near_way) = ap (λ (xs : List Carried). heard_all xs near_way) came_is in
      let fewer : 5 * length more + suc (suc (suc (suc (suc most)))) ≤ 5 * length marks + most =
      omega (arith, ap length marks_are) in (
        subst (λ (x : LinkSet). GoneSo (5 * length marks + most) x st' (heard_all cs near_way)) (sym whole)
            (subst (λ (x : Way). GoneSo (5 * length marks + most) (with_entries full1 h'.2) st' x) (sym way_is)
            (more_moves (5 * length more + suc (suc (suc (suc (suc most))))) (5 * length marks + most) (with_entries full1 h'.2) st'
            (heard_all others (heard_off near_way)) fewer two.0)),
        subst (λ (x : Way). IsFlushed st' x) (sym way_is) two.1,
      )
