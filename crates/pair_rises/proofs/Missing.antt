-- AN END MISSES A LIFE: it hears first that the other left it. What holds of both ends is kept (`missed`), where it's seen
-- as one that was answered and counts nothing from then on. Under the veil the order settles a link that both left
-- (`after_under` of Late.antt); then the answer is queued. An acknowledgement settles it there too; the end as it is
-- ignores it, and goes on to await the link (`ignored`).
use Rattle.std.proofs.Common.{refl, arith, ◌≡◌, ◌∙◌, ap, sym, subst, ℕ, ◌<◌, ◌+◌, ◌==◌, Bool, true, false, List, ◌∷◌, length, slice_get, Some, inr}
use Rattle.l2_units.specs.declared.profile.Profile.{Profile}
use Rattle.l2_units.specs.declared.unit.Unit.{Unit as SignalUnit}
use Rattle.l2_window.specs.Window.{fsn_count, fsn_before_first}
use Rattle.l2_window.proofs.Numbers.{from_zero, below as cycle}
use Rattle.l3_orders.specs.declared.order.Order.TheVariants.{Coa}
use Rattle.pair_steps.specs.Lines.{units_on}
use Rattle.set_events.specs.declared.config.Method.{Method}
use Rattle.set_events.specs.declared.event.Event.TheVariants.{Heard as HeardEvent}
use Rattle.set_model.specs.declared.phase.Phase.TheVariants.{Up, Settled}
use Rattle.set_model.specs.Changeover.{queued}
use Rattle.set_model.specs.Sound.{IsSound}
use Rattle.set_model.specs.State.{LinkState, State, Settings, has_phase_settled, is_up, link_is_up, link_is_settled}
use Rattle.set_model.specs.Step.{step}
use Rattle.set_model.proofs.Lists.{get_set_same, within, length_set}
use Rattle.set_model.proofs.Walk.{IsAt}
use Rattle.set_veiled.specs.Veil.{dormant, veil}
use Rattle.set_veiled.proofs.Sound.{veils_stay_sound}
use Rattle.set_model.proofs.Events.{Untouched}
use Rattle.set_model.proofs.Places.{apart_back}
use Rattle.set_model.proofs.Settling.{settled_empty}
use Rattle.pair_model.proofs.Counts.{CountStays}
use Rattle.pair_model.proofs.Following.{follows_untouched}
use Rattle.pair_model.proofs.Tied.{KeepBodies, follows}
use Rattle.pair_rises.proofs.Alike.{IsLike, shows_holds, shows_streams, shows_near, shows_far}
use Rattle.pair_model.specs.Promises.{IsOneMethod}
use Rattle.pair_model.specs.Run.{Past, added_at}
use Rattle.pair_model.proofs.Moving.{same_side}
use Rattle.pair_model.proofs.Moving as moving
use Rattle.pair_model.proofs.Pairs.{Two, side, TiedAt, HoldsOf, like, on_other}
use Rattle.pair_changeover.proofs.Acked.{IsRest}
use Rattle.pair_changeover.proofs.Counted.{Counts, heard_counts}
use Rattle.pair_changeover.proofs.Ordered.{heard}
use Rattle.pair_changeover.proofs.Views.{last_of, last_on}
use Rattle.pair_streams.proofs.Acting.{Streams}
use Rattle.pair_streams.proofs.Hearing.{hears_streams}
use Rattle.pair_rises.proofs.Counting.{shows_counts}
use Rattle.pair_rises.proofs.Halves.{Halves, hears_halves, shows_halves, told_halves}
use Rattle.pair_rises.proofs.Late.{told_holds, told_streams, told_near, told_far, veil_over}
use Rattle.pair_rises.proofs.Open.{IsOpen, hears_near}
use Rattle.pair_rises.specs.Rises.{closed}

module _ {emergencies : Bool} (mx my : Method) (one : IsOneMethod mx my) (u f : State) (near_past far_past : Past)
    (out back : List (List SignalUnit)) (l : ℕ) (sound : IsSound u) (was : LinkState) (was_at : IsAt l was Settled u)
    (h : HoldsOf mx my (record { near = veil (dormant u.settings) l u; far = f; near_past = near_past; far_past = far_past; out = out; back = back }))
    (v : Streams emergencies (record { near = veil (dormant u.settings) l u; far = f; near_past = near_past; far_past = far_past; out = out; back = back }))
    (counts_each : Counts (veil (dormant u.settings) l u) f)
    (half_each : emergencies ≡ false → Halves (record { near = veil (dormant u.settings) l u; far = f; near_past = near_past; far_past = far_past; out = out; back = back }))
    (awaited : IsOpen l (veil (dormant u.settings) l u) f) (there : LinkState) (found : slice_get f.links l ≡ Some there)
    (k : ℕ) (few : k < length u.links) (unit : SignalUnit) (rest : List SignalUnit) (front : units_on k back ≡ unit ∷ rest)
    (link : LinkState) (at : IsAt k link Up (veil (dormant u.settings) l u)) where
  abbrev p : Two
  p = record { near = veil (dormant u.settings) l u; far = f; near_past = near_past; far_past = far_past; out = out; back = back }

  pub few_under : k < length p.near.links
  few_under = omega (arith, few, length_set u.links l (dormant u.settings))

  abbrev heard_two : Two
  heard_two = heard mx my one p h v.ordered k few_under unit rest front link at

  abbrev after_under : State
  after_under = (step p.near (HeardEvent k unit)).state

  down_before : is_up l p.near ≡ false
  down_before = ap link_is_up (get_set_same u.links l (dormant u.settings) (within u.links l was was_at.there))

  heard_holds : HoldsOf mx my heard_two
  heard_holds = moving.hears_up mx my one p h k few_under unit rest front link at

  heard_streams : Streams emergencies heard_two
  heard_streams = hears_streams mx my one p h v k few_under unit rest front link at

  heard_halves : emergencies ≡ false → Halves heard_two
  heard_halves e = hears_halves mx my one p h v e k few_under unit rest front link at (half_each e)

  heard_each : Counts after_under f
  heard_each = heard_counts mx my one p h v.ordered counts_each k few_under unit rest front link at

  still_open : IsOpen l after_under f
  still_open = hears_near mx my one p h v.ordered k few_under unit rest front link at l there found down_before awaited

  -- what is kept, where that's its state as it's seen
  pub record Missed (near : State) : Type 0 where
    pub links : HoldsOf mx my (record heard_two { near = near })
    pub streams : Streams emergencies (record heard_two { near = near })
    pub counts : Counts near f
    pub halves : emergencies ≡ false → Halves (record heard_two { near = near })
    pub near_open : (n : ℕ) → (l == n) ≡ false → IsOpen n after_under f → IsOpen n near f
    pub far_open : (n : ℕ) → IsOpen n f after_under → IsOpen n f near

  -- it settled there, and counts nothing
  module _ (mid : State) (mid_few : l < length mid.links) (mid_settings : mid.settings ≡ u.settings) (settles : after_under ≡ veil (closed u.settings) l mid) where
    settled_there : slice_get after_under.links l ≡ Some (closed u.settings)
    settled_there = ap (λ (s : State). slice_get s.links l) settles ∙ get_set_same mid.links l (closed u.settings) mid_few

    profile_is : after_under.settings.profile ≡ u.settings.profile
    profile_is = ap (λ (s : State). s.settings.profile) settles ∙ ap (λ (s : Settings). s.profile) mid_settings

    below_16 : l < 16
    below_16 = omega (arith, within u.links l was was_at.there, sound.count, sound.routed, sound.routing.at_most_16)

    in_range : fsn_before_first u.settings.profile < fsn_count after_under.settings.profile
    in_range = subst (λ (q : Profile). fsn_before_first u.settings.profile < fsn_count q) (sym profile_is)
        (subst (λ (n : ℕ). n < fsn_count u.settings.profile) (sym (from_zero u.settings.profile)) (cycle u.settings.profile (0 + fsn_before_first u.settings.profile)))

    tells : fsn_before_first u.settings.profile ≡ last_on l after_under
    tells = from_zero u.settings.profile ∙ sym (ap last_of settled_there)

    down_then : is_up l after_under ≡ false
    down_then = ap link_is_up settled_there

    -- it answers
    pub missed : (near : State) → near ≡ queued (Coa l (fsn_before_first u.settings.profile)) after_under → Missed near
    missed near answered = subst (λ (s : State). Missed s) (sym answered) (record {
      links = told_holds mx my heard_two heard_holds heard_streams l (fsn_before_first u.settings.profile) below_16 in_range tells still_open.none down_then still_open.goes;
      streams = told_streams mx my heard_two heard_holds heard_streams l (fsn_before_first u.settings.profile) below_16 in_range tells still_open.none down_then still_open.goes;
      counts = record { near = heard_each.near; far = heard_each.far };
      halves = λ e. told_halves heard_two l (fsn_before_first u.settings.profile) (heard_halves e);
      near_open = λ n d was. told_near mx my heard_two heard_holds heard_streams l (fsn_before_first u.settings.profile) below_16 in_range tells still_open.none down_then still_open.goes n d was;
      far_open = λ n was. told_far mx my heard_two heard_holds heard_streams l (fsn_before_first u.settings.profile) below_16 in_range tells still_open.none down_then still_open.goes n was;
    })

    -- AN ACKNOWLEDGEMENT it ignores: it's seen as left in silence still, and the tie of the link is what it was
    module _ (mid_sound : IsSound mid) (mid_at : IsAt l was Settled mid) (keep : KeepBodies u.rows mid.rows) (untouched : Untouched l u.rows mid.rows)
        (other : (k == l) ≡ false) where
      abbrev shut : State
      shut = veil (closed u.settings) l mid

      abbrev left : State
      left = veil (dormant u.settings) l shut

      left_is : left ≡ veil (dormant u.settings) l mid
      left_is = veil_over l mid (closed u.settings) (dormant u.settings)

      shut_there : slice_get shut.links l ≡ Some (closed u.settings)
      shut_there = get_set_same mid.links l (closed u.settings) mid_few

      before_there : slice_get p.near.links l ≡ Some (dormant u.settings)
      before_there = get_set_same u.links l (dormant u.settings) (within u.links l was was_at.there)

      left_there : slice_get left.links l ≡ Some (dormant u.settings)
      left_there = get_set_same shut.links l (dormant u.settings) (within shut.links l (closed u.settings) shut_there)

      as_left : IsLike (closed u.settings) (dormant u.settings)
      as_left = record { up = refl; settled = λ e. absurd (let no : false ≡ true = e in cc); accepted = refl; acked = refl; profile = refl }

      sound_left : IsSound left
      sound_left = subst IsSound (sym left_is) (subst (λ (settings : Settings). IsSound (veil (dormant settings) l mid)) mid_settings
          (veils_stay_sound l mid mid_sound (ap link_is_settled mid_at.there ∙ ap has_phase_settled mid_at.phase_is)))

      same_link : slice_get left.links l ≡ slice_get p.near.links l
      same_link = left_there ∙ sym before_there

      counts : CountStays l p.near left
      counts = λ after found. (after, sym same_link ∙ found, refl)

      not_taken : {X : Type 0} (more : List X) (taken : ℕ → List X) → added_at k more taken l ≡ taken l
      not_taken more taken = rw (apart_back k l other) refl

      tied_left : TiedAt l mx my (record heard_two { near = left })
      tied_left = like l mx my (side l left near_past) _ (side l f far_past) _ (units_on l out) _ (units_on l back) _
          (same_side refl refl (not_taken _ near_past.taken)) refl refl (on_other l k rest back other)
          (follows l mx my _ _ _ _ left keep counts (follows_untouched l p.near left same_link untouched) (h.ties l))

      abbrev shut_two : Two
      shut_two = record heard_two { near = shut }

      shut_holds : HoldsOf mx my shut_two
      shut_holds = subst (λ (s : State). HoldsOf mx my (record heard_two { near = s })) settles heard_holds

      shut_streams : Streams emergencies shut_two
      shut_streams = subst (λ (s : State). Streams emergencies (record heard_two { near = s })) settles heard_streams

      shut_halves : emergencies ≡ false → Halves shut_two
      shut_halves e = subst (λ (s : State). Halves (record heard_two { near = s })) settles (heard_halves e)

      none_sent : IsRest l (dormant u.settings) shut.rows (heard_two.near_past.sent l)
      none_sent = inr (refl, (settled_empty mid l was mid_sound mid_at.there mid_at.phase_is).unack_none)

      pub record Awaited (near : State) : Type 0 where
        pub links : HoldsOf mx my (record heard_two { near = near })
        pub streams : Streams emergencies (record heard_two { near = near })
        pub counts : Counts near f
        pub halves : emergencies ≡ false → Halves (record heard_two { near = near })
        pub near_open : (n : ℕ) → IsOpen n after_under f → IsOpen n near f
        pub far_open : (n : ℕ) → IsOpen n f after_under → IsOpen n f near

      pub ignored : Awaited (veil (dormant u.settings) l mid)
      ignored = subst Awaited left_is (record {
        links = shows_holds mx my shut_two shut_holds l (closed u.settings) (dormant u.settings) shut_there as_left sound_left tied_left;
        streams = shows_streams mx my shut_two shut_holds l (closed u.settings) (dormant u.settings) shut_there as_left sound_left shut_streams;
        counts = shows_counts l shut f (closed u.settings) (dormant u.settings) shut_there as_left (subst (λ (s : State). Counts s f) settles heard_each);
        halves = λ e. shows_halves shut_two l (closed u.settings) (dormant u.settings) shut_there as_left (λ unsettled. none_sent) (shut_halves e);
        near_open = λ n was. shows_near shut f l (closed u.settings) (dormant u.settings) shut_there as_left n (subst (λ (s : State). IsOpen n s f) settles was);
        far_open = λ n was. shows_far shut f l (closed u.settings) (dormant u.settings) shut_there as_left n (subst (λ (s : State). IsOpen n f s) settles was);
      })
