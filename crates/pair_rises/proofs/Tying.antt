-- THE TIE OF A LINK THAT COMES UP AT ONE END. Under its veil the link of the other end stands in the law's world at its
-- beginning (`resting_goes`), and so the two begin a world of the law (`first_tied`). When that end comes up, what was
-- parked is offered there (`joins_tied`); before it does it may send fill-in units, which change nothing of it
-- (`fills_tied`).
use Rattle.std.proofs.Common.{refl, ◌≡◌, ◌∙◌, ap, sym, subst, ℕ, List, [], ◌∷◌, ◌++◌, length, slice_get, Some, None}
use Rattle.std.proofs.lemmas.List.{append-nil}
use Rattle.l2_units.specs.declared.profile.Profile.{Profile}
use Rattle.l2_units.specs.declared.unit.Unit.{Unit as SignalUnit}
use Rattle.l2_window.proofs.Numbers.{from_zero}
use Rattle.l2_window.specs.Line.{Carried}
use Rattle.l2_window.specs.Link.{End as LinkEnd, World as LinkWorld, Run, Begins, steps, emits, Emits}
use Rattle.l2_window.specs.Window.{WindowState}
use Rattle.set_events.specs.declared.config.Method.{Method}
use Rattle.set_events.specs.declared.config.Method.TheVariants.{Basic, Cyclic}
use Rattle.set_events.specs.declared.event.Event.TheVariants.{Up as UpEvent}
use Rattle.set_model.specs.declared.phase.Phase.TheVariants.{Settled}
use Rattle.set_model.specs.Control.{Control, start_of, head_of, fsn_of, fill}
use Rattle.set_model.specs.Rows.{Row, numbers}
use Rattle.set_model.specs.Sound.{IsSound}
use Rattle.set_model.specs.State.{LinkState, State, window_of}
use Rattle.set_model.specs.Step.{step}
use Rattle.set_model.proofs.Lists.{get_set_same, within, same_at}
use Rattle.set_model.proofs.Settling.{settled_empty}
use Rattle.set_model.proofs.Walk.{IsAt}
use Rattle.set_veiled.specs.Veil.{dormant, veil}
use Rattle.pair_model.specs.Run.{Message}
use Rattle.pair_model.proofs.Controls.{rules}
use Rattle.pair_model.proofs.Rising.{fresh, fresh_begins, fresh_goes, fresh_counts, new_side, rises_tied}
use Rattle.pair_model.proofs.Tied.{Side, IsGoing, Goes, Counts, KeepBodies, Tied, IsUnitOf, units_joined, pushed, same_window, stand_kept, bodies_kept, units_kept, push_all}
use Rattle.pair_rises.specs.Rises.{first_window, idle_unit}

-- an end at its beginning
abbrev pub resting : Profile → Method → LinkEnd Control
resting q m = record { control = start_of m; window = first_window q; sent = []; took = []; acked = 0 }

resting_begins : (q : Profile) (m : Method) → Begins rules q (start_of m) (resting q m)
resting_begins q m = record { control = refl; profile_is = refl; last = refl; unacked = refl; sent = refl; took = refl; acked = refl }

-- a settled link, and it under its veil
module _ (k : ℕ) (s : State) (sound : IsSound s) (link : LinkState) (at : IsAt k link Settled s) where
  abbrev pub seen : State
  seen = veil (dormant s.settings) k s

  pub seen_there : slice_get seen.links k ≡ Some (dormant s.settings)
  seen_there = get_set_same s.links k (dormant s.settings) (within s.links k link at.there)

  pub seen_window : window_of k (dormant s.settings) s.rows ≡ first_window s.settings.profile
  seen_window =
      let none = settled_empty s k link sound at.there at.phase_is in
      same_window refl (sym (from_zero s.settings.profile)) (ap numbers none.unack_none) (ap numbers none.wait_none)

  goes_here : Goes k (resting s.settings.profile s.settings.method) seen
  goes_here other found unsettled =
      let same : dormant s.settings ≡ other = sym (same_at seen.links k (dormant s.settings) other seen_there found) in
      subst (λ (l : LinkState). IsGoing k (resting s.settings.profile s.settings.method) l s.rows) same
      (record { control = refl; window = sym seen_window; acked = refl })

  pub resting_goes : (q : Profile) (m : Method) → s.settings.profile ≡ q → s.settings.method ≡ m → Goes k (resting q m) seen
  resting_goes q m profile method =
      subst (λ (n : Method). Goes k (resting q n) seen) method (subst (λ (r : Profile). Goes k (resting r s.settings.method) seen) profile goes_here)

  pub resting_counts : Counts k seen []
  resting_counts other found = ap (λ (l : LinkState). l.accepted) (same_at seen.links k (dormant s.settings) other seen_there found)

  -- what its end of the law's world is
  module _ (mx my : Method) (sent : List Message) (taken : List (List ℕ)) (y : Side) (out back : List SignalUnit)
      (t : Tied k mx my (record { state = seen; sent = sent; taken = taken }) y out back) where
    pub rests : IsGoing k t.world.near (dormant s.settings) s.rows
    rests = t.ties.near_goes (dormant s.settings) seen_there refl

    pub rests_window : t.world.near.window ≡ first_window s.settings.profile
    rests_window = rests.window ∙ seen_window

    pub none_taken : 0 ≡ length taken
    none_taken = t.ties.near_counts (dormant s.settings) seen_there

-- THE FIRST
pub first_tied : (k : ℕ) (q : Profile) (mx my : Method) (s f : State) (sound : IsSound s) (far_sound : IsSound f)
    → s.settings.profile ≡ q → s.settings.method ≡ mx → f.settings.profile ≡ q → f.settings.method ≡ my
    → (link far : LinkState) → IsAt k link Settled s → IsAt k far Settled f
    → Tied k mx my (new_side (step s (UpEvent k)).state) (new_side (veil (dormant f.settings) k f)) [] []
first_tied k q mx my s f sound far_sound profile method far_profile far_method link far at far_at =
    rises_tied q k mx my (step s (UpEvent k)).state (seen k f far_sound far far_at)
    (fresh k q mx s sound profile method link at) (resting q my)
    (fresh_begins k q mx s sound profile method link at) (resting_begins q my) refl refl refl refl
    (fresh_goes k q mx s sound profile method link at)
    (resting_goes k f far_sound far far_at q my far_profile far_method)
    (fresh_counts k q mx s sound profile method link at) (resting_counts k f far_sound far far_at)

-- THE SECOND
module _ (k : ℕ) (mx my : Method) (s : State) (sound : IsSound s) (method : s.settings.method ≡ mx) (link : LinkState)
    (at : IsAt k link Settled s) (sent : List Message) (taken : List (List ℕ)) (y : Side) (out back : List SignalUnit)
    (t : Tied k mx my (record { state = seen k s sound link at; sent = sent; taken = taken }) y out back) where
  abbrev then : State
  then = (step s (UpEvent k)).state

  abbrev start : LinkEnd Control
  start = fresh k s.settings.profile mx s sound refl method link at

  abbrev more : List ℕ
  more = start.window.unsent

  going : IsGoing k t.world.near (dormant s.settings) s.rows
  going = rests k s sound link at mx my sent taken y out back t

  control_is : t.world.near.control ≡ start_of mx
  control_is = going.control ∙ ap start_of method

  window_first : t.world.near.window ≡ first_window s.settings.profile
  window_first = rests_window k s sound link at mx my sent taken y out back t

  window_is : (pushed more t.world).near.window ≡ start.window
  window_is =
      let begun = fresh_begins k s.settings.profile mx s sound refl method link at in
      ap (λ (v : WindowState). record v { unsent = v.unsent ++ more }) window_first
      ∙ same_window refl (sym begun.last) (sym begun.unacked) refl

  pub joins_tied : KeepBodies s.rows then.rows → Tied k mx my (record { state = then; sent = sent; taken = taken }) y out back
  joins_tied keep = record {
    profile = t.profile;
    world = pushed more t.world;
    run = push_all t.profile (start_of mx) (start_of my) more t.world t.run;
    ties = record {
      near = record {
        sent_is = t.ties.near.sent_is;
        stand = stand_kept s.rows then.rows keep sent t.ties.near.stand;
        took_is = t.ties.near.took_is;
      };
      far = record {
        sent_is = t.ties.far.sent_is;
        stand = t.ties.far.stand;
        took_is = bodies_kept s.rows then.rows keep t.world.far.took y.taken t.ties.far.took_is;
      };
      near_goes = λ other found unsettled.
          let g = fresh_goes k s.settings.profile mx s sound refl method link at other found unsettled in
          record { control = control_is ∙ g.control; window = window_is ∙ g.window; acked = going.acked ∙ g.acked };
      far_goes = t.ties.far_goes;
      near_counts = λ other found.
          fresh_counts k s.settings.profile mx s sound refl method link at other found
          ∙ none_taken k s sound link at mx my sent taken y out back t;
      far_counts = t.ties.far_counts;
      out = units_kept s.rows then.rows keep t.world.out out t.ties.out;
      back = t.ties.back;
    };
  }

-- FILLING
idle_carried : Profile → Method → Carried
idle_carried q m = record { head = head_of (start_of m) (first_window q) (fsn_of fill (first_window q)); message = None }

abbrev at_beginning : Profile → Method → LinkWorld Control → LinkWorld Control
at_beginning q m w = record w { near = record w.near { control = start_of m; window = first_window q; acked = 0 } }

abbrev filled : Profile → Method → LinkWorld Control → LinkWorld Control
filled q m w = record (at_beginning q m w) { out = w.out ++ idle_carried q m ∷ [] }

filling : (q : Profile) (m : Method) (w : LinkWorld Control) → Emits rules 0 (at_beginning q m w) (filled q m w)
unfolding idle_carried
filling q Basic w = record {
  control = refl;
  window = refl;
  sent = sym (append-nil w.near.sent);
  took = refl;
  acked = refl;
  far = refl;
  out = refl;
  back = refl;
}
filling q (Cyclic n1 n2) w = record {
  control = refl;
  window = refl;
  sent = sym (append-nil w.near.sent);
  took = refl;
  acked = refl;
  far = refl;
  out = refl;
  back = refl;
}

is_idle : (rows : List Row) (q : Profile) (m : Method) → IsUnitOf rows (idle_carried q m) (idle_unit q m)
unfolding idle_carried
is_idle rows q m = (refl, refl)

module _ (k : ℕ) (mx my : Method) (s : State) (sound : IsSound s) (method : s.settings.method ≡ mx) (link : LinkState)
    (at : IsAt k link Settled s) (sent : List Message) (taken : List (List ℕ)) (y : Side) (out back : List SignalUnit)
    (t : Tied k mx my (record { state = seen k s sound link at; sent = sent; taken = taken }) y out back) where
  control_so : t.world.near.control ≡ start_of mx
  control_so = (rests k s sound link at mx my sent taken y out back t).control ∙ ap start_of method

  window_so : t.world.near.window ≡ first_window s.settings.profile
  window_so = rests_window k s sound link at mx my sent taken y out back t

  acked_so : t.world.near.acked ≡ 0
  acked_so = (rests k s sound link at mx my sent taken y out back t).acked

  there_so : t.world ≡ at_beginning s.settings.profile mx t.world
  there_so = rw (← window_so, ← control_so, ← acked_so) refl

  pub fills_tied : Tied k mx my (record { state = seen k s sound link at; sent = sent; taken = taken }) y (out ++ idle_unit s.settings.profile mx ∷ []) back
  fills_tied =
      let q = s.settings.profile in
      let w = t.world in
      let run = subst (λ (v : LinkWorld Control). Run rules t.profile (start_of mx) (start_of my) v) there_so t.run in
      record {
        profile = t.profile;
        world = filled q mx w;
        run = steps (at_beginning q mx w) (filled q mx w) run (emits (at_beginning q mx w) (filled q mx w) 0 (filling q mx w));
        ties = record {
          near = record { sent_is = t.ties.near.sent_is; stand = t.ties.near.stand; took_is = t.ties.near.took_is };
          far = t.ties.far;
          near_goes = λ other found unsettled.
              let g = t.ties.near_goes other found unsettled in
              record { control = sym control_so ∙ g.control; window = sym window_so ∙ g.window; acked = sym acked_so ∙ g.acked };
          far_goes = t.ties.far_goes;
          near_counts = t.ties.near_counts;
          far_counts = t.ties.far_counts;
          out = units_joined s.rows w.out (idle_carried q mx ∷ []) out (idle_unit q mx ∷ []) t.ties.out (is_idle s.rows q mx, tt);
          back = t.ties.back;
        };
      }
