-- WHAT AN END SENDS: the next unit of a link in service is the law's, and joins the line, so the tie is kept (`sends`).
-- What was overtaken is discarded first: in the law's world it's taken back (`cleared_tied`). Then the control chooses
-- as the law does, since its window holds the numbers of the rows, and moves as the rows do (`window_is`); the unit
-- carries the body of the row that was chosen (`told`); and what was first sent is what the unacknowledged rows gained
-- (`gained`). Case by case on the choice; the inductions are on lists. Used by Moving.antt, Hearing.antt and Kept.antt,
-- and by pair_changeover's Overtaken.antt and Acked.antt.
use Rattle.std.proofs.Common.{refl, arith, ◌≡◌, ◌∙◌, ap, sym, subst, ℕ, zero, suc, ◌<◌, Bool, List, [], ◌∷◌, ◌++◌, length, map, drop, slice_get, Option, Some, None, filter}
use Rattle.std.proofs.lemmas.List.{map-append, length-map}
use Rattle.std.proofs.lemmas.Option.{slice_get-map}
use Rattle.std.specs.Option.{option_map}
use Rattle.l2_units.specs.declared.unit.Header.{Header}
use Rattle.l2_units.specs.declared.unit.Unit.{Unit as SignalUnit}
use Rattle.l2_window.specs.Link.{World as LinkWorld, Run, steps, emits, Emits, Moves, message_of}
use Rattle.l2_window.specs.Window.{WindowState}
use Rattle.set_events.specs.declared.answer.Answer.TheVariants.{Sent}
use Rattle.set_events.specs.declared.config.Method.{Method}
use Rattle.set_events.specs.declared.event.Event.TheVariants.{Next}
use Rattle.set_model.specs.declared.phase.Phase.TheVariants.{Up}
use Rattle.set_model.specs.Control.{Control, Choice, again, first, fill, start_of, choice_of, head_of, control_after, fsn_of}
use Rattle.set_model.specs.Frame.{window_after}
use Rattle.set_model.specs.Changeover.{cleared, is_overtaken, leading}
use Rattle.set_model.specs.Rows.{Row, is_users, body_at, owner_at, numbers, octets_in, is_unacked, is_waiting, unack, wait, IsNumbered}
use Rattle.set_model.specs.Sound.{IsSound}
use Rattle.set_model.specs.State.{all_finished, given, LinkState, State, has_phase_settled, window_of}
use Rattle.set_model.specs.Step.{Outcome, next, chosen, unit_of, step}
use Rattle.set_model.proofs.Events.{sent_by, withdrawn_rows, withdrawn_unack, withdrawn_wait}
use Rattle.set_model.proofs.SoundLink.{first_chosen, withdraws}
use Rattle.set_model.proofs.Framing.{window_moves, numbers-drop}
use Rattle.set_model.proofs.Lists.{get_set_same, within, same_at}
use Rattle.set_model.proofs.Rows.{numbered_on, row_in_filter}
use Rattle.set_model.proofs.Walk.{IsAt}
use Rattle.pair_model.specs.Run.{Message, messages, first_sent}
use Rattle.pair_model.proofs.Controls.{rules}
use Rattle.pair_model.proofs.Tied.{StandIn, IsUnitOf, KeepBodies, keeps_same, stand_kept, bodies_kept, units_kept, stand_joined, units_joined, Side, IsGoing, Ties, Tied, withdraws as withdraws_tied}

-- Rows that are there stand there with their bodies.
pub body_there : (given : ℕ) (p : Row → Bool) (rows : List Row) (i : ℕ) (row : Row) → IsNumbered given rows
    → slice_get (filter p rows) i ≡ Some row → body_at row.number rows ≡ Some row.body
body_there given p rows i row numbered e = ap (option_map (λ (r : Row). r.body)) (row_in_filter given p rows i row.number row numbered e refl)

-- and their owners
pub row_there : (given : ℕ) (p : Row → Bool) (rows : List Row) (i : ℕ) (row : Row) → IsNumbered given rows → slice_get (filter p rows) i ≡ Some row
    → (body_at row.number rows ≡ Some row.body) × (owner_at row.number rows ≡ Some row.users)
row_there given p rows i row numbered e =
    (body_there given p rows i row numbered e, ap (option_map is_users) (row_in_filter given p rows i row.number row numbered e refl))

pub stand_each : (rows ys : List Row) → ((i : ℕ) (row : Row) → slice_get ys i ≡ Some row
    → (body_at row.number rows ≡ Some row.body) × (owner_at row.number rows ≡ Some row.users)) → StandIn rows (messages ys)
stand_each rows [] all = tt
stand_each rows (y ∷ ys) all = (all 0 y refl, stand_each rows ys (λ i row e. all (suc i) row e))

stand_dropped : (rows : List Row) (n : ℕ) (ys : List Row) → StandIn rows (messages ys) → StandIn rows (messages (drop n ys))
stand_dropped rows zero ys stand = stand
stand_dropped rows (suc n) [] stand = stand
stand_dropped rows (suc n) (y ∷ ys) stand = stand_dropped rows n ys stand.1

pub numbers_of_messages : (rows : List Row) → map (λ (m : Message). m.number) (messages rows) ≡ numbers rows
numbers_of_messages [] = refl
numbers_of_messages (row ∷ rows) = ap (λ (ns : List ℕ). row.number ∷ ns) (numbers_of_messages rows)

-- how the window moves
first_moves : (w : WindowState) (unsent : List ℕ) → w.unsent ≡ unsent → 0 < length unsent → Moves first w (window_after first w)
first_moves w [] e some = absurd (omega arith)
first_moves w (message ∷ rest) e some = (message, record { profile = refl; last = refl; unacked = rw e refl; unsent = rw e refl; room = omega arith })

moves_so : (choice : Choice) (w : WindowState) → (choice ≡ first → 0 < length w.unsent) → Moves choice w (window_after choice w)
moves_so (again place) w some = refl
moves_so first w some = first_moves w w.unsent refl (some refl)
moves_so fill w some = refl

-- the unit that tells the chosen row
told_at : (given : ℕ) (p : Row → Bool) (rows new : List Row) (i : ℕ) (head : Header) → IsNumbered given rows
    → KeepBodies rows new → IsUnitOf new (record { head = head; message = slice_get (numbers (filter p rows)) i })
    (unit_of (slice_get (filter p rows) i) head)
told_at given p rows new i head numbered keep = go (slice_get (filter p rows) i) refl
  where
    go : (o : Option Row) → slice_get (filter p rows) i ≡ o
        → IsUnitOf new (record { head = head; message = slice_get (numbers (filter p rows)) i }) (unit_of o head)
    go None e = (refl, slice_get-map (λ (r : Row). r.number) (filter p rows) i ∙ ap (option_map (λ (r : Row). r.number)) e)
    go (Some row) e = (
      row.number,
      refl,
      slice_get-map (λ (r : Row). r.number) (filter p rows) i
          ∙ ap (option_map (λ (r : Row). r.number)) e,
      keep.bodies row.number row.body (body_there given p rows i row numbered e),
    )

told : (given l : ℕ) (link : LinkState) (rows new : List Row) (choice : Choice) (head : Header) → IsNumbered given rows
    → KeepBodies rows new → IsUnitOf new (record { head = head; message = message_of choice (window_of l link rows) })
    (unit_of (chosen choice l rows) head)
told given l link rows new (again place) head numbered keep = told_at given (λ row. is_unacked l row.fate) rows new place head numbered keep
told given l link rows new first head numbered keep = told_at given (λ row. is_waiting l row.fate) rows new 0 head numbered keep
told given l link rows new fill head numbered keep = (refl, refl)

-- WHAT WAS OVERTAKEN is discarded first.
pub next_is : (l : ℕ) (link : LinkState) (s : State) → IsAt l link Up s → step s (Next l) ≡ next l (cleared l s) link
unfolding step
next_is l link s at = rw (at.there, at.phase_is) refl

-- how many are
abbrev pub overtaken : ℕ → State → ℕ
overtaken l s = leading (is_overtaken s) (wait l s.rows)

pub cleared_at : (l : ℕ) (link : LinkState) (s : State) → IsAt l link Up s → IsAt l link Up (cleared l s)
cleared_at l link s at = record { there = at.there; phase_is = at.phase_is }

pub cleared_sound : (l : ℕ) (link : LinkState) (s : State) → IsAt l link Up s → IsSound s → IsSound (cleared l s)
cleared_sound l link s at sound = withdraws (overtaken l s) l link s at (withdrawn_rows (overtaken l s) l s.rows) sound

pub cleared_keeps : (l : ℕ) (s : State) → IsNumbered (given s) s.rows → KeepBodies s.rows (cleared l s).rows
cleared_keeps l s numbered =
    let kept = (withdrawn_rows (overtaken l s) l s.rows).kept in
    keeps_same s.rows (cleared l s).rows (kept.bodies (given s) numbered) (kept.owners (given s) numbered)

-- no message is sent by that
pub cleared_sends : (l : ℕ) (s t : State) → first_sent l (cleared l s) t ≡ first_sent l s t
cleared_sends l s t = ap (λ (sent : List Row). messages (drop (length sent) (unack l t.rows))) (withdrawn_unack (overtaken l s) l s.rows)

pub cleared_tied : (l : ℕ) (mx my : Method) (x y : Side) (out back : List SignalUnit)
    → IsNumbered (given x.state) x.state.rows → Tied l mx my x y out back
    → Tied l mx my (record x { state = cleared l x.state }) y out back
cleared_tied l mx my x y out back numbered t =
    let n = overtaken l x.state in
    withdraws_tied l mx my x y out back (cleared l x.state) (cleared_keeps l x.state numbered) (λ link there. (link, there, refl)) n refl
    (withdrawn_unack n l x.state.rows) (withdrawn_wait n l x.state.rows) t

-- the law's world with the end as it stands
abbrev pub standing_at : (l : ℕ) (link : LinkState) (rows : List Row) → LinkWorld Control → LinkWorld Control
standing_at l link rows w = record w { near = record w.near { control = link.control; window = window_of l link rows; acked = link.acked } }

pub stands_so : (l : ℕ) (link : LinkState) (rows : List Row) (w : LinkWorld Control) → IsGoing l w.near link rows → w ≡ standing_at l link rows w
stands_so l link rows w g = rw (← g.window, ← g.control, ← g.acked) refl

module _ (l : ℕ) (mx my : Method) (x y : Side) (out back : List SignalUnit) (link : LinkState) (sound : IsSound x.state) (at : IsAt l link Up x.state) where
  abbrev rows : List Row
  rows = x.state.rows

  abbrev octets : ℕ
  octets = octets_in (unack l rows)

  abbrev window : WindowState
  window = window_of l link rows

  abbrev choice : Choice
  choice = choice_of octets link.control window

  abbrev pub unit : SignalUnit
  unit = unit_of (chosen choice l rows) (head_of link.control window (fsn_of choice window))

  abbrev after : State
  after = (next l x.state link).state

  abbrev sent_link : LinkState
  sent_link = record link { control = control_after choice octets link.control window }

  kept : KeepBodies rows after.rows
  kept =
      let same = (sent_by choice l rows).kept in
      keeps_same rows after.rows (same.bodies (given x.state) sound.numbered) (same.owners (given x.state) sound.numbered)

  numbered_after : IsNumbered (given after) after.rows
  numbered_after = numbered_on (all_finished x.state.finished) rows after.rows (sent_by choice l rows).kept.count
      ((sent_by choice l rows).kept.numbered (given x.state) sound.numbered)

  -- the link then
  sent_there : slice_get after.links l ≡ Some sent_link
  sent_there = get_set_same x.state.links l sent_link (within x.state.links l link at.there)

  window_is : window_of l sent_link after.rows ≡ window_after choice window
  window_is =
      let m = (window_moves l link x.state sound at.there at.phase_is).sent in
      let same : m.0 ≡ sent_link = same_at after.links l sent_link m.0 sent_there m.1 in
      subst (λ (k : LinkState). window_of l k after.rows ≡ window_after choice window) same m.3

  -- the law's world then
  abbrev emitted : LinkWorld Control → LinkWorld Control
  emitted w = record w {
    near = record w.near {
      control = control_after choice octets link.control window;
      window = window_after choice window;
      sent = w.near.sent ++ drop (length window.unacked) (window_after choice window).unacked;
      acked = link.acked;
    };
    out = w.out ++ record { head = head_of link.control window (fsn_of choice window); message = message_of choice window } ∷ [];
  }

  emission : (w : LinkWorld Control) → Emits rules octets (standing_at l link rows w) (emitted w)
  emission w = record {
    control = refl;
    window = moves_so choice window (λ e. (first_chosen octets link.control window e).0);
    sent = refl;
    took = refl;
    acked = refl;
    far = refl;
    out = refl;
    back = refl;
  }

  -- what was first sent is what the unacknowledged rows gained
  gained : drop (length window.unacked) (window_after choice window).unacked ≡ map (λ (m : Message). m.number) (first_sent l x.state after)
  gained =
      ap (λ (n : ℕ). drop n (window_after choice window).unacked) (length-map (unack l rows) (λ (r : Row). r.number))
      ∙ ap (λ (v : WindowState). drop (length (unack l rows)) v.unacked) (sym window_is)
      ∙ sym (numbers-drop (length (unack l rows)) (unack l after.rows))
      ∙ sym (numbers_of_messages (drop (length (unack l rows)) (unack l after.rows)))

  abbrev pub sender : Side
  sender = record { state = after; sent = x.sent ++ first_sent l x.state after; taken = x.taken }

  emitted_ties : (w : LinkWorld Control) → Ties l w x y out back → Ties l (emitted w) sender y (out ++ unit ∷ []) back
  emitted_ties w t = record {
    near = record {
      sent_is = ap (λ (ns : List ℕ). ns ++ drop (length window.unacked) (window_after choice window).unacked) t.near.sent_is
          ∙ ap (λ (ns : List ℕ). map (λ (m : Message). m.number) x.sent ++ ns) gained
          ∙ sym (map-append (λ (m : Message). m.number) x.sent (first_sent l x.state after));
      stand = stand_joined after.rows x.sent (first_sent l x.state after)
          (stand_kept rows after.rows kept x.sent t.near.stand)
          (stand_dropped after.rows (length (unack l rows)) (unack l after.rows)
          (stand_each after.rows (unack l after.rows)
          (λ i row e. row_there (given after) (λ r. is_unacked l r.fate) after.rows i row numbered_after e)));
      took_is = t.near.took_is;
    };
    far = record { sent_is = t.far.sent_is; stand = t.far.stand; took_is = bodies_kept rows after.rows kept w.far.took y.taken t.far.took_is };
    near_goes = λ other found unsettled.
        let same : sent_link ≡ other = sym (same_at after.links l sent_link other sent_there found) in
        subst (λ (k : LinkState). IsGoing l (emitted w).near k after.rows) same (record { control = refl; window = sym window_is; acked = refl });
    far_goes = t.far_goes;
    near_counts = λ other found. ap (λ (k : LinkState). k.accepted) (same_at after.links l sent_link other sent_there found) ∙ t.near_counts link at.there;
    far_counts = t.far_counts;
    out = units_joined after.rows w.out _ out (unit ∷ []) (units_kept rows after.rows kept w.out out t.out)
        (told (given x.state) l link rows after.rows choice _ sound.numbered kept, tt);
    back = t.back;
  }

  -- an end that sends
  pub sends : Tied l mx my x y out back → Tied l mx my sender y (out ++ unit ∷ []) back
  sends t =
      let w = t.world in
      let g = t.ties.near_goes link at.there (ap has_phase_settled at.phase_is) in
      let at_link = subst (λ (v : LinkWorld Control). Run rules t.profile (start_of mx) (start_of my) v) (stands_so l link rows w g) t.run in
      record {
        profile = t.profile;
        world = emitted w;
        run = steps (standing_at l link rows w) (emitted w) at_link
            (emits (standing_at l link rows w) (emitted w) octets (emission w));
        ties = emitted_ties w t.ties;
      }

-- what a link in service answers
pub sent_answer : (l : ℕ) (link : LinkState) (s : State) → IsAt l link Up s → (unit : SignalUnit) × ((step s (Next l)).answer ≡ Sent unit)
sent_answer l link s at = (_, ap (λ (o : Outcome). o.answer) (next_is l link s at))
