-- WHAT AN EVENT LEAVES ALONE, and how it moves the window of its own link. `leaves_alone` answers
-- an_event_leaves_the_rest_alone (src/laws.rt): a link that isn't concerned has the messages that it had, and more
-- behind them. It's a walk of small changes (`step_walks`, Walk.antt): each is of another link, or lets rows come last
-- (`alone_moved`, `alone_appended`). `window_moves` answers a_window_moves_as_its_control: the numbers move as
-- Events.antt says of the rows, and a processed unit's BSN is the number last acknowledged then (`last_heard`, modulo
-- the FSNs). No induction. Soundness.antt uses it, and pair_model's Following.antt, Sending.antt and Hearing.antt.
use Rattle.std.proofs.Common.{arith, refl, ◌≡◌, ◌∙◌, sym, subst, ℕ, Bool, true, false, List, [], ◌∷◌, ◌++◌, map, drop, slice_get, Option, Some, append_assoc, inl, None, ap, take}
use Rattle.std.proofs.lemmas.Bool.{eqb-false}
use Rattle.std.proofs.lemmas.Bool.Decides.{nat_tests}
use Rattle.std.proofs.lemmas.List.Elements.{filter-append}
use Rattle.std.proofs.lemmas.List.{append-nil, drop-map, take-map}
use Rattle.l3_orders.specs.Grammar.{order_of, link_of, text}
use Rattle.set_route.specs.Routing.{Routing}
use Rattle.std.specs.Prelude.{◌+◌, ◌-◌, ◌%◌, ◌<◌, if◌then◌else◌}
use Rattle.l2_units.specs.declared.profile.Profile.{Profile}
use Rattle.l2_units.specs.Grammar.{head_of as header_in}
use Rattle.l2_window.specs.Window.{WindowState, fsn_count, fsn_before_first}
use Rattle.l2_window.proofs.Numbers.{acked_is}
use Rattle.set_model.specs.Step.{SignalUnit, Fisu, Lssu, Msu, Event, UpEvent, opened, risen, step, brought, rows_sent, takes, is_heard, is_msu, part_in}
use Rattle.set_model.specs.Changeover.{Order, fate_on, queued}
use Rattle.set_model.specs.Control.{Choice, Control, Basic, Cyclic, Header, part_of, acked_by, is_processed}
use Rattle.set_model.specs.Frame.{behind, BringsAbout, Concerns, LeavesAlone, MovesAsItsControl, window_after}
use Rattle.set_model.specs.Rows.{Fate, Waiting, Unacked, IsInOrder, Row, all_with, appended, fated, held, is_held, is_on, is_parked, is_unacked, is_waiting, moved, numbers, standing, unack, wait}
use Rattle.set_model.specs.Sound.{BeginsNone, IsSound}
use Rattle.set_model.specs.State.{Up, Settled, LinkState, State, given, is_open, link_is_open, target, window_of}
use Rattle.set_model.proofs.Events.{ChangesOn, TakenBack, Untouched, untouched, sent, acknowledged, appended_out, numbers_joined}
use Rattle.set_model.proofs.Rows.{fated_none, new_row, moved_same, moved_more}
use Rattle.set_model.proofs.Lists.{get_set_same, get_set_other, within, target_off}
use Rattle.set_model.proofs.Places.{apart, apart_back, on_other, not_on_waiting, back_not_on, home_back, code_back}
use Rattle.set_model.proofs.Staying.{offered_out, not_sent}
use Rattle.set_model.proofs.SoundBack.{open_not_held, shut_not_waiting, alternative_open}
use Rattle.set_model.proofs.Walk.{IsAt, KeptBy, step_walks}
use Rattle.set_model.proofs.Ahead.{gains_then, put_apart, put_gains}

-- ALONE: a link has the messages that it had, with orders among those that wait, and more behind them.
alone_more : (n : ℕ) (s t : State) (come : List Row) → t.settings ≡ s.settings → slice_get t.links n ≡ slice_get s.links n
    → unack n t.rows ≡ unack n s.rows → wait n t.rows ≡ wait n s.rows ++ wait n come
    → held n t.rows ≡ held n s.rows ++ held n come → (is_open n s ≡ false → wait n come ≡ [])
    → (is_open n s ≡ true → held n come ≡ []) → LeavesAlone n s t
alone_more n s t come settings link sent waits holds no_wait no_held =
    record {
      settings_same = settings;
      link_same = link;
      unack_same = sent;
      waits = behind (wait n s.rows) (wait n t.rows) (wait n come) waits;
      none_waits = λ e. waits ∙ ap (λ (xs : List Row). wait n s.rows ++ xs) (no_wait e) ∙ append-nil (wait n s.rows);
      later = held n come;
      held_later = holds;
      none_later = no_held;
    }

-- a new message comes to wait for the link, or to be held for it
alone_appended : (n : ℕ) (body : List ℕ) (fate : Fate) (s : State) (routing : Routing) → is_unacked n fate ≡ false
    → (is_open n s ≡ false → is_waiting n fate ≡ false) → (is_open n s ≡ true → is_held n fate ≡ false)
    → LeavesAlone n s (record s { rows = appended (given s) s.rows body fate; routing = routing })
alone_appended n body fate s routing unsent waits holds =
    alone_more n s _ (new_row (given s) body fate ∷ []) refl refl
    (appended_out (given s) s.rows body fate (is_unacked n) unsent) (grind (arith, filter-append))
    (grind (arith, filter-append)) (λ e. grind (arith, waits)) (λ e. grind (arith, holds))

-- an order comes to wait for the link
alone_queued : (n : ℕ) (order : Order) (s : State) → (is_open n s ≡ false → is_waiting n (fate_on (target s.links)) ≡ false) → LeavesAlone n s (queued order s)
alone_queued n order s waits =
    let body = text s.settings.profile order s.settings.sio s.settings.dpc s.settings.opc in
    let fate = fate_on (target s.links) in
    record {
      settings_same = refl;
      link_same = refl;
      unack_same = put_apart (given s) s.rows body fate (is_unacked n) (not_sent n (target s.links));
      waits = put_gains n (given s) s.rows body fate;
      none_waits = λ down. put_apart (given s) s.rows body fate (is_waiting n) (waits down);
      later = [];
      held_later = put_apart (given s) s.rows body fate (is_held n) (grind arith) ∙ sym (append-nil (held n s.rows));
      none_later = λ up. refl;
    }

-- rows of other places that move come to wait for the link, or to be held for it
alone_moved : (n : ℕ) (test : Fate → Bool) (fate : Row → Fate) (s : State) (links : List LinkState) (routing : Routing)
    → slice_get links n ≡ slice_get s.links n → ((f : Fate) → test f ≡ true → is_on n f ≡ false)
    → ((x : Row) → is_unacked n (fate x) ≡ false)
    → (link_is_open (slice_get links n) ≡ false → (x : Row) → is_waiting n (fate x) ≡ false)
    → (link_is_open (slice_get links n) ≡ true → (x : Row) → is_held n (fate x) ≡ false)
    → LeavesAlone n s (record s { links = links; rows = moved test fate s.rows; routing = routing })
alone_moved n test fate s links routing same off unsent waits holds =
    alone_more n s _ (map (fated fate) (standing test s.rows)) refl same (grind (arith, moved_same))
    (grind (arith, moved_more)) (grind (arith, moved_more)) (λ e. grind (arith, fated_none, waits))
    (λ e. grind (arith, fated_none, holds))

not_so : (b : Bool) → (b ≡ true → ⊥) → b ≡ false
not_so true h = absurd (h refl)
not_so false h = refl

pub leaves_alone : (n : ℕ) (s : State) (event : Event) → (Concerns event n s → ⊥) → LeavesAlone n s (step s event).state
leaves_alone n s event free =
    let alone_by = λ (s t : State) (settings : t.settings ≡ s.settings) (links : slice_get t.links n ≡ slice_get s.links n) (u : Untouched n s.rows t.rows).
    alone_more n s t [] settings links u.unack_same (grind (arith, append-nil, u)) (grind (arith, append-nil, u)) (λ e. refl)
    (λ e. refl) in
    let alone_then : (a b c : State) → LeavesAlone n a b → LeavesAlone n b c
    → LeavesAlone n a c = λ a b c p q.
    record {
      settings_same = q.settings_same ∙ p.settings_same;
      link_same = grind arith;
      unack_same = grind arith;
      waits = gains_then _ _ _ p.waits q.waits;
      none_waits = λ e. grind arith;
      later = p.later ++ q.later;
      held_later = grind (arith, append_assoc);
      none_later = λ e. grind arith;
    } in
    let off = λ (m : ℕ) (known : Concerns event m s). apart m n (λ same. free (subst (λ (k : ℕ). Concerns event k s) same known)) in
    let concerned = λ (by : Event) (m : ℕ) (u : State) (e : event ≡ by) (known : Concerns by m u). subst (λ (v : Event). Concerns v m u) (sym e) known in
    -- what waits for a link that is open waits for no other
    let open_waits : (to m : ℕ) (u : State) → is_open to u ≡ true → is_open m u ≡ false
    → is_waiting m (Waiting to) ≡ false = λ to m u up down. grind (arith, nat_tests) in
    let off_waits = λ (links new : List LinkState) (same : slice_get new n ≡ slice_get links n)
    (down : link_is_open (slice_get new n) ≡ false). not_on_waiting n (fate_on (target links))
    (target_off links n (rw same at down)) in
    let target_unheld : (to : Option ℕ) → is_held n (fate_on to) ≡ false = λ to. grind arith in
    let apart_from = λ (m : ℕ) (rows new : List Row) (g : ChangesOn m rows new). g.others in
    let comes_up : (m : ℕ) (link : LinkState) → event ≡ UpEvent m → IsAt m link Settled s → LeavesAlone n s (risen m s) =
    λ m link e at. alone_by s (risen m s) refl
    (get_set_other s.links m n _ (λ same. free (concerned (UpEvent m) n s e same))) (untouched n s.rows s.rows refl) in
    -- an order that is taken back waited for a link that is concerned
    let back_apart = λ (from : Fate) (rows new : List Row) (g : TakenBack from rows new). g.others n in
    let opens : (m : ℕ) (link : LinkState) (u : State) → Concerns event m s → IsAt m link Up u → LeavesAlone n u (opened m link u) =
    λ m link u known at. let apart_is = off m known in alone_moved n is_parked (all_with (Waiting m)) u _ _
    (get_set_other u.links m n _ (λ same. free (subst (λ (k : ℕ). Concerns event k s) same known)))
    (λ f e. grind arith) (λ x. refl) (λ e x. grind (arith, nat_tests, apart_is)) (λ e x. refl) in
    let off_from = λ (from : Fate) (all : (m : ℕ) → is_waiting m from ≡ true → Concerns event m s). not_so (is_waiting n from) (λ e. free (all n e)) in
    let small : KeptBy (λ m. Concerns event m s) (BeginsNone event → ⊥) (LeavesAlone n) =
    (search (
      apart_from,
      opens,
      back_apart,
      off_from,
      open_waits,
      alternative_open,
      alone_moved,
      back_not_on,
      code_back,
      home_back,
      on_other,
      apart_back,
      not_sent,
      off_waits,
      target_unheld,
      alone_then,
      alone_by,
      untouched,
      alone_appended,
      alone_queued,
      offered_out,
      open_not_held,
      shut_not_waiting,
      off,
      concerned,
      get_set_other,
      eqb-false,
    ) depth 7) in
    step_walks s (LeavesAlone n) (LeavesAlone n s) event
    (search (
      small,
      apart_from,
      comes_up,
      offered_out,
      open_not_held,
      shut_not_waiting,
      alone_then,
      alone_by,
      untouched,
      alone_appended,
      off,
      concerned,
      inl,
      get_set_other,
      eqb-false,
    ) depth 7)

-- THE WINDOW.
pub numbers-drop : (d : ℕ) (rows : List Row) → numbers (drop d rows) ≡ drop d (numbers rows)
numbers-drop d rows = sym (drop-map (λ (row : Row). row.number) d rows)

window_sent : (n : ℕ) (link : LinkState) (choice : Choice) (rows : List Row) → IsInOrder n rows
    → window_of n link (rows_sent choice n rows) ≡ window_after choice (window_of n link rows)
window_sent n link choice rows order =
    let d = sent n rows in
    let unacked = ap numbers (d.unack_is order) ∙ numbers_joined (λ row. Unacked n) (unack n rows) (take 1 (wait n rows)) in
    grind (arith, take-map, numbers-drop, d.wait_is, unacked)

none_brought : (unit : SignalUnit) (t : State) → ((about : ℕ) → BringsAbout t.settings.profile about unit → ⊥)
    → (accept : Bool) (body : Option (List ℕ)) → brought accept unit ≡ body → ((takes body t).state.links ≡ t.links)
    × ((takes body t).state.rows ≡ t.rows)
none_brought unit t none accept None e = (refl, refl)
none_brought unit t none accept (Some body) e = let no =
    λ (o : Order) (f : order_of t.settings.profile body ≡ Some o). none (link_of o) (grind arith) in grind (arith, no)

-- a unit that is heard has numbers of the profile
pub heard_low : (p : Profile) (unit : SignalUnit) → is_heard p unit ≡ true → (header_in unit).bsn < fsn_count p
heard_low p (Fisu head) e = grind (arith, nat_tests)
heard_low p (Lssu head status) e = absurd cc
heard_low p (Msu head body) e = grind (arith, nat_tests)

-- and leaves its BSN as the one last acknowledged, where it's processed
last_heard : (p : Profile) (acked last bsn : ℕ) (b : Bool) → last ≡ (acked + fsn_before_first p) % fsn_count p
    → bsn < fsn_count p → (acked + (if b then (bsn + fsn_count p - last) % fsn_count p else 0) + fsn_before_first p) %
    fsn_count p ≡ (if b then bsn else last)
last_heard p acked last bsn true e low = acked_is p acked last bsn e low
last_heard p acked last bsn false e low = ap (λ (n : ℕ). (n + fsn_before_first p) % fsn_count p) (omega arith) ∙ sym e

moved_window : (p : Profile) (last last' : ℕ) (xs xs' ys ys' : List ℕ) → last ≡ last' → xs ≡ xs' → ys ≡ ys'
    → ◌≡◌ {A = WindowState} (record { profile = p; last = last; unacked = xs; unsent = ys; room = 0 })
    (record { profile = p; last = last'; unacked = xs'; unsent = ys'; room = 0 })
moved_window p last last' xs xs' ys ys' e f g = rw (e, f, g) refl

part_acked : (control : Control) (w : WindowState) (head : Header) (msu : Bool) → (part_of control w head msu).acked ≡ acked_by control w head
part_acked (Basic s) w head msu = refl
part_acked (Cyclic s) w head msu = refl

pub window_moves : (n : ℕ) (link : LinkState) (s : State) → IsSound s → slice_get s.links n ≡ Some link → link.phase ≡ Up → MovesAsItsControl n link s
window_moves n link s t there up =
    let few = within s.links n link there in
    record {
      sent = (_, get_set_same s.links n _ few, refl, window_sent n link _ s.rows (t.links n link there).in_order);
      heard = λ unit fits.
          let head = header_in unit in
          let w = window_of n link s.rows in
          let low : head.bsn < fsn_count link.profile = rw ((t.links n link there).profile) (heard_low s.settings.profile unit fits) in
          let count = part_acked link.control w head (is_msu unit) in
          let last = last_heard link.profile link.acked w.last head.bsn (is_processed link.control w head) refl low in
          let a = acknowledged n (part_in unit n link s).acked s.rows in (
            _,
            get_set_same s.links n _ few,
            refl,
            moved_window link.profile _ _ _ _ _ _
                (ap (λ (d : ℕ). (link.acked + d + fsn_before_first link.profile) % fsn_count link.profile) count ∙ last)
                (ap numbers a.unack_is ∙ numbers-drop _ (unack n s.rows) ∙ ap (λ (d : ℕ). drop d (numbers (unack n s.rows))) count)
                (ap numbers a.wait_same),
          );
      no_more = λ unit none. none_brought unit _ none _ _ refl;
    }
