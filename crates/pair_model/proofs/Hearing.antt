-- WHAT AN END HEARS: the unit that arrives on a link in service is heard as the law's end hears it, so the tie is kept
-- (`hears`). The unit's own part is the law's step (`mid_tied`): the window moves as the control's does
-- (`window_moves`, set_model's Framing.antt), and something becomes of each body that is accepted (`took_some`), so as
-- many are taken as are counted. What the body leads to is no more than Following.antt allows. By the law the unit has
-- numbers of the profile (`unit_fits`) and tells no fault (`no_fault`). Case by case on the unit; no induction but on
-- the rows (`fit_at`). Used by Moving.antt and by pair_changeover's Hearing.antt.
use Rattle.std.specs.Prelude.{◌≤◌, nat_lt, nat_le}
use Rattle.l2_units.specs.declared.profile.Profile.{Profile}
use Rattle.l2_units.specs.Profile.{fsn_count, longest_body}
use Rattle.l2_units.specs.Grammar.{IsHeadOf}
use Rattle.std.proofs.lemmas.Bool.Decides.{nat_tests}
use Rattle.set_model.specs.Step.{is_heard, has_numbers}
use Rattle.set_model.specs.Rows.{AreFit}
use Rattle.std.proofs.Common.{refl, ◌≡◌, ◌∙◌, ap, sym, subst, ℕ, ◌+◌, ◌==◌, Bool, true, false, List, [], ◌∷◌, ◌++◌, slice_get, Option, Some, None, is_some, option_to_list, arith, ◌&&◌, not, length, length-append}
use Rattle.std.specs.Prelude.{if◌then◌else◌}
use Rattle.l2_units.specs.declared.unit.Header.{Header}
use Rattle.l2_units.specs.declared.unit.Unit.{Unit as SignalUnit}
use Rattle.l2_units.specs.declared.unit.Unit.TheVariants.{Fisu, Lssu, Msu}
use Rattle.l2_units.specs.Grammar.{head_of as header_in}
use Rattle.l2_window.specs.Line.{Carried}
use Rattle.l2_window.specs.Link.{World as LinkWorld, flip, Run, steps_far, arrives, Arrives}
use Rattle.l2_window.specs.Window.{WindowState}
use Rattle.l2_window.specs.declared.control.HeardPart.{HeardPart}
use Rattle.l2_basic.specs.Basic.{is_current, is_successor}
use Rattle.l2_pcr.specs.Pcr.{has_abnormal_bsn}
use Rattle.l3_orders.specs.declared.order.Order.{Order}
use Rattle.l3_orders.specs.declared.order.Order.TheVariants.{Coo, Coa, Cbd, Cba, Eco, Eca}
use Rattle.l3_orders.specs.Grammar.{order_of}
use Rattle.set_events.specs.declared.config.Method.{Method}
use Rattle.set_events.specs.declared.event.Event.TheVariants.{Heard}
use Rattle.set_route.specs.declared.place.Code.{Code}
use Rattle.set_route.specs.declared.place.Code.TheVariants.{Free, Asked, Spent}
use Rattle.set_route.specs.Routing.{code_of}
use Rattle.set_model.specs.declared.phase.Phase.{Phase}
use Rattle.set_model.specs.declared.phase.Phase.TheVariants.{Up, Down, Settled}
use Rattle.set_model.specs.declared.reached.Reached.{Reached}
use Rattle.set_model.specs.declared.reached.Reached.TheVariants.{Upto, Unknown}
use Rattle.set_model.specs.Changeover.{Obeyed, changed_over, answered, at_link, acknowledged_back, order_obeyed, obeyed}
use Rattle.set_model.specs.Control.{Control, Basic, Cyclic, start_of, part_of, control_heard, window_heard}
use Rattle.set_model.specs.Laws.{KeepsMessages}
use Rattle.set_model.specs.Rows.{Row, body_at, owner_at, is_managements}
use Rattle.set_model.specs.Sound.{IsSound}
use Rattle.set_model.specs.State.{given, LinkState, State, has_phase_settled, window_of}
use Rattle.set_model.specs.Step.{Outcome, is_msu, one_if, brought, takes, after_control, controls, step}
use Rattle.set_model.proofs.Events.{Kept, acknowledged}
use Rattle.set_model.proofs.Framing.{window_moves}
use Rattle.set_model.proofs.Lists.{get_set_same, within, same_at}
use Rattle.set_model.proofs.Staying.{keeps_messages}
use Rattle.set_model.proofs.Walk.{IsAt}
use Rattle.pair_model.specs.Promises.{IsOneMethod}
use Rattle.pair_model.specs.Run.{body_in, taken_by}
use Rattle.pair_model.proofs.Controls.{rules, one_link}
use Rattle.pair_model.proofs.Counts.{takes_count}
use Rattle.pair_model.proofs.Following.{takes_follows}
use Rattle.pair_model.proofs.Sending.{standing_at, stands_so}
use Rattle.pair_model.proofs.Tied.{AreBodies, IsUnitOf, AreUnits, KeepBodies, keep_bodies, keeps_same, stand_kept, bodies_kept, units_kept, bodies_joined, Side, IsGoing, Ties, Tied, follows}

-- WHAT BECAME OF A BODY: of each that was accepted something did.
over_took : (reached : Reached) (n : ℕ) (link : LinkState) (phase : Phase) (s : State) (body : List ℕ)
    → taken_by (changed_over reached n link phase s).took body ≡ body ∷ []
over_took reached n link Up s body = refl
over_took reached n link Down s body = refl
over_took reached n link Settled s body = refl

answer_took : (reached : Reached) (n : ℕ) (link : LinkState) (phase : Phase) (s : State) (body : List ℕ)
    → taken_by (answered reached n link phase s).took body ≡ body ∷ []
answer_took reached n link Up s body = refl
answer_took reached n link Down s body = refl
answer_took reached n link Settled s body = refl

at_took : (n : ℕ) (s : State) (f : LinkState → Obeyed) (body : List ℕ)
    → ((link : LinkState) → taken_by (f link).took body ≡ body ∷ []) → (o : Option LinkState)
    → taken_by (at_link n s f o).took body ≡ body ∷ []
at_took n s f body all None = refl
at_took n s f body all (Some link) = all link

back_took : (code : ℕ) (c : Code) (s : State) (body : List ℕ) → taken_by (acknowledged_back code c s).took body ≡ body ∷ []
back_took code Free s body = refl
back_took code (Asked via declaration owed) s body = refl
back_took code (Spent owed) s body = refl

order_took : (order : Order) (s : State) (body : List ℕ) → taken_by (order_obeyed order s).took body ≡ body ∷ []
order_took (Coo n fsn) s body = at_took n s _ body (λ link. over_took (Upto fsn) n link link.phase s body) (slice_get s.links n)
order_took (Eco n) s body = at_took n s _ body (λ link. over_took Unknown n link link.phase s body) (slice_get s.links n)
order_took (Coa n fsn) s body = at_took n s _ body (λ link. answer_took (Upto fsn) n link link.phase s body) (slice_get s.links n)
order_took (Eca n) s body = at_took n s _ body (λ link. answer_took Unknown n link link.phase s body) (slice_get s.links n)
order_took (Cbd n code) s body = refl
order_took (Cba n code) s body = back_took code (code_of code s.routing) s body

obeyed_took : (o : Option Order) (s : State) (body : List ℕ) → taken_by (obeyed o s).took body ≡ body ∷ []
obeyed_took None s body = refl
obeyed_took (Some order) s body = order_took order s body

pub took_some : (body : List ℕ) (s : State) → taken_by (takes (Some body) s).took body ≡ body ∷ []
took_some body s = go (is_managements body) refl
  where
    go : (b : Bool) → is_managements body ≡ b → taken_by (takes (Some body) s).took body ≡ body ∷ []
    go true e = rw e (obeyed_took (order_of s.settings.profile body) s body)
    go false e = rw e refl

took_bodies : (rows : List Row) (unit : SignalUnit) (message : Option ℕ) (accept : Bool) (s : State)
    → IsUnitOf rows (record { head = header_in unit; message = message }) unit
    → AreBodies rows (if accept then option_to_list message else [])
    (taken_by (takes (brought accept unit) s).took (body_in unit))
took_bodies rows (Fisu head) message true s is = rw (is.1) tt
took_bodies rows (Fisu head) message false s is = tt
took_bodies rows (Lssu head status) message accept s is = absurd is
took_bodies rows (Msu head body) message true s is = rw (is.2, took_some body.items s) (is.3, tt)
took_bodies rows (Msu head body) message false s is = tt

-- so many bodies as the link counts
only_messages : (control : Control) (w : WindowState) (head : Header) → (part_of control w head false).accept ≡ false
only_messages (Basic s) w head = and_false (is_current s w head) (is_successor s head)
  where
    and_false : (b c : Bool) → (b && (false && c)) ≡ false
    and_false true c = refl
    and_false false c = refl
only_messages (Cyclic s) w head = and_false (not (has_abnormal_bsn w head)) (head.fsn == s.expected)
  where
    and_false : (b c : Bool) → (b && (false && c)) ≡ false
    and_false true c = refl
    and_false false c = refl

body_took : (body : List ℕ) (accept : Bool) (s : State) → length (taken_by (takes (if accept then Some body else None) s).took body) ≡ one_if accept
body_took body true s = rw (took_some body s) refl
body_took body false s = refl

pub took_many : (control : Control) (w : WindowState) (unit : SignalUnit) (s : State)
    → length (taken_by (takes (brought (part_of control w (header_in unit) (is_msu unit)).accept unit) s).took
    (body_in unit)) ≡ one_if (part_of control w (header_in unit) (is_msu unit)).accept
took_many control w (Fisu head) s = rw (only_messages control w head) refl
took_many control w (Lssu head status) s = rw (only_messages control w head) refl
took_many control w (Msu head body) s = body_took body.items (part_of control w head true).accept s

-- THE STEP
pub heard_is : (l : ℕ) (unit : SignalUnit) (link : LinkState) (s : State) → is_heard s.settings.profile unit ≡ true
    → IsAt l link Up s → step s (Heard l unit) ≡ controls unit l s link
unfolding step
heard_is l unit link s fits at = rw (at.there, at.phase_is, fits) refl

fit_at : (p : Profile) (number : ℕ) (rows : List Row) (body : List ℕ) → AreFit p rows → body_at number rows ≡ Some body → length body ≤ longest_body p
fit_at p number [] body fit e = absurd (cc)
fit_at p number (x ∷ rows) body fit e = grind (arith, fit_at p number rows body fit.1)

-- a unit with numbers of the profile, whose body is a row's, is heard
has_numbers_if : (p : Profile) (head : Header) → IsHeadOf p head → has_numbers p head ≡ true
has_numbers_if p head h =
    let a : nat_lt head.bsn (fsn_count p) ≡ true = grind (arith, nat_tests, h.0) in
    let b : nat_lt head.fsn (fsn_count p) ≡ true = grind (arith, nat_tests, h.1) in
    rw (a, b) refl

heard_so : (p : Profile) (rows : List Row) (c : Carried) (unit : SignalUnit) → IsUnitOf rows c unit
    → IsHeadOf p (header_in unit) → AreFit p rows → is_heard p unit ≡ true
heard_so p rows c (Fisu head) is h fit = has_numbers_if p head h
heard_so p rows c (Lssu head status) is h fit = absurd is
heard_so p rows c (Msu head body) is h fit =
    let a = has_numbers_if p head h in
    let low = fit_at p is.0 rows body.items fit is.3 in
    let b : nat_le (length body.items) (longest_body p) ≡ true = grind (arith, nat_tests) in
    rw (a, b) refl

same_head : (rows : List Row) (c : Carried) (unit : SignalUnit) → IsUnitOf rows c unit → c.head ≡ header_in unit
same_head rows c (Fisu head) is = is.0
same_head rows c (Lssu head status) is = absurd is
same_head rows c (Msu head body) is = is.1

same_msu : (rows : List Row) (c : Carried) (unit : SignalUnit) → IsUnitOf rows c unit → is_some c.message ≡ is_msu unit
same_msu rows c (Fisu head) is = rw (is.1) refl
same_msu rows c (Lssu head status) is = absurd is
same_msu rows c (Msu head body) is = rw (is.2) refl

module _ (l : ℕ) (mx my : Method) (one : IsOneMethod mx my) (x y : Side) (out rest : List SignalUnit)
    (unit : SignalUnit) (link : LinkState) (sound : IsSound x.state) (at : IsAt l link Up x.state)
    (same : y.state.settings.profile ≡ x.state.settings.profile) (fit : AreFit y.state.settings.profile y.state.rows)
  where
    abbrev rows : List Row
    rows = x.state.rows

    abbrev window : WindowState
    window = window_of l link rows

    abbrev head : Header
    head = header_in unit

    abbrev pub part : HeardPart
    part = part_of link.control window head (is_msu unit)

    abbrev pub mid : State
    mid = after_control part head unit l x.state link

    abbrev pub taken : Obeyed
    taken = takes (brought part.accept unit) mid

    abbrev pub mid_link : LinkState
    mid_link = record link {
      acked = link.acked + part.acked;
      accepted = link.accepted + one_if part.accept;
      control = control_heard link.control window head (is_msu unit);
    }

    mid_there : slice_get mid.links l ≡ Some mid_link
    mid_there = get_set_same x.state.links l mid_link (within x.state.links l link at.there)

    window_is : is_heard x.state.settings.profile unit ≡ true → window_of l mid_link mid.rows ≡ window_heard link.control window head
    window_is fits =
        let m = (window_moves l link x.state sound at.there at.phase_is).heard unit fits in
        let same : m.0 ≡ mid_link = same_at mid.links l mid_link m.0 mid_there m.1 in
        subst (λ (k : LinkState). window_of l k mid.rows ≡ window_heard link.control window head) same m.3

    abbrev mid_kept : Kept rows mid.rows
    mid_kept = (acknowledged l part.acked rows).kept

    mid_same : (number : ℕ) → body_at number mid.rows ≡ body_at number rows
    mid_same number = mid_kept.bodies (given x.state) sound.numbered number

    mid_owned : (number : ℕ) → owner_at number mid.rows ≡ owner_at number rows
    mid_owned number = mid_kept.owners (given x.state) sound.numbered number

    -- the law's world then
    abbrev heard_at : Option ℕ → List Carried → LinkWorld Control → LinkWorld Control
    heard_at message behind w = record w {
      near = record w.near {
        control = control_heard link.control window head (is_msu unit);
        window = window_heard link.control window head;
        took = w.near.took ++ (if part.accept then option_to_list message else []);
        acked = link.acked + part.acked;
      };
      back = behind;
    }

    -- with the unit that comes
    module _ (w : LinkWorld Control) (message : Option ℕ) (behind : List Carried)
        (comes : w.back ≡ record { head = head; message = message } ∷ behind) (msu : is_some message ≡ is_msu unit) where
      arrival : Arrives rules (record { head = head; message = message }) (flip (standing_at l link rows w)) (flip (heard_at message behind w))
      arrival = record {
        control = rw msu refl;
        window = refl;
        sent = refl;
        took = rw msu refl;
        acked = rw msu refl;
        near = refl;
        out = comes;
        back = refl;
      }

      hears_run : (p : Profile) → Run rules p (start_of mx) (start_of my) (standing_at l link rows w)
          → Run rules p (start_of mx) (start_of my) (heard_at message behind w)
      hears_run p r = steps_far (standing_at l link rows w) (heard_at message behind w) r
          (arrives (flip (standing_at l link rows w)) (flip (heard_at message behind w))
          (record { head = head; message = message }) arrival)

      no_fault_at : (p : Profile) → Run rules p (start_of mx) (start_of my) (standing_at l link rows w) → part.fault ≡ None
      no_fault_at p r =
          let f = (one_link mx my one p (standing_at l link rows w) r).1.no_fault (record { head = head; message = message }) behind comes in
          rw msu at f

      -- the unit that comes is of the set's profile
      unit_fits : (p : Profile) → Run rules p (start_of mx) (start_of my) (standing_at l link rows w)
          → IsUnitOf y.state.rows (record { head = head; message = message }) unit
          → is_heard x.state.settings.profile unit ≡ true
      unit_fits p r is =
          let law = one_link mx my one p (standing_at l link rows w) r in
          let numbers = law.1.fits (record { head = head; message = message }) behind comes in
          let here : link.profile ≡ p = law.0.profile_is in
          let whole : x.state.settings.profile ≡ p = sym ((sound.links l link at.there).profile) ∙ here in
          rw whole (heard_so p y.state.rows (record { head = head; message = message }) unit is numbers (rw (sym (same ∙ whole)) fit))

      -- before the body is taken
      abbrev mid_side : Side
      mid_side = record { state = mid; sent = x.sent; taken = x.taken ++ taken_by taken.took (body_in unit) }

      mid_ties : is_heard x.state.settings.profile unit ≡ true
          → IsUnitOf y.state.rows (record { head = head; message = message }) unit → AreUnits y.state.rows behind rest
          → Ties l w x y out (unit ∷ rest) → Ties l (heard_at message behind w) mid_side y out rest
      mid_ties fits is left t =
          let keep : KeepBodies rows mid.rows = keeps_same rows mid.rows mid_same mid_owned in
          let many = took_many link.control window unit mid in
          let before = t.near_counts link at.there in
          let counted : link.accepted + one_if part.accept ≡ length (x.taken ++ taken_by taken.took (body_in unit)) =
          omega (arith, before, many, length-append x.taken (taken_by taken.took (body_in unit))) in
          record {
            near = record {
              sent_is = t.near.sent_is;
              stand = stand_kept rows mid.rows keep x.sent t.near.stand;
              took_is = bodies_joined y.state.rows w.near.took _ x.taken _ t.near.took_is (took_bodies y.state.rows unit message part.accept mid is);
            };
            far = record { sent_is = t.far.sent_is; stand = t.far.stand; took_is = bodies_kept rows mid.rows keep w.far.took y.taken t.far.took_is };
            near_goes = λ other found unsettled.
                let same : mid_link ≡ other = sym (same_at mid.links l mid_link other mid_there found) in
                subst (λ (k : LinkState). IsGoing l (heard_at message behind w).near k mid.rows) same
                (record { control = refl; window = sym (window_is fits); acked = refl });
            far_goes = t.far_goes;
            near_counts = λ other found. ap (λ (k : LinkState). k.accepted) (same_at mid.links l mid_link other mid_there found) ∙ counted;
            far_counts = t.far_counts;
            out = units_kept rows mid.rows keep w.out out t.out;
            back = left;
          }

    -- what comes on the line is the law's
    pub record Comes (w : LinkWorld Control) : Type 0 where
      pub message : Option ℕ
      pub behind : List Carried
      pub comes : w.back ≡ record { head = head; message = message } ∷ behind
      pub msu : is_some message ≡ is_msu unit
      pub is : IsUnitOf y.state.rows (record { head = head; message = message }) unit
      pub left : AreUnits y.state.rows behind rest

    comes_so : (w : LinkWorld Control) (cs : List Carried) → w.back ≡ cs → AreUnits y.state.rows cs (unit ∷ rest) → Comes w
    comes_so w [] e are = absurd are
    comes_so w (c ∷ cs) e are =
        let same = same_head y.state.rows c unit are.0 in
        let c_is : c ≡ record { head = head; message = c.message } = rw (← same) refl in
        record {
          message = c.message;
          behind = cs;
          comes = e ∙ ap (λ (d : Carried). d ∷ cs) c_is;
          msu = same_msu y.state.rows c unit are.0;
          is = subst (λ (d : Carried). IsUnitOf y.state.rows d unit) c_is are.0;
          left = are.1;
        }

    runs_at : (t : Tied l mx my x y out (unit ∷ rest)) → Run rules t.profile (start_of mx) (start_of my) (standing_at l link rows t.world)
    runs_at t = subst (λ (v : LinkWorld Control). Run rules t.profile (start_of mx) (start_of my) v)
        (stands_so l link rows t.world (t.ties.near_goes link at.there (ap has_phase_settled at.phase_is))) t.run

    abbrev pub hearer : Side
    hearer = record { state = taken.state; sent = x.sent; taken = x.taken ++ taken_by taken.took (body_in unit) }

    -- an end that hears, before the body is taken
    abbrev pub hearing : Side
    hearing = record { state = mid; sent = x.sent; taken = x.taken ++ taken_by taken.took (body_in unit) }

    pub mid_tied : Tied l mx my x y out (unit ∷ rest) → Tied l mx my hearing y out rest
    mid_tied t =
        let w = t.world in
        let c = comes_so w w.back refl t.ties.back in
        record {
          profile = t.profile;
          world = heard_at c.message c.behind w;
          run = hears_run w c.message c.behind c.comes c.msu t.profile (runs_at t);
          ties = mid_ties w c.message c.behind c.comes c.msu (unit_fits w c.message c.behind c.comes c.msu t.profile (runs_at t) c.is) c.is c.left t.ties;
        }

    -- and then
    pub hears : Tied l mx my x y out (unit ∷ rest) → Tied l mx my hearer y out rest
    hears t =
        let w = t.world in
        let c = comes_so w w.back refl t.ties.back in
        let stepped = subst (λ (o : Outcome). KeepsMessages x.state o.state)
        (heard_is l unit link x.state (unit_fits w c.message c.behind c.comes c.msu t.profile (runs_at t) c.is) at)
        (keeps_messages x.state (Heard l unit) sound.numbered) in
        let stays = keep_bodies x.state taken.state sound.numbered stepped in
        let keep : KeepBodies mid.rows taken.state.rows = record {
          bodies = λ number body e. stays.bodies number body (sym (mid_same number) ∙ e);
          owners = λ number users e. stays.owners number users (sym (mid_owned number) ∙ e);
        } in
        follows l mx my hearing y out rest taken.state keep (takes_count l (brought part.accept unit) mid)
        (takes_follows l (brought part.accept unit) mid) (mid_tied t)

    pub no_fault : Tied l mx my x y out (unit ∷ rest) → part.fault ≡ None
    no_fault t =
        let w = t.world in
        let c = comes_so w w.back refl t.ties.back in
        no_fault_at w c.message c.behind c.comes c.msu t.profile (runs_at t)

    -- the event is this
    pub step_is : Tied l mx my x y out (unit ∷ rest) → step x.state (Heard l unit) ≡ controls unit l x.state link
    step_is t =
        let c = comes_so t.world t.world.back refl t.ties.back in
        heard_is l unit link x.state (unit_fits t.world c.message c.behind c.comes c.msu t.profile (runs_at t) c.is) at
