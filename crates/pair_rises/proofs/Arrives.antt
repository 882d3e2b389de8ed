-- A UNIT ARRIVES at an end that is seen under its veils, on a link that is up there: what holds of both ends is kept
-- (`arrives`). It's the same under the veils, but where the unit brings an order of a changeover about an awaited link:
-- then the end misses that life (`late_arrived`). None is about a missed link: the end settled it, to all else.
use Rattle.std.proofs.Common.{refl, arith, ◌≡◌, ◌∙◌, ap, sym, subst, ℕ, ◌<◌, ◌==◌, Bool, true, false, List, ◌∷◌, length, slice_get, Option, Some, None, cond}
use Rattle.std.proofs.lemmas.Bool.{eqb-true}
use Rattle.l2_units.specs.declared.profile.Profile.{Profile}
use Rattle.l2_units.specs.declared.unit.Unit.{Unit as SignalUnit}
use Rattle.l2_window.specs.Window.{fsn_before_first}
use Rattle.l3_orders.specs.declared.order.Order.{Order}
use Rattle.l3_orders.specs.declared.order.Order.TheVariants.{Coo, Coa, Cbd, Cba, Eco, Eca}
use Rattle.l3_orders.specs.Grammar.{order_of, link_of}
use Rattle.pair_steps.specs.Lines.{units_on, with_units}
use Rattle.pair_steps.specs.declared.step.Shown.TheVariants.{Answered}
use Rattle.set_events.specs.declared.answer.Answer.{Answer}
use Rattle.set_events.specs.declared.answer.Answer.TheVariants.{Heard as HeardBack}
use Rattle.set_events.specs.declared.answer.Report.{Report}
use Rattle.set_events.specs.declared.config.Method.{Method}
use Rattle.set_events.specs.declared.event.Event.TheVariants.{Heard as HeardEvent}
use Rattle.set_model.specs.declared.phase.Phase.TheVariants.{Up, Settled}
use Rattle.set_model.specs.Changeover.{queued, reply_of}
use Rattle.set_model.specs.Sound.{IsSound}
use Rattle.set_model.specs.State.{LinkState, State, Settings, is_up, is_settled, link_is_up, link_is_settled, has_phase_up, has_phase_settled}
use Rattle.set_model.specs.Step.{Outcome, brought, takes, part_in, controlled, report_of, is_heard, step}
use Rattle.set_model.proofs.Lists.{get_set_same, within, present}
use Rattle.set_model.proofs.Staying.{keeps_messages}
use Rattle.set_model.proofs.Places.{itself, apart_back}
use Rattle.set_model.proofs.Walk.{IsAt}
use Rattle.set_veiled.specs.Veil.{dormant, veil}
use Rattle.pair_model.specs.Promises.{IsOneMethod}
use Rattle.pair_model.specs.Run.{Past, past_heard}
use Rattle.pair_model.proofs.Moving as moving
use Rattle.pair_model.proofs.Pairs.{Two, HoldsOf, settings_stay}
use Rattle.pair_model.proofs.Rising.{settled_at}
use Rattle.pair_changeover.proofs.Arriving.{hears_did}
use Rattle.pair_changeover.proofs.Counted.{Counts, heard_counts}
use Rattle.pair_changeover.proofs.Views.{IsChangeover}
use Rattle.pair_changeover.proofs.Whole.{SettlesSo}
use Rattle.pair_streams.proofs.Acting.{Streams}
use Rattle.pair_streams.proofs.Hearing.{hears_streams}
use Rattle.pair_model.proofs.Tied.{KeepBodies, keep_bodies}
use Rattle.pair_rises.specs.Rises.{cover_of, Cover, inside, awaited, missed, is_covered, closed, told_at, seen_under, about_of, order_about, is_order, takes_order, missed_by, missed_at, covers_heard}
use Rattle.pair_rises.proofs.Brought.{is_no_message, leaves_took, order_in, about_in, elsewhere_in, brought_in, link_in, about_link, of_other, order_about_link, takes_took, past_same}
use Rattle.pair_rises.proofs.Covers.{told_here, told_other, told_each, ft, off_other, off_fits}
use Rattle.pair_rises.proofs.Halves.{Halves, hears_halves, whole_of}
use Rattle.pair_rises.proofs.Heard as under_veils
use Rattle.pair_rises.proofs.Late as late
use Rattle.pair_rises.proofs.Missing as missing
use Rattle.pair_rises.proofs.Open.{IsOpen, hears_near, hears_far, not_about}
use Rattle.pair_rises.proofs.Replies.{Replies}
use Rattle.pair_rises.proofs.Unveiled.{bare_settles}
use Rattle.pair_rises.proofs.Veils.{Fits, SameUnder, same_under, seen_up, seen_off, seen_more, seen_same, seen_sound, seen_length}

-- WHO MISSES WHAT
same_number : (n m : ℕ) → Some n ≡ Some m → n ≡ m
same_number n m e = cc

none_at : {X : Type 0} (n : ℕ) → None ≡ Some n → X
none_at n e = absurd cc

none_missed : (is : Bool) (about : Option ℕ) (told : ℕ → Cover) → (is ≡ true → (n : ℕ) → about ≡ Some n → told n ≡ inside) → (l : ℕ)
    → missed_at (cond is about None) told l ≡ told l
none_missed false about told within l = refl
none_missed true None told within l = refl
none_missed true (Some n) told within l = go (l == n) refl
  where
    go : (b : Bool) → (l == n) ≡ b → cond b (missed_by (told l)) (told l) ≡ told l
    go false e = refl
    go true e = let is : told l ≡ inside = ap told (eqb-true l n e) ∙ within refl n refl in ap missed_by is ∙ sym is

module _ {emergencies : Bool} (mx my : Method) (one : IsOneMethod mx my) (ox : ℕ → Cover) (s f : State) (x_past y_past : Past)
    (out back : List (List SignalUnit)) (sound : IsSound s) (fits : Fits ox s) (replies : Replies s)
    (h : HoldsOf mx my (record { near = seen_under ox s; far = f; near_past = x_past; far_past = y_past; out = out; back = back }))
    (v : Streams emergencies (record { near = seen_under ox s; far = f; near_past = x_past; far_past = y_past; out = out; back = back }))
    (counts_each : Counts (seen_under ox s) f)
    (half_each : emergencies ≡ false → Halves (record { near = seen_under ox s; far = f; near_past = x_past; far_past = y_past; out = out; back = back }))
    (opens : (l : ℕ) → ox l ≡ awaited → IsOpen l (seen_under ox s) f)
    (k : ℕ) (few : k < length s.links) (unit : SignalUnit) (rest : List SignalUnit) (front : units_on k back ≡ unit ∷ rest)
    (link : LinkState) (at : IsAt k link Up s) where
  abbrev p : Two
  p = record { near = seen_under ox s; far = f; near_past = x_past; far_past = y_past; out = out; back = back }

  abbrev pub then_s : State
  then_s = (step s (HeardEvent k unit)).state

  abbrev then_near : State
  then_near = (step p.near (HeardEvent k unit)).state

  k_inside : ox k ≡ inside
  k_inside = let is = under_veils.k_is ox s fits k link at unit in is

  at_seen : IsAt k link Up p.near
  at_seen = record { there = seen_off ox s k k_inside ∙ at.there; phase_is = at.phase_is }

  few_seen : k < length p.near.links
  few_seen = omega (arith, few, seen_length ox s)

  abbrev around : Answer → State → Two
  around answer near = record {
    near = near;
    far = f;
    near_past = past_heard k unit (y_past.sent k) (Answered answer) x_past;
    far_past = y_past;
    out = out;
    back = with_units k rest back;
  }

  abbrev pub answer_here : Answer
  answer_here = (step s (HeardEvent k unit)).answer

  abbrev report_seen : Report
  report_seen = moving.report mx my one p h k few_seen unit rest front link at_seen

  answers_seen : (step p.near (HeardEvent k unit)).answer ≡ HeardBack report_seen
  answers_seen = moving.answers_heard mx my one p h k few_seen unit rest front link at_seen

  heard_holds : HoldsOf mx my (around (HeardBack report_seen) then_near)
  heard_holds = moving.hears_up mx my one p h k few_seen unit rest front link at_seen

  heard_streams : Streams emergencies (around (HeardBack report_seen) then_near)
  heard_streams = hears_streams mx my one p h v k few_seen unit rest front link at_seen

  heard_halves : emergencies ≡ false → Halves (around (HeardBack report_seen) then_near)
  heard_halves e = hears_halves mx my one p h v e k few_seen unit rest front link at_seen (half_each e)

  heard_each : Counts then_near f
  heard_each = heard_counts mx my one p h v.ordered counts_each k few_seen unit rest front link at_seen

  far_there : (l : ℕ) → is_settled l s ≡ true → (there : LinkState) × (slice_get f.links l ≡ Some there)
  far_there l e =
      let was = settled_at l s e in
      present f.links l (omega (arith, within s.links l was.0 was.1.there, h.far_links, seen_length ox s))

  down_seen : (l : ℕ) → is_settled l s ≡ true → is_up l p.near ≡ false
  down_seen l e = let was = settled_at l s e in seen_up ox s fits l ∙ ap link_is_up was.1.there ∙ ap has_phase_up was.1.phase_is

  near_open : (l : ℕ) → ox l ≡ awaited → IsOpen l then_near f
  near_open l e =
      let settled = fits l (ap is_covered e) in
      let there = far_there l settled in
      hears_near mx my one p h v.ordered k few_seen unit rest front link at_seen l there.0 there.1 (down_seen l settled) (opens l e)

  far_open : (l : ℕ) → IsOpen l f p.near → IsOpen l f then_near
  far_open l was = hears_far mx my one p h v.ordered k few_seen unit rest front link at_seen l was

  -- WHAT IS KEPT, where it stands so to each link then
  pub record Arrived (told : ℕ → Cover) : Type 0 where
    pub links : HoldsOf mx my (around answer_here (seen_under told then_s))
    pub streams : Streams emergencies (around answer_here (seen_under told then_s))
    pub counts : Counts (seen_under told then_s) f
    pub halves : emergencies ≡ false → Halves (around answer_here (seen_under told then_s))
    -- what settles diverts the rest
    pub diverts : emergencies ≡ false → SettlesSo x_past y_past s then_s
    pub fit : Fits told then_s
    pub near : (l : ℕ) → told l ≡ awaited → IsOpen l (seen_under told then_s) f
    pub far : (l : ℕ) → IsOpen l f (seen_under ox s) → IsOpen l f (seen_under told then_s)
    pub covered : (l : ℕ) → is_covered (told l) ≡ true → is_covered (ox l) ≡ true

  -- the same under the veils
  same_arrived : SameUnder ox s (HeardEvent k unit) → Arrived ox
  same_arrived same =
      let answer : HeardBack report_seen ≡ answer_here = sym answers_seen ∙ same.answer in
      record {
        links = subst (λ (a : Answer). HoldsOf mx my (around a (seen_under ox then_s))) answer
            (subst (λ (near : State). HoldsOf mx my (around (HeardBack report_seen) near)) same.state heard_holds);
        streams = subst (λ (a : Answer). Streams emergencies (around a (seen_under ox then_s))) answer
            (subst (λ (near : State). Streams emergencies (around (HeardBack report_seen) near)) same.state heard_streams);
        counts = subst (λ (near : State). Counts near f) same.state heard_each;
        halves = λ e. subst (λ (a : Answer). Halves (around a (seen_under ox then_s))) answer
            (subst (λ (near : State). Halves (around (HeardBack report_seen) near)) same.state (heard_halves e));
        diverts = λ e. bare_settles ox s then_s fits same.fits x_past y_past
            (subst (λ (near : State). SettlesSo x_past y_past (seen_under ox s) near) same.state
            (hears_did mx my one p h (whole_of p e v (half_each e)) k few_seen unit rest front link at_seen).near);
        fit = same.fits;
        near = λ l e. subst (λ (near : State). IsOpen l near f) same.state (near_open l e);
        far = λ l was. subst (λ (near : State). IsOpen l f near) same.state (far_open l was);
        covered = λ l e. e;
      }

  -- told in other words
  retold : (told more : ℕ → Cover) → ((l : ℕ) → more l ≡ told l) → Arrived told → Arrived more
  retold told more same a =
      let is : seen_under told then_s ≡ seen_under more then_s = sym (seen_same told more then_s same) in
      record {
        links = subst (λ (near : State). HoldsOf mx my (around answer_here near)) is a.links;
        streams = subst (λ (near : State). Streams emergencies (around answer_here near)) is a.streams;
        counts = subst (λ (near : State). Counts near f) is a.counts;
        halves = λ e. subst (λ (near : State). Halves (around answer_here near)) is (a.halves e);
        diverts = a.diverts;
        fit = λ l e. a.fit l (ap is_covered (sym (same l)) ∙ e);
        near = λ l e. subst (λ (near : State). IsOpen l near f) is (a.near l (sym (same l) ∙ e));
        far = λ l was. subst (λ (near : State). IsOpen l f near) is (a.far l was);
        covered = λ l e. a.covered l (ap is_covered (sym (same l)) ∙ e);
      }

  module _ (fit : is_heard s.settings.profile unit ≡ true) (body : List ℕ) (some : brought (part_in unit k link s).accept unit ≡ Some body)
      (order : Order) (is : order_of s.settings.profile body ≡ Some order) (over : IsChangeover order) where
    -- none is about a missed link
    not_missed : ox (link_of order) ≡ missed → ⊥
    not_missed e =
        let n = link_of order in
        let off = told_at n inside ox in
        let settled = fits n (ap is_covered e) in
        let was = settled_at n s settled in
        let few_n = within s.links n was.0 was.1.there in
        let seen : p.near ≡ veil (closed s.settings) n (seen_under off s) = seen_more off ox s n missed (closed s.settings) (told_here n inside ox) e refl
        (λ l d. sym (told_other n inside ox l d)) (omega (arith, few_n, sound.count)) in
        let there : is_settled n p.near ≡ true = ap (is_settled n) seen
        ∙ ap link_is_settled (get_set_same (seen_under off s).links n (closed s.settings) (omega (arith, few_n, seen_length off s))) in
        let d = not_about mx my one p h v.ordered k few_seen unit rest front link at_seen n (v.ordered.both.far.none_settled n there) body some order is over in
        let no : true ≡ false = sym (itself n) ∙ d in cc

    abbrev report_here : Report
    report_here = report_of (part_in unit k link s) (takes (brought (part_in unit k link s).accept unit) (controlled unit k s link)).took

    took_here : is_no_message report_here.took ≡ true
    took_here = ap (λ (o : Option (List ℕ)). is_no_message (takes o (controlled unit k s link)).took) some ∙ takes_took body order (controlled unit k s link) is over

    answers_here : answer_here ≡ HeardBack report_here
    answers_here = ap (λ (o : Outcome). o.answer) (under_veils.controls_here ox s fits k link at unit fit)

  -- HOW IT STANDS to each link then
  abbrev pub told_then : ℕ → Cover
  told_then = covers_heard s.settings.profile (unit ∷ rest) (Answered answer_here) ox

  abbrev taken : Bool
  taken = takes_order (Answered answer_here)

  abbrev about : Option ℕ
  about = order_about s.settings.profile unit

  -- none is missed
  as_they_were : SameUnder ox s (HeardEvent k unit) → (taken ≡ true → (n : ℕ) → about ≡ Some n → ox n ≡ inside) → Arrived told_then
  as_they_were same within = retold ox told_then (λ l. none_missed taken about ox within l) (same_arrived same)

  -- this one is
  one_missed : (n : ℕ) → taken ≡ true → about ≡ Some n → ox n ≡ awaited → (l : ℕ) → told_then l ≡ told_at n missed ox l
  one_missed n shown is waits l =
      ap (λ (b : Bool). missed_at (cond b about None) ox l) shown ∙ ap (λ (o : Option ℕ). missed_at o ox l) is ∙ go (l == n) refl
    where
      go : (b : Bool) → (l == n) ≡ b → cond b (missed_by (ox l)) (ox l) ≡ cond b missed (ox l)
      go true e = ap missed_by (ap ox (eqb-true l n e) ∙ waits)
      go false e = refl

  -- AN ORDER ABOUT AN AWAITED LINK
  module _ (n : ℕ) (waits : ox n ≡ awaited) where
    abbrev off : ℕ → Cover
    off = told_at n inside ox

    abbrev u : State
    u = seen_under off s

    settled_n : is_settled n s ≡ true
    settled_n = fits n (ap is_covered waits)

    was : (l : LinkState) × IsAt n l Settled s
    was = settled_at n s settled_n

    few_n : n < length s.links
    few_n = within s.links n was.0 was.1.there

    fits_off : Fits off s
    fits_off = off_fits n ox s fits

    sound_u : IsSound u
    sound_u = seen_sound off s fits_off sound

    was_u : IsAt n was.0 Settled u
    was_u = record { there = seen_off off s n (told_here n inside ox) ∙ was.1.there; phase_is = was.1.phase_is }

    off_k : off k ≡ inside
    off_k = told_each n inside ox (λ l c. ox l ≡ inside → c ≡ inside) (λ e. refl) (λ l d e. e) k k_inside

    at_u : IsAt k link Up u
    at_u = record { there = seen_off off s k off_k ∙ at.there; phase_is = at.phase_is }

    few_u : k < length u.links
    few_u = omega (arith, few, seen_length off s)

    near_is : p.near ≡ veil (dormant u.settings) n u
    near_is = seen_more off ox s n awaited (dormant s.settings) (told_here n inside ox) waits refl (λ l d. sym (told_other n inside ox l d))
        (omega (arith, few_n, sound.count))

    abbrev q : State → Two
    q near = record { near = near; far = f; near_past = x_past; far_past = y_past; out = out; back = back }

    h_u : HoldsOf mx my (q (veil (dormant u.settings) n u))
    h_u = subst (λ (near : State). HoldsOf mx my (q near)) near_is h

    v_u : Streams emergencies (q (veil (dormant u.settings) n u))
    v_u = subst (λ (near : State). Streams emergencies (q near)) near_is v

    counts_u : Counts (veil (dormant u.settings) n u) f
    counts_u = subst (λ (near : State). Counts near f) near_is counts_each

    halves_u : emergencies ≡ false → Halves (q (veil (dormant u.settings) n u))
    halves_u e = subst (λ (near : State). Halves (q near)) near_is (half_each e)

    open_u : IsOpen n (veil (dormant u.settings) n u) f
    open_u = subst (λ (near : State). IsOpen n near f) near_is (opens n waits)

    at_under : IsAt k link Up (veil (dormant u.settings) n u)
    at_under = record { there = subst (λ (near : State). slice_get near.links k ≡ Some link) near_is at_seen.there; phase_is = at.phase_is }

    there : (l : LinkState) × (slice_get f.links n ≡ Some l)
    there = far_there n settled_n

    abbrev then_u : State
    then_u = (step u (HeardEvent k unit)).state

    abbrev after_under : State
    after_under = (step (veil (dormant u.settings) n u) (HeardEvent k unit)).state

    after_is : then_near ≡ after_under
    after_is = ap (λ (near : State). (step near (HeardEvent k unit)).state) near_is

    reply : reply_of n was.0 ≡ Coa n (fsn_before_first u.settings.profile)
    reply = replies n was.0 was.1.there (ap has_phase_settled was.1.phase_is)
        ∙ ap (λ (profile : Profile). Coa n (fsn_before_first profile)) (sound.links n was.0 was.1.there).profile

    few_under : k < length (veil (dormant u.settings) n u).links
    few_under = missing.few_under mx my one u f x_past y_past out back n sound_u was.0 was_u h_u v_u counts_u halves_u open_u there.0 there.1 k few_u unit rest front link at_under

    abbrev report_under : Report
    report_under = moving.report mx my one (q (veil (dormant u.settings) n u)) h_u k few_under unit rest front link at_under

    module _ (fit : is_heard s.settings.profile unit ≡ true) (body : List ℕ) (some : brought (part_in unit k link s).accept unit ≡ Some body) where
      abbrev mid : State
      mid = late.mid k n u sound_u was.0 was_u link at_u unit fit

      mid_few : n < length mid.links
      mid_few = within mid.links n was.0 (late.mid_at k n u sound_u was.0 was_u link at_u unit fit).there

      module _ (order : Order) (is : order_of s.settings.profile body ≡ Some order) (over : IsChangeover order) (of : link_of order ≡ n) where
        -- the others are as they were
        others : SameUnder off s (HeardEvent k unit)
        others = same_under off s fits_off (HeardEvent k unit) (λ l e. elsewhere_in l s unit (of_other (order_in s.settings.profile unit) l (apart l e)))
          where
            apart : (l : ℕ) → is_covered (off l) ≡ true → (m : ℕ) → link_in (order_in s.settings.profile unit) ≡ Some m → (m == l) ≡ false
            apart l e m about =
                let a = order_about_link (order_in s.settings.profile unit) m about in
                let same : Some a.the ≡ Some order = sym a.is ∙ brought_in s.settings.profile (part_in unit k link s).accept unit body some ∙ is in
                let the : a.the ≡ order = cc in
                let m_is : m ≡ n = sym a.of ∙ ap link_of the ∙ of in
                ap (λ (x : ℕ). x == l) m_is ∙ told_each n inside ox (λ l c. is_covered c ≡ true → (n == l) ≡ false) (λ e. ft e) (λ l d e. d) l e

        settings_then : then_s.settings ≡ s.settings
        settings_then = settings_stay s (HeardEvent k unit)

        few_then : n < then_s.settings.links
        few_then = subst (λ (settings : Settings). n < settings.links) (sym settings_then) (omega (arith, few_n, sound.count))

        -- as it's seen then, where it stands so to the link
        seen_as : (is : Cover) (cover : Settings → LinkState) → ((settings : Settings) → cover_of settings is ≡ Some (cover settings)) → (now : ℕ → Cover)
            → now n ≡ is → ((l : ℕ) → (l == n) ≡ false → now l ≡ ox l) → veil (cover u.settings) n then_u ≡ seen_under now then_s
        seen_as is cover by now here same =
            ap (veil (cover s.settings) n) others.state
            ∙ ap (λ (settings : Settings). veil (cover settings) n (seen_under off then_s)) (sym settings_then)
            ∙ sym (seen_more off now then_s n is (cover then_s.settings) (told_here n inside ox) here (by then_s.settings)
            (λ l d. same l d ∙ sym (told_other n inside ox l d)) few_then)

        -- no link settles
        none_settle : SettlesSo x_past y_past s then_s
        none_settle l before now =
            absurd (let no : false ≡ true = sym before ∙ late.settled_before k n s sound was.0 was.1 link at unit fit body some order over of is l now in cc)

        settled_then : is_settled n then_s ≡ true
        settled_then = late.settled_after k n s sound was.0 was.1 link at unit fit body some order over of is

        -- and the past is
        abbrev past_with : Answer → Past
        past_with answer = past_heard k unit (y_past.sent k) (Answered answer) x_past

        took_under : is_no_message report_under.took ≡ true
        took_under = ap (λ (o : Option (List ℕ)). is_no_message (takes o (controlled unit k (veil (dormant u.settings) n u) link)).took) some
            ∙ takes_took body order (controlled unit k (veil (dormant u.settings) n u) link) is over

        past_is : past_with (HeardBack report_under) ≡ past_with answer_here
        past_is = past_same k unit (y_past.sent k) report_under (report_here fit body some order is over) x_past took_under (took_here fit body some order is over)
            ∙ ap past_with (sym (answers_here fit body some order is over))

        abbrev with_past : Past → State → Two
        with_past past near = record { near = near; far = f; near_past = past; far_past = y_past; out = out; back = with_units k rest back }

        other_covered : (l : ℕ) → (n == l) ≡ false → is_covered (ox l) ≡ true → is_covered (off l) ≡ true
        other_covered l d e = ap is_covered (told_other n inside ox l (apart_back n l d)) ∙ e

        -- it answers that it accepted nothing, and missed that life
        module _ (settles : after_under ≡ veil (closed u.settings) n mid)
            (answers : veil (closed u.settings) n then_u ≡ queued (Coa n (fsn_before_first u.settings.profile)) after_under) where
          abbrev told : ℕ → Cover
          told = told_at n missed ox

          late_arrived : Arrived told
          late_arrived =
              let m = missing.missed mx my one u f x_past y_past out back n sound_u was.0 was_u h_u v_u counts_u halves_u open_u there.0 there.1 k few_u unit rest front link at_under
              mid mid_few refl settles (veil (closed u.settings) n then_u) answers in
              let seen = seen_as missed closed (λ settings. refl) told (told_here n missed ox) (told_other n missed ox) in
              record {
                links = subst (λ (past : Past). HoldsOf mx my (with_past past (seen_under told then_s))) past_is
                    (subst (λ (near : State). HoldsOf mx my (with_past (past_with (HeardBack report_under)) near)) seen m.links);
                streams = subst (λ (past : Past). Streams emergencies (with_past past (seen_under told then_s))) past_is
                    (subst (λ (near : State). Streams emergencies (with_past (past_with (HeardBack report_under)) near)) seen m.streams);
                counts = subst (λ (near : State). Counts near f) seen m.counts;
                halves = λ e. subst (λ (past : Past). Halves (with_past past (seen_under told then_s))) past_is
                    (subst (λ (near : State). Halves (with_past (past_with (HeardBack report_under)) near)) seen (m.halves e));
                diverts = λ e. none_settle;
                fit = told_each n missed ox (λ l c. is_covered c ≡ true → is_settled l then_s ≡ true) (λ e. settled_then) (λ l d e. others.fits l (other_covered l d e));
                near = told_each n missed ox (λ l c. c ≡ awaited → IsOpen l (seen_under told then_s) f) (λ e. absurd cc)
                    (λ l d e. subst (λ (near : State). IsOpen l near f) seen (m.near_open l d (subst (λ (near : State). IsOpen l near f) after_is (near_open l e))));
                far = λ l open_then. subst (λ (near : State). IsOpen l f near) seen (m.far_open l (subst (λ (near : State). IsOpen l f near) after_is (far_open l open_then)));
                covered = told_each n missed ox (λ l c. is_covered c ≡ true → is_covered (ox l) ≡ true) (λ e. ap is_covered waits) (λ l d e. e);
              }

        -- an acknowledgement it ignores, and awaits the link still
        module _ (settles : after_under ≡ veil (closed u.settings) n mid) (ignores : then_u ≡ mid) where
          still_arrived : Arrived ox
          still_arrived =
              let keep = subst (λ (t : State). KeepBodies u.rows t.rows) ignores (keep_bodies u then_u sound_u.numbered (keeps_messages u (HeardEvent k unit) sound_u.numbered)) in
              let m = missing.ignored mx my one u f x_past y_past out back n sound_u was.0 was_u h_u v_u counts_u halves_u open_u there.0 there.1 k few_u unit rest front link at_under
              mid mid_few refl settles (late.mid_sound k n u sound_u was.0 was_u link at_u unit fit) (late.mid_at k n u sound_u was.0 was_u link at_u unit fit)
              keep (late.mid_untouched k n u sound_u was.0 was_u link at_u unit fit) (late.other k n u sound_u was.0 was_u link at_u unit fit) in
              let seen = ap (veil (dormant u.settings) n) (sym ignores) ∙ seen_as awaited dormant (λ settings. refl) ox waits (λ l d. refl) in
              record {
                links = subst (λ (past : Past). HoldsOf mx my (with_past past (seen_under ox then_s))) past_is
                    (subst (λ (near : State). HoldsOf mx my (with_past (past_with (HeardBack report_under)) near)) seen m.links);
                streams = subst (λ (past : Past). Streams emergencies (with_past past (seen_under ox then_s))) past_is
                    (subst (λ (near : State). Streams emergencies (with_past (past_with (HeardBack report_under)) near)) seen m.streams);
                counts = subst (λ (near : State). Counts near f) seen m.counts;
                halves = λ e. subst (λ (past : Past). Halves (with_past past (seen_under ox then_s))) past_is
                    (subst (λ (near : State). Halves (with_past (past_with (HeardBack report_under)) near)) seen (m.halves e));
                diverts = λ e. none_settle;
                fit = λ l e. split_link l e (n == l) refl;
                near = λ l e. subst (λ (near : State). IsOpen l near f) seen (m.near_open l (subst (λ (near : State). IsOpen l near f) after_is (near_open l e)));
                far = λ l open_then. subst (λ (near : State). IsOpen l f near) seen (m.far_open l (subst (λ (near : State). IsOpen l f near) after_is (far_open l open_then)));
                covered = λ l e. e;
              }
            where
              split_link : (l : ℕ) → is_covered (ox l) ≡ true → (b : Bool) → (n == l) ≡ b → is_settled l then_s ≡ true
              split_link l e true d = subst (λ (m : ℕ). is_settled m then_s ≡ true) (eqb-true n l d) settled_then
              split_link l e false d = others.fits l (other_covered l d e)

      -- each of them
      by_order : (o : Order) → order_in s.settings.profile unit ≡ Some o → IsChangeover o → link_of o ≡ n → Arrived told_then
      by_order o told over of = go o told over of
        where
          is : (o : Order) → order_in s.settings.profile unit ≡ Some o → order_of s.settings.profile body ≡ Some o
          is o told = sym (brought_in s.settings.profile (part_in unit k link s).accept unit body some) ∙ told

          tells : (o : Order) → order_in s.settings.profile unit ≡ Some o → about ≡ about_of (Some o)
          tells o told = about_in s.settings.profile unit ∙ ap about_of told

          shown : (o : Order) → IsChangeover o → order_of s.settings.profile body ≡ Some o → about_of (Some o) ≡ Some n → taken ≡ true
          shown o over here e = ap (λ (a : Answer). takes_order (Answered a)) (answers_here fit body some o here over)
              ∙ ap (λ (o : Option (List ℕ)). is_order (takes o (controlled unit k s link)).took) some
              ∙ leaves_took body o n (controlled unit k s link) was.0 (late.mid_at k n s sound was.0 was.1 link at unit fit).there here e

          none_told : about ≡ None → (l : ℕ) → told_then l ≡ ox l
          none_told e l = none_missed taken about ox (λ shown m f. none_at m (sym e ∙ f)) l

          go : (o : Order) → order_in s.settings.profile unit ≡ Some o → IsChangeover o → link_of o ≡ n → Arrived told_then
          go (Coo m fsn) told over of =
              let here : order_of s.settings.profile body ≡ Some (Coo n fsn) = is (Coo m fsn) told ∙ ap (λ (x : ℕ). Some (Coo x fsn)) of in
              retold (told_at n missed ox) told_then (one_missed n (shown (Coo n fsn) tt here refl) (tells (Coo m fsn) told ∙ ap (λ (x : ℕ). Some x) of) waits)
              (late_arrived (Coo n fsn) here tt refl (late.under_coo k n u sound_u was.0 was_u link at_u unit fit body some fsn here)
              (late.late_coo k n u sound_u was.0 was_u link at_u unit fit body some fsn here reply))
          go (Eco m) told over of =
              let here : order_of s.settings.profile body ≡ Some (Eco n) = is (Eco m) told ∙ ap (λ (x : ℕ). Some (Eco x)) of in
              retold (told_at n missed ox) told_then (one_missed n (shown (Eco n) tt here refl) (tells (Eco m) told ∙ ap (λ (x : ℕ). Some x) of) waits)
              (late_arrived (Eco n) here tt refl (late.under_eco k n u sound_u was.0 was_u link at_u unit fit body some here)
              (late.late_eco k n u sound_u was.0 was_u link at_u unit fit body some here reply))
          go (Coa m fsn) told over of =
              let here : order_of s.settings.profile body ≡ Some (Coa n fsn) = is (Coa m fsn) told ∙ ap (λ (x : ℕ). Some (Coa x fsn)) of in
              retold ox told_then (none_told (tells (Coa m fsn) told))
              (still_arrived (Coa n fsn) here tt refl (late.under_coa k n u sound_u was.0 was_u link at_u unit fit body some fsn here)
              (late.ignores_coa k n u sound_u was.0 was_u link at_u unit fit body some fsn here))
          go (Eca m) told over of =
              let here : order_of s.settings.profile body ≡ Some (Eca n) = is (Eca m) told ∙ ap (λ (x : ℕ). Some (Eca x)) of in
              retold ox told_then (none_told (tells (Eca m) told))
              (still_arrived (Eca n) here tt refl (late.under_eca k n u sound_u was.0 was_u link at_u unit fit body some here)
              (late.ignores_eca k n u sound_u was.0 was_u link at_u unit fit body some here))
          go (Cbd m code) told over of = absurd over
          go (Cba m code) told over of = absurd over

  -- EACH UNIT
  abbrev order_there : Option Order
  order_there = order_in s.settings.profile unit

  pub arrives : Arrived told_then
  arrives = by_fit (is_heard s.settings.profile unit) refl
    where
      accept : Bool
      accept = (part_in unit k link s).accept

      -- it's elsewhere for each covered link
      all_within : ((n : ℕ) → link_in order_there ≡ Some n → ox n ≡ inside) → Arrived told_then
      all_within within = as_they_were (same_under ox s fits (HeardEvent k unit)
          (λ l e. elsewhere_in l s unit (of_other order_there l (λ n is. off_other n ox l (within n is) e))))
          (λ shown n is. within n (about_link order_there n (sym (about_in s.settings.profile unit) ∙ is)))

      by_cover : is_heard s.settings.profile unit ≡ true → (body : List ℕ) → brought accept unit ≡ Some body → (n : ℕ) → link_in order_there ≡ Some n
          → (c : Cover) → ox n ≡ c → Arrived told_then
      by_cover fit body some n is inside e = all_within (λ m f. ap ox (sym (same_number n m (sym is ∙ f))) ∙ e)
      by_cover fit body some n is missed e =
          let a = order_about_link order_there n is in
          absurd (not_missed fit body some a.the (sym (brought_in s.settings.profile accept unit body some) ∙ a.is) a.over (ap ox a.of ∙ e))
      by_cover fit body some n is awaited e = let a = order_about_link order_there n is in by_order n e fit body some a.the a.is a.over a.of

      by_about : is_heard s.settings.profile unit ≡ true → (body : List ℕ) → brought accept unit ≡ Some body → (o : Option ℕ) → link_in order_there ≡ o → Arrived told_then
      by_about fit body some None e = all_within (λ n f. none_at n (sym e ∙ f))
      by_about fit body some (Some n) e = by_cover fit body some n e (ox n) refl

      by_body : is_heard s.settings.profile unit ≡ true → (o : Option (List ℕ)) → brought accept unit ≡ o → Arrived told_then
      by_body fit None e =
          let answer = ap (λ (o : Outcome). o.answer) (under_veils.controls_here ox s fits k link at unit fit) in
          let not_taken : taken ≡ false = ap (λ (a : Answer). takes_order (Answered a)) answer ∙ ap (λ (o : Option (List ℕ)). is_order (takes o (controlled unit k s link)).took) e in
          as_they_were (under_veils.unaccepted_same ox s fits k link at unit sound fit e) (λ shown. ft (sym not_taken ∙ shown))
      by_body fit (Some body) e = by_about fit body e (link_in order_there) refl

      by_fit : (b : Bool) → is_heard s.settings.profile unit ≡ b → Arrived told_then
      by_fit true fit = by_body fit (brought accept unit) refl
      by_fit false unfit =
          let not_taken : taken ≡ false = ap (λ (a : Answer). takes_order (Answered a)) (under_veils.answer_refused ox s fits k link at unit unfit) in
          as_they_were (under_veils.unheard ox s fits k link at unit unfit) (λ shown. ft (sym not_taken ∙ shown))
