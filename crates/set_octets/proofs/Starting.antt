-- A FISU OF AN END THAT SENT AND ACCEPTED NOTHING changes nothing where nothing was heard (`first_fisus`), by
-- unfolding; and nothing was heard till something is (`none_heard`): a walk of small changes, each of which leaves a
-- link that is up afterwards as it was, with what is unacknowledged on it (`Stays`).
use Rattle.std.proofs.Common.{refl, sym, subst, add-zero, arith, ap, ◌≡◌, ◌≢◌, ◌∙◌, ℕ, ◌+◌, ◌-◌, ◌%◌, ◌<◌, ◌≤◌, ◌==◌, ◌⊎◌, inl, inr, Bool, true, false, nat_lt, if◌then◌else◌, List, length, Option, Some, None, slice_get, slice_set}
use Rattle.std.proofs.lemmas.Bool.Decides.{nat_tests}
use Rattle.std.proofs.lemmas.List.{length-map}
use Rattle.l2_basic.specs.Basic as basic
use Rattle.l2_pcr.specs.Pcr as cyclic
use Rattle.l2_units.specs.Grammar.{head_of as header_in}
use Rattle.l2_units.specs.declared.unit.Header.{Header}
use Rattle.l2_units.specs.declared.unit.Unit.{Unit as SignalUnit}
use Rattle.l2_units.specs.declared.profile.Profile.{Profile}
use Rattle.l2_units.specs.declared.profile.Profile.TheVariants.{Narrow, Wide}
use Rattle.l2_window.specs.Window.{WindowState, distance_to, fsn_before_first, fsn_count}
use Rattle.l2_window.specs.Control.{bsn_of}
use Rattle.set_events.specs.declared.config.Method.{Method}
use Rattle.set_events.specs.declared.event.Event.{Event}
use Rattle.set_model.specs.declared.phase.Phase.TheVariants.{Up, Settled}
use Rattle.set_model.specs.Changeover.{fate_on, out_of_service}
use Rattle.set_model.specs.Control.{Choice, Control, Basic, Cyclic, again, first, fill, control_after, control_heard, part_of, start_of}
use Rattle.set_model.specs.Rows.{Fate, Row, Discarded, NoAnswer, Unacked, Waiting, is_back, is_back_to, is_on, is_parked, is_unacked, is_waiting, moved, numbers, octets_in, stream_of, unack}
use Rattle.set_model.specs.Sound.{IsInRange, IsSound}
use Rattle.set_model.specs.State.{LinkState, State, fate_at, given, has_phase_up, late_at, link_is_up, target, window_of, On}
use Rattle.set_model.specs.Step.{HeardBack, NotUp, Outcome, choice_in, controlled, controls, has_numbers, heard, is_msu, next, offered, one_if, part_in, refused, opened, opened_link, risen, risen_link, rows_sent, step, with_known}
use Rattle.set_route.specs.Routing.{place_of}
use Rattle.set_model.proofs.Ahead.{put_apart}
use Rattle.set_model.proofs.Events.{appended_out}
use Rattle.set_model.proofs.Lists.{at_set, set_same}
use Rattle.set_model.proofs.Places.{apart, false_true, itself}
use Rattle.set_model.proofs.Rows.{moved_same, turned_same, where_turned}
use Rattle.set_model.proofs.Staying.{not_sent, offered_out}
use Rattle.set_model.proofs.Walk.{IsAt, KeptBy, WalkedBy, step_walks}
use Rattle.set_octets.specs.Starting.{IsFirstHead, nothing_new, HasHeardNone, IsUnheard, HearsNoneYet, IsNotHeardOn, FirstFisusChangeNothing, NoneIsHeardTillThen}

-- WHAT STAYS: a link that is up afterwards was so before, with the same unacknowledged messages, and with the same control.
record Was (n : ℕ) (link : LinkState) (s t : State) : Type 0 where
  pub old : LinkState
  pub there : slice_get s.links n ≡ Some old
  pub up : has_phase_up old.phase ≡ true
  pub acked : link.acked ≡ old.acked
  pub control : link.control ≡ old.control
  pub rows : unack n t.rows ≡ unack n s.rows

record Stays (n : ℕ) (s t : State) : Type 0 where
  pub each : (link : LinkState) → slice_get t.links n ≡ Some link → has_phase_up link.phase ≡ true → Was n link s t

module _ (n : ℕ) where
  stays_then : (a b c : State) → Stays n a b → Stays n b c → Stays n a c
  stays_then a b c p q = record {
    each = λ link there up. let y = q.each link there up in let x = p.each y.old y.there y.up in
        record { old = x.old; there = x.there; up = x.up; acked = y.acked ∙ x.acked; control = y.control ∙ x.control; rows = y.rows ∙ x.rows };
  }

  same_was : (s t : State) (link : LinkState) → slice_get s.links n ≡ Some link → has_phase_up link.phase ≡ true → unack n t.rows ≡ unack n s.rows → Was n link s t
  same_was s t link there up rows = record { old = link; there = there; up = up; acked = refl; control = refl; rows = rows }

  stays_links : (s t : State) → t.links ≡ s.links → unack n t.rows ≡ unack n s.rows → Stays n s t
  stays_links s t links rows = record { each = λ link there up. same_was s t link (ap (λ (ls : List LinkState). slice_get ls n) (sym links) ∙ there) up rows }

  -- another link than one that is up
  off : (m : ℕ) (link other : LinkState) (s : State) → slice_get s.links m ≡ Some link → has_phase_up link.phase ≡ false
      → slice_get s.links n ≡ Some other → has_phase_up other.phase ≡ true → (m == n) ≡ false
  off m link other s at down there up = apart m n (λ (e : m ≡ n).
      let same : Some other ≡ Some link = sym there ∙ ap (λ (k : ℕ). slice_get s.links k) (sym e) ∙ at in
      let no : true ≡ false = sym up ∙ ap (λ (o : Option LinkState). link_is_up o) same ∙ down in absurd cc)

  -- a link changes to one that isn't up
  stays_set : (m : ℕ) (link' : LinkState) (s t : State) → has_phase_up link'.phase ≡ false → t.links ≡ slice_set s.links m link'
      → ((m == n) ≡ false → unack n t.rows ≡ unack n s.rows) → Stays n s t
  stays_set m link' s t down links rows = record {
    each = λ link there up. go link up (at_set s.links m n link' link (ap (λ (ls : List LinkState). slice_get ls n) (sym links) ∙ there));
  }
    where
      go : (link : LinkState) → has_phase_up link.phase ≡ true → ((n ≡ m) × (link ≡ link')) ⊎ ((n ≢ m) × (slice_get s.links n ≡ Some link))
          → Was n link s t
      go link up (inl same) = let no : true ≡ false = sym up ∙ ap (λ (l : LinkState). has_phase_up l.phase) same.1 ∙ down in absurd cc
      go link up (inr other) = same_was s t link other.1 up (rows (apart m n (λ (e : m ≡ n). other.0 (sym e))))

  -- what changes on a link that isn't up
  stays_off : (m : ℕ) (link : LinkState) (s t : State) → slice_get s.links m ≡ Some link → has_phase_up link.phase ≡ false → t.links ≡ s.links
      → ((m == n) ≡ false → unack n t.rows ≡ unack n s.rows) → Stays n s t
  stays_off m link s t at down links rows = record {
    each = λ other there up.
        let is : slice_get s.links n ≡ Some other = ap (λ (ls : List LinkState). slice_get ls n) (sym links) ∙ there in
        same_was s t other is up (rows (off m link other s at down is up));
  }

  -- rows that move to wait, to be held or to be parked
  unsent_moved : (test : Fate → Bool) (fate : Row → Fate) (rows : List Row) → ((x : Row) → is_unacked n (fate x) ≡ false)
      → ((f : Fate) → test f ≡ true → is_unacked n f ≡ false) → unack n (moved test fate rows) ≡ unack n rows
  unsent_moved test fate rows comes goes = moved_same test (is_unacked n) fate rows comes goes

  -- one that opens is as it was
  stays_opened : (m : ℕ) (link : LinkState) (s : State) → IsAt m link Up s → Stays n s (opened m link s)
  stays_opened m link s at = record { each = λ other there up. go other up (at_set s.links m n (opened_link link) other there) }
    where
      rows : unack n (opened m link s).rows ≡ unack n s.rows
      rows = unsent_moved is_parked _ s.rows (λ x. refl) (λ f e. grind arith)

      go : (other : LinkState) → has_phase_up other.phase ≡ true → ((n ≡ m) × (other ≡ opened_link link)) ⊎ ((n ≢ m) × (slice_get s.links n ≡ Some other))
          → Was n other s (opened m link s)
      go other up (inl same) = record {
        old = link;
        there = ap (slice_get s.links) same.0 ∙ at.there;
        up = ap has_phase_up at.phase_is;
        acked = ap (λ (l : LinkState). l.acked) same.1;
        control = ap (λ (l : LinkState). l.control) same.1;
        rows = rows;
      }
      go other up (inr apart_is) = same_was s (opened m link s) other apart_is.1 up rows

  small : (Known : ℕ → Type 0) (May : Type 0) → KeptBy Known May (Stays n)
  small Known May = record {
    same = λ s. record { each = λ link there up. same_was s s link there up refl };
    after = stays_then;
    delivers = λ body s. stays_links s _ refl refl;
    queues = λ order s. stays_links s _ refl (put_apart (given s) s.rows _ (fate_on (target s.links)) (is_unacked n) (not_sent n (target s.links)));
    leaves = λ blind m link s known at. stays_set m _ s _ refl refl
        (λ d. let left = out_of_service blind m link s in
        unsent_moved (is_back_to m) _ s.rows (λ x. offered_out n (place_of (stream_of x.body) left.routing) left) (λ f e. grind arith));
    acknowledges = λ count m link s known at few changes. stays_set m _ s _ (ap has_phase_up at.phase_is) refl (λ d. (changes.others n d).unack_same);
    gives_up = λ sent cause m link s known at changes. stays_off m link s _ at.there (ap has_phase_up at.phase_is) refl (λ d. (changes.others n d).unack_same);
    gives_up_orders = λ cause m link s known at changes. stays_off m link s _ at.there (ap has_phase_up at.phase_is) refl (λ d. (changes.others n d).unack_same);
    takes_back = λ order from s unsent known back. stays_links s _ refl (back.unack_same n);
    moves_off = λ told m link s known at. stays_set m _ s _ refl refl
        (λ d. unsent_moved (is_on m) _ s.rows (λ x. not_sent n (target s.links)) (λ f e. grind arith));
    answers = λ m link s known at. stays_set m _ s _ (ap has_phase_up at.phase_is) refl (λ d. refl);
    withdraws = λ count m link s known at changes. stays_links s _ refl
        (turned_same (is_waiting m) (is_unacked n) (Discarded NoAnswer) refl (λ f e. grind arith) count s.rows);
    declares = λ may home alternative s up can. stays_links s _ refl (appended_out (given s) s.rows _ (Waiting alternative) (is_unacked n) refl);
    redeclares = λ code via s due. stays_links s _ refl (appended_out (given s) s.rows _ (fate_at (On via) s) (is_unacked n) (offered_out n (On via) s));
    acknowledges_back = λ code s known. stays_links s _ refl (unsent_moved (is_back code) _ s.rows (λ x. refl) (λ f e. grind arith));
    releases = λ code s known. stays_links s _ refl (unsent_moved (is_back code) _ s.rows (λ x. refl) (λ f e. grind arith));
    opens = λ m link s known at shut unparked. stays_opened m link s at;
  }

  rests : (s t : State) → HearsNoneYet n s → Stays n s t → HearsNoneYet n t
  rests s t h stays link there up =
      let x = stays.each link there up in
      let u = h x.old x.there x.up in
      record {
        acked = x.acked ∙ u.acked;
        control = subst (λ (c : Control). HasHeardNone c (length (unack n t.rows))) (sym x.control)
            (subst (λ (rows : List Row). HasHeardNone x.old.control (length rows)) (sym x.rows) u.control);
      }

numbered : (rows : List Row) → length (numbers rows) ≡ length rows
numbered rows = grind (arith, length-map)

-- WHAT IS SENT leaves what was heard.
-- a first sending makes no fewer unacknowledged ones
more_sent : (choice : Choice) (n : ℕ) (rows : List Row) → length (unack n rows) ≤ length (unack n (rows_sent choice n rows))
more_sent first n rows =
    where_turned (is_waiting n) (Unacked n) (λ xs ys. length (unack n xs) ≤ length (unack n ys)) (omega arith)
    (λ x xs ys p. grind arith) (λ x xs ys h p. grind arith) 1 rows
more_sent (again place) n rows = omega arith
more_sent fill n rows = omega arith

unheard_sent : (choice : Choice) (octets : ℕ) (control : Control) (window : WindowState) (unacked more : ℕ)
    → length window.unacked ≡ unacked → unacked ≤ more → HasHeardNone control unacked → HasHeardNone (control_after choice octets control window) more
unheard_sent (again place) octets (Basic state) window unacked more long few h = h
unheard_sent first octets (Basic state) window unacked more long few h = h
unheard_sent fill octets (Basic state) window unacked more long few h = h
unheard_sent (again place) octets (Cyclic state) window unacked more long few h = (h.0, λ e. grind (arith, nat_tests, long, few, e))
unheard_sent first octets (Cyclic state) window unacked more long few h = (h.0, λ e. omega (arith, few, h.1 e))
unheard_sent fill octets (Cyclic state) window unacked more long few h = (h.0, λ e. omega (arith, few, h.1 e))

unheard_first : (method : Method) → HasHeardNone (start_of method) 0
unheard_first Method.Basic = refl
unheard_first (Method.Cyclic n1 n2) = (refl, λ e. absurd cc)

-- THE WALK.
module _ (n : ℕ) (s : State) (h : HearsNoneYet n s) where
  -- what changes on a link m that is up, and nothing of others
  on_one : (m : ℕ) (link' : LinkState) (t u : State) → HearsNoneYet n t → u.links ≡ slice_set t.links m link'
      → ((m == n) ≡ false → unack n u.rows ≡ unack n t.rows)
      → (n ≡ m → has_phase_up link'.phase ≡ true → IsUnheard link' (length (unack n u.rows))) → HearsNoneYet n u
  on_one m link' t u h links rows own link there up =
      go link up (at_set t.links m n link' link (ap (λ (ls : List LinkState). slice_get ls n) (sym links) ∙ there))
    where
      go : (link : LinkState) → has_phase_up link.phase ≡ true → ((n ≡ m) × (link ≡ link')) ⊎ ((n ≢ m) × (slice_get t.links n ≡ Some link))
          → IsUnheard link (length (unack n u.rows))
      go link up (inl same) =
          subst (λ (l : LinkState). IsUnheard l (length (unack n u.rows))) (sym same.1)
          (own same.0 (sym (ap (λ (l : LinkState). has_phase_up l.phase) same.1) ∙ up))
      go link up (inr other) =
          subst (λ (rows : List Row). IsUnheard link (length rows)) (sym (rows (apart m n (λ (e : m ≡ n). other.0 (sym e)))))
          (h link other.1 up)

  abbrev sent_link : ℕ → LinkState → State → LinkState
  sent_link m link t = record link { control = control_after (choice_in m link t) (octets_in (unack m t.rows)) link.control (window_of m link t.rows) }

  abbrev heard_link : ℕ → SignalUnit → LinkState → LinkState
  heard_link m unit link = record link {
    acked = link.acked + (part_in unit m link s).acked;
    accepted = link.accepted + one_if (part_in unit m link s).accept;
    control = control_heard link.control (window_of m link s.rows) (header_in unit) (is_msu unit);
  }

  walked : (event : Event) → IsNotHeardOn n event → WalkedBy s event (Stays n) (HearsNoneYet n)
  walked event elsewhere = record {
    small = small n _ _;
    unmoved = h;
    rests = λ t u st r. rests n t u st r;
    offers = λ body e free.
        let there = place_of (stream_of body) s.routing in
        let t = (offered None s body).state in
        rests n s t h (stays_links n s t refl (appended_out (given s) s.rows body (fate_at there s) (is_unacked n) (offered_out n there s)));
    takes = λ body rest e there. let t : State = record s { inbox = rest } in rests n s t h (stays_links n s t refl refl);
    sends = λ m link t e r at changes.
        let th = rests n s t h r in
        on_one m (sent_link m link t) t (next m t link).state th refl (λ d. (changes.others n d).unack_same)
        (λ (is : n ≡ m) up. sent m link t th at is);
    hears = λ m unit link e heard at changes.
        let d : (m == n) ≡ false = subst (IsNotHeardOn n) e elsewhere in
        on_one m (heard_link m unit link) s (controlled unit m s link) h refl (λ d. (changes.others n d).unack_same)
        (λ (is : n ≡ m) up. false_true (m == m) (subst (λ (k : ℕ). (m == k) ≡ false) is d) (itself m));
    rises = λ m link e at. on_one m (risen_link s.settings.profile s.settings.method (late_at m s)) s (risen m s) h refl (λ d. refl)
        (λ (is : n ≡ m) up. record { acked = refl; control = started (start_of s.settings.method) (length (unack n s.rows)) (unheard_first s.settings.method) });
  }
    where
      sent : (m : ℕ) (link : LinkState) (t : State) → HearsNoneYet n t → IsAt m link Up t → n ≡ m
          → IsUnheard (sent_link m link t) (length (unack n (rows_sent (choice_in m link t) m t.rows)))
      sent m link t th at is =
          let was = th link (ap (slice_get t.links) is ∙ at.there) (ap has_phase_up at.phase_is) in
          record {
            acked = was.acked;
            control = unheard_sent (choice_in m link t) (octets_in (unack m t.rows)) link.control (window_of m link t.rows) (length (unack n t.rows))
                (length (unack n (rows_sent (choice_in m link t) m t.rows)))
                (numbered (unack m t.rows) ∙ ap (λ (k : ℕ). length (unack k t.rows)) (sym is))
                (subst (λ (k : ℕ). length (unack k t.rows) ≤ length (unack k (rows_sent (choice_in m link t) m t.rows))) (sym is)
                (more_sent (choice_in m link t) m t.rows)) was.control;
          }

      started : (control : Control) (more : ℕ) → HasHeardNone control 0 → HasHeardNone control more
      started (Basic state) more h = h
      started (Cyclic state) more h = (h.0, λ e. let no = h.1 e in omega (arith, no))

pub none_heard : NoneIsHeardTillThen
none_heard n s event elsewhere h = step_walks s (Stays n) (HearsNoneYet n) event (walked n s h event elsewhere)

-- THE FISU IS HEARD.
module _ (profile : Profile) (window : WindowState) (head : Header) (p : window.profile ≡ profile) (last : window.last ≡ fsn_before_first profile)
    (says : IsFirstHead profile head) where
  near : distance_to window head.bsn ≡ 0
  near = rw (p, last, says.bsn) (none profile)
    where
      none : (p : Profile) → (fsn_before_first p + fsn_count p - fsn_before_first p) % fsn_count p ≡ 0
      none Narrow = refl
      none Wide = refl

  record Heard (control : Control) : Type 0 where
    pub acked : (part_of control window head false).acked ≡ 0
    pub asked : (part_of control window head false).asked ≡ false
    pub resend : (part_of control window head false).resend ≡ false
    pub fault : (part_of control window head false).fault ≡ None
    pub accept : (part_of control window head false).accept ≡ false
    pub same : control_heard control window head false ≡ control

  normal : nat_lt (length window.unacked) (distance_to window head.bsn) ≡ false
  normal = rw near (grind (arith, nat_tests))

  bsn_then : (p : Profile) → (0 + fsn_before_first p) % fsn_count p ≡ fsn_before_first p
  bsn_then Narrow = refl
  bsn_then Wide = refl

  repeated : (head.fsn == bsn_of 0 window) ≡ true
  repeated = rw (p, says.fsn, bsn_then profile) (itself (fsn_before_first profile))

  heard_basic : (cursor : ℕ) → Heard (Basic (record basic.start { cursor = cursor }))
  heard_basic cursor = record {
    acked = grind (arith, normal, near, says.bib, says.fib);
    asked = grind (arith, normal, repeated, says.bib, says.fib);
    resend = grind (arith, normal, says.bib, says.fib);
    fault = grind (arith, normal, says.bib, says.fib);
    accept = grind (arith, normal);
    same = grind (arith, normal, near, repeated, says.bib, says.fib);
  }

  heard_cyclic : (n1 n2 place : ℕ) (forced : Bool) → (place ≢ 0 → place < length window.unacked) → (forced ≡ true → place < length window.unacked)
      → Heard (Cyclic (record (cyclic.start n1 n2) { place = place; forced = forced }))
  heard_cyclic n1 n2 place forced range on = record {
    acked = grind (arith, normal, near);
    asked = refl;
    resend = refl;
    fault = grind (arith, normal);
    accept = grind (arith, normal);
    same = grind (arith, nat_tests, normal, near, range, on);
  }

  heard_so : (control : Control) → IsInRange control (length window.unacked) → HasHeardNone control (length window.unacked) → Heard control
  heard_so (Basic state) range h =
      subst (λ (b : basic.BasicState). Heard (Basic b)) (ap (λ (b : basic.BasicState). record b { cursor = state.cursor }) (sym h)) (heard_basic state.cursor)
  heard_so (Cyclic state) range h =
      subst (λ (c : cyclic.PcrState). Heard (Cyclic c))
      (ap (λ (c : cyclic.PcrState). record c { place = state.place; forced = state.forced }) (sym h.0))
      (heard_cyclic state.n1 state.n2 state.place state.forced range h.1)

bsn_at : (p : Profile) → (0 + fsn_before_first p) % fsn_count p ≡ fsn_before_first p
bsn_at Narrow = refl
bsn_at Wide = refl

module _ (n : ℕ) (head : Header) (s : State) (sound : IsSound s) (h : HearsNoneYet n s) (says : IsFirstHead s.settings.profile head) where
  low : (p : Profile) → IsFirstHead p head → has_numbers p head ≡ true
  low Narrow says = grind (arith, says)
  low Wide says = grind (arith, says)

  abbrev Nothing : Outcome → Type 0
  Nothing o = (o.answer ≡ HeardBack nothing_new) × (o.state ≡ s)

  controls_nothing : (link : LinkState) → slice_get s.links n ≡ Some link → has_phase_up link.phase ≡ true
      → Nothing (controls (SignalUnit.Fisu head) n s link)
  controls_nothing link there up =
      let l = sound.links n link there in
      let u = h link there up in
      let w = window_of n link s.rows in
      let long : length w.unacked ≡ length (unack n s.rows) = numbered (unack n s.rows) in
      let last : w.last ≡ fsn_before_first s.settings.profile = rw (u.acked, l.profile) (bsn_at s.settings.profile) in
      let is = heard_so s.settings.profile w head l.profile last says link.control
      (subst (IsInRange link.control) (sym long) (l.in_range up)) (subst (HasHeardNone link.control) (sym long) u.control) in
      grind (arith, is, set_same s.links n link there, add-zero)

  heard_nothing : (found : Option LinkState) → slice_get s.links n ≡ found → link_is_up found ≡ true
      → Nothing (with_known found s (λ link. if has_phase_up link.phase then heard (SignalUnit.Fisu head) n s link else refused s NotUp))
  heard_nothing None there up = absurd cc
  heard_nothing (Some link) there up = rw (up, low s.settings.profile says) (controls_nothing link there up)

pub first_fisus : FirstFisusChangeNothing
unfolding step
first_fisus n head s sound up h says =
    let is = heard_nothing n head s sound h says (slice_get s.links n) refl up in record { answer = is.0; state = is.1 }
