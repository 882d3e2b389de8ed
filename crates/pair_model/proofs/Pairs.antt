-- EVERY STEP KEEPS THE TIE OF EACH LINK: two ends, seen from the one that acts. `HoldsOf` is what holds of two ends
-- (`Two`): both are sound, of their methods and one profile, with as many links and lines, and each link is tied.
-- `event_holds` says that an event at one end keeps all but the ties, `asks` that one which has no step of its own
-- keeps these too, as each link goes on by it (Following.antt, Counts.antt). Case by case on the event; that settings
-- stay is a walk of small changes (`settings_stay`). Moving.antt has the steps on the lines, and Runs.antt the
-- induction; pair_changeover and pair_streams speak in these words.
use Rattle.std.proofs.Common.{refl, ◌≡◌, ◌≢◌, ◌∙◌, ap, sym, ℕ, ◌<◌, ◌==◌, false, List, length}
use Rattle.l2_units.specs.declared.unit.Unit.{Unit as SignalUnit}
use Rattle.pair_steps.specs.Lines.{units_of, units_on, with_units}
use Rattle.set_events.specs.declared.config.Method.{Method}
use Rattle.set_events.specs.declared.event.Event.{Event}
use Rattle.set_events.specs.declared.event.Event.TheVariants.{Offer, Take, Find, Next, Heard, Up as UpEvent, Down as DownEvent, DownBlind, NoAnswer, Timed, Restore, Redeclare, BackTimeout, Test}
use Rattle.set_model.specs.Sound.{IsSound}
use Rattle.set_model.specs.State.{State, Settings}
use Rattle.set_model.specs.Step.{step}
use Rattle.set_model.proofs.Walk.{link_count_stays, KeptBy, step_walks}
use Rattle.set_model.proofs.Lists.{get_set_same, get_set_other}
use Rattle.set_model.proofs.Places.{false_true, itself}
use Rattle.set_model.proofs.Soundness.{step_sound}
use Rattle.set_model.proofs.Staying.{keeps_messages}
use Rattle.pair_steps.specs.declared.step.Shown.{Shown}
use Rattle.pair_model.specs.World.{has_own_step}
use Rattle.pair_model.specs.Run.{Past, past_asked}
use Rattle.pair_model.proofs.Counts.{IsApart, count_stays}
use Rattle.pair_model.proofs.Following.{Follows, offer_follows, take_follows, find_follows, down_follows, blind_follows, unanswered_follows, timed_follows, restore_follows, redeclare_follows, timeout_follows, test_follows}
use Rattle.pair_model.proofs.Tied.{KeepBodies, keep_bodies, Side, Tied, turned, follows}

pub record Two : Type 0 where
  pub near : State
  pub far : State
  pub near_past : Past
  pub far_past : Past
  pub out : List (List SignalUnit)
  pub back : List (List SignalUnit)

abbrev pub swapped : Two → Two
swapped p = record { near = p.far; far = p.near; near_past = p.far_past; far_past = p.near_past; out = p.back; back = p.out }

abbrev pub side : ℕ → State → Past → Side
side l s past = record { state = s; sent = past.sent l; taken = past.taken l }

abbrev pub TiedAt : ℕ → Method → Method → Two → Type 0
TiedAt l mx my p = Tied l mx my (side l p.near p.near_past) (side l p.far p.far_past) (units_on l p.out) (units_on l p.back)

pub record HoldsOf (mx my : Method) (p : Two) : Type 0 where
  pub near_sound : IsSound p.near
  pub far_sound : IsSound p.far
  pub near_method : p.near.settings.method ≡ mx
  pub far_method : p.far.settings.method ≡ my
  pub profiles : p.far.settings.profile ≡ p.near.settings.profile
  pub far_links : length p.far.links ≡ length p.near.links
  pub out_lines : length p.out ≡ length p.near.links
  pub back_lines : length p.back ≡ length p.near.links
  pub ties : (l : ℕ) → TiedAt l mx my p

pub swap : (mx my : Method) (p : Two) → HoldsOf mx my p → HoldsOf my mx (swapped p)
swap mx my p h = record {
  near_sound = h.far_sound;
  far_sound = h.near_sound;
  near_method = h.far_method;
  far_method = h.near_method;
  profiles = sym h.profiles;
  far_links = sym h.far_links;
  out_lines = h.back_lines ∙ sym h.far_links;
  back_lines = h.out_lines ∙ sym h.far_links;
  ties = λ l. turned l mx my _ _ _ _ (h.ties l);
}

-- LINES: the one that changes, and the others
pub on_set : (k : ℕ) (units : List SignalUnit) (lines : List (List SignalUnit)) → k < length lines → units_on k (with_units k units lines) ≡ units
on_set k units lines few = ap units_of (get_set_same lines k units few)

pub on_other : (l k : ℕ) (units : List SignalUnit) (lines : List (List SignalUnit)) → (k == l) ≡ false
    → units_on l (with_units k units lines) ≡ units_on l lines
on_other l k units lines d = ap units_of (get_set_other lines k l units (λ same. false_true (k == l) d (rw same (itself l))))

pub no_other : (k l : ℕ) → (k == l) ≡ false → k ≢ l
no_other k l d = λ same. false_true (k == l) d (rw same (itself l))

pub like : (l : ℕ) (mx my : Method) (x x' y y' : Side) (out out' back back' : List SignalUnit) → x' ≡ x → y' ≡ y
    → out' ≡ out → back' ≡ back → Tied l mx my x y out back → Tied l mx my x' y' out' back'
like l mx my x x' y y' out out' back back' a b c d t = rw (a, b, c, d) t

-- the settings stay
small_settings : (Known : ℕ → Type 0) (May : Type 0) → KeptBy Known May (λ s t. t.settings ≡ s.settings)
small_settings Known May = record {
  same = λ s. refl;
  after = λ a b c p q. q ∙ p;
  delivers = λ body s. refl;
  queues = λ order s. refl;
  leaves = λ blind n link s known at. refl;
  acknowledges = λ count n link s known at few g. refl;
  gives_up = λ sent cause n link s known at g. refl;
  gives_up_orders = λ cause n link s known at g. refl;
  takes_back = λ order from s unsent known g. refl;
  moves_off = λ told n link s known at. refl;
  answers = λ n link s known at. refl;
  withdraws = λ count n link s known at g. refl;
  declares = λ may home alternative s up can. refl;
  redeclares = λ code via s due. refl;
  acknowledges_back = λ code s known. refl;
  releases = λ code s known. refl;
  opens = λ n link s known at shut u. refl;
}

pub settings_stay : (s : State) (event : Event) → (step s event).state.settings ≡ s.settings
settings_stay s event = step_walks s (λ t u. u.settings ≡ t.settings) (λ t. t.settings ≡ s.settings) event (record {
  small = small_settings _ _;
  unmoved = refl;
  rests = λ t u p q. q ∙ p;
  offers = λ body e none. refl;
  takes = λ body rest e there. refl;
  sends = λ n link t e same at g. same;
  hears = λ n unit link e fits at g. refl;
  rises = λ n link e at. refl;
})

-- AN EVENT at the near end
module _ (mx my : Method) (p : Two) (h : HoldsOf mx my p) where
  module _ (event : Event) where
    abbrev pub then_near : State
    then_near = (step p.near event).state

    pub keeps : KeepBodies p.near.rows then_near.rows
    keeps = keep_bodies p.near then_near h.near_sound.numbered (keeps_messages p.near event h.near_sound.numbered)

    pub goes_on : (l : ℕ) → IsApart l event → Follows l p.near then_near
        → Tied l mx my (side l then_near p.near_past) (side l p.far p.far_past) (units_on l p.out) (units_on l p.back)
    goes_on l apart f = follows l mx my (side l p.near p.near_past) (side l p.far p.far_past) (units_on l p.out)
        (units_on l p.back) then_near keeps (count_stays l p.near event apart) f (h.ties l)

    -- all but the ties
    pub event_holds : (past : Past) (out back : List (List SignalUnit)) → length out ≡ length p.out → length back ≡ length p.back
        → ((l : ℕ) → Tied l mx my (side l then_near past) (side l p.far p.far_past) (units_on l out) (units_on l back))
        → HoldsOf mx my (record { near = then_near; far = p.far; near_past = past; far_past = p.far_past; out = out; back = back })
    event_holds past out back lo lb ties =
        let count = link_count_stays p.near event in
        record {
          near_sound = step_sound p.near event h.near_sound;
          far_sound = h.far_sound;
          near_method = ap (λ (s : Settings). s.method) (settings_stay p.near event) ∙ h.near_method;
          far_method = h.far_method;
          profiles = h.profiles ∙ sym (ap (λ (s : Settings). s.profile) (settings_stay p.near event));
          far_links = h.far_links ∙ sym count;
          out_lines = lo ∙ h.out_lines ∙ sym count;
          back_lines = lb ∙ h.back_lines ∙ sym count;
          ties = ties;
        }

    pub follows_all : ((l : ℕ) → IsApart l event) → ((l : ℕ) → Follows l p.near then_near) → HoldsOf mx my (record p { near = then_near })
    follows_all apart f = event_holds p.near_past p.out p.back refl refl (λ l. goes_on l (apart l) (f l))

  -- one that has no step of its own
  abbrev pub asked_then : Event → Shown → Two
  asked_then event shown = record p { near = (step p.near event).state; near_past = past_asked event shown p.near_past }

  pub asks : (event : Event) (shown : Shown) → has_own_step event ≡ false → HoldsOf mx my (asked_then event shown)
  asks (Offer body) shown own = event_holds (Offer body) _ p.out p.back refl refl (λ l. goes_on (Offer body) l tt (offer_follows l p.near body))
  asks Take shown own = follows_all Take (λ l. tt) (λ l. take_follows l p.near)
  asks (Find number) shown own = follows_all (Find number) (λ l. tt) (λ l. find_follows l p.near number)
  asks (Next k) shown own = absurd cc
  asks (Heard k unit) shown own = absurd cc
  asks (UpEvent k) shown own = absurd cc
  asks (DownEvent k) shown own = follows_all (DownEvent k) (λ l. tt) (λ l. down_follows l k p.near)
  asks (DownBlind k) shown own = follows_all (DownBlind k) (λ l. tt) (λ l. blind_follows l k p.near)
  asks (NoAnswer k) shown own = follows_all (NoAnswer k) (λ l. tt) (λ l. unanswered_follows l k p.near)
  asks (Timed k) shown own = follows_all (Timed k) (λ l. tt) (λ l. timed_follows l k p.near)
  asks (Restore k) shown own = follows_all (Restore k) (λ l. tt) (λ l. restore_follows l k p.near)
  asks (Redeclare k) shown own = follows_all (Redeclare k) (λ l. tt) (λ l. redeclare_follows l k p.near)
  asks (BackTimeout k) shown own = follows_all (BackTimeout k) (λ l. tt) (λ l. timeout_follows l k p.near)
  asks (Test k) shown own = follows_all (Test k) (λ l. tt) (λ l. test_follows l k p.near)
