-- A LINK'S LIVES: a walk of small changes (`only_up`), each of which keeps a settled link settled and brings none up;
-- the others by unfolding.
use Rattle.std.proofs.Common.{refl, sym, subst, arith, ap, ◌≡◌, ◌∙◌, ℕ, ◌==◌, Bool, true, false, if◌then◌else◌, ◌<◌, List, length, Option, Some, None, slice_get, slice_set}
use Rattle.std.proofs.lemmas.Bool.{eqb-false}
use Rattle.std.proofs.lemmas.Bool.Decides.{nat_tests}
use Rattle.set_events.specs.declared.event.Event.{Event}
use Rattle.set_model.specs.declared.phase.Phase.{Phase}
use Rattle.set_model.specs.declared.phase.Phase.TheVariants.{Up, Down, Settled}
use Rattle.set_model.specs.State.{LinkState, State, given, has_phase_settled, has_phase_up, is_settled, is_up, late_at, link_is_settled, link_is_up}
use Rattle.set_model.specs.Step.{NotUp, Nothing, Outcome, opened_link, Refused, SignalUnit, controls, falls, heard, in_service, is_heard, next, on_link, refused, risen_link, rises, step, with_known}
use Rattle.set_model.specs.Changeover.{cleared, left_link}
use Rattle.set_model.proofs.Lists.{get_set_other, get_set_same, length_set, present, within}
use Rattle.set_model.proofs.Places.{false_true}
use Rattle.set_model.proofs.Walk.{KeptBy, WalkedBy, step_walks}
use Rattle.set_octets.specs.Lives.{DownEnds, GoesOn, IsNoUp, IsRefused, OnlyUpBegins, OthersAreRefused, UpBegins, UpIsServed}

module _ (n : ℕ) where
  goes_then : (a b c : State) → GoesOn n a b → GoesOn n b c → GoesOn n a c
  goes_then a b c p q = record { settled = λ is. q.settled (p.settled is); up = λ is. p.up (q.up is) }

  goes_links : (s t : State) → t.links ≡ s.links → GoesOn n s t
  goes_links s t links = record {
    settled = λ is. ap (λ (ls : List LinkState). link_is_settled (slice_get ls n)) links ∙ is;
    up = λ is. ap (λ (ls : List LinkState). link_is_up (slice_get ls n)) (sym links) ∙ is;
  }

  -- one link changes
  goes_set : (m : ℕ) (link link' : LinkState) (s t : State) → slice_get s.links m ≡ Some link → t.links ≡ slice_set s.links m link'
      → (has_phase_settled link.phase ≡ true → has_phase_settled link'.phase ≡ true) → (has_phase_up link'.phase ≡ true → has_phase_up link.phase ≡ true)
      → GoesOn n s t
  goes_set m link link' s t there links settled up = go (m == n) refl
    where
      go : (b : Bool) → (m == n) ≡ b → GoesOn n s t
      go true same =
          let is : m ≡ n = grind (arith, nat_tests, same) in
          let old : slice_get s.links n ≡ Some link = ap (slice_get s.links) (sym is) ∙ there in
          let new : slice_get t.links n ≡ Some link' =
          ap (λ (ls : List LinkState). slice_get ls n) links ∙ ap (slice_get (slice_set s.links m link')) (sym is) ∙ get_set_same s.links m link' (within s.links m link there) in
          record {
            settled = λ e. ap link_is_settled new ∙ settled (sym (ap link_is_settled old) ∙ e);
            up = λ e. ap link_is_up old ∙ up (sym (ap link_is_up new) ∙ e);
          }
      go false other =
          let same : slice_get t.links n ≡ slice_get s.links n =
          ap (λ (ls : List LinkState). slice_get ls n) links ∙ get_set_other s.links m n link' (eqb-false m n other) in
          record {
            settled = λ e. ap link_is_settled same ∙ e;
            up = λ e. ap link_is_up (sym same) ∙ e;
          }

  goes_small : (Known : ℕ → Type 0) (May : Type 0) → KeptBy Known May (GoesOn n)
  goes_small Known May = record {
    same = λ s. goes_links s s refl;
    after = goes_then;
    delivers = λ body s. goes_links s _ refl;
    queues = λ order s. goes_links s _ refl;
    leaves = λ blind m link s known at. goes_set m link _ s _ at.there refl
        (λ e. false_true (has_phase_settled link.phase) (ap has_phase_settled at.phase_is) e) (λ e. absurd cc);
    acknowledges = λ count m link s known at few changes. goes_set m link _ s _ at.there refl (λ e. e) (λ e. e);
    gives_up = λ sent cause m link s known at changes. goes_links s _ refl;
    gives_up_orders = λ cause m link s known at changes. goes_links s _ refl;
    takes_back = λ order from s unsent known back. goes_links s _ refl;
    moves_off = λ told m link s known at. goes_set m link _ s _ at.there refl (λ e. refl) (λ e. absurd cc);
    answers = λ m link s known at. goes_set m link _ s _ at.there refl (λ e. e) (λ e. e);
    withdraws = λ count m link s known at changes. goes_links s _ refl;
    declares = λ may home alternative s up can. goes_links s _ refl;
    redeclares = λ code via s due. goes_links s _ refl;
    acknowledges_back = λ code s known. goes_links s _ refl;
    releases = λ code s known. goes_links s _ refl;
    opens = λ m link s known at shut unparked. goes_set m link _ s _ at.there refl (λ is. is) (λ is. is);
  }

  goes_walked : (s : State) (event : Event) → IsNoUp n event → WalkedBy s event (GoesOn n) (GoesOn n s)
  goes_walked s event other = record {
    small = goes_small _ _;
    unmoved = goes_links s s refl;
    rests = λ t u st r. goes_then s t u st r;
    offers = λ body e free. goes_links s _ refl;
    takes = λ body rest e there. goes_links s _ refl;
    sends = λ m link t e r at changes. goes_then s t _ r (goes_set m link _ t _ at.there refl (λ is. is) (λ is. is));
    hears = λ m unit link e heard at changes. goes_set m link _ s _ at.there refl (λ is. is) (λ is. is);
    rises = λ m link e at. elsewhere m _ s _ refl (subst (IsNoUp n) e other);
  }
    where
      elsewhere : (m : ℕ) (link' : LinkState) (s t : State) → t.links ≡ slice_set s.links m link' → (m == n) ≡ false → GoesOn n s t
      elsewhere m link' s t links d =
          let same : slice_get t.links n ≡ slice_get s.links n =
          ap (λ (ls : List LinkState). slice_get ls n) links ∙ get_set_other s.links m n link' (eqb-false m n d) in
          record { settled = λ e. ap link_is_settled same ∙ e; up = λ e. ap link_is_up (sym same) ∙ e }

pub only_up : OnlyUpBegins
only_up n s event other = step_walks s (GoesOn n) (GoesOn n s) event (goes_walked n s event other)

-- a settled link is there
record IsThere (n : ℕ) (s : State) : Type 0 where
  pub link : LinkState
  pub there : slice_get s.links n ≡ Some link
  pub phase_is : link.phase ≡ Settled

settled_there : (n : ℕ) (s : State) → is_settled n s ≡ true → IsThere n s
settled_there n s settled = go (slice_get s.links n) refl settled
  where
    of : (link : LinkState) (phase : Phase) → link.phase ≡ phase → has_phase_settled link.phase ≡ true → link.phase ≡ Settled
    of link Up e is = false_true (has_phase_settled link.phase) (ap has_phase_settled e) is
    of link Down e is = false_true (has_phase_settled link.phase) (ap has_phase_settled e) is
    of link Settled e is = e

    go : (found : Option LinkState) → slice_get s.links n ≡ found → link_is_settled found ≡ true → IsThere n s
    go None e is = absurd cc
    go (Some link) e is = record { link = link; there = e; phase_is = of link link.phase refl is }

pub up_begins : UpBegins
unfolding step
up_begins n s settled =
    let at = settled_there n s settled in
    let few = within s.links n at.link at.there in
    let risen = risen_link s.settings.profile s.settings.method (late_at n s) in
    let whole : on_link n s (λ link. rises n s link.phase) ≡ rises n s Settled =
    ap (λ (found : Option LinkState). with_known found s (λ link. rises n s link.phase)) at.there ∙ ap (rises n s) at.phase_is in
    record {
      answer = ap (λ (o : Outcome). o.answer) whole;
      up = ap (λ (o : Outcome). is_up n o.state) whole
          ∙ ap link_is_up (get_set_same (slice_set s.links n risen) n (opened_link risen) (omega (arith, few, length_set s.links n risen)));
    }

-- what needs a link in service is refused where it's there and isn't up, and is done where it's up
in_refused : (m n : ℕ) (s : State) (f : LinkState → Outcome) → m ≡ n → n < length s.links → is_up n s ≡ false
    → in_service m s f ≡ refused s NotUp
in_refused m n s f same few down =
    let at = present s.links m (subst (λ (k : ℕ). k < length s.links) (sym same) few) in
    let down' = subst (λ (k : ℕ). is_up k s ≡ false) (sym same) down in
    let is : has_phase_up at.0.phase ≡ false = sym (ap link_is_up at.1) ∙ down' in
    let done = λ (link : LinkState). if has_phase_up link.phase then f link else refused s NotUp in
    ap (λ (found : Option LinkState). with_known found s done) at.1 ∙ ap (λ (b : Bool). if b then f at.0 else refused s NotUp) is

in_served : (n : ℕ) (s : State) (f : LinkState → Outcome) → is_up n s ≡ true → (link : LinkState) × (in_service n s f ≡ f link)
in_served n s f up = go (slice_get s.links n) up
  where
    go : (found : Option LinkState) → link_is_up found ≡ true
        → (link : LinkState) × (with_known found s (λ l. if has_phase_up l.phase then f l else refused s NotUp) ≡ f link)
    go None up = absurd cc
    go (Some link) up = (link, ap (λ (b : Bool). if b then f link else refused s NotUp) up)

refused_by : (s : State) (event : Event) → step s event ≡ refused s NotUp → IsRefused s event
refused_by s event is = record { answer = ap (λ (o : Outcome). o.answer) is; state = ap (λ (o : Outcome). o.state) is }

pub others_refused : OthersAreRefused
unfolding step
others_refused n s (Event.Next m) served few down =
    refused_by s (Event.Next m) (in_refused m n s (next m (cleared m s)) served few down)
others_refused n s (Event.Heard m unit) served few down =
    refused_by s (Event.Heard m unit) (in_refused m n s (heard unit m s) served few down)
others_refused n s (Event.Down m) served few down =
    refused_by s (Event.Down m) (in_refused m n s (falls false m s) served few down)
others_refused n s (Event.DownBlind m) served few down =
    refused_by s (Event.DownBlind m) (in_refused m n s (falls true m s) served few down)
others_refused n s event served few down = absurd served

-- of a link that is up a unit tells something or nothing
heard_some : (unit : SignalUnit) (n : ℕ) (s : State) (link : LinkState) → (heard unit n s link).answer ≡ Refused NotUp → ⊥
heard_some unit n s link = either (is_heard s.settings.profile unit)
  where
    either : (b : Bool) → (if b then controls unit n s link else refused s Nothing).answer ≡ Refused NotUp → ⊥
    either true e = absurd cc
    either false e = absurd cc

pub up_served : UpIsServed
unfolding step
up_served n s up =
    let given = in_served n s (next n (cleared n s)) up in
    record {
      unit = _;
      sent = ap (λ (o : Outcome). o.answer) given.1;
      heard = λ unit no.
          let told = in_served n s (heard unit n s) up in
          heard_some unit n s told.0 (sym (ap (λ (o : Outcome). o.answer) told.1) ∙ no);
    }

pub down_ends : DownEnds
unfolding step
down_ends n s = go (slice_get s.links n) refl
  where
    one : (link : LinkState) → slice_get s.links n ≡ Some link → (b : Bool) → has_phase_up link.phase ≡ b
        → is_up n (if b then falls false n s link else refused s NotUp).state ≡ false
    one link e true up = ap link_is_up (get_set_same s.links n (left_link false (given s) link) (within s.links n link e))
    one link e false down = ap link_is_up e ∙ down

    go : (found : Option LinkState) → slice_get s.links n ≡ found → is_up n (with_known found s (λ link. if has_phase_up link.phase then falls false n s link else refused s NotUp)).state ≡ false
    go None e = ap link_is_up e
    go (Some link) e = one link e (has_phase_up link.phase) refl
