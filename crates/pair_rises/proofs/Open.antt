-- NO ORDER ABOUT AN OPEN LINK STANDS AT ITS END, and the far end doesn't settle it (`IsOpen`): every step of either end keeps
-- that. For a step of the end itself it's the law of the orders under way (`Both`) for a far end at which the link is seen
-- as settled (`shut`): to that far end none may stand about it. For a step of the far end: it settles a link by an order
-- alone, and none is there.
use Rattle.std.proofs.Common.{refl, arith, ◌≡◌, ◌∙◌, ap, sym, subst, ℕ, ◌<◌, ◌==◌, ◌-◌, Bool, true, false, List, [], ◌∷◌, ◌++◌, length, slice_get, slice_set, Option, Some, None, cond, ◌⊎◌, inl, inr}
use Rattle.std.proofs.lemmas.Bool.{eqb-true}
use Rattle.l2_units.specs.declared.unit.Unit.{Unit as SignalUnit}
use Rattle.l3_orders.specs.declared.order.Order.{Order}
use Rattle.l3_orders.specs.declared.order.Order.TheVariants.{Coo, Coa, Cbd, Cba, Eco, Eca}
use Rattle.l3_orders.specs.Grammar.{order_of, order_any, link_of}
use Rattle.l3_orders.proofs.Texts.{any_of}
use Rattle.pair_steps.specs.Lines.{units_on}
use Rattle.pair_steps.specs.declared.step.End.{End}
use Rattle.pair_steps.specs.declared.step.Step.TheVariants.{Act}
use Rattle.set_events.specs.declared.config.Method.{Method}
use Rattle.set_events.specs.declared.event.Event.{Event}
use Rattle.set_events.specs.declared.event.Event.TheVariants.{Offer, Take, Find, Next, Heard as HeardEvent, Up as UpEvent, Down as DownEvent, DownBlind, NoAnswer, Timed, Restore, Redeclare, BackTimeout, Test}
use Rattle.set_events.specs.declared.answer.Took.TheVariants.{Message as TookMessage}
use Rattle.set_route.specs.declared.place.Code.{Code}
use Rattle.set_route.specs.declared.place.Code.TheVariants.{Free, Asked, Spent}
use Rattle.set_route.specs.Routing.{code_of}
use Rattle.set_model.specs.declared.phase.Phase.TheVariants.{Up, Settled}
use Rattle.set_model.specs.Changeover.{Obeyed, acknowledged_back, order_obeyed, obeyed, answered_link, settled_link, left_link, acknowledged}
use Rattle.set_model.specs.Rows.{Row, service_indicator}
use Rattle.set_model.specs.Sound.{IsSound}
use Rattle.set_model.specs.State.{LinkState, State, given, is_up, is_settled, link_is_up, link_is_settled}
use Rattle.set_model.specs.Step.{opened_link, Outcome, brought, takes, next, step}
use Rattle.set_model.proofs.Lists.{get_set_same, get_set_other, within}
use Rattle.set_model.proofs.Walk.{IsAt, KeptBy, Touches, obeys_walks}
use Rattle.pair_model.specs.Promises.{IsOneMethod}
use Rattle.pair_model.specs.World.{has_own_step}
use Rattle.pair_model.specs.Run.{Message, messages}
use Rattle.pair_model.proofs.Moving.{next_refused}
use Rattle.pair_model.proofs.Pairs.{Two, HoldsOf, no_other}
use Rattle.pair_changeover.proofs.Changes.{Both, by_link}
use Rattle.pair_changeover.proofs.Hearing as hearing
use Rattle.pair_changeover.proofs.Keeping.{Keeps, offer_kept, take_kept, find_kept, down_kept, blind_kept, restore_kept, redeclare_kept, test_kept, next_keeps}
use Rattle.pair_changeover.proofs.Obeying.{Told, Heard, Obeys, keeps, settles, answers, settles_blind, answers_blind, acknowledges, releases, obeys_both, obeys_accepted}
use Rattle.pair_changeover.proofs.Ordered.{Ordered, sent_enough}
use Rattle.pair_changeover.proofs.Ordered as orders
use Rattle.pair_changeover.proofs.Overtaken.{sends_next}
use Rattle.pair_changeover.proofs.Texts.{AreCodes}
use Rattle.pair_changeover.proofs.Views.{view, pending, queue, acked_of, acked_on, accepted_of, accepted_on, last_of, last_on, Among, In, stands_on, stands_aside, IsChangeover, NoneAbout, stayed, was_in, carries}
use Rattle.pair_streams.proofs.Acting.{IsSafe}
use Rattle.pair_streams.proofs.Codes.{far_in}

pub record IsOpen (l : ℕ) (s f : State) : Type 0 where
  pub none : NoneAbout l (view s f)
  pub goes : is_settled l f ≡ false

-- THE FAR END WITH THE LINK SETTLED
module _ (l : ℕ) (f : State) (link : LinkState) (there : slice_get f.links l ≡ Some link) where
  abbrev shut_link : LinkState
  shut_link = record link { phase = Settled }

  abbrev pub shut : State
  shut = record f { links = slice_set f.links l shut_link }

  each : (P : ℕ → Option LinkState → Option LinkState → Type 0) → P l (Some link) (Some shut_link)
      → ((n : ℕ) (o : Option LinkState) → (l == n) ≡ false → P n o o) → (n : ℕ) → P n (slice_get f.links n) (slice_get shut.links n)
  each = by_link l link shut_link f shut there refl

  pub same_accepted : (n : ℕ) → accepted_on n shut ≡ accepted_on n f
  same_accepted = each (λ n old new. accepted_of new ≡ accepted_of old) refl (λ n o d. refl)

  pub same_acked : (n : ℕ) → acked_on n shut ≡ acked_on n f
  same_acked = each (λ n old new. acked_of new ≡ acked_of old) refl (λ n o d. refl)

  same_last : (n : ℕ) → last_on n shut ≡ last_on n f
  same_last = each (λ n old new. last_of new ≡ last_of old) refl (λ n o d. refl)

  up_less : (n : ℕ) → is_up n shut ≡ true → is_up n f ≡ true
  up_less = each (λ n old new. link_is_up new ≡ true → link_is_up old ≡ true) (λ e. absurd (let no : false ≡ true = e in cc)) (λ n o d e. e)

  pub down_less : (n : ℕ) → is_up n f ≡ false → is_up n shut ≡ false
  down_less = each (λ n old new. link_is_up old ≡ false → link_is_up new ≡ false) (λ e. refl) (λ n o d e. e)

  settled_then : (n : ℕ) → is_settled n shut ≡ true → (l ≡ n) ⊎ (is_settled n f ≡ true)
  settled_then = each (λ n old new. link_is_settled new ≡ true → (l ≡ n) ⊎ (link_is_settled old ≡ true)) (λ e. inl refl) (λ n o d e. inr e)

  shut_settled : is_settled l shut ≡ true
  shut_settled = ap link_is_settled (get_set_same f.links l shut_link (within f.links l link there))

  module _ (s : State) where
    near_queue : (n : ℕ) → pending n s shut ≡ pending n s f
    near_queue n = ap (λ (i : ℕ). queue (i - acked_on n s) n s.rows) (same_accepted n)

    far_queue : (n : ℕ) → pending n shut s ≡ pending n f s
    far_queue n = ap (λ (i : ℕ). queue (accepted_on n s - i) n f.rows) (same_acked n)

    pub far_was : (m : Message) → In m (view shut s) → In m (view f s)
    far_was m (stands_on n a) = stands_on n (subst (Among m) (far_queue n) a)
    far_was m (stands_aside a) = stands_aside a

    near_in : (m : Message) → In m (view s f) → In m (view s shut)
    near_in m (stands_on n a) = stands_on n (subst (Among m) (sym (near_queue n)) a)
    near_in m (stands_aside a) = stands_aside a

    down_if : (a b : Bool) → (b ≡ true → a ≡ true) → a ≡ false → b ≡ false
    down_if a false w e = refl
    down_if a true w e = absurd (let no : true ≡ false = sym (w refl) ∙ e in cc)

    pub shut_both : {emergencies : Bool} → Both emergencies s f → NoneAbout l (view s f) → is_up l s ≡ false → Both emergencies s shut
    shut_both o none down = record {
      near = carries (view s f) (view s shut) (view f s) (view shut s) (record {
        came = λ n m a. stayed (subst (Among m) (near_queue n) a);
        came_aside = λ m a. was_in (stands_aside a);
        none_up = λ n e. o.near.none_up n e;
        none_settled = λ n e. settled_case n (settled_then n e);
        accepted = λ n. inl refl;
        apart = λ n e. down_less n (o.near.apart n e);
      }) o.near;
      far = carries (view f s) (view shut s) (view s f) (view s shut) (record {
        came = λ n m a. stayed (subst (Among m) (far_queue n) a);
        came_aside = λ m a. was_in (stands_aside a);
        none_up = λ n e. o.far.none_up n (up_less n e);
        none_settled = λ n e. o.far.none_settled n e;
        accepted = λ n. inl (same_last n);
        apart = λ n e. apart_case n (settled_then n e);
      }) o.far;
    }
      where
        settled_case : (n : ℕ) → (l ≡ n) ⊎ (is_settled n f ≡ true) → NoneAbout n (view s f)
        settled_case n (inl same) = subst (λ (k : ℕ). NoneAbout k (view s f)) same none
        settled_case n (inr e) = o.near.none_settled n e

        apart_case : (n : ℕ) → (l ≡ n) ⊎ (is_settled n f ≡ true) → is_up n s ≡ false
        apart_case n (inl same) = subst (λ (k : ℕ). is_up k s ≡ false) same down
        apart_case n (inr e) = o.far.apart n e

    pub none_again : {emergencies : Bool} → Both emergencies s shut → NoneAbout l (view s f)
    none_again o m i about = o.near.none_settled l shut_settled m (near_in m i) about

    -- what a heard body leads to is the same to that far end
    heard_shut : (n : ℕ) → Heard n s f → Heard n s shut
    heard_shut n h = record { far_down = down_less n h.far_down; none = λ m i about. h.none m (far_was m i) about }

    told_shut : (fsn n : ℕ) (state : LinkState) → Told fsn n state s f → Told fsn n state s shut
    told_shut fsn n state t = record { last = rw (same_accepted n) (t.last); due = rw (same_accepted n) (t.due); within = rw (same_accepted n) (t.within) }

    pub obeys_shut : {emergencies : Bool} (k : ℕ) (body : List ℕ) (t : State) → Obeys emergencies k body s f t → Obeys emergencies k body s shut t
    obeys_shut k body t (keeps _ rows links routing none) = keeps t rows links routing none
    obeys_shut k body _ (settles fsn n state other at told heard over) = settles fsn n state other at (told_shut fsn n state told) (heard_shut n heard) over
    obeys_shut k body _ (answers fsn n state other at told heard over) = answers fsn n state other at (told_shut fsn n state told) (heard_shut n heard) over
    obeys_shut k body _ (settles_blind n state may other at heard over) = settles_blind n state may other at (heard_shut n heard) over
    obeys_shut k body _ (answers_blind n state may other at heard over) = answers_blind n state may other at (heard_shut n heard) over
    obeys_shut k body _ (acknowledges n code is) = acknowledges n code is
    obeys_shut k body _ (releases n code is) = releases n code is

-- AN EVENT THAT HAS NO STEP OF ITS OWN
pub asked_keeps : (emergencies : Bool) (end : End) (s f : State) (event : Event) → IsSafe emergencies (Act end event) → has_own_step event ≡ false
    → IsSound s → AreCodes s.settings → Keeps emergencies s (step s event).state f
asked_keeps em end s f (Offer body) safe own sound codes = offer_kept s f body sound
asked_keeps em end s f Take safe own sound codes = take_kept s f
asked_keeps em end s f (Find number) safe own sound codes = find_kept s f number
asked_keeps em end s f (Next k) safe own sound codes = absurd cc
asked_keeps em end s f (HeardEvent k unit) safe own sound codes = absurd cc
asked_keeps em end s f (UpEvent k) safe own sound codes = absurd cc
asked_keeps em end s f (DownEvent k) safe own sound codes = down_kept k s f sound codes
asked_keeps false end s f (DownBlind k) safe own sound codes = absurd safe
asked_keeps true end s f (DownBlind k) safe own sound codes = blind_kept k s f refl sound codes
asked_keeps false end s f (NoAnswer k) safe own sound codes = absurd safe
asked_keeps true end s f (NoAnswer k) safe own sound codes = absurd safe
asked_keeps false end s f (Timed k) safe own sound codes = absurd safe
asked_keeps true end s f (Timed k) safe own sound codes = absurd safe
asked_keeps em end s f (Restore k) safe own sound codes = restore_kept k s f sound
asked_keeps em end s f (Redeclare k) safe own sound codes = redeclare_kept k s f sound
asked_keeps false end s f (BackTimeout k) safe own sound codes = absurd safe
asked_keeps true end s f (BackTimeout k) safe own sound codes = absurd safe
asked_keeps em end s f (Test k) safe own sound codes = test_kept k s f

-- what such a change keeps of an open link, at its end and at the far end
pub near_kept : {emergencies : Bool} (l : ℕ) (s t f : State) (link : LinkState) (there : slice_get f.links l ≡ Some link)
    → Both emergencies s f → is_up l s ≡ false → Keeps emergencies s t (shut l f link there) → IsOpen l s f → IsOpen l t f
near_kept l s t f link there o down k was = record {
  none = none_again l f link there t (k.both (shut_both l f link there s o was.none down));
  goes = was.goes;
}

pub far_kept : {emergencies : Bool} (l : ℕ) (s t f : State) → Keeps emergencies s t f → IsOpen l f s → IsOpen l f t
far_kept l s t f k was = record {
  none = λ m i about. was.none m (far_in s t f k.accepted m i) about;
  goes = k.settled l ∙ was.goes;
}

-- IT SENDS
module _ (mx my : Method) (one : IsOneMethod mx my) (p : Two) (h : HoldsOf mx my p) (k : ℕ) (few : k < length p.near.links)
    {emergencies : Bool} (o : Both emergencies p.near p.far) where
  module _ (link : LinkState) (at : IsAt k link Up p.near) (l : ℕ) where
    sent : (step p.near (Next k)).state ≡ (next k p.near link).state
    sent = ap (λ (x : Outcome). x.state) (sends_next k p.near p.far o link at)

    pub sends_near : (there : LinkState) → slice_get p.far.links l ≡ Some there → is_up l p.near ≡ false → IsOpen l p.near p.far
        → IsOpen l (step p.near (Next k)).state p.far
    sends_near there found down was =
        let enough = sent_enough mx my one p h k few link at in
        subst (λ (t : State). IsOpen l t p.far) (sym sent)
        (near_kept {emergencies = emergencies} l p.near (next k p.near link).state p.far there found o down
        (next_keeps k link p.near (shut l p.far there found) h.near_sound at
        (let same = same_accepted l p.far there found k in omega (arith, enough, same))) was)

    pub sends_far : IsOpen l p.far p.near → IsOpen l p.far (step p.near (Next k)).state
    sends_far was = subst (λ (t : State). IsOpen l p.far t) (sym sent)
        (far_kept {emergencies = emergencies} l p.near (next k p.near link).state p.far
        (next_keeps k link p.near p.far h.near_sound at (sent_enough mx my one p h k few link at)) was)

  pub sends_still : is_up k p.near ≡ false → (step p.near (Next k)).state ≡ p.near
  sends_still e = ap (λ (x : Outcome). x.state) (next_refused k p.near e).1

-- AN ORDER TOUCHES NO OTHER LINK
module _ (l : ℕ) where
  abbrev SameAt : State → State → Type 0
  SameAt s t = slice_get t.links l ≡ slice_get s.links l

  set_apart : (links : List LinkState) (n : ℕ) (link : LinkState) → (n == l) ≡ false → slice_get (slice_set links n link) l ≡ slice_get links l
  set_apart links n link d = get_set_other links n l link (no_other n l d)

  small : KeptBy (λ n. (n == l) ≡ false) (Unit {0}) SameAt
  small = record {
    same = λ s. refl;
    after = λ a b c p q. q ∙ p;
    delivers = λ body s. refl;
    queues = λ order s. refl;
    leaves = λ blind n link s known at. set_apart s.links n (left_link blind (given s) link) known;
    acknowledges = λ count n link s known at few g. set_apart s.links n (acknowledged count link) known;
    gives_up = λ sent cause n link s known at g. refl;
    gives_up_orders = λ cause n link s known at g. refl;
    takes_back = λ order from s unsent known g. refl;
    moves_off = λ told n link s known at. set_apart s.links n (settled_link told link) known;
    answers = λ n link s known at. set_apart s.links n (answered_link link) known;
    withdraws = λ count n link s known at g. refl;
    declares = λ may home alternative s up can. refl;
    redeclares = λ code via s due. refl;
    acknowledges_back = λ code s known. refl;
    releases = λ code s known. refl;
    opens = λ n link s known at unopened u. set_apart s.links n (opened_link link) known;
  }

  touch_case : (order : Order) → IsChangeover order → (link_of order == l) ≡ false → (n : ℕ) → Touches order n → (n == l) ≡ false
  touch_case order over d n (inl same) = ap (λ (m : ℕ). m == l) (sym same) ∙ d
  touch_case order over d n (inr (link, code, is, home)) = absurd (subst IsChangeover is over)

  over_same : (order : Order) (s : State) → IsChangeover order → (link_of order == l) ≡ false → SameAt s (order_obeyed order s).state
  over_same order s over d = obeys_walks (λ n. (n == l) ≡ false) (Unit {0}) SameAt small order s (touch_case order over d)

  back_same : (code : ℕ) (c : Code) (s : State) → SameAt s (acknowledged_back code c s).state
  back_same code Free s = refl
  back_same code (Asked via declaration owed) s = refl
  back_same code (Spent owed) s = refl

  order_same : (order : Order) (s : State) → (IsChangeover order → (link_of order == l) ≡ false) → SameAt s (order_obeyed order s).state
  order_same (Coo n fsn) s d = over_same (Coo n fsn) s tt (d tt)
  order_same (Coa n fsn) s d = over_same (Coa n fsn) s tt (d tt)
  order_same (Eco n) s d = over_same (Eco n) s tt (d tt)
  order_same (Eca n) s d = over_same (Eca n) s tt (d tt)
  order_same (Cbd n code) s d = refl
  order_same (Cba n code) s d = back_same code (code_of code s.routing) s

-- IT HEARS
module _ {emergencies : Bool} (mx my : Method) (one : IsOneMethod mx my) (p : Two) (h : HoldsOf mx my p)
    (o : Ordered emergencies p) (k : ℕ) (few : k < length p.near.links) (unit : SignalUnit) (rest : List SignalUnit)
    (front : units_on k p.back ≡ unit ∷ rest) (link : LinkState) (at : IsAt k link Up p.near) (l : ℕ) where
  abbrev mid : State
  mid = hearing.mid mx my one p h o.both k few unit rest front link at

  abbrev mid_link : LinkState
  mid_link = hearing.mid_link mx my one p h o.both k few unit rest front link at

  abbrev then_near : State
  then_near = (step p.near (HeardEvent k unit)).state

  abbrev taken : Obeyed
  taken = hearing.taken mx my one p h o.both k few unit rest front link at

  state_is : then_near ≡ taken.state
  state_is = orders.state_is mx my one p h o k few unit rest front link at

  does : hearing.Hears mx my one p h o.both k few unit rest front link at
  does = orders.does mx my one p h o k few unit rest front link at

  mid_sound : IsSound mid
  mid_sound = orders.mid_sound mx my one p h o k few unit rest front link at

  mid_all : (P : ℕ → Option LinkState → Option LinkState → Type 0) → P k (Some link) (Some mid_link)
      → ((n : ℕ) (m : Option LinkState) → (k == n) ≡ false → P n m m) → (n : ℕ) → P n (slice_get p.near.links n) (slice_get mid.links n)
  mid_all = by_link k link mid_link p.near mid at.there refl

  -- at its own end
  mid_in : (m : Message) → In m (view mid p.far) → In m (view p.near p.far)
  mid_in m (stands_on n a) = stands_on n (subst (Among m) (hearing.heard_queues mx my one p h o.both k few unit rest front link at n) a)
  mid_in m (stands_aside a) = stands_aside (subst (λ (rows : List Row). Among m (messages rows)) (hearing.heard_aside mx my one p h o.both k few unit rest front link at) a)

  mid_up : (n : ℕ) → is_up n mid ≡ is_up n p.near
  mid_up = mid_all (λ n old new. link_is_up new ≡ link_is_up old) refl (λ n m d. refl)

  mid_settled : (n : ℕ) → is_settled n mid ≡ is_settled n p.near
  mid_settled = mid_all (λ n old new. link_is_settled new ≡ link_is_settled old) refl (λ n m d. refl)

  pub hears_near : (there : LinkState) → slice_get p.far.links l ≡ Some there → is_up l p.near ≡ false → IsOpen l p.near p.far → IsOpen l then_near p.far
  hears_near there found down was =
      let body = hearing.heard_body mx my one p h o.both k few unit rest front link at in
      let both = shut_both l p.far there found mid does.both (λ m i about. was.none m (mid_in m i) about) (mid_up l ∙ down) in
      let then = obeys_both k body mid (shut l p.far there found) mid_sound o.near_codes both taken.state (obeys_shut l p.far there found mid k body taken.state does.obeys) in
      subst (λ (t : State). IsOpen l t p.far) (sym state_is) (record { none = none_again l p.far there found taken.state then; goes = was.goes })

  abbrev part_accept : Bool
  part_accept = (hearing.part mx my one p h o.both k few unit rest front link at).accept

  -- an order about a link is among what is heard only where one stands at the far end
  pub not_about : NoneAbout l (view p.far p.near) → (body : List ℕ) → brought part_accept unit ≡ Some body → (order : Order)
      → order_of p.near.settings.profile body ≡ Some order → IsChangeover order → (link_of order == l) ≡ false
  not_about none body e order is over = go (link_of order == l) refl
    where
      go : (b : Bool) → (link_of order == l) ≡ b → (link_of order == l) ≡ false
      go false d = d
      go true d = absurd (none _ (hearing.first_in mx my one p h o.both k few unit rest front link at body e) (record {
        order = order;
        is = ap order_any (hearing.next_due mx my one p h o.both k few unit rest front link at body e).body_is ∙ any_of p.near.settings.profile body order is;
        over = over;
        of = eqb-true (link_of order) l d;
      }))

  -- at the far end
  module _ (was : IsOpen l p.far p.near) where
    mid_far : (body : Option (List ℕ)) → brought part_accept unit ≡ body → (m : Message) → In m (view p.far mid) → In m (view p.far p.near)
    mid_far None e = far_in p.near mid p.far (mid_all (λ n old new. accepted_of new ≡ accepted_of old)
        (let zero_more = hearing.none_counted mx my one p h o.both k few unit rest front link at e in omega (arith, zero_more)) (λ n m d. refl))
    mid_far (Some body) e = hearing.was_in_far mx my one p h o.both k few unit rest front link at body e

    far_then : (m : Message) → In m (view p.far taken.state) → In m (view p.far p.near)
    far_then m i = mid_far (brought part_accept unit) refl m
        (far_in mid taken.state p.far (obeys_accepted k (hearing.heard_body mx my one p h o.both k few unit rest front link at) mid p.far mid_sound o.near_codes does.both taken.state does.obeys) m i)

    obeyed_same : (body : List ℕ) → brought part_accept unit ≡ Some body → (told : Option Order) → order_of p.near.settings.profile body ≡ told
        → slice_get (obeyed told mid).state.links l ≡ slice_get mid.links l
    obeyed_same body e None is = refl
    obeyed_same body e (Some order) is = order_same l order mid (λ over. not_about was.none body e order is over)

    taken_same : (body : Option (List ℕ)) → brought part_accept unit ≡ body → slice_get (takes body mid).state.links l ≡ slice_get mid.links l
    taken_same None e = refl
    taken_same (Some body) e = go (service_indicator body == 0) (obeyed_same body e (order_of p.near.settings.profile body) refl)
      where
        go : (b : Bool) → slice_get (obeyed (order_of p.near.settings.profile body) mid).state.links l ≡ slice_get mid.links l
            → slice_get (cond b (obeyed (order_of p.near.settings.profile body) mid) (record { took = TookMessage; state = record mid { inbox = mid.inbox ++ body ∷ [] } })).state.links l ≡ slice_get mid.links l
        go true same = same
        go false same = refl

    pub hears_far : IsOpen l p.far then_near
    hears_far = subst (λ (t : State). IsOpen l p.far t) (sym state_is) (record {
      none = λ m i about. was.none m (far_then m i) about;
      goes = ap link_is_settled (taken_same (brought part_accept unit) refl) ∙ mid_settled l ∙ was.goes;
    })
