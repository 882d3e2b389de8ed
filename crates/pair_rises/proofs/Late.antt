-- A LATE ORDER. The end that hasn't joined hears that the other left this life. Under the veil that's an order for a link
-- that it left too, and settles it, which moves nothing; and the end acknowledges, with the number of a link on which
-- nothing was accepted. `told_holds` and `told_streams` say that what holds of both ends is kept when an end queues such
-- an acknowledgement about a link that isn't up at it, about which none stands there, and that the far end hasn't settled.
use Rattle.std.proofs.Common.{◌⊎◌, inl, inr, refl, arith, ◌≡◌, ◌∙◌, ap, ap₂, sym, subst, ℕ, zero, suc, ◌<◌, ◌≤◌, ◌==◌, slice_set, slice_index_or, Bool, true, false, not, List, [], ◌∷◌, ◌++◌, length, map, slice_get, Option, Some, None, cond}
use Rattle.std.proofs.lemmas.Bool.{eqb-true, leb-true}
use Rattle.std.proofs.lemmas.List.{append-nil, length-map}
use Rattle.l2_window.specs.Window.{fsn_count, fsn_before_first}
use Rattle.l3_orders.specs.declared.order.Order.{Order}
use Rattle.l3_orders.specs.declared.order.Order.TheVariants.{Coo, Coa, Cbd, Cba, Eco, Eca}
use Rattle.l3_orders.specs.Grammar.{text, order_of, order_any, link_of}
use Rattle.l2_units.specs.declared.unit.Unit.{Unit as SignalUnit}
use Rattle.set_events.specs.declared.answer.Took.TheVariants.{Message as TookMessage}
use Rattle.set_events.specs.declared.event.Event.TheVariants.{Heard as HeardEvent, Up as UpEvent}
use Rattle.set_model.specs.Control.{HeardPart}
use Rattle.set_events.specs.declared.answer.Fate.{Fate}
use Rattle.set_events.specs.declared.answer.Fate.TheVariants.{Acked, Discarded}
use Rattle.set_events.specs.declared.answer.DiscardCause.TheVariants.{Emergency, Unreasonable}
use Rattle.set_route.specs.declared.place.Place.{Place}
use Rattle.set_route.specs.declared.place.Place.TheVariants.{On, Changing, Nowhere}
use Rattle.set_route.specs.declared.stream.Stream.{Stream}
use Rattle.set_route.specs.declared.place.Code.{Code}
use Rattle.set_route.specs.declared.place.Code.TheVariants.{Free, Asked, Spent}
use Rattle.set_route.specs.Routing.{Routing, code_of, code_settled, place_of, place_on, place_settled, via_of, via_settled, stream_settled, settled as streams_settled}
use Rattle.set_route.specs.Target.{target_of}
use Rattle.set_model.specs.declared.phase.Phase.{Phase}
use Rattle.set_model.specs.declared.phase.Phase.TheVariants.{Up, Settled}
use Rattle.set_model.specs.declared.reached.Reached.TheVariants.{Upto, Unknown}
use Rattle.set_events.specs.declared.config.Method.{Method}
use Rattle.set_model.specs.Changeover.{fate_on, queued, settled, settled_link, moved_over, is_reasonable, reached_by, acknowledged, acknowledged_by, discarded, reply_of, answered_link, one_later, order_obeyed, obeyed}
use Rattle.set_model.specs.Step.{opened, Outcome, with_known, brought, takes, controlled, controls, part_in, is_heard, risen_link, rises, step}
use Rattle.set_model.specs.Laws.{IsEmptyLink}
use Rattle.set_model.specs.Rows.{Row, unack, on, is_on, is_unacked, is_waiting, all_with, put_ahead, standing, turned, changed, moved, with_fate, fated, service_indicator}
use Rattle.set_model.specs.Sound.{IsSound, IsPlaced}
use Rattle.set_model.specs.State.{open_link, opens_in, late_at, late_in, LinkState, State, Settings, given, with_link, target, has_phase_up, has_phase_settled, is_up, is_settled, link_is_settled}
use Rattle.set_model.proofs.Events.{Untouched, acknowledged as acks, empty_link}
use Rattle.set_model.proofs.Lists.{carried_unsettled, set_twice, same_at, map_set_same, get_set_same, get_set_other, within}
use Rattle.set_model.proofs.Places.{false_true, itself}
use Rattle.set_model.proofs.SoundLink.{queues, hears_sound}
use Rattle.set_model.proofs.Walk.{IsAt}
use Rattle.set_veiled.specs.Veil.{dormant, veil, IsAlike}
use Rattle.pair_rises.proofs.Open.{IsOpen}
use Rattle.pair_rises.specs.Rises.{closed}
use Rattle.pair_rises.proofs.Veils.{swap}
use Rattle.pair_model.specs.Run.{Message}
use Rattle.pair_model.proofs.Counts.{CountStays}
use Rattle.pair_model.proofs.Following.{follows_queued}
use Rattle.pair_model.proofs.Pairs.{Two, HoldsOf}
use Rattle.pair_model.proofs.Tied.{keeps_put, follows}
use Rattle.pair_changeover.proofs.Changes.{queues_both}
use Rattle.pair_changeover.proofs.Texts.{coa_read, plain_in}
use Rattle.pair_changeover.proofs.Views.{view, last_on, About, IsChangeover, NoneAbout, In}
use Rattle.pair_streams.proofs.Acting.{Streams}
use Rattle.pair_streams.proofs.Codes.{far_carried, far_in}
use Rattle.pair_streams.proofs.Declared.{coa_declares, coa_acknowledges}
use Rattle.pair_streams.proofs.Flows.{order_in, order_z, queues_flow, queues_acks}
use Rattle.set_model.proofs.Ahead.{put_length}
use Rattle.pair_streams.proofs.Known.{order_covers}
use Rattle.pair_streams.proofs.Rising.{rise_further}

module _ {emergencies : Bool} (mx my : Method) (p : Two) (h : HoldsOf mx my p) (w : Streams emergencies p) (l fsn : ℕ)
    (few : l < 16) (small : fsn < fsn_count p.near.settings.profile) (is : fsn ≡ last_on l p.near)
    (none : NoneAbout l (view p.near p.far)) (down : is_up l p.near ≡ false) (goes : is_settled l p.far ≡ false) where
  abbrev coa : Order
  coa = Coa l fsn

  abbrev body : List ℕ
  body = text p.near.settings.profile coa p.near.settings.sio p.near.settings.dpc p.near.settings.opc

  abbrev told : State
  told = queued coa p.near

  abbrev pub told_two : Two
  told_two = record p { near = told }

  same_counts : (n : ℕ) → CountStays n p.near told
  same_counts n = λ link there. (link, there, refl)

  pub told_holds : HoldsOf mx my told_two
  told_holds = record {
    near_sound = queues coa p.near h.near_sound;
    far_sound = h.far_sound;
    near_method = h.near_method;
    far_method = h.far_method;
    profiles = h.profiles;
    far_links = h.far_links;
    out_lines = h.out_lines;
    back_lines = h.back_lines;
    ties = λ n. follows n mx my _ _ _ _ told (keeps_put (given p.near) p.near.rows body (fate_on (target p.near.links)) h.near_sound.numbered) (same_counts n) (follows_queued n coa p.near) (h.ties n);
  }

  pub told_streams : Streams emergencies told_two
  told_streams = record {
    ordered = record {
      both = queues_both p.near p.far coa h.near_sound w.ordered.both
          (coa_read p.near.settings l fsn w.ordered.near_codes few small) is none down goes;
      near_codes = w.ordered.near_codes;
      far_codes = w.ordered.far_codes;
    };
    out_lost = w.out_lost;
    back_lost = w.back_lost;
    out = queues_flow coa p.near p.far h.near_sound (λ c d. coa_declares p.near.settings l (given p.near) fsn c d)
        p.near_past.offered p.far_past.got w.out_lost w.out;
    back = far_carried p.near told p.far (λ n. refl) p.far_past.offered p.near_past.got w.back_lost
        (queues_acks coa p.near p.far h.near_sound (λ c a. coa_acknowledges p.near.settings l (given p.near) fsn c a)) w.back;
    near_covers = order_covers _ _ coa p.near w.near_covers;
    far_covers = w.far_covers;
    near_rises = λ stream. rise_further 0 (p.near_past.offered stream) (given p.near) (given told)
        (omega (arith, put_length (given p.near) p.near.rows body (fate_on (target p.near.links)))) (w.near_rises stream);
    far_rises = w.far_rises;
    out_whole = w.out_whole;
    back_whole = w.back_whole;
  }

  -- and what holds of open links
  pub told_near : (n : ℕ) → (l == n) ≡ false → IsOpen n p.near p.far → IsOpen n told p.far
  told_near n d was = record { none = λ m i about. go m about (order_in coa p.near p.far h.near_sound m i); goes = was.goes }
    where
      go : (m : Message) → About n m → In m (view p.near p.far) ⊎ (m ≡ order_z coa p.near p.far h.near_sound) → ⊥
      go m about (inl i) = was.none m i about
      go m about (inr e) =
          let same : Some about.order ≡ Some coa = sym about.is ∙ ap (λ (x : Message). order_any x.body) e
          ∙ coa_read p.near.settings l fsn w.ordered.near_codes few small in
          let one : about.order ≡ coa = cc in
          false_true (l == n) d (ap (λ (k : ℕ). l == k) (sym about.of ∙ ap link_of one) ∙ itself l)

  pub told_far : (n : ℕ) → IsOpen n p.far p.near → IsOpen n p.far told
  told_far n was = record { none = λ m i about. was.none m (far_in p.near told p.far (λ k. refl) m i) about; goes = was.goes }

-- WHERE NOTHING STANDS on a link nothing moves
module _ (test : Fate → Bool) where
  pub turned_none : (to : Fate) (n : ℕ) (rows : List Row) → standing test rows ≡ [] → turned test to n rows ≡ rows
  turned_none to zero rows e = refl
  turned_none to (suc n) [] e = refl
  turned_none to (suc n) (row ∷ rows) e = go (test row.fate) (λ rest. turned_none to (suc n) rows rest) e
    where
      go : (b : Bool) → (standing test rows ≡ [] → turned test to (suc n) rows ≡ rows) → cond b (row ∷ standing test rows) (standing test rows) ≡ []
          → cond b (with_fate to row ∷ turned test to n rows) (row ∷ turned test to (suc n) rows) ≡ row ∷ rows
      go true last e = absurd cc
      go false last e = ap (λ (rs : List Row). row ∷ rs) (last e)

  others_all : (rows : List Row) → standing test rows ≡ [] → standing (λ fate. not (test fate)) rows ≡ rows
  others_all [] e = refl
  others_all (row ∷ rows) e = go (test row.fate) (λ rest. others_all rows rest) e
    where
      go : (b : Bool) → (standing test rows ≡ [] → standing (λ fate. not (test fate)) rows ≡ rows) → cond b (row ∷ standing test rows) (standing test rows) ≡ []
          → cond (not b) (row ∷ standing (λ fate. not (test fate)) rows) (standing (λ fate. not (test fate)) rows) ≡ row ∷ rows
      go true last e = absurd cc
      go false last e = ap (λ (rs : List Row). row ∷ rs) (last e)

  pub moved_none : (f : Row → Fate) (rows : List Row) → standing test rows ≡ [] → moved test f rows ≡ rows
  moved_none f rows e =
      ap (λ (rs : List Row). standing (λ fate. not (test fate)) rows ++ map (fated f) rs) e
      ∙ append-nil (standing (λ fate. not (test fate)) rows) ∙ others_all rows e

-- nor does a stream that isn't there
module _ (l : ℕ) (to : Option ℕ) where
  same_streams : (streams : List Stream)
      → ((i : ℕ) → i < length streams → place_settled l to (slice_index_or (map (λ s. s.place) streams) i Nowhere) ≡ slice_index_or (map (λ s. s.place) streams) i Nowhere)
      → map (stream_settled l to) streams ≡ streams
  same_streams [] same = refl
  same_streams (s ∷ streams) same =
      let head : stream_settled l to s ≡ s = ap (λ (p : Place). record s { place = p }) (same 0 (omega arith)) in
      let rest = same_streams streams (λ i few. same (suc i) (omega (arith, few))) in
      ap₂ (λ (x : Stream) (xs : List Stream). x ∷ xs) head rest

  place_same : (links : List LinkState) (link : LinkState) → slice_get links l ≡ Some link → has_phase_settled link.phase ≡ true
      → (p : Place) → IsPlaced links p → place_settled l to p ≡ p
  place_same links link there settled (On n) placed = go (n == l) refl
    where
      go : (b : Bool) → (n == l) ≡ b → cond b (place_on to) (On n) ≡ On n
      go false e = refl
      go true e =
          let same : placed.0 ≡ link = same_at links l link placed.0 there (ap (slice_get links) (sym (eqb-true n l e)) ∙ placed.1) in
          absurd (let no : true ≡ false = sym settled ∙ ap (λ (k : LinkState). has_phase_settled k.phase) (sym same) ∙ carried_unsettled placed.0.tested placed.0.phase placed.2 in cc)
  place_same links link there settled (Changing home code via) placed = ap (λ (v : ℕ). Changing home code v) (via_same to)
    where
      at : (b : Bool) (target : ℕ) → (via == l) ≡ b → cond b target via ≡ via
      at false target e = refl
      at true target e =
          let same : placed.0 ≡ link = same_at links l link placed.0 there (ap (slice_get links) (sym (eqb-true via l e)) ∙ placed.1) in
          absurd (let no : true ≡ false = sym settled ∙ ap (λ (k : LinkState). has_phase_settled k.phase) (sym same) ∙ carried_unsettled placed.0.tested placed.0.phase placed.2 in cc)

      via_same : (o : Option ℕ) → via_settled l o via ≡ via
      via_same None = refl
      via_same (Some target) = at (via == l) target refl
  place_same links link there settled Nowhere placed = refl

  -- nor does a code whose streams come from elsewhere
  same_codes : (codes : List Code) → ((i : ℕ) → code_settled l to (slice_index_or codes i Free) ≡ slice_index_or codes i Free) → map (code_settled l to) codes ≡ codes
  same_codes [] same = refl
  same_codes (c ∷ codes) same = ap₂ (λ (x : Code) (xs : List Code). x ∷ xs) (same 0) (same_codes codes (λ i. same (suc i)))

  code_same : (links : List LinkState) (link : LinkState) → slice_get links l ≡ Some link → has_phase_settled link.phase ≡ true
      → (was : Code) → ((via : ℕ) → via_of was ≡ Some via → IsPlaced links (On via)) → code_settled l to was ≡ was
  code_same links link there settled Free placed = refl
  code_same links link there settled (Spent owed) placed = refl
  code_same links link there settled (Asked via declaration owed) placed =
      let same : Changing 0 0 (via_settled l to via) ≡ Changing 0 0 via = place_same links link there settled (Changing 0 0 via) (placed via refl) in
      let via_is : via_settled l to via ≡ via = cc in
      ap (λ (v : ℕ). Asked v declaration owed) via_is

-- A LINK THAT IS SETTLED, seen as left in silence, settles by an order as one that counts nothing; nothing moves
module _ (l : ℕ) (m : State) (sound : IsSound m) (link : LinkState) (at : IsAt l link Settled m) where
  abbrev seen : State
  seen = veil (dormant m.settings) l m

  none_on : on l m.rows ≡ []
  none_on = (sound.links l link at.there).settled (ap has_phase_settled at.phase_is)

  empty : IsEmptyLink l m.rows
  empty = empty_link l m.rows none_on

  sixteen : length m.routing.streams ≡ 16
  sixteen = sym (length-map m.routing.streams (λ s. s.home)) ∙ ap length sound.routing.homes

  routing_same : (to : Option ℕ) → streams_settled l to m.routing ≡ m.routing
  routing_same to = ap₂ (λ (streams : List Stream) (codes : List Code). record m.routing { streams = streams; codes = codes })
      (same_streams l to m.routing.streams (λ i few. place_same l to m.links link at.there (ap has_phase_settled at.phase_is)
      (place_of i m.routing) (sound.placed i (omega (arith, few, sixteen)))))
      (same_codes l to m.routing.codes (λ i. code_same l to m.links link at.there (ap has_phase_settled at.phase_is) (code_of i m.routing) (sound.codes i).via_stands))

  built : (links links' : List LinkState) (rows rows' : List Row) (routing routing' : Routing) → links ≡ links' → rows ≡ rows' → routing ≡ routing'
      → ◌≡◌ {A = State} (record m { links = links; rows = rows; routing = routing }) (record m { links = links'; rows = rows'; routing = routing' })
  built links links' rows rows' routing routing' a b c = rw (a, b, c) refl

  -- whatever was acknowledged or discarded before
  over : (links : List LinkState) (rows : List Row) (last : LinkState) → slice_set links l (settled_link true last) ≡ slice_set m.links l (closed m.settings)
      → rows ≡ m.rows → moved_over true l last (record m { links = links; rows = rows }) ≡ veil (closed m.settings) l m
  over links rows last set same =
      built _ _ _ _ _ _ set
      (ap (moved (is_on l) (all_with (fate_on (target links)))) same ∙ moved_none (is_on l) (all_with (fate_on (target links))) m.rows none_on)
      (routing_same (target links))

  once : (last : LinkState) → settled_link true last ≡ closed m.settings → slice_set seen.links l (settled_link true last) ≡ slice_set m.links l (closed m.settings)
  once last is = ap (slice_set seen.links l) is ∙ set_twice m.links l (dormant m.settings) (closed m.settings)

  pub settles_told : (fsn : ℕ) → settled (Upto fsn) l (dormant m.settings) seen ≡ veil (closed m.settings) l m
  settles_told fsn = go (is_reasonable fsn l (dormant m.settings) m.rows) refl
    where
      count : ℕ
      count = reached_by fsn l (dormant m.settings) m.rows

      go : (b : Bool) → is_reasonable fsn l (dormant m.settings) m.rows ≡ b
          → moved_over true l (cond b (acknowledged count (dormant m.settings)) (dormant m.settings))
          (cond b (acknowledged_by count l (dormant m.settings) seen) (discarded Unreasonable l seen)) ≡ veil (closed m.settings) l m
      go true e =
          let few : count ≤ length (unack l m.rows) = leb-true count (length (unack l m.rows)) e in
          let none : length (unack l m.rows) ≡ 0 = ap length empty.unack_none in
          let zero_is : count ≡ 0 = omega (arith, few, none) in
          over (slice_set seen.links l (acknowledged count (dormant m.settings))) (turned (is_unacked l) (Acked l) count m.rows) (acknowledged count (dormant m.settings))
          (set_twice seen.links l (acknowledged count (dormant m.settings)) (settled_link true (acknowledged count (dormant m.settings)))
          ∙ once (acknowledged count (dormant m.settings)) (ap (λ (n : ℕ). settled_link true (acknowledged n (dormant m.settings))) zero_is))
          (turned_none (is_unacked l) (Acked l) count m.rows empty.unack_none)
      go false e =
          let sent : changed (is_unacked l) (Discarded Unreasonable) m.rows ≡ m.rows = turned_none (is_unacked l) (Discarded Unreasonable) (length m.rows) m.rows empty.unack_none in
          over seen.links (changed (is_waiting l) (Discarded Unreasonable) (changed (is_unacked l) (Discarded Unreasonable) m.rows)) (dormant m.settings)
          (once (dormant m.settings) refl)
          (ap (changed (is_waiting l) (Discarded Unreasonable)) sent
          ∙ turned_none (is_waiting l) (Discarded Unreasonable) (length m.rows) m.rows empty.wait_none)

  pub settles_blindly : settled Unknown l (dormant m.settings) seen ≡ veil (closed m.settings) l m
  settles_blindly =
      over seen.links (changed (is_unacked l) (Discarded Emergency) m.rows) (dormant m.settings) (once (dormant m.settings) refl)
      (turned_none (is_unacked l) (Discarded Emergency) (length m.rows) m.rows empty.unack_none)

  -- what the end does as it is: it answers, and is seen as one that counts nothing
  pub answers_so : reply_of l link ≡ Coa l (fsn_before_first m.settings.profile)
      → veil (closed m.settings) l (with_link l (answered_link link) (queued (reply_of l link) m))
      ≡ queued (Coa l (fsn_before_first m.settings.profile)) (veil (closed m.settings) l m)
  answers_so is =
      let down : open_link link ≡ false = ap (opens_in link.tested) at.phase_is in
      let to : target (slice_set m.links l (closed m.settings)) ≡ target m.links =
      ap target_of (map_set_same (λ (k : LinkState). open_link k) m.links l link (closed m.settings) at.there (sym down)) in
      ap (λ (order : Order). veil (closed m.settings) l (with_link l (answered_link link) (queued order m))) is
      ∙ ap₂ (λ (ls : List LinkState) (o : Option ℕ). record m {
        links = ls;
        rows = put_ahead (given m) m.rows (text m.settings.profile (Coa l (fsn_before_first m.settings.profile)) m.settings.sio m.settings.dpc m.settings.opc) (fate_on o);
      }) (set_twice m.links l (answered_link link) (closed m.settings)) (sym to)

-- A UNIT IS HEARD on link `k`, while link `l` is settled
module _ (k l : ℕ) (u : State) (sound : IsSound u) (was : LinkState) (was_at : IsAt l was Settled u) (link : LinkState) (at : IsAt k link Up u)
    (unit : SignalUnit) (fits : is_heard u.settings.profile unit ≡ true) where
  k_apart : (b : Bool) → (k == l) ≡ b → b ≡ false
  k_apart false e = refl
  k_apart true e =
      let same : was ≡ link = same_at u.links k link was at.there (ap (slice_get u.links) (eqb-true k l e) ∙ was_at.there) in
      absurd (let no : true ≡ false = sym (ap has_phase_settled was_at.phase_is) ∙ ap (λ (x : LinkState). has_phase_settled x.phase) same ∙ ap has_phase_settled at.phase_is in cc)

  pub other : (k == l) ≡ false
  other = let d = k_apart (k == l) refl in d

  -- its own part is the same under a veil
  abbrev pub mid : State
  mid = controlled unit k u link

  under_there : (cover : LinkState) → slice_get (veil cover l u).links k ≡ Some link
  under_there cover = get_set_other u.links l k cover (λ same. false_true (k == l) other (ap (λ (n : ℕ). k == n) same ∙ itself k)) ∙ at.there

  under_mid : (cover : LinkState) → controlled unit k (veil cover l u) link ≡ veil cover l mid
  under_mid cover = ap (λ (ls : List LinkState). record mid { links = ls }) (swap u.links k l _ cover other)

  under_step : (cover : LinkState) → step (veil cover l u) (HeardEvent k unit) ≡ controls unit k (veil cover l u) link
  unfolding step
  under_step cover = rw (under_there cover, at.phase_is, fits) refl

  bare_step : step u (HeardEvent k unit) ≡ controls unit k u link
  unfolding step
  bare_step = rw (at.there, at.phase_is, fits) refl

  abbrev part : HeardPart
  part = part_in unit k link u

  -- no body is accepted: it's the same under any veil, whatever the unit brings
  pub unaccepted : (cover : LinkState) → brought part.accept unit ≡ None → IsAlike cover l (step (veil cover l u) (HeardEvent k unit)) (step u (HeardEvent k unit))
  unaccepted cover none = record {
    answer = ap (λ (o : Outcome). o.answer) (under_step cover) ∙ rw none refl ∙ sym (ap (λ (o : Outcome). o.answer) bare_step);
    state = ap (λ (o : Outcome). o.state) (under_step cover)
        ∙ ap (λ (b : Option (List ℕ)). (takes b (controlled unit k (veil cover l u) link)).state) none
        ∙ under_mid cover
        ∙ ap (λ (b : Option (List ℕ)). veil cover l (takes b mid).state) (sym none)
        ∙ sym (ap (λ (o : Outcome). veil cover l o.state) bare_step);
  }

  pub mid_sound : IsSound mid
  mid_sound = hears_sound k link u at sound unit

  -- which touches nothing of the settled one
  pub mid_untouched : Untouched l u.rows mid.rows
  mid_untouched = (acks k part.acked u.rows).others l other

  pub mid_at : IsAt l was Settled mid
  mid_at = record {
    there = get_set_other u.links k l _ (λ same. false_true (k == l) other (rw same (itself l))) ∙ was_at.there;
    phase_is = was_at.phase_is;
  }

  -- a body is: an order about it
  module _ (body : List ℕ) (some : brought part.accept unit ≡ Some body) (order : Order) (is : order_of u.settings.profile body ≡ Some order) where
    of_management : (b : Bool) → (service_indicator body == 0) ≡ b → b ≡ true
    of_management true e = refl
    of_management false e = absurd (let no : None ≡ Some order = sym (plain_in u.settings.profile body e) ∙ is in cc)

    obeys_so : (s : State) → s.settings ≡ u.settings → (takes (Some body) s).state ≡ (order_obeyed order s).state
    obeys_so s same =
        let managed : (service_indicator body == 0) ≡ true = let m = of_management (service_indicator body == 0) refl in m in
        let told : order_of s.settings.profile body ≡ Some order = ap (λ (settings : Settings). order_of settings.profile body) same ∙ is in
        ap (λ (b : Bool). (cond b (obeyed (order_of s.settings.profile body) s) (record { took = TookMessage; state = record s { inbox = s.inbox ++ body ∷ [] } })).state) managed
        ∙ ap (λ (o : Option Order). (obeyed o s).state) told

    bare_so : (step u (HeardEvent k unit)).state ≡ (order_obeyed order mid).state
    bare_so = ap (λ (o : Outcome). o.state) bare_step ∙ ap (λ (b : Option (List ℕ)). (takes b mid).state) some ∙ obeys_so mid refl

    under_so : (step (veil (dormant u.settings) l u) (HeardEvent k unit)).state ≡ (order_obeyed order (veil (dormant u.settings) l mid)).state
    under_so = ap (λ (o : Outcome). o.state) (under_step (dormant u.settings))
        ∙ ap (λ (b : Option (List ℕ)). (takes b (controlled unit k (veil (dormant u.settings) l u) link)).state) some
        ∙ ap (λ (s : State). (takes (Some body) s).state) (under_mid (dormant u.settings))
        ∙ obeys_so (veil (dormant u.settings) l mid) refl

  abbrev after : State
  after = (step u (HeardEvent k unit)).state

  abbrev after_under : State
  after_under = (step (veil (dormant u.settings) l u) (HeardEvent k unit)).state

  seen_mid : slice_get (veil (dormant u.settings) l mid).links l ≡ Some (dormant u.settings)
  seen_mid = get_set_same mid.links l (dormant u.settings) (within mid.links l was mid_at.there)

  answered_at : slice_get (with_link l (answered_link was) (queued (reply_of l was) mid)).links l ≡ Some (answered_link was)
  answered_at = get_set_same mid.links l (answered_link was) (within mid.links l was mid_at.there)

  answered_there : is_settled l (with_link l (answered_link was) (queued (reply_of l was) mid)) ≡ true
  answered_there = ap link_is_settled answered_at ∙ ap has_phase_settled was_at.phase_is

  module _ (body : List ℕ) (some : brought part.accept unit ≡ Some body) where
    -- under the veil it settles
    pub under_coo : (fsn : ℕ) → order_of u.settings.profile body ≡ Some (Coo l fsn) → after_under ≡ veil (closed u.settings) l mid
    under_coo fsn is = under_so body some (Coo l fsn) is ∙ rw seen_mid refl ∙ settles_told l mid mid_sound was mid_at fsn

    pub under_eco : order_of u.settings.profile body ≡ Some (Eco l) → after_under ≡ veil (closed u.settings) l mid
    under_eco is = under_so body some (Eco l) is ∙ rw seen_mid refl ∙ settles_blindly l mid mid_sound was mid_at

    pub under_coa : (fsn : ℕ) → order_of u.settings.profile body ≡ Some (Coa l fsn) → after_under ≡ veil (closed u.settings) l mid
    under_coa fsn is = under_so body some (Coa l fsn) is ∙ rw seen_mid refl ∙ settles_told l mid mid_sound was mid_at fsn

    pub under_eca : order_of u.settings.profile body ≡ Some (Eca l) → after_under ≡ veil (closed u.settings) l mid
    under_eca is = under_so body some (Eca l) is ∙ rw seen_mid refl ∙ settles_blindly l mid mid_sound was mid_at

    -- that the other left it: it answers, and is seen as one that counts nothing
    pub late_coo : (fsn : ℕ) → order_of u.settings.profile body ≡ Some (Coo l fsn) → reply_of l was ≡ Coa l (fsn_before_first u.settings.profile)
        → veil (closed u.settings) l after ≡ queued (Coa l (fsn_before_first u.settings.profile)) after_under
    late_coo fsn is reply =
        ap (veil (closed u.settings) l) (bare_so body some (Coo l fsn) is ∙ rw (mid_at.there, mid_at.phase_is) refl)
        ∙ answers_so l mid mid_sound was mid_at reply
        ∙ ap (queued (Coa l (fsn_before_first u.settings.profile))) (sym (under_coo fsn is))

    pub late_eco : order_of u.settings.profile body ≡ Some (Eco l) → reply_of l was ≡ Coa l (fsn_before_first u.settings.profile)
        → veil (closed u.settings) l after ≡ queued (Coa l (fsn_before_first u.settings.profile)) after_under
    late_eco is reply =
        ap (veil (closed u.settings) l) (bare_so body some (Eco l) is ∙ rw (mid_at.there, mid_at.phase_is) refl)
        ∙ answers_so l mid mid_sound was mid_at reply
        ∙ ap (queued (Coa l (fsn_before_first u.settings.profile))) (sym (under_eco is))

    -- an acknowledgement, which it ignores
    pub ignores_coa : (fsn : ℕ) → order_of u.settings.profile body ≡ Some (Coa l fsn) → after ≡ mid
    ignores_coa fsn is = bare_so body some (Coa l fsn) is ∙ rw (mid_at.there, mid_at.phase_is) refl

    pub ignores_eca : order_of u.settings.profile body ≡ Some (Eca l) → after ≡ mid
    ignores_eca is = bare_so body some (Eca l) is ∙ rw (mid_at.there, mid_at.phase_is) refl

    -- an order is answered, and counts
    answers_coo : (fsn : ℕ) → order_of u.settings.profile body ≡ Some (Coo l fsn) → after ≡ with_link l (answered_link was) (queued (reply_of l was) mid)
    answers_coo fsn is = bare_so body some (Coo l fsn) is ∙ rw (mid_at.there, mid_at.phase_is) refl

    answers_eco : order_of u.settings.profile body ≡ Some (Eco l) → after ≡ with_link l (answered_link was) (queued (reply_of l was) mid)
    answers_eco is = bare_so body some (Eco l) is ∙ rw (mid_at.there, mid_at.phase_is) refl

    pub counts_coo : (fsn : ℕ) → order_of u.settings.profile body ≡ Some (Coo l fsn) → late_at l after ≡ one_later was.late
    counts_coo fsn is = ap (late_at l) (answers_coo fsn is) ∙ ap late_in answered_at

    pub counts_eco : order_of u.settings.profile body ≡ Some (Eco l) → late_at l after ≡ one_later was.late
    counts_eco is = ap (late_at l) (answers_eco is) ∙ ap late_in answered_at

    -- and the link is settled there as it was
    pub settled_after : (order : Order) → IsChangeover order → link_of order ≡ l → order_of u.settings.profile body ≡ Some order → is_settled l after ≡ true
    settled_after (Coo m fsn) over same is =
        let e : order_of u.settings.profile body ≡ Some (Coo l fsn) = is ∙ ap (λ (x : ℕ). Some (Coo x fsn)) same in
        ap (is_settled l) (answers_coo fsn e) ∙ answered_there
    settled_after (Eco m) over same is =
        let e : order_of u.settings.profile body ≡ Some (Eco l) = is ∙ ap (λ (x : ℕ). Some (Eco x)) same in
        ap (is_settled l) (answers_eco e) ∙ answered_there
    settled_after (Coa m fsn) over same is =
        let e : order_of u.settings.profile body ≡ Some (Coa l fsn) = is ∙ ap (λ (x : ℕ). Some (Coa x fsn)) same in
        ap (is_settled l) (ignores_coa fsn e) ∙ ap link_is_settled mid_at.there ∙ ap has_phase_settled was_at.phase_is
    settled_after (Eca m) over same is =
        let e : order_of u.settings.profile body ≡ Some (Eca l) = is ∙ ap (λ (x : ℕ). Some (Eca x)) same in
        ap (is_settled l) (ignores_eca e) ∙ ap link_is_settled mid_at.there ∙ ap has_phase_settled was_at.phase_is
    settled_after (Cbd m code) over same is = absurd over
    settled_after (Cba m code) over same is = absurd over

    -- nor does any other settle
    mid_before : (m : ℕ) → is_settled m mid ≡ true → is_settled m u ≡ true
    mid_before m e = go (k == m) refl
      where
        go : (b : Bool) → (k == m) ≡ b → is_settled m u ≡ true
        go true d = absurd (let there : has_phase_settled link.phase ≡ true =
            sym (ap link_is_settled (get_set_same u.links k _ (within u.links k link at.there))) ∙ subst (λ (n : ℕ). is_settled n mid ≡ true) (sym (eqb-true k m d)) e in
            let no : true ≡ false = sym there ∙ ap has_phase_settled at.phase_is in cc)
        go false d = ap link_is_settled (sym (get_set_other u.links k m _ (λ same. false_true (k == m) d (ap (λ (n : ℕ). k == n) (sym same) ∙ itself k)))) ∙ e

    answered_before : (m : ℕ) (s : State) → s ≡ with_link l (answered_link was) (queued (reply_of l was) mid) → is_settled m s ≡ true → is_settled m u ≡ true
    answered_before m s is e = go (l == m) refl
      where
        go : (b : Bool) → (l == m) ≡ b → is_settled m u ≡ true
        go true d = subst (λ (n : ℕ). is_settled n u ≡ true) (eqb-true l m d) (ap link_is_settled was_at.there ∙ ap has_phase_settled was_at.phase_is)
        go false d = mid_before m (ap link_is_settled (sym (get_set_other mid.links l m (answered_link was)
            (λ same. false_true (l == m) d (ap (λ (n : ℕ). l == n) (sym same) ∙ itself l)))) ∙ sym (ap (is_settled m) is) ∙ e)

    pub settled_before : (order : Order) → IsChangeover order → link_of order ≡ l → order_of u.settings.profile body ≡ Some order
        → (m : ℕ) → is_settled m after ≡ true → is_settled m u ≡ true
    settled_before (Coo n fsn) over same is m e = answered_before m after (answers_coo fsn (is ∙ ap (λ (x : ℕ). Some (Coo x fsn)) same)) e
    settled_before (Eco n) over same is m e = answered_before m after (answers_eco (is ∙ ap (λ (x : ℕ). Some (Eco x)) same)) e
    settled_before (Coa n fsn) over same is m e = mid_before m (sym (ap (is_settled m) (ignores_coa fsn (is ∙ ap (λ (x : ℕ). Some (Coa x fsn)) same))) ∙ e)
    settled_before (Eca n) over same is m e = mid_before m (sym (ap (is_settled m) (ignores_eca (is ∙ ap (λ (x : ℕ). Some (Eca x)) same))) ∙ e)
    settled_before (Cbd n code) over same is m e = absurd over
    settled_before (Cba n code) over same is m e = absurd over

-- A LINK COMES UP AGAIN: what it counted is over, but for the late orders
abbrev pub closed_after : LinkState → Settings → LinkState
closed_after link settings = record (closed settings) { late = link.late }

rise_is : (k : ℕ) (s : State) (link : LinkState) → IsAt k link Settled s → step s (UpEvent k) ≡ rises k s Settled
unfolding step
rise_is k s link at = ap (λ (o : Option LinkState). with_known o s (λ l. rises k s l.phase)) at.there ∙ ap (λ (p : Phase). rises k s p) at.phase_is

pub rises_over : (k : ℕ) (s : State) (link : LinkState) → IsAt k link Settled s
    → (step (veil (closed_after link s.settings) k s) (UpEvent k)).state ≡ (step s (UpEvent k)).state
rises_over k s link at =
    let cover = closed_after link s.settings in
    let seen = veil cover k s in
    let there : slice_get seen.links k ≡ Some cover = get_set_same s.links k cover (within s.links k link at.there) in
    let late : late_at k seen ≡ late_at k s = ap late_in there ∙ sym (ap late_in at.there) in
    let new : ℕ → LinkState = risen_link s.settings.profile s.settings.method in
    ap (λ (o : Outcome). o.state) (rise_is k seen cover (record { there = there; phase_is = refl }))
    ∙ ap (λ (n : ℕ). opened k (new n) (with_link k (new n) seen)) late
    ∙ ap (λ (ls : List LinkState). opened k (new (late_at k s)) (record s { links = ls })) (set_twice s.links k cover (new (late_at k s)))
    ∙ sym (ap (λ (o : Outcome). o.state) (rise_is k s link at))

pub veil_over : (k : ℕ) (s : State) (cover last : LinkState) → veil last k (veil cover k s) ≡ veil last k s
veil_over k s cover last = ap (λ (ls : List LinkState). record s { links = ls }) (set_twice s.links k cover last)
