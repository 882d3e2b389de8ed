-- EACH STREAM, WHEN AN END HEARS: the message that it accepts leaves what was pending, and its users get it
-- (`hears_streams`). That message stood first where its stream stands (`here_loses`), so what was got and what stands
-- are together as before (`users_got`). Then each case of what its body leads to (`Obeys`, pair_changeover's
-- Obeying.antt) keeps both directions, from Settled.antt, Blindly.antt, Turned.antt, Flows.antt and Returned.antt
-- (`obeyed_then`). The case that matters: a CBD that is heard stood behind all of its streams on that link, so when
-- it's acknowledged nothing of them is left to arrive (`empty_there`). No induction; Runs.antt uses it.
use Rattle.std.proofs.Common.{◌&&◌, not, refl, arith, ◌≡◌, ◌≢◌, ◌∙◌, ap, sym, subst, ℕ, ◌<◌, ◌==◌, ◌-◌, Bool, true, false, List, [], ◌∷◌, ◌++◌, length, slice_get, Option, Some, None, append_assoc, cond, ◌⊎◌, inl, inr}
use Rattle.std.proofs.lemmas.Bool.{eqb-true, eq-eqb}
use Rattle.l2_units.specs.declared.unit.Unit.{Unit as SignalUnit}
use Rattle.l3_orders.specs.declared.order.Order.{Order}
use Rattle.l3_orders.specs.declared.order.Order.TheVariants.{Coo, Coa, Cbd, Cba, Eco, Eca}
use Rattle.l3_orders.specs.Grammar.{order_of, order_any}
use Rattle.l3_orders.proofs.Texts.{any_of}
use Rattle.pair_steps.specs.Lines.{units_on}
use Rattle.set_events.specs.declared.answer.Fate.{Fate}
use Rattle.set_events.specs.declared.answer.Fate.TheVariants.{Unacked, Acked}
use Rattle.set_events.specs.declared.answer.Took.{Took}
use Rattle.set_events.specs.declared.answer.Took.TheVariants.{Nothing as NothingTaken, Message as TookMessage, Order as TookOrder, Ignored}
use Rattle.set_events.specs.declared.config.Method.{Method}
use Rattle.set_events.specs.declared.event.Event.TheVariants.{Heard as HeardEvent}
use Rattle.set_route.specs.declared.place.Place.{Place}
use Rattle.set_route.specs.declared.place.Place.TheVariants.{On, Changing, Nowhere}
use Rattle.set_route.specs.declared.place.Code.{Code}
use Rattle.set_route.specs.declared.place.Code.TheVariants.{Free, Asked, Spent}
use Rattle.set_route.specs.Routing.{place_of, code_of, owed_under}
use Rattle.set_model.specs.declared.phase.Phase.{Phase}
use Rattle.set_model.specs.declared.phase.Phase.TheVariants.{Up, Down, Settled}
use Rattle.set_model.specs.declared.reached.Reached.{Reached}
use Rattle.set_model.specs.declared.reached.Reached.TheVariants.{Upto, Unknown}
use Rattle.set_model.specs.Changeover.{Obeyed, changed_over, answered, at_link, acknowledged_back, order_obeyed, obeyed, left_link, left_by, acknowledged_code, queued, settled}
use Rattle.set_model.specs.Rows.{is_unacked, is_back, place, stream_of, is_managements, service_indicator}
use Rattle.set_model.specs.Sound.{IsSound}
use Rattle.set_model.specs.State.{given, LinkState, State, last_accepted}
use Rattle.set_model.specs.Step.{brought, step}
use Rattle.set_model.proofs.Rows.{turned_same}
use Rattle.set_model.proofs.Places.{apart_back}
use Rattle.set_model.proofs.Walk.{IsAt}
use Rattle.pair_model.specs.Promises.{IsOneMethod}
use Rattle.pair_model.specs.Run.{message_by, Message, Past, messages, body_in, got_by, added_at}
use Rattle.pair_model.proofs.Pairs.{Two, HoldsOf}
use Rattle.pair_changeover.specs.Pending.{queue, pending, aside, acked_on, accepted_of, accepted_on}
use Rattle.pair_changeover.proofs.Blind.{blind_accepted}
use Rattle.pair_changeover.proofs.Ordered.{heard, state_is, mid_sound, heard_ordered}
use Rattle.pair_changeover.proofs.Changes.{by_link, other_then}
use Rattle.pair_changeover.proofs.Hearing as hearing
use Rattle.pair_changeover.proofs.Obeying.{Told, Obeys, keeps, settles, answers, settles_blind, answers_blind, acknowledges, releases, is_reached, told, left_sound, told_sound, told_at, told_reached_so, told_accepted, settles_accepted}
use Rattle.pair_changeover.proofs.Texts.{AreCodes}
use Rattle.pair_changeover.proofs.Views.{view, Among, In}
use Rattle.pair_streams.specs.Streams.{is_of, those_of}
use Rattle.pair_streams.proofs.Acting.{Streams, Covered, keeps_same, added_none}
use Rattle.pair_streams.proofs.Blindly.{blind_flow, blind_was_in}
use Rattle.pair_streams.proofs.Codes.{Clear, Flows, IsNumber, Owes, NewAcknowledges, backed, far_in, far_carried, acked_flow}
use Rattle.pair_streams.proofs.Declared.{Declares, Acknowledges, ClearBehind, coa_declares, coa_acknowledges, cba_declares, cba_other}
use Rattle.pair_streams.proofs.Flowing.{back_by, queue_at, here, runs_by}
use Rattle.pair_streams.proofs.Flows.{order_in, queues_flow, queues_acks}
use Rattle.pair_streams.proofs.Known.{given_up, covers_on}
use Rattle.pair_streams.proofs.Mixed.{Mixed}
use Rattle.pair_streams.proofs.Moving.{same_in, same_flow}
use Rattle.pair_streams.proofs.Returned.{gone_orders, releases_flow}
use Rattle.pair_streams.proofs.Rising.{rising_on}
use Rattle.pair_streams.proofs.Settled.{was_in, settles_flow}
use Rattle.pair_streams.proofs.Turned.{left_orders, leaves_flow}

-- WHAT AN ORDER LEADS TO at an end keeps each stream, in both directions
sent_not_back : (n c : ℕ) (fate : Fate) → is_unacked n fate ≡ true → is_back c fate ≡ false
sent_not_back n c (Unacked l) e = refl
sent_not_back n c _ e = absurd cc

module _ (emergencies : Bool) (k : ℕ) (body : List ℕ) (s f : State) (sound : IsSound s) (codes : AreCodes s.settings)
    (offered got lost far_offered far_got far_lost : ℕ → List Message) (w : Flows s f offered got lost)
    (v : Flows f s far_offered far_got far_lost) where
  -- what is lost then was lost before, or is given up; and that in an emergency alone
  pub record Both' (t : State) : Type 0 where
    pub lost_then : ℕ → List Message
    pub out : Flows t f offered got lost_then
    pub back : Flows f t far_offered far_got far_lost
    pub of : (stream : ℕ) (m : Message) → Among m (lost_then stream) → Among m (lost stream) ⊎ (place m.number t.rows ≡ Some given_up)
    pub none : emergencies ≡ false → (stream : ℕ) → lost_then stream ≡ lost stream

  -- where no acknowledgement of a changeback comes to stand
  by_acks : (t : State) → ((l : ℕ) → accepted_on l t ≡ accepted_on l s) → Flows t f offered got lost → NewAcknowledges (view t f) (view s f) → Both' t
  by_acks t accepted out acks = record {
    lost_then = lost;
    out = out;
    back = far_carried s t f accepted far_offered far_got far_lost acks v;
    of = λ stream m a. inl a;
    none = λ e stream. refl;
  }

  still : (t : State) → t.rows ≡ s.rows → t.links ≡ s.links → t.routing ≡ s.routing → Both' t
  still t rows links routing =
      let k = keeps_same s f sound offered got lost w t rows links routing in
      by_acks t (λ l. ap (λ (ls : List LinkState). accepted_of (slice_get ls l)) links) k.out k.acks

  settled_so : (fsn l : ℕ) (link : LinkState) → IsAt l link Down s → Told fsn l link s f → Both' (settled (Upto fsn) l link s)
  settled_so fsn l link at told_so =
      let t = settled (Upto fsn) l link s in
      let so = is_reached fsn l link s f sound at told_so in
      let accepted = settles_accepted fsn l link s f sound at so in
      by_acks t accepted (settles_flow fsn l link s f sound at so offered got lost w
      (λ c m i a. far_in s t f accepted m i)) (λ c m i a. was_in fsn l link s f sound at so m i)

  -- without a number
  blind_so : (l : ℕ) (link : LinkState) → IsAt l link Down s → emergencies ≡ true → Both' (settled Unknown l link s)
  blind_so l link at may =
      let t = settled Unknown l link s in
      let then_lost = blind_flow l link s f sound at offered got lost w in
      record {
        lost_then = then_lost.lost_then;
        out = then_lost.flows;
        back = far_carried s t f (blind_accepted l link s f sound at) far_offered far_got far_lost (λ c m i a. blind_was_in l link s f sound at m i) v;
        of = then_lost.of;
        none = λ e stream. absurd (let never : true ≡ false = sym may ∙ e in cc);
      }

  -- it leaves the link first, and acknowledges the order
  module _ (l : ℕ) (link : LinkState) (at : IsAt l link Up s) where
    abbrev left : State
    left = left_by false l link s

    abbrev there : State
    there = told l link s f sound codes at

    there_out : Flows there f offered got lost
    there_out = queues_flow (Coa l (last_accepted link)) left f (left_sound l link s f sound codes at)
        (λ c d. coa_declares s.settings l (given left) (last_accepted link) c d) offered got lost
        (leaves_flow false l link s f sound at offered got lost w
        (λ c m i a. far_in s left f (by_link l link (left_link false (given s) link) s left at.there refl
        (λ n old new. accepted_of new ≡ accepted_of old) refl (λ n old d. refl)) m i))

    there_acks : (c : ℕ) (m : Message) → In m (view there f) → Acknowledges c m → In m (view s f)
    there_acks c m i a = left_orders false l link s f sound at (Cba a.link c) m
        (queues_acks (Coa l (last_accepted link)) left f (left_sound l link s f sound codes at)
        (λ d x. coa_acknowledges s.settings l (given left) (last_accepted link) d x) c m i a) a.is

    answered_so : (fsn : ℕ) → Told fsn l link s f → Both' (settled (Upto fsn) l (left_link false (given s) link) there)
    answered_so fsn told_so =
        let there_sound = told_sound l link s f sound codes at in
        let there_at = told_at l link s f sound codes at in
        let there_reached = told_reached_so l link s f sound codes at fsn told_so in
        let t = settled (Upto fsn) l (left_link false (given s) link) there in
        let settled_accepted = settles_accepted fsn l (left_link false (given s) link) there f there_sound there_at there_reached in
        by_acks t (λ n. settled_accepted n ∙ told_accepted l link s f sound codes at n)
        (settles_flow fsn l (left_link false (given s) link) there f there_sound there_at there_reached offered got lost there_out
        (λ c m i a. far_in there t f settled_accepted m i))
        (λ c m i a. there_acks c m (was_in fsn l (left_link false (given s) link) there f there_sound there_at there_reached m i) a)

    answered_blind : emergencies ≡ true → Both' (settled Unknown l (left_link false (given s) link) there)
    answered_blind may =
        let there_sound = told_sound l link s f sound codes at in
        let there_at = told_at l link s f sound codes at in
        let t = settled Unknown l (left_link false (given s) link) there in
        let then_lost = blind_flow l (left_link false (given s) link) there f there_sound there_at offered got lost there_out in
        record {
          lost_then = then_lost.lost_then;
          out = then_lost.flows;
          back = far_carried s t f (λ n. blind_accepted l (left_link false (given s) link) there f there_sound there_at n
              ∙ told_accepted l link s f sound codes at n) far_offered far_got far_lost
              (λ c m i a. there_acks c m (blind_was_in l (left_link false (given s) link) there f there_sound there_at m i) a) v;
          of = then_lost.of;
          none = λ e stream. absurd (let never : true ≡ false = sym may ∙ e in cc);
        }

  -- a declaration is acknowledged
  module _ (code : ℕ) (few : code < 256) (o : Owes code (owed_under (code_of code f.routing)) (view f s) (view s f))
      (number : ℕ) (heard : IsNumber number o.declarations)
      (apart : (m : Message) → In m (view f s) → Declares code m → m.number ≡ number → ⊥)
      (empty : (stream : ℕ) → stream < 16 → (to via : ℕ) → place_of stream f.routing ≡ Changing to code via → those_of stream (pending via f s) ≡ []) where
    acknowledged_so : (l : ℕ) → Both' (queued (Cba l code) s)
    acknowledged_so l = record {
      lost_then = lost;
      of = λ stream m a. inl a;
      none = λ e stream. refl;
      out = queues_flow (Cba l code) s f sound (λ c d. cba_declares s.settings l (given s) code c d) offered got lost w;
      back = acked_flow s (queued (Cba l code) s) f (λ n. refl) code _ few far_offered far_got far_lost v
          (order_in (Cba l code) s f sound) (λ c a. cba_other s.settings l (given s) code c a) o number heard apart
          empty;
    }

  -- what waited for an acknowledgement goes home
  module _ (code : ℕ) (o : Owes code (owed_under (code_of code s.routing)) (view s f) (view f s)) (number : ℕ) (heard : IsNumber number o.acks)
      (apart : (m : Message) → In m (view f s) → Acknowledges code m → m.number ≡ number → ⊥)
      (empty : (stream : ℕ) → stream < 16 → (to via : ℕ) → place_of stream s.routing ≡ Changing to code via → those_of stream (pending via s f) ≡ []) where
    released_so : Both' (acknowledged_code code s)
    released_so = by_acks (acknowledged_code code s) (λ n. refl)
        (releases_flow code s f sound offered got lost w o number heard apart empty)
        (λ c m i a. gone_orders code s f sound (Cba a.link c) m i a.is)

-- AN ORDER IS NO USER'S
module _ (message : Option Message) (body : List ℕ) where
  abbrev GotNone : Took → Type 0
  GotNone took = got_by took message body ≡ []

  order_got : GotNone TookOrder
  order_got = go message
    where
      go : (m : Option Message) → got_by TookOrder m body ≡ []
      go None = refl
      go (Some m) = refl

  ignored_got : GotNone Ignored
  ignored_got = go message
    where
      go : (m : Option Message) → got_by Ignored m body ≡ []
      go None = refl
      go (Some m) = refl

  nothing_got : GotNone NothingTaken
  nothing_got = go message
    where
      go : (m : Option Message) → got_by NothingTaken m body ≡ []
      go None = refl
      go (Some m) = refl

  over_got : (reached : Reached) (n : ℕ) (link : LinkState) (phase : Phase) (s : State) → GotNone (changed_over reached n link phase s).took
  over_got reached n link Up s = order_got
  over_got reached n link Down s = order_got
  over_got reached n link Settled s = order_got

  answer_got : (reached : Reached) (n : ℕ) (link : LinkState) (phase : Phase) (s : State) → GotNone (answered reached n link phase s).took
  answer_got reached n link Up s = ignored_got
  answer_got reached n link Down s = order_got
  answer_got reached n link Settled s = ignored_got

  at_got : (n : ℕ) (s : State) (act : LinkState → Obeyed) → ((link : LinkState) → GotNone (act link).took)
      → (o : Option LinkState) → GotNone (at_link n s act o).took
  at_got n s act each None = ignored_got
  at_got n s act each (Some link) = each link

  back_got : (code : ℕ) (c : Code) (s : State) → GotNone (acknowledged_back code c s).took
  back_got code Free s = ignored_got
  back_got code (Asked via declaration owed) s = order_got
  back_got code (Spent owed) s = order_got

  one_got : (order : Order) (s : State) → GotNone (order_obeyed order s).took
  one_got (Coo n fsn) s = at_got n s _ (λ link. over_got (Upto fsn) n link link.phase s) (slice_get s.links n)
  one_got (Eco n) s = at_got n s _ (λ link. over_got Unknown n link link.phase s) (slice_get s.links n)
  one_got (Coa n fsn) s = at_got n s _ (λ link. answer_got (Upto fsn) n link link.phase s) (slice_get s.links n)
  one_got (Eca n) s = at_got n s _ (λ link. answer_got Unknown n link link.phase s) (slice_get s.links n)
  one_got (Cbd n code) s = order_got
  one_got (Cba n code) s = back_got code (code_of code s.routing) s

  pub obeyed_got : (o : Option Order) (s : State) → GotNone (obeyed o s).took
  obeyed_got None s = ignored_got
  obeyed_got (Some order) s = one_got order s

-- the rest of a list of which nothing is of the stream
rest_of : (stream : ℕ) (m : Message) (ms : List Message) → those_of stream (m ∷ ms) ≡ [] → those_of stream ms ≡ []
rest_of stream m ms e = go (is_of stream m) refl
  where
    go : (b : Bool) → is_of stream m ≡ b → those_of stream ms ≡ []
    go true d = let never : m ∷ those_of stream ms ≡ [] = rw d at e in absurd cc
    go false d = rw d at e

module _ {emergencies : Bool} (mx my : Method) (one : IsOneMethod mx my) (p : Two) (h : HoldsOf mx my p)
    (v : Streams emergencies p) (k : ℕ) (few : k < length p.near.links) (unit : SignalUnit) (rest : List SignalUnit)
    (front : units_on k p.back ≡ unit ∷ rest) (link : LinkState) (at : IsAt k link Up p.near) where
  abbrev mid : State
  mid = hearing.mid mx my one p h v.ordered.both k few unit rest front link at

  abbrev taken : Obeyed
  taken = hearing.taken mx my one p h v.ordered.both k few unit rest front link at

  abbrev then_near : State
  then_near = (step p.near (HeardEvent k unit)).state

  abbrev then_past : Past
  then_past = (heard mx my one p h v.ordered k few unit rest front link at).near_past

  sound_mid : IsSound mid
  sound_mid = mid_sound mx my one p h v.ordered k few unit rest front link at

  queues : (l : ℕ) → pending l mid p.far ≡ pending l p.near p.far
  queues = hearing.heard_queues mx my one p h v.ordered.both k few unit rest front link at

  aside_same : aside mid ≡ aside p.near
  aside_same = ap messages (hearing.heard_aside mx my one p h v.ordered.both k few unit rest front link at)

  backs : (c : ℕ) → back_by c mid ≡ back_by c p.near
  backs c = ap messages (turned_same (is_unacked k) (is_back c) (Acked k) refl (λ fate e. sent_not_back k c fate e)
      (hearing.part mx my one p h v.ordered.both k few unit rest front link at).acked p.near.rows)

  mid_in : (m : Message) → In m (view mid p.far) → In m (view p.near p.far)
  mid_in = same_in p.near mid p.far queues aside_same

  abbrev got_then : ℕ → List Message
  got_then = then_past.got

  mid_out : ((m : Message) → In m (view p.far mid) → In m (view p.far p.near)) → Flows mid p.far p.near_past.offered p.far_past.got v.out_lost
  mid_out less = same_flow p.near mid p.far queues aside_same backs refl p.near_past.offered p.far_past.got v.out_lost v.out (λ c m i a. less m i)

  record Then (t : State) : Type 0 where
    lost_then : ℕ → List Message
    out : Flows t p.far p.near_past.offered p.far_past.got lost_then
    back : Flows p.far t p.far_past.offered got_then v.back_lost
    of : (stream : ℕ) (m : Message) → Among m (lost_then stream) → Among m (v.out_lost stream) ⊎ (place m.number t.rows ≡ Some given_up)
    none : emergencies ≡ false → (stream : ℕ) → lost_then stream ≡ v.out_lost stream

  abbrev Got : Type 0
  Got = (stream : ℕ) → stream < 16
      → added_at (stream_of (body_in unit))
      (got_by taken.took (slice_get (p.far_past.sent k) (length (p.near_past.taken k))) (body_in unit)) p.near_past.got
      stream ++ here stream p.far mid ≡ p.near_past.got stream ++ here stream p.far p.near

  -- nothing is got
  none_got : (more : List Message) → more ≡ [] → (stream : ℕ) → here stream p.far mid ≡ here stream p.far p.near
      → added_at (stream_of (body_in unit)) more p.near_past.got stream ++ here stream p.far mid
      ≡ p.near_past.got stream ++ here stream p.far p.near
  none_got more e stream same =
      ap (λ (x : List Message). added_at (stream_of (body_in unit)) x p.near_past.got stream ++ here stream p.far mid) e
      ∙ ap (λ (x : List Message). x ++ here stream p.far mid) (added_none (stream_of (body_in unit)) stream p.near_past.got)
      ∙ ap (λ (x : List Message). p.near_past.got stream ++ x) same

  -- NO BODY IS ACCEPTED
  module _ (e : brought (hearing.part mx my one p h v.ordered.both k few unit rest front link at).accept unit ≡ None) where
    none_accepted : (l : ℕ) → accepted_on l mid ≡ accepted_on l p.near
    none_accepted = by_link k link (hearing.mid_link mx my one p h v.ordered.both k few unit rest front link at) p.near
        mid at.there refl (λ n old new. accepted_of new ≡ accepted_of old)
        (let zero_more = hearing.none_counted mx my one p h v.ordered.both k few unit rest front link at e in omega (arith, zero_more)) (λ n o d. refl)

    same_got : (stream : ℕ) → got_then stream ≡ p.near_past.got stream
    same_got stream =
        ap (λ (x : List Message). added_at (stream_of (body_in unit)) x p.near_past.got stream)
        (rw e (nothing_got (slice_get (p.far_past.sent k) (length (p.near_past.taken k))) (body_in unit)))
        ∙ added_none (stream_of (body_in unit)) stream p.near_past.got

    none_back : Flows p.far mid p.far_past.offered got_then v.back_lost
    none_back =
        let old = far_carried p.near mid p.far none_accepted p.far_past.offered p.near_past.got v.back_lost (λ c m i a. mid_in m i) v.back in
        record {
          flow = λ stream low. subst (λ (x : List Message). Mixed (x ++ here stream p.far mid) (v.back_lost stream)
              (p.far_past.offered stream)) (sym (same_got stream)) (old.flow stream low);
          stands = old.stands;
          unused = old.unused;
          backing = old.backing;
        }

    none_then : Then taken.state
    none_then = subst Then (sym (hearing.none_taken mx my one p h v.ordered.both k few unit rest front link at e))
        (record {
          lost_then = v.out_lost;
          out = mid_out (far_in p.near mid p.far none_accepted);
          back = none_back;
          of = λ stream m a. inl a;
          none = λ x stream. refl;
        })

  -- ONE IS: it's the first that was pending at the other
  module _ (body : List ℕ) (e : brought (hearing.part mx my one p h v.ordered.both k few unit rest front link at).accept unit ≡ Some body) where
    abbrev first : Message
    first = hearing.first mx my one p h v.ordered.both k few unit rest front link at body e

    first_body : first.body ≡ body
    first_body = (hearing.next_due mx my one p h v.ordered.both k few unit rest front link at body e).body_is

    is_body : body_in unit ≡ body
    is_body = hearing.is_body mx my one p h v.ordered.both k few unit rest front link at body e

    -- its octets tell whose it is
    first_mark : first.users ≡ not (is_managements first.body)
    first_mark = hearing.first_marked mx my one p h v.ordered.both k few unit rest front link at body e

    own_mark : first.users ≡ not (service_indicator body == 0)
    own_mark = first_mark ∙ ap (λ (b : List ℕ). not (is_managements b)) first_body

    first_is : pending k p.far p.near ≡ first ∷ pending k p.far mid
    first_is = hearing.first_is mx my one p h v.ordered.both k few unit rest front link at body e

    first_in : In first (view p.far p.near)
    first_in = hearing.first_in mx my one p h v.ordered.both k few unit rest front link at body e

    far_was : (m : Message) → In m (view p.far mid) → In m (view p.far p.near)
    far_was = hearing.was_in_far mx my one p h v.ordered.both k few unit rest front link at body e

    far_gone : (m : Message) → In m (view p.far mid) → m.number ≢ first.number
    far_gone = hearing.gone mx my one p h v.ordered.both k few unit rest front link at body e

    others_same : (l : ℕ) → (k == l) ≡ false → pending l p.far mid ≡ pending l p.far p.near
    others_same l d = ap (λ (o : Option LinkState). queue (accepted_of o - acked_on l p.far) l p.far.rows)
        (other_then k link (hearing.mid_link mx my one p h v.ordered.both k few unit rest front link at) p.near mid
        at.there refl l d)

    -- of a queue the first leaves, or nothing
    by_queue : (P : List Message → List Message → Type 0) → P (first ∷ pending k p.far mid) (pending k p.far mid)
        → ((q : List Message) → P q q) → (l : ℕ) → P (pending l p.far p.near) (pending l p.far mid)
    by_queue P own same l = go (k == l) refl
      where
        go : (b : Bool) → (k == l) ≡ b → P (pending l p.far p.near) (pending l p.far mid)
        go true d = subst (λ (n : ℕ). P (pending n p.far p.near) (pending n p.far mid)) (eqb-true k l d)
            (subst (λ (q : List Message). P q (pending k p.far mid)) (sym first_is) own)
        go false d = subst (λ (q : List Message). P (pending l p.far p.near) q) (sym (others_same l d)) (same (pending l p.far p.near))

    none_left : (stream l : ℕ) → those_of stream (pending l p.far p.near) ≡ [] → those_of stream (pending l p.far mid) ≡ []
    none_left stream = by_queue (λ old new. those_of stream old ≡ [] → those_of stream new ≡ []) (rest_of stream first (pending k p.far mid)) (λ q n. n)

    -- a message of the stream stood first where the stream runs
    here_loses : (stream : ℕ) → stream < 16 → is_of stream first ≡ true → here stream p.far p.near ≡ first ∷ here stream p.far mid
    here_loses stream low own = go (place_of stream p.far.routing) refl
      where
        is_first : those_of stream (pending k p.far p.near) ≡ first ∷ those_of stream (pending k p.far mid)
        is_first = ap (those_of stream) first_is ∙ rw own refl

        runs_here : (q : Place) → place_of stream p.far.routing ≡ q → (b : Bool) → runs_by q k ≡ b → b ≡ true
        runs_here q is true d = refl
        runs_here q is false d =
            let none = (v.back.stands stream low).alone k (ap (λ (r : Place). runs_by r k) is ∙ d) in
            let never : first ∷ those_of stream (pending k p.far mid) ≡ [] = sym is_first ∙ none in
            absurd cc

        on_it : (m : ℕ) → (m == k) ≡ true → (more : List Message)
            → those_of stream (pending m p.far p.near ++ more) ≡ first ∷ those_of stream (pending m p.far mid ++ more)
        on_it m d more = subst (λ (n : ℕ). those_of stream (pending n p.far p.near ++ more)
            ≡ first ∷ those_of stream (pending n p.far mid ++ more)) (sym (eqb-true m k d))
            (ap (λ (q : List Message). those_of stream (q ++ more)) first_is ∙ rw own refl)

        on_case : (m : ℕ) → (m == k) ≡ true → those_of stream (pending m p.far p.near) ≡ first ∷ those_of stream (pending m p.far mid)
        on_case m d = subst (λ (n : ℕ). those_of stream (pending n p.far p.near)
            ≡ first ∷ those_of stream (pending n p.far mid)) (sym (eqb-true m k d)) is_first

        go : (q : Place) → place_of stream p.far.routing ≡ q → those_of stream (queue_at q p.far p.near) ≡ first ∷ those_of stream (queue_at q p.far mid)
        go (On m) is = on_case m (runs_here (On m) is (m == k) refl)
        go (Changing to code via) is = on_it via (runs_here (Changing to code via) is (via == k) refl) (back_by code p.far)
        go Nowhere is = absurd (let never : false ≡ true = runs_here Nowhere is false refl in cc)

    -- another one changes nothing of it
    here_stays : (stream : ℕ) → is_of stream first ≡ false → here stream p.far mid ≡ here stream p.far p.near
    here_stays stream other = go (place_of stream p.far.routing)
      where
        on_case : (l : ℕ) (more : List Message) → those_of stream (pending l p.far mid ++ more) ≡ those_of stream (pending l p.far p.near ++ more)
        on_case l more = by_queue (λ old new. those_of stream (new ++ more) ≡ those_of stream (old ++ more)) (rw other refl) (λ q. refl) l

        alone_case : (l : ℕ) → those_of stream (pending l p.far mid) ≡ those_of stream (pending l p.far p.near)
        alone_case = by_queue (λ old new. those_of stream new ≡ those_of stream old) (rw other refl) (λ q. refl)

        go : (q : Place) → those_of stream (queue_at q p.far mid) ≡ those_of stream (queue_at q p.far p.near)
        go (On m) = alone_case m
        go (Changing to code via) = on_case via (back_by code p.far)
        go Nowhere = refl

    -- a message for the users
    module _ (users : (service_indicator body == 0) ≡ false) where
      took_it : taken.took ≡ TookMessage
      took_it = rw (e, users) refl

      got_it : got_by taken.took (slice_get (p.far_past.sent k) (length (p.near_past.taken k))) (body_in unit) ≡ first ∷ []
      got_it =
          ap (λ (t : Took). got_by t (slice_get (p.far_past.sent k) (length (p.near_past.taken k))) (body_in unit)) took_it
          ∙ ap (λ (m : Option Message). got_by TookMessage m (body_in unit))
          (hearing.first_sent mx my one p h v.ordered.both k few unit rest front link at body e)
          ∙ ap (λ (b : List ℕ). message_by first.number b ∷ []) (is_body ∙ sym first_body)
          ∙ ap (λ (u : Bool). record { number = first.number; body = first.body; users = u } ∷ []) (sym first_mark)

      users_got : Got
      users_got stream low = go (stream == stream_of (body_in unit)) refl
        where
          go : (b : Bool) → (stream == stream_of (body_in unit)) ≡ b
              → cond b (p.near_past.got stream
              ++ got_by taken.took (slice_get (p.far_past.sent k) (length (p.near_past.taken k))) (body_in unit))
              (p.near_past.got stream) ++ here stream p.far mid ≡ p.near_past.got stream ++ here stream p.far p.near
          go true d =
              let same : stream ≡ stream_of first.body = eqb-true stream (stream_of (body_in unit)) d ∙ ap stream_of (is_body ∙ sym first_body) in
              let own : is_of stream first ≡ true =
              ap (λ (u : Bool). u && (stream_of first.body == stream)) (own_mark ∙ ap not users) ∙ eq-eqb (stream_of first.body) stream (sym same) in
              ap (λ (x : List Message). p.near_past.got stream ++ x ++ here stream p.far mid) got_it
              ∙ append_assoc (p.near_past.got stream) (first ∷ []) (here stream p.far mid)
              ∙ ap (λ (x : List Message). p.near_past.got stream ++ x) (sym (here_loses stream low own))
          go false d =
              let apart : (stream_of first.body == stream) ≡ false =
              ap (λ (b : List ℕ). stream_of b == stream) (first_body ∙ sym is_body)
              ∙ apart_back stream (stream_of (body_in unit)) d in
              ap (λ (x : List Message). p.near_past.got stream ++ x)
              (here_stays stream (ap (λ (u : Bool). u && (stream_of first.body == stream)) (own_mark ∙ ap not users) ∙ apart))

    -- an order, or what the management ignores
    own_got : (service_indicator body == 0) ≡ true → Got
    own_got own stream low =
        none_got (got_by taken.took (slice_get (p.far_past.sent k) (length (p.near_past.taken k))) (body_in unit))
        (rw (e, own) (obeyed_got (slice_get (p.far_past.sent k) (length (p.near_past.taken k))) (body_in unit)
        (order_of p.near.settings.profile body) mid)) stream
        (here_stays stream (ap (λ (u : Bool). u && (stream_of first.body == stream)) (own_mark ∙ ap not own)))

    got_some : Got
    got_some = go (service_indicator body == 0) refl
      where
        go : (b : Bool) → (service_indicator body == 0) ≡ b → Got
        go true d = own_got d
        go false d = users_got d

    -- what it leaves behind at the other
    clear_left : (stream code via : ℕ) → Clear stream code via (view p.far p.near) → Clear stream code via (view p.far mid)
    clear_left stream code via old = record {
      only = λ l d m a. old.only l d m (among_was l m a);
      none_aside = old.none_aside;
      behind = by_queue (λ was now. ClearBehind stream code was → ClearBehind stream code now) (λ c. c.1) (λ q c. c) via old.behind;
    }
      where
        among_was : (l : ℕ) (m : Message) → Among m (pending l p.far mid) → Among m (pending l p.far p.near)
        among_was l m = by_queue (λ was now. Among m now → Among m was) (λ a. inr a) (λ q a. a) l

    mid_back : Flows p.far mid p.far_past.offered got_then v.back_lost
    mid_back = record {
      flow = λ stream low. subst (λ (x : List Message). Mixed x (v.back_lost stream) (p.far_past.offered stream))
          (sym (got_some stream low)) (v.back.flow stream low);
      stands = λ stream low. let old = v.back.stands stream low in record { alone = λ l d. none_left stream l (old.alone l d); none_aside = old.none_aside };
      unused = v.back.unused;
      backing = backed p.far p.far p.near mid v.back.backing
          (λ stream low to code via is. clear_left stream code via (v.back.backing.clear stream low to code via is))
          (λ stream low to code via is n i a. none_left stream via (v.back.backing.answered stream low to code via is n i a))
          (λ c. omega arith) (λ c m i d. far_was m i) (λ c m i a. mid_in m i);
    }

    -- a declaration is heard: none of its code is left, and nothing of its streams
    module _ (l code : ℕ) (is : order_of p.near.settings.profile body ≡ Some (Cbd l code)) where
      declares_first : Declares code first
      declares_first = record { link = l; is = ap order_any first_body ∙ any_of p.near.settings.profile body _ is }

      -- what was under way, and of which the first was heard
      abbrev still_owed_back : Owes code (owed_under (code_of code p.far.routing)) (view p.far mid) (view mid p.far)
      still_owed_back = let o = v.back.backing.owes code in record {
        declarations = o.declarations;
        acks = o.acks;
        within = o.within;
        declared = λ m i d. o.declared m (far_was m i) d;
        acked = λ m i a. o.acked m (mid_in m i) a;
      }

      heard_first : IsNumber first.number (v.back.backing.owes code).declarations
      heard_first = (v.back.backing.owes code).declared first first_in declares_first

      none_more : (m : Message) → In m (view p.far mid) → Declares code m → m.number ≡ first.number → ⊥
      none_more m i d same = far_gone m i same

      code_few : code < 256
      code_few = v.back.backing.few_declared code first first_in declares_first

      empty_there : (stream : ℕ) → stream < 16 → (to via : ℕ) → place_of stream p.far.routing ≡ Changing to code via
          → those_of stream (pending via p.far mid) ≡ []
      empty_there stream low to via is_there =
          let clear = v.back.backing.clear stream low to code via is_there in
          let on_via : (via == k) ≡ true = stands_here clear (via == k) refl in
          subst (λ (n : ℕ). those_of stream (pending n p.far mid) ≡ []) (sym (eqb-true via k on_via))
          ((subst (ClearBehind stream code) first_is
          (subst (λ (n : ℕ). ClearBehind stream code (pending n p.far p.near)) (eqb-true via k on_via)
          clear.behind)).0 declares_first)
        where
          stands_here : Clear stream code via (view p.far p.near) → (b : Bool) → (via == k) ≡ b → b ≡ true
          stands_here clear true d = refl
          stands_here clear false d = absurd (clear.only k d first (subst (Among first) (sym first_is) (inl refl)) declares_first)

    -- an acknowledgement is heard
    module _ (l code : ℕ) (is : order_of p.near.settings.profile body ≡ Some (Cba l code)) where
      acks_first : Acknowledges code first
      acks_first = record { link = l; is = ap order_any first_body ∙ any_of p.near.settings.profile body _ is }

      abbrev still_owed_out : Owes code (owed_under (code_of code mid.routing)) (view mid p.far) (view p.far mid)
      still_owed_out = let o = v.out.backing.owes code in record {
        declarations = o.declarations;
        acks = o.acks;
        within = o.within;
        declared = λ m i d. o.declared m (mid_in m i) d;
        acked = λ m i a. o.acked m (far_was m i) a;
      }

      acked_first : IsNumber first.number (v.out.backing.owes code).acks
      acked_first = (v.out.backing.owes code).acked first first_in acks_first

      none_more_acks : (m : Message) → In m (view p.far mid) → Acknowledges code m → m.number ≡ first.number → ⊥
      none_more_acks m i a same = far_gone m i same

      empty_here : (stream : ℕ) → stream < 16 → (to via : ℕ) → place_of stream mid.routing ≡ Changing to code via → those_of stream (pending via mid p.far) ≡ []
      empty_here stream low to via is_there = ap (those_of stream) (queues via)
          ∙ v.out.backing.answered stream low to code via is_there first first_in acks_first

    out_mid : Flows mid p.far p.near_past.offered p.far_past.got v.out_lost
    out_mid = mid_out far_was

    pair_of : (t : State) → Both' emergencies k body mid p.far sound_mid v.ordered.near_codes p.near_past.offered
        p.far_past.got v.out_lost p.far_past.offered got_then v.back_lost out_mid mid_back t → Then t
    pair_of t b = record { lost_then = b.lost_then; out = b.out; back = b.back; of = b.of; none = b.none }

    obeyed_then : (t : State) → Obeys emergencies k body mid p.far t → Then t
    obeyed_then t (keeps _ rows links routing none) =
        pair_of t (still emergencies k body mid p.far sound_mid v.ordered.near_codes p.near_past.offered p.far_past.got
        v.out_lost p.far_past.offered got_then v.back_lost out_mid mid_back t rows links routing)
    obeyed_then t (settles fsn l other apart_from there told_so about over) =
        pair_of t (settled_so emergencies k body mid p.far sound_mid v.ordered.near_codes p.near_past.offered
        p.far_past.got v.out_lost p.far_past.offered got_then v.back_lost out_mid mid_back fsn l other there told_so)
    obeyed_then t (answers fsn l other apart_from there told_so about over) =
        pair_of t (answered_so emergencies k body mid p.far sound_mid v.ordered.near_codes p.near_past.offered
        p.far_past.got v.out_lost p.far_past.offered got_then v.back_lost out_mid mid_back l other there fsn told_so)
    obeyed_then t (settles_blind l other may apart_from there about over) =
        pair_of t (blind_so emergencies k body mid p.far sound_mid v.ordered.near_codes p.near_past.offered
        p.far_past.got v.out_lost p.far_past.offered got_then v.back_lost out_mid mid_back l other there may)
    obeyed_then t (answers_blind l other may apart_from there about over) =
        pair_of t (answered_blind emergencies k body mid p.far sound_mid v.ordered.near_codes p.near_past.offered
        p.far_past.got v.out_lost p.far_past.offered got_then v.back_lost out_mid mid_back l other there may)
    obeyed_then t (acknowledges l code is) =
        pair_of t (acknowledged_so emergencies k body mid p.far sound_mid v.ordered.near_codes p.near_past.offered
        p.far_past.got v.out_lost p.far_past.offered got_then v.back_lost out_mid mid_back code (code_few l code is)
        (still_owed_back l code is) first.number (heard_first l code is) (none_more l code is) (empty_there l code is) l)
    obeyed_then t (releases l code is) =
        pair_of t (released_so emergencies k body mid p.far sound_mid v.ordered.near_codes p.near_past.offered
        p.far_past.got v.out_lost p.far_past.offered got_then v.back_lost out_mid mid_back code
        (still_owed_out l code is) first.number (acked_first l code is) (none_more_acks l code is) (empty_here l code is))

    some_then : Then taken.state
    some_then = obeyed_then taken.state (hearing.some_obeyed mx my one p h v.ordered.both k few unit rest front link at body e)

  both_then : Then then_near
  both_then = subst Then (sym (state_is mx my one p h v.ordered k few unit rest front link at))
      (go (brought (hearing.part mx my one p h v.ordered.both k few unit rest front link at).accept unit) refl)
    where
      go : (body : Option (List ℕ)) → brought (hearing.part mx my one p h v.ordered.both k few unit rest front link at).accept unit ≡ body → Then taken.state
      go None e = none_then e
      go (Some body) e = some_then body e

  pub hears_streams : Streams emergencies (heard mx my one p h v.ordered k few unit rest front link at)
  hears_streams = record {
    ordered = heard_ordered mx my one p h v.ordered k few unit rest front link at;
    out_lost = both_then.lost_then;
    back_lost = v.back_lost;
    out = both_then.out;
    back = both_then.back;
    near_covers = record {
      managed = covered.managed;
      numbered = covered.numbered;
      marked = covered.marked;
      known = covered.known;
      gone = λ number q. gone_case number q.0 q.1 (both_then.of q.0 q.1 q.2) q.3;
    };
    far_covers = v.far_covers;
    near_rises = rising_on p.near_past p.near (HeardEvent k unit) v.near_rises;
    far_rises = v.far_rises;
    out_whole = λ e stream. both_then.none e stream ∙ v.out_whole e stream;
    back_whole = v.back_whole;
  }
    where
      covered : Covered p.near_past v.out_lost then_near
      covered = covers_on _ _ p.near (HeardEvent k unit) (λ body e. absurd cc) v.near_covers

      gone_case : (number stream : ℕ) (m : Message) → Among m (v.out_lost stream)
          ⊎ (place m.number then_near.rows ≡ Some given_up) → m.number ≡ number
          → place number then_near.rows ≡ Some given_up
      gone_case number stream m (inl a) same = covered.gone number (stream, m, a, same)
      gone_case number stream m (inr e) same = subst (λ (n : ℕ). place n then_near.rows ≡ Some given_up) same e
