-- WHAT WAS SENT ON A LINK IS GIVEN UP, in an emergency, and each stream: some of it is lost, and the rest stays in its
-- order (`gives_up_flow`). What goes is the front of the link's queue (`gone_then`), so a stream loses the front of
-- what stands of it there, or nothing (`Loses`), and `fewer` of Mixed.antt makes two parts in their order of what is
-- left and what is lost (`LostMore`). A front that goes leaves nothing new behind a declaration. Case by case on the
-- stream's place; the queues are told by pair_changeover's Blind.antt. Only Blindly.antt uses it.
use Rattle.std.proofs.Common.{length, refl, arith, ◌≡◌, ◌∙◌, ap, sym, subst, ℕ, ◌<◌, ◌==◌, ◌-◌, Bool, true, false, nat_lt, List, [], ◌∷◌, ◌++◌, drop, append_assoc, ◌⊎◌, inl, inr}
use Rattle.std.proofs.lemmas.Bool.{eqb-true, ltb-true}
use Rattle.std.proofs.lemmas.Bool.Decides.{nat_tests}
use Rattle.set_events.specs.declared.answer.DiscardCause.TheVariants.{Emergency}
use Rattle.set_events.specs.declared.answer.Fate.{Fate}
use Rattle.set_events.specs.declared.answer.Fate.TheVariants.{Unacked, Discarded}
use Rattle.set_route.specs.declared.place.Place.{Place}
use Rattle.set_route.specs.declared.place.Place.TheVariants.{On, Changing, Nowhere}
use Rattle.set_route.specs.Routing.{place_of}
use Rattle.set_model.specs.declared.phase.Phase.TheVariants.{Down}
use Rattle.set_model.specs.Rows.{is_unacked, is_back, unack, wait, held}
use Rattle.set_model.specs.Sound.{IsSound}
use Rattle.set_model.specs.State.{LinkState, State}
use Rattle.set_model.proofs.Rows.{turned_same}
use Rattle.set_model.proofs.Walk.{IsAt}
use Rattle.pair_model.specs.Run.{Message, messages}
use Rattle.pair_changeover.specs.Pending.{pending, aside, acked_on, accepted_on}
use Rattle.pair_changeover.proofs.Blind.{given_up, own_rest, others_stay, aside_stays}
use Rattle.pair_changeover.proofs.Table.{joined}
use Rattle.pair_changeover.proofs.Views.{view, Among, In, stands_on, stands_aside}
use Rattle.pair_streams.specs.Streams.{those_of}
use Rattle.pair_streams.proofs.Codes.{Clear, Flows, NewAcknowledges, backed}
use Rattle.pair_streams.proofs.Declared.{NoneDeclares, ClearBehind, clear_rest}
use Rattle.pair_streams.proofs.Filtered.{those_joined, among_all}
use Rattle.pair_streams.proofs.Flowing.{back_by, queue_at, here}
use Rattle.pair_streams.proofs.Mixed.{Mixed, Fewer, fewer}

sent_not_back : (n c : ℕ) (fate : Fate) → is_unacked n fate ≡ true → is_back c fate ≡ false
sent_not_back n c (Unacked l) e = refl
sent_not_back n c _ e = absurd cc

-- none of what is empty comes first
rest_empty : (xs ys : List Message) → xs ++ ys ≡ [] → ys ≡ []
rest_empty [] ys e = e
rest_empty (x ∷ xs) ys e = absurd cc

-- what is lost of a stream then
pub record LostMore (s t f : State) (offered got lost : ℕ → List Message) (gone : List Message) : Type 0 where
  pub lost_then : ℕ → List Message
  pub flows : Flows t f offered got lost_then
  pub of : (stream : ℕ) (m : Message) → Among m (lost_then stream) → Among m (lost stream) ⊎ Among m gone

module _ (n : ℕ) (link : LinkState) (s f : State) (sound : IsSound s) (at : IsAt n link Down s) where
  abbrev after : State
  after = given_up n link s f sound at

  -- of its queue the first go
  abbrev pub gone_then : List Message
  gone_then = messages (drop (accepted_on n f - acked_on n s) (unack n s.rows))

  abbrev rest : List Message
  rest = messages (wait n s.rows ++ held n s.rows)

  queue_is : pending n s f ≡ gone_then ++ rest
  queue_is = ap messages (append_assoc (drop (accepted_on n f - acked_on n s) (unack n s.rows)) (wait n s.rows)
      (held n s.rows)) ∙ joined (drop (accepted_on n f - acked_on n s) (unack n s.rows))
      (wait n s.rows ++ held n s.rows)

  rest_is : pending n after f ≡ rest
  rest_is = own_rest n link s f sound at

  others : (l : ℕ) → (n == l) ≡ false → pending l after f ≡ pending l s f
  others = others_stay n link s f sound at

  aside_same : aside after ≡ aside s
  aside_same = aside_stays n link s f sound at

  backs : (c : ℕ) → back_by c after ≡ back_by c s
  backs c = ap messages (turned_same (is_unacked n) (is_back c) (Discarded Emergency) refl (λ fate e. sent_not_back n c fate e) (length s.rows) s.rows)

  -- on its queue, or another
  by_queue : (P : List Message → List Message → Type 0) → P (gone_then ++ rest) rest → ((q : List Message) → P q q)
      → (l : ℕ) → P (pending l s f) (pending l after f)
  by_queue P own same l = go (n == l) refl
    where
      go : (b : Bool) → (n == l) ≡ b → P (pending l s f) (pending l after f)
      go true d = subst (λ (k : ℕ). P (pending k s f) (pending k after f)) (eqb-true n l d)
          (subst (λ (q : List Message). P q (pending n after f)) (sym queue_is)
          (subst (λ (q : List Message). P (gone_then ++ rest) q) (sym rest_is) own))
      go false d = subst (λ (q : List Message). P (pending l s f) q) (sym (others l d)) (same (pending l s f))

  pub was_in : (m : Message) → In m (view after f) → In m (view s f)
  was_in m (stands_on l a) = stands_on l (by_queue (λ old new. Among m new → Among m old) (λ b. among_last m gone_then rest b) (λ q b. b) l a)
    where
      among_last : (m : Message) (xs ys : List Message) → Among m ys → Among m (xs ++ ys)
      among_last m [] ys b = b
      among_last m (x ∷ xs) ys b = inr (among_last m xs ys b)
  was_in m (stands_aside a) = stands_aside (subst (Among m) aside_same a)

  -- where it stands it loses some, or nothing
  pub data Loses (stream : ℕ) (old new : List Message) : Type 0 where
    some_lost : (more : List Message) → those_of stream old ≡ those_of stream gone_then ++ more → those_of stream new ≡ more → Loses stream old new
    none_lost : new ≡ old → Loses stream old new

  module _ (offered got lost : ℕ → List Message) (w : Flows s f offered got lost) where
    none_left : (stream l : ℕ) → those_of stream (pending l s f) ≡ [] → those_of stream (pending l after f) ≡ []
    none_left stream = by_queue (λ old new. those_of stream old ≡ [] → those_of stream new ≡ [])
        (λ e. rest_empty (those_of stream gone_then) (those_of stream rest)
        (sym (those_joined stream gone_then rest) ∙ e)) (λ q e. e)

    loses_on : (stream l : ℕ) (more : List Message) → Loses stream (pending l s f ++ more) (pending l after f ++ more)
    loses_on stream l more = by_queue (λ old new. Loses stream (old ++ more) (new ++ more))
        (some_lost (those_of stream (rest ++ more))
        (ap (those_of stream) (append_assoc gone_then rest more) ∙ those_joined stream gone_then (rest ++ more))
        refl)
        (λ q. none_lost refl) l

    loses_at : (stream : ℕ) (q : Place) → Loses stream (queue_at q s f) (queue_at q after f)
    loses_at stream (On l) = by_queue (Loses stream) (some_lost (those_of stream rest) (those_joined stream gone_then rest) refl) (λ q. none_lost refl) l
    loses_at stream (Changing to code via) =
        subst (λ (b : List Message). Loses stream (pending via s f ++ back_by code s) (pending via after f ++ b))
        (sym (backs code)) (loses_on stream via (back_by code s))
    loses_at stream Nowhere = none_lost aside_same

    -- so what is lost is in its order
    lost_of : (stream : ℕ) → stream < 16 → (old new : List Message) → Loses stream old new
        → Mixed (got stream ++ those_of stream old) (lost stream) (offered stream)
        → Fewer (got stream) (those_of stream gone_then) (those_of stream new) (lost stream) (offered stream)
    lost_of stream low old new (none_lost same) m =
        record {
          lost_then = lost stream;
          mixed = subst (λ (q : List Message). Mixed (got stream ++ those_of stream q) (lost stream) (offered stream))
              (sym same) m;
          of = λ x a. inl a;
        }
    lost_of stream low old new (some_lost more was now) m =
        subst (λ (q : List Message). Fewer (got stream) (those_of stream gone_then) q (lost stream) (offered stream)) (sym now)
        (fewer (got stream) (those_of stream gone_then) more (lost stream) (offered stream)
        (subst (λ (q : List Message). Mixed (got stream ++ q) (lost stream) (offered stream)) was m))

    each : (stream : ℕ) → stream < 16 → Fewer (got stream) (those_of stream gone_then) (here stream after f) (lost stream) (offered stream)
    each stream low = lost_of stream low (queue_at (place_of stream s.routing) s f)
        (queue_at (place_of stream s.routing) after f) (loses_at stream (place_of stream s.routing)) (w.flow stream low)

    lost_if : (stream : ℕ) (b : Bool) → nat_lt stream 16 ≡ b → List Message
    lost_if stream true e = (each stream (ltb-true stream 16 e)).lost_then
    lost_if stream false e = lost stream

    mixed_if : (stream : ℕ) → stream < 16 → (b : Bool) (e : nat_lt stream 16 ≡ b)
        → Mixed (got stream ++ here stream after f) (lost_if stream b e) (offered stream)
    unfolding lost_if each
    mixed_if stream low true e = (each stream (ltb-true stream 16 e)).mixed
    mixed_if stream low false e = absurd (grind (arith, nat_tests, low, e))

    of_if : (stream : ℕ) (m : Message) (b : Bool) (e : nat_lt stream 16 ≡ b) → Among m (lost_if stream b e) → Among m (lost stream) ⊎ Among m gone_then
    unfolding lost_if
    of_if stream m true e a = go ((each stream (ltb-true stream 16 e)).of m a)
      where
        go : Among m (lost stream) ⊎ Among m (those_of stream gone_then) → Among m (lost stream) ⊎ Among m gone_then
        go (inl x) = inl x
        go (inr x) = inr (among_all stream m gone_then x)
    of_if stream m false e a = inl a

    clear_then : (stream code via : ℕ) → Clear stream code via (view s f) → Clear stream code via (view after f)
    clear_then stream code via old = record {
      only = λ l d. by_queue (λ was now. NoneDeclares code was → NoneDeclares code now)
          (λ none m a. none m (last_among m gone_then rest a)) (λ q none. none) l (old.only l d);
      none_aside = subst (NoneDeclares code) (sym aside_same) old.none_aside;
      behind = by_queue (λ was now. ClearBehind stream code was → ClearBehind stream code now)
          (clear_rest stream code gone_then rest) (λ q c. c) via old.behind;
    }
      where
        last_among : (m : Message) (xs ys : List Message) → Among m ys → Among m (xs ++ ys)
        last_among m [] ys b = b
        last_among m (x ∷ xs) ys b = inr (last_among m xs ys b)

    pub gives_up_flow : NewAcknowledges (view f after) (view f s) → LostMore s after f offered got lost gone_then
    gives_up_flow acknowledges = record {
      lost_then = λ stream. lost_if stream (nat_lt stream 16) refl;
      flows = record {
        flow = λ stream low. mixed_if stream low (nat_lt stream 16) refl;
        stands = λ stream low. let old = w.stands stream low in record {
          alone = λ l e. none_left stream l (old.alone l e);
          none_aside = λ e. ap (those_of stream) aside_same ∙ old.none_aside e;
        };
        unused = w.unused;
        backing = backed s after f f w.backing
            (λ stream low to code via e. clear_then stream code via (w.backing.clear stream low to code via e))
            (λ stream low to code via e m i a. none_left stream via (w.backing.answered stream low to code via e m i a))
            (λ c. omega arith) (λ c m i d. was_in m i) acknowledges;
      };
      of = λ stream m a. of_if stream m (nat_lt stream 16) refl a;
    }
