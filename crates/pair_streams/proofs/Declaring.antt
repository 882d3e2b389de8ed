-- AN END DECLARES A CHANGEBACK, and each stream: those that ran on the alternative come back from it, behind what
-- stands there (`declares_flow`); and so from each link from which Restore can (`comes_flow`, by induction on the links
-- that are left). The code was free, so none of its declarations or acknowledgements was under way; the new one stands
-- last on the alternative, and nothing of its streams comes behind it, since what is offered from then on waits by the
-- code (`clear_new`). `comes_acks` says that no acknowledgement comes to stand there. Case by case on the stream's
-- place; Acting.antt uses it.
use Rattle.std.proofs.Common.{refl, arith, ◌≡◌, ◌∙◌, ap, sym, subst, ℕ, zero, suc, ◌<◌, ◌==◌, ◌-◌, ◌%◌, Bool, true, false, not, ◌&&◌, List, [], ◌∷◌, ◌++◌, length, slice_get, Option, Some, None, cond, ◌⊎◌, inl, inr}
use Rattle.std.proofs.lemmas.Bool.{eqb-true}
use Rattle.std.proofs.lemmas.Option.{none-some}
use Rattle.l3_orders.specs.declared.order.Order.TheVariants.{Cbd}
use Rattle.l3_orders.specs.Grammar.{text, label, heading_of, content_with}
use Rattle.set_events.specs.declared.answer.Fate.TheVariants.{Waiting}
use Rattle.set_route.specs.declared.place.Place.{Place}
use Rattle.set_route.specs.declared.place.Place.TheVariants.{On, Changing, Nowhere}
use Rattle.set_route.specs.declared.place.Code.{Code}
use Rattle.set_route.specs.declared.place.Code.TheVariants.{Free, Asked, Spent}
use Rattle.set_route.specs.Routing.{place_of, code_of, code_for, is_free, owed_under, some_away, runs_on, has_messages, via_of}
use Rattle.set_route.proofs.Codes.{set_at}
use Rattle.set_route.proofs.Alone as route
use Rattle.set_model.specs.Changeover.{can_declare, declared, declared_from, some_declare}
use Rattle.set_model.specs.Sound.{IsSound}
use Rattle.set_model.specs.State.{given, LinkState, State, link_count, is_open, link_is_open}
use Rattle.set_model.specs.Step.{comes_back, refused}
use Rattle.set_events.specs.declared.answer.Answer.TheVariants.{Done}
use Rattle.set_events.specs.declared.answer.Refusal.TheVariants.{Nothing}
use Rattle.set_model.proofs.Order.{coded_at}
use Rattle.set_model.proofs.Lists.{within}
use Rattle.set_model.proofs.Places.{itself, false_true}
use Rattle.set_model.proofs.SoundBack.{alternative_open, declares}
use Rattle.pair_model.specs.Run.{Message}
use Rattle.pair_changeover.specs.Pending.{pending, aside, acked_on, accepted_on}
use Rattle.pair_changeover.proofs.Changes.{Grows, grown, ungrown, IsNew, to_wait, held_open}
use Rattle.pair_changeover.proofs.Table.{new_message}
use Rattle.pair_changeover.proofs.Views.{view, Among, In, stands_on, stands_aside}
use Rattle.pair_streams.specs.Streams.{is_of, those_of}
use Rattle.pair_streams.proofs.Codes.{Clear, Flows, IsNumber, Kept, NewAcknowledges, Owes, free_acked, free_declared, kept_flow}
use Rattle.pair_streams.proofs.Declared.{Declares, Acknowledges, NoneDeclares, ClearBehind, clear_after, cbd_other, cbd_acknowledges}
use Rattle.pair_streams.proofs.Filtered.{joins_none, both_true}
use Rattle.pair_streams.proofs.Flowing.{back_by, queue_at, waits_by, Stands, none_back_by}
use Rattle.pair_streams.proofs.Flows.{no_stream_by}
use Rattle.pair_streams.proofs.Moving.{Comes, comes_last, those_stay, grows_on, grows_aside, in_new, queue_stays, stands_stays, apart_kept}

is_free_so : (c : Code) → is_free c ≡ true → c ≡ Free
is_free_so Free e = refl
is_free_so (Asked via declaration owed) e = absurd cc
is_free_so (Spent owed) e = absurd cc

-- a link that is up is one of the set's
open_below : (l : ℕ) (s : State) → IsSound s → is_open l s ≡ true → l < 16
open_below l s sound up = go (slice_get s.links l) refl
  where
    go : (o : Option LinkState) → slice_get s.links l ≡ o → l < 16
    go None e = absurd (let never : false ≡ true = ap link_is_open (sym e) ∙ up in cc)
    go (Some link) e = omega (arith, within s.links l link e, sound.count, sound.routed, sound.routing.at_most_16)

-- a stream that runs on the alternative
runs_on_so : (alternative : ℕ) (p : Place) → runs_on alternative p ≡ true → p ≡ On alternative
runs_on_so alternative (On l) e = ap On (eqb-true l alternative e)
runs_on_so alternative (Changing to code via) e = absurd cc
runs_on_so alternative Nowhere e = absurd cc

module _ (home alternative : ℕ) (s f : State) (sound : IsSound s) (home_open : is_open home s ≡ true) (can : can_declare home alternative s ≡ true) where
  abbrev then_s : State
  then_s = declared home alternative s

  abbrev code : ℕ
  code = code_for home alternative

  abbrev body : List ℕ
  body = text s.settings.profile (Cbd home code) s.settings.sio s.settings.dpc s.settings.opc

  abbrev z : Message
  z = new_message (given s) body

  alternative_is_open : is_open alternative s ≡ true
  alternative_is_open = alternative_open home alternative s can

  code_free : code_of code s.routing ≡ Free
  code_free =
      let apart_can = both_true (not (alternative == home)) _ can in
      let up_can = both_true (is_open alternative s) _ apart_can.1 in
      is_free_so (code_of code s.routing) (both_true (is_free (code_of code s.routing)) (some_away home alternative s.routing.streams) up_can.1).0

  few : code < 256
  few = omega (arith, open_below home s sound home_open, open_below alternative s sound alternative_is_open)

  new_at : (l : ℕ) → IsNew (accepted_on l f - acked_on l s) l (given s) s.rows body (Waiting alternative)
  new_at l = to_wait alternative (λ same. held_open s l sound (subst (λ (n : ℕ). is_open n s ≡ true) (eqb-true alternative l same) alternative_is_open))

  of_none : (stream : ℕ) → is_of stream z ≡ false
  of_none stream = no_stream_by stream s.settings.sio (given s)
      (label s.settings.dpc s.settings.opc home
      ++ heading_of (Cbd home code) ∷ content_with s.settings.profile 0 (Cbd home code)) sound.managed

  tells : (c : ℕ) → Declares c z → c ≡ code
  tells c d = cbd_other s.settings home (given s) code c d

  comes : Comes z (Waiting alternative) s then_s f
  comes = comes_last s then_s f body (Waiting alternative) refl refl new_at

  was_there : (m : Message) → In m (view then_s f) → In m (view s f) ⊎ (m ≡ z)
  was_there = in_new s then_s f z (Waiting alternative) comes

  on_grows : (l : ℕ) → Grows z (alternative == l) (pending l s f) (pending l then_s f)
  on_grows = grows_on s then_s f body (Waiting alternative) refl refl new_at

  same_on : (l : ℕ) → (alternative == l) ≡ false → pending l then_s f ≡ pending l s f
  same_on l d = go (on_grows l)
    where
      go : Grows z (alternative == l) (pending l s f) (pending l then_s f) → pending l then_s f ≡ pending l s f
      go (ungrown e q) = q
      go (grown e q) = absurd (let never : true ≡ false = sym e ∙ d in cc)

  more_on : pending alternative then_s f ≡ pending alternative s f ++ z ∷ []
  more_on = go (on_grows alternative)
    where
      go : Grows z (alternative == alternative) (pending alternative s f) (pending alternative then_s f)
          → pending alternative then_s f ≡ pending alternative s f ++ z ∷ []
      go (ungrown e q) = absurd (let never : true ≡ false = sym (itself alternative) ∙ e in cc)
      go (grown e q) = q

  pub declares_acks : NewAcknowledges (view then_s f) (view s f)
  declares_acks c m i a = go (was_there m i)
    where
      go : In m (view s f) ⊎ (m ≡ z) → In m (view s f)
      go (inl j) = j
      go (inr same) = absurd (cbd_acknowledges s.settings home (given s) code c (subst (Acknowledges c) same a))

  module _ (offered got lost : ℕ → List Message) (w : Flows s f offered got lost) where
    none_declared : NoneDeclares code (pending alternative s f)
    none_declared m a d = free_declared code s.routing (view s f) (view f s) code_free w.backing m (stands_on alternative a) d

    module _ (stream : ℕ) (low : stream < 16) where
      place_then : place_of stream then_s.routing
          ≡ cond ((stream % s.routing.links == home) && runs_on alternative (place_of stream s.routing))
          (Changing home code alternative) (place_of stream s.routing)
      place_then = (route.alone s.routing stream sound.routing low).asked_place home alternative (given s)

      used_then : has_messages stream then_s.routing ≡ has_messages stream s.routing
      used_then = (route.alone s.routing stream sound.routing low).asked_messages home alternative (given s)

      -- one that comes back by another code
      other_code : (to c via : ℕ) → place_of stream s.routing ≡ Changing to c via → Declares c z → ⊥
      other_code to c via is d =
          let coded = coded_at s.routing stream sound.routing to c via is in
          none-some via (sym (ap via_of (ap (λ (n : ℕ). code_of n s.routing) (tells c d) ∙ code_free)) ∙ coded.1)

      -- one that comes back by this one
      module _ (is : place_of stream s.routing ≡ On alternative) (then_is : place_of stream then_s.routing ≡ Changing home code alternative) where
        was : Stands stream (On alternative) s f
        was = subst (λ (q : Place). Stands stream q s f) is (w.stands stream low)

        stands : Stands stream (On alternative) then_s f
        stands = stands_stays s then_s f z (Waiting alternative) comes stream (of_none stream) (On alternative) was

        back_none : those_of stream (back_by code then_s) ≡ []
        back_none =
            those_stay z stream (of_none stream) false (back_by code s) (back_by code then_s)
            (comes.on_back code)
            ∙ none_back_by stream code s sound (ap (λ (q : Place). waits_by q code) is)

        clear_new : Clear stream code alternative (view then_s f)
        clear_new = record {
          only = λ l d m a x. free_declared code s.routing (view s f) (view f s) code_free w.backing m (stands_on l (subst (Among m) (same_on l d) a)) x;
          none_aside = λ m a x. free_declared code s.routing (view s f) (view f s) code_free w.backing m (stands_aside (aside_was m a)) x;
          behind = subst (ClearBehind stream code) (sym more_on) (clear_after stream code (pending alternative s f) (z ∷ []) none_declared ((λ d. refl), tt));
        }
          where
            aside_was : (m : Message) → Among m (aside then_s) → Among m (aside s)
            aside_was m a = go (grows_aside s then_s f body (Waiting alternative) refl refl new_at)
              where
                go : Grows z false (aside s) (aside then_s) → Among m (aside s)
                go (ungrown e q) = subst (Among m) q a
                go (grown e q) = absurd cc

        asked_kept : Kept stream s then_s f f
        asked_kept = record {
          here_is =
              ap (λ (q : Place). those_of stream (queue_at q then_s f)) then_is
              ∙ joins_none stream (pending alternative then_s f) (back_by code then_s) back_none
              ∙ queue_stays s then_s f z (Waiting alternative) comes stream (of_none stream) (On alternative)
              ∙ ap (λ (q : Place). those_of stream (queue_at q s f)) (sym is);
          stands = subst (λ (q : Place). Stands stream q then_s f) (sym then_is) (record { alone = stands.alone; none_aside = stands.none_aside });
          used = used_then;
          clear = λ to c via e.
              let same : Changing home code alternative ≡ Changing to c via = sym then_is ∙ e in
              let code_is : code ≡ c = cc in
              let via_is : alternative ≡ via = cc in
              subst (λ (k : ℕ). Clear stream k via (view then_s f)) code_is (subst (λ (k : ℕ). Clear stream code k (view then_s f)) via_is clear_new);
          answered = λ to c via e n i a.
              let same : Changing home code alternative ≡ Changing to c via = sym then_is ∙ e in
              let code_is : code ≡ c = cc in
              absurd (free_acked code s.routing (view s f) (view f s) code_free w.backing n i (subst (λ (k : ℕ). Acknowledges k n) (sym code_is) a));
        }

      declared_kept : Kept stream s then_s f f
      declared_kept = go ((stream % s.routing.links == home) && runs_on alternative (place_of stream s.routing)) refl
        where
          go : (b : Bool) → ((stream % s.routing.links == home) && runs_on alternative (place_of stream s.routing)) ≡ b → Kept stream s then_s f f
          go true e =
              let runs = both_true (stream % s.routing.links == home) (runs_on alternative (place_of stream s.routing)) e in
              asked_kept (runs_on_so alternative (place_of stream s.routing) runs.1)
              (place_then ∙ ap (λ (b : Bool). cond b (Changing home code alternative) (place_of stream s.routing))
              e)
          go false e = apart_kept s then_s f z (Waiting alternative) comes stream (of_none stream) offered
              got lost w low (place_then ∙ ap
              (λ (b : Bool). cond b (Changing home code alternative) (place_of stream s.routing)) e) used_then
              other_code

    -- THE CODE is in use then, and one acknowledgement is owed
    abbrev asked_code : Code
    asked_code = Asked alternative (given s) 1

    owed_then : (c : ℕ) (b : Bool) → (c == code) ≡ b → owed_under (code_of c then_s.routing) ≡ cond b 1 (owed_under (code_of c s.routing))
    owed_then c b e = ap owed_under (set_at s.routing.codes c code asked_code within_codes ∙ ap (λ (d : Bool). cond d asked_code (code_of c s.routing)) e) ∙ go b
      where
        within_codes : code < length s.routing.codes
        within_codes = omega (arith, few, sound.routing.all_codes)

        go : (b : Bool) → owed_under (cond b asked_code (code_of c s.routing)) ≡ cond b 1 (owed_under (code_of c s.routing))
        go true = refl
        go false = refl

    -- one that declares stood there, or is new and tells this code
    by_code : (c : ℕ) (m : Message) → Declares c m → In m (view s f) ⊎ (m ≡ z) → In m (view s f) ⊎ ((m ≡ z) × (c ≡ code))
    by_code c m d (inl i) = inl i
    by_code c m d (inr same) = inr (same, tells c (subst (Declares c) same d))

    few_case : (c : ℕ) (m : Message) → Declares c m → In m (view s f) ⊎ ((m ≡ z) × (c ≡ code)) → c < 256
    few_case c m d (inl i) = w.backing.few_declared c m i d
    few_case c m d (inr p) = subst (λ (n : ℕ). n < 256) (sym p.1) few

    own_owes : Owes code 1 (view then_s f) (view f then_s)
    own_owes = record {
      declarations = given s ∷ [];
      acks = [];
      within = omega arith;
      declared = λ m i d. own_case m d (was_there m i);
      acked = λ m i a. free_acked code s.routing (view s f) (view f s) code_free w.backing m i a;
    }
      where
        own_case : (m : Message) → Declares code m → In m (view s f) ⊎ (m ≡ z) → IsNumber m.number (given s ∷ [])
        own_case m d (inl i) = absurd (free_declared code s.routing (view s f) (view f s) code_free w.backing m i d)
        own_case m d (inr same) = inl (ap (λ (x : Message). x.number) same)

    other_owes : (c : ℕ) → (c == code) ≡ false → Owes c (owed_under (code_of c s.routing)) (view then_s f) (view f then_s)
    other_owes c other = let o = w.backing.owes c in record {
      declarations = o.declarations;
      acks = o.acks;
      within = o.within;
      declared = λ m i d. other_case m d (by_code c m d (was_there m i));
      acked = o.acked;
    }
      where
        other_case : (m : Message) → Declares c m → In m (view s f) ⊎ ((m ≡ z) × (c ≡ code)) → IsNumber m.number (w.backing.owes c).declarations
        other_case m d (inl i) = (w.backing.owes c).declared m i d
        other_case m d (inr p) = absurd (false_true (c == code) other (ap (λ (n : ℕ). n == code) p.1 ∙ itself code))

    each_owes : (c : ℕ) → Owes c (owed_under (code_of c then_s.routing)) (view then_s f) (view f then_s)
    each_owes c = go (c == code) refl
      where
        go : (b : Bool) → (c == code) ≡ b → Owes c (owed_under (code_of c then_s.routing)) (view then_s f) (view f then_s)
        go true e = subst (λ (n : ℕ). Owes c n (view then_s f) (view f then_s)) (sym (owed_then c true e))
            (subst (λ (k : ℕ). Owes k 1 (view then_s f) (view f then_s)) (sym (eqb-true c code e)) own_owes)
        go false e = subst (λ (n : ℕ). Owes c n (view then_s f) (view f then_s)) (sym (owed_then c false e)) (other_owes c e)

    pub declares_flow : Flows then_s f offered got lost
    declares_flow = kept_flow s then_s f f offered got lost w declared_kept (record {
      few_declared = λ c m i d. few_case c m d (by_code c m d (was_there m i));
      few_acked = λ c m i a. w.backing.few_acked c m i a;
      owes = each_owes;
      clear = λ stream low. (declared_kept stream low).clear;
      answered = λ stream low. (declared_kept stream low).answered;
    })

-- FROM ALL LINKS from which it can
pub declares_from : (home alternative n : ℕ) (s f : State) (offered got lost : ℕ → List Message) → IsSound s
    → is_open home s ≡ true → Flows s f offered got lost → Flows (declared_from home alternative n s) f offered got lost
declares_from home alternative zero s f offered got lost sound up w = w
declares_from home alternative (suc n) s f offered got lost sound up w =
    go (can_declare home alternative s) refl
    (λ t sound_t up_t w_t. declares_from home (suc alternative) n t f offered got lost sound_t up_t w_t)
  where
    go : (b : Bool) → can_declare home alternative s ≡ b
        → ((t : State) → IsSound t → is_open home t ≡ true → Flows t f offered got lost
        → Flows (declared_from home (suc alternative) n t) f offered got lost)
        → Flows (declared_from home alternative (suc n) s) f offered got lost
    go true e later = rw e (later (declared home alternative s) (declares home alternative s up e sound) up
        (declares_flow home alternative s f sound up e offered got lost w))
    go false e later = rw e (later s sound up w)

pub acks_from : (home alternative n : ℕ) (s f : State) → IsSound s → is_open home s ≡ true
    → NewAcknowledges (view (declared_from home alternative n s) f) (view s f)
acks_from home alternative zero s f sound up = λ c m i a. i
acks_from home alternative (suc n) s f sound up =
    go (can_declare home alternative s) refl (λ t sound_t up_t. acks_from home (suc alternative) n t f sound_t up_t)
  where
    go : (b : Bool) → can_declare home alternative s ≡ b
        → ((t : State) → IsSound t → is_open home t ≡ true
        → NewAcknowledges (view (declared_from home (suc alternative) n t) f) (view t f))
        → NewAcknowledges (view (declared_from home alternative (suc n) s) f) (view s f)
    go true e later = subst (λ (b : Bool). NewAcknowledges
        (view (declared_from home (suc alternative) n (cond b (declared home alternative s) s)) f) (view s f)) (sym e)
        (λ c m i a. declares_acks home alternative s f sound up e c m
        (later (declared home alternative s) (declares home alternative s up e sound) up c m i a) a)
    go false e later = subst (λ (b : Bool). NewAcknowledges
        (view (declared_from home (suc alternative) n (cond b (declared home alternative s) s)) f) (view s f)) (sym e)
        (later s sound up)

pub comes_flow : (k : ℕ) (s f : State) (offered got lost : ℕ → List Message) → IsSound s → is_open k s ≡ true
    → Flows s f offered got lost → Flows (comes_back k s).state f offered got lost
comes_flow k s f offered got lost sound up w = go (some_declare k 0 (link_count s) s) refl
  where
    go : (b : Bool) → some_declare k 0 (link_count s) s ≡ b → Flows (comes_back k s).state f offered got lost
    go true e = rw e (declares_from k 0 (link_count s) s f offered got lost sound up w)
    go false e = rw e w

pub comes_acks : (k : ℕ) (s f : State) → IsSound s → is_open k s ≡ true → NewAcknowledges (view (comes_back k s).state f) (view s f)
comes_acks k s f sound up = go (some_declare k 0 (link_count s) s) refl
  where
    go : (b : Bool) → some_declare k 0 (link_count s) s ≡ b → NewAcknowledges (view (comes_back k s).state f) (view s f)
    go true e = subst (λ (b : Bool). NewAcknowledges
        (view (cond b (record { answer = Done; state = declared_from k 0 (link_count s) s })
        (refused s Nothing)).state f) (view s f)) (sym e) (acks_from k 0 (link_count s) s f sound up)
    go false e = subst (λ (b : Bool). NewAcknowledges
        (view (cond b (record { answer = Done; state = declared_from k 0 (link_count s) s })
        (refused s Nothing)).state f) (view s f)) (sym e) (λ c m i a. i)
