-- A DECLARATION IS MADE ONCE MORE, and each stream: it stands last where the streams of its code come from, and nothing of
-- them stands behind it, since what is offered for them waits by the code (`again_clear`). One more is under way, and one
-- acknowledgement more is owed (`again_owes`). So from each code that is overdue (`redeclared_flow`, by induction on the
-- codes that are left); `redeclared_acks` says that no acknowledgement comes to stand there. Case by case on the stream's
-- place; Acting.antt uses it.
use Rattle.std.proofs.Common.{refl, arith, ◌≡◌, ◌∙◌, ap, sym, subst, ℕ, zero, suc, ◌<◌, ◌==◌, ◌-◌, ◌+◌, Bool, true, false, List, [], ◌∷◌, ◌++◌, Option, Some, None, cond, ◌⊎◌, inl, inr}
use Rattle.std.proofs.lemmas.Bool.{eqb-true}
use Rattle.std.proofs.lemmas.Option.{none-some, same_Some}
use Rattle.l3_orders.specs.declared.order.Order.TheVariants.{Cbd}
use Rattle.l3_orders.specs.Grammar.{text, label, heading_of, content_with}
use Rattle.set_events.specs.declared.answer.Fate.{Fate}
use Rattle.set_events.specs.declared.answer.Fate.TheVariants.{Waiting, Held}
use Rattle.set_route.specs.declared.place.Place.{Place}
use Rattle.set_route.specs.declared.place.Place.TheVariants.{On, Changing, Nowhere}
use Rattle.set_route.specs.declared.place.Code.{Code}
use Rattle.set_route.specs.declared.place.Code.TheVariants.{Free, Asked, Spent}
use Rattle.set_route.specs.Routing.{place_of, code_again, code_of, home_of, owed_under, via_of}
use Rattle.set_route.proofs.Places.{again_at}
use Rattle.set_model.specs.Changeover.{overdue_via, redeclared_from, redeclared_if, redeclared_on}
use Rattle.set_model.specs.Rows.{is_on, is_parked}
use Rattle.set_model.specs.Sound.{IsSound}
use Rattle.set_model.specs.State.{State, fate_at, given, is_open}
use Rattle.set_model.proofs.Order.{coded_at}
use Rattle.set_model.proofs.Places.{itself, false_true}
use Rattle.set_model.proofs.SoundBack.{overdue_open, redeclared_sound}
use Rattle.pair_model.specs.Run.{Message}
use Rattle.pair_changeover.specs.Pending.{pending, aside, acked_on, accepted_on}
use Rattle.pair_changeover.proofs.Changes.{Grows, grown, ungrown, IsNew, to_wait, to_hold, held_open}
use Rattle.pair_changeover.proofs.Table.{new_message}
use Rattle.pair_changeover.proofs.Views.{view, In}
use Rattle.pair_streams.specs.Streams.{is_of}
use Rattle.pair_streams.proofs.Codes.{Clear, Flows, IsNumber, Kept, NewAcknowledges, Owes, kept_flow}
use Rattle.pair_streams.proofs.Declared.{Declares, Acknowledges, NoneDeclares, ClearBehind, clear_joined, cbd_other, cbd_acknowledges}
use Rattle.pair_streams.proofs.Flows.{no_stream_by}
use Rattle.pair_streams.proofs.Moving.{Comes, comes_last, those_stay, grows_on, grows_aside, in_new, queue_stays, stands_stays, apart_kept}

module _ (code via : ℕ) (s f : State) (sound : IsSound s) (due : overdue_via (code_of code s.routing) s.rows ≡ Some via) where
  abbrev then_s : State
  then_s = redeclared_on code (Some via) s

  abbrev fate : Fate
  fate = fate_at (On via) s

  abbrev body : List ℕ
  body = text s.settings.profile (Cbd (home_of code) code) s.settings.sio s.settings.dpc s.settings.opc

  abbrev z : Message
  z = new_message (given s) body

  open_via : via_of (code_of code s.routing) ≡ Some via
  open_via = overdue_open (code_of code s.routing) s.rows via due

  new_at : (l : ℕ) → IsNew (accepted_on l f - acked_on l s) l (given s) s.rows body fate
  new_at l = go (is_open via s) refl
    where
      go : (b : Bool) → is_open via s ≡ b → IsNew (accepted_on l f - acked_on l s) l (given s) s.rows body (cond b (Waiting via) (Held via))
      go true e = to_wait via (λ same. held_open s l sound (subst (λ (n : ℕ). is_open n s ≡ true) (eqb-true via l same) e))
      go false e = to_hold via

  on_link : (l : ℕ) → is_on l fate ≡ (via == l)
  on_link l = go (is_open via s)
    where
      go : (b : Bool) → is_on l (cond b (Waiting via) (Held via)) ≡ (via == l)
      go true = refl
      go false = refl

  not_aside : is_parked fate ≡ false
  not_aside = go (is_open via s)
    where
      go : (b : Bool) → is_parked (cond b (Waiting via) (Held via)) ≡ false
      go true = refl
      go false = refl

  of_none : (stream : ℕ) → is_of stream z ≡ false
  of_none stream = no_stream_by stream s.settings.sio (given s)
      (label s.settings.dpc s.settings.opc (home_of code)
      ++ heading_of (Cbd (home_of code) code) ∷ content_with s.settings.profile 0 (Cbd (home_of code) code)) sound.managed

  tells : (c : ℕ) → Declares c z → c ≡ code
  tells c d = cbd_other s.settings (home_of code) (given s) code c d

  comes : Comes z fate s then_s f
  comes = comes_last s then_s f body fate refl refl new_at

  was_there : (m : Message) → In m (view then_s f) → In m (view s f) ⊎ (m ≡ z)
  was_there = in_new s then_s f z fate comes

  grows : (l : ℕ) → Grows z (is_on l fate) (pending l s f) (pending l then_s f)
  grows = grows_on s then_s f body fate refl refl new_at

  same_on : (l : ℕ) → (via == l) ≡ false → pending l then_s f ≡ pending l s f
  same_on l d = go (grows l)
    where
      go : Grows z (is_on l fate) (pending l s f) (pending l then_s f) → pending l then_s f ≡ pending l s f
      go (ungrown e q) = q
      go (grown e q) = absurd (let never : true ≡ false = sym e ∙ on_link l ∙ d in cc)

  more_on : pending via then_s f ≡ pending via s f ++ z ∷ []
  more_on = go (grows via)
    where
      go : Grows z (is_on via fate) (pending via s f) (pending via then_s f) → pending via then_s f ≡ pending via s f ++ z ∷ []
      go (ungrown e q) = absurd (let never : true ≡ false = sym (on_link via ∙ itself via) ∙ e in cc)
      go (grown e q) = q

  same_aside : aside then_s ≡ aside s
  same_aside = go (grows_aside s then_s f body fate refl refl new_at)
    where
      go : Grows z (is_parked fate) (aside s) (aside then_s) → aside then_s ≡ aside s
      go (ungrown e q) = q
      go (grown e q) = absurd (let never : true ≡ false = sym e ∙ not_aside in cc)

  again_acks : NewAcknowledges (view then_s f) (view s f)
  again_acks c m i a = go (was_there m i)
    where
      go : In m (view s f) ⊎ (m ≡ z) → In m (view s f)
      go (inl j) = j
      go (inr same) = absurd (cbd_acknowledges s.settings (home_of code) (given s) code c (subst (Acknowledges c) same a))

  module _ (offered got lost : ℕ → List Message) (w : Flows s f offered got lost) where
    module _ (stream : ℕ) (low : stream < 16) where
      -- one that comes back by the code comes from that link
      again_clear : (to v : ℕ) → place_of stream s.routing ≡ Changing to code v → Clear stream code v (view then_s f)
      again_clear to v is =
          let coded = coded_at s.routing stream sound.routing to code v is in
          let from : via ≡ v = same_Some via v (sym open_via ∙ coded.1) in
          let old = subst (λ (n : ℕ). Clear stream code n (view s f)) (sym from) (w.backing.clear stream low to code v is) in
          subst (λ (n : ℕ). Clear stream code n (view then_s f)) from (record {
            only = λ l d. subst (NoneDeclares code) (sym (same_on l d)) (old.only l d);
            none_aside = subst (NoneDeclares code) (sym same_aside) old.none_aside;
            behind = subst (ClearBehind stream code) (sym more_on)
                (clear_joined stream code (pending via s f) (z ∷ []) old.behind (rw (of_none stream) refl) ((λ d. refl), tt));
          })

      by_it : (to v : ℕ) → place_of stream s.routing ≡ Changing to code v → Kept stream s then_s f f
      by_it to v is = record {
        here_is = queue_stays s then_s f z fate comes stream (of_none stream) (place_of stream s.routing);
        stands = stands_stays s then_s f z fate comes stream (of_none stream) (place_of stream s.routing) (w.stands stream low);
        used = refl;
        clear = λ t c n e.
            let same : Changing to code v ≡ Changing t c n = sym is ∙ e in
            let code_is : code ≡ c = cc in
            let via_is : v ≡ n = cc in
            subst (λ (k : ℕ). Clear stream k n (view then_s f)) code_is (subst (λ (k : ℕ). Clear stream code k (view then_s f)) via_is (again_clear to v is));
        answered = λ t c n e m i a. those_stay z stream (of_none stream) (is_on n fate) (pending n s f) (pending n then_s f)
            (comes.on_link n) ∙ w.backing.answered stream low t c n e m i a;
      }

      -- any other
      apart : ((to c v : ℕ) → place_of stream s.routing ≡ Changing to c v → Declares c z → ⊥) → Kept stream s then_s f f
      apart none = apart_kept s then_s f z fate comes stream (of_none stream) offered got lost w low refl refl none

      again_kept : Kept stream s then_s f f
      again_kept = go (place_of stream s.routing) refl
        where
          back_case : (to c v : ℕ) → place_of stream s.routing ≡ Changing to c v → (b : Bool) → (c == code) ≡ b → Kept stream s then_s f f
          back_case to c v is true e = by_it to v (is ∙ ap (λ (n : ℕ). Changing to n v) (eqb-true c code e))
          back_case to c v is false e = apart (λ t d n same x.
              let one : Changing to c v ≡ Changing t d n = sym is ∙ same in
              let code_is : c ≡ d = cc in
              false_true (c == code) e (ap (λ (k : ℕ). k == code) (code_is ∙ tells d x) ∙ itself code))

          go : (p : Place) → place_of stream s.routing ≡ p → Kept stream s then_s f f
          go (On l) is = apart (λ t d n same x. absurd (let never : On l ≡ Changing t d n = sym is ∙ same in cc))
          go Nowhere is = apart (λ t d n same x. absurd (let never : Nowhere ≡ Changing t d n = sym is ∙ same in cc))
          go (Changing to c v) is = back_case to c v is (c == code) refl

    -- ONE MORE is under way, and owed
    owed_then : (c : ℕ) (b : Bool) → (c == code) ≡ b → (cond b (via_of (code_of c s.routing)) (Some via) ≡ Some via)
        → owed_under (code_of c then_s.routing) ≡ cond b (owed_under (code_of c s.routing) + 1) (owed_under (code_of c s.routing))
    owed_then c b e is =
        ap owed_under (again_at s.routing.codes c code (given s) ∙ ap (λ (d : Bool). cond d (code_again (given s) (code_of c s.routing)) (code_of c s.routing)) e)
        ∙ go b is
      where
        more : (was : Code) → via_of was ≡ Some via → owed_under (code_again (given s) was) ≡ owed_under was + 1
        more Free e = absurd (none-some via e)
        more (Asked v declaration owed) e = refl
        more (Spent owed) e = absurd (none-some via e)

        go : (b : Bool) → (cond b (via_of (code_of c s.routing)) (Some via) ≡ Some via)
            → owed_under (cond b (code_again (given s) (code_of c s.routing)) (code_of c s.routing))
            ≡ cond b (owed_under (code_of c s.routing) + 1) (owed_under (code_of c s.routing))
        go true is = more (code_of c s.routing) is
        go false is = refl

    own_owes : Owes code (owed_under (code_of code s.routing) + 1) (view then_s f) (view f then_s)
    own_owes = let o = w.backing.owes code in record {
      declarations = given s ∷ o.declarations;
      acks = o.acks;
      within = omega (arith, o.within);
      declared = λ m i d. own_case m d (was_there m i);
      acked = o.acked;
    }
      where
        own_case : (m : Message) → Declares code m → In m (view s f) ⊎ (m ≡ z) → IsNumber m.number (given s ∷ (w.backing.owes code).declarations)
        own_case m d (inl i) = inr ((w.backing.owes code).declared m i d)
        own_case m d (inr same) = inl (ap (λ (x : Message). x.number) same)

    other_owes : (c : ℕ) → (c == code) ≡ false → Owes c (owed_under (code_of c s.routing)) (view then_s f) (view f then_s)
    other_owes c other = let o = w.backing.owes c in record {
      declarations = o.declarations;
      acks = o.acks;
      within = o.within;
      declared = λ m i d. other_case m d (was_there m i);
      acked = o.acked;
    }
      where
        other_case : (m : Message) → Declares c m → In m (view s f) ⊎ (m ≡ z) → IsNumber m.number (w.backing.owes c).declarations
        other_case m d (inl i) = (w.backing.owes c).declared m i d
        other_case m d (inr same) = absurd (false_true (c == code) other (ap (λ (n : ℕ). n == code) (tells c (subst (Declares c) same d)) ∙ itself code))

    again_owes : (c : ℕ) → Owes c (owed_under (code_of c then_s.routing)) (view then_s f) (view f then_s)
    again_owes c = go (c == code) refl
      where
        go : (b : Bool) → (c == code) ≡ b → Owes c (owed_under (code_of c then_s.routing)) (view then_s f) (view f then_s)
        go true e =
            let same : c ≡ code = eqb-true c code e in
            subst (λ (n : ℕ). Owes c n (view then_s f) (view f then_s)) (sym (owed_then c true e (ap (λ (n : ℕ). via_of (code_of n s.routing)) same ∙ open_via)))
            (subst (λ (k : ℕ). Owes k (owed_under (code_of k s.routing) + 1) (view then_s f) (view f then_s)) (sym same) own_owes)
        go false e = subst (λ (n : ℕ). Owes c n (view then_s f) (view f then_s)) (sym (owed_then c false e refl)) (other_owes c e)

    -- a code that is open is one of a link of the set
    few : code < 256
    few =
        let used = sound.routing.known code (λ free. none-some via (sym (ap via_of free) ∙ open_via)) in
        omega (arith, used, sound.routing.at_most_16)

    few_case : (c : ℕ) (m : Message) → Declares c m → In m (view s f) ⊎ (m ≡ z) → c < 256
    few_case c m d (inl i) = w.backing.few_declared c m i d
    few_case c m d (inr same) = subst (λ (n : ℕ). n < 256) (sym (tells c (subst (Declares c) same d))) few

    again_flow : Flows then_s f offered got lost
    again_flow = kept_flow s then_s f f offered got lost w again_kept (record {
      few_declared = λ c m i d. few_case c m d (was_there m i);
      few_acked = w.backing.few_acked;
      owes = again_owes;
      clear = λ stream low. (again_kept stream low).clear;
      answered = λ stream low. (again_kept stream low).answered;
    })

-- FROM ALL CODES that are overdue
flow_on : (code : ℕ) (due : Option ℕ) (s f : State) (offered got lost : ℕ → List Message) → IsSound s
    → overdue_via (code_of code s.routing) s.rows ≡ due → Flows s f offered got lost → Flows (redeclared_on code due s) f offered got lost
flow_on code None s f offered got lost sound e w = w
flow_on code (Some via) s f offered got lost sound e w = again_flow code via s f sound e offered got lost w

pub redeclared_flow : (code n : ℕ) (s f : State) (offered got lost : ℕ → List Message) → IsSound s → Flows s f offered got lost
    → Flows (redeclared_from code n s) f offered got lost
redeclared_flow code zero s f offered got lost sound w = w
redeclared_flow code (suc n) s f offered got lost sound w =
    let due = overdue_via (code_of code s.routing) s.rows in
    redeclared_flow (suc code) n (redeclared_if code s) f offered got lost (redeclared_sound code due s refl sound)
    (flow_on code due s f offered got lost sound refl w)

acks_on : (code : ℕ) (due : Option ℕ) (s f : State) → IsSound s → overdue_via (code_of code s.routing) s.rows ≡ due
    → NewAcknowledges (view (redeclared_on code due s) f) (view s f)
acks_on code None s f sound e = λ c m i a. i
acks_on code (Some via) s f sound e = again_acks code via s f sound e

pub redeclared_acks : (code n : ℕ) (s f : State) → IsSound s → NewAcknowledges (view (redeclared_from code n s) f) (view s f)
redeclared_acks code zero s f sound = λ c m i a. i
redeclared_acks code (suc n) s f sound =
    let due = overdue_via (code_of code s.routing) s.rows in
    λ c m i a. acks_on code due s f sound refl c m
    (redeclared_acks (suc code) n (redeclared_if code s) f (redeclared_sound code due s refl sound) c m i a) a
