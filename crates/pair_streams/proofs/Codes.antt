-- THE CODES OF CHANGEBACKS between two ends: what is under way of a code is at most what is owed under it: declarations,
-- and acknowledgements of others (`Owes`); and nothing of its streams stands behind a declaration (`Backing`). With where each stream stands (Flowing.antt) and what was kept and lost of it (Mixed.antt) it makes
-- `Flows`, what holds of the streams from one end to the other. `carried` says what a change has to keep of each stream
-- (`Kept`) so that all is; `far_carried` is for a far end that accepts nothing, `acked_flow` for one that acknowledges a
-- declaration: nothing of its streams is left to arrive. Moving.antt, Settled.antt, Turned.antt and others make a `Kept`
-- of each change. The only inductions are on lists of numbers (`left_of`).
use Rattle.std.proofs.Common.{refl, arith, ◌≡◌, ◌∙◌, ap, sym, subst, ℕ, suc, ◌<◌, ◌≤◌, ◌==◌, ◌-◌, ◌+◌, not, Bool, true, false, List, [], ◌∷◌, ◌++◌, length, filter, ◌⊎◌, inl, inr}
use Rattle.std.proofs.lemmas.Bool.{eqb-true}
use Rattle.std.proofs.lemmas.Bool.Decides.{nat_tests}
use Rattle.set_model.proofs.Places.{false_true, itself}
use Rattle.set_route.specs.declared.place.Place.{Place}
use Rattle.set_route.specs.declared.place.Place.TheVariants.{On, Changing, Nowhere}
use Rattle.set_route.specs.declared.place.Code.{Code}
use Rattle.set_route.specs.declared.place.Code.TheVariants.{Free}
use Rattle.set_route.specs.Routing.{Routing, place_of, code_of, owed_under, has_messages}
use Rattle.set_model.specs.State.{State}
use Rattle.pair_model.specs.Run.{Message}
use Rattle.pair_changeover.specs.Pending.{queue, pending, acked_on, accepted_on}
use Rattle.pair_changeover.proofs.Views.{View, view, Among, In, stands_on, stands_aside}
use Rattle.pair_streams.specs.Streams.{those_of}
use Rattle.pair_streams.proofs.Declared.{Declares, Acknowledges, NoneDeclares, ClearBehind}
use Rattle.pair_streams.proofs.Mixed.{Mixed}
use Rattle.pair_streams.proofs.Flowing.{queue_at, back_by, here, Stands}

-- NUMBERS in a list, and those left of it without one
abbrev pub IsNumber : ℕ → List ℕ → Type 0
IsNumber n [] = ⊥
IsNumber n (m ∷ ms) = (n ≡ m) ⊎ IsNumber n ms

abbrev pub left_of : ℕ → List ℕ → List ℕ
left_of n ms = filter (λ m. not (m == n)) ms

pub still_number : (n k : ℕ) (ms : List ℕ) → IsNumber k ms → (k ≡ n → ⊥) → IsNumber k (left_of n ms)
still_number n k [] is other = is
still_number n k (m ∷ ms) is other = go (m == n) refl is (λ later. still_number n k ms later other)
  where
    go : (b : Bool) → (m == n) ≡ b → IsNumber k (m ∷ ms) → (IsNumber k ms → IsNumber k (left_of n ms)) → IsNumber k (left_of n (m ∷ ms))
    go true e (inl same) more = absurd (other (same ∙ eqb-true m n e))
    go true e (inr later) more = rw e (more later)
    go false e (inl same) more = rw e (inl same)
    go false e (inr later) more = rw e (inr (more later))

few_left : (n : ℕ) (ms : List ℕ) → length (left_of n ms) ≤ length ms
few_left n [] = omega arith
few_left n (m ∷ ms) = go (m == n) refl (few_left n ms)
  where
    go : (b : Bool) → (m == n) ≡ b → length (left_of n ms) ≤ length ms → length (left_of n (m ∷ ms)) ≤ length (m ∷ ms)
    go true e few = rw e (omega (arith, few))
    go false e few = rw e (omega (arith, few))

pub one_left : (n : ℕ) (ms : List ℕ) → IsNumber n ms → suc (length (left_of n ms)) ≤ length ms
one_left n [] is = absurd is
one_left n (m ∷ ms) is = go (m == n) refl is (λ later. one_left n ms later)
  where
    go : (b : Bool) → (m == n) ≡ b → IsNumber n (m ∷ ms) → (IsNumber n ms → suc (length (left_of n ms)) ≤ length ms)
        → suc (length (left_of n (m ∷ ms))) ≤ length (m ∷ ms)
    go true e i more = rw e (omega (arith, few_left n ms))
    go false e (inl same) more = absurd (false_true (m == n) e (ap (λ (k : ℕ). m == k) same ∙ itself m))
    go false e (inr later) more = rw e (omega (arith, more later))

-- WHAT IS UNDER WAY OF A CODE: declarations of these numbers from here, and acknowledgements of these from there; together
-- no more than what is owed
pub record Owes (c owed : ℕ) (x y : View) : Type 0 where
  pub declarations : List ℕ
  pub acks : List ℕ
  pub within : length acks + length declarations ≤ owed
  pub declared : (m : Message) → In m x → Declares c m → IsNumber m.number declarations
  pub acked : (m : Message) → In m y → Acknowledges c m → IsNumber m.number acks

-- of a stream that comes back by the code, from a link: the declaration stands there, and nothing of the stream behind it
pub record Clear (stream code via : ℕ) (x : View) : Type 0 where
  pub only : (l : ℕ) → (via == l) ≡ false → NoneDeclares code (x.on l)
  pub none_aside : NoneDeclares code x.aside
  pub behind : ClearBehind stream code (x.on via)

-- what an end declares, and the far end acknowledges
pub record Backing (r : Routing) (x y : View) : Type 0 where
  pub few_declared : (c : ℕ) (m : Message) → In m x → Declares c m → c < 256
  pub few_acked : (c : ℕ) (m : Message) → In m y → Acknowledges c m → c < 256
  pub owes : (c : ℕ) → Owes c (owed_under (code_of c r)) x y
  pub clear : (stream : ℕ) → stream < 16 → (to code via : ℕ) → place_of stream r ≡ Changing to code via → Clear stream code via x
  pub answered : (stream : ℕ) → stream < 16 → (to code via : ℕ) → place_of stream r ≡ Changing to code via
      → (n : Message) → In n y → Acknowledges code n → those_of stream (x.on via) ≡ []

-- so of a free code nothing is
none_number : (n : ℕ) (ms : List ℕ) → length ms ≤ 0 → IsNumber n ms → ⊥
none_number n [] few is = is
none_number n (m ∷ ms) few is = omega (arith, few)

pub none_owed : (c owed : ℕ) (x y : View) → owed ≡ 0 → Owes c owed x y
    → ((m : Message) → In m x → Declares c m → ⊥) × ((m : Message) → In m y → Acknowledges c m → ⊥)
none_owed c owed x y none o = (
  (λ m i d. none_number m.number o.declarations (omega (arith, none, o.within)) (o.declared m i d)),
  (λ m i a. none_number m.number o.acks (omega (arith, none, o.within)) (o.acked m i a)),
)

pub free_declared : (c : ℕ) (r : Routing) (x y : View) → code_of c r ≡ Free → Backing r x y → (m : Message) → In m x → Declares c m → ⊥
free_declared c r x y free b = (none_owed c (owed_under (code_of c r)) x y (ap owed_under free) (b.owes c)).0

pub free_acked : (c : ℕ) (r : Routing) (x y : View) → code_of c r ≡ Free → Backing r x y → (m : Message) → In m y → Acknowledges c m → ⊥
free_acked c r x y free b = (none_owed c (owed_under (code_of c r)) x y (ap owed_under free) (b.owes c)).1

-- EACH STREAM, from an end to the far end: what was offered was got, stands here, or was lost in an emergency
pub record Flows (s f : State) (offered got lost : ℕ → List Message) : Type 0 where
  pub flow : (stream : ℕ) → stream < 16 → Mixed (got stream ++ here stream s f) (lost stream) (offered stream)
  pub stands : (stream : ℕ) → stream < 16 → Stands stream (place_of stream s.routing) s f
  pub unused : (stream : ℕ) → stream < 16 → has_messages stream s.routing ≡ false → offered stream ≡ []
  pub backing : Backing s.routing (view s f) (view f s)

-- no declaration, or no acknowledgement, comes to stand there
abbrev pub NewDeclares : View → View → Type 0
NewDeclares x' x = (c : ℕ) (m : Message) → In m x' → Declares c m → In m x

abbrev pub NewAcknowledges : View → View → Type 0
NewAcknowledges y' y = (c : ℕ) (m : Message) → In m y' → Acknowledges c m → In m y

-- WHAT A CHANGE KEEPS of a stream, of an end and perhaps of the other
pub record Kept (stream : ℕ) (s t f g : State) : Type 0 where
  pub here_is : here stream t g ≡ here stream s f
  pub stands : Stands stream (place_of stream t.routing) t g
  pub used : has_messages stream t.routing ≡ has_messages stream s.routing
  pub clear : (to code via : ℕ) → place_of stream t.routing ≡ Changing to code via → Clear stream code via (view t g)
  pub answered : (to code via : ℕ) → place_of stream t.routing ≡ Changing to code via → (n : Message) → In n (view f s)
      → Acknowledges code n → those_of stream (pending via t g) ≡ []

-- where no less is owed, and nothing new is under way
pub owed_still : (c owed more : ℕ) (x y x' y' : View) → owed ≤ more → NewDeclares x' x → NewAcknowledges y' y → Owes c owed x y → Owes c more x' y'
owed_still c owed more x y x' y' grows declares acknowledges o = record {
  declarations = o.declarations;
  acks = o.acks;
  within = omega (arith, o.within, grows);
  declared = λ m i d. o.declared m (declares c m i d) d;
  acked = λ m i a. o.acked m (acknowledges c m i a) a;
}

abbrev pub OwesNoLess : State → State → Type 0
OwesNoLess s t = (c : ℕ) → owed_under (code_of c s.routing) ≤ owed_under (code_of c t.routing)

pub owes_same : (s t : State) → t.routing ≡ s.routing → OwesNoLess s t
owes_same s t same c = let e = ap (λ (r : Routing). owed_under (code_of c r)) same in omega (arith, e)

-- and so of the codes, where nothing is declared
pub backed : (s t f g : State) → Backing s.routing (view s f) (view f s)
    → ((stream : ℕ) → stream < 16 → (to code via : ℕ) → place_of stream t.routing ≡ Changing to code via → Clear stream code via (view t g))
    → ((stream : ℕ) → stream < 16 → (to code via : ℕ) → place_of stream t.routing ≡ Changing to code via → (n : Message)
    → In n (view f s) → Acknowledges code n → those_of stream (pending via t g) ≡ [])
    → OwesNoLess s t → NewDeclares (view t g) (view s f)
    → NewAcknowledges (view g t) (view f s) → Backing t.routing (view t g) (view g t)
backed s t f g b clear answered owes declares acknowledges = record {
  few_declared = λ c m i d. b.few_declared c m (declares c m i d) d;
  few_acked = λ c m i d. b.few_acked c m (acknowledges c m i d) d;
  owes = λ c. owed_still c (owed_under (code_of c s.routing)) (owed_under (code_of c t.routing)) (view s f) (view f s) (view t g) (view g t)
      (owes c) declares acknowledges (b.owes c);
  clear = clear;
  answered = λ stream low to code via e n i a. answered stream low to code via e n (acknowledges code n i a) a;
}

-- and of all, where the codes are known
pub kept_flow : (s t f g : State) (offered got lost : ℕ → List Message) → Flows s f offered got lost → ((stream : ℕ) → stream < 16 → Kept stream s t f g)
    → Backing t.routing (view t g) (view g t) → Flows t g offered got lost
kept_flow s t f g offered got lost w kept backing = record {
  flow = λ stream low. subst (λ (x : List Message). Mixed (got stream ++ x) (lost stream) (offered stream)) (sym (kept stream low).here_is) (w.flow stream low);
  stands = λ stream low. (kept stream low).stands;
  unused = λ stream low e. w.unused stream low (sym (kept stream low).used ∙ e);
  backing = backing;
}

-- or where nothing is declared
pub carried : (s t f g : State) (offered got lost : ℕ → List Message) → Flows s f offered got lost → ((stream : ℕ) → stream < 16 → Kept stream s t f g)
    → OwesNoLess s t → NewDeclares (view t g) (view s f)
    → NewAcknowledges (view g t) (view f s) → Flows t g offered got lost
carried s t f g offered got lost w kept owes declares acknowledges =
    kept_flow s t f g offered got lost w kept
    (backed s t f g w.backing (λ stream low. (kept stream low).clear) (λ stream low. (kept stream low).answered) owes declares acknowledges)

-- THE FAR END CHANGES, and accepts nothing
module _ (s t f : State) (accepted : (l : ℕ) → accepted_on l t ≡ accepted_on l s) where
  pub far_queues : (l : ℕ) → pending l f t ≡ pending l f s
  far_queues l = ap (λ (n : ℕ). queue (n - acked_on l f) l f.rows) (accepted l)

  pub far_in : (m : Message) → In m (view f t) → In m (view f s)
  far_in m (stands_on l a) = stands_on l (subst (Among m) (far_queues l) a)
  far_in m (stands_aside a) = stands_aside a

  far_here : (stream : ℕ) → here stream f t ≡ here stream f s
  far_here stream = go (place_of stream f.routing)
    where
      go : (p : Place) → those_of stream (queue_at p f t) ≡ those_of stream (queue_at p f s)
      go (On l) = ap (those_of stream) (far_queues l)
      go (Changing to code via) = ap (λ (q : List Message). those_of stream (q ++ back_by code f)) (far_queues via)
      go Nowhere = refl

  pub far_carried : (offered got lost : ℕ → List Message) → NewAcknowledges (view t f) (view s f) → Flows f s offered got lost → Flows f t offered got lost
  far_carried offered got lost acknowledges w = record {
    flow = λ stream low. subst (λ (x : List Message). Mixed (got stream ++ x) (lost stream) (offered stream)) (sym (far_here stream)) (w.flow stream low);
    stands = λ stream low. record {
      alone = λ l e. ap (those_of stream) (far_queues l) ∙ (w.stands stream low).alone l e;
      none_aside = (w.stands stream low).none_aside;
    };
    unused = w.unused;
    backing = record {
      few_declared = λ c m i d. w.backing.few_declared c m (far_in m i) d;
      few_acked = λ c m i d. w.backing.few_acked c m (acknowledges c m i d) d;
      owes = λ c. owed_still c (owed_under (code_of c f.routing)) (owed_under (code_of c f.routing)) (view f s) (view s f) (view f t) (view t f)
          (omega arith) (λ d m i x. far_in m i) acknowledges (w.backing.owes c);
      clear = λ stream low to code via e. let old = w.backing.clear stream low to code via e in record {
        only = λ l d. subst (NoneDeclares code) (sym (far_queues l)) (old.only l d);
        none_aside = old.none_aside;
        behind = subst (ClearBehind stream code) (sym (far_queues via)) old.behind;
      };
      answered = λ stream low to code via e n i a. ap (those_of stream) (far_queues via)
          ∙ w.backing.answered stream low to code via e n (acknowledges code n i a) a;
    };
  }

  -- it acknowledges a declaration that it heard: one of those that were under way
  module _ (code : ℕ) (z : Message) (few : code < 256) (offered got lost : ℕ → List Message)
      (w : Flows f s offered got lost) (new : (m : Message) → In m (view t f) → In m (view s f) ⊎ (m ≡ z))
      (tells : (c : ℕ) → Acknowledges c z → c ≡ code)
      (o : Owes code (owed_under (code_of code f.routing)) (view f s) (view s f)) (number : ℕ) (heard : IsNumber number o.declarations)
      (apart : (m : Message) → In m (view f s) → Declares code m → m.number ≡ number → ⊥)
      (empty : (stream : ℕ) → stream < 16 → (to via : ℕ) → place_of stream f.routing ≡ Changing to code via → those_of stream (pending via f s) ≡ []) where
    at_code : (P : ℕ → Type 0) → (c : ℕ) (m : Message) → m ≡ z → Acknowledges c m → P code → P c
    at_code P c m same a p = subst P (sym (tells c (subst (Acknowledges c) same a))) p

    few_case : (c : ℕ) (m : Message) → Acknowledges c m → In m (view s f) ⊎ (m ≡ z) → c < 256
    few_case c m a (inl i) = w.backing.few_acked c m i a
    few_case c m a (inr e) = at_code (λ n. n < 256) c m e a few

    abbrev owed : ℕ → ℕ
    owed c = owed_under (code_of c f.routing)

    own_owes : Owes code (owed code) (view f t) (view t f)
    own_owes = record {
      declarations = left_of number o.declarations;
      acks = z.number ∷ o.acks;
      within = omega (arith, o.within, one_left number o.declarations heard);
      declared = λ m i d. still_number number m.number o.declarations (o.declared m (far_in m i) d) (apart m (far_in m i) d);
      acked = λ m i a. own_case m a (new m i);
    }
      where
        own_case : (m : Message) → Acknowledges code m → In m (view s f) ⊎ (m ≡ z) → IsNumber m.number (z.number ∷ o.acks)
        own_case m a (inl i) = inr (o.acked m i a)
        own_case m a (inr e) = inl (ap (λ (x : Message). x.number) e)

    other_owes : (c : ℕ) → (c == code) ≡ false → Owes c (owed c) (view f t) (view t f)
    other_owes c other = let o = w.backing.owes c in record {
      declarations = o.declarations;
      acks = o.acks;
      within = o.within;
      declared = λ m i d. o.declared m (far_in m i) d;
      acked = λ m i a. other_case m a (new m i);
    }
      where
        other_case : (m : Message) → Acknowledges c m → In m (view s f) ⊎ (m ≡ z) → IsNumber m.number (w.backing.owes c).acks
        other_case m a (inl i) = (w.backing.owes c).acked m i a
        other_case m a (inr e) = absurd (let same = tells c (subst (Acknowledges c) e a) in grind (arith, nat_tests, same, other))

    each_owes : (c : ℕ) → Owes c (owed c) (view f t) (view t f)
    each_owes c = go (c == code) refl
      where
        go : (b : Bool) → (c == code) ≡ b → Owes c (owed c) (view f t) (view t f)
        go true e = let same : c ≡ code = grind (arith, nat_tests, e) in subst (λ (n : ℕ). Owes n (owed n) (view f t) (view t f)) (sym same) own_owes
        go false e = other_owes c e

    answered_case : (stream : ℕ) → stream < 16 → (to c via : ℕ) → place_of stream f.routing ≡ Changing to c via
        → (n : Message) → Acknowledges c n → In n (view s f) ⊎ (n ≡ z) → those_of stream (pending via f s) ≡ []
    answered_case stream low to c via e n a (inl i) = w.backing.answered stream low to c via e n i a
    answered_case stream low to c via e n a (inr same) =
        at_code (λ k. place_of stream f.routing ≡ Changing to k via → those_of stream (pending via f s) ≡ []) c n same a
        (empty stream low to via) e

    pub acked_flow : Flows f t offered got lost
    acked_flow = record {
      flow = λ stream low. subst (λ (x : List Message). Mixed (got stream ++ x) (lost stream) (offered stream)) (sym (far_here stream)) (w.flow stream low);
      stands = λ stream low. record {
        alone = λ l e. ap (those_of stream) (far_queues l) ∙ (w.stands stream low).alone l e;
        none_aside = (w.stands stream low).none_aside;
      };
      unused = w.unused;
      backing = record {
        few_declared = λ c m i d. w.backing.few_declared c m (far_in m i) d;
        few_acked = λ c m i a. few_case c m a (new m i);
        owes = each_owes;
        clear = λ stream low to c via e. let old = w.backing.clear stream low to c via e in record {
          only = λ l d. subst (NoneDeclares c) (sym (far_queues l)) (old.only l d);
          none_aside = old.none_aside;
          behind = subst (ClearBehind stream c) (sym (far_queues via)) old.behind;
        };
        answered = λ stream low to c via e n i a. ap (those_of stream) (far_queues via) ∙ answered_case stream low to c via e n a (new n i);
      };
    }
