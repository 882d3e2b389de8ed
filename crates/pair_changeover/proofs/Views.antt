-- THE ORDERS UNDER WAY between two ends, told by what stands at each and the other hasn't accepted: no copies, losses
-- or acknowledgements occur here. `Orders` is what holds of them all along: each tells what its end counts, none is
-- about a link that is up here or settled there, and of each other link there is at most one, on another link.
-- `carries` says that a change in which no order is made keeps it (`Passes`), `queued_in` that a new order about a link
-- that was just left does (`Queues`). It's argued by where a message came from, on views alone; only `among_joined`
-- and its like are inductions. Changes.antt takes both to states; the words are used all through this crate and pair_streams.
use Rattle.std.proofs.Common.{refl, ◌≡◌, ◌≢◌, ◌∙◌, ap, sym, subst, ℕ, Bool, true, false, List, [], ◌∷◌, ◌++◌, Some, ◌⊎◌, inl, inr}
use Rattle.l3_orders.specs.declared.order.Order.{Order}
use Rattle.l3_orders.specs.declared.order.Order.TheVariants.{Coo, Coa, Cbd, Cba, Eco, Eca}
use Rattle.l3_orders.specs.Grammar.{order_any, link_of}
use Rattle.set_model.specs.State.{State, is_up, is_settled}
use Rattle.pair_model.specs.Run.{Message}
pub use Rattle.pair_changeover.specs.Pending.{acked_of, acked_on, accepted_of, accepted_on, last_of, last_on, queue, pending, aside}

-- AN END as the other sees it
pub record View : Type 0 where
  pub up : ℕ → Bool
  pub settled : ℕ → Bool
  pub accepted : ℕ → ℕ
  pub on : ℕ → List Message
  pub aside : List Message

abbrev pub view : State → State → View
view near far = record {
  up = λ link. is_up link near;
  settled = λ link. is_settled link near;
  accepted = λ link. last_on link near;
  on = λ link. pending link near far;
  aside = aside near;
}

abbrev pub Among : Message → List Message → Type 0
Among m [] = ⊥
Among m (x ∷ xs) = (m ≡ x) ⊎ Among m xs

pub among_joined : (m : Message) (xs ys : List Message) → Among m (xs ++ ys) → Among m xs ⊎ Among m ys
among_joined m [] ys a = inr a
among_joined m (x ∷ xs) ys (inl e) = inl (inl e)
among_joined m (x ∷ xs) ys (inr a) = go (among_joined m xs ys a)
  where
    go : Among m xs ⊎ Among m ys → Among m (x ∷ xs) ⊎ Among m ys
    go (inl b) = inl (inr b)
    go (inr b) = inr b

pub among_front : (m : Message) (xs ys : List Message) → Among m xs → Among m (xs ++ ys)
among_front m [] ys a = absurd a
among_front m (x ∷ xs) ys (inl e) = inl e
among_front m (x ∷ xs) ys (inr a) = inr (among_front m xs ys a)

pub among_behind : (m : Message) (xs ys : List Message) → Among m ys → Among m (xs ++ ys)
among_behind m [] ys a = a
among_behind m (x ∷ xs) ys a = inr (among_behind m xs ys a)

-- on a link, or on none
pub data In (m : Message) (v : View) : Type 0 where
  stands_on : (link : ℕ) → Among m (v.on link) → In m v
  stands_aside : Among m v.aside → In m v

-- ORDERS of a changeover; those of a changeback move nothing here
abbrev pub IsChangeover : Order → Type 0
IsChangeover (Coo link fsn) = Unit {0}
IsChangeover (Coa link fsn) = Unit {0}
IsChangeover (Eco link) = Unit {0}
IsChangeover (Eca link) = Unit {0}
IsChangeover (Cbd link code) = ⊥
IsChangeover (Cba link code) = ⊥

abbrev pub IsNoOrder : List ℕ → Type 0
IsNoOrder body = (order : Order) → order_any body ≡ Some order → IsChangeover order → ⊥

abbrev pub IsPlain : Message → Type 0
IsPlain m = IsNoOrder m.body

pub record About (link : ℕ) (m : Message) : Type 0 where
  pub order : Order
  pub is : order_any m.body ≡ Some order
  pub over : IsChangeover order
  pub of : link_of order ≡ link

pub plain_not : (link : ℕ) (m : Message) → IsPlain m → About link m → ⊥
plain_not link m plain about = plain about.order about.is about.over

abbrev pub NoneAbout : ℕ → View → Type 0
NoneAbout link v = (m : Message) → In m v → About link m → ⊥

-- it's a changeover order or its acknowledgement, with the FSN last accepted; or an emergency changeover order, where there
-- may be emergencies
abbrev pub Tells : Bool → View → Order → Type 0
Tells emergencies v (Coo link fsn) = fsn ≡ v.accepted link
Tells emergencies v (Coa link fsn) = fsn ≡ v.accepted link
Tells emergencies v (Eco link) = emergencies ≡ true
Tells emergencies v _ = ⊥

-- What holds of the orders of changeovers that stand at an end: none about a link that is up here or has settled there, of each other
-- link at most one, and none on the link that it's about; each with the number that its end counts. And a link that
-- settled here isn't up there.
pub record Orders (emergencies : Bool) (x y : View) : Type 0 where
  pub tells : (m : Message) → In m x → (order : Order) → order_any m.body ≡ Some order → IsChangeover order → Tells emergencies x order
  pub none_up : (link : ℕ) → x.up link ≡ true → NoneAbout link x
  pub none_settled : (link : ℕ) → y.settled link ≡ true → NoneAbout link x
  pub one : (link : ℕ) (m n : Message) → In m x → In n x → About link m → About link n → m.number ≡ n.number
  pub own : (link : ℕ) (m : Message) → Among m (x.on link) → About link m → ⊥
  pub apart : (link : ℕ) → x.settled link ≡ true → y.up link ≡ false

-- A CHANGE in which no order is made: what stands there then stood there before, or is no order
pub data Came (x : View) (link : ℕ) (m : Message) : Type 0 where
  plain : IsPlain m → Came x link m
  stayed : Among m (x.on link) → Came x link m
  moved : In m x → (About link m → ⊥) → Came x link m

pub data CameAside (x : View) (m : Message) : Type 0 where
  plain_aside : IsPlain m → CameAside x m
  was_in : In m x → CameAside x m

pub record Passes (x x' y' : View) : Type 0 where
  pub came : (link : ℕ) (m : Message) → Among m (x'.on link) → Came x link m
  pub came_aside : (m : Message) → Among m x'.aside → CameAside x m
  pub none_up : (link : ℕ) → x'.up link ≡ true → NoneAbout link x
  pub none_settled : (link : ℕ) → y'.settled link ≡ true → NoneAbout link x
  pub accepted : (link : ℕ) → (x'.accepted link ≡ x.accepted link) ⊎ NoneAbout link x
  pub apart : (link : ℕ) → x'.settled link ≡ true → y'.up link ≡ false

came_in : (x : View) (link : ℕ) (m : Message) → Came x link m → CameAside x m
came_in x link m (plain p) = plain_aside p
came_in x link m (stayed a) = was_in (stands_on link a)
came_in x link m (moved i n) = was_in i

module _ {emergencies : Bool} (x x' y y' : View) (p : Passes x x' y') (o : Orders emergencies x y) where
  was : (m : Message) → In m x' → CameAside x m
  was m (stands_on link a) = came_in x link m (p.came link m a)
  was m (stands_aside a) = p.came_aside m a

  about_was : (link : ℕ) (m : Message) → About link m → CameAside x m → In m x
  about_was link m about (plain_aside q) = absurd (plain_not link m q about)
  about_was link m about (was_in i) = i

  still : (m : Message) (order : Order) → order_any m.body ≡ Some order → In m x
      → ((x'.accepted (link_of order) ≡ x.accepted (link_of order)) ⊎ NoneAbout (link_of order) x)
      → Tells emergencies x order → Tells emergencies x' order
  still m (Coo link fsn) e i (inl same) t = t ∙ sym same
  still m (Coa link fsn) e i (inl same) t = t ∙ sym same
  still m (Cbd link code) e i same t = absurd t
  still m (Cba link code) e i same t = absurd t
  still m (Eco link) e i same t = t
  still m (Eca link) e i same t = absurd t
  still m (Coo link fsn) e i (inr none) t = absurd (none m i (record { order = Coo link fsn; is = e; over = tt; of = refl }))
  still m (Coa link fsn) e i (inr none) t = absurd (none m i (record { order = Coa link fsn; is = e; over = tt; of = refl }))

  pub carries : Orders emergencies x' y'
  carries = record {
    tells = λ m i order e over. let j =
        about_was (link_of order) m (record { order = order; is = e; over = over; of = refl }) (was m i) in still m
        order e j (p.accepted (link_of order)) (o.tells m j order e over);
    none_up = λ link up m i about. p.none_up link up m (about_was link m about (was m i)) about;
    none_settled = λ link settled m i about. p.none_settled link settled m (about_was link m about (was m i)) about;
    one = λ link m n i j a b. o.one link m n (about_was link m a (was m i)) (about_was link n b (was n j)) a b;
    own = λ link m a about. own_case link m about (p.came link m a);
    apart = p.apart;
  }
    where
      own_case : (link : ℕ) (m : Message) → About link m → Came x link m → ⊥
      own_case link m about (plain q) = plain_not link m q about
      own_case link m about (stayed a) = o.own link m a about
      own_case link m about (moved i n) = n about

-- AN ORDER IS QUEUED about a link that was just left: none stood there about it
pub record Queues (emergencies : Bool) (z : Message) (order : Order) (x x' y : View) : Type 0 where
  pub is : order_any z.body ≡ Some order
  pub tells : Tells emergencies x order
  pub fresh : NoneAbout (link_of order) x
  pub down : x.up (link_of order) ≡ false
  pub unsettled : y.settled (link_of order) ≡ false
  pub came : (link : ℕ) (m : Message) → Among m (x'.on link) → ((m ≡ z) × (link ≢ link_of order)) ⊎ Among m (x.on link)
  pub came_aside : (m : Message) → Among m x'.aside → (m ≡ z) ⊎ Among m x.aside
  pub up_same : (link : ℕ) → x'.up link ≡ x.up link
  pub settled_same : (link : ℕ) → x'.settled link ≡ x.settled link
  pub accepted_same : (link : ℕ) → x'.accepted link ≡ x.accepted link

module _ {emergencies : Bool} (z : Message) (order : Order) (x x' y : View) (q : Queues emergencies z order x x' y) (o : Orders emergencies x y) where
  then_in : (m : Message) → In m x' → (m ≡ z) ⊎ In m x
  then_in m (stands_on link a) = go (q.came link m a)
    where
      go : ((m ≡ z) × (link ≢ link_of order)) ⊎ Among m (x.on link) → (m ≡ z) ⊎ In m x
      go (inl b) = inl b.0
      go (inr b) = inr (stands_on link b)
  then_in m (stands_aside a) = go (q.came_aside m a)
    where
      go : (m ≡ z) ⊎ Among m x.aside → (m ≡ z) ⊎ In m x
      go (inl b) = inl b
      go (inr b) = inr (stands_aside b)

  -- the new one is about its link alone
  of_new : (link : ℕ) (m : Message) → m ≡ z → About link m → link ≡ link_of order
  of_new link m e about =
      let same : Some about.order ≡ Some order = sym about.is ∙ ap (λ (k : Message). order_any k.body) e ∙ q.is in
      let one : about.order ≡ order = cc in
      sym about.of ∙ ap link_of one

  tells_on : (other : Order) → Tells emergencies x other → Tells emergencies x' other
  tells_on (Coo link fsn) t = t ∙ sym (q.accepted_same link)
  tells_on (Coa link fsn) t = t ∙ sym (q.accepted_same link)
  tells_on (Cbd link code) t = absurd t
  tells_on (Cba link code) t = absurd t
  tells_on (Eco link) t = t
  tells_on (Eca link) t = absurd t

  none_then : (link : ℕ) → NoneAbout link x → link ≢ link_of order → NoneAbout link x'
  none_then link none other m i about = go (then_in m i)
    where
      go : (m ≡ z) ⊎ In m x → ⊥
      go (inl e) = other (of_new link m e about)
      go (inr j) = none m j about

  pub queued_in : Orders emergencies x' y
  queued_in = record {
    tells = λ m i other e over. tells_case m other e over (then_in m i);
    none_up = λ link up. none_then link (o.none_up link (sym (q.up_same link) ∙ up))
        (λ same. let no : false ≡ true = sym q.down ∙ ap x.up (sym same) ∙ sym (q.up_same link) ∙ up in absurd cc);
    none_settled = λ link settled. none_then link (o.none_settled link settled)
        (λ same. let no : false ≡ true = sym q.unsettled ∙ ap y.settled (sym same) ∙ settled in absurd cc);
    one = λ link m n i j a b. one_case link m n a b (then_in m i) (then_in n j);
    own = λ link m a about. own_case link m about (q.came link m a);
    apart = λ link settled. o.apart link (sym (q.settled_same link) ∙ settled);
  }
    where
      tells_case : (m : Message) (other : Order) → order_any m.body ≡ Some other → IsChangeover other → (m ≡ z) ⊎ In m x → Tells emergencies x' other
      tells_case m other e over (inl same) =
          let two : Some other ≡ Some order = sym e ∙ ap (λ (k : Message). order_any k.body) same ∙ q.is in
          let one : other ≡ order = cc in
          subst (Tells emergencies x') (sym one) (tells_on order q.tells)
      tells_case m other e over (inr i) = tells_on other (o.tells m i other e over)

      one_case : (link : ℕ) (m n : Message) → About link m → About link n → (m ≡ z) ⊎ In m x → (n ≡ z) ⊎ In n x → m.number ≡ n.number
      one_case link m n a b (inl e) (inl f) = ap (λ (k : Message). k.number) (e ∙ sym f)
      one_case link m n a b (inl e) (inr j) = absurd (q.fresh n j (subst (λ (k : ℕ). About k n) (of_new link m e a) b))
      one_case link m n a b (inr i) (inl f) = absurd (q.fresh m i (subst (λ (k : ℕ). About k m) (of_new link n f b) a))
      one_case link m n a b (inr i) (inr j) = o.one link m n i j a b

      own_case : (link : ℕ) (m : Message) → About link m → ((m ≡ z) × (link ≢ link_of order)) ⊎ Among m (x.on link) → ⊥
      own_case link m about (inl e) = e.1 (of_new link m e.0 about)
      own_case link m about (inr a) = o.own link m a about
