-- WHAT STOOD BACK TURNS TO LINKS, all together and in its order: what that does to what is pending. Each queue gains
-- the rows that come to wait for its link or to be held for it, at its end (`turned_pending`), the rest is parked
-- (`turned_aside`), and no order is made (`turned_acts`). The last is so as only users' messages stand back
-- (`turned_users`, by induction on the rows). And they stand at the end because a link either holds nothing, or nothing
-- comes to wait for it (`IsEither`): else the new ones would stand before what is held. Leaving.antt uses it for a link
-- that is left and for a code that is released, and so do pair_streams's Turned.antt and Returned.antt.
use Rattle.std.proofs.Common.{Some, None, refl, ◌≡◌, ◌∙◌, ap, sym, subst, ℕ, Bool, true, false, not, ◌-◌, List, [], ◌∷◌, ◌++◌, map, drop, ◌⊎◌, inl, inr, cond}
use Rattle.std.proofs.lemmas.List.{append-nil}
use Rattle.l3_orders.specs.Grammar.{order_any}
use Rattle.set_events.specs.declared.answer.Fate.{Fate}
use Rattle.set_events.specs.declared.answer.Fate.TheVariants.{Waiting, Unacked, Acked, Held, Parked, Back, Discarded}
use Rattle.set_route.specs.Routing.{Routing}
use Rattle.set_model.specs.Rows.{Row, AreMarked, is_users, is_managements, standing, stands_back, is_unacked, is_waiting, is_held, is_parked, unack, wait, held, parked, moved, fated}
use Rattle.set_model.specs.Sound.{IsBackOf, AreBack}
use Rattle.set_model.specs.State.{State, is_up, is_settled}
use Rattle.set_model.proofs.Rows.{fated_none, moved_same, moved_more}
use Rattle.set_model.proofs.Places.{back_not_on, back_not_parked, not_on_unacked, not_on_waiting, not_on_held}
use Rattle.pair_model.specs.Run.{Message, messages}
use Rattle.pair_changeover.proofs.Changes.{Acts, far_same}
use Rattle.pair_changeover.proofs.Table.{joined, joins_waiting, joins_held}
use Rattle.pair_changeover.proofs.Texts.{plain_body}
use Rattle.pair_changeover.proofs.Views.{view, pending, aside, queue, acked_on, accepted_on, last_on, Among, among_joined, stands_aside, IsPlain, Came, plain, stayed, CameAside, plain_aside, was_in}

not_false : (b : Bool) → not b ≡ true → b ≡ false
not_false true e = absurd cc
not_false false e = refl

module _ (test : Fate → Bool) (fate : Row → Fate) (back : (f : Fate) → test f ≡ true → stands_back f ≡ true) where
  -- they are messages of the users
  plain_row : (routing : Routing) (row : Row) (f : Fate) → is_users row ≡ not (is_managements row.body) → test f ≡ true → IsBackOf routing row f → order_any row.body ≡ None
  plain_row routing row (Back code) own e b = plain_body row.body (not_false (is_managements row.body) (sym own ∙ b.0))
  plain_row routing row (Waiting l) own e b = absurd (let no : false ≡ true = back (Waiting l) e in cc)
  plain_row routing row (Unacked l) own e b = absurd (let no : false ≡ true = back (Unacked l) e in cc)
  plain_row routing row (Acked l) own e b = absurd (let no : false ≡ true = back (Acked l) e in cc)
  plain_row routing row (Held l) own e b = absurd (let no : false ≡ true = back (Held l) e in cc)
  plain_row routing row Parked own e b = absurd (let no : false ≡ true = back Parked e in cc)
  plain_row routing row (Discarded cause) own e b = absurd (let no : false ≡ true = back (Discarded cause) e in cc)

  pub turned_users : (routing : Routing) (other : Fate → Bool) (rows : List Row) → AreMarked rows → AreBack routing rows → (m : Message)
      → Among m (messages (standing other (map (fated fate) (standing test rows)))) → order_any m.body ≡ None
  turned_users routing other [] own b m among = absurd among
  turned_users routing other (row ∷ rows) own b m among = go (λ a. turned_users routing other rows own.1 b.1 m a) (test row.fate) refl among
    where
      kept : (Among m (messages (standing other (map (fated fate) (standing test rows)))) → order_any m.body ≡ None)
          → test row.fate ≡ true → (c : Bool)
          → Among m (messages (cond c (fated fate row ∷ standing other (map (fated fate) (standing test rows)))
          (standing other (map (fated fate) (standing test rows))))) → order_any m.body ≡ None
      kept rest e true (inl same) = ap (λ (x : Message). order_any x.body) same ∙ plain_row routing row row.fate own.0 e b.0
      kept rest e true (inr a) = rest a
      kept rest e false a = rest a

      go : (Among m (messages (standing other (map (fated fate) (standing test rows)))) → order_any m.body ≡ None)
          → (c : Bool) → test row.fate ≡ c
          → Among m (messages (standing other
          (map (fated fate) (cond c (row ∷ standing test rows) (standing test rows))))) → order_any m.body ≡ None
      go rest true e a = kept rest e (other (fate row)) a
      go rest false e a = rest a

  module _ (rows : List Row) (unsent : (l : ℕ) (row : Row) → is_unacked l (fate row) ≡ false) where
    abbrev pub turned_rows : List Row
    turned_rows = map (fated fate) (standing test rows)

    -- what comes to wait for a link, or to be held for it
    abbrev pub gained : ℕ → List Message
    gained l = messages (wait l turned_rows ++ held l turned_rows)

    -- a link that is up holds nothing; for one that isn't nothing comes to wait
    abbrev pub IsEither : ℕ → Type 0
    IsEither l = ((held l rows ≡ []) × ((row : Row) → is_held l (fate row) ≡ false)) ⊎ ((row : Row) → is_waiting l (fate row) ≡ false)

    pub unack_same : (l : ℕ) → unack l (moved test fate rows) ≡ unack l rows
    unack_same l = moved_same test (is_unacked l) fate rows (unsent l) (λ f e. not_on_unacked l f (back_not_on l f (back f e)))

    pub turned_queue : (count l : ℕ) → IsEither l → queue count l (moved test fate rows) ≡ queue count l rows ++ gained l
    turned_queue count l (inl p) =
        let none : held l turned_rows ≡ [] = fated_none (is_held l) fate p.1 (standing test rows) in
        let same : held l (moved test fate rows) ≡ held l rows =
        moved_same test (is_held l) fate rows p.1 (λ f e. not_on_held l f (back_not_on l f (back f e))) in
        let more = moved_more test (is_waiting l) fate rows (λ f e. not_on_waiting l f (back_not_on l f (back f e))) in
        rw (unack_same l, more, same, p.0, none)
        (joins_waiting (drop count (unack l rows)) (wait l rows) (wait l turned_rows)
        ∙ ap (λ (xs : List Row). messages (drop count (unack l rows) ++ wait l rows ++ []) ++ messages xs) (sym (append-nil (wait l turned_rows))))
    turned_queue count l (inr w) =
        let none : wait l turned_rows ≡ [] = fated_none (is_waiting l) fate w (standing test rows) in
        let same : wait l (moved test fate rows) ≡ wait l rows =
        moved_same test (is_waiting l) fate rows w (λ f e. not_on_waiting l f (back_not_on l f (back f e))) in
        let more = moved_more test (is_held l) fate rows (λ f e. not_on_held l f (back_not_on l f (back f e))) in
        rw (unack_same l, same, more, none) (joins_held (drop count (unack l rows)) (wait l rows) (held l rows) (held l turned_rows))

    pub turned_parked : parked (moved test fate rows) ≡ parked rows ++ parked turned_rows
    turned_parked = moved_more test is_parked fate rows (λ f e. back_not_parked f (back f e))

    pub gained_users : (routing : Routing) → AreMarked rows → AreBack routing rows → (l : ℕ) (m : Message) → Among m (gained l) → order_any m.body ≡ None
    gained_users routing own b l m among =
        go (among_joined m (messages (wait l turned_rows)) (messages (held l turned_rows))
        (subst (Among m) (joined (wait l turned_rows) (held l turned_rows)) among))
      where
        go : Among m (messages (wait l turned_rows)) ⊎ Among m (messages (held l turned_rows)) → order_any m.body ≡ None
        go (inl a) = turned_users routing (is_waiting l) rows own b m a
        go (inr a) = turned_users routing (is_held l) rows own b m a

no_plain : (m : Message) → order_any m.body ≡ None → IsPlain m
no_plain m none order is over = let no : None ≡ Some order = sym none ∙ is in absurd cc

-- AN END whose rows turn so
module _ (test : Fate → Bool) (fate : Row → Fate) (s t f : State)
    (back : (g : Fate) → test g ≡ true → stands_back g ≡ true)
    (unsent : (l : ℕ) (row : Row) → is_unacked l (fate row) ≡ false) (rows : t.rows ≡ moved test fate s.rows)
    (acked : (l : ℕ) → acked_on l t ≡ acked_on l s) (either : (l : ℕ) → IsEither test fate back s.rows unsent l) where
  pub turned_pending : (l : ℕ) → pending l t f ≡ pending l s f ++ gained test fate back s.rows unsent l
  turned_pending l =
      ap (λ (n : ℕ). queue (accepted_on l f - n) l t.rows) (acked l)
      ∙ ap (λ (rs : List Row). queue (accepted_on l f - acked_on l s) l rs) rows
      ∙ turned_queue test fate back s.rows unsent (accepted_on l f - acked_on l s) l (either l)

  pub turned_aside : aside t ≡ aside s ++ messages (parked (turned_rows test fate back s.rows unsent))
  turned_aside = ap (λ (rs : List Row). messages (parked rs)) rows
      ∙ ap messages (turned_parked test fate back s.rows unsent)
      ∙ joined (parked s.rows) (parked (turned_rows test fate back s.rows unsent))

  -- in which no order is made
  pub turned_acts : AreMarked s.rows → AreBack s.routing s.rows → ((l : ℕ) → is_up l t ≡ true → is_up l s ≡ true)
      → ((l : ℕ) → is_settled l t ≡ true → is_settled l s ≡ true) → ((l : ℕ) → accepted_on l t ≡ accepted_on l s)
      → ((l : ℕ) → last_on l t ≡ last_on l s) → Acts s t f
  turned_acts own b up settled accepted last = record {
    came = λ l m among. came_case l m (among_joined m (pending l s f) (gained test fate back s.rows unsent l) (subst (Among m) (turned_pending l) among));
    came_aside = λ m among. aside_case m
        (among_joined m (aside s) (messages (parked (turned_rows test fate back s.rows unsent)))
        (subst (Among m) turned_aside among));
    up_less = up;
    settled_more = λ l e. inl (settled l e);
    accepted = λ l. inl (last l);
    far_came = far_same s t f accepted;
  }
    where
      came_case : (l : ℕ) (m : Message) → Among m (pending l s f) ⊎ Among m (gained test fate back s.rows unsent l) → Came (view s f) l m
      came_case l m (inl a) = stayed a
      came_case l m (inr a) = plain (no_plain m (gained_users test fate back s.rows unsent s.routing own b l m a))

      aside_case : (m : Message) → Among m (aside s) ⊎ Among m (messages (parked (turned_rows test fate back s.rows unsent))) → CameAside (view s f) m
      aside_case m (inl a) = was_in (stands_aside a)
      aside_case m (inr a) = plain_aside (no_plain m (turned_users test fate back s.routing is_parked s.rows own b m a))
