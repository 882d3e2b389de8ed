-- SEVERAL VEILS: a state with some of its settled links seen as others that aren't up does the same at each step
-- (`laid_alike`, link by link from set_veiled's law), and is sound (`laid_sound`); one more veil lies on top of the others
-- (`laid_more`).
use Rattle.std.proofs.Common.{refl, arith, ◌≡◌, ◌≢◌, ◌∙◌, ap, ap₂, sym, subst, ℕ, zero, suc, ◌<◌, ◌≤◌, ◌==◌, Bool, true, false, List, [], ◌∷◌, length, slice_get, slice_set, Option, Some, None, ◌⊎◌, inl, inr}
use Rattle.std.proofs.lemmas.Bool.{eqb-true}
use Rattle.std.proofs.lemmas.Bool.Decides.{nat_tests}
use Rattle.l2_units.specs.declared.unit.Unit.TheVariants.{Fisu, Lssu, Msu}
use Rattle.set_events.specs.declared.event.Event.{Event}
use Rattle.set_events.specs.declared.event.Event.TheVariants.{Offer, Take, Find, Next, Heard, Up as UpEvent, Down as DownEvent, DownBlind, NoAnswer, Timed, Restore, Redeclare, BackTimeout, Test}
use Rattle.set_model.specs.declared.phase.Phase.{Phase}
use Rattle.set_model.specs.declared.phase.Phase.TheVariants.{Up, Down, Settled}
use Rattle.set_model.specs.Sound.{IsSound}
use Rattle.set_model.specs.State.{LinkState, State, Settings, has_phase_up, has_phase_settled, is_up, is_settled, link_is_settled, target}
use Rattle.set_model.specs.Changeover.{left_by}
use Rattle.set_model.specs.Step.{step}
use Rattle.set_model.proofs.Lists.{get_set_same, get_set_other, set_same, length_set, within}
use Rattle.set_model.proofs.Places.{false_true, itself}
use Rattle.set_model.proofs.Walk.{link_count_stays}
use Rattle.set_veiled.specs.Veil.{dormant, veil, IsElsewhere, IsAlike}
use Rattle.set_veiled.proofs.Veiled.{up_same, target_same, left_same, settled_out, veils_keep_steps}
use Rattle.set_veiled.proofs.Sound.{veils_stay_sound}
use Rattle.pair_model.proofs.Pairs.{settings_stay}
use Rattle.pair_rises.proofs.Closed.{closed_sound}
use Rattle.pair_rises.specs.Rises.{Cover, inside, awaited, missed, is_covered, closed, cover_of, laid_on, laid, lay, seen_under}

pub swap : {X : Type 0} (xs : List X) (n m : ℕ) (x y : X) → (n == m) ≡ false → slice_set (slice_set xs m y) n x ≡ slice_set (slice_set xs n x) m y
swap [] n m x y d = refl
swap (z ∷ xs) zero zero x y d = absurd cc
swap (z ∷ xs) zero (suc m) x y d = refl
swap (z ∷ xs) (suc n) zero x y d = refl
swap (z ∷ xs) (suc n) (suc m) x y d = let e : (n == m) ≡ false = grind (arith, nat_tests, d) in ap (λ (ys : List _). z ∷ ys) (swap xs n m x y e)

apart : (n m : ℕ) → (n == m) ≡ false → n ≢ m
apart n m d = λ same. false_true (n == m) d (rw same (itself m))

-- one list of veils
module _ (c : ℕ → Option LinkState) where
  pub laid_length : (n : ℕ) (links : List LinkState) → length (laid c n links) ≡ length links
  laid_length zero links = refl
  laid_length (suc n) links = go (c n) (laid_length n links)
    where
      go : (o : Option LinkState) → length (laid c n links) ≡ length links → length (laid_on o n (laid c n links)) ≡ length links
      go None last = last
      go (Some x) last = length_set (laid c n links) n x ∙ last

  -- a link without one
  pub laid_off : (n l : ℕ) (links : List LinkState) → c l ≡ None → slice_get (laid c n links) l ≡ slice_get links l
  laid_off zero l links e = refl
  laid_off (suc n) l links e = go (c n) refl (laid_off n l links e)
    where
      go : (o : Option LinkState) → c n ≡ o → slice_get (laid c n links) l ≡ slice_get links l → slice_get (laid_on o n (laid c n links)) l ≡ slice_get links l
      go None f last = last
      go (Some x) f last =
          get_set_other (laid c n links) n l x (λ same. absurd (let no : None ≡ Some x = sym e ∙ ap c (sym same) ∙ f in cc))
          ∙ last

  laid_above : (n l : ℕ) (links : List LinkState) → n ≤ l → slice_get (laid c n links) l ≡ slice_get links l
  laid_above zero l links few = refl
  laid_above (suc n) l links few = go (c n) (laid_above n l links (omega (arith, few)))
    where
      go : (o : Option LinkState) → slice_get (laid c n links) l ≡ slice_get links l → slice_get (laid_on o n (laid c n links)) l ≡ slice_get links l
      go None last = last
      go (Some x) last =
          get_set_other (laid c n links) n l x (λ same. absurd (omega (arith, few, same)))
          ∙ last

-- two that agree
pub laid_same : (c d : ℕ → Option LinkState) (n : ℕ) (links : List LinkState) → ((l : ℕ) → l < n → d l ≡ c l) → laid d n links ≡ laid c n links
laid_same c d zero links same = refl
laid_same c d (suc n) links same =
    ap₂ (λ (o : Option LinkState) (ls : List LinkState). laid_on o n ls) (same n (omega arith))
    (laid_same c d n links (λ l few. same l (omega (arith, few))))

-- one more
module _ (c d : ℕ → Option LinkState) (k : ℕ) (x : LinkState) (off : c k ≡ None) (on : d k ≡ Some x)
    (same : (l : ℕ) → (l == k) ≡ false → d l ≡ c l) where
  below : (n : ℕ) (links : List LinkState) → n ≤ k → laid d n links ≡ laid c n links
  below n links few = laid_same c d n links (λ l less. same l (let least : l < k = omega (arith, few, less) in grind (arith, nat_tests, least)))

  pub laid_more : (n : ℕ) (links : List LinkState) → k < n → laid d n links ≡ slice_set (laid c n links) k x
  laid_more zero links few = absurd (omega (arith, few))
  laid_more (suc n) links few = go (n == k) refl (λ less. laid_more n links less)
    where
      over : (o : Option LinkState) → (n == k) ≡ false → laid_on o n (slice_set (laid c n links) k x) ≡ slice_set (laid_on o n (laid c n links)) k x
      over None e = refl
      over (Some y) e = swap (laid c n links) n k y x e

      go : (b : Bool) → (n == k) ≡ b → (k < n → laid d n links ≡ slice_set (laid c n links) k x) → laid_on (d n) n (laid d n links) ≡ slice_set (laid_on (c n) n (laid c n links)) k x
      go true e last =
          let is : n ≡ k = eqb-true n k e in
          let here : d n ≡ Some x = ap d is ∙ on in
          let none : c n ≡ None = ap c is ∙ off in
          ap₂ (λ (o : Option LinkState) (ls : List LinkState). laid_on o n ls) here (below n links (omega (arith, is)))
          ∙ ap (λ (m : ℕ). slice_set (laid c n links) m x) is
          ∙ ap (λ (o : Option LinkState). slice_set (laid_on o n (laid c n links)) k x) (sym none)
      go false e last =
          let less : k < n = grind (arith, nat_tests, few, e) in
          ap₂ (λ (o : Option LinkState) (ls : List LinkState). laid_on o n ls) (same n e) (last less)
          ∙ over (c n) e

-- what an event is about isn't told by the links
elsewhere_so : (c : ℕ → Option LinkState) (n l : ℕ) (s : State) (event : Event) → IsElsewhere l s event → IsElsewhere l (lay c n s) event
elsewhere_so c n l s (Offer body) e = e
elsewhere_so c n l s Take e = e
elsewhere_so c n l s (Find number) e = e
elsewhere_so c n l s (Next k) e = e
elsewhere_so c n l s (Heard k (Fisu head)) e = e
elsewhere_so c n l s (Heard k (Lssu head status)) e = e
elsewhere_so c n l s (Heard k (Msu head body)) e = e
elsewhere_so c n l s (UpEvent k) e = e
elsewhere_so c n l s (DownEvent k) e = e
elsewhere_so c n l s (DownBlind k) e = e
elsewhere_so c n l s (NoAnswer k) e = e
elsewhere_so c n l s (Timed k) e = e
elsewhere_so c n l s (Restore k) e = e
elsewhere_so c n l s (Redeclare k) e = e
elsewhere_so c n l s (BackTimeout k) e = e
elsewhere_so c n l s (Test k) e = e

-- veils over settled links, none of them up
abbrev pub AreVeils : (ℕ → Option LinkState) → State → Type 0
AreVeils c s = (l : ℕ) (x : LinkState) → c l ≡ Some x → (has_phase_up x.phase ≡ false) × (is_settled l s ≡ true)

module _ (c : ℕ → Option LinkState) (s : State) (are : AreVeils c s) where
  -- the next one's link is settled yet
  pub next_settled : (n : ℕ) (x : LinkState) → c n ≡ Some x → is_settled n (lay c n s) ≡ true
  next_settled n x e = ap link_is_settled (laid_above c n n s.links (omega arith)) ∙ (are n x e).1

  pub laid_up : (n l : ℕ) → is_up l (lay c n s) ≡ is_up l s
  laid_up zero l = refl
  laid_up (suc n) l = go (c n) refl (laid_up n l)
    where
      go : (o : Option LinkState) → c n ≡ o → is_up l (lay c n s) ≡ is_up l s → is_up l (record s { links = laid_on o n (laid c n s.links) }) ≡ is_up l s
      go None e last = last
      go (Some x) e last =
          let not_up = (are n x e).0 in
          up_same x not_up n (lay c n s) (settled_out x not_up n (lay c n s) (next_settled n x e)) l ∙ last

  -- nor does the target of what is moved, or what leaves another link
  pub laid_target : (n : ℕ) → target (lay c n s).links ≡ target s.links
  laid_target zero = refl
  laid_target (suc n) = go (c n) refl (laid_target n)
    where
      go : (o : Option LinkState) → c n ≡ o → target (lay c n s).links ≡ target s.links → target (laid_on o n (laid c n s.links)) ≡ target s.links
      go None e last = last
      go (Some x) e last =
          let not_up = (are n x e).0 in
          target_same x not_up n (lay c n s) (settled_out x not_up n (lay c n s) (next_settled n x e)) ∙ last

  pub laid_left : (l : ℕ) (link : LinkState) → c l ≡ None → (n : ℕ) → left_by false l link (lay c n s) ≡ lay c n (left_by false l link s)
  laid_left l link off zero = refl
  laid_left l link off (suc n) = go (c n) refl (laid_left l link off n)
    where
      go : (o : Option LinkState) → c n ≡ o → left_by false l link (lay c n s) ≡ lay c n (left_by false l link s)
          → left_by false l link (record s { links = laid_on o n (laid c n s.links) })
          ≡ record (left_by false l link s) { links = laid_on o n (laid c n (left_by false l link s).links) }
      go None e last = last
      go (Some x) e last =
          let not_up = (are n x e).0 in
          let other : (l == n) ≡ false = not_same x e in
          left_same x not_up n false l link (lay c n s) other (settled_out x not_up n (lay c n s) (next_settled n x e)) ∙ ap (veil x n) last
        where
          not_same : (x : LinkState) → c n ≡ Some x → (l == n) ≡ false
          not_same x e = by (l == n) refl
            where
              by : (b : Bool) → (l == n) ≡ b → b ≡ false
              by false d = refl
              by true d = absurd (let no : None ≡ Some x = sym off ∙ ap c (eqb-true l n d) ∙ e in cc)

  pub laid_sound : ((l : ℕ) (x : LinkState) → c l ≡ Some x → (x ≡ dormant s.settings) ⊎ (x ≡ closed s.settings)) → IsSound s → (n : ℕ) → IsSound (lay c n s)
  laid_sound each sound zero = sound
  laid_sound each sound (suc n) = go (c n) refl (laid_sound each sound n)
    where
      go : (o : Option LinkState) → c n ≡ o → IsSound (lay c n s) → IsSound (record s { links = laid_on o n (laid c n s.links) })
      go None e last = last
      go (Some x) e last = under (each n x e)
        where
          under : (x ≡ dormant s.settings) ⊎ (x ≡ closed s.settings) → IsSound (veil x n (lay c n s))
          under (inl is) = subst (λ (y : LinkState). IsSound (veil y n (lay c n s))) (sym is) (veils_stay_sound n (lay c n s) last (next_settled n x e))
          under (inr is) = subst (λ (y : LinkState). IsSound (veil y n (lay c n s))) (sym is) (closed_sound n (lay c n s) last (next_settled n x e))

  module _ (event : Event) (other : (l : ℕ) (x : LinkState) → c l ≡ Some x → IsElsewhere l s event) where
    pub record Alike (n : ℕ) : Type 0 where
      pub answer : (step (lay c n s) event).answer ≡ (step s event).answer
      pub state : (step (lay c n s) event).state ≡ lay c n (step s event).state

    pub laid_alike : (n : ℕ) → Alike n
    laid_alike zero = record { answer = refl; state = refl }
    laid_alike (suc n) = go (c n) refl (laid_alike n)
      where
        go : (o : Option LinkState) → c n ≡ o → Alike n → Alike (suc n)
        go None e last = record {
          answer = ap (λ (o : Option LinkState). (step (record s { links = laid_on o n (laid c n s.links) }) event).answer) e ∙ last.answer;
          state = ap (λ (o : Option LinkState). (step (record s { links = laid_on o n (laid c n s.links) }) event).state) e
              ∙ last.state
              ∙ ap (λ (o : Option LinkState). record (step s event).state { links = laid_on o n (laid c n (step s event).state.links) }) (sym e);
        }
        go (Some x) e last =
            let one = veils_keep_steps x n (lay c n s) event (are n x e).0 (next_settled n x e) (elsewhere_so c n n s event (other n x e)) in
            record {
              answer = ap (λ (o : Option LinkState). (step (record s { links = laid_on o n (laid c n s.links) }) event).answer) e
                  ∙ one.answer ∙ last.answer;
              state = ap (λ (o : Option LinkState). (step (record s { links = laid_on o n (laid c n s.links) }) event).state) e
                  ∙ one.state
                  ∙ ap (veil x n) last.state
                  ∙ ap (λ (o : Option LinkState). record (step s event).state { links = laid_on o n (laid c n (step s event).state.links) }) (sym e);
            }

-- A LINK STAYS as it is, where a step is the same with a veil of itself over it
pub link_stays : (l : ℕ) (s : State) (event : Event) (x : LinkState) → slice_get s.links l ≡ Some x
    → IsAlike x l (step (veil x l s) event) (step s event) → slice_get (step s event).state.links l ≡ Some x
link_stays l s event x there one =
    let same : veil x l s ≡ s = ap (λ (ls : List LinkState). record s { links = ls }) (set_same s.links l x there) in
    let is : (step s event).state ≡ veil x l (step s event).state =
    ap (λ (t : State). (step t event).state) (sym same) ∙ one.state in
    let few : l < length (step s event).state.links =
    let was = within s.links l x there in omega (arith, was, link_count_stays s event) in
    ap (λ (t : State). slice_get t.links l) is ∙ get_set_same (step s event).state.links l x few

-- so a settled link does, but for what brings it up, gives it up, or is an order about it
pub settled_stays : (l : ℕ) (s : State) (event : Event) → is_settled l s ≡ true → IsElsewhere l s event → is_settled l (step s event).state ≡ true
settled_stays l s event settled other = go (slice_get s.links l) refl
  where
    not_up : (phase : Phase) → has_phase_settled phase ≡ true → has_phase_up phase ≡ false
    not_up Up e = absurd cc
    not_up Down e = refl
    not_up Settled e = refl

    go : (o : Option LinkState) → slice_get s.links l ≡ o → is_settled l (step s event).state ≡ true
    go None e = absurd (let no : false ≡ true = ap link_is_settled (sym e) ∙ settled in cc)
    go (Some x) e =
        let phase : has_phase_settled x.phase ≡ true = ap link_is_settled (sym e) ∙ settled in
        ap link_is_settled (link_stays l s event x e (veils_keep_steps x l s event (not_up x.phase phase) settled other)) ∙ phase

-- AS IT'S SEEN
pub cover_settled : (settings : Settings) (is : Cover) (x : LinkState) → cover_of settings is ≡ Some x
    → (is_covered is ≡ true) × ((x ≡ dormant settings) ⊎ (x ≡ closed settings))
cover_settled settings awaited x e = (refl, inl (let is : dormant settings ≡ x = cc in sym is))
cover_settled settings missed x e = (refl, inr (let is : closed settings ≡ x = cc in sym is))
cover_settled settings inside x e = absurd cc

cover_not_up : (settings : Settings) (x : LinkState) → (x ≡ dormant settings) ⊎ (x ≡ closed settings) → has_phase_up x.phase ≡ false
cover_not_up settings x (inl is) = ap (λ (y : LinkState). has_phase_up y.phase) is
cover_not_up settings x (inr is) = ap (λ (y : LinkState). has_phase_up y.phase) is

abbrev pub Fits : (ℕ → Cover) → State → Type 0
Fits told s = (l : ℕ) → is_covered (told l) ≡ true → is_settled l s ≡ true

module _ (told : ℕ → Cover) (s : State) (fits : Fits told s) where
  abbrev covers : ℕ → Option LinkState
  covers link = cover_of s.settings (told link)

  pub are_veils : AreVeils covers s
  are_veils l x e =
      let is = cover_settled s.settings (told l) x e in
      (cover_not_up s.settings x is.1, fits l is.0)

  pub seen_up : (l : ℕ) → is_up l (seen_under told s) ≡ is_up l s
  seen_up l = laid_up covers s are_veils s.settings.links l

  pub seen_sound : IsSound s → IsSound (seen_under told s)
  seen_sound sound = laid_sound covers s are_veils (λ l x e. (cover_settled s.settings (told l) x e).1) sound s.settings.links

  pub seen_target : target (seen_under told s).links ≡ target s.links
  seen_target = laid_target covers s are_veils s.settings.links

  pub seen_left : (l : ℕ) (link : LinkState) → told l ≡ inside → left_by false l link (seen_under told s) ≡ seen_under told (left_by false l link s)
  seen_left l link off = laid_left covers s are_veils l link (ap (cover_of s.settings) off) s.settings.links

  module _ (event : Event) (other : (l : ℕ) → is_covered (told l) ≡ true → IsElsewhere l s event) where
    alike : Alike covers s are_veils event (λ l x e. other l (cover_settled s.settings (told l) x e).0) s.settings.links
    alike = laid_alike covers s are_veils event (λ l x e. other l (cover_settled s.settings (told l) x e).0) s.settings.links

    pub seen_answer : (step (seen_under told s) event).answer ≡ (step s event).answer
    seen_answer = alike.answer

    pub seen_state : (step (seen_under told s) event).state ≡ seen_under told (step s event).state
    seen_state = alike.state
        ∙ ap (λ (settings : Settings). lay (λ link. cover_of settings (told link)) settings.links (step s event).state)
        (sym (settings_stay s event))

    pub still_fits : Fits told (step s event).state
    still_fits l e = settled_stays l s event (fits l e) (other l e)

pub seen_length : (told : ℕ → Cover) (s : State) → length (seen_under told s).links ≡ length s.links
seen_length told s = laid_length (λ link. cover_of s.settings (told link)) s.settings.links s.links

-- an event that is the same under the veils
pub record SameUnder (told : ℕ → Cover) (s : State) (event : Event) : Type 0 where
  pub answer : (step (seen_under told s) event).answer ≡ (step s event).answer
  pub state : (step (seen_under told s) event).state ≡ seen_under told (step s event).state
  pub fits : Fits told (step s event).state

pub same_under : (told : ℕ → Cover) (s : State) → Fits told s → (event : Event) → ((l : ℕ) → is_covered (told l) ≡ true → IsElsewhere l s event) → SameUnder told s event
same_under told s fits event other = record {
  answer = seen_answer told s fits event other;
  state = seen_state told s fits event other;
  fits = still_fits told s fits event other;
}

pub seen_off : (told : ℕ → Cover) (s : State) (l : ℕ) → told l ≡ inside → slice_get (seen_under told s).links l ≡ slice_get s.links l
seen_off told s l e = laid_off (λ link. cover_of s.settings (told link)) s.settings.links l s.links (ap (cover_of s.settings) e)

-- one more link has a veil
pub seen_more : (told more : ℕ → Cover) (s : State) (k : ℕ) (is : Cover) (x : LinkState) → told k ≡ inside → more k ≡ is → cover_of s.settings is ≡ Some x
    → ((l : ℕ) → (l == k) ≡ false → more l ≡ told l)
    → k < s.settings.links → seen_under more s ≡ veil x k (seen_under told s)
seen_more told more s k is x off on by same few = ap (λ (ls : List LinkState). record s { links = ls })
    (laid_more (λ link. cover_of s.settings (told link)) (λ link. cover_of s.settings (more link)) k x
    (ap (cover_of s.settings) off) (ap (cover_of s.settings) on ∙ by) (λ l d. ap (cover_of s.settings) (same l d)) s.settings.links s.links few)

pub seen_same : (told more : ℕ → Cover) (s : State) → ((l : ℕ) → more l ≡ told l) → seen_under more s ≡ seen_under told s
seen_same told more s same = ap (λ (ls : List LinkState). record s { links = ls })
    (laid_same (λ link. cover_of s.settings (told link)) (λ link. cover_of s.settings (more link)) s.settings.links s.links
    (λ l few. ap (cover_of s.settings) (same l)))
