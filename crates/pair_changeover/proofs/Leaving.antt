-- A LINK IS LEFT, or a changeback's messages go home: what stood back turns to other links. `leaves_queues` and
-- `leaves_aside` tell what stands behind each queue then and what is parked, `releases_queues` and `releases_aside` the
-- same where a code is released to a home that is up; `leaves_acts` and `releases_acts` say that no order is made. Both
-- are Turning.antt's change: a link that is up holds nothing, and for one that isn't nothing comes to wait, by
-- soundness; and by a code whose home isn't open nothing stands back (`none_back`). No induction of its own. Used by
-- Keeping.antt and Obeying.antt, and by pair_streams's Turned.antt and Returned.antt.
use Rattle.set_model.proofs.Lists.{found_up}
use Rattle.std.proofs.Common.{refl, ap, ◌∙◌, ◌≡◌, subst, ℕ, ◌==◌, Bool, true, false, List, ◌++◌, slice_get, Option, Some, inl, inr}
use Rattle.std.proofs.lemmas.Bool.{eqb-true}
use Rattle.set_events.specs.declared.answer.Fate.{Fate}
use Rattle.set_events.specs.declared.answer.Fate.TheVariants.{Waiting, Unacked, Acked, Held, Parked, Back, Discarded}
use Rattle.set_route.specs.declared.place.Place.{Place}
use Rattle.set_route.specs.declared.place.Place.TheVariants.{On, Changing, Nowhere}
use Rattle.set_route.specs.Routing.{place_of, home_of}
use Rattle.set_model.specs.declared.phase.Phase.TheVariants.{Up}
use Rattle.set_model.specs.Rows.{Row, stream_of, is_unacked, is_back, is_back_to, was_discarded, stands_back, standing, parked, all_with}
use Rattle.set_model.specs.Sound.{IsSound}
use Rattle.set_model.specs.State.{is_open, given, LinkState, State, is_up, link_is_up, link_is_settled, fate_at}
use Rattle.set_model.specs.Changeover.{out_of_service, left_by, left_link, acknowledged_code}
use Rattle.set_model.proofs.Rows.{moved_same}
use Rattle.set_model.proofs.Places.{code_back, home_back}
use Rattle.set_model.proofs.Staying.{offered_out}
use Rattle.set_model.proofs.SoundBack.{open_not_held, shut_not_waiting, none_back}
use Rattle.set_model.proofs.Walk.{IsAt}
use Rattle.pair_model.specs.Run.{Message}
use Rattle.pair_model.specs.Run.{messages}
use Rattle.pair_changeover.proofs.Changes.{held_open, Acts, stands_still, by_link, held_none}
use Rattle.pair_changeover.proofs.Turning.{gained, turned_rows, IsEither, turned_parked, turned_pending, turned_aside, turned_acts}
use Rattle.pair_changeover.proofs.Table.{joined}
use Rattle.pair_changeover.proofs.Views.{pending, aside, acked_of, acked_on, accepted_of, last_of}

-- what goes from where it stood back isn't discarded by that
pub back_kept : (test : Fate → Bool) → ((f : Fate) → test f ≡ true → stands_back f ≡ true) → (f : Fate) → test f ≡ true → was_discarded f ≡ false
back_kept test back (Waiting l) e = refl
back_kept test back (Unacked l) e = refl
back_kept test back (Acked l) e = refl
back_kept test back (Held l) e = refl
back_kept test back Parked e = refl
back_kept test back (Back code) e = refl
back_kept test back (Discarded cause) e = absurd (let no : false ≡ true = back (Discarded cause) e in cc)

pub place_not_discarded : (place : Place) (s : State) → was_discarded (fate_at place s) ≡ false
place_not_discarded Nowhere s = refl
place_not_discarded (Changing to code via) s = refl
place_not_discarded (On k) s = go (is_open k s) refl
  where
    go : (b : Bool) → is_open k s ≡ b → was_discarded (fate_at (On k) s) ≡ false
    go true e = rw e refl
    go false e = rw e refl

-- LEFT
module _ (blind : Bool) (k : ℕ) (link : LinkState) (s f : State) (sound : IsSound s) (at : IsAt k link Up s) where
  abbrev out : State
  out = out_of_service blind k link s

  abbrev pub left : State
  left = left_by blind k link s

  abbrev pub goes_to : Row → Fate
  goes_to row = fate_at (place_of (stream_of row.body) out.routing) out

  pub unsent : (l : ℕ) (row : Row) → is_unacked l (goes_to row) ≡ false
  unsent l row = offered_out l (place_of (stream_of row.body) out.routing) out

  abbrev pub turns_to : ℕ → List Message
  turns_to l = gained (is_back_to k) goes_to (home_back k) s.rows unsent l

  all : (P : ℕ → Option LinkState → Option LinkState → Type 0) → P k (Some link) (Some (left_link blind (given s) link))
      → ((l : ℕ) (o : Option LinkState) → (k == l) ≡ false → P l o o) → (l : ℕ)
      → P l (slice_get s.links l) (slice_get left.links l)
  all = by_link k link (left_link blind (given s) link) s left at.there refl

  up_less : (l : ℕ) → is_up l left ≡ true → is_up l s ≡ true
  up_less = all (λ n old new. link_is_up new ≡ true → link_is_up old ≡ true) (λ e. absurd cc) (λ n old d e. e)

  either : (l : ℕ) → IsEither (is_back_to k) goes_to (home_back k) s.rows unsent l
  either l = go (is_open l out) refl
    where
      go : (b : Bool) → is_open l out ≡ b → IsEither (is_back_to k) goes_to (home_back k) s.rows unsent l
      go true e = inl (held_none s l sound (up_less l (found_up (slice_get out.links l) e)), λ row. open_not_held out l e (place_of (stream_of row.body) out.routing))
      go false e = inr (λ row. shut_not_waiting out l e (place_of (stream_of row.body) out.routing))

  acked : (l : ℕ) → acked_on l left ≡ acked_on l s
  acked = all (λ n old new. acked_of new ≡ acked_of old) refl (λ n old d. refl)

  pub leaves_queues : (l : ℕ) → pending l left f ≡ pending l s f ++ turns_to l
  leaves_queues = turned_pending (is_back_to k) goes_to s left f (home_back k) unsent refl acked either

  pub leaves_aside : aside left ≡ aside s ++ messages (parked (turned_rows (is_back_to k) goes_to (home_back k) s.rows unsent))
  leaves_aside = turned_aside (is_back_to k) goes_to s left f (home_back k) unsent refl acked either

  pub leaves_acts : Acts s left f
  leaves_acts = turned_acts (is_back_to k) goes_to s left f (home_back k) unsent refl acked either sound.marked sound.backs up_less
      (all (λ n old new. link_is_settled new ≡ true → link_is_settled old ≡ true) (λ e. absurd cc) (λ n old d e. e))
      (all (λ n old new. accepted_of new ≡ accepted_of old) refl (λ n old d. refl))
      (all (λ n old new. last_of new ≡ last_of old) refl (λ n old d. refl))

  pub leaves_discards : standing was_discarded left.rows ≡ standing was_discarded s.rows
  leaves_discards = moved_same (is_back_to k) was_discarded goes_to s.rows
      (λ row. place_not_discarded (place_of (stream_of row.body) out.routing) out)
      (back_kept (is_back_to k) (home_back k))

-- GONE HOME
module _ (code : ℕ) (s f : State) (sound : IsSound s) where
  abbrev pub home : ℕ
  home = home_of code

  abbrev pub gone : State
  gone = acknowledged_code code s

  pub unsent_home : (l : ℕ) (row : Row) → is_unacked l (all_with (Waiting home) row) ≡ false
  unsent_home l row = refl

  abbrev pub comes_home : ℕ → List Message
  comes_home l = gained (is_back code) (all_with (Waiting home)) (code_back code) s.rows unsent_home l

  either_home : is_open home s ≡ true → (l : ℕ) → IsEither (is_back code) (all_with (Waiting home)) (code_back code) s.rows unsent_home l
  either_home o l = go (home == l) refl
    where
      go : (b : Bool) → (home == l) ≡ b → IsEither (is_back code) (all_with (Waiting home)) (code_back code) s.rows unsent_home l
      go true e = inl (held_open s l sound (subst (λ (n : ℕ). is_open n s ≡ true) (eqb-true home l e) o), λ row. refl)
      go false e = inr (λ row. e)

  pub releases_queues : is_open home s ≡ true → (l : ℕ) → pending l gone f ≡ pending l s f ++ comes_home l
  releases_queues o = turned_pending (is_back code) (all_with (Waiting home)) s gone f (code_back code) unsent_home refl (λ l. refl) (either_home o)

  pub releases_aside : aside gone ≡ aside s ++ messages (parked (turned_rows (is_back code) (all_with (Waiting home)) (code_back code) s.rows unsent_home))
  releases_aside = ap messages (turned_parked (is_back code) (all_with (Waiting home)) (code_back code) s.rows
      unsent_home) ∙ joined (parked s.rows)
      (parked (turned_rows (is_back code) (all_with (Waiting home)) (code_back code) s.rows unsent_home))

  pub releases_acts : Acts s gone f
  releases_acts = go (is_open home s) refl
    where
      go : (b : Bool) → is_open home s ≡ b → Acts s gone f
      go true o = turned_acts (is_back code) (all_with (Waiting home)) s gone f (code_back code) unsent_home refl
          (λ l. refl) (either_home o) sound.marked sound.backs (λ l e. e) (λ l e. e) (λ l. refl) (λ l. refl)
      go false shut = stands_still s gone f (none_back code s sound shut) refl

  pub releases_discards : standing was_discarded gone.rows ≡ standing was_discarded s.rows
  releases_discards = moved_same (is_back code) was_discarded (all_with (Waiting home)) s.rows (λ row. refl) (back_kept (is_back code) (code_back code))
