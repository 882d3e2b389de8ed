-- A LINK SETTLES WITHOUT A NUMBER, in an emergency: what was sent on it and isn't acknowledged is discarded, and then
-- it settles as by the number of the message last acknowledged (`blind_is`). By that number nothing more is reached
-- (`blind_reached`), so Passing.antt's lemma of settling serves once more, and `blind_both` says that what holds of the
-- orders under way is kept. `own_rest`, `others_stay` and `aside_stays` tell the queues in between, by equations on
-- lists and without induction. Obeying.antt uses `blind_both` and `blind_accepted`; pair_streams's Given.antt and
-- Blindly.antt go the same two steps.
use Rattle.l2_window.specs.Window.{fsn_count, fsn_before_first, most_unacked}
use Rattle.l2_window.proofs.Numbers.{distance_is}
use Rattle.std.proofs.Common.{length, refl, arith, ◌≡◌, ◌∙◌, ap, sym, subst, ℕ, ◌==◌, ◌+◌, ◌-◌, ◌%◌, Bool, true, false, List, [], ◌∷◌, ◌++◌, drop, append_assoc, inl, inr}
use Rattle.std.proofs.lemmas.Bool.{eqb-true}
use Rattle.std.proofs.lemmas.Bool.Decides.{nat_tests}
use Rattle.set_events.specs.declared.answer.Fate.TheVariants.{Discarded}
use Rattle.set_events.specs.declared.answer.DiscardCause.TheVariants.{Emergency}
use Rattle.set_model.specs.declared.phase.Phase.TheVariants.{Down}
use Rattle.set_model.specs.declared.reached.Reached.TheVariants.{Upto, Unknown}
use Rattle.set_model.specs.Rows.{Row, is_unacked, is_waiting, unack, wait, held, changed}
use Rattle.set_model.specs.Sound.{IsSound}
use Rattle.set_model.specs.State.{LinkState, State, is_up}
use Rattle.set_model.specs.Changeover.{reached_by, is_reasonable, settled, settled_link}
use Rattle.set_model.proofs.Events.{ChangesOn, given_up as given_up_of}
use Rattle.set_model.proofs.Lists.{set_same}
use Rattle.set_model.proofs.Rows.{changed_left, turned_same}
use Rattle.set_model.proofs.SoundLink.{gives_up}
use Rattle.set_model.proofs.Walk.{IsAt}
use Rattle.pair_model.specs.Run.{Message, messages}
use Rattle.pair_changeover.proofs.Changes.{Both, Acts, acts, by_link, far_same, acts_far_none}
use Rattle.pair_changeover.proofs.Passing.{IsReached, settles_acts}
use Rattle.pair_changeover.proofs.Table.{drop_none, queue_untouched}
use Rattle.pair_changeover.proofs.Views.{view, pending, aside, queue, acked_on, accepted_of, accepted_on, Among, stands_aside, NoneAbout, stayed, was_in}

-- the rest of a queue
among_rest : (n : ℕ) (xs ys : List Row) (m : Message) → Among m (messages ys) → Among m (messages (drop n xs ++ ys))
among_rest n xs ys m a = go (drop n xs)
  where
    go : (zs : List Row) → Among m (messages (zs ++ ys))
    go [] = a
    go (z ∷ zs) = inr (go zs)

module _ (n : ℕ) (link : LinkState) (s f : State) (sound : IsSound s) (at : IsAt n link Down s) where
  abbrev pub given_up : State
  given_up = record s { rows = changed (is_unacked n) (Discarded Emergency) s.rows }

  does : ChangesOn n s.rows given_up.rows
  does = given_up_of n true Emergency s.rows

  pub none_sent : unack n given_up.rows ≡ []
  none_sent = changed_left (is_unacked n) (Discarded Emergency) refl s.rows

  pub given_up_at : IsAt n link Down given_up
  given_up_at = record { there = at.there; phase_is = at.phase_is }

  pub given_up_sound : IsSound given_up
  given_up_sound = gives_up (is_unacked n) Emergency n link s does at sound

  -- of its queue what wasn't sent is left, and other queues stay
  pub rest_is : (count : ℕ) → queue count n given_up.rows ≡ messages (wait n s.rows ++ held n s.rows)
  rest_is count = rw (
    none_sent,
    turned_same (is_unacked n) (is_waiting n) (Discarded Emergency) refl (λ f e. grind arith) (length s.rows)
        s.rows,
    does.held_same,
    drop_none {X = Row} count,
  ) refl

  pub own_rest : pending n given_up f ≡ messages (wait n s.rows ++ held n s.rows)
  own_rest = rest_is (accepted_on n f - acked_on n s)

  pub others_stay : (l : ℕ) → (n == l) ≡ false → pending l given_up f ≡ pending l s f
  others_stay l d = queue_untouched (accepted_on l f - acked_on l s) l s.rows given_up.rows (does.others l d)

  pub aside_stays : aside given_up ≡ aside s
  aside_stays = ap messages does.parked_same

  came : (l : ℕ) (m : Message) → Among m (pending l given_up f) → Among m (pending l s f)
  came l m a = go (n == l) refl
    where
      go : (b : Bool) → (n == l) ≡ b → Among m (pending l s f)
      go true e = subst (λ (k : ℕ). Among m (pending k s f)) (eqb-true n l e)
          (subst (λ (rows : List Row). Among m (messages rows))
          (sym (append_assoc (drop (accepted_on n f - acked_on n s) (unack n s.rows)) (wait n s.rows)
          (held n s.rows)))
          (among_rest (accepted_on n f - acked_on n s) (unack n s.rows) (wait n s.rows ++ held n s.rows) m
          (subst (Among m) own_rest (subst (λ (k : ℕ). Among m (pending k given_up f)) (sym (eqb-true n l e)) a))))
      go false d = subst (Among m) (others_stay l d) a

  pub gives_up_acts : Acts s given_up f
  gives_up_acts = record {
    came = λ l m a. stayed (came l m a);
    came_aside = λ m a. was_in (stands_aside (subst (Among m) aside_stays a));
    up_less = λ l e. e;
    settled_more = λ l e. inl e;
    accepted = λ l. inl refl;
    far_came = far_same s given_up f (λ l. refl);
  }

  -- THE NUMBER of the message last acknowledged
  abbrev pub last_number : ℕ
  last_number = (link.acked + fsn_before_first link.profile) % fsn_count link.profile

  reached_none : reached_by last_number n link given_up.rows ≡ 0
  reached_none = let e = distance_is link.profile last_number link.acked link.acked (most_unacked link.profile) refl
      (omega arith) (omega arith) (omega arith) in omega (arith, e)

  reasonable : is_reasonable last_number n link given_up.rows ≡ true
  reasonable = let e = reached_none in grind (arith, nat_tests, e)

  pub blind_reached : IsReached last_number n link given_up f
  blind_reached = record {
    reasonable = reasonable;
    left = own_rest ∙ sym (rest_is (reached_by last_number n link given_up.rows));
  }

  pub blind_is : settled Unknown n link s ≡ settled (Upto last_number) n link given_up
  blind_is = let no_more : link.acked + 0 ≡ link.acked = omega arith in rw (reasonable, reached_none, no_more, set_same s.links n link at.there) refl

  pub blind_acts : {emergencies : Bool} → Both emergencies s f → is_up n f ≡ false → NoneAbout n (view f s) → Acts given_up (settled Unknown n link s) f
  blind_acts o far_down none = subst (λ (t : State). Acts given_up t f) (sym blind_is)
      (settles_acts last_number n link given_up f given_up_sound given_up_at blind_reached
      (acts s given_up f gives_up_acts o) far_down (acts_far_none s given_up f gives_up_acts n none))

  pub blind_both : {emergencies : Bool} → Both emergencies s f → is_up n f ≡ false → NoneAbout n (view f s) → Both emergencies (settled Unknown n link s) f
  blind_both o far_down none = acts given_up (settled Unknown n link s) f (blind_acts o far_down none) (acts s given_up f gives_up_acts o)

  pub blind_accepted : (l : ℕ) → accepted_on l (settled Unknown n link s) ≡ accepted_on l s
  blind_accepted = by_link n link (settled_link true link) s (settled Unknown n link s) at.there refl
      (λ l old new. accepted_of new ≡ accepted_of old) refl (λ l old d. refl)
