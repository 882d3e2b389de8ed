-- A UNIT IS HEARD UNDER VEILS: where it isn't the set's (`unheard`), or its body isn't accepted, as a copy that is sent again
-- (`unaccepted_same`), it's the same, whatever it brings.
use Rattle.std.proofs.Common.{refl, ◌≡◌, ◌∙◌, ap, sym, subst, ℕ, zero, suc, true, false, slice_get, Option, Some, None}
use Rattle.l2_units.specs.declared.unit.Unit.{Unit as SignalUnit}
use Rattle.set_events.specs.declared.event.Event.TheVariants.{Heard as HeardEvent}
use Rattle.set_events.specs.declared.answer.Answer.TheVariants.{Refused}
use Rattle.set_events.specs.declared.answer.Refusal.TheVariants.{Nothing}
use Rattle.set_model.specs.declared.phase.Phase.TheVariants.{Up}
use Rattle.set_model.specs.Sound.{IsSound}
use Rattle.set_model.specs.State.{LinkState, State, Settings, has_phase_settled, is_settled, link_is_settled}
use Rattle.set_model.specs.Step.{Outcome, refused, brought, part_in, controls, is_heard, step}
use Rattle.set_model.proofs.Walk.{IsAt}
use Rattle.pair_model.proofs.Pairs.{settings_stay}
use Rattle.pair_model.proofs.Rising.{settled_at}
use Rattle.pair_rises.specs.Rises.{Cover, inside, awaited, missed, is_covered, cover_of, laid_on, laid, lay, seen_under}
use Rattle.pair_rises.proofs.Late.{unaccepted}
use Rattle.pair_rises.proofs.Veils.{link_stays, AreVeils, Fits, SameUnder, are_veils, cover_settled, next_settled, laid_sound, laid_off, seen_off}
use Rattle.set_veiled.specs.Veil.{veil}

module _ (told : ℕ → Cover) (s : State) (fits : Fits told s) (k : ℕ) (link : LinkState) (at : IsAt k link Up s) (unit : SignalUnit) where
  -- a link that is up has no veil
  k_inside : told k ≡ inside
  k_inside = go (told k) refl
    where
      not_up : is_settled k s ≡ true → ⊥
      not_up e = let no : true ≡ false = sym e ∙ ap link_is_settled at.there ∙ ap has_phase_settled at.phase_is in cc

      go : (c : Cover) → told k ≡ c → c ≡ inside
      go inside e = refl
      go awaited e = absurd (not_up (fits k (ap is_covered e)))
      go missed e = absurd (not_up (fits k (ap is_covered e)))

  pub k_is : told k ≡ inside
  k_is = let is = k_inside in is

  seen_there : slice_get (seen_under told s).links k ≡ Some link
  seen_there = seen_off told s k k_is ∙ at.there

  refused_here : is_heard s.settings.profile unit ≡ false → step s (HeardEvent k unit) ≡ refused s Nothing
  unfolding step
  refused_here unfit = rw (at.there, at.phase_is, unfit) refl

  refused_seen : is_heard s.settings.profile unit ≡ false → step (seen_under told s) (HeardEvent k unit) ≡ refused (seen_under told s) Nothing
  unfolding step
  refused_seen unfit = rw (seen_there, at.phase_is, unfit) refl

  pub answer_refused : is_heard s.settings.profile unit ≡ false → (step s (HeardEvent k unit)).answer ≡ Refused Nothing
  answer_refused unfit = ap (λ (o : Outcome). o.answer) (refused_here unfit)

  -- else the control takes its part, and what is accepted goes where it belongs
  pub controls_here : is_heard s.settings.profile unit ≡ true → step s (HeardEvent k unit) ≡ controls unit k s link
  unfolding step
  controls_here fit = rw (at.there, at.phase_is, fit) refl

  pub unheard : is_heard s.settings.profile unit ≡ false → SameUnder told s (HeardEvent k unit)
  unheard unfit = record {
    answer = ap (λ (o : Outcome). o.answer) (refused_seen unfit) ∙ sym (ap (λ (o : Outcome). o.answer) (refused_here unfit));
    state = ap (λ (o : Outcome). o.state) (refused_seen unfit) ∙ ap (λ (o : Outcome). seen_under told o.state) (sym (refused_here unfit));
    fits = λ l e. subst (λ (o : Outcome). is_settled l o.state ≡ true) (sym (refused_here unfit)) (fits l e);
  }

  module _ (sound : IsSound s) (heard : is_heard s.settings.profile unit ≡ true) (none : brought (part_in unit k link s).accept unit ≡ None) where
    abbrev covers : ℕ → Option LinkState
    covers l = cover_of s.settings (told l)

    are : AreVeils covers s
    are = are_veils told s fits

    record Alike (n : ℕ) : Type 0 where
      answer : (step (lay covers n s) (HeardEvent k unit)).answer ≡ (step s (HeardEvent k unit)).answer
      state : (step (lay covers n s) (HeardEvent k unit)).state ≡ lay covers n (step s (HeardEvent k unit)).state

    at_under : (n : ℕ) → IsAt k link Up (lay covers n s)
    at_under n = record { there = laid_off covers n k s.links (ap (cover_of s.settings) k_is) ∙ at.there; phase_is = at.phase_is }

    sound_under : (n : ℕ) → IsSound (lay covers n s)
    sound_under n = laid_sound covers s are (λ l x e. (cover_settled s.settings (told l) x e).1) sound n

    alike : (n : ℕ) → Alike n
    alike zero = record { answer = refl; state = refl }
    alike (suc n) = go (covers n) refl (alike n)
      where
        go : (o : Option LinkState) → covers n ≡ o → Alike n → Alike (suc n)
        go None e last = record {
          answer = ap (λ (o : Option LinkState). (step (record s { links = laid_on o n (laid covers n s.links) }) (HeardEvent k unit)).answer) e ∙ last.answer;
          state = ap (λ (o : Option LinkState). (step (record s { links = laid_on o n (laid covers n s.links) }) (HeardEvent k unit)).state) e
              ∙ last.state
              ∙ ap (λ (o : Option LinkState). record (step s (HeardEvent k unit)).state { links = laid_on o n (laid covers n (step s (HeardEvent k unit)).state.links) }) (sym e);
        }
        go (Some x) e last =
            let was = settled_at n (lay covers n s) (next_settled covers s are n x e) in
            let one = unaccepted k n (lay covers n s) (sound_under n) was.0 was.1 link (at_under n) unit heard x none in
            record {
              answer = ap (λ (o : Option LinkState). (step (record s { links = laid_on o n (laid covers n s.links) }) (HeardEvent k unit)).answer) e
                  ∙ one.answer ∙ last.answer;
              state = ap (λ (o : Option LinkState). (step (record s { links = laid_on o n (laid covers n s.links) }) (HeardEvent k unit)).state) e
                  ∙ one.state
                  ∙ ap (veil x n) last.state
                  ∙ ap (λ (o : Option LinkState). record (step s (HeardEvent k unit)).state { links = laid_on o n (laid covers n (step s (HeardEvent k unit)).state.links) }) (sym e);
            }

    unaccepted_answer : (step (seen_under told s) (HeardEvent k unit)).answer ≡ (step s (HeardEvent k unit)).answer
    unaccepted_answer = (alike s.settings.links).answer

    unaccepted_state : (step (seen_under told s) (HeardEvent k unit)).state ≡ seen_under told (step s (HeardEvent k unit)).state
    unaccepted_state = (alike s.settings.links).state
        ∙ ap (λ (settings : Settings). lay (λ l. cover_of settings (told l)) settings.links (step s (HeardEvent k unit)).state)
        (sym (settings_stay s (HeardEvent k unit)))

    -- a settled link stays
    settled_then : (l : ℕ) → is_settled l s ≡ true → is_settled l (step s (HeardEvent k unit)).state ≡ true
    settled_then l e =
        let was = settled_at l s e in
        let one = unaccepted k l s sound was.0 was.1 link at unit heard was.0 none in
        ap link_is_settled (link_stays l s (HeardEvent k unit) was.0 was.1.there one) ∙ ap has_phase_settled was.1.phase_is

    pub unaccepted_same : SameUnder told s (HeardEvent k unit)
    unaccepted_same = record { answer = unaccepted_answer; state = unaccepted_state; fits = λ l e. settled_then l (fits l e) }
