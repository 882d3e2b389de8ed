-- A LINK SETTLES WITHOUT A NUMBER, and each stream: of those that are lost each stands given up, and the rest goes
-- along (`blind_flow`). It's taken in the two steps of pair_changeover's Blind.antt: what was sent is given up
-- (Given.antt), and then the link settles by the number of the message last acknowledged (Settled.antt). What is lost
-- by it was an unacknowledged row, which turned and then stays as it is (`stands_given_up`); that each such row turns
-- is the one induction, on the rows (`placed_turned`). Hearing.antt uses it.
use Rattle.std.proofs.Math.Nat.{le_refl}
use Rattle.std.proofs.lemmas.Bool.Decides.{nat_tests}
use Rattle.std.proofs.Common.{arith, zero, suc, ◌≤◌, length, refl, ◌≡◌, ◌∙◌, sym, subst, ℕ, ◌+◌, ◌-◌, Bool, true, List, [], ◌∷◌, drop, slice_get, Some, ◌⊎◌, inl, inr}
use Rattle.set_events.specs.declared.answer.Fate.{Fate}
use Rattle.set_model.specs.declared.phase.Phase.TheVariants.{Down}
use Rattle.set_model.specs.declared.reached.Reached.TheVariants.{Upto, Unknown}
use Rattle.set_model.specs.Changeover.{fate_on, settled}
use Rattle.set_model.specs.Rows.{Row, is_on, is_unacked, all_with, turned, place, row_of, unack}
use Rattle.set_model.specs.Sound.{IsSound}
use Rattle.set_model.specs.State.{given, LinkState, State, target}
use Rattle.set_model.proofs.Rows.{row_in_filter}
use Rattle.set_model.proofs.Walk.{IsAt}
use Rattle.pair_model.specs.Run.{Message, messages}
use Rattle.pair_changeover.specs.Pending.{acked_on, accepted_on}
use Rattle.pair_changeover.proofs.Blind as blind
use Rattle.pair_changeover.proofs.Obeying.{settles_accepted}
use Rattle.pair_changeover.proofs.Passing.{IsReached}
use Rattle.pair_changeover.proofs.Reaching.{row_among, filtered, get_rest}
use Rattle.pair_changeover.proofs.Staying.{moved_stay}
use Rattle.pair_changeover.proofs.Views.{view, Among, In}
use Rattle.pair_streams.proofs.Codes.{Flows, far_in}
use Rattle.pair_streams.proofs.Given.{LostMore, gone_then, gives_up_flow}
use Rattle.pair_streams.proofs.Given as given
use Rattle.pair_streams.proofs.Known.{given_up}
use Rattle.pair_streams.proofs.Settled.{was_in, settles_flow}

-- a row that changes has the fate then
placed_turned : (test : Fate → Bool) (fate : Fate) (number n : ℕ) (rows : List Row) (row : Row) → length rows ≤ n
    → row_of number rows ≡ Some row → test row.fate ≡ true → place number (turned test fate n rows) ≡ Some fate
placed_turned test fate number zero [] row few e t = absurd cc
placed_turned test fate number zero (x ∷ rows) row few e t = absurd (omega (arith, few))
placed_turned test fate number (suc n) [] row few e t = absurd cc
placed_turned test fate number (suc n) (x ∷ rows) row few e t =
    grind (arith, nat_tests, placed_turned test fate number n rows row, placed_turned test fate number (suc n) rows row)

module _ (l : ℕ) (link : LinkState) (s f : State) (sound : IsSound s) (at : IsAt l link Down s) where
  abbrev after : State
  after = settled Unknown l link s

  abbrev mid : State
  mid = blind.given_up l link s f sound at

  abbrev number : ℕ
  number = blind.last_number l link s f sound at

  mid_sound : IsSound mid
  mid_sound = blind.given_up_sound l link s f sound at

  mid_at : IsAt l link Down mid
  mid_at = blind.given_up_at l link s f sound at

  mid_reached : IsReached number l link mid f
  mid_reached = blind.blind_reached l link s f sound at

  after_is : after ≡ settled (Upto number) l link mid
  after_is = blind.blind_is l link s f sound at

  -- what was sent stands given up
  stands_given_up : (count : ℕ) (m : Message) → Among m (messages (drop count (unack l s.rows))) → place m.number after.rows ≡ Some given_up
  stands_given_up count m a =
      let w = row_among m (drop count (unack l s.rows)) a in
      let there : slice_get (unack l s.rows) (count + w.place) ≡ Some w.row = sym (get_rest count w.place (unack l s.rows)) ∙ w.there in
      let row_is = row_in_filter (given s) (λ (r : Row). is_unacked l r.fate) s.rows (count + w.place) m.number w.row sound.numbered there (sym w.number_is) in
      let unacked = filtered (λ (r : Row). is_unacked l r.fate) s.rows (count + w.place) w.row there in
      moved_stay given_up (is_on l) refl (given mid) (all_with (fate_on (target s.links))) mid.rows mid_sound.numbered m.number
      (placed_turned (is_unacked l) given_up m.number (length s.rows) s.rows w.row (le_refl (length s.rows)) row_is unacked)

  pub blind_was_in : (m : Message) → In m (view after f) → In m (view s f)
  blind_was_in m i = given.was_in l link s f sound at m
      (was_in number l link mid f mid_sound mid_at mid_reached m (subst (λ (t : State). In m (view t f)) after_is i))

  pub record LostThen (offered got lost : ℕ → List Message) : Type 0 where
    pub lost_then : ℕ → List Message
    pub flows : Flows after f offered got lost_then
    pub of : (stream : ℕ) (m : Message) → Among m (lost_then stream) → Among m (lost stream) ⊎ (place m.number after.rows ≡ Some given_up)

  pub blind_flow : (offered got lost : ℕ → List Message) → Flows s f offered got lost → LostThen offered got lost
  blind_flow offered got lost w = record {
    lost_then = more.lost_then;
    flows = subst (λ (t : State). Flows t f offered got more.lost_then) (sym after_is)
        (settles_flow number l link mid f mid_sound mid_at mid_reached offered got more.lost_then more.flows
        (λ c m i a. far_in mid (settled (Upto number) l link mid) f (settles_accepted number l link mid f mid_sound mid_at mid_reached) m i));
    of = λ stream m a. go stream m (more.of stream m a);
  }
    where
      more : LostMore s mid f offered got lost (gone_then l link s f sound at)
      more = gives_up_flow l link s f sound at offered got lost w (λ c m i a. i)

      go : (stream : ℕ) (m : Message) → Among m (lost stream) ⊎ Among m (gone_then l link s f sound at)
          → Among m (lost stream) ⊎ (place m.number after.rows ≡ Some given_up)
      go stream m (inl b) = inl b
      go stream m (inr b) = inr (stands_given_up (accepted_on l f - acked_on l s) m b)
