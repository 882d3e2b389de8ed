-- WHAT SETTLES AS IT'S SEEN SETTLES SO AS IT IS: a link that wasn't settled has no veil, and what it diverts is told by rows
-- and by the links that are up (`bare_settles`).
use Rattle.std.proofs.Common.{refl, ◌≡◌, ◌∙◌, ap, sym, subst, ℕ, Bool, true, false, List, ◌++◌, length, drop, slice_get, Option, Some, None, cond}
use Rattle.set_model.specs.Changeover.{left_by}
use Rattle.set_model.specs.Rows.{Row, wait, held}
use Rattle.set_model.specs.State.{LinkState, State, has_phase_up, is_settled, link_is_settled, target}
use Rattle.pair_model.specs.Run.{Message, Past, messages}
use Rattle.pair_changeover.specs.Diverted.{Diverts, DivertsFrom, ahead_of_users, as_left, answer_on, queue_for}
use Rattle.pair_changeover.proofs.Whole.{SettlesSo}
use Rattle.pair_rises.specs.Rises.{Cover, inside, awaited, missed, is_covered, seen_under}
use Rattle.pair_rises.proofs.Veils.{Fits, seen_off, seen_target, seen_left}

-- a link that isn't settled has no veil
pub unsettled_inside : (told : ℕ → Cover) (s : State) → Fits told s → (l : ℕ) → is_settled l s ≡ false → told l ≡ inside
unsettled_inside told s fits l off = go (told l) refl
  where
    covered : is_covered (told l) ≡ true → told l ≡ inside
    covered on = absurd (let no : false ≡ true = sym off ∙ fits l on in cc)

    go : (c : Cover) → told l ≡ c → told l ≡ inside
    go inside e = e
    go awaited e = covered (ap is_covered e)
    go missed e = covered (ap is_covered e)

-- as it's left
module _ (told : ℕ → Cover) (s : State) (fits : Fits told s) (l : ℕ) (off : told l ≡ inside) where
  left_rows : (o : Option LinkState) → (as_left l o (seen_under told s)).rows ≡ (as_left l o s).rows
  left_rows None = refl
  left_rows (Some state) = go (has_phase_up state.phase)
    where
      go : (b : Bool) → (cond b (left_by false l state (seen_under told s)) (seen_under told s)).rows ≡ (cond b (left_by false l state s) s).rows
      go true = ap (λ (t : State). t.rows) (seen_left told s fits l state off)
      go false = refl

  answer_same : (o : Option LinkState) → answer_on l o (seen_under told s) ≡ answer_on l o s
  answer_same None = refl
  answer_same (Some state) = refl

module _ (told : ℕ → Cover) (s t : State) (fits : Fits told s) (fits_then : Fits told t) (near far : Past) where
  from_seen : (l : ℕ) → told l ≡ inside → (o : Option LinkState)
      → DivertsFrom l (near.sent l) (far.taken l) (seen_under told s) (as_left l o (seen_under told s)) (seen_under told t)
      → slice_get s.links l ≡ o → DivertsFrom l (near.sent l) (far.taken l) s (as_left l o s) t
  from_seen l off o d there = record {
    acked = d.acked;
    moved = ap (λ (to : Option ℕ). messages (queue_for to t.rows)) (sym (seen_target told t fits_then))
        ∙ d.moved
        ∙ ap (λ (to : Option ℕ). whole to (as_left l o (seen_under told s)).rows (answer_on l (slice_get (seen_under told s).links l) (seen_under told s))) (seen_target told t fits_then)
        ∙ ap (λ (rows : List Row). whole (target t.links) rows (answer_on l (slice_get (seen_under told s).links l) (seen_under told s))) (left_rows told s fits l off o)
        ∙ ap (whole (target t.links) (as_left l o s).rows)
        (ap (λ (p : Option LinkState). answer_on l p (seen_under told s)) (seen_off told s l off) ∙ answer_same told s fits l off (slice_get s.links l));
  }
    where
      whole : Option ℕ → List Row → List Message → List Message
      whole to rows answer =
          ahead_of_users answer (messages (queue_for to rows)) ++ drop (length (far.taken l)) (near.sent l) ++ messages (wait l rows) ++ messages (held l rows)

  pub bare_settles : SettlesSo near far (seen_under told s) (seen_under told t) → SettlesSo near far s t
  bare_settles so l before now =
      let off = unsettled_inside told s fits l before in
      let same = seen_off told s l off in
      let d : Diverts l (near.sent l) (far.taken l) (seen_under told s) (seen_under told t) =
      so l (ap link_is_settled same ∙ before) (ap link_is_settled (seen_off told t l off) ∙ now) in
      from_seen l off (slice_get s.links l)
      (subst (λ (o : Option LinkState). DivertsFrom l (near.sent l) (far.taken l) (seen_under told s) (as_left l o (seen_under told s)) (seen_under told t)) same d) refl
