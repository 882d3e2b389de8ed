-- AN ORDER THAT NEVER WAS SENT is taken back: what `timed` tells of where the order stands (`not_timed`, `by_time`), and
-- a link that isn't there (`missing`). Case by case. Used by settle_by_time (src/step.rt).
use Rattle.std.proofs.Common.{refl, arith, ◌≡◌, ◌||◌, ℕ, true, Option, Some, None, slice_get, option_map}
use Rattle.set_model.specs.Rows.{Fate, Waiting, Parked, waits, is_parked}
use Rattle.set_model.specs.declared.phase.Phase.{Phase}
use Rattle.set_model.specs.declared.phase.Phase.TheVariants.{Up, Down, Settled}
use Rattle.set_model.specs.State.{LinkState, State}
use Rattle.set_model.specs.Step.{Answer, NoSuchLink, Nothing, Outcome, Refused, gives_up, on_link, over_by_time, refused, timed, times_out, with_known}
use Rattle.set_changeover.specs.Agreement.{Agrees}
use Rattle.set_changeover.specs.declared.parts.Parts.{Parts}
use Rattle.set_changeover.specs.Parts.{Gives, kept_of, unsent_at}

pub not_timed : (o : Option Fate) (n : ℕ) (s : State) (link : LinkState) → unsent_at o ≡ None → timed o n s link ≡ refused s Nothing
not_timed o n s link e = grind arith

pub record ByTime (o : Option Fate) (from : Fate) (n : ℕ) (s : State) (link : LinkState) : Type 0 where
  pub there : o ≡ Some from
  pub unsent : (waits from || is_parked from) ≡ true
  pub outcome : timed o n s link ≡ over_by_time from n s link

pub by_time : (o : Option Fate) (from : Fate) (n : ℕ) (s : State) (link : LinkState) → unsent_at o ≡ Some from → ByTime o from n s link
by_time (Some (Waiting to)) from n s link e = let is : Waiting to ≡ from = cc in rw (← is) (record { there = refl; unsent = refl; outcome = refl })
by_time (Some Parked) from n s link e = let is : Parked ≡ from = cc in rw (← is) (record { there = refl; unsent = refl; outcome = refl })
by_time o from n s link e = absurd (grind (arith, e))

pub missing : {A : Type 0} (parts : Parts A) (s : State) (n : ℕ) (f : LinkState → Outcome) (answer : Answer) → Agrees (kept_of parts) s
    → None ≡ option_map (λ (l : LinkState). l.phase) (slice_get parts.links.items n) → answer ≡ Refused NoSuchLink → Gives (on_link n s f) answer parts
missing parts s n f answer a none e = go (slice_get s.links n) (rw a.stands.links at none)
  where
    go : (o : Option LinkState) → None ≡ option_map (λ (l : LinkState). l.phase) o → Gives (with_known o s f) answer parts
    go None h = record { answer_is = e; stands = a.stands }
    go (Some link) h = absurd cc

-- a link that is up, or settled, isn't left
pub unleft : {A : Type 0} (parts : Parts A) (s : State) (n : ℕ) (link : LinkState) (phase : Phase) (answer : Answer) → (phase ≡ Down → ⊥) → Agrees (kept_of parts) s → answer ≡ Refused Nothing
    → Gives (gives_up n s link phase) answer parts × Gives (times_out n s link phase) answer parts
unleft parts s n link Up answer other a e = (record { answer_is = e; stands = a.stands }, record { answer_is = e; stands = a.stands })
unleft parts s n link Down answer other a e = absurd (other refl)
unleft parts s n link Settled answer other a e = (record { answer_is = e; stands = a.stands }, record { answer_is = e; stands = a.stands })
