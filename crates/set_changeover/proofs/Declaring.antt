-- A DECLARATION goes out on each link from which streams come back, one link after another: the loops of
-- src/changeback.rt. `becomes_next` says that after one step more the state is what a run of one more leads to, since
-- the last step of a run comes last (`last_step`, by induction on the number of steps). `declares_next` and `count_is`
-- say whether one of the links that are left can declare, and how many there are; `overdue_next` and `redeclares_as` the
-- same of what is declared once more. Used by the functions restore, redeclare, time_out, has_alternative and has_overdue.
use Rattle.std.proofs.Common.{◌-◌, ◌||◌, ◌<◌, arith, ◌≡◌, ap, ◌∙◌, sym, ◌+◌, ℕ, zero, suc, length, Bool, cond, Option, is_some}
use Rattle.set_model.specs.Changeover.{can_declare, overdue_via, redeclared_from, some_declare, some_overdue}
use Rattle.set_model.specs.Step.{Done, Nothing, redeclares, refused}
use Rattle.set_route.specs.Routing.{code_for, code_of}
use Rattle.set_model.specs.State.{State, link_count}
use Rattle.set_changeover.specs.Agreement.{StandsFor}
use Rattle.set_changeover.specs.Parts.{Parts, Becomes, kept_of}

-- SO MANY STEPS, from one on: the last of them comes last
module _ (run : ℕ → ℕ → State → State) (step : ℕ → State → State) (none : (from : ℕ) (s : State) → run from 0 s ≡ s) (next : (from n : ℕ) (s : State) → run from (suc n) s ≡ run (suc from) n (step from s)) where
  last_step : (n from : ℕ) (s : State) → run from (n + 1) s ≡ step (from + n) (run from n s)
  last_step zero from s = grind (arith, none, next)
  last_step (suc n) from s = grind (arith, next, last_step n (suc from) (step from s))

  pub becomes_next : {A : Type 0} (n from at : ℕ) (old now new : Parts A) → at ≡ from + n → Becomes old now (run from n) → Becomes now new (step at) → Becomes old new (run from (n + 1))
  becomes_next n from at old now new is before last s f = rw (last_step n from s, ← is) (last (run from n s) (before s f))

pub count_is : {A : Type 0} (parts : Parts A) (s : State) → StandsFor (kept_of parts) s → link_count s ≡ length parts.links.items
count_is parts s f = sym (ap length f.links)

-- one of so many that are left declares, or one after it
pub declares_next : (home n count : ℕ) (s : State) → n < count → some_declare home n (count - n) s ≡ (can_declare home n s || some_declare home (n + 1) (count - (n + 1)) s)
declares_next home n count s low = let more : count - n ≡ suc (count - (n + 1)) = omega (arith, low) in grind (arith, more)

-- one of so many codes that are left is overdue, or one after it
pub overdue_next : (code n m : ℕ) (s : State) (o : Option ℕ) → n ≡ suc m → o ≡ overdue_via (code_of code s.routing) s.rows
    → some_overdue code n s ≡ (is_some o || some_overdue (suc code) m s)
overdue_next code n m s o long is =
    ap (λ (k : ℕ). some_overdue code k s) long ∙ ap (λ (v : Option ℕ). is_some v || some_overdue (suc code) m s) (sym is)

pub redeclares_as : (n : ℕ) (s : State) (b : Bool) → b ≡ some_overdue (code_for n 0) 16 s
    → cond b (record { answer = Done; state = redeclared_from (code_for n 0) 16 s }) (refused s Nothing) ≡ redeclares n s
redeclares_as n s b e = ap (λ (x : Bool). cond x (record { answer = Done; state = redeclared_from (code_for n 0) 16 s }) (refused s Nothing)) e
