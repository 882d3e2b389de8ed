-- Each arm is what its callee promises, told of the order: the search finds it too, and takes a second for each.
use Rattle.std.proofs.Common.{refl, ap, sym, ◌≡◌, ◌∙◌, ℕ, false}
use Rattle.set_route.specs.Routing.{Routing, code_of, is_free}
use Rattle.set_model.specs.Changeover.{acknowledged_back, acknowledged_code}
use Rattle.set_model.specs.State.{Code, Free, Asked, Spent, State}
use Rattle.set_changeover.specs.Agreement.{StandsFor}
use Rattle.set_changeover.specs.Parts.{Obeys, Parts, kept_of}
use Rattle.set_changeover.proofs.changeover.obey.Goals as goal
use Rattle.set_events.specs.declared.answer.Took.TheVariants.{Order as TookOrder}

pub returns-in-Coo : goal.returns-in-Coo
returns-in-Coo o c = record { stands = rw c.in-Coo.is c.change_over.ensures.stands }

pub returns-in-Eco : goal.returns-in-Eco
returns-in-Eco o c = record { stands = rw c.in-Eco.is c.change_over-in-Eco.ensures.stands }

pub returns-in-Coa : goal.returns-in-Coa
returns-in-Coa o c = record { stands = rw c.in-Coa.is c.answer.ensures.stands }

pub returns-in-Eca : goal.returns-in-Eca
returns-in-Eca o c = record { stands = rw c.in-Eca.is c.answer-in-Eca.ensures.stands }

-- an acknowledgement of a code in use
in_use : {A : Type 0} (code : ℕ) (was : Code) (s : State) (new : Parts A) → is_free was ≡ false → StandsFor (kept_of new) (acknowledged_code code s)
    → Obeys (acknowledged_back code was s) TookOrder new
in_use code Free s new used f = absurd cc
in_use code (Asked via declaration owed) s new used f = record { took_is = refl; stands = f }
in_use code (Spent owed) s new used f = record { took_is = refl; stands = f }

pub returns-else-is_free : goal.returns-else-is_free
returns-else-is_free o c = record {
  stands = λ s a.
      let code = c.in-Cba.code in
      let used : is_free (code_of code s.routing) ≡ false =
      ap (λ (r : Routing). is_free (code_of code r)) (sym a.stands.routing) ∙ ap is_free (sym c.code.ensures) ∙ sym c.is_free.ensures ∙ c.if-is_free.false in
      rw c.in-Cba.is (in_use code (code_of code s.routing) s c.acknowledge.new.parts used (c.acknowledge.ensures.stands s a.stands));
}
