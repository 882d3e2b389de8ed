use Rattle.std.proofs.Common.{◌∙◌, [], ap, refl, sym}
use Rattle.set_model.specs.History.{LinkSet}
use Rattle.set_core.proofs.Keeping.{opened_entries}
use Rattle.set_ledger.specs.Openings.{opening_with}
use Rattle.set_ledger.specs.Seats.{no_share}
use Rattle.set_ledger.proofs.Closing.{in_range, few_users}
use Rattle.set_ledger.proofs.Telling.{opens}
use Rattle.set_ledger.proofs.held.Held.open.Goals as goal

pub returns-clause-held : goal.returns-clause-held
returns-clause-held g c = c.with_seats.ensures.held ∙ ap (λ (set : LinkSet). record { users = c.args.users; links = c.args.config.now.links; totals = no_share; set = set }) c.in_ok-core.ensures.core

pub returns-clause-range : goal.returns-clause-range
returns-clause-range g c = ((λ e. absurd cc), (λ outside. absurd (in_range c.args.users c.if-users-eq0.false c.if-users-gt-MOST_USERS.false outside)))

pub returns-in_err-core-clause-range : goal.returns-in_err-core-clause-range
returns-in_err-core-clause-range g c = ((λ e. let told = c.from_residual.ensures.1 in let is = (rw e at told) in absurd cc), (λ outside. absurd (in_range c.args.users c.if-users-eq0.false c.if-users-gt-MOST_USERS.false outside)))

pub with_seats-requires-clause-new : goal.with_seats-requires-clause-new
with_seats-requires-clause-new g c = rw c.in_ok-core.ensures.core (record {
  calls_is = sym (opened_entries c.args.config.now []);
  messages_is = refl;
  octets_is = refl;
  acknowledged_is = refl;
})

pub with_seats-requires-clause-blanks : goal.with_seats-requires-clause-blanks
with_seats-requires-clause-blanks g c = c.requires.blanks (few_users c.args.users c.if-users-eq0.false c.if-users-gt-MOST_USERS.false)

pub with_seats-requires-clause-parts : goal.with_seats-requires-clause-parts
with_seats-requires-clause-parts g c = c.requires.parts (few_users c.args.users c.if-users-eq0.false c.if-users-gt-MOST_USERS.false)

pub with_seats-requires-clause-opening : goal.with_seats-requires-clause-opening
with_seats-requires-clause-opening g c = opens g.O.Opening.settings c.in_ok-core.core.base (ap (λ (set : LinkSet). set.base) c.in_ok-core.ensures.core ∙ ap opening_with (c.requires.opening (few_users c.args.users c.if-users-eq0.false c.if-users-gt-MOST_USERS.false)))
