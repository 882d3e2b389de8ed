-- A UNIT HEARD BY ALL, or an outage of this end told to link state control, and then what that says of both ends' processors:
-- two talks, one after the other.
use Rattle.std.proofs.Common.{subst, ◌≡◌, ◌∷◌, [], ◌++◌, Bool, Some, Result}
use Rattle.l2_state.specs.declared.signals.StateIn.{StateIn}
use Rattle.l2_units.specs.declared.unit.Unit.{Unit as SignalUnit}
use Rattle.set_events.specs.declared.fault.SetFault.{SetFault}
use Rattle.std.specs.Result.{IsErrAnd}
use Rattle.term_model.specs.Hearing.{all_hear, heard, is_held, waits}
use Rattle.term_model.specs.Machines.{state_in}
use Rattle.term_model.specs.Obeying.{changes_outage}
use Rattle.term_model.specs.Terminal.{Terminal}
use Rattle.link_term.specs.Talking.{Asked, Gains, Breaks, Talks}
use Rattle.link_term.proofs.Talking.{talks_then, talks_broken}

-- what the link was before the unit is what was looked at
pub heard_then : (unit : SignalUnit) (t mid outcome : Terminal) (was : Bool) (result : Result (Unit {0}) SetFault)
    (before between after : Asked) → was ≡ is_held t → Gains (all_hear unit t) before.made between.made mid
    → between.faults ≡ before.faults → Talks (waits was (is_held mid) mid) result between after outcome
    → Talks (heard (Some unit) t) result before after outcome
heard_then unit t mid outcome was result before between after looked gains same talks =
    talks_then (all_hear unit t) (λ u. waits (is_held t) (is_held u) u) result before between after mid (λ done. outcome) gains same
    (subst (λ b. Talks (waits b (is_held mid) mid) result between after outcome) looked talks)

pub heard_broken : (unit : SignalUnit) (t outcome : Terminal) (result : Result (Unit {0}) SetFault) (fault : SetFault)
    (before after : Asked) → IsErrAnd result (λ e. e ≡ fault) → Breaks (all_hear unit t) before.made after.made
    → after.faults ≡ before.faults ++ fault ∷ [] → Talks (heard (Some unit) t) result before after outcome
heard_broken unit t outcome result fault before after is breaks told =
    talks_broken (all_hear unit t) (λ u. waits (is_held t) (is_held u) u) result fault before after (λ done. outcome) is breaks told

-- the same of an outage of this end that begins or is over
pub changed_then : (input : StateIn) (t mid outcome : Terminal) (was : Bool) (result : Result (Unit {0}) SetFault)
    (before between after : Asked) → was ≡ is_held t → Gains (state_in input t) before.made between.made mid
    → between.faults ≡ before.faults → Talks (waits was (is_held mid) mid) result between after outcome
    → Talks (changes_outage input t) result before after outcome
changed_then input t mid outcome was result before between after looked gains same talks =
    talks_then (state_in input t) (λ u. waits (is_held t) (is_held u) u) result before between after mid (λ done. outcome) gains same
    (subst (λ b. Talks (waits b (is_held mid) mid) result between after outcome) looked talks)

pub changed_broken : (input : StateIn) (t outcome : Terminal) (result : Result (Unit {0}) SetFault) (fault : SetFault)
    (before after : Asked) → IsErrAnd result (λ e. e ≡ fault) → Breaks (state_in input t) before.made after.made
    → after.faults ≡ before.faults ++ fault ∷ [] → Talks (changes_outage input t) result before after outcome
changed_broken input t outcome result fault before after is breaks told =
    talks_broken (state_in input t) (λ u. waits (is_held t) (is_held u) u) result fault before after (λ done. outcome) is breaks told
