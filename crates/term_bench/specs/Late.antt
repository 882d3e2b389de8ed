-- A CHANGEOVER ORDER THAT CAME LATE, about a link that was settled, ends the alignment that runs of that link (own). The far
-- end has left a life to which this end may still be coming up, and units of it may be under way: they would be accepted
-- here, and come over another link as well.
use Rattle.std.specs.Prelude.{◌≡◌, ◌<◌, ℕ, suc, ◌==◌, ◌&&◌, Bool, true, false, not, List, [], ◌∷◌, Some, slice_get, if◌then◌else◌}
use Rattle.set_events.specs.declared.answer.Answer.{Answer}
use Rattle.set_events.specs.declared.answer.Took.{Took}
use Rattle.set_model.specs.State.{State, late_at}
use Rattle.link_term.specs.States.{state_of}
use Rattle.link_term.specs.declared.works.TermState.{TermState}
use Rattle.term_model.specs.declared.command.Command.{Command}
use Rattle.term_bench.specs.Ends.{AtLink, told_at}

abbrev pub is_out : TermState → Bool
is_out TermState.OutOfService = true
is_out _ = false

-- the set heard one about this link, between these states
abbrev pub was_late : ℕ → State → State → Bool
was_late link old new = not (late_at link new == late_at link old)

-- unless it's out of service its terminal is told to stop, which it obeys in its next turn
abbrev pub ended_at : ℕ → State → State → AtLink → AtLink
ended_at link old new at =
    if was_late link old new && not (is_out (state_of at.terminal)) then told_at Command.Stop at else at

-- so are all links, numbered from this one on
abbrev pub ended_from : ℕ → State → State → List AtLink → List AtLink
ended_from link old new [] = []
ended_from link old new (at ∷ links) = ended_at link old new at ∷ ended_from (suc link) old new links

-- how many the set heard about each link
abbrev pub AreLate : State → List ℕ → Type 0
AreLate s counts = (link : ℕ) → link < 16 → slice_get counts link ≡ Some (late_at link s)

-- no step changes that whose answer doesn't tell of an order
abbrev pub is_order : Took → Bool
is_order Took.Order = true
is_order _ = false

abbrev pub brings_order : Answer → Bool
brings_order (Answer.Heard report) = is_order report.took
brings_order _ = false
