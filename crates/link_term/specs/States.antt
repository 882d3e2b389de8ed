-- WHERE A TERMINAL STANDS, as those who look at it are told.
use Rattle.std.specs.Prelude.{Bool, true, false}
use Rattle.l2_align.specs.declared.align.State.{State as AlignState}
use Rattle.l2_state.specs.declared.link_state.State.{State}
use Rattle.term_model.specs.Terminal.{Terminal}
use Rattle.link_term.specs.declared.works.TermState.{TermState}

-- Q.703 7.3: how far the alignment is; one that isn't under way is none yet
abbrev pub aligning_as : AlignState → TermState
aligning_as AlignState.Idle = TermState.NotAligned
aligning_as AlignState.NotAligned = TermState.NotAligned
aligning_as AlignState.Aligned = TermState.Aligned
aligning_as AlignState.Proving = TermState.Proving

-- Q.703 12
abbrev pub stands_as : State → AlignState → TermState
stands_as State.OutOfService align = TermState.OutOfService
stands_as State.Aligning align = aligning_as align
stands_as State.Ready align = TermState.Ready
stands_as (State.InService paused) align = TermState.InService

abbrev pub state_of : Terminal → TermState
state_of t = stands_as t.state t.align.state

-- Q.703 8.2: the far end has a processor outage
abbrev pub is_paused : State → Bool
is_paused (State.InService paused) = paused
is_paused _ = false

abbrev pub is_out_of_service : TermState → Bool
is_out_of_service TermState.OutOfService = true
is_out_of_service _ = false
