-- Runs of link state control: the table folded over a list of inputs, the first input first.
use Rattle.std.specs.Prelude.{List, [], ◌∷◌}
use Rattle.l2_state.specs.declared.link_state.State.{State}
use Rattle.l2_state.specs.declared.signals.StateIn.{StateIn}
use Rattle.l2_state.specs.declared.signals.Indication.{Indication}
use Rattle.std.specs.Prelude.{Option}
use Rattle.l2_state.specs.Table.{row}

-- where a link that stood there stands after these inputs
abbrev pub after : State → List StateIn → State
after state [] = state
after state (input ∷ inputs) = after (row state input).next inputs

-- what the last of these inputs tells, the link being out of service at first
abbrev pub told_at : List StateIn → StateIn → Option Indication
told_at past input = (row (after State.OutOfService past) input).out.indication
