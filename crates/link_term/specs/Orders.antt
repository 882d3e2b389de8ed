-- COMMANDS AND TIMERS ONE BY ONE: the rows of steps 1 and 4 of a turn.
use Rattle.std.specs.Prelude.{Bool, List, [], ◌∷◌, map, if◌then◌else◌}
use Rattle.l2_align.specs.declared.signals.AlignIn.{AlignIn}
use Rattle.l2_state.specs.declared.signals.StateIn.{StateIn}
use Rattle.l2_flow.specs.declared.input.FlowIn.{FlowIn}
use Rattle.term_core.specs.declared.clocks.Timer.{Timer}
use Rattle.term_core.specs.TimerEnds.{clock_of, without}
use Rattle.term_model.specs.declared.command.Command.{Command}
use Rattle.term_model.specs.declared.command.Commands.{Commands}
use Rattle.term_model.specs.Machines.{state_in, align_in, flow_in}
use Rattle.term_model.specs.Obeying.{obeys_if, blinded, changes_outage}
use Rattle.term_model.specs.Talk.{Talk, done, in_turn}
use Rattle.term_model.specs.Terminal.{Terminal}
use Rattle.term_model.specs.Timing.{is_over}

-- it was commanded
abbrev pub is_among : Command → Commands → Bool
is_among Command.Emergency commands = commands.emergency
is_among Command.Calm commands = commands.calm
is_among Command.Start commands = commands.start
is_among Command.Busy commands = commands.busy
is_among Command.Ease commands = commands.ease
is_among Command.Blind commands = commands.blind
is_among Command.Outage commands = commands.outage
is_among Command.Recover commands = commands.recover
is_among Command.Stop commands = commands.stop

-- what a command asks for
abbrev pub obeys : Command → Terminal → Talk Terminal
obeys Command.Emergency t = align_in AlignIn.Emergency t
obeys Command.Calm t = align_in AlignIn.Calm t
obeys Command.Start t = state_in StateIn.Start t
obeys Command.Busy t = flow_in FlowIn.Busy t
obeys Command.Ease t = flow_in FlowIn.Ease t
obeys Command.Blind t = blinded t
obeys Command.Outage t = changes_outage StateIn.Outage t
obeys Command.Recover t = changes_outage StateIn.Recover t
obeys Command.Stop t = state_in StateIn.Stop t

abbrev pub obeys_among : Commands → Command → Terminal → Talk Terminal
obeys_among commands command t = obeys_if (is_among command commands) (obeys command) t

-- these commands, in this order, each where it's among those that were given
abbrev pub obeys_all : Commands → List Command → Terminal → Talk Terminal
obeys_all commands order t = in_turn (map (obeys_among commands) order) t

-- the order in which they are obeyed (own)
abbrev pub every_command : List Command
every_command =
    Command.Emergency ∷ Command.Calm ∷ Command.Start ∷ Command.Busy ∷ Command.Ease ∷ Command.Blind ∷ Command.Outage ∷ Command.Recover ∷ Command.Stop ∷ []

-- what the end of a timer is told to
abbrev pub end_told : Timer → Terminal → Talk Terminal
end_told Timer.T1 t = state_in StateIn.T1 t
end_told Timer.T2 t = align_in AlignIn.T2 t
end_told Timer.T3 t = align_in AlignIn.T3 t
end_told Timer.T4 t = align_in AlignIn.T4 t
end_told Timer.T5 t = flow_in FlowIn.T5 t
end_told Timer.T6 t = flow_in FlowIn.T6 t
end_told Timer.T7 t = flow_in FlowIn.T7 t

abbrev pub ends : Timer → Terminal → Talk Terminal
ends timer t =
    if is_over (clock_of timer t.clocks) then end_told timer (record t { clocks = without timer t.clocks }) else done t

-- these timers, in this order
abbrev pub ends_all : List Timer → Terminal → Talk Terminal
ends_all timers t = in_turn (map ends timers) t
