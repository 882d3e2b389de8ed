-- STEP 1 OF A TURN: COMMANDS. What was commanded since the turn before are inputs of the machines, each once, in the
-- order Emergency, Calm, Start, Busy, Ease, Blind, Outage, Recover, Stop (own).
use Rattle.std.specs.Prelude.{Bool, ◌||◌, [], ◌∷◌, if◌then◌else◌}
use Rattle.l2_align.specs.declared.signals.AlignIn.{AlignIn}
use Rattle.l2_state.specs.declared.signals.StateIn.{StateIn}
use Rattle.l2_flow.specs.declared.input.FlowIn.{FlowIn}
use Rattle.term_model.specs.declared.command.Commands.{Commands}
use Rattle.term_model.specs.Hearing.{is_held, waits}
use Rattle.term_model.specs.Machines.{state_in, align_in, flow_in}
use Rattle.term_model.specs.Talk.{Talk, done, and_then, in_turn}
use Rattle.term_model.specs.Terminal.{Terminal, no_commands}

abbrev pub obeys_if : Bool → (Terminal → Talk Terminal) → Terminal → Talk Terminal
obeys_if commanded obeys t = if commanded then obeys t else done t

-- Q.704 5.6: the next failure is one after which no FSN can be told; while the link isn't up at the set there is none
-- to tell, and the command is lost (own)
abbrev pub blinded : Terminal → Talk Terminal
blinded t = done (record t { blind = t.blind || t.up })

-- Q.703 8.1: this end's processor outage begins or is over, and T7 stands still meanwhile
abbrev pub changes_outage : StateIn → Terminal → Talk Terminal
changes_outage input t = and_then (state_in input t) (λ after. waits (is_held t) (is_held after) after)

abbrev pub obeyed : Commands → Terminal → Talk Terminal
obeyed commands t = in_turn (
    -- Q.703 7.2, 7.4: proving is to be that of emergency
    obeys_if commands.emergency (align_in AlignIn.Emergency) ∷
    -- or no longer so
    obeys_if commands.calm (align_in AlignIn.Calm) ∷
    -- Q.703 12.1: initial alignment starts where the link is out of service
    obeys_if commands.start (state_in StateIn.Start) ∷
    -- Q.703 9.2, 9.3: this end is busy, or no longer so
    obeys_if commands.busy (flow_in FlowIn.Busy) ∷
    obeys_if commands.ease (flow_in FlowIn.Ease) ∷
    obeys_if commands.blind blinded ∷
    -- Q.703 8.1: this end has a processor outage, or no longer so
    obeys_if commands.outage (changes_outage StateIn.Outage) ∷
    obeys_if commands.recover (changes_outage StateIn.Recover) ∷
    -- Q.703 12.1: the link is taken out of service
    obeys_if commands.stop (state_in StateIn.Stop) ∷ []) t

abbrev pub commanded : Terminal → Talk Terminal
commanded t = obeyed t.commands (record t { commands = no_commands })
