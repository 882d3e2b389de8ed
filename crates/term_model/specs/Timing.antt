-- STEP 4 OF A TURN: TIMERS (Q.703 12.3). A turn is one octet time. All that run are lessened first; then T1 to T7 in
-- order, each that still runs and has none left gives its input, once. So one that an earlier one's end stopped gives
-- nothing, and one that was started in this step is lessened in the next turn (own).
use Rattle.std.specs.Prelude.{ℕ, ◌-◌, ◌==◌, Bool, false, [], ◌∷◌, Option, Some, None, if◌then◌else◌}
use Rattle.l2_align.specs.declared.signals.AlignIn.{AlignIn}
use Rattle.l2_state.specs.declared.signals.StateIn.{StateIn}
use Rattle.l2_flow.specs.declared.input.FlowIn.{FlowIn}
use Rattle.term_model.specs.Machines.{state_in, align_in, flow_in}
use Rattle.term_model.specs.Talk.{Talk, done, in_turn}
use Rattle.term_model.specs.Terminal.{Terminal}

abbrev pub one_less : Option ℕ → Option ℕ
one_less None = None
one_less (Some left) = Some (left - 1)

abbrev pub lessened : Terminal → Terminal
lessened t = record t {
  clocks = record {
    t1 = one_less t.clocks.t1;
    t2 = one_less t.clocks.t2;
    t3 = one_less t.clocks.t3;
    t4 = one_less t.clocks.t4;
    t5 = one_less t.clocks.t5;
    t6 = one_less t.clocks.t6;
    t7 = one_less t.clocks.t7;
  };
}

abbrev pub is_over : Option ℕ → Bool
is_over None = false
is_over (Some left) = left == 0

-- T1, aligned and ready: the far end didn't get ready
abbrev pub ends_t1 : Terminal → Talk Terminal
ends_t1 t =
    if is_over t.clocks.t1 then state_in StateIn.T1 (record t { clocks = record t.clocks { t1 = None } }) else done t

-- T2, not aligned: nothing was heard (Q.703 7.3)
abbrev pub ends_t2 : Terminal → Talk Terminal
ends_t2 t =
    if is_over t.clocks.t2 then align_in AlignIn.T2 (record t { clocks = record t.clocks { t2 = None } }) else done t

-- T3, aligned: the far end wasn't aligned (Q.703 7.3)
abbrev pub ends_t3 : Terminal → Talk Terminal
ends_t3 t =
    if is_over t.clocks.t3 then align_in AlignIn.T3 (record t { clocks = record t.clocks { t3 = None } }) else done t

-- T4, the proving period is over (Q.703 7.4)
abbrev pub ends_t4 : Terminal → Talk Terminal
ends_t4 t =
    if is_over t.clocks.t4 then align_in AlignIn.T4 (record t { clocks = record t.clocks { t4 = None } }) else done t

-- T5, sending SIB: the next one is due (Q.703 9.3)
abbrev pub ends_t5 : Terminal → Talk Terminal
ends_t5 t = if is_over t.clocks.t5
    then flow_in FlowIn.T5 (record t { clocks = record t.clocks { t5 = None } }) else done t

-- T6, remote congestion: the far end was busy too long (Q.703 9.3)
abbrev pub ends_t6 : Terminal → Talk Terminal
ends_t6 t = if is_over t.clocks.t6
    then flow_in FlowIn.T6 (record t { clocks = record t.clocks { t6 = None } }) else done t

-- T7, excessive delay of acknowledgement (Q.703 5.3.1)
abbrev pub ends_t7 : Terminal → Talk Terminal
ends_t7 t = if is_over t.clocks.t7
    then flow_in FlowIn.T7 (record t { clocks = record t.clocks { t7 = None } }) else done t

abbrev pub timed : Terminal → Talk Terminal
timed t = in_turn (ends_t1 ∷ ends_t2 ∷ ends_t3 ∷ ends_t4 ∷ ends_t5 ∷ ends_t6 ∷ ends_t7 ∷ []) (lessened t)
