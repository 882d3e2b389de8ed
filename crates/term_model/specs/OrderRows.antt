-- WORKED ROWS where the order of what comes in one turn matters. The expected values are those of Q.703 5 to 12 and of
-- this project's own rules for a turn.
use Rattle.std.specs.Prelude.{◌≡◌, true, false, [], ◌∷◌, Some, None}
use Rattle.l2_units.specs.declared.cause.Cause.{Cause}
use Rattle.l2_units.specs.declared.status.Status.{Status}
use Rattle.l2_bits.specs.declared.marks.Mark.{Mark}
use Rattle.l2_bits.specs.Flags.{flag}
use Rattle.l2_units.specs.declared.unit.Header.{Header}
use Rattle.l2_units.specs.declared.unit.Unit.{Unit as SignalUnit}
use Rattle.l2_units.specs.Grammar.{header_in, wide_header}
use Rattle.l2_state.specs.declared.link_state.State.{State}
use Rattle.set_events.specs.declared.answer.Answer.{Answer}
use Rattle.set_events.specs.declared.answer.Refusal.{Refusal}
use Rattle.set_events.specs.declared.answer.Took.{Took}
use Rattle.set_events.specs.declared.event.Event.{Event}
use Rattle.set_events.specs.declared.history.Entry.{Entry}
use Rattle.term_model.specs.declared.command.Command.{Command}
use Rattle.term_model.specs.Choosing.{filled}
use Rattle.term_model.specs.Hearing.{all_marked}
use Rattle.term_model.specs.Obeying.{commanded}
use Rattle.term_model.specs.Lengths.{above_0}
use Rattle.term_model.specs.Rows.{Leads, lengths, new, got, nothing_done, lssu, sio, sin, sipo, fisu, begins, ready, serving, the_fisu, the_sipo}
use Rattle.term_model.specs.Talk.{and_then}
use Rattle.term_model.specs.Terminal.{Terminal, opened, told, no_clocks, start_head}
use Rattle.term_model.specs.Timing.{timed}

-- COMMANDS AND TIMERS.

-- the far end is busy, and a message isn't acknowledged; both times are over in this turn
abbrev pub overdue : Terminal
overdue = record serving {
  flow = record { busy = false; far_busy = true; t7_runs = true };
  clocks = record no_clocks { t6 = Some 1; t7 = Some 1 };
  unacked = true;
}

pub record TimerRows : Type 0 where
  -- a T2 of one octet time that Start sets off is over in the same turn
  pub short_t2 : Leads
      (and_then (commanded (told Command.Start (opened 0 (record lengths { t2 = 1; t2_set = above_0 0 })))) (λ t. timed t)) [] (λ t.
      (t.state ≡ State.OutOfService) × (t.cause ≡ Some Cause.NotPossible) × (t.clocks.t2 ≡ None))
  -- T6 brings the link down before T7 is looked at
  pub t6_and_t7 : Leads (timed overdue) (got (Event.Down 0) Answer.Done ∷ []) (λ t.
      (t.state ≡ State.OutOfService) × (t.cause ≡ Some Cause.T6) × (t.clocks.t7 ≡ None))
  -- Start and Stop in one turn: it's aligning in between
  pub start_and_stop : Leads (commanded (told Command.Stop (told Command.Start new))) [] (λ t.
      (t.state ≡ State.OutOfService) × (t.cause ≡ Some Cause.Stop) × (t.clocks.t2 ≡ None))
  -- SIOS while proving: alignment hears it first, so the cause is its own
  pub sios_while_proving : Leads (begins (sio ∷ sin ∷ lssu 3 ∷ [])) [] (λ t.
      (t.state ≡ State.OutOfService) × (t.cause ≡ Some Cause.NotPossible) × (t.clocks.t4 ≡ None))

-- WHAT IS HEARD.

-- it acknowledged one message
abbrev pub acked_one : Answer
acked_one = Answer.Heard (record { acked = 1; took = Took.Nothing; asked = false; resend = false; fault = None })

-- a message with FSN 0 was sent last, and isn't acknowledged
abbrev pub awaiting : Terminal
awaiting = record serving {
  flow = record { busy = false; far_busy = true; t7_runs = true };
  clocks = record no_clocks { t6 = Some 50; t7 = Some 50 };
  top = 0;
  unacked = true;
}

-- the set hears the SIPO, and refuses it
abbrev pub outage_heard : Entry
outage_heard = got (Event.Heard 0 the_sipo) (Answer.Refused Refusal.Nothing)

-- BSN 0, BIB 1, FSN 127, FIB 1
abbrev pub acks_it : Header
acks_it = header_in 128 255

abbrev pub acking : Mark
acking = Mark.Good (record { items = 128 ∷ 255 ∷ 0 ∷ [] })

pub record HeardRows : Type 0 where
  -- the set left the link by itself: it's stopped here, the set isn't told, and a second unit is nobody's
  pub left_by_itself : Leads (all_marked (fisu ∷ fisu ∷ []) serving)
      (got (Event.Heard 0 the_fisu) (Answer.Refused Refusal.NotUp) ∷ []) (λ t.
      (t.state ≡ State.OutOfService) × (t.cause ≡ Some Cause.Stop) × (t.up ≡ false))
  -- a processor outage, and its end
  pub pause_and_end : Leads (all_marked (sipo ∷ fisu ∷ []) serving)
      (outage_heard ∷ got (Event.Heard 0 the_fisu) nothing_done ∷ [])
      (λ t. (t.state ≡ State.InService false) × (t.clocks.t7 ≡ None))
  -- in it T7 stands still, and T6 runs on
  pub outage_while_awaiting : Leads (all_marked (sipo ∷ []) awaiting) (outage_heard ∷ []) (λ t.
      (t.flow.t7_runs ≡ false) × (t.clocks.t6 ≡ Some 50) × (t.clocks.t7 ≡ None))
  -- behind it T7 begins anew: the message is unacknowledged still
  pub outage_and_no_ack : Leads (all_marked (sipo ∷ fisu ∷ []) awaiting)
      (outage_heard ∷ got (Event.Heard 0 the_fisu) nothing_done ∷ []) (λ t.
      (t.clocks.t6 ≡ Some 50) × (t.clocks.t7 ≡ Some 100000))
  -- but where the unit that ends it acknowledges the last message
  pub outage_and_last_ack : Leads (all_marked (sipo ∷ acking ∷ []) awaiting)
      (outage_heard ∷ got (Event.Heard 0 (SignalUnit.Fisu acks_it)) acked_one ∷ []) (λ t.
      (t.flow.t7_runs ≡ false) × (t.clocks.t7 ≡ None))
  -- the last message is acknowledged: the far end isn't busy any more, and neither T6 nor T7 runs
  pub last_acked : Leads (all_marked (acking ∷ []) awaiting)
      (got (Event.Heard 0 (SignalUnit.Fisu acks_it)) acked_one ∷ []) (λ t.
      (t.flow.far_busy ≡ false) × (t.clocks.t6 ≡ None) × (t.clocks.t7 ≡ None))
  -- it's acknowledged, and one that was sent after it isn't: T7 begins anew
  pub one_acked : Leads (all_marked (acking ∷ []) (record awaiting { top = 1 }))
      (got (Event.Heard 0 (SignalUnit.Fisu acks_it)) acked_one ∷ []) (λ t.
      (t.flow.far_busy ≡ false) × (t.clocks.t6 ≡ None) × (t.clocks.t7 ≡ Some 100000))

-- A PROCESSOR OUTAGE OF THIS END.

-- it began while the message wasn't acknowledged, and the far end was busy
abbrev pub unhearing : Terminal
unhearing = record serving {
  outage = true;
  flow = record { busy = false; far_busy = true; t7_runs = false };
  clocks = record no_clocks { t6 = Some 50 };
  top = 0;
  unacked = true;
}

pub record OutageRows : Type 0 where
  -- it begins: T7 stands still, T6 runs on, and SIPO goes out, before a B that is due
  pub begins_in_service : Leads (and_then (commanded (told Command.Outage (record awaiting { b_due = true }))) (λ t. filled t)) [] (λ f.
      (f.unit ≡ Some the_sipo) × (f.after.clocks.t6 ≡ Some 50) × (f.after.clocks.t7 ≡ None) × (f.after.b_due ≡ true))
  -- the set hears nothing in it
  pub set_hears_nothing : Leads (all_marked (acking ∷ []) unhearing) [] (λ t.
      (t.state ≡ State.InService false) × (t.unacked ≡ true) × (t.clocks.t6 ≡ Some 50))
  -- nor is a B heard, whose T6 no acknowledgement could end
  pub no_b_is_heard : Leads (all_marked (lssu 5 ∷ []) (record serving { outage = true })) [] (λ t.
      (t.flow.far_busy ≡ false) × (t.clocks.t6 ≡ None))
  -- it ends: T7 begins anew, since the message is unacknowledged still
  pub ends : Leads (commanded (told Command.Recover unhearing)) [] (λ t.
      (t.outage ≡ false) × (t.clocks.t6 ≡ Some 50) × (t.clocks.t7 ≡ Some 100000))
  -- but not while the far end has one
  pub ends_before_the_other : Leads
      (and_then (all_marked (sipo ∷ []) unhearing) (λ t. commanded (told Command.Recover t))) [] (λ t.
      (t.state ≡ State.InService true) × (t.clocks.t7 ≡ None))
  -- nor does it where that of the far end is over first
  pub ends_behind_the_other : Leads (all_marked (sipo ∷ fisu ∷ []) unhearing) [] (λ t.
      (t.state ≡ State.InService false) × (t.clocks.t7 ≡ None))
  -- a link that is ready sends SIPO in it
  pub aligned_not_ready : Leads (filled (record ready { outage = true; bits = [] })) [] (λ f. f.unit ≡ Some the_sipo)
  -- and comes up by a FISU, which the set doesn't hear
  pub comes_up_in_it : Leads (all_marked (fisu ∷ []) (record ready { outage = true }))
      (got (Event.Up 0) Answer.Done ∷ []) (λ t.
      (t.state ≡ State.InService false) × (t.up ≡ true) × (t.outage ≡ true))
  -- or fails where T1 is over
  pub ready_too_long : Leads (timed (record ready { outage = true; clocks = record no_clocks { t1 = Some 1 } })) [] (λ t.
      (t.state ≡ State.OutOfService) × (t.cause ≡ Some Cause.T1) × (t.outage ≡ false))
  -- a link that is stopped in it has none any more
  pub stopped_in_it : Leads (commanded (told Command.Stop unhearing)) (got (Event.Down 0) Answer.Done ∷ []) (λ t.
      (t.state ≡ State.OutOfService) × (t.cause ≡ Some Cause.Stop) × (t.outage ≡ false))

-- WHAT IS SENT.

-- in service here, refused by the set so far, and a B is due
abbrev pub refused : Terminal
refused = record serving { up = false; b_due = true }

-- busy, with BSN 5, BIB 1 and FSN 2, FIB 1 sent last
abbrev pub busy : Terminal
busy = record serving {
  flow = record { busy = true; far_busy = false; t7_runs = false };
  last = Some (header_in 133 130);
  top = 2;
}

-- a message with this header: SIO and SIF
abbrev pub message : Header → SignalUnit
message head = SignalUnit.Msu head (record { items = 133 ∷ 1 ∷ 128 ∷ 0 ∷ 48 ∷ [] })

-- BSN 0 and FSN 128, which has eight bits
abbrev pub wide : Header
wide = wide_header 0x100000

pub record SentRows : Type 0 where
  -- the set refuses Up again: a FISU as at the start, and the B waits
  pub refused_again : Leads (filled refused) (got (Event.Up 0) (Answer.Refused Refusal.Unsettled) ∷ []) (λ f.
      (f.unit ≡ Some the_fisu) × (f.after.up ≡ false) × (f.after.b_due ≡ true))
  -- it's Done now: that very unit is the B
  pub done_at_last : Leads (filled refused) (got (Event.Up 0) Answer.Done ∷ []) (λ f.
      (f.unit ≡ Some (SignalUnit.Lssu start_head Status.Busy)) × (f.after.up ≡ true) × (f.after.b_due ≡ false))
  -- a busy end's message has its own FSN and FIB, and the BSN and BIB of the unit before; T7 starts
  pub withholds : Leads (filled busy) (got (Event.Next 0) (Answer.Sent (message (header_in 135 131))) ∷ []) (λ f.
      (f.unit ≡ Some (message (header_in 133 131))) × (f.after.top ≡ 3) × (f.after.clocks.t7 ≡ Some 100000))
  -- Next is refused 5: SIOS goes out, and the set isn't told
  pub next_refused : Leads (filled serving) (got (Event.Next 0) (Answer.Refused Refusal.NotUp) ∷ []) (λ f.
      (f.unit ≡ Some (SignalUnit.Lssu start_head Status.OutOfService)) × (f.after.state ≡ State.OutOfService)
      × (f.after.cause ≡ Some Cause.Stop))
  -- a message with a number of more than seven bits: none is chosen, and nothing of the terminal changes
  pub not_sent : Leads (filled serving) (got (Event.Next 0) (Answer.Sent (message wide)) ∷ []) (λ f.
      (f.unit ≡ None) × (f.narrow ≡ false) × (f.after ≡ serving))
  -- eight bits are left to send: no unit is chosen, and the set isn't asked
  pub enough_left : Leads (filled (record serving { bits = flag })) [] (λ f. f.unit ≡ None)
