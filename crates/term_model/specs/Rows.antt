-- WORKED ROWS: what comes out of the definition for a link's life, computed. The expected values are those of Q.703 7
-- to 12 and of the machines' tables.
use Rattle.std.specs.Prelude.{◌≡◌, ℕ, true, false, List, [], ◌∷◌, ◌++◌, replicate, Some, None, ⊤}
use Rattle.l2_units.specs.declared.cause.Cause.{Cause}
use Rattle.l2_units.specs.declared.status.Status.{Status}
use Rattle.l2_bits.specs.declared.marks.Mark.{Mark}
use Rattle.l2_units.specs.declared.unit.Unit.{Unit as SignalUnit}
use Rattle.l2_align.specs.declared.align.State.{State as AlignState}
use Rattle.l2_state.specs.declared.link_state.State.{State}
use Rattle.set_events.specs.declared.answer.Answer.{Answer}
use Rattle.set_events.specs.declared.answer.Refusal.{Refusal}
use Rattle.set_events.specs.declared.answer.Took.{Took}
use Rattle.set_events.specs.declared.event.Actor.{Actor}
use Rattle.set_events.specs.declared.event.Event.{Event}
use Rattle.set_events.specs.declared.history.Entry.{Entry}
use Rattle.term_model.specs.declared.command.Command.{Command}
use Rattle.term_model.specs.declared.timers.Timers.{Timers}
use Rattle.term_model.specs.Lengths.{above_0}
use Rattle.term_model.specs.Choosing.{filled}
use Rattle.term_model.specs.Hearing.{all_marked}
use Rattle.l2_monitors.specs.Suerm.{fresh}
use Rattle.term_model.specs.Obeying.{commanded}
use Rattle.term_model.specs.Talk.{Talk, and_then, Went}
use Rattle.term_model.specs.Terminal.{Terminal, opened, told, start_head}
use Rattle.term_model.specs.Timing.{timed}
use Rattle.term_model.specs.Turn.{IsTurn}

-- by these entries it comes to something of which this is so
abbrev pub Leads : {A : Type 0} → Talk A → List Entry → (A → Type 0) → Type 0
Leads {A} talk entries so = (a : A) × Went talk entries a × so a

abbrev pub lengths : Timers
lengths = record {
  t1 = 100000;
  t2 = 100000;
  t3 = 100000;
  t5 = 800;
  t6 = 100000;
  t7 = 100000;
  t1_set = above_0 99999;
  t2_set = above_0 99999;
  t3_set = above_0 99999;
  t5_set = above_0 799;
  t6_set = above_0 99999;
  t7_set = above_0 99999;
}

abbrev pub new : Terminal
new = opened 0 lengths

-- an answer that link 0's terminal got
abbrev pub got : Event → Answer → Entry
got event answer = record { who = Actor.Terminal 0; event = event; answer = answer }

-- the set hears a unit that does nothing there
abbrev pub nothing_done : Answer
nothing_done = Answer.Heard (record { acked = 0; took = Took.Nothing; asked = false; resend = false; fault = None })

-- a unit that checks, of these octets
abbrev pub good : List ℕ → Mark
good octets = Mark.Good (record { items = octets })

-- header 127, 1, 127, 1; LI 1; a status of one octet (Q.703 11.1.3). A FISU has LI 0.
abbrev pub lssu : ℕ → Mark
lssu status = good (255 ∷ 255 ∷ 1 ∷ status ∷ [])

abbrev pub sio : Mark
sio = lssu 0

abbrev pub sin : Mark
sin = lssu 1

abbrev pub sie : Mark
sie = lssu 2

abbrev pub sipo : Mark
sipo = lssu 4

abbrev pub fisu : Mark
fisu = good (255 ∷ 255 ∷ 0 ∷ [])

-- a link that starts, and what it hears then
abbrev pub begins : List Mark → Talk Terminal
begins marks = and_then (commanded (told Command.Start new)) (λ t. all_marked marks t)

-- four errors abort a normal proving (Q.703 10.3)
abbrev pub abort : List Mark
abort = replicate 4 Mark.Bad

-- and a correct unit lets it begin anew (Q.703 7.3): so four times
abbrev pub anew : List Mark
anew = abort ++ (fisu ∷ [])

abbrev pub four_times : List Mark
four_times = anew ++ anew ++ anew ++ anew

-- INITIAL ALIGNMENT.
pub record AlignmentRows : Type 0 where
  -- out of alignment at first: SIO goes out, T2 runs
  pub starts : Leads (begins []) [] (λ t.
      (t.state ≡ State.Aligning) × (t.align.state ≡ AlignState.NotAligned)
      × (t.status ≡ Status.OutOfAlignment) × (t.clocks.t2 ≡ Some 100000))
  -- an SIO comes in: aligned, SIN goes out, T2 is stopped and T3 runs
  pub hears_sio : Leads (begins (sio ∷ [])) [] (λ t.
      (t.align.state ≡ AlignState.Aligned) × (t.status ≡ Status.Normal) × (t.clocks.t2 ≡ None)
      × (t.clocks.t3 ≡ Some 100000))
  -- in an emergency of this end SIE goes out
  pub in_emergency : Leads
      (and_then (commanded (told Command.Emergency (told Command.Start new))) (λ t. all_marked (sio ∷ []) t)) [] (λ t.
      (t.align.state ≡ AlignState.Aligned) × (t.status ≡ Status.Emergency))
  -- which ceases in an emergency proving: SIN goes out again, and the proving goes on
  pub emergency_ceases : Leads
      (and_then (commanded (told Command.Emergency (told Command.Start new))) (λ t.
      and_then (all_marked (sio ∷ sin ∷ []) t) (λ t. commanded (told Command.Calm t)))) [] (λ t.
      (t.align.state ≡ AlignState.Proving) × (t.status ≡ Status.Normal) × (t.clocks.t4 ≡ Some 4096))
  -- SIN: proving, of 2^16 octet times, with Tin = 4
  pub hears_sin : Leads (begins (sio ∷ sin ∷ [])) [] (λ t.
      (t.align.state ≡ AlignState.Proving) × (t.clocks.t3 ≡ None) × (t.clocks.t4 ≡ Some 65536) × (t.aerm ≡ Some 4))
  -- SIE in it: an emergency proving, of 2^12 octet times, with Tie = 1
  pub hears_sie : Leads (begins (sio ∷ sin ∷ sie ∷ [])) [] (λ t.
      (t.align.state ≡ AlignState.Proving) × (t.clocks.t4 ≡ Some 4096) × (t.aerm ≡ Some 1))
  -- four aborts, each with a correct unit after it: still proving
  pub four_aborts : Leads (begins (sio ∷ sin ∷ four_times)) [] (λ t.
      (t.align.state ≡ AlignState.Proving) × (t.align.aborts ≡ 4) × (t.aerm ≡ Some 4))
  -- a fifth: alignment isn't possible, and the set, which was told nothing, isn't asked
  pub five_aborts : Leads (begins (sio ∷ sin ∷ (four_times ++ abort))) [] (λ t.
      (t.align.state ≡ AlignState.Idle) × (t.state ≡ State.OutOfService)
      × (t.cause ≡ Some Cause.NotPossible) × (t.clocks.t4 ≡ None))

-- a link that proves, one octet time before the end
abbrev pub proved : Terminal
proved = record new {
  state = State.Aligning;
  align = record { state = AlignState.Proving; local = false; short = false; aborts = 0; pending = false };
  aerm = Some 4;
  clocks = record { t1 = None; t2 = None; t3 = None; t4 = Some 1; t5 = None; t6 = None; t7 = None };
  bits = [];
}

abbrev pub ready : Terminal
ready = record new { state = State.Ready; suerm = Some fresh }

abbrev pub serving : Terminal
serving = record new { state = State.InService false; suerm = Some fresh; up = true; bits = [] }

abbrev pub the_fisu : SignalUnit
the_fisu = SignalUnit.Fisu start_head

abbrev pub the_sipo : SignalUnit
the_sipo = SignalUnit.Lssu start_head Status.ProcessorOutage

-- A LINK COMES UP, AND FAILS.
pub record ServiceRows : Type 0 where
  -- proving is complete: T1 runs, as it was started, and a FISU goes out
  pub completes : Leads (and_then (timed proved) (λ t. filled t)) [] (λ f.
      (f.unit ≡ Some the_fisu) × (f.after.state ≡ State.Ready) × (f.after.clocks.t1 ≡ Some 100000)
      × (f.after.suerm ≡ Some fresh))
  -- a FISU comes in: the link is up, and the set hears that FISU itself
  pub comes_up : Leads (all_marked (fisu ∷ []) ready)
      (got (Event.Up 0) Answer.Done ∷ got (Event.Heard 0 the_fisu) nothing_done ∷ []) (λ t.
      (t.state ≡ State.InService false) × (t.up ≡ true))
  -- the set refuses Up: in service here, and the FISU isn't heard there
  pub is_refused : Leads (all_marked (fisu ∷ []) ready) (got (Event.Up 0) (Answer.Refused Refusal.Unsettled) ∷ []) (λ t.
      (t.state ≡ State.InService false) × (t.up ≡ false))
  -- a damaged unit isn't heard; the monitor counts it
  pub damaged : Leads (all_marked (Mark.Bad ∷ []) serving) [] (λ t.
      (t.state ≡ State.InService false) × (t.suerm ≡ Some (record { tripped = false; count = 1; place = 1 })))
  -- 63 errors don't trip SUERM
  pub runs_on : Leads (all_marked (replicate 63 Mark.Bad) serving) [] (λ t.
      (t.state ≡ State.InService false) × (t.suerm ≡ Some (record { tripped = false; count = 63; place = 63 })))
  -- 64 errors: the link fails, and the set is told
  pub trips : Leads (all_marked (replicate 64 Mark.Bad) serving) (got (Event.Down 0) Answer.Done ∷ []) (λ t.
      (t.state ≡ State.OutOfService) × (t.cause ≡ Some Cause.Suerm) × (t.up ≡ false))
  -- an SIO in service: the link fails, and the SIO isn't heard at the set
  pub hears_sio : Leads (all_marked (sio ∷ []) serving) (got (Event.Down 0) Answer.Done ∷ []) (λ t.
      (t.state ≡ State.OutOfService) × (t.cause ≡ Some Cause.Status) × (t.up ≡ false))
  -- after Blind: DownBlind, in one turn with Stop too
  pub stops_blind : Leads (commanded (told Command.Stop (told Command.Blind serving)))
      (got (Event.DownBlind 0) Answer.Done ∷ []) (λ t.
      (t.state ≡ State.OutOfService) × (t.cause ≡ Some Cause.Stop))
  -- a processor outage: the set hears the SIPO and refuses it, and no message is asked for
  pub pauses : Leads (and_then (all_marked (sipo ∷ []) serving) (λ t. filled t))
      (got (Event.Heard 0 the_sipo) (Answer.Refused Refusal.Nothing) ∷ []) (λ f.
      (f.unit ≡ Some the_fisu) × (f.after.state ≡ State.InService true))

-- THE LINE.

-- turns with nothing taken, in which the door is asked nothing and these octets are put
abbrev pub Puts : Terminal → List ℕ → Type 0
Puts t [] = ⊤
Puts t (octet ∷ octets) = (after : Terminal) × IsTurn [] t None [] (octet ∷ []) [] after × Puts after octets

-- a flag; then SIO with header 127, 1, 127, 1 and check octets 27 E6, a zero inserted after each five ones; then a
-- flag, of which three bits are left (Q.703 2.2, 3.1, 3.2, 4.2)
abbrev pub SioGoesOut : Type 0
SioGoesOut = Puts (told Command.Start new) (0x7E ∷ 0xDF ∷ 0xF7 ∷ 0x0D ∷ 0x00 ∷ 0x38 ∷ 0x31 ∷ 0xF7 ∷ [])
