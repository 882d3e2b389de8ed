-- The table of the management of a link (Q.704 5, 6, 12.2; Q.707 2): a row for each state and what is seen or ends.
use Rattle.std.specs.Prelude.{◌-◌, Bool, true, false, not, ◌&&◌, ◌||◌, Option, Some, None, if◌then◌else◌}
use Rattle.l3_link.specs.Lengths.{runs, is_over, lessened, no_clocks}
use Rattle.l3_link.specs.Management.{Management, is_off, is_rest, is_rising, is_out, is_paused, is_settled, is_up, is_left}
use Rattle.l3_link.specs.declared.clocks.Clocks.{Clocks}
use Rattle.l3_link.specs.declared.management.Awaited.{Awaited}
use Rattle.l3_link.specs.declared.management.State.{State}
use Rattle.l3_link.specs.declared.signals.Ask.{Ask}
use Rattle.l3_link.specs.declared.signals.Phase.{Phase}
use Rattle.l3_link.specs.declared.signals.Seen.{Seen}
use Rattle.l3_link.specs.declared.times.Times.{Times}

-- what a row does: what is asked, and the management afterwards
pub record Row : Type 0 where
  pub asked : Option Ask
  pub next : Management

-- nothing is asked
abbrev pub silent : Management → Row
silent m = record { asked = None; next = m }

abbrev pub asking : Ask → Management → Row
asking ask m = record { asked = Some ask; next = m }

-- WHAT THE ROWS BUILD ON

abbrev pub with_clocks : Clocks → Management → Management
with_clocks c m = record m { clocks = c }

-- timers that start, anew if they run, and that stop; P has T1's length
abbrev pub t1_starts : Times → Clocks → Clocks
t1_starts times c = record c { t1 = Some times.t1 }

abbrev pub t2_starts : Times → Clocks → Clocks
t2_starts times c = record c { t2 = Some times.t2 }

abbrev pub p_starts : Times → Clocks → Clocks
p_starts times c = record c { p = Some times.t1 }

abbrev pub t1_t2_stop : Clocks → Clocks
t1_t2_stop c = record c { t1 = None; t2 = None }

abbrev pub t17_stops : Clocks → Clocks
t17_stops c = record c { t17 = None }

abbrev pub p_stops : Clocks → Clocks
p_stops c = record c { p = None }

-- a test goes out, and its answer is awaited while K1 runs (Q.707 2.2)
abbrev pub testing : State → Management → Row
testing state m = asking Ask.Test (record m { state = state; clocks = record m.clocks { k1 = Some m.times.k1 } })

-- CARRY: streams are asked back to the link (Q.704 6.2); T4 starts where the answer is Done
abbrev pub carrying : Management → Row
carrying m = asking Ask.Restore (record m {
  state = State.Carry;
  clocks = record m.clocks { k1 = None };
  awaited = Awaited.Restore;
})

-- a test is passed: the next one is due when K2 ends
abbrev pub passed : Management → Management
passed m = with_clocks (record m.clocks { k1 = None; k2 = Some m.times.k2 }) m

-- the link is up: it's tested before it carries traffic, where there are tests (Q.704 12.2.2)
abbrev pub came_up : Management → Row
came_up m =
    let up = with_clocks (t17_stops m.clocks) m in
    if m.tests then testing State.Trial1 up else carrying up

-- RISE: the link is told to start, in an emergency where no other carries traffic (Q.704 12.2.2)
abbrev pub rising : Management → Row
rising m = asking (Ask.Rise (not m.seen.others)) (record m { state = State.Rising })

-- WHAT IS SEEN BEHIND A TURN

-- level 2 goes out of service; a link that was told to start goes so too where it's still out behind its next turn,
-- since Start wasn't obeyed then
abbrev pub goes_out : Seen → Management → Bool
goes_out s m = is_out s.level2 && (not (is_out m.seen.level2) || is_rising m.state)

-- any but Off: it rests until T17 ends (Q.704 12.2.2); of the other timers T1 and T2 alone run on
abbrev pub gone_out : Management → Management
gone_out m = record m {
  state = State.Rest;
  clocks = record no_clocks { t1 = m.clocks.t1; t2 = m.clocks.t2; t17 = Some m.times.t17 };
}

-- any but Off: the rows of a link that doesn't go out. `alone`: no other link carries traffic any more.
abbrev pub at_work : State → Bool → Management → Row
-- whoever started it: it's tested like one that rose (own)
at_work State.Rest alone m = if is_up m.seen.phase then came_up m else silent m
-- where others end, an alignment goes on in emergency (Q.704 12.2)
at_work State.Rising alone m =
    if is_up m.seen.phase then came_up m else if alone then asking Ask.Emergency m else silent m
at_work State.Trial1 alone m = if m.seen.passed then carrying (passed m) else silent m
at_work State.Trial2 alone m = if m.seen.passed then carrying (passed m) else silent m
at_work State.Again1 alone m = if m.seen.passed then silent (record (passed m) { state = State.Carry }) else silent m
at_work State.Again2 alone m = if m.seen.passed then silent (record (passed m) { state = State.Carry }) else silent m
at_work _ alone m = silent m

-- While the link is left T2 runs, for the far end's answer (Q.704 5.7.2); or T1, where no other carries traffic when it
-- is left, so that no order can go out (5.6.2)
abbrev pub changeover : Seen → Times → Clocks → Clocks
changeover s times c =
    if not (is_left s.phase) then t1_t2_stop c else
    if runs c.t1 || runs c.t2 then c else
    if s.others then t2_starts times c else t1_starts times c

-- P, of T1's length, runs while the far end has a processor outage (Q.703 8; own)
abbrev pub outage : Seen → Times → Clocks → Clocks
outage s times c =
    if not (is_paused s.level2) then p_stops c else if runs c.p then c else p_starts times c

-- what was seen is kept
abbrev pub looking : Seen → Management → Management
looking s m = record m {
  seen = s;
  clocks = outage s m.times (changeover s m.times m.clocks);
  awaited = Awaited.Nothing;
}

-- the row by what is seen
unfoldable pub seeing : Seen → Management → Row
seeing s m =
    if goes_out s m then silent (gone_out (looking s m))
    else at_work m.state (m.seen.others && not s.others) (looking s m)

-- WHERE TIMERS END

-- A timer that a row starts is lessened in the same turn; one that starts where another ends, in the next one.
abbrev pub less : Management → Management
less m = with_clocks (lessened m.clocks) m

-- T1 with hopes, that is where another link rises and may take the orders: T1 anew, so that one link is given up at a
-- time (own)
abbrev pub t1_anew : Management → Management
t1_anew m =
    if is_over m.clocks.t1 && m.seen.hopes then with_clocks (t1_starts m.times m.clocks) m else m

-- T17: a link at rest whose T17 doesn't run is due
abbrev pub due : Management → Management
due m = if is_over m.clocks.t17 then with_clocks (t17_stops m.clocks) m else m

-- P where no other link carries traffic: P anew
abbrev pub p_anew : Management → Management
p_anew m =
    if is_over m.clocks.p && not m.seen.others then with_clocks (p_starts m.times m.clocks) m else m

-- timers are lessened, and those end at whose end nothing is asked
unfoldable pub count_down : Management → Management
count_down m = p_anew (due (t1_anew (less m)))

-- T1, T2: Timed, whose refusal decides what then (Q.704 5.6.2, 5.7.2)
abbrev pub t1_ends : Management → Row
t1_ends m = asking Ask.Timed (record m { clocks = record m.clocks { t1 = None }; awaited = Awaited.TimedAtT1 })

abbrev pub t2_ends : Management → Row
t2_ends m = asking Ask.Timed (record m { clocks = record m.clocks { t2 = None }; awaited = Awaited.TimedAtT2 })

-- T4: the changeback is declared once more, and T5 starts (Q.704 6.3)
abbrev pub t4_ends : Management → Row
t4_ends m = asking Ask.Redeclare (with_clocks (record m.clocks { t4 = None; t5 = Some m.times.t5 }) m)

-- T5: streams change back with no answer (Q.704 6.3)
abbrev pub t5_ends : Management → Row
t5_ends m = asking Ask.BackTimeout (with_clocks (record m.clocks { t5 = None }) m)

-- K1: a second test; behind that the link has failed its test and is stopped (Q.707 2.2)
abbrev pub k1_ends : State → Management → Row
k1_ends State.Trial1 m = testing State.Trial2 m
k1_ends State.Again1 m = testing State.Again2 m
k1_ends _ m = asking Ask.Stop (record m { state = State.Rising; clocks = record m.clocks { k1 = None } })

-- K2: the link is tested again (Q.707 2.2)
abbrev pub k2_ends : Management → Row
k2_ends m = testing State.Again1 (with_clocks (record m.clocks { k2 = None }) m)

-- P, where another link carries traffic: the link is stopped, so that its messages change over (own)
abbrev pub p_ends : Management → Row
p_ends m = asking Ask.Stop (with_clocks (p_stops m.clocks) m)

-- a link that is due rises where it's settled (Q.704 12.2.2)
abbrev pub risen : Management → Row
risen m = if is_rest m.state && not (runs m.clocks.t17) && is_settled m.seen.phase then rising m else silent m

-- the first timer that has ended; where none has, a link that is due
unfoldable pub acted : Management → Row
acted m =
    if is_over m.clocks.t1 then t1_ends m else
    if is_over m.clocks.t2 then t2_ends m else
    if is_over m.clocks.t4 then t4_ends m else
    if is_over m.clocks.t5 then t5_ends m else
    if is_over m.clocks.k1 then k1_ends m.state m else
    if is_over m.clocks.k2 then k2_ends m else
    if is_over m.clocks.p then p_ends m else risen m

-- THE INPUTS

-- what a row asks comes first; where it asks nothing, the ends of timers ask
abbrev pub behind : Option Ask → Management → Row
behind None m = acted m
behind (Some ask) m = asking ask m

-- a turn of an activated link
abbrev pub in_turn : Seen → Management → Row
in_turn s m = let r = seeing s m in behind r.asked (count_down r.next)

abbrev pub turned : Seen → Management → Row
turned s m = if is_off m.state then silent m else in_turn s m

-- Off, Activate: the link is due, and goes on as in a turn
abbrev pub activated : Seen → Management → Row
activated s m = in_turn s (record m { state = State.Rest; seen = s })

-- any but Off, Deactivate: all timers stop
abbrev pub deactivated : Management → Row
deactivated m = asking Ask.Stop (record m { state = State.Off; clocks = no_clocks; awaited = Awaited.Nothing })

-- the set has settled the link: it's left no more
abbrev pub settled : Management → Management
settled m = record m {
  seen = record m.seen { phase = Phase.Settled };
  clocks = t1_t2_stop m.clocks;
}

-- T2 starts: the far end may answer yet
abbrev pub waiting_on : Management → Management
waiting_on m = with_clocks (t2_starts m.times m.clocks) m

-- what was asked last was done, or refused
abbrev pub answers : Awaited → Bool → Management → Row
-- CARRY: T4 starts, and is lessened in the same turn
answers Awaited.Restore true m = acted (with_clocks (record m.clocks { t4 = Some (m.times.t4 - 1) }) m)
answers Awaited.TimedAtT1 true m = acted (settled m)
answers Awaited.TimedAtT2 true m = acted (settled m)
answers Awaited.NoAnswer true m = acted (settled m)
-- Timed is refused where its order was sent
answers Awaited.TimedAtT1 false m = acted (waiting_on m)
answers Awaited.TimedAtT2 false m = asking Ask.NoAnswer (record m { awaited = Awaited.NoAnswer })
-- no set refuses that of a link that was left; T2 anew, so that it's asked again
answers Awaited.NoAnswer false m = acted (waiting_on m)
answers _ done m = acted m

abbrev pub answered : Bool → Management → Row
answered done m = answers m.awaited done (record m { awaited = Awaited.Nothing })
