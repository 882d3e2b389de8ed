-- Laws above the table, over all runs.
use Rattle.std.specs.Prelude.{◌≡◌, ◌≤◌, Bool, true, false, not, ◌||◌, List, [], ◌∷◌, ◌++◌, Some, None, IsTrue, if◌then◌else◌}
use Rattle.std.specs.List.{list_any}
use Rattle.l3_link.specs.Lengths.{within, no_clocks}
use Rattle.l3_link.specs.Management.{Management, is_left, is_off, is_settled, is_up}
use Rattle.l3_link.specs.Table.{goes_out}
use Rattle.l3_link.specs.Runs.{Input, deactivate, turn, step, after, run, AsksNothing, is_activate, answered_by, ends_left, is_deactivate, is_refused, is_rise, is_timed, sees, settled_by, turns}
use Rattle.l3_link.specs.declared.management.State.{State}
use Rattle.l3_link.specs.declared.signals.Seen.{Seen}
use Rattle.l3_link.specs.declared.times.Times.{Times}

-- A deactivated link is Off and none of its timers runs; until it's activated it stays as it is and asks nothing.
abbrev pub OffIsSilent : Type 0
OffIsSilent =
    (times : Times) (tests : Bool) (past since : List Input) → list_any is_activate since ≡ false →
    let off = (step (run times tests past) deactivate).next in
    (off.state ≡ State.Off) × (off.clocks ≡ no_clocks) × (after off since ≡ off) × AsksNothing off since

-- What a link waits for, for at most a timer's length: at rest T17, or T1 or T2 since it was left, or that it came up,
-- on which its next turn acts; tested, K1; carrying, K2 where there are tests. A rising link waits for level 2, whose own
-- timers bring it up or put it out.
abbrev pub is_attended : State → Management → Bool
is_attended State.Rest m = within m.times.t17 m.clocks.t17 || (within m.times.t1 m.clocks.t1
    || (within m.times.t2 m.clocks.t2 || is_up m.seen.phase))
is_attended State.Trial1 m = within m.times.k1 m.clocks.k1
is_attended State.Trial2 m = within m.times.k1 m.clocks.k1
is_attended State.Again1 m = within m.times.k1 m.clocks.k1
is_attended State.Again2 m = within m.times.k1 m.clocks.k1
is_attended State.Carry m = not m.tests || within m.times.k2 m.clocks.k2
is_attended _ m = true

-- Wherever an input was taken and nothing more is asked, an activated link waits for something that comes: so a link at rest is started or
-- given up, and one that carries traffic is tested again.
abbrev pub NeverLeftWaiting : Type 0
NeverLeftWaiting =
    (times : Times) (tests : Bool) (past : List Input) (input : Input) →
    let m = run times tests past in
    let r = step m input in
    is_refused m input ≡ false → r.asked ≡ None → IsTrue (is_attended r.next.state r.next)

-- Since a link went out of service it isn't told to start before so many turns as T17 has, unless it's deactivated.
abbrev pub StartsAfterT17 : Type 0
StartsAfterT17 =
    (times : Times) (tests : Bool) (past : List Input) (s : Seen) (since : List Input) (input : Input) →
    let m = run times tests past in
    is_off m.state ≡ false → goes_out s m ≡ true → list_any is_deactivate since ≡ false →
    is_rise (step (after m (turn s ∷ since)) input).asked ≡ true →
    m.times.t17 ≤ turns (turn s ∷ since ++ input ∷ [])

-- A link is told to start only where it was seen settled, or the set has settled it since.
abbrev pub StartsSettled : Type 0
StartsSettled =
    (times : Times) (tests : Bool) (past : List Input) (input : Input) (s : Seen) (answers : List Bool) →
    let m = run times tests past in
    let r = step m input in
    sees m input ≡ Some s → is_rise (answered_by r answers).asked ≡ true →
    (is_settled s.phase || settled_by r answers) ≡ true

-- Since a link was left, and while it stays so, its changeover isn't to go on without an answer before so many turns
-- as T1 has, or T2 where another link carried traffic then.
abbrev pub TimedAfterWait : Type 0
TimedAfterWait =
    (times : Times) (tests : Bool) (past : List Input) (s : Seen) (since : List Input) (input : Input) →
    let m = run times tests past in
    is_off m.state ≡ false → is_left m.seen.phase ≡ false → is_left s.phase ≡ true →
    list_any ends_left since ≡ false → is_timed (step (after m (turn s ∷ since)) input).asked ≡ true →
    (if s.others then m.times.t2 else m.times.t1) ≤ turns (turn s ∷ since ++ input ∷ [])
