-- HOW A TERMINAL STANDS, before a turn and after it.
use Rattle.std.specs.Prelude.{ℕ, Bool, List}
use Rattle.set_events.specs.declared.fault.SetFault.{SetFault}
use Rattle.set_events.specs.declared.history.Entry.{Entry}
use Rattle.term_model.specs.Terminal.{Terminal}
use Rattle.line_ring.specs.declared.line.Line as line_end
use Rattle.link_term.specs.declared.door.Door as set_door
use Rattle.link_term.specs.Looking.{Seen, seen}

-- THE WORKS of a terminal: their inside, the octets that they took, and whether a turn was broken off
pub record WorksState : Type 0 where
  pub inside : Terminal
  pub taken : List ℕ
  pub failed : Bool

-- A TERMINAL: the same, with its door and its line
pub record TerminalState (D L : Type 0) : Type 0 where
  pub door : D
  pub line : L
  pub inside : Terminal
  pub taken : List ℕ
  pub failed : Bool

-- works, and the door and the line that are lent to them
abbrev pub lent : {D L : Type 0} → WorksState → D → L → TerminalState D L
lent works door line =
    record { door = door; line = line; inside = works.inside; taken = works.taken; failed = works.failed }

-- AS WHOEVER TAKES ITS TURNS CAN TELL: the octets that it took, its inside, the entries that its door made, the faults that
-- its door answered, and what it sees of its line
pub record Standing : Type 0 where
  pub taken : List ℕ
  pub inside : Terminal
  pub made : List Entry
  pub faults : List SetFault
  pub line : Seen

abbrev pub standing : List ℕ → Terminal → List Entry → List SetFault → Seen → Standing
standing taken inside made faults line =
    record { taken = taken; inside = inside; made = made; faults = faults; line = line }

-- what this end of a line gave, knows to wait, took, and knows to be free
abbrev pub seen_of : {L : Type 0} → line_end.Ghosts L → L → Seen
seen_of l line = seen (l.taken_so_far line) (l.waiting line) (l.put_so_far line) (l.free line)

abbrev pub standing_at : {D L : Type 0} → set_door.Ghosts D → line_end.Ghosts L → List ℕ → Terminal → D → L → Standing
standing_at d l taken inside door line = standing taken inside (d.made door) (d.faults door) (seen_of l line)

abbrev pub stands : {D L : Type 0} → set_door.Ghosts D → line_end.Ghosts L → TerminalState D L → Standing
stands d l t = standing_at d l t.taken t.inside t.door t.line
