-- THE BITS OF AN OCTET that was taken, and what their marks make of a terminal.
use Rattle.std.specs.Prelude.{◌≡◌, Bool, List, [], ◌∷◌, ◌++◌, Result, MatchResult}
use Rattle.l2_bits.specs.declared.deframing.Deframer.{Deframer}
use Rattle.l2_bits.specs.declared.marks.Mark.{Mark}
use Rattle.l2_bits.specs.Deframing.{StandsFor}
use Rattle.l2_bits.specs.Marks.{AreMarks}
use Rattle.set_events.specs.declared.history.Entry.{Entry}
use Rattle.set_events.specs.declared.fault.SetFault.{SetFault}
use Rattle.term_model.specs.Hearing.{all_marked}
use Rattle.term_model.specs.Runs.{counted, is_good, is_bad, is_sixteen}
use Rattle.link_term.specs.declared.counts.MarkCounts.{MarkCounts}
use Rattle.link_term.specs.Talking.{AtDoor, Gains, Breaks}

-- how many marks of each kind these are
abbrev pub counts_of : List Mark → MarkCounts
counts_of marks =
    record { good = counted is_good marks; bad = counted is_bad marks; sixteen = counted is_sixteen marks }

-- these bits were fed, and gave these marks
pub record Fed (past bits : List Bool) (marks : List Mark) (deframer : Deframer) : Type 0 where
  pub are : AreMarks past bits marks
  pub stands : StandsFor (past ++ bits) deframer

-- some marks
pub record FedSome (past bits : List Bool) (deframer : Deframer) : Type 0 where
  pub marks : List Mark
  pub fed : Fed past bits marks deframer

-- the marks of these bits were heard, in order
pub record HearsBits (past bits : List Bool) (before : AtDoor) (counts : MarkCounts) (after : AtDoor)
    (deframer : Deframer) : Type 0 where
  pub marks : List Mark
  pub fed : Fed past bits marks deframer
  pub gains : Gains (all_marked marks before.inside) before.asked.made after.asked.made after.inside
  pub counts_are : counts ≡ counts_of marks

-- a fault broke that off; all the bits were fed
pub record BreaksBits (past bits : List Bool) (before : AtDoor) (made' : List Entry) (deframer : Deframer) : Type 0 where
  pub marks : List Mark
  pub fed : Fed past bits marks deframer
  pub breaks : Breaks (all_marked marks before.inside) before.asked.made made'

abbrev pub Hears : List Bool → List Bool → AtDoor → Result MarkCounts SetFault → AtDoor → Deframer → Type 0
Hears past bits before result after deframer = MatchResult result
    (λ counts. HearsBits past bits before counts after deframer × (after.asked.faults ≡ before.asked.faults))
    (λ fault. BreaksBits past bits before after.asked.made deframer
    × (after.asked.faults ≡ before.asked.faults ++ fault ∷ []))
