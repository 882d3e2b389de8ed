-- A TURN WITH AN OCTET of a line that has no other, at the set itself: what is taken, made and put.
use Rattle.std.specs.Prelude.{◌≡◌, ℕ, true, List, [], ◌∷◌, ◌++◌, Option, Some}
use Rattle.l2_bits.specs.LineBits.{line_bits}
use Rattle.l2_bits.specs.declared.marks.Mark.{Mark}
use Rattle.l2_units.specs.declared.unit.Unit.{Unit as SignalUnit}
use Rattle.link_term.specs.Filling.{with_unit}
use Rattle.link_term.specs.Octets.{counts_of}
use Rattle.link_term.specs.declared.counts.Turned.{Turned}
use Rattle.set_events.specs.declared.event.Actor.TheVariants.{Terminal as TerminalOf}
use Rattle.set_events.specs.declared.history.Entry.{Entry}
use Rattle.set_model.specs.History.{LinkSet}
use Rattle.term_model.specs.OctetIn.{GivesMarks}
use Rattle.term_model.specs.OctetOut.{PutsOctet}
use Rattle.term_model.specs.Terminal.{Terminal}
use Rattle.term_model.specs.Turn.{turn_talk}
use Rattle.term_bench.specs.Talks.{entries_with, outcome_with, state_with}
use Rattle.term_bench.specs.Turns.{messages_heard}

pub record Takes (link octet : ℕ) (set set' : LinkSet) (heard : ℕ) (taken taken' : List ℕ) (before after : Terminal)
    (put : ℕ) (turned : Turned) (unit : Option SignalUnit) : Type 0 where
  pub marks : List Mark
  pub entries : List Entry
  pub gives : GivesMarks (line_bits taken) (Some octet) marks
  pub entries_are : entries ≡ entries_with (turn_talk marks before) (TerminalOf link) set.state
  pub state_is : set'.state ≡ state_with (turn_talk marks before) set.state
  pub narrow : (outcome_with (turn_talk marks before) set.state).narrow ≡ true
  pub unit_is : unit ≡ (outcome_with (turn_talk marks before) set.state).unit
  pub puts : PutsOctet (outcome_with (turn_talk marks before) set.state) (put ∷ []) after
  pub taken_is : taken' ≡ taken ++ octet ∷ []
  pub base_is : set'.base ≡ set.base
  pub history_is : set'.history ≡ set.history ++ entries
  pub heard_is : heard ≡ messages_heard entries
  pub marks_are : turned.marks ≡ counts_of marks
  pub filling_is : turned.filling ≡ with_unit unit
