-- A TURN BY AN OCTET, at the set itself.
use Rattle.std.specs.Prelude.{◌≡◌, ◌<◌, ◌≤◌, ◌↔◌, ℕ, ◌+◌, ◌*◌, ◌^◌, Bool, true, false, List, [], ◌∷◌, ◌++◌, length, Option, Some, slice_get, slice_set, if◌then◌else◌}
use Rattle.std.specs.Option.{ForSome, option_to_list}
use Rattle.l2_bits.specs.LineBits.{line_bits}
use Rattle.l2_bits.specs.declared.marks.Mark.{Mark}
use Rattle.l2_units.specs.declared.unit.Unit.{Unit as SignalUnit}
use Rattle.set_events.specs.declared.answer.Answer.{Answer}
use Rattle.set_events.specs.declared.answer.Took.{Took}
use Rattle.set_events.specs.declared.event.Actor.{Actor}
use Rattle.set_events.specs.declared.event.Actor.TheVariants.{Terminal as TerminalOf}
use Rattle.set_events.specs.declared.event.Event.{Event}
use Rattle.set_events.specs.declared.fault.SetFault.{SetFault}
use Rattle.set_events.specs.declared.history.Entry.{Entry}
use Rattle.set_model.specs.History.{LinkSet, IsLegal, after, entries_in, longest_history}
use Rattle.set_model.specs.State.{State}
use Rattle.term_model.specs.OctetIn.{GivesMarks}
use Rattle.term_model.specs.OctetOut.{PutsOctet}
use Rattle.term_model.specs.Runs.{counted, is_bad, is_good, is_sixteen}
use Rattle.term_model.specs.Terminal.{Terminal}
use Rattle.term_model.specs.Turn.{IsBrokenTurn, IsTurn, IsWideTurn, turn_talk}
use Rattle.link_term.specs.declared.fault.TermFault.{TermFault}
use Rattle.link_term.specs.Faults.{fault_of}
use Rattle.term_bench.specs.declared.counts.TurnCounts.{TurnCounts}
use Rattle.term_bench.specs.declared.turn.Turn.{Turn}
use Rattle.term_bench.specs.Ends.{AtLink, BenchState, word_of}
use Rattle.term_bench.specs.Late.{ended_from}
use Rattle.term_bench.specs.Talks.{entries_with, outcome_with, state_with}

-- MESSAGES that were heard for users
abbrev pub is_message : Took → Bool
is_message Took.Message = true
is_message _ = false

abbrev pub brings_message : Answer → Bool
brings_message (Answer.Heard report) = is_message report.took
brings_message _ = false

abbrev pub messages_heard : List Entry → ℕ
messages_heard [] = 0
messages_heard (entry ∷ entries) = (if brings_message entry.answer then 1 else 0) + messages_heard entries

-- one turn more is counted, with its marks and the unit that it appended
abbrev pub counts_after : TurnCounts → List Mark → Option SignalUnit → TurnCounts
counts_after counts marks unit = record {
  turns = counts.turns + 1;
  sent = counts.sent + length (option_to_list unit);
  good = counts.good + counted is_good marks;
  bad = counts.bad + counted is_bad marks;
  sixteen = counts.sixteen + counted is_sixteen marks;
}

-- a link takes so many turns at most (own)
abbrev pub most_turns : ℕ
most_turns = 2 ^ 48

-- so no count is ever too large
pub record AreFew (counts : TurnCounts) : Type 0 where
  pub turns : counts.turns ≤ most_turns
  pub sent : counts.sent ≤ counts.turns
  pub good : counts.good ≤ 255 * counts.turns
  pub bad : counts.bad ≤ 255 * counts.turns
  pub sixteen : counts.sixteen ≤ 255 * counts.turns

-- A TURN of a link's terminal by this octet: the octet that it puts, the entries that it makes at a set that holds s,
-- the unit that it appends, if any; and what the set and the link hold then. The bits that wait stay.
pub record IsTurnBy (octet : ℕ) (who : Actor) (s : State) (at : AtLink) (put : ℕ) (entries : List Entry)
    (unit : Option SignalUnit) (s' : State) (at' : AtLink) : Type 0 where
  pub marks : List Mark
  pub gives : GivesMarks (line_bits at.heard) (Some octet) marks
  pub entries_are : entries ≡ entries_with (turn_talk marks at.terminal) who s
  pub state_is : s' ≡ state_with (turn_talk marks at.terminal) s
  pub narrow : (outcome_with (turn_talk marks at.terminal) s).narrow ≡ true
  pub unit_is : unit ≡ (outcome_with (turn_talk marks at.terminal) s).unit
  pub puts : PutsOctet (outcome_with (turn_talk marks at.terminal) s) (put ∷ []) at'.terminal
  pub at_is : at' ≡ record at {
    terminal = at'.terminal;
    heard = at.heard ++ octet ∷ [];
    counts = counts_after at.counts marks unit;
  }

-- LAW: such a turn is a terminal's, at a door that answers by the set's step; its entries are legal
pub record IsOfTerminal (octet : ℕ) (s : State) (at : AtLink) (put : ℕ) (entries : List Entry) (s' : State)
    (at' : AtLink) : Type 0 where
  pub marks : List Mark
  pub turn : IsTurn (line_bits at.heard) at.terminal (Some octet) entries (put ∷ []) marks at'.terminal
  pub legal : IsLegal s entries
  pub leads : after s entries ≡ s'

-- what the turn did is told: its number, the octet that it put, the messages that were heard, the unit that was appended,
-- how the link stood and stands, and why it failed last; and the set goes on from the same base
pub record TakesTurn (link octet : ℕ) (set : LinkSet) (was : AtLink) (turn : Turn) (unit : Option SignalUnit)
    (set' : LinkSet) (now : AtLink) : Type 0 where
  pub entries : List Entry
  pub by_octet : IsTurnBy octet (TerminalOf link) set.state was turn.put entries unit set'.state now
  pub base_is : set'.base ≡ set.base
  pub history_is : set'.history ≡ set.history ++ entries
  pub messages_are : turn.messages ≡ messages_heard entries
  pub sent_is : turn.sent ≡ length (option_to_list unit)
  pub before_is : turn.before ≡ word_of was.terminal
  pub after_is : turn.after ≡ word_of now.terminal
  pub number_is : turn.number ≡ now.counts.turns
  pub cause_is : turn.cause ≡ now.terminal.cause

-- THE BENCH TOOK A TURN of this link: no other link changed, but that each about which the set heard a changeover order late
-- is told to stop
pub record Turns (link octet : ℕ) (old : BenchState) (turn : Turn) (unit : Option SignalUnit) (new : BenchState)
    : Type 0 where
  pub was : AtLink
  pub now : AtLink
  pub is_at : slice_get old.links link ≡ Some was
  pub takes : TakesTurn link octet old.set was turn unit new.set now
  pub links_are : new.links ≡ ended_from 0 old.set.state new.set.state (slice_set old.links link now)

-- before that: no other link changed
pub record TurnsAlone (link octet : ℕ) (old : BenchState) (turn : Turn) (unit : Option SignalUnit) (new : BenchState)
    : Type 0 where
  pub was : AtLink
  pub now : AtLink
  pub is_at : slice_get old.links link ≡ Some was
  pub takes : TakesTurn link octet old.set was turn unit new.set now
  pub links_are : new.links ≡ slice_set old.links link now

-- these entries are this actor's
abbrev pub AreBy : Actor → List Entry → Type 0
AreBy who [] = Unit {0}
AreBy who (entry ∷ entries) = (entry.who ≡ who) × AreBy who entries

-- A FAULT OF A SET that had so many entries before, and so many after: Exhausted exactly where its history was full
pub record IsTold (from to : ℕ) (fault : SetFault) : Type 0 where
  pub entries : ℕ
  pub begun : from ≤ entries
  pub ended : entries ≤ to
  pub full : (fault ≡ SetFault.Exhausted) ↔ (longest_history ≤ entries)

-- A TURN BY THIS OCTET FAILED, after these entries: the set told a fault in place of an answer, or it gave a unit of the wide
-- profile, whose entry stays, and the terminal is left as it was when it asked for that. By then it took the octet, or nothing yet.
pub data FailsBy (octet : ℕ) (fault : TermFault) (heard heard' : List ℕ) (before after : Terminal) (set set' : LinkSet)
    (entries : List Entry) : Type 0 where
  by_set : (told : SetFault) (came : Option ℕ) (last : Event) → fault ≡ fault_of told
      → IsTold (entries_in set) (entries_in set') told → ForSome came (λ o. o ≡ octet)
      → heard' ≡ heard ++ option_to_list came → IsBrokenTurn (line_bits heard) before came entries last
      → FailsBy octet fault heard heard' before after set set' entries
  by_wide : (came : Option ℕ) → fault ≡ TermFault.Profile → ForSome came (λ o. o ≡ octet)
      → heard' ≡ heard ++ option_to_list came → (turn : IsWideTurn (line_bits heard) before came entries) → after ≡ turn.chosen.after
      → FailsBy octet fault heard heard' before after set set' entries

-- WHY A TURN OF A LINK WAS BROKEN OFF: it had taken all its turns, or a turn of it was broken off before, and nothing was done;
-- or this one failed
pub data IsWhy (octet : ℕ) (fault : TermFault) (set set' : LinkSet) (was now : AtLink) (entries : List Entry)
    : Type 0 where
  no_turn_left : fault ≡ TermFault.Exhausted → was.counts.turns ≡ most_turns → now ≡ was → entries ≡ []
      → IsWhy octet fault set set' was now entries
  had_failed : fault ≡ TermFault.Failed → was.failed ≡ true → now ≡ was → entries ≡ []
      → IsWhy octet fault set set' was now entries
  fails_now : was.failed ≡ false → FailsBy octet fault was.heard now.heard was.terminal now.terminal set set' entries
      → IsWhy octet fault set set' was now entries

-- it isn't counted, the bits that wait stay, and each later turn fails
pub record BreaksOff (octet : ℕ) (fault : TermFault) (set set' : LinkSet) (was now : AtLink) (entries : List Entry)
    : Type 0 where
  pub why : IsWhy octet fault set set' was now entries
  pub counts_are : now.counts ≡ was.counts
  pub waiting_are : now.waiting ≡ was.waiting
  pub fails : was.counts.turns < most_turns → now.failed ≡ true

-- THE BENCH BROKE A TURN OFF of this link, by this fault: what the set was asked till then stands in its history
pub record Breaks (link octet : ℕ) (fault : TermFault) (old new : BenchState) : Type 0 where
  pub was : AtLink
  pub now : AtLink
  pub entries : List Entry
  pub is_at : slice_get old.links link ≡ Some was
  pub off : BreaksOff octet fault old.set new.set was now entries
  pub links_are : new.links ≡ slice_set old.links link now
  pub base_is : new.set.base ≡ old.set.base
  pub history_is : new.set.history ≡ old.set.history ++ entries
  pub by : AreBy (TerminalOf link) entries
