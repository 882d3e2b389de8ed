-- LAWS of turns by octets.
use Rattle.std.specs.Prelude.{ℕ, List, Option}
use Rattle.l2_units.specs.declared.unit.Unit.{Unit as SignalUnit}
use Rattle.set_events.specs.declared.event.Actor.{Actor}
use Rattle.set_events.specs.declared.history.Entry.{Entry}
use Rattle.set_model.specs.History.{IsActor}
use Rattle.set_model.specs.State.{State}
use Rattle.term_bench.specs.Ends.{AtLink}
use Rattle.term_bench.specs.Turns.{IsOfTerminal, IsTurnBy}

abbrev pub TurnsAreOfTerminals : Type 0
TurnsAreOfTerminals =
    (octet : ℕ) (who : Actor) (s s' : State) (at at' : AtLink) (put : ℕ) (entries : List Entry)
    (unit : Option SignalUnit) → IsActor who → IsTurnBy octet who s at put entries unit s' at' → IsOfTerminal octet s at put entries s' at'
