-- A LINK THAT IS READY IS FLUSHED: it has heard all that the far end had sent when its proving hadn't begun. A proving period lasts
-- 4,096 octet times at least (Q.703 7.4), longer than what may be under way and what is left of a unit that was begun.
use Rattle.std.specs.Prelude.{◌≡◌, ◌≤◌, ℕ, ◌+◌, false, List, [], ◌∷◌, ◌++◌, map, Option, Some, slice_get}
use Rattle.l2_units.specs.declared.unit.Unit.{Unit as SignalUnit}
use Rattle.term_bench.specs.Ends.{AtLink}
use Rattle.term_late.specs.Late.{Waits, is_before}
use Rattle.term_model.specs.Hearing.{unit_in}
use Rattle.term_model.specs.Runs.{Doing, marks_of, units_of}
use Rattle.pair_steps.specs.declared.step.End.{End}
use Rattle.pair_octets.specs.Wires.{Wires, Happen, IsRun, seen_from}
use Rattle.pair_octets.specs.Passing.{AreIntact, IsOnIntactLines, all_turns, other}
use Rattle.pair_octets.specs.declared.step.EndConfig.{EndConfig}
use Rattle.pair_octets.specs.declared.step.LineLengths.{LineLengths}
use Rattle.pair_octets.specs.declared.step.WireStep.{WireStep}

-- PREMISE: at most so many octets are under way on each link, both ways together, at first. (Each turn takes one and puts one, so
-- as many are for ever.) It's a proving period less 335 octets, the longest rest of a unit, and a little (own).
abbrev pub most_under_way : ℕ
most_under_way = 3700

abbrev pub AreShort : List LineLengths → Type 0
AreShort [] = Unit {0}
AreShort (line ∷ lines) = (line.to_a + line.to_b ≤ most_under_way) × AreShort lines

-- all units that those turns sent were heard by these, in order, and then what came later
abbrev pub AreAllHeard : List Doing → List Doing → Type 0
AreAllHeard sends hears =
    (later : List (Option SignalUnit)) × (map unit_in (marks_of hears) ≡ map (λ unit. Some unit) (units_of sends) ++ later)

-- LAW: a proving period is ahead of a link at some moment, as of one that is out of service; later it's ready, or in service. By then
-- it has heard all that was sent to it up to that moment.
abbrev pub EachReadyLinkIsFlushed : Type 0
EachReadyLinkIsFlushed =
    (a b : EndConfig) (lengths : List LineLengths) (first second : List WireStep) (mid w : Wires) (run : IsRun a b lengths first mid)
    (goes_on : Happen second mid w) → AreShort lengths → IsOnIntactLines a b first → AreIntact second → (end : End) (link : ℕ) (was now : AtLink)
    → slice_get (seen_from end mid).near.links link ≡ Some was → Waits 4096 was.terminal
    → slice_get (seen_from end w).near.links link ≡ Some now → is_before now.terminal.state ≡ false
    → AreAllHeard (all_turns (other end) link first _ mid run.happen)
    (all_turns end link first _ mid run.happen ++ all_turns end link second mid w goes_on)
