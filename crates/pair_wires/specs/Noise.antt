-- LINES THAT ARE DAMAGED: where units end on a line, and that damage shows as loss.
use Rattle.std.specs.Prelude.{ℕ, suc, ◌+◌, ◌*◌, nat_le, List, [], ◌∷◌, ◌++◌, length, map, drop, take, Option, Some, None, slice_get, if◌then◌else◌}
use Rattle.term_bench.specs.Ends.{AtLink}
use Rattle.term_model.specs.Runs.{Doing, units_of}
use Rattle.pair_steps.specs.declared.step.End.{End}
use Rattle.pair_steps.specs.declared.step.End.TheVariants.{A, B}
use Rattle.pair_octets.specs.Flushed.{AreShort}
use Rattle.pair_octets.specs.Passing.{IsAskedApart, IsNarrowEnd, other, turns_in}
use Rattle.pair_octets.specs.Streams.{AreSound, IsOneMethod, IsSoundRun}
use Rattle.pair_octets.specs.Wires.{Wires, Happen, Happens, IsRun, new_wires, seen_from}
use Rattle.pair_octets.specs.declared.step.EndConfig.{EndConfig}
use Rattle.pair_octets.specs.declared.step.LineLengths.{LineLengths}
use Rattle.pair_octets.specs.declared.step.WireStep.{WireStep}
use Rattle.pair_octets.specs.declared.step.WireStep.TheVariants.{Turn, Command as CommandStep, Ask, Damage}
use Rattle.pair_wires.specs.Ways.{Counts, HearsSome, Ways, carried_in, no_ways, ways_by}

-- OF A LINE TO AN END: octets that came off it; octets that were put on it, those under way at first among them; and of each
-- unit under way, the foremost first, the bit of the line with which it ends: the last one of its closing flag (Q.703 2.2)
pub record Place : Type 0 where
  pub came : ℕ
  pub put : ℕ
  pub ends : List ℕ

abbrev pub Places : Type 0
Places = End → ℕ → Place

abbrev pub length_to : End → Option LineLengths → ℕ
length_to end None = 0
length_to A (Some line) = line.to_a
length_to B (Some line) = line.to_b

abbrev pub first_places : List LineLengths → Places
first_places lengths end link = record { came = 0; put = length_to end (slice_get lengths link); ends = [] }

-- UNITS COME with the octet in which they end: so many of these have come by that bit
abbrev pub come_by : ℕ → List ℕ → ℕ
come_by bits [] = 0
come_by bits (last ∷ ends) = if nat_le last bits then suc (come_by bits ends) else 0

-- in turns of that end: one at most
abbrev pub coming_in : List Doing → Place → ℕ
coming_in [] place = 0
coming_in (doing ∷ doings) place = come_by (8 * suc place.came) place.ends

-- WHERE A UNIT ENDS that is sent in a turn: behind all that was put by then, and the bits that its terminal has yet to put
abbrev pub bits_left : Option AtLink → ℕ
bits_left None = 0
bits_left (Some at) = length at.terminal.bits

abbrev pub ends_of : List Doing → ℕ → List ℕ
ends_of sends bits = map (λ unit. bits) (units_of sends)

-- a step: turns of that end, and turns of the other, which has so many bits left then
abbrev pub place_by : (hears sends : List Doing) → ℕ → Place → Place
place_by hears sends left place =
    let put = place.put + length sends in record {
      came = place.came + length hears;
      put = put;
      ends = drop (coming_in hears place) place.ends ++ ends_of sends (8 * put + left);
    }

abbrev pub places_after : (step : WireStep) (old new : Wires) → Happens step old new → Places → Places
places_after step old new happens places end link =
    place_by (turns_in end link step old new happens) (turns_in (other end) link step old new happens)
    (bits_left (slice_get (seen_from end new).far.links link)) (places end link)

abbrev pub counts_of : (step : WireStep) (old new : Wires) → Happens step old new → Places → Counts
counts_of step old new happens places end link = coming_in (turns_in end link step old new happens) (places end link)

-- DAMAGE SHOWS AS LOSS: what an end hears in a turn are some of the units that come with its octet, in order. So no unit of which
-- octets were damaged is heard, nor anything that damage made: their check bits tell (Q.703 4.2).
abbrev pub IfTurnHearsSome : (step : WireStep) (old new : Wires) → Happens step old new → Ways → Places → Type 0
IfTurnHearsSome (Turn end link) old new takes ways places =
    HearsSome takes.turns.takes.by_octet.marks (take (counts_of (Turn end link) old new takes places end link) (carried_in (ways end link)))
IfTurnHearsSome (CommandStep end link command) old new happens ways places = Unit {0}
IfTurnHearsSome (Ask end who event) old new happens ways places = Unit {0}
IfTurnHearsSome (Damage end link place octet) old new happens ways places = Unit {0}

abbrev pub ShowsAsLoss : (steps : List WireStep) (old new : Wires) → Happen steps old new → Ways → Places → Type 0
ShowsAsLoss [] old new happen ways places = Unit {0}
ShowsAsLoss (step ∷ steps) old new happen ways places =
    IfTurnHearsSome step old happen.0 happen.1 ways places
    × ShowsAsLoss steps happen.0 new happen.2 (ways_by (counts_of step old happen.0 happen.1 places) step old happen.0 happen.1 ways)
    (places_after step old happen.0 happen.1 places)

-- WHAT OTHERS ASK than the links' terminals is what users and level 3 ask
abbrev pub IsApart : WireStep → Type 0
IsApart (Turn end link) = Unit {0}
IsApart (CommandStep end link command) = Unit {0}
IsApart (Ask end who event) = IsAskedApart event
IsApart (Damage end link place octet) = Unit {0}

abbrev pub AreApart : List WireStep → Type 0
AreApart [] = Unit {0}
AreApart (step ∷ steps) = IsApart step × AreApart steps

-- A RUN ON SUCH LINES: each link's loop no longer than a proving period lasts, one method, and sound management
pub record IsSoundThroughNoise (a b : EndConfig) (lengths : List LineLengths) (steps : List WireStep) (w : Wires) (run : IsRun a b lengths steps w)
    : Type 0 where
  pub narrow_a : IsNarrowEnd a
  pub narrow_b : IsNarrowEnd b
  pub short : AreShort lengths
  pub one_method : IsOneMethod a.set.method b.set.method
  pub sound : AreSound steps
  pub asked : AreApart steps
  pub shows : ShowsAsLoss steps (new_wires a b lengths) w run.happen no_ways (first_places lengths)

-- LAW: an intact line loses nothing, so a sound run on intact lines is one through noise too
abbrev pub IntactLinesShowAsLoss : Type 0
IntactLinesShowAsLoss =
    (a b : EndConfig) (lengths : List LineLengths) (steps : List WireStep) (w : Wires) (run : IsSoundRun a b lengths steps w)
    → ShowsAsLoss steps (new_wires a b lengths) w run.run.happen no_ways (first_places lengths)
