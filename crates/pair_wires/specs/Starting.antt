-- WHERE EACH LINK STANDS in a sound run of two benches on lines: up at the set where its terminal serves it alone, and
-- settled there while it's on its way into service.
use Rattle.std.specs.Prelude.{◌≡◌, ℕ, true, List, Some, slice_get}
use Rattle.set_model.specs.State.{State, is_settled}
use Rattle.term_asks.specs.Asking.{out, standing_of, IsCommandedSo, IsOrdinary}
use Rattle.term_bench.specs.Ends.{AtLink}
use Rattle.term_model.specs.Terminal.{Terminal}
use Rattle.pair_steps.specs.declared.step.End.{End}
use Rattle.pair_octets.specs.Streams.{IsSoundRun}
use Rattle.pair_octets.specs.Wires.{Wires, seen_from}
use Rattle.pair_octets.specs.declared.step.EndConfig.{EndConfig}
use Rattle.pair_octets.specs.declared.step.LineLengths.{LineLengths}
use Rattle.pair_octets.specs.declared.step.WireStep.{WireStep}
use Rattle.pair_wires.specs.Standing.{StandsAt}

pub record IsLinkSo (link : ℕ) (t : Terminal) (s : State) : Type 0 where
  pub number : t.link ≡ link
  pub ordinary : IsOrdinary t
  pub commanded : IsCommandedSo t
  pub stands : StandsAt link (standing_of t) s
  -- it's started only where the set has settled it
  pub starts : t.commands.start ≡ true → standing_of t ≡ out → is_settled link s ≡ true

-- LAW
abbrev pub EachLinkStandsSo : Type 0
EachLinkStandsSo =
    (a b : EndConfig) (lengths : List LineLengths) (steps : List WireStep) (w : Wires) → IsSoundRun a b lengths steps w → (end : End)
    (link : ℕ) (at : AtLink) → slice_get (seen_from end w).near.links link ≡ Some at
    → IsLinkSo link at.terminal (seen_from end w).near.set.state
