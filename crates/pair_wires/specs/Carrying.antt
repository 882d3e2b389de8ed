-- EVERY SOUND RUN OF TWO BENCHES CARRIES STREAMS: what users took of a stream at one end is the first of what was offered at the
-- other, whatever the lines' lengths, whichever end takes its turns when, and whichever links are started, stopped and
-- fail; on intact lines, and on damaged ones, where damage shows as loss.
use Rattle.std.specs.Prelude.{◌≡◌, ◌≤◌, ◌<◌, ℕ, List, ◌++◌}
use Rattle.set_model.specs.Checkpoint.{counts_in}
use Rattle.set_model.specs.History.{entries_in, longest_history}
use Rattle.term_bench.specs.Ends.{BenchState}
use Rattle.pair_streams.specs.Arrived.{AreDone}
use Rattle.pair_octets.specs.Streams.{Arrives, IsSoundRun, IsSoundly, of_stream, offered_in, taken_in}
use Rattle.pair_octets.specs.Wires.{Wires, IsRun}
use Rattle.pair_octets.specs.declared.step.EndConfig.{EndConfig}
use Rattle.pair_octets.specs.declared.step.LineLengths.{LineLengths}
use Rattle.pair_octets.specs.declared.step.WireStep.{WireStep}
use Rattle.pair_wires.specs.Noise.{IsSoundThroughNoise}

-- no history is longer than a set keeps: one that's full is asked nothing more
pub record HaveRoom (w : Wires) : Type 0 where
  pub a : entries_in w.a.set ≤ longest_history
  pub b : entries_in w.b.set ≤ longest_history

-- WHERE NOTHING IS PENDING at either end, by the counts of users' messages: each is acknowledged (or discarded, as in a sound run
-- none is)
pub record IsNonePending (w : Wires) : Type 0 where
  pub at_a : AreDone (counts_in w.a.set.state)
  pub at_b : AreDone (counts_in w.b.set.state)

-- what was taken of a stream at the far end, and then what waits there for users, is all that was offered at the near one
abbrev pub ArrivesWhole : ℕ → BenchState → BenchState → Type 0
ArrivesWhole stream near far =
    of_stream stream (taken_in far.set.history) ++ of_stream stream far.set.state.inbox ≡ of_stream stream (offered_in near.set.history)

-- A STREAM IS CARRIED, in both directions
pub record IsCarried (w : Wires) (stream : ℕ) : Type 0 where
  pub to_b : Arrives stream w.a w.b
  pub to_a : Arrives stream w.b w.a
  pub all_to_b : IsNonePending w → ArrivesWhole stream w.a w.b
  pub all_to_a : IsNonePending w → ArrivesWhole stream w.b w.a

-- on intact lines
abbrev pub CarriesStreams : (a b : EndConfig) (lengths : List LineLengths) (steps : List WireStep) (w : Wires) → Type 0
CarriesStreams a b lengths steps w = IsSoundly a b lengths steps → (stream : ℕ) → stream < 16 → IsCarried w stream

-- and through noise, where damage shows as loss in that run
abbrev pub CarriesThroughNoise : (a b : EndConfig) (lengths : List LineLengths) (steps : List WireStep) (w : Wires) → Type 0
CarriesThroughNoise a b lengths steps w =
    (run : IsRun a b lengths steps w) → IsSoundThroughNoise a b lengths steps w run → (stream : ℕ) → stream < 16 → IsCarried w stream

-- LAWS
abbrev pub EverySoundRunCarriesStreams : Type 0
EverySoundRunCarriesStreams =
    (a b : EndConfig) (lengths : List LineLengths) (steps : List WireStep) (w : Wires) → IsSoundRun a b lengths steps w → HaveRoom w
    → (stream : ℕ) → stream < 16 → IsCarried w stream

abbrev pub EveryRunThroughNoiseCarriesStreams : Type 0
EveryRunThroughNoiseCarriesStreams =
    (a b : EndConfig) (lengths : List LineLengths) (steps : List WireStep) (w : Wires) (run : IsRun a b lengths steps w)
    → IsSoundThroughNoise a b lengths steps w run → HaveRoom w → (stream : ℕ) → stream < 16 → IsCarried w stream
