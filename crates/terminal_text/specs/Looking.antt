-- A LOOK at a link.
use Rattle.std.specs.Prelude.{◌≡◌, ℕ, Some, slice_get}
use Rattle.term_bench.specs.Ends.{AtLink, BenchState, phase_of, word_of}
use Rattle.terminal_text.specs.declared.words.Look.{Look}

pub record IsLook (at : AtLink) (look : Look) : Type 0 where
  pub word_is : look.word ≡ word_of at.terminal
  pub counts_are : look.counts ≡ at.counts
  pub cause_is : look.cause ≡ at.terminal.cause

pub record IsLookAt (link : ℕ) (bench : BenchState) (look : Look) : Type 0 where
  pub at : AtLink
  pub is_at : slice_get bench.links link ≡ Some at
  pub look_is : IsLook at look
  pub link_is : look.link ≡ link
  pub phase_is : look.phase ≡ phase_of link bench.set.state
