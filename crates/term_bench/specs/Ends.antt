-- ONE END OF A SET, whose links' lines are elsewhere: what it holds. Read this file first.
use Rattle.std.specs.Prelude.{◌≡◌, slice_get, ℕ, zero, suc, Bool, true, false, List, [], ◌∷◌, ◌++◌, Some, slice_set, if◌then◌else◌}
use Rattle.set_events.specs.declared.config.SetConfig.{SetConfig}
use Rattle.set_model.specs.History.{LinkSet, new_set}
use Rattle.set_model.specs.State.{State, is_settled, is_up}
use Rattle.term_model.specs.declared.command.Command.{Command}
use Rattle.term_model.specs.declared.timers.Timers.{Timers}
use Rattle.term_model.specs.Terminal.{Terminal, opened, told}
use Rattle.link_term.specs.States.{is_paused, state_of}
use Rattle.link_term.specs.declared.works.TermState.{TermState}
use Rattle.link_term.specs.declared.works.Works.{Works}
use Rattle.l2_bits.specs.LineBits.{bits_of}
use Rattle.term_bench.specs.declared.counts.TurnCounts.{TurnCounts}
use Rattle.term_bench.specs.declared.word.LinkWord.{LinkWord}
use Rattle.term_bench.specs.declared.word.Phase.{Phase}

-- A LINK AT THE BENCH: its terminal; the octets that this heard; the bits that came behind them and wait for their
-- octet, fewer than eight; what was counted since the opening; and whether a turn was broken off
pub record AtLink : Type 0 where
  pub terminal : Terminal
  pub heard : List ℕ
  pub waiting : List Bool
  pub counts : TurnCounts
  pub failed : Bool

abbrev pub at_link : Works → ℕ → ℕ → TurnCounts → AtLink
at_link works bits waiting counts = record {
  terminal = works.inside;
  heard = works.taken;
  waiting = bits_of waiting bits;
  counts = counts;
  failed = works.failed;
}

pub record BenchState : Type 0 where
  pub set : LinkSet
  pub links : List AtLink

-- there is a link of this number, and this holds of it
abbrev pub IsAt : List AtLink → ℕ → (AtLink → Type 0) → Type 0
IsAt links link P = (at : AtLink) × (slice_get links link ≡ Some at) × P at

-- each link has the number of its place
abbrev pub AreNumbered : List AtLink → Type 0
AreNumbered links = (n : ℕ) (at : AtLink) → slice_get links n ≡ Some at → at.terminal.link ≡ n

abbrev pub no_counts : TurnCounts
no_counts = record { turns = 0; sent = 0; good = 0; bad = 0; sixteen = 0 }

abbrev pub new_link : Timers → ℕ → AtLink
new_link lengths number = record {
  terminal = opened number lengths;
  heard = [];
  waiting = [];
  counts = no_counts;
  failed = false;
}

-- so many links, numbered from 0 on
abbrev pub new_links : Timers → ℕ → List AtLink
new_links lengths zero = []
new_links lengths (suc n) = new_links lengths n ++ new_link lengths n ∷ []

abbrev pub new_bench : SetConfig → Timers → BenchState
new_bench config lengths = record { set = new_set config; links = new_links lengths config.links }

-- a command waits for the next turn
abbrev pub told_at : Command → AtLink → AtLink
told_at command at = record at { terminal = told command at.terminal }

-- it's one by which a link comes up
abbrev pub is_start : Command → Bool
is_start Command.Start = true
is_start Command.Emergency = true
is_start _ = false

-- WHERE IT IS IN ITS LIFE at the set (Q.704 5): it's up, or settled, or it was left and isn't settled
abbrev pub phase_by : Bool → Bool → Phase
phase_by up settled = if up then Phase.Up else (if settled then Phase.Settled else Phase.Left)

abbrev pub phase_of : ℕ → State → Phase
phase_of link s = phase_by (is_up link s) (is_settled link s)

-- A COMMAND WAITS at this link, and nothing else changed
pub record Commands (link : ℕ) (command : Command) (old new : BenchState) : Type 0 where
  pub was : AtLink
  pub is_at : slice_get old.links link ≡ Some was
  pub links_are : new.links ≡ slice_set old.links link (told_at command was)
  pub set_is : new.set ≡ old.set

-- HOW A LINK STANDS (Q.703 7.3, 8, 12): in service here, where this end has no processor outage, it waits while the set
-- refuses Up
abbrev pub word_in_service : Bool → Bool → Bool → LinkWord
word_in_service out up paused =
    if out then LinkWord.Outage else (if up then (if paused then LinkWord.Paused else LinkWord.Up) else LinkWord.Waiting)

abbrev pub word_by : TermState → Bool → Bool → Bool → LinkWord
word_by TermState.OutOfService out up paused = LinkWord.Out
word_by TermState.NotAligned out up paused = LinkWord.Unaligned
word_by TermState.Aligned out up paused = LinkWord.Aligned
word_by TermState.Proving out up paused = LinkWord.Proving
word_by TermState.Ready out up paused = LinkWord.Ready
word_by TermState.InService out up paused = word_in_service out up paused

abbrev pub word_of : Terminal → LinkWord
word_of t = word_by (state_of t) t.outage t.up (is_paused t.state)
