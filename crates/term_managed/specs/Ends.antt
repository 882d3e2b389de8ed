-- ONE END WHOSE LINKS ARE MANAGED: its bench, and what level 3 keeps of each link. Read this file first.
use Rattle.std.specs.Prelude.{ℕ, zero, suc, Bool, true, false, not, ◌==◌, ◌&&◌, ◌||◌, List, [], ◌∷◌, ◌++◌, length, Option, Some, None, slice_get, slice_set, if◌then◌else◌}
use Rattle.l3_link.specs.Management.{fresh, is_off}
use Rattle.l3_link.specs.declared.signals.Level2.{Level2}
use Rattle.l3_link.specs.declared.signals.Phase.{Phase as PhaseSeen}
use Rattle.l3_link.specs.declared.signals.Seen.{Seen}
use Rattle.l3_link.specs.declared.times.Times.{Times}
use Rattle.set_events.specs.declared.config.SetConfig.{SetConfig}
use Rattle.term_bench.specs.Ends.{AtLink, BenchState, new_bench, phase_of, word_of}
use Rattle.term_bench.specs.declared.turn.Turn.{Turn}
use Rattle.term_bench.specs.declared.word.LinkWord.{LinkWord}
use Rattle.term_bench.specs.declared.word.Phase.{Phase}
use Rattle.term_managed.specs.declared.kept.Kept.{Kept}
use Rattle.term_model.specs.declared.timers.Timers.{Timers}

pub record ManagedState : Type 0 where
  pub bench : BenchState
  pub kept : List Kept

-- AT FIRST no link is activated, and none was tried; the set has no link tests
abbrev pub fresh_kept : Times → Kept
fresh_kept times = record { management = fresh times false; tried = false }

abbrev pub all_fresh : Times → ℕ → List Kept
all_fresh times zero = []
all_fresh times (suc n) = all_fresh times n ++ fresh_kept times ∷ []

abbrev pub new_managed : SetConfig → Timers → Times → ManagedState
new_managed config lengths times = record { bench = new_bench config lengths; kept = all_fresh times config.links }

-- whether level 3 manages this link
abbrev pub is_on : Option Kept → Bool
is_on None = false
is_on (Some kept) = not (is_off kept.management.state)

-- WHAT IS SEEN OF A LINK

-- how a link stands; one that isn't there is out of service
abbrev pub word_in : Option AtLink → LinkWord
word_in None = LinkWord.Out
word_in (Some at) = word_of at.terminal

abbrev pub word_at : ℕ → BenchState → LinkWord
word_at link bench = word_in (slice_get bench.links link)

-- its level 2 (Q.703 12)
abbrev pub level2_of : LinkWord → Level2
level2_of LinkWord.Out = Level2.Out
level2_of LinkWord.Paused = Level2.Paused
level2_of _ = Level2.Works

abbrev pub phase_seen : Phase → PhaseSeen
phase_seen Phase.Settled = PhaseSeen.Settled
phase_seen Phase.Up = PhaseSeen.Up
phase_seen Phase.Left = PhaseSeen.Left

abbrev pub is_settled : Phase → Bool
is_settled Phase.Settled = true
is_settled _ = false

abbrev pub is_up : Phase → Bool
is_up Phase.Up = true
is_up _ = false

-- in service, with no processor outage at either end
abbrev pub works_for_users : LinkWord → Bool
works_for_users LinkWord.Up = true
works_for_users _ = false

-- on a way up its far end was heard: it's aligned, or further; a dead line gives no hope
abbrev pub has_heard : LinkWord → Bool
has_heard LinkWord.Out = false
has_heard LinkWord.Unaligned = false
has_heard _ = true

-- it carries traffic
abbrev pub carries : BenchState → ℕ → Bool
carries bench link = works_for_users (word_at link bench) && is_up (phase_of link bench.set.state)

-- a way up of it has failed since it was settled
abbrev pub was_tried : Option Kept → Bool
was_tried None = false
was_tried (Some kept) = kept.tried

-- it's settled, on its first way up since, and has heard its far end on that way
abbrev pub gives_hope : ManagedState → ℕ → Bool
gives_hope s link =
    has_heard (word_at link s.bench)
    && (is_settled (phase_of link s.bench.set.state) && not (was_tried (slice_get s.kept link)))

-- one of the links below this number, but for this link
abbrev pub any_other : (ℕ → Bool) → ℕ → ℕ → Bool
any_other is_so link zero = false
any_other is_so link (suc n) = any_other is_so link n || (not (n == link) && is_so n)

abbrev pub seen_at : ℕ → ManagedState → Seen
seen_at link s = record {
  level2 = level2_of (word_at link s.bench);
  phase = phase_seen (phase_of link s.bench.set.state);
  passed = false;
  others = any_other (carries s.bench) link (length s.bench.links);
  hopes = any_other (gives_hope s) link (length s.bench.links);
}

-- A WAY UP THAT FAILS. A link that goes out of service was tried if the set had it settled; one that was up is left then, and
-- has its first way up before it.
abbrev pub is_out : LinkWord → Bool
is_out LinkWord.Out = true
is_out _ = false

abbrev pub goes_out : Turn → Bool
goes_out turn = is_out turn.after && not (is_out turn.before)

abbrev pub noted_as : Bool → ℕ → Option Kept → List Kept → List Kept
noted_as tried link None kept = kept
noted_as tried link (Some was) kept = slice_set kept link (record was { tried = tried })

abbrev pub gone_out : ℕ → ManagedState → ManagedState
gone_out link s =
    record s { kept = noted_as (is_settled (phase_of link s.bench.set.state)) link (slice_get s.kept link) s.kept }

abbrev pub noted : ℕ → Turn → ManagedState → ManagedState
noted link turn s = if goes_out turn then gone_out link s else s
