-- A turn, and the checkpoint that may be due behind it.
use Rattle.std.proofs.Common.{refl, sym, ap, subst, ◌≡◌, ◌∙◌, ◌&&◌, Bool, true, false, ℕ, List, [], ◌∷◌, ◌++◌, length, Option, if◌then◌else◌}
use Rattle.set_events.specs.declared.history.Entry.{Entry}
use Rattle.term_managed.specs.Ends.{ManagedState}
use Rattle.terminal_text.proofs.RowLemmas.{shows_more, shows_nothing}
use Rattle.terminal_text.specs.Forgetting.{IsForgotten, IsOver, checkpointed, forgotten, gone_behind, gone_by, gone_text, is_due, lines_behind, one_turn, retold, shown_after}
use Rattle.terminal_text.specs.Moving.{moved}
use Rattle.terminal_text.specs.Rows.{Shows}
use Rattle.terminal_text.specs.Showing.{Shown, gone}
use Rattle.terminal_text.specs.declared.forgetting.Forgetting.{Forgetting}
use Rattle.terminal_text.specs.declared.forgetting.ForgettingBench.{ForgettingBench}
use Rattle.terminal_text.specs.declared.rows.Rows.{Rows}
use Rattle.terminal_text.specs.declared.stopping.Watch.{Watch}

-- what is told of it

pub tells_nothing : (told : Bool) (history : List Entry) (rows : Rows) → told ≡ false → Shows rows (gone_by told history) rows
tells_nothing true history rows e = absurd (cc e)
tells_nothing false history rows e = shows_nothing rows

pub tells_gone : (told : Bool) (history : List Entry) (was now : Rows) → told ≡ true → Shows was (gone (gone_text false history) ∷ []) now
    → Shows was (gone_by told history) now
tells_gone true history was now e shows = shows
tells_gone false history was now e shows = absurd (cc e)

-- due, or not

driven : ManagedState → Forgetting → List Watch → Option (List ℕ) → ForgettingBench
driven managed plan watches streams = record { managed = managed; plan = plan; watches = watches; streams = streams }

left_if : (due : Bool) (old : ForgettingBench) (managed : ManagedState) → due ≡ true → managed ≡ checkpointed old.managed
    → managed ≡ (if due then checkpointed old.managed else old.managed)
left_if true old managed e is = is
left_if false old managed e is = absurd (cc e)

left_as : (due : Bool) (old : ForgettingBench) (managed : ManagedState) → due ≡ false → managed ≡ old.managed
    → managed ≡ (if due then checkpointed old.managed else old.managed)
left_as true old managed e is = absurd (cc e)
left_as false old managed e is = is

as_many_links : (due : Bool) (old : ManagedState) → length (if due then checkpointed old else old).bench.links ≡ length old.bench.links
as_many_links true old = refl
as_many_links false old = refl

same_told : (due told : Bool) (history : List Entry) → due ≡ true → gone_by told history ≡ gone_by (due && told) history
same_told true told history e = refl
same_told false told history e = absurd (cc e)

none_told : (due told : Bool) (history : List Entry) → due ≡ false → [] ≡ gone_by (due && told) history
none_told true told history e = absurd (cc e)
none_told false told history e = refl

same_bench : (old new : ForgettingBench) → new.managed ≡ (forgotten old).managed → new.plan ≡ one_turn old.plan
    → new.watches ≡ old.watches → new.streams ≡ old.streams → new ≡ forgotten old
unfolding driven
same_bench old new managed plan watches streams =
    ap (λ (m : ManagedState). driven m new.plan new.watches new.streams) managed
    ∙ ap (λ (p : Forgetting). driven (forgotten old).managed p new.watches new.streams) plan
    ∙ ap (λ (w : List Watch). driven (forgotten old).managed (one_turn old.plan) w new.streams) watches
    ∙ ap (λ (t : Option (List ℕ)). driven (forgotten old).managed (one_turn old.plan) old.watches t) streams

pub forgets_due : (old new : ForgettingBench) (was now : Rows) (due told : Bool) → due ≡ is_due old.plan → due ≡ true
    → told ≡ old.plan.told → new.plan ≡ one_turn old.plan → new.watches ≡ old.watches → new.streams ≡ old.streams
    → new.managed ≡ checkpointed old.managed
    → Shows was (gone_by told old.managed.bench.set.history) now → IsForgotten old new was now
forgets_due old new was now due told is e same plan watches streams managed shows =
    let so = sym is ∙ e in
    let left = left_if (is_due old.plan) old new.managed so managed in record {
      new_is = same_bench old new left plan watches streams;
      shows = subst (λ (items : List Shown). Shows was items now)
          (ap (λ (t : Bool). gone_by t old.managed.bench.set.history) same
          ∙ same_told (is_due old.plan) old.plan.told old.managed.bench.set.history so) shows;
      links = ap (λ (m : ManagedState). length m.bench.links) left ∙ as_many_links (is_due old.plan) old.managed;
    }

pub forgets_not : (old new : ForgettingBench) (rows : Rows) (due : Bool) → due ≡ is_due old.plan → due ≡ false
    → new.plan ≡ one_turn old.plan → new.watches ≡ old.watches → new.streams ≡ old.streams → new.managed ≡ old.managed
    → IsForgotten old new rows rows
forgets_not old new rows due is e plan watches streams managed =
    let so = sym is ∙ e in
    let left = left_as (is_due old.plan) old new.managed so managed in record {
      new_is = same_bench old new left plan watches streams;
      shows = subst (λ (items : List Shown). Shows rows items rows)
          (none_told (is_due old.plan) old.plan.told old.managed.bench.set.history so) (shows_nothing rows);
      links = ap (λ (m : ManagedState). length m.bench.links) left ∙ as_many_links (is_due old.plan) old.managed;
    }

-- where streams run is shown, and then the checkpoint
pub is_over : (turn : ℕ) (old mid new : ForgettingBench) (was between now : Rows) (lines : List ℕ) → mid ≡ retold old
    → lines ≡ moved turn old.streams old.managed.bench.set.state → Shows was (lines_behind lines) between
    → IsForgotten mid new between now → IsOver turn old new was now
is_over turn old mid new was between now lines told is shows forgets =
    over (subst (λ (s : ForgettingBench). IsForgotten s new between now) told forgets)
  where
    over : IsForgotten (retold old) new between now → IsOver turn old new was now
    over f = record {
      new_is = f.new_is;
      shows = shows_more was between now (lines_behind (moved turn old.streams old.managed.bench.set.state)) (gone_behind (retold old))
          (subst (λ (cs : List ℕ). Shows was (lines_behind cs) between) is shows) f.shows;
      links = f.links;
    }
