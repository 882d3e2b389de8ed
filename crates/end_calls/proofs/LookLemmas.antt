-- A link is looked at by several calls, which find the same.
use Rattle.std.proofs.Common.{◌≡◌, ◌∙◌, sym, ap, ℕ, Bool, Option, Some, slice_get}
use Rattle.end_calls.specs.Looking.{Looks, looked}
use Rattle.end_calls.specs.declared.links.LookValues.{LookValues}
use Rattle.l2_units.specs.declared.cause.Cause.{Cause}
use Rattle.term_bench.specs.Ends.{AtLink, BenchState, IsAt, phase_of, word_of}
use Rattle.term_bench.specs.declared.counts.TurnCounts.{TurnCounts}
use Rattle.term_bench.specs.declared.word.LinkWord.{LinkWord}
use Rattle.term_bench.specs.declared.word.Phase.{Phase}
use Rattle.term_managed.specs.Ends.{ManagedState, is_on}

same_at : (found : Option AtLink) (a b : AtLink) → found ≡ Some a → found ≡ Some b → a ≡ b
same_at found a b is also = let both = sym is ∙ also in cc both

pub looks_of : (link : ℕ) (now : ManagedState) (bench : BenchState) (counts : TurnCounts) (word : LinkWord) (phase : Phase)
    (cause : Option Cause) (on : Bool) (values : LookValues) → bench ≡ now.bench
    → IsAt bench.links link (λ at. counts ≡ at.counts) → IsAt bench.links link (λ at. word ≡ word_of at.terminal)
    → IsAt bench.links link (λ at. cause ≡ at.terminal.cause) → phase ≡ phase_of link bench.set.state
    → on ≡ is_on (slice_get now.kept link) → values ≡ looked counts word phase cause on → Looks link now values
looks_of link now bench counts word phase cause on values is counted stands failed life managed told =
    let at = counted.0 in
    let word_is = stands.2 ∙ ap (λ (a : AtLink). word_of a.terminal) (same_at _ stands.0 at stands.1 counted.1) in
    let cause_is = failed.2 ∙ ap (λ (a : AtLink). a.terminal.cause) (same_at _ failed.0 at failed.1 counted.1) in
    record {
      at = at;
      is_at = ap (λ (b : BenchState). slice_get b.links link) (sym is) ∙ counted.1;
      values_are = told ∙ ap (λ (c : TurnCounts). looked c word phase cause on) counted.2
          ∙ ap (λ (w : LinkWord). looked at.counts w phase cause on) word_is
          ∙ ap (λ (p : Phase). looked at.counts (word_of at.terminal) p cause on)
          (life ∙ ap (λ (b : BenchState). phase_of link b.set.state) is)
          ∙ ap (λ (f : Option Cause). looked at.counts (word_of at.terminal) (phase_of link now.bench.set.state) f on) cause_is
          ∙ ap (λ (o : Bool). looked at.counts (word_of at.terminal) (phase_of link now.bench.set.state) at.terminal.cause o) managed;
    }
