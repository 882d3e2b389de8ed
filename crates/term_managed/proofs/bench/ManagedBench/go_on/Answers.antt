use Rattle.std.proofs.Common.{arith, sym, ap, subst, ◌∙◌, ◌≡◌, ◌<◌, List, [], length, false}
use Rattle.term_bench.specs.Ends.{BenchState}
use Rattle.term_managed.proofs.CallLemmas.{off_goes}
use Rattle.term_managed.proofs.HearingLemmas.{noted_bench}
use Rattle.term_managed.proofs.KeptLemmas.{kept_size}
use Rattle.term_managed.specs.Ends.{ManagedState, noted}
use Rattle.term_managed.specs.Turns.{Manages, TurnAndDeeds}
use Rattle.term_managed.specs.declared.turn.Deed.{Deed}
use Rattle.term_managed.proofs.bench.ManagedBench.go_on.Goals as goal

pub returns-then-not-is_activated-clause-manages : goal.returns-then-not-is_activated-clause-manages
returns-then-not-is_activated-clause-manages c =
    let s = c.note.new.self in
    let off : c.is_activated.result ≡ false = grind (arith, c.if-not-is_activated.true) in
    let bench = ap (λ (e : ManagedState). e.bench) c.note.ensures ∙ noted_bench c.args.link c.args.turn c.args.self.now in
    let below : c.args.link < length s.kept =
    subst (λ n. c.args.link < n) (sym (kept_size s c.self.inside.bench c.self.inside.kept.items c.self.view_is c.self.invariant.0))
    (subst (λ (b : BenchState). c.args.link < length b.links) (sym bench) c.requires) in
    let deeds : c.new-then-not-is_activated.result.deeds ≡ [] =
    ap (λ (t : TurnAndDeeds). t.deeds) c.new-then-not-is_activated.ensures ∙ c.new.ensures.items in (
      ap (λ (t : TurnAndDeeds). t.turn) c.new-then-not-is_activated.ensures,
      subst (λ (ds : List Deed). Manages c.args.link (noted c.args.link c.args.turn c.args.self.now) ds s) (sym deeds)
          (subst (λ (e : ManagedState). Manages c.args.link e [] s) c.note.ensures
          (off_goes c.args.link s c.is_activated.result c.is_activated.ensures off below)),
    )
