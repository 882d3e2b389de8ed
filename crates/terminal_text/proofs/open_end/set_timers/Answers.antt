use Rattle.std.proofs.Common.{refl, ap, sym, subst, ◌∙◌}
use Rattle.set_model.specs.History.{LinkSet}
use Rattle.term_bench.specs.Ends.{BenchState}
use Rattle.terminal_text.proofs.OpenLemmas.{opened_anew}
use Rattle.terminal_text.specs.Text.{IsOpenedAnew}
use Rattle.terminal_text.specs.declared.forgetting.ForgettingBench.{ForgettingBench}
use Rattle.text_forms.specs.declared.early.Early.{Early}
use Rattle.terminal_text.proofs.open_end.set_timers.Goals as goal

pub returns-in-Ok : goal.returns-in-Ok
returns-in-Ok c =
    subst (λ (b : ForgettingBench). IsOpenedAnew c.args.lengths c.args.end.now.bench.managed.bench.set.base.state.settings
    (record { bench = b; early = Early.Times })) (sym c.new-in-Ok.ensures)
    (opened_anew c.args.lengths _ c.args.end.now.bench.managed.bench.set.base.state.settings c.config.result.now c.in-Ok.managed
    (c.config.ensures ∙ ap (λ (set : LinkSet). set.base.state.settings) (c.set.ensures ∙ ap (λ (b : BenchState). b.set) c.bench.ensures.bench))
    refl c.in-Ok.ensures.ok)
