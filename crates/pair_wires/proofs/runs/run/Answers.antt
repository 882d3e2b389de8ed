use Rattle.std.proofs.Common.{ap, subst, ◌∙◌, ◌≤◌}
use Rattle.set_model.specs.History.{LinkSet, entries_in, longest_history}
use Rattle.term_bench.specs.Ends.{BenchState}
use Rattle.pair_wires.proofs.Carrying.{run_carries}
use Rattle.pair_wires.proofs.Noise.{run_carries_through_noise}
use Rattle.pair_wires.proofs.runs.run.Goals as goal

-- src/runs.rt
pub returns-clause-carries : goal.returns-clause-carries
returns-clause-carries c =
    run_carries c.args.a.now c.args.b.now c.args.lengths.now c.args.steps.now c.in_ok-wires.wires c.in_ok-wires.ensures
    (subst (λ (s : LinkSet). entries_in s ≤ longest_history) (c.set.ensures ∙ ap (λ (x : BenchState). x.set) c.bench.ensures) c.replays.ensures.short)
    (subst (λ (s : LinkSet). entries_in s ≤ longest_history) (c.set-2.ensures ∙ ap (λ (x : BenchState). x.set) c.bench-2.ensures) c.replays-2.ensures.short)

pub returns-clause-noise : goal.returns-clause-noise
returns-clause-noise c =
    run_carries_through_noise c.args.a.now c.args.b.now c.args.lengths.now c.args.steps.now c.in_ok-wires.wires
    (subst (λ (s : LinkSet). entries_in s ≤ longest_history) (c.set.ensures ∙ ap (λ (x : BenchState). x.set) c.bench.ensures) c.replays.ensures.short)
    (subst (λ (s : LinkSet). entries_in s ≤ longest_history) (c.set-2.ensures ∙ ap (λ (x : BenchState). x.set) c.bench-2.ensures) c.replays-2.ensures.short)
