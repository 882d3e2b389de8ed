use Rattle.std.proofs.Common.{refl, ap, subst, ◌∙◌, ◌≡◌, ℕ, Some, slice_get}
use Rattle.term_bench.specs.Ends.{BenchState, phase_of}
use Rattle.terminal_text.specs.Answers.{look_text}
use Rattle.term_bench.specs.declared.word.Phase.{Phase}
use Rattle.terminal_text.proofs.asking.look.Goals as goal

pub returns : goal.returns
returns c =
    let look = c.look_at.ensures in record {
      at = look.at;
      is_at = subst (λ (b : BenchState). slice_get b.links c.args.link ≡ Some look.at) c.bench.ensures.bench look.is_at;
      printed_is = c.in_ok-write_look.ensures look.at look.look_is
          ∙ ap (λ (n : ℕ). look_text n c.look_at.result.phase look.at) look.link_is
          ∙ ap (λ (p : Phase). look_text c.args.link p look.at) look.phase_is
          ∙ ap (λ (b : BenchState). look_text c.args.link (phase_of c.args.link b.set.state) look.at) c.bench.ensures.bench;
      new_is = refl;
    }
