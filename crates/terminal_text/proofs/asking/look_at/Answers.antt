use Rattle.std.proofs.Common.{refl, ap, ◌∙◌}
use Rattle.term_bench.proofs.OneLemmas.{one_there}
use Rattle.term_bench.specs.Ends.{AtLink, word_of}
use Rattle.terminal_text.proofs.asking.look_at.Goals as goal

pub returns : goal.returns
returns c =
    let links = c.args.bench.now.links in
    let at = c.counts.ensures.0 in
    let word = one_there links c.args.link c.word.ensures.0 at c.word.ensures.1 c.counts.ensures.1 in
    let cause = one_there links c.args.link c.cause.ensures.0 at c.cause.ensures.1 c.counts.ensures.1 in record {
      at = at;
      is_at = c.counts.ensures.1;
      look_is = record {
        word_is = c.word.ensures.2 ∙ ap (λ (a : AtLink). word_of a.terminal) word;
        counts_are = c.counts.ensures.2;
        cause_is = c.cause.ensures.2 ∙ ap (λ (a : AtLink). a.terminal.cause) cause;
      };
      link_is = refl;
      phase_is = c.phase.ensures;
    }
