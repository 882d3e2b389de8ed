use Rattle.std.proofs.Common.{ap, ◌∙◌, ℕ, List, ◌++◌}
use Rattle.set_events.specs.declared.answer.Counts.{Counts}
use Rattle.pair_steps.specs.declared.step.End.TheVariants.{A, B}
use Rattle.text_entries.specs.Texts.{end_text}
use Rattle.script_accounts.proofs.EndLemmas.{both_ends}
use Rattle.script_accounts.proofs.answers.write_ends.Goals as goal

-- src/answers.rt:49:1
pub returns : goal.returns
returns c =
    both_ends c.args.world.now c.in_ok-text.text.items c.in_ok-write_end.field-0.items c.extend_from_slice.new.self.items
    (c.in_ok-text.ensures ∙ ap (λ (n : Counts). end_text A n) c.counts.ensures.value)
    (c.in_ok-write_end.ensures ∙ ap (λ (n : Counts). end_text B n) c.counts-2.ensures.value)
    (c.in_ok-extend_from_slice.ensures.items ∙ ap (λ (x : List ℕ). c.in_ok-text.text.items ++ x) c.deref.ensures.value)
