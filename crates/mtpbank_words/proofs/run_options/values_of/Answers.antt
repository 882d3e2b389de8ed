use Rattle.std.proofs.Common.{◌≡◌, ◌∙◌, ap, sym, subst, ◌↔◌, IsTrue, Option, Some, codes}
use Rattle.clap.specs.Words.{Text, first_of, found_of, rows_of}
use Rattle.mtpbank_words.specs.RunOptions.{IsNumber, usual_turns}
use Rattle.mtpbank_words.proofs.Options.{same_truth}
use Rattle.mtpbank_words.proofs.run_options.values_of.Goals as goal

-- src/run_options.rt
pub returns-in_default : goal.returns-in_default
returns-in_default c = λ run is. c.in_default.ensures.number run.sets is.sets

pub returns-in_default-number_in : goal.returns-in_default-number_in
returns-in_default-number_in c = λ run is. c.in_default-number_in.ensures.number run.links is.links

pub returns-in_default-number_in-2 : goal.returns-in_default-number_in-2
returns-in_default-number_in-2 c = λ run is. c.in_default-number_in-2.ensures.number run.users is.users

pub returns-in_default-number_in-3 : goal.returns-in_default-number_in-3
returns-in_default-number_in-3 c = λ run is. c.in_default-number_in-3.ensures.number run.messages is.messages

pub returns-in_default-number_in-4 : goal.returns-in_default-number_in-4
returns-in_default-number_in-4 c = λ run is.
    let rows = rows_of (found_of c.args.found.now) in
    let told = subst (λ (w : Option Text). IsTrue c.is_set-report.result ↔ (w ≡ Some (codes "true"))) c.value_of-3.ensures c.is_set-report.ensures in
    c.in_default-number_in-4.ensures.number run.turns
    (subst (λ n. IsNumber 1 1000000 n run.turns (first_of (codes "turns") rows)) (ap usual_turns (same_truth run.report c.is_set-report.result _ is.report told) ∙ sym c.usual_turns.ensures.usual) is.turns)

pub returns-in_default-number_in-5 : goal.returns-in_default-number_in-5
returns-in_default-number_in-5 c = λ run is. c.in_default-number_in-5.ensures.number run.seed is.seed
