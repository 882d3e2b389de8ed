use Rattle.std.proofs.Common.{ap, sym, ◌∙◌, codes}
use Rattle.clap.specs.Words.{first_of, found_of, rows_of}
use Rattle.clap.specs.declared.parser.matches.ArgMatches.TheViews.{out-ArgMatches}
use Rattle.clap.proofs.WalkLemmas.{first_value-rows}
use Rattle.mtpbank_words.specs.CommandLine.{IsWord, is_set, is_true}
use Rattle.mtpbank_words.proofs.Subcommands.{found_is, no_run, options}
use Rattle.text_base.proofs.PrintLemmas.{passed_on}
use Rattle.mtpbank_words.proofs.words.named.Goals as goal

-- src/words.rt
pub returns-in_err-run_of-in-run : goal.returns-in_err-run_of-in-run
returns-in_err-run_of-in-run c =
    let f = found_of c.in-Some.found.now in
    let is = found_is (out-ArgMatches c.args.matches.now).subcommand c.in-Some.name.now (rows_of f) c.in-Some.ensures.name c.in-Some.ensures.rows in
    rw (passed_on c.from_residual.result c.in_err-run_of-in-run.field-0.0 c.from_residual.ensures.1) (rw is (no_run c.in-Some.name.now (rows_of f) c.in-run.is c.in_err-run_of-in-run.field-0.0 c.in_err-run_of-in-run.ensures))

pub returns-in-Some-word_of : goal.returns-in-Some-word_of
returns-in-Some-word_of c =
    let f = found_of c.in-Some.found.now in
    let is = found_is (out-ArgMatches c.args.matches.now).subcommand c.in-Some.name.now (rows_of f) c.in-Some.ensures.name c.in-Some.ensures.rows in
    let end = c.get_str.ensures ∙ first_value-rows f (codes "END") in
    let wide = c.is_set.ensures ∙ ap is_true (c.get_str-in_default-name.ensures ∙ first_value-rows f (codes "wide")) in
    let keeps = c.is_set-in_default-name.ensures ∙ ap is_true (c.get_str-in_default-name-2.ensures ∙ first_value-rows f (codes "keep")) in
    let explains = c.is_set-in_default-name-2.ensures ∙ ap is_true (c.get_str-in_default-name-3.ensures ∙ first_value-rows f (codes "explain")) in
    let word : IsWord c.in-Some-word_of.asked c.in-Some.name.now (first_of (codes "END") (rows_of f)) (is_set (codes "wide") (rows_of f)) (is_set (codes "keep") (rows_of f)) (is_set (codes "explain") (rows_of f)) = rw (sym end, sym wide, sym keeps, sym explains) c.in-Some-word_of.ensures in
    rw is (word, options c.in-Some-word_of.asked c.in-Some.name.now _ _ _ _ (rows_of f) c.in_default-name.not-run word)

pub returns-in-None : goal.returns-in-None
returns-in-None c =
    let f = found_of c.in-Some.found.now in
    let is = found_is (out-ArgMatches c.args.matches.now).subcommand c.in-Some.name.now (rows_of f) c.in-Some.ensures.name c.in-Some.ensures.rows in
    let end = c.get_str.ensures ∙ first_value-rows f (codes "END") in
    let wide = c.is_set.ensures ∙ ap is_true (c.get_str-in_default-name.ensures ∙ first_value-rows f (codes "wide")) in
    let keeps = c.is_set-in_default-name.ensures ∙ ap is_true (c.get_str-in_default-name-2.ensures ∙ first_value-rows f (codes "keep")) in
    let explains = c.is_set-in_default-name-2.ensures ∙ ap is_true (c.get_str-in_default-name-3.ensures ∙ first_value-rows f (codes "explain")) in
    rw is (record {
      none = λ asked found. c.in-None.ensures asked (rw (end, wide, keeps, explains) found.0);
      no_link = λ fail links linkless. c.in_default-name.not-run linkless.0;
    })
