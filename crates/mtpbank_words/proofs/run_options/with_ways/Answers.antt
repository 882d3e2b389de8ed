use Rattle.std.proofs.Common.{◌∙◌, ap, codes, [], ◌∷◌}
use Rattle.std.proofs.lemmas.Result.{IfOk-weaker}
use Rattle.clap.specs.Words.{Rule, shape_of}
use Rattle.mtpbank_words.specs.RunOptions.{option_rule, with_rules}
use Rattle.mtpbank_words.proofs.Options.{one_more}
use Rattle.mtpbank_words.proofs.run_options.with_ways.Goals as goal

-- src/run_options.rt
pub returns-clause-shape : goal.returns-clause-shape
returns-clause-shape c =
    let bare = shape_of c.args.command in
    let method = option_rule (codes "method") in
    let turns = option_rule (codes "turns") in
    let checkpoint = option_rule (codes "checkpoint") in
    let first = c.in_ok-by_method.ensures.shape ∙ ap (λ (rule : Rule). with_rules bare (rule ∷ [])) c.option-method.ensures.rule in
    let second = one_more _ _ bare (method ∷ []) _ _ first c.in_ok-timed.ensures.shape c.option-turns.ensures.rule in
    let third = one_more _ _ bare (method ∷ turns ∷ []) _ _ second c.in_ok-pausing.ensures.shape c.option-checkpoint.ensures.rule in
    IfOk-weaker c.with_option-4.result _ _
    (λ more is. one_more _ _ bare (method ∷ turns ∷ checkpoint ∷ []) _ _ third is c.flag-capture.ensures.rule)
    c.with_option-4.ensures.shape
