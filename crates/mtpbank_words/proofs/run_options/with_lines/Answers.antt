use Rattle.std.proofs.Common.{◌∙◌, ap, codes, [], ◌∷◌}
use Rattle.std.proofs.lemmas.Result.{IfOk-weaker}
use Rattle.clap.specs.Words.{Rule, shape_of}
use Rattle.mtpbank_words.specs.RunOptions.{flag_rule, option_rule, with_rules}
use Rattle.mtpbank_words.proofs.Options.{one_more}
use Rattle.mtpbank_words.proofs.run_options.with_lines.Goals as goal

-- src/run_options.rt
pub returns-clause-shape : goal.returns-clause-shape
returns-clause-shape c =
    let bare = shape_of c.args.command in
    let report = flag_rule (codes "report") in
    let fail = option_rule (codes "fail") in
    let noise = option_rule (codes "noise") in
    let first = c.in_ok-reported.ensures.shape ∙ ap (λ (rule : Rule). with_rules bare (rule ∷ [])) c.flag-report.ensures.rule in
    let second = one_more _ _ bare (report ∷ []) _ _ first c.in_ok-failing.ensures.shape c.option-link.ensures.rule in
    let third = one_more _ _ bare (report ∷ fail ∷ []) _ _ second c.in_ok-noisy.ensures.shape c.option-noise.ensures.rule in
    IfOk-weaker c.with_option-4.result _ _
    (λ more is. one_more _ _ bare (report ∷ fail ∷ noise ∷ []) _ _ third is c.option-seed.ensures.rule)
    c.with_option-4.ensures.shape
