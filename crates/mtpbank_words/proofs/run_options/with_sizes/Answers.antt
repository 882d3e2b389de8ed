use Rattle.std.proofs.Common.{◌∙◌, ap, codes, [], ◌∷◌}
use Rattle.std.proofs.lemmas.Result.{IfOk-weaker}
use Rattle.clap.specs.Words.{Rule, shape_of}
use Rattle.mtpbank_words.specs.RunOptions.{option_rule, with_rules}
use Rattle.mtpbank_words.proofs.Options.{one_more}
use Rattle.mtpbank_words.proofs.run_options.with_sizes.Goals as goal

-- src/run_options.rt
pub returns-clause-shape : goal.returns-clause-shape
returns-clause-shape c =
    let bare = shape_of c.args.command in
    let sets = option_rule (codes "sets") in
    let links = option_rule (codes "links") in
    let users = option_rule (codes "users") in
    let first = c.in_ok-with_sets.ensures.shape ∙ ap (λ (rule : Rule). with_rules bare (rule ∷ [])) c.option-sets.ensures.rule in
    let second = one_more _ _ bare (sets ∷ []) _ _ first c.in_ok-with_links.ensures.shape c.option-links.ensures.rule in
    let third = one_more _ _ bare (sets ∷ links ∷ []) _ _ second c.in_ok-with_users.ensures.shape c.option-users.ensures.rule in
    IfOk-weaker c.with_option-4.result _ _
    (λ more is. one_more _ _ bare (sets ∷ links ∷ users ∷ []) _ _ third is c.option-messages.ensures.rule)
    c.with_option-4.ensures.shape
