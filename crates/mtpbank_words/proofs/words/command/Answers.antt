use Rattle.std.proofs.Common.{ap₂, ◌∙◌}
use Rattle.std.proofs.lemmas.Result.{IfOk-weaker}
use Rattle.clap.specs.Words.{with_subcommand}
use Rattle.mtpbank_words.proofs.words.command.Goals as goal

-- src/words.rt
pub returns : goal.returns
returns c =
    let first = c.in_ok-subcommand.ensures.shape c.units_command.ensures.local
    ∙ ap₂ with_subcommand c.in_ok-itself.ensures c.units_command.ensures.shape in
    let second = c.in_ok-subcommand-2.ensures.shape c.in_ok-play_command.ensures.local
    ∙ ap₂ with_subcommand first c.in_ok-play_command.ensures.shape in
    let third = c.in_ok-subcommand-3.ensures.shape c.in_ok-decode_command.ensures.local
    ∙ ap₂ with_subcommand second c.in_ok-decode_command.ensures.shape in
    let fourth = c.in_ok-subcommand-4.ensures.shape c.in_ok-capture_command.ensures.local
    ∙ ap₂ with_subcommand third c.in_ok-capture_command.ensures.shape in
    let fifth = c.in_ok-subcommand-5.ensures.shape c.in_ok-ladder_command.ensures.local
    ∙ ap₂ with_subcommand fourth c.in_ok-ladder_command.ensures.shape in
    let sixth = c.in_ok-subcommand-6.ensures.shape c.in_ok-audit_command.ensures.local
    ∙ ap₂ with_subcommand fifth c.in_ok-audit_command.ensures.shape in
    let seventh = c.in_ok-subcommand-7.ensures.shape c.in_ok-history_command.ensures.local
    ∙ ap₂ with_subcommand sixth c.in_ok-history_command.ensures.shape in
    let eighth = c.in_ok-subcommand-8.ensures.shape c.in_ok-terminal_command.ensures.local
    ∙ ap₂ with_subcommand seventh c.in_ok-terminal_command.ensures.shape in
    IfOk-weaker c.subcommand-9.result _ _
    (λ command added. added.shape c.in_ok-run_command.ensures.local ∙ ap₂ with_subcommand eighth c.in_ok-run_command.ensures.shape)
    c.subcommand-9.ensures
