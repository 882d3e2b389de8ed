use Rattle.mtpbank_words.proofs.Joining.{joined}
use Rattle.mtpbank_words.proofs.advice.say_command.Goals as goal

-- src/advice.rt
pub returns : goal.returns
returns c =
    joined _ _ _ _ _ _ _ _ c.in_ok-push_commands.ensures c.in_ok-extend_from_slice.ensures.items c.in_ok-push_shown.ensures c.in_ok-text.ensures.items
