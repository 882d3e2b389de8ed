-- The place of an answer, lent by the place of what a step shows.
use Rattle.std.specs.Borrow.{Lends, MutBor, Fml}
use Rattle.set_events.specs.declared.answer.Answer.{Answer}
use Rattle.set_events.specs.contracts.reply.Reply.{the_row as reply_row}
use Rattle.pair_steps.specs.declared.step.Shown.{Shown}
use Rattle.pair_steps.specs.declared.step.Shown.TheVariants.{Answered}
use Rattle.pair_steps.specs.contracts.showing.Showing.{the_row}

-- the answer that is left there is shown
abbrev pub LendsAnswer : MutBor Shown → MutBor Answer → Fml
LendsAnswer showing reply = Lends the_row reply_row showing reply (λ answer. Answered answer)
