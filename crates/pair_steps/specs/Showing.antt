-- What a step shows, where its body stays where it stands, and the place of what it shows.
use Rattle.std.specs.Prelude.{ℕ, List, []}
use Rattle.set_events.specs.Lent.{answer_in, body_in}
use Rattle.set_events.specs.declared.answer.Answer.{Answer}
use Rattle.pair_steps.specs.declared.step.Shown.{Shown}
use Rattle.pair_steps.specs.declared.step.Shown.TheVariants.{Answered, Lost, Up}
use Rattle.pair_steps.specs.declared.showing.ShownRef.{ShownRef}
use Rattle.pair_steps.specs.declared.showing.ShownRef.TheVariants.{Answered as LentAnswered, Lost as LentLost, Up as LentUp}
use Rattle.pair_steps.specs.declared.showing.Shows.{Shows}
use Rattle.pair_steps.specs.declared.showing.Shows.TheVariants.{Answer as ShowsAnswer, Loss as ShowsLoss, Up as ShowsUp}

-- what is shown
abbrev pub shown_in : ShownRef → Shown
shown_in (LentAnswered answer) = Answered (answer_in answer)
shown_in LentUp = Up
shown_in LentLost = Lost

-- the octets of its body; there may be none
abbrev pub octets_in : ShownRef → List ℕ
octets_in (LentAnswered answer) = body_in answer
octets_in shown = []

-- what is shown, with this answer where it is one
abbrev pub shown_with : Shows → Answer → Shown
shown_with ShowsAnswer answer = Answered answer
shown_with ShowsUp answer = Up
shown_with ShowsLoss answer = Lost
