use Rattle.l2_bits.proofs.PackingLemmas.{none_held}
use Rattle.l2_bits.proofs.content.Content.restart.Goals as goal

pub returns-clause-empty : goal.returns-clause-empty
returns-clause-empty c = λ content holds. none_held c.args.self.now holds.room holds.in_range
