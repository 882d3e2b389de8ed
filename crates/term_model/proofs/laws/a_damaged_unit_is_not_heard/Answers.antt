use Rattle.term_model.proofs.Damaged.{damaged_not_heard}
use Rattle.term_model.proofs.laws.a_damaged_unit_is_not_heard.Goals as goal

pub returns : goal.returns
returns c mark before after entries none went = damaged_not_heard mark before after entries none went
