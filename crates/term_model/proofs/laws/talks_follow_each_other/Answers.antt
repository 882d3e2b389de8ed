use Rattle.term_model.proofs.Talks.{joins, splits, one_outcome, always_goes, ends_the_same}
use Rattle.term_model.proofs.laws.talks_follow_each_other.Goals as goal

pub returns-clause-joins : goal.returns-clause-joins
returns-clause-joins c = joins

pub returns-clause-splits : goal.returns-clause-splits
returns-clause-splits c = splits

pub returns-clause-one : goal.returns-clause-one
returns-clause-one c = one_outcome

pub returns-clause-goes : goal.returns-clause-goes
returns-clause-goes c = always_goes

pub returns-clause-ends : goal.returns-clause-ends
returns-clause-ends c = ends_the_same
