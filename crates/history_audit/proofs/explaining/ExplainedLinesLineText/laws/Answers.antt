use Rattle.history_audit.specs.Explaining.{IsExplainedOfLines}
use Rattle.history_audit.proofs.Said.{explained_have_one, explained_refuses}
use Rattle.history_audit.proofs.Told.{begun_by}
use Rattle.history_audit.proofs.explaining.ExplainedLinesLineText.laws.Goals as goal

pub returns-clause-one_text : goal.returns-clause-one_text
returns-clause-one_text c = explained_have_one

pub returns-clause-begun : goal.returns-clause-begun
returns-clause-begun c = begun_by IsExplainedOfLines

pub returns-clause-refuses : goal.returns-clause-refuses
returns-clause-refuses c = explained_refuses
