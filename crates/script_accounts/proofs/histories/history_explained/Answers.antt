use Rattle.script_accounts.proofs.histories.history_explained.Goals as goal

pub returns-in-A-clause-text : goal.returns-in-A-clause-text
returns-in-A-clause-text g c = rw c.in-A.is c.tell_explained.ensures.text

pub returns-in-A-clause-same : goal.returns-in-A-clause-same
returns-in-A-clause-same g c = rw c.in-A.is c.tell_explained.ensures.same

pub returns-in-B-clause-text : goal.returns-in-B-clause-text
returns-in-B-clause-text g c = rw c.in-B.is c.tell_explained-in-B.ensures.text

pub returns-in-B-clause-same : goal.returns-in-B-clause-same
returns-in-B-clause-same g c = rw c.in-B.is c.tell_explained-in-B.ensures.same
