use Rattle.script_accounts.proofs.histories.history.Goals as goal

pub returns-in-A-clause-text : goal.returns-in-A-clause-text
returns-in-A-clause-text g c = rw c.in-A.is c.tell_script.ensures.text

pub returns-in-B-clause-text : goal.returns-in-B-clause-text
returns-in-B-clause-text g c = rw c.in-B.is c.tell_script-in-B.ensures.text
