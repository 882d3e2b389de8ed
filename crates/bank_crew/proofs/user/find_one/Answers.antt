use Rattle.bank_crew.proofs.user.find_one.Goals as goal

-- src/user.rt
pub returns-clause-finds : goal.returns-clause-finds
returns-clause-finds g c = (c.find.result, c.find.ensures.calls, c.end_of_find.ensures)
