use Rattle.bank_crew.proofs.user.take_one.Goals as goal

-- src/user.rt
pub returns-clause-takes : goal.returns-clause-takes
returns-clause-takes g c = (c.take.result, c.take.ensures.calls, c.end_of_call.ensures)
