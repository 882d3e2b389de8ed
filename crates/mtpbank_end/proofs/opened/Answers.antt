use Rattle.mtpbank_end.proofs.opened.Goals as goal

pub returns-clause-refused : goal.returns-clause-refused
returns-clause-refused c = λ fault is. let no = c.in-Ok.ensures.refused fault is in absurd (cc no)
