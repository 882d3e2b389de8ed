use Rattle.set_model.specs.State.{settings_of}
use Rattle.refusal_tests.proofs.seats.is_right_beside.Given as goal

-- the blanks name the ledgers, and the settings are those of what it's opened with
abbrev pub ghosts-goes : goal.ghosts-goes
ghosts-goes a = record { blanks = a.blanks; settings = settings_of a.config.now }
