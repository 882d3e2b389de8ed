use Rattle.set_model.specs.State.{settings_of}
use Rattle.set_seat_tests.proofs.steps.a_step_has_its_receipt.Given as goal

-- the blanks name the ledgers, and the settings are those of what it's opened with
abbrev pub ghosts-one_message : goal.ghosts-one_message
ghosts-one_message a = record { blanks = a.blanks; settings = settings_of a.config.now }
