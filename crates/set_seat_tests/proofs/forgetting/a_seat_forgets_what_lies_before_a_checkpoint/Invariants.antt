use Rattle.set_model.specs.State.{settings_of}
use Rattle.set_seat_tests.proofs.forgetting.a_seat_forgets_what_lies_before_a_checkpoint.Given as goal

-- the blanks name the ledgers, and the settings are those of what it's opened with
abbrev pub ghosts-one_user : goal.ghosts-one_user
ghosts-one_user g a = record { blanks = a.blanks; settings = settings_of a.config.now }
