use Rattle.set_model.specs.State.{settings_of}
use Rattle.set_seat_tests.proofs.threads.four_users_beside_a_terminal.Given as goal

-- the blanks name the ledgers, and the settings are those of what it's opened with
abbrev pub ghosts-four_users : goal.ghosts-four_users
ghosts-four_users g a = record { blanks = a.blanks; settings = settings_of a.config.now }
