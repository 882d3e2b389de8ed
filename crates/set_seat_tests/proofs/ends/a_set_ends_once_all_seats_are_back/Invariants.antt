use Rattle.set_model.specs.State.{settings_of}
use Rattle.set_seat_tests.proofs.ends.a_set_ends_once_all_seats_are_back.Given as goal

-- the blanks name the ledgers, and the settings are those of what it's opened with
abbrev pub ghosts-two_users : goal.ghosts-two_users
ghosts-two_users g a = record { blanks = a.blanks; settings = settings_of a.config.now }
