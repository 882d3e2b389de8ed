use Rattle.set_model.specs.State.{settings_of}
use Rattle.set_seat_tests.proofs.looks.a_seat_sees_how_a_link_stands_and_what_it_brought.Given as goal

-- the blanks name the ledgers, and the settings are those of what it's opened with
abbrev pub ghosts-one_of_both : goal.ghosts-one_of_both
ghosts-one_of_both g a = record { blanks = a.blanks; settings = settings_of a.config.now }
