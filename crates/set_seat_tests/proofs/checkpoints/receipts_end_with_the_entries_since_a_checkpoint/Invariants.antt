use Rattle.set_model.specs.State.{settings_of}
use Rattle.set_seat_tests.proofs.checkpoints.receipts_end_with_the_entries_since_a_checkpoint.Given as goal

-- the blanks name the ledgers, and the settings are those of what it's opened with
abbrev pub ghosts-one_of_each : goal.ghosts-one_of_each
ghosts-one_of_each g a = record { blanks = a.blanks; settings = settings_of a.config.now }
