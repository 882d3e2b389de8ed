use Rattle.set_model.specs.State.{settings_of}
use Rattle.bank_crew.proofs.set_thread.one_set.Given as goal

-- the blanks name the ledgers, and the settings are those of what it's opened with
abbrev pub ghosts-run_set : goal.ghosts-run_set
ghosts-run_set g a = record { blanks = a.blanks; settings = settings_of a.work.config }
