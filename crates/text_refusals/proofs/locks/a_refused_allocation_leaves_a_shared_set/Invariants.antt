use Rattle.set_model.specs.State.{settings_of}
use Rattle.text_refusals.proofs.locks.a_refused_allocation_leaves_a_shared_set.Given as goal

-- the blanks name the ledgers, and the settings are those of what it's opened with
abbrev pub ghosts-came : goal.ghosts-came
ghosts-came g a = record { blanks = a.blanks; settings = settings_of a.config.now }
