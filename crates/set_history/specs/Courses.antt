-- WHAT IS LEFT of a history that is read.
use Rattle.std.specs.Prelude.{◌++◌, List}
use Rattle.set_events.specs.declared.history.Entry.{Entry}
use Rattle.set_history.specs.Told.{entries_told}
use Rattle.set_history.specs.Runs.{rounds, history_told}
use Rattle.set_history.specs.declared.reader.Course.{Course}

-- what stands behind the run that is read
abbrev pub behind_told : Course → List Entry
behind_told c = history_told c.runs.now c.last c.behind.now

abbrev pub course_told : Course → List Entry
course_told c = entries_told c.entries c.left.now ++ (rounds c.more c.cycle.now c.at.now ++ behind_told c)
