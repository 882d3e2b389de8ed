-- What is kept of the world before a move.
use Rattle.std.specs.Prelude.{◌≡◌, IfOk, Result}
use Rattle.std.specs.declared.alloc.AllocError.{AllocError}
use Rattle.pair_rises.specs.declared.moves.Move.{Move}
use Rattle.pair_model.specs.World.{World}
use Rattle.script_ladder.specs.declared.steps.Before.{Before}
use Rattle.script_ladder.specs.Ladder.{Past, past_of}

-- contracts see the numbers that are kept as their list
abbrev pub kept : Before → Past
kept note = record { unit = note.unit; link = note.link; stood = note.stood.items; a = note.a; b = note.b }

abbrev pub IsBefore : World → Move → Before → Type 0
IsBefore before move note = kept note ≡ past_of before move

-- if memory wasn't refused
abbrev pub IsNote : World → Move → Result Before AllocError → Type 0
IsNote before move note = IfOk note (IsBefore before move)
