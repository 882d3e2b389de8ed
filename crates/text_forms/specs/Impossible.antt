-- WHY WHAT A LINE ASKS FOR CAN'T BE DONE, and which of its words says so.
use Rattle.std.specs.Prelude.{ℕ, ◌-◌, nat_lt, List, length, if◌then◌else◌}
use Rattle.pair_steps.specs.declared.step.Step.{Step}
use Rattle.pair_steps.specs.declared.step.Step.TheVariants.{Act, Emit, Arrive, Lose, Together, Inject}
use Rattle.pair_rises.specs.declared.moves.Move.{Move}
use Rattle.pair_rises.specs.declared.moves.Move.TheVariants.{Step as MoveStep, Rise, Fill}
use Rattle.text_forms.specs.declared.mistake.Mistake.{Mistake}
use Rattle.text_forms.specs.declared.mistake.Mistake.TheVariants.{NoSuchLink, NotSettled, NotSettledThere, NothingUnderWay, NoUnitThere, Terminal}
use Rattle.text_forms.specs.declared.terminal_mistake.TerminalMistake.TheVariants.{Wide}
use Rattle.text_forms.specs.declared.words.Blame.{Blame}
use Rattle.text_forms.specs.Words.{words_from}

-- Of a step that is impossible in a world of so many links: the word of its line, from 0, and why. An event at an end,
-- a unit that is sent and one that is heard only need their link.
abbrev pub why_no_step : ℕ → Step → ℕ × Mistake
why_no_step links (Together link) = (1, (if nat_lt link links then NotSettled else NoSuchLink))
why_no_step links (Arrive end link) = (2, (if nat_lt link links then NothingUnderWay else NoSuchLink))
why_no_step links (Lose end link place) =
    if nat_lt link links then (3, NoUnitThere) else (2, NoSuchLink)
why_no_step links (Act end event) = (2, NoSuchLink)
why_no_step links (Emit end link) = (2, NoSuchLink)
why_no_step links (Inject end link unit) = (2, NoSuchLink)

-- Of a move so too.
abbrev pub why_not : ℕ → Move → ℕ × Mistake
why_not links (MoveStep step) = why_no_step links step
why_not links (Rise end link) = (2, (if nat_lt link links then NotSettledThere else NoSuchLink))
why_not links (Fill end link) = (2, NoSuchLink)

-- a mistake of the word of this place, from 0
abbrev pub blamed_from : ℕ → Mistake → List ℕ → Blame
blamed_from place mistake text = record { column = length text - length (words_from place text); mistake = mistake }

-- THE WORD that says why the move of this line is impossible
abbrev pub blamed_impossible : ℕ → Move → List ℕ → Blame
blamed_impossible links move text = blamed_from (why_not links move).0 (why_not links move).1 text

-- of a terminal's line that asks for a link which the set hasn't: the second word
abbrev pub blamed_link : List ℕ → Blame
blamed_link text = blamed_from 1 NoSuchLink text

-- of a terminal's first line that opens a set of the wide profile: the seventh word
abbrev pub blamed_profile : List ℕ → Blame
blamed_profile text = blamed_from 6 (Terminal Wide) text
