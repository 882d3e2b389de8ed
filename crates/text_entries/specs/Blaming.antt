-- THE WORD AT FAULT of a line of a history that can't be read: the first that isn't what is wanted in its place.
use Rattle.std.specs.Prelude.{◌≡◌, ◌-◌, ℕ, suc, Bool, true, ◌==◌, ◌||◌, List, [], ◌∷◌, ◌++◌, length, Option, Some, None, is_some, codes, if◌then◌else◌}
use Rattle.std.specs.Option.{option_map}
use Rattle.std.specs.Result.{result_err}
use Rattle.std.specs.Str.{bytes_eq}
use Rattle.l2_units.specs.declared.profile.Profile.{Profile}
use Rattle.set_events.specs.declared.event.Actor.{Actor}
use Rattle.set_events.specs.declared.event.Event.{Event}
use Rattle.set_events.specs.declared.answer.Answer.{Answer}
use Rattle.set_events.specs.declared.history.Entry.{Entry}
use Rattle.text_entries.specs.Entries.{entry_text}
use Rattle.text_entries.specs.FirstLine.{settings_in}
use Rattle.text_entries.specs.Pieces.{item_of}
use Rattle.text_entries.specs.Reading.{actor_in, asked_in, link_in, others, told, told_in, word}
use Rattle.text_forms.specs.AtColumn.{blamed_at}
use Rattle.text_forms.specs.Moves.{link_event}
use Rattle.text_forms.specs.Opening.{opening_read}
use Rattle.text_forms.specs.Showing.{explanation}
use Rattle.text_forms.specs.declared.entry_mistake.EntryMistake.{EntryMistake}
use Rattle.text_forms.specs.declared.entry_mistake.EntryMistake.TheVariants.{ActorNumber, Asked, AskedValue, Answered, AnsweredValue, Otherwise, Actor as NoActor}
use Rattle.text_forms.specs.declared.mistake.Mistake.TheVariants.{Entry as EntryAt}
use Rattle.text_forms.specs.declared.words.Blame.{Blame}

-- In what follows a line stands without its LF, `whole` is the line with it, and `left` is what is left of that.

abbrev pub column_of : List ℕ → List ℕ → ℕ
column_of whole left = length whole - length left

abbrev pub left_blamed : List ℕ → List ℕ → List ℕ → EntryMistake → Blame
left_blamed line whole left mistake = blamed_at line (column_of whole left) (EntryAt mistake)

-- who asked: the kind, or the number behind it
abbrev pub actor_blamed : List ℕ → List ℕ → List ℕ → List ℕ → Blame
actor_blamed line whole kind words =
    if bytes_eq kind (codes "user") || bytes_eq kind (codes "terminal") then left_blamed line whole words ActorNumber
    else left_blamed line whole whole NoActor

-- what was asked: its name, or what belongs to it, which of `hear` is a link and then a unit
abbrev pub names_asked : List ℕ → Bool
names_asked name =
    bytes_eq name (codes "offer") || (bytes_eq name (codes "take") || (bytes_eq name (codes "find")
    || (bytes_eq name (codes "hear") || (bytes_eq name (codes "next") || (bytes_eq name (codes "up")
    || is_some (link_event name 0))))))

abbrev pub asked_blamed : List ℕ → List ℕ → List ℕ → Blame
asked_blamed line whole asked =
    if names_asked (word asked) then
    (if bytes_eq (word asked) (codes "hear") then
    (if is_some (link_in (word (others asked))) then left_blamed line whole (others (others asked)) AskedValue
    else left_blamed line whole (others asked) AskedValue)
    else left_blamed line whole (others asked) AskedValue)
    else left_blamed line whole asked Asked

-- what was answered: its name, or what belongs to it
abbrev pub names_answer : List ℕ → Bool
names_answer name =
    bytes_eq name (codes "accepted") || (bytes_eq name (codes "taken") || (bytes_eq name (codes "found")
    || (bytes_eq name (codes "sent") || (bytes_eq name (codes "heard") || (bytes_eq name (codes "done")
    || bytes_eq name (codes "refused"))))))

abbrev pub answer_blamed : List ℕ → List ℕ → List ℕ → Blame
answer_blamed line whole answer =
    if names_answer (word answer) then left_blamed line whole (others answer) AnsweredValue
    else left_blamed line whole answer Answered

-- the words tell an entry which has another text: the column of the first word that stands otherwise there; where the line
-- has a word more, of that one, and where it ends before, its end
abbrev pub otherwise_here : ℕ → ℕ → ℕ → ℕ
otherwise_here start place octet = if octet == 32 then suc place else (if octet == 10 then place else start)

-- the word of this place begins at the column `start`
abbrev pub otherwise_from : ℕ → ℕ → List ℕ → List ℕ → ℕ
otherwise_from start place [] text = start
otherwise_from start place (octet ∷ octets) [] = start
otherwise_from start place (octet ∷ octets) (other ∷ others) =
    if octet == other then otherwise_from (if octet == 32 then suc place else start) (suc place) octets others
    else otherwise_here start place octet

abbrev pub otherwise_at : List ℕ → List ℕ → ℕ
otherwise_at whole text = otherwise_from 0 0 whole text

abbrev pub text_blamed : Profile → List ℕ → List ℕ → Entry → Option Blame
text_blamed profile line whole entry =
    if bytes_eq (entry_text profile entry) whole then None
    else Some (blamed_at line (otherwise_at whole (entry_text profile entry)) (EntryAt Otherwise))

-- one after another
abbrev pub answer_read : Profile → List ℕ → List ℕ → Actor → Event → Option Answer → Option Blame
answer_read profile line whole who event None = Some (answer_blamed line whole (told whole))
answer_read profile line whole who event (Some answer) =
    text_blamed profile line whole (record { who = who; event = event; answer = answer })

abbrev pub asked_read : Profile → List ℕ → List ℕ → Actor → Option Event → Option Blame
asked_read profile line whole who None = Some (asked_blamed line whole (others (others whole)))
asked_read profile line whole who (Some event) =
    answer_read profile line whole who event (told_in profile (told whole))

abbrev pub actor_read : Profile → List ℕ → List ℕ → Option Actor → Option Blame
actor_read profile line whole None = Some (actor_blamed line whole (word whole) (others whole))
actor_read profile line whole (Some who) =
    asked_read profile line whole who (asked_in profile (others (others whole)))

abbrev pub words_blamed : Profile → List ℕ → List ℕ → Option Blame
words_blamed profile line whole = actor_read profile line whole (actor_in (word whole) (word (others whole)))

-- OF AN ENTRY of a set of this profile
abbrev pub entry_blamed : Profile → List ℕ → Option Blame
entry_blamed profile line = words_blamed profile line (line ++ 10 ∷ [])

-- OF A LINE: the first, before a profile is told, is that of a script
abbrev pub blame_in : Option Profile → List ℕ → Option Blame
blame_in None line = result_err (opening_read line)
blame_in (Some profile) line = entry_blamed profile line

-- THE EXPLANATION of a line that can't be read
abbrev pub explained_line : Option Profile → ℕ → List ℕ → Option (List ℕ)
explained_line profile number line = option_map (λ blame. explanation number blame line) (blame_in profile line)

-- LAW: each line that can't be read is explained
pub record EachLineIsExplained : Type 0 where
  pub first : (number : ℕ) (line : List ℕ) → settings_in line ≡ None → is_some (explained_line None number line) ≡ true
  pub further : (profile : Profile) (number : ℕ) (line : List ℕ) → item_of profile (line ++ 10 ∷ []) ≡ None
      → is_some (explained_line (Some profile) number line) ≡ true
