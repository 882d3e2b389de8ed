-- THE LINES OF A SCRIPT after the first: the form of each, by its first word.
use Rattle.std.specs.Prelude.{ℕ, List, [], Option, Some, None, Err, if◌then◌else◌, codes}
use Rattle.std.specs.Option.{option_map}
use Rattle.std.specs.Result.{result_ok}
use Rattle.std.specs.Str.{bytes_eq}
use Rattle.l2_units.specs.declared.profile.Profile.{Profile}
use Rattle.set_events.specs.declared.event.Event.{Event}
use Rattle.set_events.specs.declared.event.Event.TheVariants.{Offer, Take, Find, Down, DownBlind, NoAnswer, Timed, Restore, Redeclare, BackTimeout, Test}
use Rattle.pair_steps.specs.declared.step.End.{End}
use Rattle.pair_steps.specs.declared.step.Step.TheVariants.{Act, Emit, Arrive, Lose, Together, Inject}
use Rattle.pair_rises.specs.declared.moves.Move.{Move}
use Rattle.pair_rises.specs.declared.moves.Move.TheVariants.{Step, Rise, Fill}
use Rattle.text_forms.specs.declared.mistake.Mistake.{Mistake}
use Rattle.text_forms.specs.declared.mistake.Mistake.TheVariants.{SecondSet, UnknownWord, TogetherWants, OfferWants, TakeWants, FindWants, OnLinkWants, LoseWants, HearWants}
use Rattle.text_forms.specs.declared.at_link.AtLink.{AtLink}
use Rattle.text_forms.specs.declared.at_link.AtLink.TheVariants.{Emit as Emitting, Arrive as Arriving, Rise as Rising, Fill as Filling, Event as Telling}
use Rattle.text_forms.specs.declared.at_link.LinkEvent.{LinkEvent}
use Rattle.text_forms.specs.declared.at_link.LinkEvent.TheVariants.{Down as TellsDown, Blind as TellsBlind, NoAnswer as TellsNoAnswer, Timed as TellsTimed, Restore as TellsRestore, Redeclare as TellsRedeclare, BackTimeout as TellsBackTimeout, Test as TellsTest}
use Rattle.text_forms.specs.Words.{Read, Rest, at_place, at_place_or, at_end, behind_name, first_word, judged}
use Rattle.text_forms.specs.Places.{an_end, a_link, a_number, octets, a_unit}

-- What follows the first word.

-- together LINK
abbrev pub together : Rest → Read Move
together = at_place a_link (λ link. at_end (Step (Together link)))

-- offer END HEX, or offer END for the empty body
abbrev pub offer : Rest → Read Move
offer = at_place an_end (λ end. at_place_or octets [] (λ body. at_end (Step (Act end (Offer body)))))

-- take END
abbrev pub take : Rest → Read Move
take = at_place an_end (λ end. at_end (Step (Act end Take)))

-- find END NUMBER
abbrev pub find : Rest → Read Move
find = at_place an_end (λ end. at_place a_number (λ number. at_end (Step (Act end (Find number)))))

-- lose END LINK PLACE
abbrev pub lose : Rest → Read Move
lose = at_place an_end (λ end. at_place a_link (λ link. at_place a_number (λ place. at_end (Step (Lose end link place)))))

-- hear END LINK HEX, a unit of this profile
unfoldable pub hear : Profile → Rest → Read Move
hear profile =
    at_place an_end (λ end. at_place a_link (λ link. at_place (a_unit profile) (λ unit. at_end (Step (Inject end link unit)))))

-- an end and a link
abbrev pub at_link : (End → ℕ → Move) → Rest → Read Move
at_link move = at_place an_end (λ end. at_place a_link (λ link. at_end (move end link)))

-- What a word tells of a link.

abbrev pub link_event_of : List ℕ → Option LinkEvent
link_event_of name =
    if bytes_eq name (codes "down") then Some TellsDown
    else (if bytes_eq name (codes "blind") then Some TellsBlind
    else (if bytes_eq name (codes "noanswer") then Some TellsNoAnswer
    else (if bytes_eq name (codes "timed") then Some TellsTimed
    else (if bytes_eq name (codes "restore") then Some TellsRestore
    else (if bytes_eq name (codes "redeclare") then Some TellsRedeclare
    else (if bytes_eq name (codes "backtimeout") then Some TellsBackTimeout
    else (if bytes_eq name (codes "test") then Some TellsTest else None)))))))

abbrev pub event_on : LinkEvent → ℕ → Event
event_on TellsDown = Down
event_on TellsBlind = DownBlind
event_on TellsNoAnswer = NoAnswer
event_on TellsTimed = Timed
event_on TellsRestore = Restore
event_on TellsRedeclare = Redeclare
event_on TellsBackTimeout = BackTimeout
event_on TellsTest = Test

abbrev pub link_event : List ℕ → ℕ → Option Event
link_event name link = option_map (λ event. event_on event link) (link_event_of name)

-- and of an end and a link
abbrev pub at_link_of : List ℕ → Option AtLink
at_link_of name =
    if bytes_eq name (codes "emit") then Some Emitting
    else (if bytes_eq name (codes "arrive") then Some Arriving
    else (if bytes_eq name (codes "rise") then Some Rising
    else (if bytes_eq name (codes "fill") then Some Filling
    else option_map Telling (link_event_of name))))

abbrev pub move_on : AtLink → End → ℕ → Move
move_on Emitting end link = Step (Emit end link)
move_on Arriving end link = Step (Arrive end link)
move_on Rising end link = Rise end link
move_on Filling end link = Fill end link
move_on (Telling event) end link = Step (Act end (event_on event link))

-- THE TABLE: the form of a line by its first word, and what is wrong where a word behind it is missing

abbrev pub wrong_name : List ℕ → Mistake
wrong_name name = judged name (if bytes_eq name (codes "set") then SecondSet else UnknownWord)

unfoldable pub on_link : Option AtLink → List ℕ → Rest → Read Move
on_link None name rest = Err (record { column = 0; mistake = wrong_name name })
on_link (Some what) name rest = at_link (move_on what) rest

unfoldable pub plain_move : List ℕ → (Mistake → Rest) → Read Move
plain_move name behind =
    if bytes_eq name (codes "together") then together (behind TogetherWants)
    else (if bytes_eq name (codes "take") then take (behind TakeWants)
    else (if bytes_eq name (codes "find") then find (behind FindWants)
    else (if bytes_eq name (codes "lose") then lose (behind LoseWants)
    else on_link (at_link_of name) name (behind OnLinkWants))))

abbrev pub move_by : Profile → List ℕ → (Mistake → Rest) → Read Move
move_by profile name behind =
    if bytes_eq name (codes "offer") then offer (behind OfferWants)
    else (if bytes_eq name (codes "hear") then hear profile (behind HearWants)
    else plain_move name behind)

-- WHAT A LINE ASKS FOR, where a unit has the form of this profile, or the word at fault
abbrev pub move_read : Profile → List ℕ → Read Move
move_read profile text = move_by profile (first_word text) (behind_name text)

abbrev pub move_of : Profile → List ℕ → Option Move
move_of profile text = result_ok (move_read profile text)
