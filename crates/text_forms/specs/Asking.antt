-- THE LINES OF `terminal` after the first and that of timers: the form of each, by its first word.
use Rattle.std.specs.Prelude.{ℕ, Bool, false, List, [], Option, Some, None, Ok, Err, if◌then◌else◌, codes}
use Rattle.std.specs.Result.{result_ok, result_err}
use Rattle.std.specs.Str.{bytes_eq}
use Rattle.set_events.specs.declared.event.Event.TheVariants.{Offer, Take, Find}
use Rattle.term_model.specs.declared.command.Command.{Command}
use Rattle.term_model.specs.declared.command.Command.TheVariants.{Start, Stop, Emergency, Calm, Busy, Ease, Blind, Outage, Recover}
use Rattle.text_forms.specs.declared.asked.Asked.{Asked}
use Rattle.text_forms.specs.declared.asked.OfLink.{OfLink}
use Rattle.text_forms.specs.declared.asked.OfLink.TheVariants.{Look as Looking, Activate as Activating, Deactivate as Deactivating, Command as Commanding, Event as Telling}
use Rattle.text_forms.specs.declared.at_link.LinkEvent.TheVariants.{NoAnswer, Timed, Restore, Redeclare, BackTimeout, Test}
use Rattle.text_forms.specs.declared.mistake.Mistake.{Mistake}
use Rattle.text_forms.specs.declared.mistake.Mistake.TheVariants.{SecondSet, Terminal}
use Rattle.text_forms.specs.declared.named.Named.TheVariants.{Times, Flags, Turns}
use Rattle.text_forms.specs.declared.terminal_mistake.TerminalMistake.TheVariants.{UnknownWord, TimersPlace, Level3Place, LinkWants, OctetsWants, HearWants, FlagsWants, BitsWants, FindWants, ForgetWants, EventsWants}
use Rattle.text_forms.specs.declared.words.Blame.{Blame}
use Rattle.text_forms.specs.Words.{Read, Rest, at_place, at_place_or, at_end, behind_name, first_word, judged, read_then}
use Rattle.text_forms.specs.Places.{a_link, a_named, a_number, a_quiet, a_switch, a_told, bits as bits_place, octets as octets_place}
use Rattle.text_forms.specs.Moves.{event_on}
use Rattle.text_forms.specs.Timers.{timers_read}
use Rattle.text_forms.specs.Times.{times_read}
use Rattle.text_forms.specs.declared.early.Early.{Early}
use Rattle.text_forms.specs.Units.{repeated, unit}

-- What follows the first word.

-- offer HEX, or offer for the empty body
abbrev pub offered : Rest → Read Asked
offered = at_place_or octets_place [] (λ body. at_end (Asked.Event (Offer body)))

-- checkpoint, or checkpoint quiet
abbrev pub checkpoint : Rest → Read Asked
checkpoint = at_place_or a_quiet false (λ quiet. at_end (Asked.Checkpoint quiet))

-- octets L HEX
abbrev pub octets : Rest → Read Asked
octets = at_place a_link (λ link. at_place octets_place (λ octets. at_end (Asked.Octets link octets)))

-- hear L UNIT [xN]
abbrev pub hear : Rest → Read Asked
hear = at_place a_link (λ link rest. read_then (λ u. Ok (Asked.Hear link u)) (unit rest))

-- bits L BITS [xN]
abbrev pub bits : Rest → Read Asked
bits =
    at_place a_link (λ link. at_place bits_place (λ bits. at_place_or (a_named Times) 1 (λ times. at_end
    (Asked.Bits link (repeated bits times)))))

-- find NUMBER
abbrev pub find : Rest → Read Asked
find = at_place a_number (λ number. at_end (Asked.Event (Find number)))

-- flags L N
abbrev pub flags : Rest → Read Asked
flags = at_place a_link (λ link. at_place (a_named Flags) (λ times. at_end (Asked.Flags link times)))

-- forget N, or forget N told
abbrev pub forget : Rest → Read Asked
forget = at_place (a_named Turns) (λ every. at_place_or a_told false (λ told. at_end (Asked.Forget every told)))

-- events on, or events off
abbrev pub events : Rest → Read Asked
events = at_place a_switch (λ on. at_end (Asked.Events on))

-- What a word asks of a link: look L, a command, or an event of its terminal.

abbrev pub command_of : List ℕ → Option Command
command_of name =
    if bytes_eq name (codes "start") then Some Start
    else (if bytes_eq name (codes "stop") then Some Stop
    else (if bytes_eq name (codes "emergency") then Some Emergency
    else (if bytes_eq name (codes "busy") then Some Busy
    else (if bytes_eq name (codes "ease") then Some Ease
    else (if bytes_eq name (codes "blind") then Some Blind
    else (if bytes_eq name (codes "outage") then Some Outage
    else (if bytes_eq name (codes "recover") then Some Recover
    else (if bytes_eq name (codes "calm") then Some Calm else None))))))))

abbrev pub event_or_command : List ℕ → Option Command → Option OfLink
event_or_command name (Some command) = Some (Commanding command)
event_or_command name None =
    if bytes_eq name (codes "noanswer") then Some (Telling NoAnswer)
    else (if bytes_eq name (codes "timed") then Some (Telling Timed)
    else (if bytes_eq name (codes "restore") then Some (Telling Restore)
    else (if bytes_eq name (codes "redeclare") then Some (Telling Redeclare)
    else (if bytes_eq name (codes "backtimeout") then Some (Telling BackTimeout)
    else (if bytes_eq name (codes "test") then Some (Telling Test) else None)))))

abbrev pub of_link_of : List ℕ → Option OfLink
of_link_of name =
    if bytes_eq name (codes "look") then Some Looking
    else (if bytes_eq name (codes "activate") then Some Activating
    else (if bytes_eq name (codes "deactivate") then Some Deactivating else event_or_command name (command_of name)))

abbrev pub asked_on : OfLink → ℕ → Asked
asked_on Looking link = Asked.Look link
asked_on Activating link = Asked.Activate link
asked_on Deactivating link = Asked.Deactivate link
asked_on (Commanding command) link = Asked.Command link command
asked_on (Telling event) link = Asked.Event (event_on event link)

abbrev pub of_link : OfLink → Rest → Read Asked
of_link what = at_place a_link (λ link. at_end (asked_on what link))

-- THE TABLE: the form of a line by its first word, and what is wrong where a word behind it is missing

abbrev pub wrong_first : List ℕ → Mistake
wrong_first name =
    judged name (if bytes_eq name (codes "set") then SecondSet
    else (if bytes_eq name (codes "timers") then Terminal TimersPlace
    else (if bytes_eq name (codes "level3") then Terminal Level3Place else Terminal UnknownWord)))

abbrev pub asked_of_link : Option OfLink → List ℕ → (Mistake → Rest) → Read Asked
asked_of_link None name behind = Err (record { column = 0; mistake = wrong_first name })
asked_of_link (Some what) name behind = of_link what (behind (Terminal LinkWants))

abbrev pub asked_by : List ℕ → (Mistake → Rest) → Read Asked
asked_by name behind =
    if bytes_eq name (codes "take") then at_end (Asked.Event Take) (behind (Terminal LinkWants))
    else (if bytes_eq name (codes "checkpoint") then checkpoint (behind (Terminal LinkWants))
    else (if bytes_eq name (codes "history") then at_end Asked.History (behind (Terminal LinkWants))
    else (if bytes_eq name (codes "counts") then at_end Asked.Counts (behind (Terminal LinkWants))
    else (if bytes_eq name (codes "offer") then offered (behind (Terminal OctetsWants))
    else (if bytes_eq name (codes "octets") then octets (behind (Terminal OctetsWants))
    else (if bytes_eq name (codes "hear") then hear (behind (Terminal HearWants))
    else (if bytes_eq name (codes "bits") then bits (behind (Terminal BitsWants))
    else (if bytes_eq name (codes "find") then find (behind (Terminal FindWants))
    else (if bytes_eq name (codes "flags") then flags (behind (Terminal FlagsWants))
    else (if bytes_eq name (codes "forget") then forget (behind (Terminal ForgetWants))
    else (if bytes_eq name (codes "events") then events (behind (Terminal EventsWants))
    else asked_of_link (of_link_of name) name behind)))))))))))

-- WHAT A LINE ASKS FOR, or the word at fault
abbrev pub asked_read : List ℕ → Read Asked
asked_read text = asked_by (first_word text) (behind_name text)

abbrev pub asked_of : List ℕ → Option Asked
asked_of text = result_ok (asked_read text)

-- the word at fault of a line after the first, which may tell timers if it's the one right behind it, and level 3's times
-- there or behind timers
abbrev pub tells_timers : Early → List ℕ → Bool
tells_timers Early.Both name = bytes_eq name (codes "timers")
tells_timers _ name = false

abbrev pub tells_times : Early → List ℕ → Bool
tells_times Early.Over name = false
tells_times _ name = bytes_eq name (codes "level3")

abbrev pub blamed_line : Early → List ℕ → Option Blame
blamed_line early text =
    if tells_timers early (first_word text) then result_err (timers_read text)
    else (if tells_times early (first_word text) then result_err (times_read text) else result_err (asked_read text))
