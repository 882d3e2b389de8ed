-- THE TEXT of each mistake that only the lines of a terminal have.
use Rattle.std.specs.Prelude.{ℕ, List, codes}
use Rattle.text_forms.specs.declared.terminal_mistake.TerminalMistake.{TerminalMistake}
use Rattle.text_forms.specs.declared.terminal_mistake.TerminalMistake.TheVariants.{Wide, UnknownWord, TimersPlace, TimersWants, Level3Place, Level3Wants, LinkWants, OctetsWants, HearWants, FlagsWants, BitsWants, FindWants, ForgetWants, EventsWants, Bits, UnitName, Body, FirstBody, Quiet, Told, Switch, Number}
use Rattle.text_forms.specs.Named.{named_text}

abbrev pub terminal_text : TerminalMistake → List ℕ
terminal_text Wide = codes "the set of a terminal has the narrow profile"
terminal_text UnknownWord =
    codes "a line begins with start, stop, emergency, calm, busy, ease, blind, outage, recover, octets, hear, flags, bits, offer, take, find, noanswer, timed, restore, redeclare, backtimeout, test, activate, deactivate, look, counts, checkpoint, forget, events or history"
terminal_text TimersPlace = codes "timers is the line behind the first, and no other"
terminal_text TimersWants = codes "timers wants six words behind it: t1=N t2=N t3=N t5=N t6=N t7=N"
terminal_text Level3Place = codes "level3 is the line behind the first or behind timers, and no other"
terminal_text Level3Wants = codes "level3 wants seven words behind it: t1=N t2=N t4=N t5=N t17=N k1=N k2=N"
terminal_text LinkWants = codes "this word wants a link behind it"
terminal_text OctetsWants = codes "octets wants a link, and octets of two hexadecimal digits"
terminal_text HearWants =
    codes "hear wants a link, and a unit: fisu HEAD, lssu HEAD status=S, msu HEAD body=HEX, or octets; HEAD is bsn=B bib=B fsn=F fib=F or nothing"
terminal_text FlagsWants = codes "flags wants a link, and the number of flags"
terminal_text BitsWants = codes "bits wants a link, and digits 0 and 1"
terminal_text FindWants = codes "find wants the number of a message"
terminal_text ForgetWants = codes "forget wants a number of turns"
terminal_text EventsWants = codes "events wants on or off behind it"
terminal_text Bits = codes "bits are digits 0 and 1"
terminal_text UnitName = codes "a unit is fisu, lssu, msu, or octets of two hexadecimal digits"
terminal_text Body = codes "here stands body=HEX, 3 to 273 octets of two hexadecimal digits"
terminal_text FirstBody =
    codes "here stands body=HEX, 3 to 273 octets of two hexadecimal digits, or bsn=B and the rest of a header"
terminal_text Quiet = codes "here stands quiet, where the entries aren't to be printed"
terminal_text Told = codes "here stands told, where the entries are to be printed"
terminal_text Switch = codes "here stands on or off"
terminal_text (Number named) = named_text named
