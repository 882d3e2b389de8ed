-- THE TEXT of each mistake that only an entry's line of a history has.
use Rattle.std.specs.Prelude.{ℕ, List, codes}
use Rattle.text_forms.specs.declared.entry_mistake.EntryMistake.{EntryMistake}
use Rattle.text_forms.specs.declared.entry_mistake.EntryMistake.TheVariants.{Actor, ActorNumber, Asked, AskedValue, Answered, AnsweredValue, Otherwise}

abbrev pub entry_mistake_text : EntryMistake → List ℕ
entry_mistake_text Actor = codes "an entry begins with user or terminal, and a checkpoint is this word alone"
entry_mistake_text ActorNumber =
    codes "a user is a number below 65536, and a terminal one below 256, without leading zeros"
entry_mistake_text Asked =
    codes "here stands offer, take, find, next, hear, up, down, blind, noanswer, timed, restore, redeclare, backtimeout or test"
entry_mistake_text AskedValue =
    codes "offer wants octets, find a number below 2^64, hear a link and a unit, and another word a link below 256"
entry_mistake_text Answered = codes "behind -> stands accepted, taken, found, sent, heard, done or refused"
entry_mistake_text AnsweredValue =
    codes "accepted wants a number, taken and sent octets, found a place, heard acked=K took=T asked=B resend=B fault=F, and refused 1 to 11"
entry_mistake_text Otherwise =
    codes "an entry has one text: no leading zeros, octets in lower case, a sent unit's right check octets, no other word"
