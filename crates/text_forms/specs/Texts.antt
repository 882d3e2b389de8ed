-- THE TEXT of each mistake: what is wanted in its place.
use Rattle.std.specs.Prelude.{ℕ, List, codes}
use Rattle.text_forms.specs.declared.mistake.Mistake.{Mistake}
use Rattle.text_forms.specs.declared.mistake.Mistake.TheVariants.{NotSet, OpeningShort, LinksName, LinksRange, MethodName, MethodLimits, WideMethodLimits, CodeAName, CodeBName, CodeRange, SioName, SioDigits, SioIndicator, ProfileValue, Space, CarriageReturn, NotPrintable, Surplus, UnknownWord, SecondSet, TogetherWants, OfferWants, TakeWants, FindWants, OnLinkWants, LoseWants, HearWants, End, Link, Number, OddDigits, NotHexadecimal, UnitShort, WideUnitShort, UnitLong, UnitLength, WideUnitLength, NoSuchLink, NotSettled, NotSettledThere, NothingUnderWay, NoUnitThere, Terminal, Entry}
use Rattle.text_forms.specs.EntryMistakes.{entry_mistake_text}
use Rattle.text_forms.specs.TerminalTexts.{terminal_text}

abbrev pub mistake_text : Mistake → List ℕ
mistake_text NotSet = codes "the first line is set links=L method=W a=X b=Y sio=HH"
mistake_text OpeningShort = codes "set wants five words behind it: links=L method=W a=X b=Y sio=HH"
mistake_text LinksName = codes "here stands links=L, the number of links"
mistake_text LinksRange = codes "a set has 1 to 16 links, in decimal without leading zeros"
mistake_text MethodName = codes "here stands method=basic or method=cyclic:N1:N2"
mistake_text MethodLimits =
    codes "the limits of cyclic:N1:N2 are 1 to 127 messages and 1 to 34671 octets"
mistake_text WideMethodLimits =
    codes "the limits of cyclic:N1:N2 in a wide set are 1 to 4095 messages and 1 to 1113840 octets"
mistake_text CodeAName = codes "here stands a=X, the point code of end a"
mistake_text CodeBName = codes "here stands b=Y, the point code of end b"
mistake_text CodeRange = codes "a point code is 0 to 16383, in decimal without leading zeros"
mistake_text SioName = codes "here stands sio=HH, the SIO of the set's own orders"
mistake_text SioDigits = codes "an SIO is two hexadecimal digits"
mistake_text SioIndicator = codes "the second digit of the SIO, the service indicator, is 0"
mistake_text ProfileValue = codes "a profile is narrow or wide"
mistake_text Space = codes "one space stands between two words, and none before or behind them"
mistake_text CarriageReturn = codes "a line ends in LF alone, and this word has a CR"
mistake_text NotPrintable =
    codes "words are printable characters of ASCII, and this one has another octet"
mistake_text Surplus = codes "the line ends before this word"
mistake_text UnknownWord = codes "no line of a script begins with this word"
mistake_text SecondSet = codes "set is the first line, and no other"
mistake_text TogetherWants = codes "together wants a link"
mistake_text OfferWants = codes "offer wants an end, a or b, and octets of two hexadecimal digits"
mistake_text TakeWants = codes "take wants an end, a or b"
mistake_text FindWants = codes "find wants an end, a or b, and the number of a message"
mistake_text OnLinkWants = codes "this word wants an end, a or b, and a link behind it"
mistake_text LoseWants = codes "lose wants an end, a or b, a link, and the place of a unit"
mistake_text HearWants = codes "hear wants an end, a or b, a link, and the octets of a unit"
mistake_text End = codes "an end is a or b"
mistake_text Link = codes "a link is a number from 0, in decimal without leading zeros"
mistake_text Number = codes "a number is below 2^64, in decimal without leading zeros"
mistake_text OddDigits = codes "octets have two hexadecimal digits each, and one digit is left over"
mistake_text NotHexadecimal =
    codes "octets have two hexadecimal digits each, and this word has something else"
mistake_text UnitShort = codes "a unit has 3 octets at least"
mistake_text WideUnitShort = codes "a unit of a wide set has 4 octets at least"
mistake_text UnitLong = codes "a unit has 276 octets at most"
mistake_text UnitLength =
    codes "the length indicator, the unit's third octet, isn't that of what follows, without check octets"
mistake_text WideUnitLength =
    codes "the length indicator, the high six bits of a wide unit's fourth octet, isn't that of what follows, without check octets"
mistake_text NoSuchLink = codes "the set has no link of this number; its links are counted from 0"
mistake_text NotSettled =
    codes "together wants a link that is up at neither end, and no changeover of it open"
mistake_text NotSettledThere =
    codes "rise wants a link that isn't up at this end, and no changeover of it open there"
mistake_text NothingUnderWay = codes "no unit is under way to this end on this link"
mistake_text NoUnitThere = codes "no unit under way to this end on this link has this place, from 0"
mistake_text (Terminal mistake) = terminal_text mistake
mistake_text (Entry mistake) = entry_mistake_text mistake
