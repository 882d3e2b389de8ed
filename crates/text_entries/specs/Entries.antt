-- THE TEXT OF A HISTORY'S ENTRIES: who asked, what, and what was answered, a line each.
use Rattle.std.specs.Prelude.{◌≡◌, ◌<◌, ◌≤◌, ◌^◌, ℕ, List, [], ◌∷◌, ◌++◌, length, All, codes, decimal}
use Rattle.l2_units.specs.Grammar.{text, IsUnit}
use Rattle.l2_units.specs.declared.profile.Profile.{Profile}
use Rattle.l2_units.specs.declared.unit.Unit.{Unit as SignalUnit}
use Rattle.set_events.specs.declared.event.Actor.{Actor}
use Rattle.set_events.specs.declared.event.Actor.TheVariants.{User, Terminal}
use Rattle.set_events.specs.declared.event.Event.{Event}
use Rattle.set_events.specs.declared.event.Event.TheVariants.{Offer, Take, Find, Next, Heard as Hear, Up, Down, DownBlind, NoAnswer, Timed, Restore, Redeclare, BackTimeout, Test}
use Rattle.set_events.specs.declared.answer.Fate.{Fate}
use Rattle.set_events.specs.declared.answer.Fate.TheVariants.{Waiting, Unacked, Acked, Held, Parked, Back, Discarded}
use Rattle.set_events.specs.declared.answer.Answer.{Answer}
use Rattle.set_events.specs.declared.answer.Answer.TheVariants.{Accepted, Taken, Found, Sent, Heard, Done, Refused}
use Rattle.set_events.specs.declared.history.Entry.{Entry}
use Rattle.text_base.specs.Figures.{hex_text}
use Rattle.text_entries.specs.Texts.{answer_text, unit_octets}

-- words, and a number behind them
abbrev pub numbered : List ℕ → ℕ → List ℕ
numbered words number = words ++ (decimal number ++ codes " ")

abbrev pub actor_text : Actor → List ℕ
actor_text (User number) = numbered (codes "user ") number
actor_text (Terminal link) = numbered (codes "terminal ") link

-- a body in hexadecimal; the empty one is no word
abbrev pub body_text : List ℕ → List ℕ
body_text [] = []
body_text (octet ∷ octets) = hex_text (octet ∷ octets) ++ codes " "

-- a unit that was heard stands in the set's profile, without its check octets, as in the line `hear` of a script
abbrev pub event_text : Profile → Event → List ℕ
event_text profile (Offer body) = codes "offer " ++ body_text body
event_text profile Take = codes "take "
event_text profile (Find number) = numbered (codes "find ") number
event_text profile (Next link) = numbered (codes "next ") link
event_text profile (Hear link unit) =
    numbered (codes "hear ") link ++ (hex_text (unit_octets profile unit) ++ codes " ")
event_text profile (Up link) = numbered (codes "up ") link
event_text profile (Down link) = numbered (codes "down ") link
event_text profile (DownBlind link) = numbered (codes "blind ") link
event_text profile (NoAnswer link) = numbered (codes "noanswer ") link
event_text profile (Timed link) = numbered (codes "timed ") link
event_text profile (Restore link) = numbered (codes "restore ") link
event_text profile (Redeclare link) = numbered (codes "redeclare ") link
event_text profile (BackTimeout link) = numbered (codes "backtimeout ") link
event_text profile (Test link) = numbered (codes "test ") link

-- THE TEXT of an entry of a set of this profile, ended by LF; the answer has the words of `play`
abbrev pub entry_text : Profile → Entry → List ℕ
entry_text profile entry =
    actor_text entry.who ++ (event_text profile entry.event ++ (codes "-> " ++ answer_text profile entry.answer))

-- The values that the types of an entry hold, with units that octets of a line of the profile can stand for.

abbrev pub AreOctets : List ℕ → Type 0
AreOctets octets = All (λ octet. octet < 2 ^ 8) octets

abbrev pub IsOnLine : Profile → SignalUnit → Type 0
IsOnLine profile unit = IsUnit profile unit × AreOctets (text profile unit)

abbrev pub ActorFits : Actor → Type 0
ActorFits (User number) = number < 2 ^ 16
ActorFits (Terminal link) = link < 2 ^ 8

abbrev pub EventFits : Profile → Event → Type 0
EventFits profile (Offer body) = AreOctets body
EventFits profile Take = Unit {0}
EventFits profile (Find number) = number < 2 ^ 64
EventFits profile (Next link) = link < 2 ^ 8
EventFits profile (Hear link unit) = (link < 2 ^ 8) × IsOnLine profile unit
EventFits profile (Up link) = link < 2 ^ 8
EventFits profile (Down link) = link < 2 ^ 8
EventFits profile (DownBlind link) = link < 2 ^ 8
EventFits profile (NoAnswer link) = link < 2 ^ 8
EventFits profile (Timed link) = link < 2 ^ 8
EventFits profile (Restore link) = link < 2 ^ 8
EventFits profile (Redeclare link) = link < 2 ^ 8
EventFits profile (BackTimeout link) = link < 2 ^ 8
EventFits profile (Test link) = link < 2 ^ 8

abbrev pub FateFits : Fate → Type 0
FateFits (Waiting link) = link < 2 ^ 8
FateFits (Unacked link) = link < 2 ^ 8
FateFits (Acked link) = link < 2 ^ 8
FateFits (Held link) = link < 2 ^ 8
FateFits Parked = Unit {0}
FateFits (Back code) = code < 2 ^ 8
FateFits (Discarded cause) = Unit {0}

abbrev pub AnswerFits : Profile → Answer → Type 0
AnswerFits profile (Accepted number) = number < 2 ^ 64
AnswerFits profile (Taken body) = AreOctets body.items × (length body.items ≤ 273)
AnswerFits profile (Found fate) = FateFits fate
AnswerFits profile (Sent unit) = IsOnLine profile unit
AnswerFits profile (Heard report) = report.acked < 2 ^ 16
AnswerFits profile Done = Unit {0}
AnswerFits profile (Refused why) = Unit {0}

pub record EntryFits (profile : Profile) (entry : Entry) : Type 0 where
  pub who : ActorFits entry.who
  pub event : EventFits profile entry.event
  pub answer : AnswerFits profile entry.answer

-- THE LAW: in either profile, one text for an entry, and no other entry has it
abbrev pub OneEntry : Type 0
OneEntry =
    (profile : Profile) (a b : Entry) → EntryFits profile a → EntryFits profile b
    → entry_text profile a ≡ entry_text profile b → a ≡ b

-- THE TEXT of a list of entries: their texts, one after another
abbrev pub entries_text : Profile → List Entry → List ℕ
entries_text profile [] = []
entries_text profile (entry ∷ entries) = entry_text profile entry ++ entries_text profile entries

abbrev pub EntriesFit : Profile → List Entry → Type 0
EntriesFit profile [] = Unit {0}
EntriesFit profile (entry ∷ entries) = EntryFits profile entry × EntriesFit profile entries

-- and so for lists: one text for a history, and no other has it
abbrev pub OneHistory : Type 0
OneHistory =
    (profile : Profile) (a b : List Entry) → EntriesFit profile a → EntriesFit profile b
    → entries_text profile a ≡ entries_text profile b → a ≡ b
