-- Events and answers whose body stays where it stands, and the place of an answer.
use Rattle.arrayvec.specs.ArrayVec.{ArrayVec}
use Rattle.std.specs.Prelude.{◌≤◌, List, ℕ, [], length}
use Rattle.l2_units.specs.Lent.{unit_in, body_in as body_of}
use Rattle.l2_units.specs.declared.unit.Unit.TheVariants.{Fisu, Msu}
use Rattle.set_events.specs.declared.answer.Answer.{Answer}
use Rattle.set_events.specs.declared.event.Event.{Event}
use Rattle.set_events.specs.declared.lent.EventRef.{EventRef}
use Rattle.set_events.specs.declared.lent.EventRef.TheVariants.{Offer as LentOffer, Take as LentTake, Find as LentFind, Next as LentNext, Heard as LentUnit, Up as LentUp, Down as LentDown, DownBlind as LentDownBlind, NoAnswer as LentNoAnswer, Timed as LentTimed, Restore as LentRestore, Redeclare as LentRedeclare, BackTimeout as LentBackTimeout, Test as LentTest}
use Rattle.set_events.specs.declared.lent.AnswerRef.{AnswerRef}
use Rattle.set_events.specs.declared.lent.AnswerRef.TheVariants.{Accepted as LentAccepted, Taken as LentTaken, Found as LentFound, Sent as LentSent, Heard as LentHeard, Done as LentDone, Refused as LentRefused}
use Rattle.set_events.specs.declared.reply.Said.{Said}
use Rattle.set_events.specs.declared.reply.Said.TheVariants.{Accepted as SaidAccepted, Taken as SaidTaken, Found as SaidFound, FillIn, Message, Heard as SaidHeard, Done as SaidDone, Refused as SaidRefused}

-- THE EVENT
abbrev pub event_in : EventRef → Event
event_in (LentOffer body) = Event.Offer body.now
event_in LentTake = Event.Take
event_in (LentFind number) = Event.Find number
event_in (LentNext link) = Event.Next link
event_in (LentUnit link unit) = Event.Heard link (unit_in unit)
event_in (LentUp link) = Event.Up link
event_in (LentDown link) = Event.Down link
event_in (LentDownBlind link) = Event.DownBlind link
event_in (LentNoAnswer link) = Event.NoAnswer link
event_in (LentTimed link) = Event.Timed link
event_in (LentRestore link) = Event.Restore link
event_in (LentRedeclare link) = Event.Redeclare link
event_in (LentBackTimeout link) = Event.BackTimeout link
event_in (LentTest link) = Event.Test link

-- the octets of its body; there may be none
abbrev pub octets_in : EventRef → List ℕ
octets_in (LentOffer body) = body.now
octets_in (LentUnit link unit) = body_of unit
octets_in event = []

-- a unit that is heard has a body that a unit has room for (Q.703 2.3.8)
abbrev pub HasFitUnit : EventRef → Type 0
HasFitUnit (LentUnit link unit) = length (body_of unit) ≤ 273
HasFitUnit event = Unit {0}

-- THE ANSWER
abbrev pub answer_in : AnswerRef → Answer
answer_in (LentAccepted number) = Answer.Accepted number
answer_in (LentTaken body) = Answer.Taken (record { items = body.now })
answer_in (LentFound fate) = Answer.Found fate
answer_in (LentSent unit) = Answer.Sent (unit_in unit)
answer_in (LentHeard report) = Answer.Heard report
answer_in LentDone = Answer.Done
answer_in (LentRefused why) = Answer.Refused why

-- the octets of its body; there may be none
abbrev pub body_in : AnswerRef → List ℕ
body_in (LentTaken body) = body.now
body_in (LentSent unit) = body_of unit
body_in answer = []

-- what a reply says, with these octets as its body where it has one
abbrev pub said_with : Said → ArrayVec ℕ → Answer
said_with (SaidAccepted number) body = Answer.Accepted number
said_with SaidTaken body = Answer.Taken body
said_with (SaidFound fate) body = Answer.Found fate
said_with (FillIn head) body = Answer.Sent (Fisu head)
said_with (Message head) body = Answer.Sent (Msu head body)
said_with (SaidHeard report) body = Answer.Heard report
said_with SaidDone body = Answer.Done
said_with (SaidRefused why) body = Answer.Refused why
