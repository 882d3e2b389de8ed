-- WHAT A CALL UNDER THE LOCK IS ANSWERED. What stands there has no name outside, so a call tells which answers its event can
-- have. That the answer is the step's own shows at the set's end, whose history replays and ends with the seat's receipts.
use Rattle.std.specs.Prelude.{◌≡◌, ℕ, Bool, true, false}
use Rattle.set_model.specs.Checkpoint.{counts_in}
use Rattle.set_model.specs.State.{State, is_settled, late_at}
use Rattle.set_model.specs.Step.{Accepted, Answer, BackTimeout, Done, DownBlind, DownEvent, Event, Find, Finished, Found, Heard, HeardBack, Next, NoAnswer, Timed, NoSuchLink, NotDown, NotUp, Nothing, Offer, Refused, Reserved, Redeclare, Restore, Sent, SetRefusal, StreamFull, Take, Taken, Test, TooLong, TooShort, UnknownNumber, Unsettled, UpEvent}
use Rattle.set_shared.specs.declared.link_set.LinkNow.{LinkNow}

-- in such a state the link stands so, and so many messages of users stand in each place
abbrev pub link_now : ℕ → State → LinkNow
link_now link s = record { counts = counts_in s; settled = is_settled link s; late = late_at link s }

-- WHY an event can be refused
abbrev pub may_refuse : Event → SetRefusal → Bool
may_refuse (Offer body) TooShort = true
may_refuse (Offer body) TooLong = true
may_refuse (Offer body) Reserved = true
may_refuse (Offer body) StreamFull = true
may_refuse Take Nothing = true
may_refuse (Find number) UnknownNumber = true
may_refuse (Find number) Finished = true
may_refuse (Next link) NoSuchLink = true
may_refuse (Next link) NotUp = true
may_refuse (Heard link unit) NoSuchLink = true
may_refuse (Heard link unit) NotUp = true
may_refuse (Heard link unit) Nothing = true
may_refuse (UpEvent link) NoSuchLink = true
may_refuse (UpEvent link) NotDown = true
may_refuse (UpEvent link) Unsettled = true
may_refuse (DownEvent link) NoSuchLink = true
may_refuse (DownEvent link) NotUp = true
may_refuse (DownBlind link) NoSuchLink = true
may_refuse (DownBlind link) NotUp = true
may_refuse (NoAnswer link) NoSuchLink = true
may_refuse (NoAnswer link) Nothing = true
may_refuse (Timed link) NoSuchLink = true
may_refuse (Timed link) Nothing = true
may_refuse (Restore link) NoSuchLink = true
may_refuse (Restore link) NotUp = true
may_refuse (Restore link) Nothing = true
may_refuse (Redeclare link) NoSuchLink = true
may_refuse (Redeclare link) Nothing = true
may_refuse (BackTimeout link) NoSuchLink = true
may_refuse (BackTimeout link) Nothing = true
may_refuse (Test link) NoSuchLink = true
may_refuse (Test link) NotUp = true
may_refuse (Test link) Nothing = true
may_refuse event why = false

-- THE ANSWERS that an event can have
abbrev pub may_answer : Event → Answer → Bool
may_answer event (Refused why) = may_refuse event why
may_answer (Offer body) (Accepted number) = true
may_answer Take (Taken body) = true
may_answer (Find number) (Found fate) = true
may_answer (Next link) (Sent unit) = true
may_answer (Heard link unit) (HeardBack report) = true
may_answer (UpEvent link) Done = true
may_answer (DownEvent link) Done = true
may_answer (DownBlind link) Done = true
may_answer (NoAnswer link) Done = true
may_answer (Timed link) Done = true
may_answer (Restore link) Done = true
may_answer (Redeclare link) Done = true
may_answer (BackTimeout link) Done = true
may_answer event answer = false

abbrev pub MayAnswer : Event → Answer → Type 0
MayAnswer event answer = may_answer event answer ≡ true
