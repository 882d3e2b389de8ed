-- WHAT LEVEL 3 AWAITS of a link, and what it asks of the set for it. The timers of Q.704 16.8 that end such a wait are
-- counted (own): T2, for the acknowledgement of a changeover, by the slices of turns that the terminal rests; T4 and T5
-- together, for the acknowledgement of a changeback, by what the terminal asks but Ups, which is each unit that it sends,
-- each that it hears, and that the link went down.
use Rattle.std.specs.Prelude.{◌≡◌, ◌&&◌, ◌+◌, ℕ, zero, suc, nat_le, Bool, true, false, List, [], ◌∷◌, Option, None, Some, if◌then◌else◌}
use Rattle.set_events.specs.declared.answer.Answer.{Answer}
use Rattle.set_events.specs.declared.event.Event.{Event}
use Rattle.set_events.specs.declared.event.Event.TheVariants.{BackTimeout, Down, NoAnswer, Restore}
use Rattle.set_events.specs.declared.history.Entry.{Entry}
use Rattle.bank_crew.specs.declared.plan.Managed.{Managed}
use Rattle.bank_crew.specs.declared.questions.Awaited.{Awaited}
use Rattle.bank_crew.specs.Counts.{counts_up, is_done, is_up}
use Rattle.bank_crew.specs.Managing.{rests_by}

-- SO MANY ASKS T4 lasts, and so many slices T2
abbrev pub patience : ℕ
patience = 65536

abbrev pub longest_rest : ℕ
longest_rest = 96

-- no timer runs
abbrev pub nothing : Awaited
nothing = record { rests = 0; asks = None }

-- T2 RUNS while the link is out of service and isn't settled: the far end didn't acknowledge the changeover. It ends with the
-- last of so many slices, and begins anew then.
abbrev pub t2_ends : ℕ → Bool
t2_ends rests = nat_le longest_rest (rests + 1)

abbrev pub rested : Awaited → Awaited
rested awaited = record awaited { rests = if t2_ends awaited.rests then 0 else awaited.rests + 1 }

-- where links are managed it's asked then that no answer came (Q.704 5.7.2)
abbrev pub asked_at_rest : Option Managed → ℕ → Awaited → Option Event
asked_at_rest None link awaited = None
asked_at_rest (Some managed) link awaited = if t2_ends awaited.rests then Some (NoAnswer link) else None

-- T4 RUNS from the answer to Restore on, over whatever the terminal asks but Ups, and ends once.
abbrev pub t4_ends : Option ℕ → Bool
t4_ends None = false
t4_ends (Some asks) = nat_le patience asks

abbrev pub t4_after : Option ℕ → Option ℕ
t4_after None = None
t4_after (Some asks) = if nat_le patience asks then None else Some (asks + 1)

-- BEHIND A LOOK
abbrev pub awaited_at : ℕ → Awaited → Awaited
awaited_at look awaited = if rests_by look then rested awaited else awaited

abbrev pub asked_at : ℕ → Option Managed → ℕ → Awaited → Option Event
asked_at look managed link awaited = if rests_by look then asked_at_rest managed link awaited else None

-- BEHIND AN ANSWER to an event of the link's terminal this is awaited: nothing of a link that came up
abbrev pub awaited_behind : ℕ → Event → Answer → Awaited → Awaited
awaited_behind link event answer awaited =
    if counts_up link event answer then nothing else
    (if is_up link event then awaited else record awaited { asks = t4_after awaited.asks })

-- AND THIS IS ASKED where links are managed: streams back to a link that came up (Q.704 6.2); that no answer came to its
-- changeback, where T4 ended (6.4); else nothing
abbrev pub asked_behind : Option Managed → ℕ → Event → Answer → Awaited → Option Event
asked_behind None link event answer awaited = None
asked_behind (Some managed) link event answer awaited =
    if counts_up link event answer then Some (Restore link) else
    (if is_up link event then None else (if t4_ends awaited.asks then Some (BackTimeout link) else None))

-- A LINK THAT CAME UP into a life that the far end has left is down at once (own), wherever it is: a changeover order about it
-- came late while the turn went that brought it up
abbrev pub asked_late : Bool → Option Managed → ℕ → Event → Answer → Awaited → Option Event
asked_late true managed link event answer awaited =
    if counts_up link event answer then Some (Down link) else asked_behind managed link event answer awaited
asked_late false managed link event answer awaited = asked_behind managed link event answer awaited

-- BEHIND THE ANSWER to what was asked: T4 runs where streams were asked back and the set did so
abbrev pub is_restore : Event → Bool
is_restore (Restore link) = true
is_restore event = false

abbrev pub awaited_by : Event → Answer → Awaited → Awaited
awaited_by question answer awaited =
    if is_restore question && is_done answer then record awaited { asks = Some 0 } else awaited

-- OVER THE ENTRIES of a terminal's seat and its looks, by their marks, level 3 asked nothing but what was due behind the turn's
-- entry, or the look, before, where this was awaited before them and this was due, and that after them. What was due and isn't
-- asked was refused for want of memory.
abbrev pub AsksDue : Option Managed → ℕ → Awaited → Option Event → List ℕ → List Entry → Awaited → Option Event → Type 0
AsksDue managed link awaited due [] [] after last = (after ≡ awaited) × (last ≡ due)
AsksDue managed link awaited due [] (entry ∷ entries) after last = ⊥
AsksDue managed link awaited due (zero ∷ marks) [] after last = ⊥
AsksDue managed link awaited due (zero ∷ marks) (entry ∷ entries) after last =
    (due ≡ Some entry.event)
    × AsksDue managed link (awaited_by entry.event entry.answer awaited) None marks entries after last
AsksDue managed link awaited due (suc zero ∷ marks) [] after last = ⊥
AsksDue managed link awaited due (suc zero ∷ marks) (entry ∷ entries) after last =
    AsksDue managed link (awaited_behind link entry.event entry.answer awaited)
    (asked_late false managed link entry.event entry.answer awaited) marks entries after last
AsksDue managed link awaited due (suc (suc zero) ∷ marks) [] after last = ⊥
AsksDue managed link awaited due (suc (suc zero) ∷ marks) (entry ∷ entries) after last =
    AsksDue managed link (awaited_behind link entry.event entry.answer awaited)
    (asked_late true managed link entry.event entry.answer awaited) marks entries after last
AsksDue managed link awaited due (suc (suc (suc look)) ∷ marks) entries after last =
    AsksDue managed link (awaited_at look awaited) (asked_at look managed link awaited) marks entries after last

-- FROM THE FIRST ENTRY on, behind which this is awaited
abbrev pub AsksFrom : Option Managed → ℕ → List ℕ → List Entry → Awaited → Type 0
AsksFrom managed link marks made awaited = (due : Option Event) × AsksDue managed link nothing None marks made awaited due
