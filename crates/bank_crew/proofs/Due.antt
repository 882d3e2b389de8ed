-- What level 3 asks is due, entry by entry.
use Rattle.std.proofs.Common.{refl, ◌≡◌, ap, sym, subst, not, ◌&&◌, ◌+◌, ℕ, zero, suc, Bool, true, false, List, [], ◌∷◌, ◌++◌, Option, None, Some, Result, Ok, Err, OnOk, OnErr}
use Rattle.std.specs.Prelude.{IsSome, if◌then◌else◌}
use Rattle.set_events.specs.declared.answer.Answer.{Answer}
use Rattle.set_events.specs.declared.event.Event.{Event}
use Rattle.set_events.specs.declared.fault.SetFault.{SetFault}
use Rattle.set_events.specs.declared.history.Entry.{Entry}
use Rattle.bank_crew.specs.declared.plan.Managed.{Managed}
use Rattle.bank_crew.specs.declared.questions.Awaited.{Awaited}
use Rattle.bank_crew.specs.declared.manager.Sight.{Sight}
use Rattle.bank_crew.specs.Awaiting.{AsksDue, AsksFrom, asked_at, asked_at_rest, asked_late, awaited_at, awaited_behind, awaited_by, nothing, rested}
use Rattle.bank_crew.specs.Doors.{AskedDue, AsksIf, DoorState, Follows, IsLookRefused, IsRefused, Looks, Unasked, due_at, due_in, hearing, looking}
use Rattle.bank_crew.specs.Managing.{look_mark, turns_mark}
use Rattle.bank_crew.specs.Seats.{link_in}

-- SOME ENTRIES, AND MORE
module _ (managed : Option Managed) (link : ℕ) (b : Awaited) (t : Option Event) (marks' : List ℕ) (entries' : List Entry) (c : Awaited) (u : Option Event) (more : AsksDue managed link b t marks' entries' c u) where
  pub joined : (marks : List ℕ) (entries : List Entry) (a : Awaited) (d : Option Event) → AsksDue managed link a d marks entries b t
      → AsksDue managed link a d (marks ++ marks') (entries ++ entries') c u
  joined [] [] a d is =
      subst (λ (x : Option Event). AsksDue managed link a x marks' entries' c u) is.1
      (subst (λ (x : Awaited). AsksDue managed link x t marks' entries' c u) is.0 more)
  joined [] (e ∷ entries) a d is = absurd is
  joined (zero ∷ marks) [] a d is = absurd is
  joined (zero ∷ marks) (e ∷ entries) a d is = (is.0, joined marks entries (awaited_by e.event e.answer a) None is.1)
  joined (suc zero ∷ marks) [] a d is = absurd is
  joined (suc zero ∷ marks) (e ∷ entries) a d is = joined marks entries (awaited_behind link e.event e.answer a) (asked_late false managed link e.event e.answer a) is
  joined (suc (suc zero) ∷ marks) [] a d is = absurd is
  joined (suc (suc zero) ∷ marks) (e ∷ entries) a d is = joined marks entries (awaited_behind link e.event e.answer a) (asked_late true managed link e.event e.answer a) is
  joined (suc (suc (suc m)) ∷ marks) entries a d is = joined marks entries (awaited_at m a) (asked_at m managed link a) is

-- one entry of a turn alone
turn_alone : (late : Bool) (managed : Option Managed) (link : ℕ) (b : Awaited) (t : Option Event) (entry : Entry)
    → AsksDue managed link b t (turns_mark late ∷ []) (entry ∷ []) (awaited_behind link entry.event entry.answer b) (asked_late late managed link entry.event entry.answer b)
turn_alone true managed link b t entry = (refl, refl)
turn_alone false managed link b t entry = (refl, refl)

none_more : (entries : List Entry) → entries ++ [] ≡ entries
none_more [] = refl
none_more (e ∷ entries) = ap (λ (es : List Entry). e ∷ es) (none_more entries)

along : (managed : Option Managed) (link : ℕ) (entries entries' : List Entry) (marks marks' : List ℕ) (b b' : Awaited) (t : Option Event) → entries' ≡ entries → marks' ≡ marks → b' ≡ b → AsksDue managed link nothing None marks entries b t
    → AsksDue managed link nothing None marks' entries' b' t
along managed link entries entries' marks marks' b b' t same_entries same_marks same is =
    subst (λ (x : Awaited). AsksDue managed link nothing None marks' entries' x t) (sym same)
    (subst (λ (x : List ℕ). AsksDue managed link nothing None x entries' b t) (sym same_marks)
    (subst (λ (x : List Entry). AsksDue managed link nothing None marks x b t) (sym same_entries) is))

-- what is due is asked, or nothing is
module _ (managed : Option Managed) (link : ℕ) (before after : DoorState) where
  asks_if : (due : Option Event) → AsksIf due before after → AsksDue managed link nothing None before.marks before.all before.awaited due
      → AsksFrom managed link after.marks after.all after.awaited
  asks_if None unasked is =
      (None, along managed link before.all after.all before.marks after.marks before.awaited after.awaited None unasked.0 unasked.1 unasked.2 is)
  asks_if (Some question) asked is =
      let entry : Entry = record { who = before.seat.who; event = question; answer = asked.0 } in (
        None,
        along managed link (before.all ++ entry ∷ []) after.all (before.marks ++ 0 ∷ []) after.marks (awaited_by question asked.0 before.awaited) after.awaited None asked.1 asked.2 asked.3
            (joined managed link before.awaited (Some question) (0 ∷ []) (entry ∷ []) (awaited_by question asked.0 before.awaited) None (refl, (refl, refl)) before.marks before.all nothing None is),
      )

  -- or memory was refused to it
  asks_or : (due : Option Event) (result : Result (Unit {0}) SetFault) → OnOk result (AsksIf due before after) → OnErr result (IsSome due × Unasked before after)
      → AsksDue managed link nothing None before.marks before.all before.awaited due → AsksFrom managed link after.marks after.all after.awaited
  asks_or due (Ok done) ok err is = asks_if due ok is
  asks_or due (Err fault) ok err is =
      (due, along managed link before.all after.all before.marks after.marks before.awaited after.awaited due err.1.0 err.1.1 err.1.2 is)

-- the same of a door, whose link stays and whose links are managed as before
pub due_on : (before after : DoorState) → after.managed ≡ before.managed → link_in after.seat.who ≡ link_in before.seat.who
    → AsksFrom before.managed (link_in before.seat.who) after.marks after.all after.awaited → AskedDue after
due_on before after managed link due =
    subst (λ (m : Option Managed). AsksFrom m (link_in after.seat.who) after.marks after.all after.awaited) (sym managed)
    (subst (λ (n : ℕ). AsksFrom before.managed n after.marks after.all after.awaited) (sym link) due)

-- A STEP, and what level 3 asks behind it
pub step_due : (before mid after : DoorState) (event : Event) (answer : Answer) (late : Bool) (result : Result (Unit {0}) SetFault)
    → mid.all ≡ before.all ++ record { who = before.seat.who; event = event; answer = answer } ∷ [] → mid.marks ≡ before.marks ++ turns_mark late ∷ []
    → mid.awaited ≡ before.awaited → mid.managed ≡ before.managed → link_in mid.seat.who ≡ link_in before.seat.who → after.managed ≡ mid.managed → link_in after.seat.who ≡ link_in mid.seat.who
    → OnOk result (Follows late event answer mid after) → OnErr result (IsRefused late event answer mid after) → AskedDue before → AskedDue after
step_due before mid after event answer late result made is_marked same managed_same link_same managed_on link_on ok err due =
    due_on mid after managed_on link_on (asks_or managed link (hearing event answer mid) after (due_in late event answer mid) result ok err turned)
  where
    managed : Option Managed
    managed = mid.managed

    link : ℕ
    link = link_in mid.seat.who

    entry : Entry
    entry = record { who = before.seat.who; event = event; answer = answer }

    was : AsksFrom managed link before.marks before.all before.awaited
    was = subst (λ (m : Option Managed). AsksFrom m link before.marks before.all before.awaited) (sym managed_same)
        (subst (λ (n : ℕ). AsksFrom before.managed n before.marks before.all before.awaited) (sym link_same) due)

    turned : AsksDue managed link nothing None mid.marks mid.all (awaited_behind link event answer mid.awaited) (due_in late event answer mid)
    turned =
        subst (λ (w : Awaited). AsksDue managed link nothing None mid.marks mid.all (awaited_behind link event answer w) (asked_late late managed link event answer w)) (sym same)
        (along managed link (before.all ++ entry ∷ []) mid.all (before.marks ++ turns_mark late ∷ []) mid.marks
        (awaited_behind link event answer before.awaited) (awaited_behind link event answer before.awaited) (asked_late late managed link event answer before.awaited) made is_marked refl
        (joined managed link before.awaited was.0 (turns_mark late ∷ []) (entry ∷ []) (awaited_behind link event answer before.awaited) (asked_late late managed link event answer before.awaited)
        (turn_alone late managed link before.awaited was.0 entry) before.marks before.all nothing None was.1))

-- A LOOK, and what level 3 asks then
look_by : (managed : Option Managed) (link : ℕ) (b : Awaited) (t : Option Event) (out settled late : Bool)
    → AsksDue managed link b t ((3 + ((if out then 4 else 0) + ((if settled then 2 else 0) + (if late then 1 else 0)))) ∷ []) [] (if (out && not settled) then rested b else b) (if (out && not settled) then asked_at_rest managed link b else None)
look_by managed link b t true true true = (refl, refl)
look_by managed link b t true true false = (refl, refl)
look_by managed link b t true false true = (refl, refl)
look_by managed link b t true false false = (refl, refl)
look_by managed link b t false true true = (refl, refl)
look_by managed link b t false true false = (refl, refl)
look_by managed link b t false false true = (refl, refl)
look_by managed link b t false false false = (refl, refl)

look_alone : (managed : Option Managed) (link : ℕ) (b : Awaited) (t : Option Event) (out : Bool) (sight : Sight)
    → AsksDue managed link b t (look_mark out sight ∷ []) [] (if (out && not sight.settled) then rested b else b) (if (out && not sight.settled) then asked_at_rest managed link b else None)
look_alone managed link b t out sight = look_by managed link b t out sight.settled sight.late

pub look_due : (before after : DoorState) (out : Bool) (sight : Sight) (result : Result (Unit {0}) SetFault) → after.managed ≡ before.managed → link_in after.seat.who ≡ link_in before.seat.who
    → OnOk result (Looks out sight before after) → OnErr result (IsLookRefused out sight before after) → AskedDue before → AskedDue after
look_due before after out sight result managed link ok err due =
    due_on before after managed link (asks_or before.managed (link_in before.seat.who) (looking out sight before) after (due_at out sight before) result ok err
    (along before.managed (link_in before.seat.who) (before.all ++ []) before.all (before.marks ++ look_mark out sight ∷ []) (looking out sight before).marks (looking out sight before).awaited
    (looking out sight before).awaited (due_at out sight before)
    (sym (none_more before.all)) refl refl
    (joined before.managed (link_in before.seat.who) before.awaited due.0 (look_mark out sight ∷ []) [] (looking out sight before).awaited (due_at out sight before)
    (look_alone before.managed (link_in before.seat.who) before.awaited due.0 out sight) before.marks before.all nothing None due.1)))

-- no entries, nothing asked
pub none_due : (managed : Option Managed) (link : ℕ) (entries : List Entry) (marks : List ℕ) (awaited : Awaited) → entries ≡ [] → marks ≡ [] → awaited ≡ nothing → AsksFrom managed link marks entries awaited
none_due managed link entries marks awaited none empty start =
    (None, along managed link [] entries [] marks nothing awaited None none empty start (refl, refl))
