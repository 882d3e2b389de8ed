-- A unit, the actor, the event, the answer and the entry are read back, and so is what stands behind them: by cases,
-- from the numbers and bodies in them.
use Rattle.std.proofs.Common.{arith, refl, ap, ◌≡◌, ◌∙◌, ◌<◌, ◌^◌, ◌+◌, ◌*◌, ◌/◌, ◌%◌, ℕ, Bool, true, false, List, ◌++◌, drop, nat_le}
use Rattle.std.specs.Int.{w32, from_le_bytes}
use Rattle.std.proofs.lemmas.List.{drop_at, append_assoc}
use Rattle.std.proofs.lemmas.Nat.{from_le_bytes-to_le_bytes_4}
use Rattle.std.proofs.lemmas.Bool.Decides.{nat_tests}
use Rattle.l2_units.proofs.Texts.{wide_again, form_again, wide_small}
use Rattle.l2_units.specs.Grammar.{wide_form, wide_header, wide_number, head_of}
use Rattle.l2_units.specs.declared.status.Status.{Status}
use Rattle.l2_units.specs.declared.unit.Header.{Header}
use Rattle.l2_units.specs.declared.unit.Unit.{Unit as SignalUnit}
use Rattle.l2_units.specs.declared.unit.Unit.TheVariants.{Fisu, Lssu, Msu}
use Rattle.set_events.specs.declared.answer.Answer.{Answer}
use Rattle.set_events.specs.declared.answer.Answer.TheVariants.{Accepted, Taken, Found, Sent, Heard as Reported, Done, Refused}
use Rattle.set_events.specs.declared.answer.Fate.{Fate}
use Rattle.set_events.specs.declared.answer.Report.{Report}
use Rattle.set_events.specs.declared.event.Actor.{Actor}
use Rattle.set_events.specs.declared.event.Actor.TheVariants.{User, Terminal}
use Rattle.set_events.specs.declared.event.Event.{Event}
use Rattle.set_events.specs.declared.event.Event.TheVariants.{Offer, Take, Find, Next, Heard, Up, Down, DownBlind, NoAnswer, Timed, Restore, Redeclare, BackTimeout, Test}
use Rattle.set_events.specs.declared.history.Entry.{Entry}
use Rattle.set_history.specs.Forms.{event_form, answer_form, actor_form, form_octet, unit_form, fate_number, fate_told, report_number, report_told}
use Rattle.set_history.specs.Told.{word, unit_as, behind_unit_as, unit, behind_unit, who_at, behind_who_at, event_told, behind_event, answer_told, behind_answer, entry_as, behind_entry_as, entry_told, behind_entry}
use Rattle.set_history.specs.Written.{head_text, content_text, unit_text, who_text, event_text, answer_text, entry_text, HasKeptBody, IsActorKept, IsEventKept, IsAnswerKept, IsKept}
use Rattle.set_history.proofs.Codes.{fate_back, fate_small, report_back, report_small, refusal_back, form_small}
use Rattle.set_history.proofs.Numbers.{chunk_back, number_back, body_back, behind_body_back}

-- a unit, by its form and header
as_back : (u : SignalUnit) (rest : List ℕ) → HasKeptBody u → unit_as (unit_form u) (head_of u) (content_text u ++ rest) ≡ u
as_back (Fisu head) rest h = refl
as_back (Msu head body) rest h = ap (λ (octets : List ℕ). Msu head (record { items = octets })) (body_back 273 body.items rest (omega (arith, h)) h)
as_back (Lssu head Status.OutOfAlignment) rest h = refl
as_back (Lssu head Status.Normal) rest h = refl
as_back (Lssu head Status.Emergency) rest h = refl
as_back (Lssu head Status.OutOfService) rest h = refl
as_back (Lssu head Status.ProcessorOutage) rest h = refl
as_back (Lssu head Status.Busy) rest h = refl
as_back (Lssu head Status.Unassigned6) rest h = refl
as_back (Lssu head Status.Unassigned7) rest h = refl

behind_as_back : (u : SignalUnit) (rest : List ℕ) → HasKeptBody u → behind_unit_as (unit_form u) (content_text u ++ rest) ≡ rest
behind_as_back (Fisu head) rest h = refl
behind_as_back (Msu head body) rest h = behind_body_back 273 body.items rest (omega (arith, h)) h
behind_as_back (Lssu head Status.OutOfAlignment) rest h = refl
behind_as_back (Lssu head Status.Normal) rest h = refl
behind_as_back (Lssu head Status.Emergency) rest h = refl
behind_as_back (Lssu head Status.OutOfService) rest h = refl
behind_as_back (Lssu head Status.ProcessorOutage) rest h = refl
behind_as_back (Lssu head Status.Busy) rest h = refl
behind_as_back (Lssu head Status.Unassigned6) rest h = refl
behind_as_back (Lssu head Status.Unassigned7) rest h = refl

module _ (u : SignalUnit) (rest : List ℕ) (kept : HasKeptBody u) where
  together : unit_text u ++ rest ≡ head_text u ++ (content_text u ++ rest)
  together = append_assoc (head_text u) (content_text u) rest

  word_back : word (head_text u ++ (content_text u ++ rest)) ≡ wide_number (head_of u) (unit_form u)
  word_back =
      ap (from_le_bytes w32) (chunk_back (head_text u) (content_text u ++ rest) 4 refl)
      ∙ from_le_bytes-to_le_bytes_4 (wide_number (head_of u) (unit_form u)) (wide_small (head_of u) (unit_form u) (form_small u))

  form_back : wide_form (wide_number (head_of u) (unit_form u)) ≡ unit_form u
  form_back = form_again (head_of u) (unit_form u) (form_small u)

  content_back : drop 4 (head_text u ++ (content_text u ++ rest)) ≡ content_text u ++ rest
  content_back = drop_at (head_text u) (content_text u ++ rest) 4 refl

  pub unit_back : unit (unit_text u ++ rest) ≡ u
  unit_back =
      ap unit together
      ∙ ap (λ (n : ℕ). unit_as (wide_form n) (wide_header n) (drop 4 (head_text u ++ (content_text u ++ rest)))) word_back
      ∙ ap (λ (n : ℕ). unit_as n (wide_header (wide_number (head_of u) (unit_form u))) (drop 4 (head_text u ++ (content_text u ++ rest)))) form_back
      ∙ ap (λ (h : Header). unit_as (unit_form u) h (drop 4 (head_text u ++ (content_text u ++ rest)))) (wide_again (head_of u) (unit_form u) (form_small u))
      ∙ ap (λ (xs : List ℕ). unit_as (unit_form u) (head_of u) xs) content_back
      ∙ as_back u rest kept

  pub behind_unit_back : behind_unit (unit_text u ++ rest) ≡ rest
  behind_unit_back =
      ap behind_unit together
      ∙ ap (λ (n : ℕ). behind_unit_as (wide_form n) (drop 4 (head_text u ++ (content_text u ++ rest)))) word_back
      ∙ ap (λ (n : ℕ). behind_unit_as n (drop 4 (head_text u ++ (content_text u ++ rest)))) form_back
      ∙ ap (λ (xs : List ℕ). behind_unit_as (unit_form u) xs) content_back
      ∙ behind_as_back u rest kept

-- who asked
abbrev is_terminal : Actor → Bool
is_terminal (User number) = false
is_terminal (Terminal number) = true

who_back : (who : Actor) (rest : List ℕ) → IsActorKept who → who_at (is_terminal who) (who_text who ++ rest) ≡ who
who_back (User number) rest h =
    ap (λ (n : ℕ). User (n % 0x10000)) ((number_back number (omega (arith, h))).value rest) ∙ ap (λ (n : ℕ). User n) (omega (arith, h))
who_back (Terminal number) rest h = refl

behind_who_back : (who : Actor) (rest : List ℕ) → IsActorKept who → behind_who_at (is_terminal who) (who_text who ++ rest) ≡ rest
behind_who_back (User number) rest h = (number_back number (omega (arith, h))).behind rest
behind_who_back (Terminal number) rest h = refl

-- what was asked
event_back : (event : Event) (rest : List ℕ) → IsEventKept event → event_told (event_form event) (event_text event ++ rest) ≡ event
event_back (Offer body) rest h = ap (λ (octets : List ℕ). Offer octets) (body_back (2 ^ 64) body rest h (omega (arith, h)))
event_back Take rest h = refl
event_back (Find number) rest h = ap (λ (n : ℕ). Find n) ((number_back number h).value rest)
event_back (Next link) rest h = refl
event_back (Heard link unit) rest h = ap (λ (u : SignalUnit). Heard link u) (unit_back unit rest h)
event_back (Up link) rest h = refl
event_back (Down link) rest h = refl
event_back (DownBlind link) rest h = refl
event_back (NoAnswer link) rest h = refl
event_back (Timed link) rest h = refl
event_back (Restore link) rest h = refl
event_back (Redeclare link) rest h = refl
event_back (BackTimeout link) rest h = refl
event_back (Test link) rest h = refl

behind_event_back : (event : Event) (rest : List ℕ) → IsEventKept event → behind_event (event_form event) (event_text event ++ rest) ≡ rest
behind_event_back (Offer body) rest h = behind_body_back (2 ^ 64) body rest h (omega (arith, h))
behind_event_back Take rest h = refl
behind_event_back (Find number) rest h = (number_back number h).behind rest
behind_event_back (Next link) rest h = refl
behind_event_back (Heard link unit) rest h = behind_unit_back unit rest h
behind_event_back (Up link) rest h = refl
behind_event_back (Down link) rest h = refl
behind_event_back (DownBlind link) rest h = refl
behind_event_back (NoAnswer link) rest h = refl
behind_event_back (Timed link) rest h = refl
behind_event_back (Restore link) rest h = refl
behind_event_back (Redeclare link) rest h = refl
behind_event_back (BackTimeout link) rest h = refl
behind_event_back (Test link) rest h = refl

-- what was answered
answer_back : (answer : Answer) (rest : List ℕ) → IsAnswerKept answer → answer_told (answer_form answer) (answer_text answer ++ rest) ≡ answer
answer_back (Accepted number) rest h = ap (λ (n : ℕ). Accepted n) ((number_back number h).value rest)
answer_back (Taken body) rest h = ap (λ (octets : List ℕ). Taken (record { items = octets })) (body_back 273 body.items rest (omega (arith, h)) h)
answer_back (Found fate) rest h =
    ap (λ (n : ℕ). Found (fate_told n)) ((number_back (fate_number fate) (fate_small fate h)).value rest)
    ∙ ap (λ (f : Fate). Found f) (fate_back fate h)
answer_back (Sent unit) rest h = ap (λ (u : SignalUnit). Sent u) (unit_back unit rest h)
answer_back (Reported report) rest h =
    ap (λ (n : ℕ). Reported (report_told n)) ((number_back (report_number report) (report_small report h)).value rest)
    ∙ ap (λ (r : Report). Reported r) (report_back report h)
answer_back Done rest h = refl
answer_back (Refused why) rest h = ap (λ w. Refused w) (refusal_back why)

behind_answer_back : (answer : Answer) (rest : List ℕ) → IsAnswerKept answer → behind_answer (answer_form answer) (answer_text answer ++ rest) ≡ rest
behind_answer_back (Accepted number) rest h = (number_back number h).behind rest
behind_answer_back (Taken body) rest h = behind_body_back 273 body.items rest (omega (arith, h)) h
behind_answer_back (Found fate) rest h = (number_back (fate_number fate) (fate_small fate h)).behind rest
behind_answer_back (Sent unit) rest h = behind_unit_back unit rest h
behind_answer_back (Reported report) rest h = (number_back (report_number report) (report_small report h)).behind rest
behind_answer_back Done rest h = refl
behind_answer_back (Refused why) rest h = refl

-- the three forms in the first octet
event_few : (event : Event) → event_form event < 16
event_few (Offer body) = omega arith
event_few Take = omega arith
event_few (Find number) = omega arith
event_few (Next link) = omega arith
event_few (Heard link unit) = omega arith
event_few (Up link) = omega arith
event_few (Down link) = omega arith
event_few (DownBlind link) = omega arith
event_few (NoAnswer link) = omega arith
event_few (Timed link) = omega arith
event_few (Restore link) = omega arith
event_few (Redeclare link) = omega arith
event_few (BackTimeout link) = omega arith
event_few (Test link) = omega arith

answer_few : (answer : Answer) → answer_form answer < 8
answer_few (Accepted number) = omega arith
answer_few (Taken body) = omega arith
answer_few (Found fate) = omega arith
answer_few (Sent unit) = omega arith
answer_few (Reported report) = omega arith
answer_few Done = omega arith
answer_few (Refused why) = omega arith

module _ (event answer : ℕ) (e : event < 16) (a : answer < 8) where
  event_at : (who : Actor) → (event + 16 * answer + 128 * actor_form who) % 16 ≡ event
  event_at (User number) = omega arith
  event_at (Terminal number) = omega arith

  answer_at : (who : Actor) → (event + 16 * answer + 128 * actor_form who) / 16 % 8 ≡ answer
  answer_at (User number) = omega arith
  answer_at (Terminal number) = omega arith

  terminal_at : (who : Actor) → nat_le 128 (event + 16 * answer + 128 * actor_form who) ≡ is_terminal who
  terminal_at (User number) = grind (arith, nat_tests)
  terminal_at (Terminal number) = grind (arith, nat_tests)

-- the entry
pub same_entry : (a b : Entry) → a.who ≡ b.who → a.event ≡ b.event → a.answer ≡ b.answer → a ≡ b
same_entry a b e f g =
    ap (λ (x : Actor). record { who = x; event = a.event; answer = a.answer }) e
    ∙ ap (λ (x : Event). record { who = b.who; event = x; answer = a.answer }) f
    ∙ ap (λ (x : Answer). record { who = b.who; event = b.event; answer = x }) g

module _ (entry : Entry) (rest : List ℕ) (kept : IsKept entry) where
  abbrev first : ℕ
  first = form_octet entry.who entry.event entry.answer

  abbrev terminal : Bool
  terminal = is_terminal entry.who

  abbrev asked : ℕ
  asked = event_form entry.event

  abbrev answered : ℕ
  answered = answer_form entry.answer

  -- the event's octets and all behind, the answer's and all behind
  abbrev from_event : List ℕ
  from_event = event_text entry.event ++ (answer_text entry.answer ++ rest)

  abbrev from_answer : List ℕ
  from_answer = answer_text entry.answer ++ rest

  apart : (who_text entry.who ++ event_text entry.event ++ answer_text entry.answer) ++ rest ≡ who_text entry.who ++ from_event
  apart =
      append_assoc (who_text entry.who ++ event_text entry.event) (answer_text entry.answer) rest
      ∙ append_assoc (who_text entry.who) (event_text entry.event) (answer_text entry.answer ++ rest)

  to_event : behind_who_at terminal (who_text entry.who ++ from_event) ≡ from_event
  to_event = behind_who_back entry.who from_event kept.0

  to_answer : behind_event asked (behind_who_at terminal (who_text entry.who ++ from_event)) ≡ from_answer
  to_answer = ap (behind_event asked) to_event ∙ behind_event_back entry.event from_answer kept.1

  entry_as_back : entry_as terminal asked answered (who_text entry.who ++ from_event) ≡ entry
  entry_as_back = same_entry (entry_as terminal asked answered (who_text entry.who ++ from_event)) entry
      (who_back entry.who from_event kept.0)
      (ap (event_told asked) to_event ∙ event_back entry.event from_answer kept.1)
      (ap (answer_told answered) to_answer ∙ answer_back entry.answer rest kept.2)

  behind_entry_as_back : behind_entry_as terminal asked answered (who_text entry.who ++ from_event) ≡ rest
  behind_entry_as_back = ap (behind_answer answered) to_answer ∙ behind_answer_back entry.answer rest kept.2

  abbrev octets : List ℕ
  octets = (who_text entry.who ++ event_text entry.event ++ answer_text entry.answer) ++ rest

  terminal_is : nat_le 128 first ≡ terminal
  terminal_is = terminal_at asked answered (event_few entry.event) (answer_few entry.answer) entry.who

  asked_is : first % 16 ≡ asked
  asked_is = event_at asked answered (event_few entry.event) (answer_few entry.answer) entry.who

  answered_is : first / 16 % 8 ≡ answered
  answered_is = answer_at asked answered (event_few entry.event) (answer_few entry.answer) entry.who

  pub entry_back : entry_told (entry_text entry ++ rest) ≡ entry
  entry_back =
      ap (λ (b : Bool). entry_as b (first % 16) (first / 16 % 8) octets) terminal_is
      ∙ ap (λ (n : ℕ). entry_as terminal n (first / 16 % 8) octets) asked_is
      ∙ ap (λ (n : ℕ). entry_as terminal asked n octets) answered_is
      ∙ ap (λ (xs : List ℕ). entry_as terminal asked answered xs) apart
      ∙ entry_as_back

  pub behind_entry_back : behind_entry (entry_text entry ++ rest) ≡ rest
  behind_entry_back =
      ap (λ (b : Bool). behind_entry_as b (first % 16) (first / 16 % 8) octets) terminal_is
      ∙ ap (λ (n : ℕ). behind_entry_as terminal n (first / 16 % 8) octets) asked_is
      ∙ ap (λ (n : ℕ). behind_entry_as terminal asked n octets) answered_is
      ∙ ap (λ (xs : List ℕ). behind_entry_as terminal asked answered xs) apart
      ∙ behind_entry_as_back
