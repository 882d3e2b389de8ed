-- What a call leaves at a seat of which all calls are known, and what it forgets.
use Rattle.std.proofs.Common.{arith, refl, ◌≡◌, ◌∙◌, ap, sym, ◌-◌, ◌≤◌, inl, inr, ℕ, List, [], ◌∷◌, ◌++◌, length, take, drop, true, Result, Ok, Err, IfOk, IfErr, OnOk}
use Rattle.std.proofs.lemmas.List.{append_assoc, append-nil, drop_all, length-append, length-drop, take-append-drop, take_all}
use Rattle.std.proofs.lemmas.Bool.{cases_lt}
use Rattle.set_events.specs.declared.answer.Answer.{Answer}
use Rattle.set_events.specs.declared.event.Event.{Event}
use Rattle.set_events.specs.declared.fault.SetFault.{SetFault}
use Rattle.set_events.specs.declared.history.Entry.{Entry}
use Rattle.set_ledger.specs.declared.share.Forgotten.{Forgotten}
use Rattle.set_ledger.specs.Seats.{Forgets, Receives, SeatState, refused}
use Rattle.bank_crew.specs.declared.caller.Forgetting.{Forgetting}
use Rattle.bank_crew.specs.Jobs.{Calls}
use Rattle.bank_crew.specs.Seats.{gone, joined}

-- AT A FAULT a seat is as it was, but for what it was told of a full history
refused_receipts : (fault : SetFault) (seat : SeatState) → (refused fault seat).receipts ≡ seat.receipts
refused_receipts SetFault.NoMemory seat = refl
refused_receipts SetFault.Exhausted seat = refl

refused_who : (fault : SetFault) (seat : SeatState) → (refused fault seat).who ≡ seat.who
refused_who SetFault.NoMemory seat = refl
refused_who SetFault.Exhausted seat = refl

refused_forgotten : (fault : SetFault) (seat : SeatState) → (refused fault seat).forgotten ≡ seat.forgotten
refused_forgotten SetFault.NoMemory seat = refl
refused_forgotten SetFault.Exhausted seat = refl

pub full_told : {T : Type 0} (result : Result T SetFault) (old new : SeatState) → IfErr result (λ fault. new ≡ refused fault old) → result ≡ Err SetFault.Exhausted → new.full ≡ true
full_told (Ok done) old new err is = absurd (cc is)
full_told (Err SetFault.NoMemory) old new err is = absurd (cc is)
full_told (Err SetFault.Exhausted) old new err is = ap (λ (seat : SeatState). seat.full) err

pub full_kept : {T : Type 0} (result : Result T SetFault) (old new : SeatState) (event : Event) (answer : Answer) → OnOk result (Receives old event answer new) → IfErr result (λ fault. new ≡ refused fault old) → old.full ≡ true → new.full ≡ true
full_kept (Ok done) old new event answer receives err is = receives.full_same ∙ is
full_kept (Err SetFault.NoMemory) old new event answer receives err is = ap (λ (seat : SeatState). seat.full) err ∙ is
full_kept (Err SetFault.Exhausted) old new event answer receives err is = ap (λ (seat : SeatState). seat.full) err

pub called : (event : Event) (result : Result Answer SetFault) (front : List Entry) (old new : SeatState) → IfOk result (λ answer. Receives old event answer new) → IfErr result (λ fault. new ≡ refused fault old)
    → Calls old.who event result (front ++ old.receipts) (front ++ new.receipts)
called event (Ok answer) front old new receives err =
    let entry : Entry = record { who = old.who; event = event; answer = answer } in
    ap (λ (more : List Entry). front ++ more) receives.receipt ∙ sym (append_assoc front old.receipts (entry ∷ []))
called event (Err fault) front old new receives err = ap (λ (seat : SeatState). front ++ seat.receipts) err ∙ ap (λ (rs : List Entry). front ++ rs) (refused_receipts fault old)

pub same_who : (event : Event) (result : Result Answer SetFault) (old new : SeatState) → IfOk result (λ answer. Receives old event answer new) → IfErr result (λ fault. new ≡ refused fault old) → new.who ≡ old.who
same_who event (Ok answer) old new receives err = receives.who_same
same_who event (Err fault) old new receives err = ap (λ (seat : SeatState). seat.who) err ∙ refused_who fault old

-- no call forgets
pub as_many : (event : Event) (result : Result Answer SetFault) (many : ℕ) (old new : SeatState) → IfOk result (λ answer. Receives old event answer new) → IfErr result (λ fault. new ≡ refused fault old) → many ≡ old.forgotten.calls → many ≡ new.forgotten.calls
as_many event (Ok answer) many old new receives err is = is ∙ sym (ap (λ (f : Forgotten). f.calls) receives.forgotten_same)
as_many event (Err fault) many old new receives err is = is ∙ sym (ap (λ (seat : SeatState). seat.forgotten.calls) err ∙ ap (λ (f : Forgotten). f.calls) (refused_forgotten fault old))

-- what's gone, and what's left, are what was there
pub split : {X : Type 0} (many : ℕ) (xs ys : List X) → ys ≡ drop many xs → take (length xs - length ys) xs ++ ys ≡ xs
split many xs ys is = elim (cases_lt many (length xs)) [
  | inl less ↦
      let some : length xs - length ys ≡ many = omega (arith, less, ap length is, length-drop many xs) in
      ap (λ n. take n xs ++ ys) some ∙ ap (λ rest. take many xs ++ rest) is ∙ take-append-drop many xs
  | inr past ↦
      let none : ys ≡ [] = is ∙ drop_all many xs past in
      let all : length xs ≤ length xs - length ys = omega (arith, ap length none) in
      ap (λ rest. take (length xs - length ys) xs ++ rest) none ∙ append-nil (take (length xs - length ys) xs) ∙ take_all (length xs - length ys) xs all
]

joined_more : {S : Type 0} (of : S → SeatState) (fs : List (Forgetting S)) (f : Forgetting S) → joined of (fs ++ f ∷ []) ≡ joined of fs ++ gone (of f.before.value) (of f.after.value)
joined_more of [] f = append-nil (gone (of f.before.value) (of f.after.value))
joined_more of (g ∷ fs) f =
    ap (λ (rest : List Entry). gone (of g.before.value) (of g.after.value) ++ rest) (joined_more of fs f)
    ∙ sym (append_assoc (gone (of g.before.value) (of g.after.value)) (joined of fs) (gone (of f.before.value) (of f.after.value)))

-- ONE FORGETTING MORE: all that was asked stays, and as many are gone as the seat says.
module _ {S : Type 0} (of : S → SeatState) (fs fs' : List (Forgetting S)) (f : Forgetting S) (old new : S) (many : ℕ) (forgets : Forgets many (of old) (of new)) (pushed : fs' ≡ fs ++ f ∷ []) (before : f.before.value ≡ old) (after : f.after.value ≡ new) where
  here : joined of fs' ≡ joined of fs ++ gone (of old) (of new)
  here =
      ap (joined of) pushed ∙ joined_more of fs f
      ∙ ap (λ (s : S). joined of fs ++ gone (of s) (of f.after.value)) before ∙ ap (λ (s : S). joined of fs ++ gone (of old) (of s)) after

  whole : gone (of old) (of new) ++ (of new).receipts ≡ (of old).receipts
  whole = split many (of old).receipts (of new).receipts forgets.receipts_are

  pub all_stay : joined of fs' ++ (of new).receipts ≡ joined of fs ++ (of old).receipts
  all_stay =
      ap (λ (front : List Entry). front ++ (of new).receipts) here ∙ append_assoc (joined of fs) (gone (of old) (of new)) (of new).receipts
      ∙ ap (λ (rest : List Entry). joined of fs ++ rest) whole

  pub so_many : length (joined of fs) ≡ (of old).forgotten.calls → length (joined of fs') ≡ (of new).forgotten.calls
  so_many was =
      let sum = ap (λ (x : Forgotten). x.calls) forgets.sum_same in
      omega (arith, was, sum, ap length whole, length-append (gone (of old) (of new)) (of new).receipts, ap length here, length-append (joined of fs) (gone (of old) (of new)))
