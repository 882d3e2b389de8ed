-- Receipts that are forgotten, and what they add up to.
use Rattle.std.proofs.Common.{arith, ◌≡◌, ◌∙◌, ap, sym, subst, ◌↔◌, ◌+◌, ◌-◌, ℕ, List, [], ◌∷◌, ◌++◌, length, take, drop, filter}
use Rattle.std.proofs.lemmas.List.{append_assoc, drop_at, length-append, take-append-drop}
use Rattle.set_events.specs.declared.books.Books.{Books}
use Rattle.set_events.specs.declared.event.Actor.{Actor}
use Rattle.set_events.specs.declared.history.Entry.{Entry}
use Rattle.set_model.specs.History.{messages_of, octets_in_all}
use Rattle.set_model.specs.Step.{messages_in, octets_of}
use Rattle.set_ledger.specs.declared.share.Forgotten.{Forgotten}
use Rattle.set_ledger.specs.Ending.{EndsWith, IsFaithful, calls_at, is_by}
use Rattle.set_ledger.specs.Seats.{Forgets, SeatState, with_entries, with_entry}

-- one entry more is counted
one_counted : (f : Forgotten) (entry : Entry) (entries : List Entry) → with_entries (with_entry f entry) entries ≡ with_entries f (entry ∷ entries)
one_counted f entry entries =
    let calls : (f.calls + 1) + length entries ≡ f.calls + length (entry ∷ entries) = omega arith in
    let messages : (f.messages + messages_in entry.answer) + messages_of entries ≡ f.messages + (messages_in entry.answer + messages_of entries) = omega arith in
    let octets : (f.octets + octets_of entry.event entry.answer) + octets_in_all entries ≡ f.octets + (octets_of entry.event entry.answer + octets_in_all entries) = omega arith in
    ap (λ (n : ℕ). record { calls = n; messages = (f.messages + messages_in entry.answer) + messages_of entries; octets = (f.octets + octets_of entry.event entry.answer) + octets_in_all entries }) calls
    ∙ ap (λ (n : ℕ). record { calls = f.calls + length (entry ∷ entries); messages = n; octets = (f.octets + octets_of entry.event entry.answer) + octets_in_all entries }) messages
    ∙ ap (λ (n : ℕ). record { calls = f.calls + length (entry ∷ entries); messages = f.messages + messages_of (entry ∷ entries); octets = n }) octets

-- what is left, with it, adds up to the same
pub counted_on : (before f g : Forgotten) (all left more : List Entry) (entry : Entry) → with_entries f left ≡ with_entries before all → left ≡ entry ∷ more → g ≡ with_entry f entry → with_entries g more ≡ with_entries before all
counted_on before f g all left more entry same next is =
    ap (λ (x : Forgotten). with_entries x more) is ∙ one_counted f entry more ∙ ap (with_entries f) (sym next) ∙ same

-- WHAT WAS FORGOTTEN lay before the base: whether the receipts end with the history stays.
ends_same : (old new : SeatState) (calls many : ℕ) (own : List Entry) → many ≡ calls - old.forgotten.calls → Forgets many old new → EndsWith old.forgotten.calls old.receipts calls own ↔ EndsWith new.forgotten.calls new.receipts calls own
ends_same old new calls many own is f =
    let sum = ap (λ (x : Forgotten). x.calls) f.sum_same in
    let split = take-append-drop many old.receipts in
    let whole : take many old.receipts ++ new.receipts ≡ old.receipts = ap (λ (rest : List Entry). take many old.receipts ++ rest) f.receipts_are ∙ split in (
      (λ ends.
          let all = ends.all_before in
          let rest : new.receipts ≡ own = f.receipts_are ∙ ap (drop many) ends.receipts_are ∙ drop_at ends.before own many (omega (arith, is, all)) in
          record { before = []; receipts_are = rest; all_before = omega (arith, all, sum, ap length rest, ap length ends.receipts_are, length-append ends.before own) }),
      (λ ends.
          let all = ends.all_before in
          record {
            before = take many old.receipts ++ ends.before;
            receipts_are = sym whole ∙ ap (λ (rest : List Entry). take many old.receipts ++ rest) ends.receipts_are ∙ sym (append_assoc (take many old.receipts) ends.before own);
            all_before = omega (arith, all, sum, ap length whole, length-append (take many old.receipts) new.receipts, length-append (take many old.receipts) ends.before);
          }),
    )

pub stays_faithful : (books : Books) (history : List Entry) (old new : SeatState) (many : ℕ) → many ≡ calls_at old.who books - old.forgotten.calls → Forgets many old new → IsFaithful books history old ↔ IsFaithful books history new
stays_faithful books history old new many is f =
    subst (λ (who : Actor). IsFaithful books history old ↔ EndsWith new.forgotten.calls new.receipts (calls_at who books) (filter (is_by who) history)) (sym f.who_same)
    (ends_same old new (calls_at old.who books) many (filter (is_by old.who) history) is f)
