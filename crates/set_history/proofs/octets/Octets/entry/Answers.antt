use Rattle.std.proofs.Common.{ap, ◌≡◌, ◌∙◌, ◌/◌, ◌%◌, ℕ, List, drop, nat_le}
use Rattle.set_events.specs.Lent.{answer_in, event_in}
use Rattle.set_history.specs.Told.{octet, who_at, behind_who_at, event_told, behind_event, answer_told, entry_told}
use Rattle.set_history.proofs.Parts.{same_entry}
use Rattle.set_history.proofs.octets.Octets.entry.Goals as goal

module _ (c : goal.After-answer) where
  abbrev octets : List ℕ
  octets = c.args.self.now

  abbrev first : ℕ
  first = c.octet-first.result

  abbrev behind_first : List ℕ
  behind_first = drop 1 octets

  who : c.who.result ≡ who_at (nat_le 128 (octet octets)) behind_first
  who = c.who.ensures.value
      ∙ ap (λ (xs : List ℕ). who_at (nat_le 128 first) xs) c.octet-first.ensures.behind
      ∙ ap (λ (n : ℕ). who_at (nat_le 128 n) behind_first) c.octet-first.ensures.value

  to_event : c.who.new.self ≡ behind_who_at (nat_le 128 (octet octets)) behind_first
  to_event = c.who.ensures.behind
      ∙ ap (λ (xs : List ℕ). behind_who_at (nat_le 128 first) xs) c.octet-first.ensures.behind
      ∙ ap (λ (n : ℕ). behind_who_at (nat_le 128 n) behind_first) c.octet-first.ensures.value

  abbrev from_event : List ℕ
  from_event = behind_who_at (nat_le 128 (octet octets)) behind_first

  event : event_in c.event.result ≡ event_told (octet octets % 16) from_event
  event = c.event.ensures.value
      ∙ ap (λ (xs : List ℕ). event_told (first % 16) xs) to_event
      ∙ ap (λ (n : ℕ). event_told (n % 16) from_event) c.octet-first.ensures.value

  to_answer : c.event.new.self ≡ behind_event (octet octets % 16) from_event
  to_answer = c.event.ensures.behind
      ∙ ap (λ (xs : List ℕ). behind_event (first % 16) xs) to_event
      ∙ ap (λ (n : ℕ). behind_event (n % 16) from_event) c.octet-first.ensures.value

  abbrev from_answer : List ℕ
  from_answer = behind_event (octet octets % 16) from_event

  answer : answer_in c.answer.result ≡ answer_told (octet octets / 16 % 8) from_answer
  answer = c.answer.ensures.value
      ∙ ap (λ (xs : List ℕ). answer_told (first / 16 % 8) xs) to_answer
      ∙ ap (λ (n : ℕ). answer_told (n / 16 % 8) from_answer) c.octet-first.ensures.value

pub returns-clause-value : goal.returns-clause-value
returns-clause-value c = same_entry
    (record { who = c.who.result; event = event_in c.event.result; answer = answer_in c.answer.result })
    (entry_told c.args.self.now)
    (who c) (event c) (answer c)
