use Rattle.std.proofs.Common.{ap, sym, ◌≡◌, ◌∙◌, ◌+◌, ◌-◌, ◌++◌, List, ℕ, drop, length}
use Rattle.set_events.specs.Lent.{answer_in, event_in}
use Rattle.set_events.specs.declared.history.Entry.{Entry}
use Rattle.set_history.specs.Runs.{begun}
use Rattle.set_history.specs.Told.{entry_told, behind_entry}
use Rattle.set_history.specs.Written.{entry_text}
use Rattle.set_history.proofs.Parts.{entry_back, behind_entry_back}
use Rattle.set_history.proofs.Suffixes.{left_behind}
use Rattle.set_history.proofs.pushing.again.Goals as goal

module _ (c : goal.After-in_turn) where
  abbrev entry : Entry
  entry = record { who = c.args.who; event = event_in c.args.event.now; answer = answer_in c.args.answer.now }

  abbrev rest : List ℕ
  rest = c.in-Some.rest.now

  abbrev octets : List ℕ
  octets = c.args.octets.now

  abbrev next : ℕ
  next = c.args.last.now.next

  there : drop next octets ≡ entry_text entry ++ rest
  there = sym c.apart.ensures.behind ∙ c.in-Some.ensures.text

  told : entry_told (drop next octets) ≡ entry
  told = ap entry_told there ∙ entry_back entry rest c.in-Some.ensures.kept

  behind : drop (length octets - length rest) octets ≡ behind_entry (drop next octets)
  behind = left_behind next octets (entry_text entry) rest there ∙ sym (ap behind_entry there ∙ behind_entry_back entry rest c.in-Some.ensures.kept)

pub returns-in-Some-clause-told : goal.returns-in-Some-clause-told
returns-in-Some-clause-told c = told c

pub returns-in-Some-clause-next : goal.returns-in-Some-clause-next
returns-in-Some-clause-next c =
    c.in_turn.ensures ∙ ap (begun (drop (c.args.last.now.begin + c.args.last.now.skip) c.args.octets.now)) (behind c)
