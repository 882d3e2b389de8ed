-- THE TEXT OF `audit`: whether the history that is read is legal, and what it adds up to.
use Rattle.std.specs.Prelude.{◌≡◌, ◌<◌, ◌≤◌, ℕ, List, [], ◌++◌, length, Option, None, Some, get_or, codes, decimal}
use Rattle.text_base.specs.Printing.{Printed}
use Rattle.l2_units.specs.declared.profile.Profile.{Profile}
use Rattle.set_events.specs.declared.books.Books.{Books}
use Rattle.set_model.specs.State.{State, opened_with}
use Rattle.set_model.specs.History.{longest_history}
use Rattle.set_core.specs.declared.item.Item.{Item}
use Rattle.set_core.specs.Items.{AreLegal, books_over, entries_among}
use Rattle.set_events.specs.declared.answer.Answer.{Answer}
use Rattle.text_entries.specs.Texts.{answer_text}
use Rattle.set_core.specs.FirstWrong.{IsFirstWrong, answer_at}
use Rattle.set_core.specs.Hearing.{unasked}
use Rattle.text_entries.specs.Telling.{Telling, tells, unreadable, history_in, nothing_told, told_from}
use Rattle.history_audit.specs.declared.fault.AuditFault.{AuditFault}
use Rattle.history_audit.specs.declared.fault.AuditFault.TheVariants.{Text, Illegal, Exhausted}
use Rattle.history_audit.specs.declared.verdict.Verdict.{Verdict}

-- how many entries there are, each the call of one actor; how many messages were accepted, the octets of their bodies,
-- and how many of them were acknowledged
abbrev pub books_text : ℕ → Books → List ℕ
books_text calls books =
    codes " calls=" ++ (decimal calls ++ (codes " accepted=" ++ (decimal books.messages
    ++ (codes " octets=" ++ (decimal books.octets
    ++ (codes " acked=" ++ (decimal books.acknowledged ++ codes "\n")))))))

-- the books run on over checkpoints
abbrev pub legal_text : State → List Item → List ℕ
legal_text opening items =
    codes "legal=yes" ++ books_text (length (entries_among items)) (books_over (unasked opening) items)

-- what a set answers there, as in a history; nothing to an actor that it hasn't
abbrev pub there_text : Profile → Option Answer → List ℕ
there_text profile None = codes "no such user or terminal\n"
there_text profile (Some answer) = answer_text profile answer

abbrev pub wrong_text : Profile → ℕ → Option Answer → List ℕ
wrong_text profile line answer =
    codes "legal=no line=" ++ (decimal line ++ (codes " -> " ++ there_text profile answer))

-- all that is printed, and no fault
abbrev pub says : List ℕ → Printed AuditFault
says printed = record { printed = printed; fault = None }

-- what is printed of the line of the first wrong entry, which is a fault
abbrev pub refuses : Profile → ℕ → Option Answer → Printed AuditFault
refuses profile line answer =
    record { printed = wrong_text profile line answer; fault = Some (Illegal line) }

abbrev pub fails : AuditFault → Printed AuditFault
fails fault = record { printed = []; fault = Some fault }

-- YES exactly where the items are a legal history of a set that opened so; NO with the line of the first that isn't
-- the step's answer, and that answer. No history has more than 2^48 entries.
pub data IsAudited (opening : State) (items : List Item) (lines : List ℕ)
    (text : Printed AuditFault) : Type 0 where
  legal : length (entries_among items) ≤ longest_history → AreLegal opening items
      → text ≡ says (legal_text opening items) → IsAudited opening items lines text
  wrong : (place : ℕ) → length (entries_among items) ≤ longest_history → IsFirstWrong opening items place
      → text ≡ refuses opening.settings.profile (get_or lines place 0) (answer_at opening items place)
      → IsAudited opening items lines text
  full : longest_history < length (entries_among items) → text ≡ fails Exhausted
      → IsAudited opening items lines text

abbrev pub IsAuditOf : Telling → Printed AuditFault → Type 0
IsAuditOf (unreadable n flaw) text = text ≡ fails (Text n flaw)
IsAuditOf (tells s items lines) text = IsAudited (opened_with s) items lines text

-- THE TEXT, of lines and of an input
abbrev pub IsAuditOfLines : List (List ℕ) → Printed AuditFault → Type 0
IsAuditOfLines lines text = IsAuditOf (told_from 1 nothing_told lines) text

abbrev pub IsAuditText : List ℕ → Printed AuditFault → Type 0
IsAuditText input text = IsAuditOf (history_in input) text

-- THE LAW: an input has one text
abbrev pub OneAuditText : Type 0
OneAuditText =
    (input : List ℕ) (a b : Printed AuditFault) → IsAuditText input a → IsAuditText input b → a ≡ b

-- A verdict beside the definition: a text and a fault are all that is said.
abbrev pub told_of : Verdict → Printed AuditFault
told_of verdict = record { printed = verdict.text.items; fault = verdict.fault }
