use Rattle.std.proofs.Common.{◌∙◌, sym, ap}
use Rattle.text_entries.specs.Reading.{if_found}
use Rattle.text_entries.proofs.ReadingLemmas.{only_entry, read_has_text}
use Rattle.text_entries.proofs.reading.read_entry.Goals as goal

pub returns-then-branch-clause-found : goal.returns-then-branch-clause-found
returns-then-branch-clause-found c =
    read_has_text c.args.profile c.args.line.now c.read_entry_into.new.entry
    (sym (ap (λ b. if_found b c.read_entry_into.new.entry) c.if-branch.true) ∙ c.in_ok-read_entry_into.ensures)

pub returns-then-branch-clause-only : goal.returns-then-branch-clause-only
returns-then-branch-clause-only c = λ entry fits is.
    sym (ap (λ b. if_found b c.read_entry_into.new.entry) c.if-branch.true) ∙ c.in_ok-read_entry_into.ensures
    ∙ only_entry c.args.profile (c.one_text.ensures c.args.profile) c.args.line.now entry fits is

pub returns-else-branch-clause-only : goal.returns-else-branch-clause-only
returns-else-branch-clause-only c = λ entry fits is.
    sym (ap (λ b. if_found b c.read_entry_into.new.entry) c.if-branch.false) ∙ c.in_ok-read_entry_into.ensures
    ∙ only_entry c.args.profile (c.one_text.ensures c.args.profile) c.args.line.now entry fits is
