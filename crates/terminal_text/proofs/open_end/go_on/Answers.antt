use Rattle.std.proofs.Common.{sym, ap, ◌∙◌, Option}
use Rattle.std.specs.Option.{option_map}
use Rattle.l3_link.specs.declared.times.Times.{Times}
use Rattle.text_forms.specs.Times.{times_of}
use Rattle.terminal_text.proofs.OpenLemmas.{times_told}
use Rattle.terminal_text.proofs.open_end.go_on.Goals as goal

pub returns-in-Some-clause-carried : goal.returns-in-Some-clause-carried
returns-in-Some-clause-carried c =
    times_told c.set_times.result c.args.number c.args.end.now.early c.args.end.now.bench c.set_times.new.bench c.args.text.now
    c.args.out.now.items c.in-Some.times
    (sym c.find_times.ensures ∙ ap (λ (found : Option Times). option_map times_of found) c.in-Some.is)
    c.set_times.ensures
