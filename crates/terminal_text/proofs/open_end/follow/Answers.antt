use Rattle.std.proofs.Common.{sym, ap, ◌∙◌, Option}
use Rattle.std.specs.Option.{option_map}
use Rattle.term_model.specs.declared.timers.Timers.{Timers}
use Rattle.text_forms.specs.Timers.{timers_of}
use Rattle.terminal_text.proofs.OpenLemmas.{timers_told}
use Rattle.terminal_text.proofs.open_end.follow.Goals as goal

pub returns-in-Some-clause-carried : goal.returns-in-Some-clause-carried
returns-in-Some-clause-carried c =
    timers_told c.set_timers.result c.args.number c.args.end.now c.set_timers.new.end c.args.text.now c.args.out.now.items c.in-Some.lengths
    (sym c.find_timers.ensures ∙ ap (λ (found : Option Timers). option_map timers_of found) c.in-Some.is)
    c.set_timers.ensures
