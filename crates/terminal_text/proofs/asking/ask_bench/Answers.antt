use Rattle.std.proofs.Common.{subst, ◌≡◌, true, length}
use Rattle.text_forms.specs.declared.asked.Asked.{Asked}
use Rattle.terminal_text.proofs.OpenLemmas.{is_actor}
use Rattle.terminal_text.specs.Answers.{is_below, link_in}
use Rattle.terminal_text.proofs.asking.ask_bench.Goals as goal

pub ask_told-requires-clause-actor : goal.ask_told-requires-clause-actor
ask_told-requires-clause-actor c =
    is_actor c.in-Event.event (length c.args.bench.now.managed.bench.links) c.requires.few
    (subst (λ (asked : Asked). is_below (length c.args.bench.now.managed.bench.links) (link_in asked) ≡ true) c.in-Event.is c.requires.there)

pub ask_told-requires-clause-there : goal.ask_told-requires-clause-there
ask_told-requires-clause-there c =
    subst (λ (asked : Asked). is_below (length c.args.bench.now.managed.bench.links) (link_in asked) ≡ true) c.in-Event.is c.requires.there
