use Rattle.std.proofs.Common.{ap, ◌∙◌}
use Rattle.l3_link.specs.Table.{turned}
use Rattle.l3_link.specs.declared.signals.Seen.{Seen}
use Rattle.term_managed.proofs.CallLemmas.{carries_of, carries_some_of, err_weaker, ok_weaker}
use Rattle.term_managed.specs.Ends.{seen_at}
use Rattle.term_managed.proofs.bench.ManagedBench.manage.Goals as goal

pub returns-clause-manages : goal.returns-clause-manages
returns-clause-manages c =
    let was = c.index_mut-kept.result.now in
    ok_weaker c.carry_all.result _ _
    (λ deeds chain. carries_of c.args.self.now c.self.inside.bench c.carry_all.new.bench c.self.inside.kept.items c.from.result c.args.link
    (turned (seen_at c.args.link c.args.self.now)) was c.turn-asked.result c.turn-asked.new.self c.carry_all.new.management deeds.items
    c.self.view_is c.self.invariant.0 c.from.ensures c.requires c.index_mut-kept.ensures.value
    (c.turn-asked.ensures.asks ∙ ap (λ (s : Seen). (turned s was.management).asked) c.seen-seen.ensures)
    (c.turn-asked.ensures.next ∙ ap (λ (s : Seen). (turned s was.management).next) c.seen-seen.ensures) chain)
    c.carry_all.ensures.done

pub returns-clause-breaks : goal.returns-clause-breaks
returns-clause-breaks c =
    let was = c.index_mut-kept.result.now in
    err_weaker c.carry_all.result _ _
    (λ fault broke. carries_some_of c.args.self.now c.self.inside.bench c.carry_all.new.bench c.self.inside.kept.items c.from.result c.args.link
    (turned (seen_at c.args.link c.args.self.now)) was c.turn-asked.result c.turn-asked.new.self c.carry_all.new.management fault
    c.self.view_is c.self.invariant.0 c.from.ensures c.requires c.index_mut-kept.ensures.value
    (c.turn-asked.ensures.asks ∙ ap (λ (s : Seen). (turned s was.management).asked) c.seen-seen.ensures)
    (c.turn-asked.ensures.next ∙ ap (λ (s : Seen). (turned s was.management).next) c.seen-seen.ensures) broke)
    c.carry_all.ensures.breaks
