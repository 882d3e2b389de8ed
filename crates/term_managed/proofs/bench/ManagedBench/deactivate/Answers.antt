use Rattle.std.proofs.Common.{Some}
use Rattle.l3_link.specs.Table.{deactivated}
use Rattle.term_bench.proofs.HearingLemmas.{told_on}
use Rattle.term_managed.proofs.CallLemmas.{carries_of, carries_some_of, was_on}
use Rattle.term_managed.proofs.KeptLemmas.{kept_at}
use Rattle.term_managed.proofs.bench.ManagedBench.deactivate.Goals as goal

pub returns-in_err-carry_all-clause-err : goal.returns-in_err-carry_all-clause-err
returns-in_err-carry_all-clause-err c =
    told_on c.from_residual-in_err-carry_all.result _ _ c.from_residual-in_err-carry_all.ensures.1
    (carries_some_of c.args.self.now c.self.inside.bench c.carry_all.new.bench c.self.inside.kept.items c.from.result c.args.link deactivated
    c.index_mut-kept.result.now (Some c.in_ok-asked.asked) c.deactivate.new.self c.carry_all.new.management c.in_err-carry_all.field-0.0
    c.self.view_is c.self.invariant.0 c.from.ensures c.requires c.index_mut-kept.ensures.value c.in_ok-asked.ensures.asks
    c.in_ok-asked.ensures.next c.in_err-carry_all.ensures.breaks)

pub returns-clause-asks : goal.returns-clause-asks
returns-clause-asks c =
    carries_of c.args.self.now c.self.inside.bench c.carry_all.new.bench c.self.inside.kept.items c.from.result c.args.link deactivated
    c.index_mut-kept.result.now (Some c.in_ok-asked.asked) c.deactivate.new.self c.carry_all.new.management c.in_ok-carry_all.field-0.items
    c.self.view_is c.self.invariant.0 c.from.ensures c.requires c.index_mut-kept.ensures.value c.in_ok-asked.ensures.asks
    c.in_ok-asked.ensures.next c.in_ok-carry_all.ensures.done

pub returns-clause-refused : goal.returns-clause-refused
returns-clause-refused c = (
  λ so. absurd (cc so),
  λ off. let no = c.in_ok-asked.ensures.refused.1 (was_on _ c.index_mut-kept.result.now
      (kept_at c.args.self.now c.self.inside.bench c.self.inside.kept.items c.from.result c.args.link c.index_mut-kept.result.now
      c.self.view_is c.self.invariant.0 c.from.ensures c.requires c.index_mut-kept.ensures.value) off) in absurd (cc no),
)
