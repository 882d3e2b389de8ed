use Rattle.std.proofs.Common.{ap, ◌∙◌, List, ◌∷◌, [], ◌++◌}
use Rattle.term_managed.proofs.ChainLemmas.{chain_on, none_of}
use Rattle.term_managed.proofs.Ending.{pending_less}
use Rattle.term_managed.specs.declared.turn.Deed.{Deed}
use Rattle.term_managed.proofs.carrying.carry_all.Goals as goal

pub loop-asked-smaller : goal.loop-asked-smaller
loop-asked-smaller c =
    pending_less c.loop-asked.asked c.answered-asked.result c.in-Some.ask c.loop-asked.management c.answered-asked.new.self c.is_none.result
    c.in-Some.is c.answered-asked.ensures.asks c.answered-asked.ensures.next

pub loop-asked-preserved : goal.loop-asked-preserved
loop-asked-preserved c = record {
  links = c.carry_out.ensures.links ∙ c.loop-asked.invariant.links;
  goes = chain_on c.args.link c.args.first c.args.management.now c.args.bench.now c.loop-asked.deeds.items c.push_reserved.new.self.items
      c.in-Some.ask c.in_ok-refused.refused c.is_none.result c.loop-asked.asked c.answered-asked.result c.loop-asked.management
      c.answered-asked.new.self c.loop-asked.bench c.carry_out.new.bench c.loop-asked.invariant.goes c.in-Some.is
      c.in_ok-refused.ensures.done
      (c.push_reserved.ensures.items
      ∙ ap (λ (ds : List Deed). ds ++ record { ask = c.in-Some.ask; refused = c.in_ok-refused.refused } ∷ []) c.reserve.ensures.items)
      (none_of c.in_ok-refused.refused c.is_none.result c.is_none.ensures) c.answered-asked.ensures.asks c.answered-asked.ensures.next;
}
