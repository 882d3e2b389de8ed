use Rattle.std.proofs.Common.{sym, subst}
use Rattle.std.proofs.lemmas.List.Elements.{All-get_or}
use Rattle.run_text.specs.Running.{IsAnEnd}
use Rattle.run_text.proofs.summing.totals_of_ends.Goals as goal

-- src/summing.rt
pub add_up_end-requires : goal.add_up_end-requires
add_up_end-requires c = record {
  end = subst IsAnEnd (sym c.end-item.is) (All-get_or IsAnEnd c.args.ends.now c.loop-end.end-index c.end-item.result c.loop-end-test.true c.requires.ends);
}
