use Rattle.std.proofs.Common.{rules}
use Rattle.std.proofs.lemmas.List.Sorted.{IsNonDecreasingBy-from_sort_by_key, answers_always}
use Rattle.text_pcap.proofs.packets.put_in_order.Goals as goal

-- src/packets.rt
pub returns : goal.returns
returns c = record {
  same = c.in_ok-sort_by_key.ensures.permutation;
  by_time = IsNonDecreasingBy-from_sort_by_key (λ p. p.turn) _ c.in_ok-sort_by_key.ensures.sorted (λ a r q k. search rules);
  ties = c.sort_by_key.ensures.stable (λ p. p.turn) (answers_always _ _ _ (λ f a r g h. search rules));
}
