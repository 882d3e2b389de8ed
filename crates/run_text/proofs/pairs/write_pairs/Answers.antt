use Rattle.std.proofs.Common.{arith, ◌∙◌, ap, drop, length, ◌-◌, ◌+◌, ◌++◌, List, ℕ}
use Rattle.std.proofs.lemmas.List.{length-drop, take_all}
use Rattle.run_text.specs.Pairs.{pairs_text}
use Rattle.run_text.proofs.Pairing.{none_left, one_more, whole}
use Rattle.run_text.proofs.pairs.write_pairs.Goals as goal

-- src/pairs.rt
pub returns-in_default : goal.returns-in_default
returns-in_default g c = whole _ _ _ c.loop-a.invariant.0 (none_left (g.T.Paired.text c.args.place) c.loop-a.number (drop c.loop-a.a-index c.args.near.now) c.loop-a.left.now c.in_default.len_below)

pub loop-a-preserved : goal.loop-a-preserved
loop-a-preserved g c = (
  one_more (g.T.Paired.text c.args.place) (pairs_text (g.T.Paired.text c.args.place) 0 c.args.near.now c.args.far.now) c.loop-a.text.items _ c.loop-a.number c.loop-a.a-index c.args.near.now c.loop-a.left.now _ c.a-item.result c.b-item.result (take_all (length c.loop-a.left.now - 1) (drop 1 c.loop-a.left.now) (omega (arith, length-drop 1 c.loop-a.left.now))) c.loop-a.invariant.0 c.loop-a-test.true c.a-item.is c.in-len1-up.len_at_least c.b-item.is
      (c.in_ok-extend_from_slice.ensures.items ∙ ap (λ (more : List ℕ). c.loop-a.text.items ++ more) (c.deref.ensures.value ∙ c.in_ok-lines.ensures)),
  ap (λ n. n + 1) c.loop-a.invariant.1,
)
