use Rattle.std.proofs.Common.{◌≡◌, ◌++◌, drop}
use Rattle.run_text.specs.Pairs.{pairs_text}
use Rattle.run_text.proofs.pairs.write_pairs.Given as goal

abbrev pub invariant-loop-a : goal.invariant-loop-a
invariant-loop-a g l =
    (pairs_text (g.T.Paired.text l.place) 0 l.near l.far
    ≡ l.text.items ++ pairs_text (g.T.Paired.text l.place) l.number (drop l.a-index l.near) l.left)
    × (l.number ≡ l.a-index)
