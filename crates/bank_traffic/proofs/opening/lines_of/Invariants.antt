use Rattle.std.proofs.Common.{◌≡◌, map}
use Rattle.std.specs.List.{AllZip}
use Rattle.line_ring.specs.Rings.{AreJoined}
use Rattle.bank_traffic.specs.Noise.{set_noises}
use Rattle.bank_traffic.specs.Opening.{each_set, numbers_below}
use Rattle.bank_traffic.specs.Sides.{line_counts}
use Rattle.bank_traffic.proofs.opening.lines_of.Given as goal

abbrev pub invariant-loop-set : goal.invariant-loop-set
invariant-loop-set l = (line_counts l.lines.near ≡ each_set l.set l.traffic.links) × (line_counts l.lines.far ≡ each_set l.set l.traffic.links)
    × (map (λ of_set. map (λ own. own.first) of_set.items) l.lines.near.items ≡ map (set_noises l.traffic 0) (numbers_below l.set))
    × (map (λ of_set. map (λ own. own.first) of_set.items) l.lines.far.items ≡ map (set_noises l.traffic 1) (numbers_below l.set))
    × AllZip (λ a b. AllZip (λ x y. AreJoined x.line y.line) a.items b.items) l.lines.near.items l.lines.far.items
