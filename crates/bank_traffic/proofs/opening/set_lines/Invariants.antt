use Rattle.std.proofs.Common.{◌≡◌, map}
use Rattle.std.specs.List.{AllZip}
use Rattle.std.specs.Vec.{vec_len}
use Rattle.line_ring.specs.Rings.{AreJoined}
use Rattle.bank_traffic.specs.Noise.{noise_on}
use Rattle.bank_traffic.specs.Opening.{numbers_below}
use Rattle.bank_traffic.proofs.opening.set_lines.Given as goal

abbrev pub invariant-loop-link : goal.invariant-loop-link
invariant-loop-link l = (vec_len l.near ≡ l.link) × (vec_len l.far ≡ l.link)
    × (map (λ own. own.first) l.near.items ≡ map (λ link. noise_on l.traffic l.set link 0) (numbers_below l.link))
    × (map (λ own. own.first) l.far.items ≡ map (λ link. noise_on l.traffic l.set link 1) (numbers_below l.link))
    × AllZip (λ a b. AreJoined a.line b.line) l.near.items l.far.items
