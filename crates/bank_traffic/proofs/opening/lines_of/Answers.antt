use Rattle.std.proofs.Common.{refl, map}
use Rattle.std.specs.List.{AllZip}
use Rattle.std.specs.Vec.{vec_len}
use Rattle.line_ring.specs.Rings.{AreJoined}
use Rattle.bank_traffic.specs.Noise.{set_noises}
use Rattle.bank_traffic.proofs.Lines.{joins_more, maps_more, maps_same, pushed}
use Rattle.bank_traffic.proofs.opening.lines_of.Goals as goal

-- src/opening.rt
pub loop-set-preserved : goal.loop-set-preserved
loop-set-preserved c =
    let kept = c.loop-set.invariant in
    let near = pushed _ _ _ _ c.push_reserved.ensures.items c.reserve.ensures.items in
    let far = pushed _ _ _ _ c.push_reserved-in-loop-set.ensures.items c.reserve-in-loop-set.ensures.items in (
      maps_same (λ of_set. vec_len of_set) c.args.traffic.now.links c.loop-set.lines.near.items c.push_reserved.new.self.items c.in_ok-near.near c.loop-set.set _ refl near kept.0 c.in_ok-near.ensures.near,
      maps_same (λ of_set. vec_len of_set) c.args.traffic.now.links c.loop-set.lines.far.items c.push_reserved-in-loop-set.new.self.items c.in_ok-near.far c.loop-set.set _ refl far kept.1 c.in_ok-near.ensures.far,
      maps_more (λ of_set. map (λ own. own.first) of_set.items) (set_noises c.args.traffic.now 0) c.loop-set.lines.near.items c.push_reserved.new.self.items c.in_ok-near.near c.loop-set.set _ refl near kept.2 c.in_ok-near.ensures.near_noise,
      maps_more (λ of_set. map (λ own. own.first) of_set.items) (set_noises c.args.traffic.now 1) c.loop-set.lines.far.items c.push_reserved-in-loop-set.new.self.items c.in_ok-near.far c.loop-set.set _ refl far kept.3 c.in_ok-near.ensures.far_noise,
      joins_more (λ a b. AllZip (λ x y. AreJoined x.line y.line) a.items b.items) c.loop-set.lines.near.items c.push_reserved.new.self.items c.loop-set.lines.far.items c.push_reserved-in-loop-set.new.self.items c.in_ok-near.near c.in_ok-near.far near far kept.4 c.in_ok-near.ensures.joined,
    )
