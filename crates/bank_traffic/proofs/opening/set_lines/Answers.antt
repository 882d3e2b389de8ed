use Rattle.std.proofs.Common.{arith, refl, ◌≡◌, ◌∙◌, sym, subst, ℕ, map}
use Rattle.line_ring.specs.Rings.{AreJoined}
use Rattle.bank_traffic.specs.Noise.{noise_on}
use Rattle.bank_traffic.specs.Opening.{numbers_below}
use Rattle.bank_traffic.proofs.Lines.{joins_more, maps_more, pushed}
use Rattle.bank_traffic.proofs.opening.set_lines.Goals as goal

-- src/opening.rt
pub loop-link-preserved : goal.loop-link-preserved
loop-link-preserved c =
    let kept = c.loop-link.invariant in
    let near = pushed _ _ _ _ c.push_reserved.ensures.items c.reserve.ensures.items in
    let far = pushed _ _ _ _ c.push_reserved-in-loop-link.ensures.items c.reserve-in-loop-link.ensures.items in (
      omega (arith, c.push_reserved.ensures.len, c.reserve.ensures.len, kept.0),
      omega (arith, c.push_reserved-in-loop-link.ensures.len, c.reserve-in-loop-link.ensures.len, kept.1),
      maps_more (λ own. own.first) (λ link. noise_on c.args.traffic.now c.args.set link 0) c.loop-link.near.items c.push_reserved.new.self.items c.new.result c.loop-link.link _ refl near kept.2 (c.new.ensures.noise ∙ c.noise_of.ensures),
      maps_more (λ own. own.first) (λ link. noise_on c.args.traffic.now c.args.set link 1) c.loop-link.far.items c.push_reserved-in-loop-link.new.self.items c.new-in-loop-link.result c.loop-link.link _ refl far kept.3 (c.new-in-loop-link.ensures.noise ∙ c.noise_of-in-loop-link.ensures),
      joins_more (λ a b. AreJoined a.line b.line) c.loop-link.near.items c.push_reserved.new.self.items c.loop-link.far.items c.push_reserved-in-loop-link.new.self.items c.new.result c.new-in-loop-link.result near far kept.4
          (subst (λ l. AreJoined l c.new-in-loop-link.result.line) (sym c.new.ensures.line) (subst (λ l. AreJoined c.in_ok-near_line.near_line l) (sym c.new-in-loop-link.ensures.line) c.in_ok-near_line.ensures.joined)),
    )

pub returns-clause-far_noise : goal.returns-clause-far_noise
returns-clause-far_noise c =
    let all : c.loop-link.link ≡ c.args.traffic.now.links = omega (arith, c.loop-link-test.false, c.loop-link.auto.link-end) in
    subst (λ (n : ℕ). map (λ own. own.first) c.loop-link.far.items ≡ map (λ link. noise_on c.args.traffic.now c.args.set link 1) (numbers_below n)) all c.loop-link.invariant.3
