use Rattle.std.proofs.Common.{refl, ap, ℕ, ◌-◌}
use Rattle.pair_world.proofs.RisingLemmas.{idle_is}
use Rattle.pair_world.proofs.rising.idle_head.Goals as goal

pub returns : goal.returns
returns c =
    let before = ap (λ (n : ℕ). n - 1) c.fsn_count-before_first.ensures in
    λ method. idle_is c.args.profile method _ before refl before refl
