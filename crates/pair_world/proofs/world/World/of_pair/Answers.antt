use Rattle.std.proofs.Common.{arith, ◌≡◌, ◌∙◌}
use Rattle.std.proofs.lemmas.List.{length-replicate}
use Rattle.set_model.specs.History.{new_set}
use Rattle.pair_world.proofs.world.World.of_pair.Goals as goal

-- both ends are new, and have as many links
pub invariant_of-result : goal.invariant_of-result
invariant_of-result o c =
    let a : c.in_ok-a.a.value ≡ new_set c.args.a.now = c.in_ok-a.ensures.ok ∙ c.in_ok-new_end.ensures.ok in
    let b : c.in_ok-b.b.value ≡ new_set c.args.b.now = c.in_ok-b.ensures.ok ∙ c.in_ok-new_end-2.ensures.ok in
    let to_a = c.in_ok-to_a.ensures in
    let to_b = c.in_ok-to_b.ensures in
    let same = c.requires in
    rw (a, b) (grind (arith, length-replicate))
