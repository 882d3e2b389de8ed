use Rattle.std.proofs.Common.{◌≡◌, map, take}
use Rattle.set_model.specs.State.{open_link}
use Rattle.set_changeover.proofs.parts.open_links.Given as goal

abbrev pub invariant-loop-link : goal.invariant-loop-link
invariant-loop-link l = l.flags.items ≡ map (λ link. open_link link) (take l.link-index l.links)
