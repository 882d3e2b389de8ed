use Rattle.std.proofs.Common.{refl, arith, ap, replicate, ◌≡◌, ◌∙◌}
use Rattle.set_queues.specs.Buffers.{Lists, no_lists}
use Rattle.l2_units.specs.declared.profile.Profile.{Profile}
use Rattle.set_model.specs.State.{new_state, none_finished}
use Rattle.set_changeover.specs.declared.parts.Parts.{Parts}
use Rattle.set_changeover.specs.Agreement.{Agrees}
use Rattle.set_changeover.specs.Parts.{kept_of}
use Rattle.set_step.proofs.Kept.{opened}
use Rattle.set_step.proofs.contents.Core.new.Given.{Over}
use Rattle.set_step.proofs.contents.Core.new.Goals as goal
use Rattle.set_step.proofs.contents.Core.new.Goals.{After-new-5}

abbrev parts_of : (o : Over) (c : After-new-5 o) → Parts o.row.A.Denot
parts_of o c = record { config = c.args.config.now; links = c.loop.links; queues = c.in_ok-queues.queues; bodies = c.new-3.result; finished = none_finished; routes = c.new-4.result; inbox = c.new-5.result }

agrees : (o : Over) (c : After-new-5 o) → Agrees (kept_of (parts_of o c)) (new_state c.args.config.now)
agrees o c =
    let all : c.loop.counter ≡ c.args.config.now.links = omega arith in
    opened c.args.config.now (parts_of o c) refl (rw all at c.loop.invariant) (ap (λ (q : Lists). q.links) c.in_ok-queues.ensures.lists ∙ ap (λ (p : Profile). replicate c.args.config.now.links (no_lists p)) c.profile-2.ensures) c.is_sound.ensures c.in_ok-queues.ensures.messages c.new-3.ensures refl c.new-4.ensures c.new-5.ensures.items

pub invariant_of-result : goal.invariant_of-result
invariant_of-result o c = (new_state c.args.config.now, agrees o c)

pub returns-clause-ok : goal.returns-clause-ok
returns-clause-ok o c = agrees o c
