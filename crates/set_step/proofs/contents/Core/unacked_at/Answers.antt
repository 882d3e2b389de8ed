use Rattle.std.proofs.Common.{arith, ◌≡◌, ◌∙◌, ap, sym, ℕ, ◌+◌, ◌%◌, slice_get, option_map}
use Rattle.std.proofs.lemmas.Bool.Decides.{nat_tests}
use Rattle.set_queues.specs.Buffers.{Unacked, queue_at, last_at, profile_at}
use Rattle.l2_window.specs.Window.{fsn_count}
use Rattle.set_model.specs.State.{State, unacked_in}
use Rattle.set_changeover.specs.Agreement.{StandsFor}
use Rattle.set_changeover.specs.Parts.{kept_of}
use Rattle.set_step.proofs.Kept.{unacked_is}
use Rattle.set_step.proofs.contents.Core.unacked_at.Given.{Over}
use Rattle.set_step.proofs.contents.Core.unacked_at.Goals as goal
use Rattle.set_step.proofs.contents.Core.unacked_at.Goals.{After-number_at}

-- what stands at that place of the link's queue
at_place : (o : Over) (c : After-number_at o) → slice_get (queue_at (Unacked c.args.link) c.self.inside.parts.queues.lists) c.args.place ≡ c.number_at.result
at_place o c = ap (λ (i : ℕ). slice_get (queue_at (Unacked c.args.link) c.self.inside.parts.queues.lists) i) (sym c.from-2.ensures) ∙ sym c.number_at.ensures

-- what the state has there
is : (o : Over) (c : After-number_at o) (s : State) → StandsFor (kept_of c.self.inside.parts) s → unacked_in s c.args.link c.args.place ≡ option_map (λ number. record { number = number; fsn = (last_at c.args.link c.self.inside.parts.queues.lists + 1 + c.args.place) % fsn_count (profile_at c.args.link c.self.inside.parts.queues.lists) }) c.number_at.result
is o c s f = unacked_is (kept_of c.self.inside.parts) s c.args.link c.args.place c.number_at.result f (omega (arith, c.if-from-len.false, c.len.ensures, c.from.ensures)) (at_place o c)

pub returns-in_err-number : goal.returns-in_err-number
returns-in_err-number o c = λ s f.
    let there = is o (goal.at.returns-in_err-number o c).After-number_at s (rw (← c.self.view_is) at f) in
    grind (arith, nat_tests, there, c.from_residual.ensures, c.in_err-number.was)

pub returns : goal.returns
returns o c = λ s f.
    let there = is o (goal.at.returns o c).After-number_at s (rw (← c.self.view_is) at f) in
    grind (arith, nat_tests, there, c.window.ensures.last, c.window.ensures.profile, c.fsn_behind-fsn.ensures, c.in_ok-number.was)
