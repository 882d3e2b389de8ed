-- EACH END STANDS APART: read off what holds along the runs of pair_rises (`Sides`), by the induction there.
use Rattle.std.proofs.Common.{ap, sym, ◌≡◌, ◌∙◌, ℕ, Bool, true, false}
use Rattle.set_events.specs.declared.config.Method.{Method}
use Rattle.set_model.specs.State.{is_settled, is_up, link_is_settled}
use Rattle.pair_steps.specs.declared.step.End.{End}
use Rattle.pair_steps.specs.declared.step.End.TheVariants.{A, B}
use Rattle.pair_model.specs.Promises.{IsOneMethod}
use Rattle.pair_model.specs.World.{at_end, other}
use Rattle.pair_rises.specs.Rises.{awaited, is_covered, Rising, opening, open_at}
use Rattle.pair_rises.proofs.Runs.{Holds, along, first_holds}
use Rattle.pair_rises.proofs.Sides.{settled_seen}
use Rattle.pair_rises.proofs.Veils.{seen_off, seen_up}
use Rattle.pair_wires.specs.Apart.{StandsApart, EachEndStandsApart}

module _ (emergencies : Bool) (ma mb : Method) (one : IsOneMethod ma mb) (g : Rising) (h : Holds emergencies ma mb one g) where
  settled_apart : (end : End) (link : ℕ) → is_settled link (at_end g.stage.world end).state ≡ true → (open_at g end link ≡ awaited → ⊥)
      → is_up link (at_end g.stage.world (other end)).state ≡ false
  settled_apart A link settled never =
      sym (seen_up g.open_b g.stage.world.b.state h.fit_y link)
      ∙ h.streams.ordered.both.near.apart link (settled_seen link g.open_a g.stage.world.a.state h.sound_x settled never)
  settled_apart B link settled never =
      sym (seen_up g.open_a g.stage.world.a.state h.fit_x link)
      ∙ h.streams.ordered.both.far.apart link (settled_seen link g.open_b g.stage.world.b.state h.sound_y settled never)

  waits_settled : (end : End) (link : ℕ) → open_at g end link ≡ awaited → is_settled link (at_end g.stage.world end).state ≡ true
  waits_settled A link e = h.fit_x link (ap is_covered e)
  waits_settled B link e = h.fit_y link (ap is_covered e)

  awaits_open : (end : End) (link : ℕ) → open_at g end link ≡ awaited → is_settled link (at_end g.stage.world (other end)).state ≡ false
  awaits_open A link e =
      ap link_is_settled (sym (seen_off g.open_b g.stage.world.b.state link (h.apart_x link (ap is_covered e)))) ∙ (h.opens_x link e).goes
  awaits_open B link e =
      ap link_is_settled (sym (seen_off g.open_a g.stage.world.a.state link (h.apart_y link (ap is_covered e)))) ∙ (h.opens_y link e).goes

  stands : StandsApart g
  stands = record { settled = settled_apart; waits = waits_settled; awaits = awaits_open }

pub each_apart : EachEndStandsApart
each_apart em a b moves run =
    along em a.method b.method run.one_method StandsApart (λ g h. stands em a.method b.method run.one_method g h) moves (opening a b)
    (first_holds em a b run.one_method run.links run.profiles) run.moves_are run.may
