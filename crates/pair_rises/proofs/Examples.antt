-- TWO SHORT RUNS, COMPUTED. Link 0 comes up at A, which sends a message, and B's terminal a unit that says nothing; then
-- B's link comes up too, and B gets the message. It's a run as the laws want one (`is_run`), and the message is got
-- (`got`). The other one is below. Nothing uses these theorems.
use Rattle.l2_units.specs.declared.profile.Profile.TheVariants.{Narrow}
use Rattle.std.proofs.Common.{refl, arith, ◌≡◌, ℕ, true, false, List, [], ◌∷◌, ◌++◌}
use Rattle.set_events.specs.declared.config.Method.TheVariants.{Basic}
use Rattle.set_events.specs.declared.config.SetConfig.{SetConfig}
use Rattle.set_events.specs.declared.event.Event.TheVariants.{Offer, Down as DownEvent}
use Rattle.set_model.specs.Step.{step}
use Rattle.pair_steps.specs.declared.step.End.TheVariants.{A, B}
use Rattle.pair_steps.specs.declared.step.Shown.{Shown}
use Rattle.pair_steps.specs.declared.step.Step.TheVariants.{Act, Emit, Arrive}
use Rattle.pair_model.specs.World.{World, Outcome, shows, impossible, exhausted, carried_out}
use Rattle.pair_rises.specs.Rises.{missed, Rising, opening, moved, moved_on, IsRun, HoldsBefore, MayMove}
use Rattle.pair_rises.specs.declared.moves.Move.{Move}
use Rattle.pair_rises.specs.declared.moves.Move.TheVariants.{Step as MoveStep, Rise, Fill}

config : SetConfig
config = record {
  set = 0;
  links = 1;
  opc = 2;
  dpc = 1;
  sio = 128;
  method = Basic;
  profile = Narrow;
  has_links = omega arith;
  links_in_range = omega arith;
  opc_in_range = omega arith;
  dpc_in_range = omega arith;
  management = refl;
  limits_in_range = refl;
}

reached_by : Outcome → Rising → (Shown → World → Rising) → Rising
reached_by (shows shown new) g next = next shown new
reached_by impossible g next = g
reached_by exhausted g next = g

run : Rising → List Move → Rising
run g [] = g
run g (move ∷ moves) = reached_by (moved g.stage.world move) g (λ shown new. run (moved_on g move shown new) moves)

body : List ℕ
body = 133 ∷ 1 ∷ 128 ∷ 0 ∷ 48 ∷ []

moves : List Move
moves = Rise A 0 ∷ MoveStep (Act A (Offer body)) ∷ MoveStep (Emit A 0) ∷ Fill B 0 ∷ MoveStep (Arrive A 0) ∷ Rise B 0 ∷ MoveStep (Arrive B 0) ∷ []

got : (run (opening config config) moves).stage.b.got 3 ≡ record { number = 0; body = body; users = true } ∷ []
unfolding carried_out step config reached_by run body moves
got = refl

may : HoldsBefore MayMove (opening config config) moves
unfolding carried_out step config body moves
may = (tt, (tt, (tt, (refl, (tt, (refl, (tt, tt)))))))

is_run : IsRun false config config moves
unfolding moves config
is_run = record { links = refl; profiles = refl; one_method = tt; moves_are = (tt, (tt, (tt, (tt, (tt, (tt, (tt, tt))))))); may = may }

-- A LIFE THAT AN END MISSES: link 1 is up at both. Link 0 comes up at A, which sends a message there, and leaves. B, which
-- hasn't joined, hears that first (`missed_there`), and answers that it accepted nothing: the message comes over link 1
-- (`got_once`). Then link 0 comes up at B, and at A.
two_links : SetConfig
two_links = record {
  set = 0;
  links = 2;
  opc = 2;
  dpc = 1;
  sio = 128;
  method = Basic;
  profile = Narrow;
  has_links = omega arith;
  links_in_range = omega arith;
  opc_in_range = omega arith;
  dpc_in_range = omega arith;
  management = refl;
  limits_in_range = refl;
}

even : List ℕ
even = 133 ∷ 1 ∷ 128 ∷ 0 ∷ 32 ∷ []

first_moves : List Move
first_moves =
    Rise A 1 ∷ Rise B 1 ∷ Rise A 0 ∷ MoveStep (Act A (Offer even)) ∷ MoveStep (Emit A 0) ∷ MoveStep (Act A (DownEvent 0)) ∷ MoveStep (Emit A 1)
    ∷ MoveStep (Arrive B 1) ∷ []

missed_there : (run (opening two_links two_links) first_moves).open_b 0 ≡ missed
unfolding carried_out step two_links reached_by run even first_moves
missed_there = refl

then_moves : List Move
then_moves = MoveStep (Emit B 1) ∷ MoveStep (Arrive A 1) ∷ MoveStep (Emit A 1) ∷ MoveStep (Arrive B 1) ∷ Rise B 0 ∷ Rise A 0 ∷ []

got_once : (run (opening two_links two_links) (first_moves ++ then_moves)).stage.b.got 2 ≡ record { number = 0; body = even; users = true } ∷ []
unfolding carried_out step two_links reached_by run even first_moves then_moves
got_once = refl

may_miss : HoldsBefore MayMove (opening two_links two_links) (first_moves ++ then_moves)
unfolding carried_out step two_links even first_moves then_moves
may_miss = (tt, (refl, (tt, (tt, (tt, (tt, (tt, (tt, (tt, (tt, (tt, (tt, (tt, (refl, tt))))))))))))))

is_run_too : IsRun false two_links two_links (first_moves ++ then_moves)
unfolding first_moves then_moves two_links
is_run_too = record {
  links = refl;
  profiles = refl;
  one_method = tt;
  moves_are = (tt, (tt, (tt, (tt, (tt, (tt, (tt, (tt, (tt, (tt, (tt, (tt, (tt, (tt, tt))))))))))))));
  may = may_miss;
}
