-- SHORT RUNS, COMPUTED: what the definitions of a run say of them. A message arrives; the first of two is lost and sent
-- again; the far end leaves a link with one message under way, which is diverted to the other link behind the answer to
-- the order. After each run what was offered, sent, taken or got at an end is computed from the definitions alone, so
-- there's nothing to argue. Nothing uses these theorems: they show that the words of specs/Run.antt mean what a reader
-- expects, as that a retransmission is no first sending.
use Rattle.l2_units.specs.declared.profile.Profile.TheVariants.{Narrow}
use Rattle.std.proofs.Common.{refl, arith, ◌≡◌, ◌≤◌, ℕ, List, [], ◌∷◌}
use Rattle.set_events.specs.declared.config.Method.TheVariants.{Basic}
use Rattle.set_events.specs.declared.config.SetConfig.{SetConfig}
use Rattle.set_events.specs.declared.event.Event.TheVariants.{Offer, Down}
use Rattle.set_model.specs.Step.{step}
use Rattle.pair_steps.specs.declared.step.End.TheVariants.{A, B}
use Rattle.pair_steps.specs.declared.step.Step.{Step}
use Rattle.pair_steps.specs.declared.step.Step.TheVariants.{Act, Emit, Arrive, Lose, Together}
use Rattle.pair_steps.specs.declared.step.Shown.{Shown}
use Rattle.pair_model.specs.World.{World, Outcome, shows, impossible, exhausted, carried_out}
use Rattle.pair_model.specs.Run.{Stage, begun, passed, Message, message_by}

-- an end with so many links
end_with : (links : ℕ) → 1 ≤ links → links ≤ 16 → SetConfig
end_with links some few = record {
  set = 0;
  links = links;
  opc = 2;
  dpc = 1;
  sio = 128;
  method = Basic;
  profile = Narrow;
  has_links = some;
  links_in_range = few;
  opc_in_range = omega arith;
  dpc_in_range = omega arith;
  management = refl;
  limits_in_range = refl;
}

one_link : Stage
one_link = begun (end_with 1 (omega arith) (omega arith)) (end_with 1 (omega arith) (omega arith))

two_links : Stage
two_links = begun (end_with 2 (omega arith) (omega arith)) (end_with 2 (omega arith) (omega arith))

-- the stage after as many of the steps as can be done
reached_by : Outcome → Stage → (Shown → World → Stage) → Stage
reached_by (shows shown new) g next = next shown new
reached_by impossible g next = g
reached_by exhausted g next = g

run : Stage → List Step → Stage
run g [] = g
run g (step ∷ steps) = reached_by (carried_out g.world step) g (λ shown new. run (passed g step shown new) steps)

-- two messages of stream 3
first : List ℕ
first = 133 ∷ 1 ∷ 128 ∷ 0 ∷ 48 ∷ []

second : List ℕ
second = 133 ∷ 1 ∷ 128 ∷ 0 ∷ 49 ∷ []

message : ℕ → List ℕ → Message
message number body = message_by number body

-- A MESSAGE ARRIVES.
arrives : List Step
arrives = Together 0 ∷ Act A (Offer first) ∷ Emit A 0 ∷ Arrive B 0 ∷ []

arrives_offered : (run one_link arrives).a.offered 3 ≡ message 0 first ∷ []
unfolding carried_out step one_link end_with reached_by run first second message arrives
arrives_offered = refl

arrives_sent : (run one_link arrives).a.sent 0 ≡ message 0 first ∷ []
unfolding carried_out step one_link end_with reached_by run first second message arrives
arrives_sent = refl

arrives_taken : (run one_link arrives).b.taken 0 ≡ first ∷ []
unfolding carried_out step one_link end_with reached_by run first second message arrives
arrives_taken = refl

arrives_got : (run one_link arrives).b.got 3 ≡ message 0 first ∷ []
unfolding carried_out step one_link end_with reached_by run first second message arrives
arrives_got = refl

-- THE FIRST OF TWO IS LOST: it's asked for and sent again, which is no first sending, and both are taken in order.
is_lost : List Step
is_lost = Together 0 ∷ Act A (Offer first) ∷ Act A (Offer second) ∷ Emit A 0 ∷ Emit A 0 ∷ Lose B 0 0 ∷ Arrive B 0 ∷ Emit
    B 0 ∷ Arrive A 0 ∷ Emit A 0 ∷ Arrive B 0 ∷ Emit A 0 ∷ Arrive B 0 ∷ []

lost_sent : (run one_link is_lost).a.sent 0 ≡ message 0 first ∷ message 1 second ∷ []
unfolding carried_out step one_link end_with reached_by run first second message is_lost
lost_sent = refl

lost_taken : (run one_link is_lost).b.taken 0 ≡ first ∷ second ∷ []
unfolding carried_out step one_link end_with reached_by run first second message is_lost
lost_taken = refl

-- THE FAR END LEAVES link 1 with one message under way: it's diverted to link 0, behind the answer to the order.
leaves : List Step
leaves = Together 0 ∷ Together 1 ∷ Act A (Offer first) ∷ Act A (Offer second) ∷ Emit A 1 ∷ Emit A 1 ∷ Arrive B 1 ∷ Act B
    (Down 1) ∷ Emit B 0 ∷ Arrive A 0 ∷ Emit A 0 ∷ Emit A 0 ∷ Arrive B 0 ∷ Arrive B 0 ∷ Arrive B 1 ∷ []

leaves_sent : (run two_links leaves).a.sent 1 ≡ message 0 first ∷ message 1 second ∷ []
unfolding carried_out step two_links end_with reached_by run first second message leaves
leaves_sent = refl

leaves_taken : (run two_links leaves).b.taken 1 ≡ first ∷ []
unfolding carried_out step two_links end_with reached_by run first second message leaves
leaves_taken = refl

leaves_sent_again : (run two_links leaves).a.sent 0 ≡ message 2 (128 ∷ 1 ∷ 128 ∷ 0 ∷ 16 ∷ 33 ∷ 127 ∷ []) ∷ message 1 second ∷ []
unfolding carried_out step two_links end_with reached_by run first second message leaves
leaves_sent_again = refl

leaves_got : (run two_links leaves).b.got 3 ≡ message 0 first ∷ message 1 second ∷ []
unfolding carried_out step two_links end_with reached_by run first second message leaves
leaves_got = refl
