-- FROM WIRES TO USERS: what is promised of users' streams, and of which management (`pair_wires`).
use Rattle.std.specs.Prelude.{◌≡◌, ◌==◌, ℕ, List, [], ◌∷◌, ◌++◌, filter, length, take}
use Rattle.set_events.specs.declared.answer.Answer.{Answer}
use Rattle.set_events.specs.declared.config.Method.{Method}
use Rattle.set_events.specs.declared.config.Method.TheVariants.{Basic, Cyclic}
use Rattle.set_events.specs.declared.event.Event.{Event}
use Rattle.set_events.specs.declared.history.Entry.{Entry}
use Rattle.set_model.specs.Rows.{stream_of}
use Rattle.term_bench.specs.Ends.{BenchState}
use Rattle.term_model.specs.declared.command.Command.{Command}
use Rattle.pair_octets.specs.Wires.{Wires, IsRun}
use Rattle.pair_octets.specs.Passing.{IsOnIntactLines}
use Rattle.pair_octets.specs.Flushed.{AreShort}
use Rattle.pair_octets.specs.declared.step.EndConfig.{EndConfig}
use Rattle.pair_octets.specs.declared.step.LineLengths.{LineLengths}
use Rattle.pair_octets.specs.declared.step.WireStep.{WireStep}
use Rattle.pair_octets.specs.declared.step.WireStep.TheVariants.{Turn, Command as CommandStep, Ask, Damage}

-- SOUND MANAGEMENT: a link is started and stopped at any time (a bench refuses a start where the link was left and isn't settled),
-- streams are restored and declared once more, and links tested, at any time. No end is busy, none fails blindly (Q.704 5.6); each order is answered, so none is given up
-- (Q.704 5.7.2), and each changeback waits for its acknowledgement (Q.704 6.3).
abbrev pub IsSoundCommand : Command → Type 0
IsSoundCommand Command.Emergency = Unit {0}
IsSoundCommand Command.Start = Unit {0}
IsSoundCommand Command.Stop = Unit {0}
IsSoundCommand _ = ⊥

abbrev pub IsSoundEvent : Event → Type 0
IsSoundEvent (Event.Offer body) = Unit {0}
IsSoundEvent Event.Take = Unit {0}
IsSoundEvent (Event.Find number) = Unit {0}
IsSoundEvent (Event.Restore link) = Unit {0}
IsSoundEvent (Event.Redeclare link) = Unit {0}
IsSoundEvent (Event.Test link) = Unit {0}
IsSoundEvent _ = ⊥

abbrev pub IsSoundStep : WireStep → Type 0
IsSoundStep (Turn end link) = Unit {0}
IsSoundStep (CommandStep end link command) = IsSoundCommand command
IsSoundStep (Ask end who event) = IsSoundEvent event
IsSoundStep (Damage end link place octet) = Unit {0}

abbrev pub AreSound : List WireStep → Type 0
AreSound [] = Unit {0}
AreSound (step ∷ steps) = IsSoundStep step × AreSound steps

-- both ends keep messages safe by one method, whatever its limits at each
abbrev pub IsOneMethod : Method → Method → Type 0
IsOneMethod Basic Basic = Unit {0}
IsOneMethod Basic (Cyclic n1 n2) = ⊥
IsOneMethod (Cyclic n1 n2) Basic = ⊥
IsOneMethod (Cyclic n1 n2) (Cyclic m1 m2) = Unit {0}

-- A RUN'S PREMISES: intact lines, each link's loop no longer than a proving period lasts, one method, and sound management
pub record IsSoundly (a b : EndConfig) (lengths : List LineLengths) (steps : List WireStep) : Type 0 where
  pub lines : IsOnIntactLines a b steps
  pub short : AreShort lengths
  pub one_method : IsOneMethod a.set.method b.set.method
  pub sound : AreSound steps

-- A SOUND RUN on intact lines
pub record IsSoundRun (a b : EndConfig) (lengths : List LineLengths) (steps : List WireStep) (w : Wires) : Type 0 where
  pub run : IsRun a b lengths steps w
  pub so : IsSoundly a b lengths steps

-- USERS: the bodies that they offered and that were accepted, and those that they took
abbrev pub offered_by : Event → Answer → List (List ℕ)
offered_by (Event.Offer body) (Answer.Accepted number) = body ∷ []
offered_by _ _ = []

abbrev pub taken_by : Answer → List (List ℕ)
taken_by (Answer.Taken body) = body.items ∷ []
taken_by _ = []

abbrev pub offered_in : List Entry → List (List ℕ)
offered_in [] = []
offered_in (entry ∷ entries) = offered_by entry.event entry.answer ++ offered_in entries

abbrev pub taken_in : List Entry → List (List ℕ)
taken_in [] = []
taken_in (entry ∷ entries) = taken_by entry.answer ++ taken_in entries

abbrev pub of_stream : ℕ → List (List ℕ) → List (List ℕ)
of_stream stream bodies = filter (λ body. stream == stream_of body) bodies

-- what was taken of a stream at the far end is the first of what was offered at the near one: none is missing among them, doubled,
-- changed or out of order
abbrev pub Arrives : ℕ → BenchState → BenchState → Type 0
Arrives stream near far =
    let got = of_stream stream (taken_in far.set.history) in
    got ≡ take (length got) (of_stream stream (offered_in near.set.history))
