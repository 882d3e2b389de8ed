-- ENDS THAT ARE NEVER BUSY, step by step (`each_status_is_plain`): a set gives no status, a turn leaves its link calm
-- (term_asks's Calm.antt), and so do commands but Busy and Outage, and all else. By induction on the steps.
use Rattle.std.proofs.Common.{refl, sym, subst, arith, ◌≡◌, ◌==◌, ◌&&◌, ℕ, zero, suc, Bool, true, false, not, List, [], ◌∷◌, ◌++◌, All, Option, Some, None, slice_get, slice_set, if◌then◌else◌}
use Rattle.std.proofs.lemmas.Bool.{cond_both}
use Rattle.std.proofs.lemmas.List.Elements.{All-append, All-cons, All-nil}
use Rattle.std.proofs.lemmas.Grind.{flat_map-append}
use Rattle.std.specs.Option.{option_to_list}
use Rattle.l2_units.specs.declared.unit.Unit.{Unit as SignalUnit}
use Rattle.set_events.specs.declared.answer.Answer.{Answer}
use Rattle.set_events.specs.declared.event.Event.{Event}
use Rattle.term_model.specs.Talk.{Talk, done, ask}
use Rattle.term_model.specs.Terminal.{Terminal}
use Rattle.term_model.specs.Turn.{turn_talk}
use Rattle.set_events.specs.declared.event.Actor.TheVariants.{Terminal as TerminalOf}
use Rattle.set_events.specs.declared.answer.Refusal.{Refusal}
use Rattle.set_route.specs.Routing.{code_for}
use Rattle.set_model.specs.Changeover.{cleared, redeclared_from, some_overdue}
use Rattle.set_model.specs.Rows.{Row}
use Rattle.set_model.specs.State.{LinkState, State, has_phase_up}
use Rattle.set_model.specs.Step.{NotUp, Outcome as SetOutcome, next, refused, step, unit_of, with_known}
use Rattle.set_model.proofs.Lists.{each_set}
use Rattle.term_bench.specs.Ends.{AtLink, BenchState, new_link, new_links, told_at}
use Rattle.term_bench.specs.Talks.{outcome_with}
use Rattle.term_bench.specs.Turns.{IsTurnBy}
use Rattle.term_model.specs.Runs.{Doing, units_of}
use Rattle.term_model.specs.declared.command.Command.{Command}
use Rattle.term_model.specs.declared.timers.Timers.{Timers}
use Rattle.pair_steps.specs.declared.step.End.{End}
use Rattle.pair_steps.specs.declared.step.End.TheVariants.{A, B}
use Rattle.pair_octets.specs.Wires.{Wires, Sides, CommandsIf, Happen, Happens, TakesTurn, is_refused, new_wires}
use Rattle.pair_octets.specs.Passing.{all_turns, doing_in, is_same, turns_if, turns_in}
use Rattle.pair_octets.specs.declared.step.WireStep.{WireStep}
use Rattle.pair_octets.specs.declared.step.WireStep.TheVariants.{Turn, Command as CommandStep, Ask, Damage}
use Rattle.pair_octets.proofs.OneEnd.{EachLink, ended_each}
use Rattle.pair_octets.proofs.Passing.{each_more}
use Rattle.pair_octets.specs.Calm.{AreCalm, EachStatusIsPlain, IsCalm, IsCalmCommand}
use Rattle.term_asks.specs.Asking.{IsPlainAnswer}
use Rattle.term_asks.specs.Plain.{IsPlainUnit}
use Rattle.term_asks.proofs.Calm.{Any, Calm, PlainOrNone, Sends, turn_calm}
use Rattle.term_asks.proofs.Talking.{KeepsBy}

-- AT A SET, which gives no status.
abbrev is_status : Answer → Bool
is_status (Answer.Sent (SignalUnit.Lssu head status)) = true
is_status _ = false

pub plain_from : (answer : Answer) → is_status answer ≡ false → IsPlainAnswer answer
plain_from (Answer.Accepted number) not = tt
plain_from (Answer.Taken body) not = tt
plain_from (Answer.Found fate) not = tt
plain_from (Answer.Sent (SignalUnit.Fisu head)) not = tt
plain_from (Answer.Sent (SignalUnit.Lssu head status)) not = absurd cc
plain_from (Answer.Sent (SignalUnit.Msu head body)) not = tt
plain_from (Answer.Heard report) not = tt
plain_from Answer.Done not = tt
plain_from (Answer.Refused why) not = tt

given_no_status : (row : Option Row) (head : _) → is_status (Answer.Sent (unit_of row head)) ≡ false
given_no_status None head = refl
given_no_status (Some row) head = refl

found_no_status : (n : ℕ) (s : State) (found : Option LinkState)
    → is_status (with_known found s (λ link. if has_phase_up link.phase then next n (cleared n s) link else refused s NotUp)).answer ≡ false
found_no_status n s None = refl
found_no_status n s (Some link) =
    cond_both (has_phase_up link.phase) (next n (cleared n s) link) (refused s NotUp) (λ (o : SetOutcome). is_status o.answer ≡ false)
    (λ up. given_no_status _ _) (λ down. refl)

redeclared_no_status : (found : Option LinkState) (s changed : State) (overdue : Bool)
    → is_status (with_known found s (λ link. if overdue then record { answer = Answer.Done; state = changed } else refused s Refusal.Nothing)).answer ≡ false
redeclared_no_status None s changed overdue = refl
redeclared_no_status (Some link) s changed true = refl
redeclared_no_status (Some link) s changed false = refl

pub no_status : (s : State) (event : Event) → is_status (step s event).answer ≡ false
unfolding step
no_status s (Event.Next n) = found_no_status n s (slice_get s.links n)
no_status s (Event.Redeclare n) =
    redeclared_no_status (slice_get s.links n) s (redeclared_from (code_for n 0) 16 s) (some_overdue (code_for n 0) 16 s)
no_status s event = grind arith

comes_so : {T : Type 0} (so : T → Type 0) (talk : Talk T) (s : State) → KeepsBy Any IsPlainAnswer so talk → so (outcome_with talk s)
comes_so so (done a) s kept = kept
comes_so so (ask event more) s kept =
    comes_so so (more (step s event).answer) (step s event).state (kept.1 (step s event).answer (plain_from (step s event).answer (no_status s event)))

-- STEPS.
abbrev IsCalmLink : AtLink → Type 0
IsCalmLink at = Calm at.terminal

abbrev IsCalmEnd : BenchState → Type 0
IsCalmEnd bench = EachLink (λ n at. IsCalmLink at) bench.links

told_calm : (command : Command) (at : AtLink) → IsCalmCommand command → IsCalmLink at → IsCalmLink (told_at command at)
told_calm Command.Emergency at is k = record { busy = k.busy; due = k.due; status = k.status; none = k.none; outage = k.outage; no_outage = k.no_outage }
told_calm Command.Calm at is k = record { busy = k.busy; due = k.due; status = k.status; none = k.none; outage = k.outage; no_outage = k.no_outage }
told_calm Command.Start at is k = record { busy = k.busy; due = k.due; status = k.status; none = k.none; outage = k.outage; no_outage = k.no_outage }
told_calm Command.Busy at is k = absurd is
told_calm Command.Ease at is k = record { busy = k.busy; due = k.due; status = k.status; none = k.none; outage = k.outage; no_outage = k.no_outage }
told_calm Command.Blind at is k = record { busy = k.busy; due = k.due; status = k.status; none = k.none; outage = k.outage; no_outage = k.no_outage }
told_calm Command.Outage at is k = absurd is
told_calm Command.Recover at is k = record { busy = k.busy; due = k.due; status = k.status; none = k.none; outage = k.outage; no_outage = k.no_outage }
told_calm Command.Stop at is k = record { busy = k.busy; due = k.due; status = k.status; none = k.none; outage = k.outage; no_outage = k.no_outage }

abbrev AllPlain : List Doing → Type 0
AllPlain ds = All IsPlainUnit (units_of ds)

plain_both : (xs ys : List Doing) → AllPlain xs → AllPlain ys → AllPlain (xs ++ ys)
plain_both xs ys a b =
    subst (λ (us : List SignalUnit). All IsPlainUnit us) (sym (flat_map-append (λ (d : Doing). option_to_list d.unit) xs ys))
    (All-append IsPlainUnit (units_of xs) (units_of ys) a b)

plain_one : (unit : Option SignalUnit) → PlainOrNone unit → All IsPlainUnit (option_to_list unit ++ [])
plain_one None plain = All-nil IsPlainUnit
plain_one (Some unit) plain = All-cons IsPlainUnit unit [] plain (All-nil IsPlainUnit)

record TurnedCalm (link : ℕ) (old new : Sides) (takes : TakesTurn link old new) : Type 0 where
  pub near : IsCalmEnd new.near
  pub unit : PlainOrNone takes.unit

turned_calm : (link : ℕ) (old new : Sides) (takes : TakesTurn link old new) → IsCalmEnd old.near → TurnedCalm link old new takes
turned_calm link old new takes calm = record {
  near = λ n at there.
      ended_each (λ m y. IsCalmLink y) (λ m y k. told_calm Command.Stop y tt k) 0 old.near.set.state new.near.set.state (slice_set old.near.links link takes.turns.now)
      (each_set (λ m y. IsCalmLink y) old.near.links link takes.turns.now
      (subst (λ (t : Terminal). Calm t) (sym by.puts.after_is)
      (record { busy = all.after.busy; due = all.after.due; status = all.after.status; none = all.after.none; outage = all.after.outage; no_outage = all.after.no_outage }))
      (λ m y apart is. calm m y is))
      n at (subst (λ (ls : List AtLink). slice_get ls n ≡ Some at) takes.turns.links_are there);
  unit = subst (λ (u : Option SignalUnit). PlainOrNone u) (sym by.unit_is) all.unit;
}
  where
    by : IsTurnBy takes.octet (TerminalOf link) old.near.set.state takes.turns.was takes.turn.put takes.turns.takes.entries takes.unit new.near.set.state takes.turns.now
    by = takes.turns.takes.by_octet

    all : Sends (outcome_with (turn_talk takes.turns.takes.by_octet.marks takes.turns.was.terminal) old.near.set.state)
    all = comes_so Sends (turn_talk takes.turns.takes.by_octet.marks takes.turns.was.terminal) old.near.set.state
        (turn_calm takes.turns.takes.by_octet.marks takes.turns.was.terminal (calm link takes.turns.was takes.turns.is_at))

same_end : (old new : BenchState) → new ≡ old → IsCalmEnd old → IsCalmEnd new
same_end old new same calm = subst (λ (b : BenchState). IsCalmEnd b) (sym same) calm

commanded_end : (refused : Bool) (link : ℕ) (command : Command) (old new : BenchState) → CommandsIf refused link command old new → IsCalmCommand command
    → IsCalmEnd old → IsCalmEnd new
commanded_end true link command old new same is calm n at there = same_end old new same calm n at there
commanded_end false link command old new told is calm n at there =
    each_set (λ m y. IsCalmLink y) old.links link (told_at command told.was) (told_calm command told.was is (calm link told.was told.is_at)) (λ m y apart at. calm m y at)
    n at (subst (λ (ls : List AtLink). slice_get ls n ≡ Some at) told.links_are there)

asked_end : (old new : BenchState) → new.links ≡ old.links → IsCalmEnd old → IsCalmEnd new
asked_end old new same calm n at there = calm n at (subst (λ (ls : List AtLink). slice_get ls n ≡ Some at) same there)

record IsCalmWires (w : Wires) : Type 0 where
  pub a : IsCalmEnd w.a
  pub b : IsCalmEnd w.b

step_stays : (step : WireStep) (old new : Wires) (happens : Happens step old new) → IsCalm step → IsCalmWires old → IsCalmWires new
step_stays (Turn A link) old new takes is calm = record { a = (turned_calm link _ _ takes calm.a).near; b = same_end old.b new.b takes.far_is calm.b }
step_stays (Turn B link) old new takes is calm = record { a = same_end old.a new.a takes.far_is calm.a; b = (turned_calm link _ _ takes calm.b).near }
step_stays (CommandStep A link command) old new takes is calm = record {
  a = commanded_end (is_refused link command old.a) link command old.a new.a takes.commands is calm.a;
  b = same_end old.b new.b takes.only.far_is calm.b;
}
step_stays (CommandStep B link command) old new takes is calm = record {
  a = same_end old.a new.a takes.only.far_is calm.a;
  b = commanded_end (is_refused link command old.b) link command old.b new.b takes.commands is calm.b;
}
step_stays (Ask A who event) old new asked is calm = record { a = asked_end old.a new.a asked.links_are calm.a; b = same_end old.b new.b asked.only.far_is calm.b }
step_stays (Ask B who event) old new asked is calm = record { a = same_end old.a new.a asked.only.far_is calm.a; b = asked_end old.b new.b asked.links_are calm.b }
step_stays (Damage A link place octet) old new damaged is calm = record { a = same_end old.a new.a damaged.near_is calm.a; b = same_end old.b new.b damaged.far_is calm.b }
step_stays (Damage B link place octet) old new damaged is calm = record { a = same_end old.a new.a damaged.far_is calm.a; b = same_end old.b new.b damaged.near_is calm.b }

plain_if : (is : Bool) (link : ℕ) (old new : Sides) (takes : TakesTurn link old new) → PlainOrNone takes.unit → AllPlain (turns_if is (doing_in link old new takes))
plain_if true link old new takes plain = plain_one takes.unit plain
plain_if false link old new takes plain = All-nil IsPlainUnit

step_plain : (end : End) (link : ℕ) (step : WireStep) (old new : Wires) (happens : Happens step old new) → IsCalmWires old
    → AllPlain (turns_in end link step old new happens)
step_plain end link (Turn A l) old new takes calm = plain_if (is_same end A && (link == l)) l _ _ takes (turned_calm l _ _ takes calm.a).unit
step_plain end link (Turn B l) old new takes calm = plain_if (is_same end B && (link == l)) l _ _ takes (turned_calm l _ _ takes calm.b).unit
step_plain end link (CommandStep e l command) old new takes calm = All-nil IsPlainUnit
step_plain end link (Ask e who event) old new asked calm = All-nil IsPlainUnit
step_plain end link (Damage e l place octet) old new damaged calm = All-nil IsPlainUnit

steps_plain : (end : End) (link : ℕ) (steps : List WireStep) (old new : Wires) (happen : Happen steps old new) → AreCalm steps → IsCalmWires old
    → AllPlain (all_turns end link steps old new happen)
steps_plain end link [] old new happen are calm = All-nil IsPlainUnit
steps_plain end link (step ∷ steps) old new happen are calm =
    plain_both (turns_in end link step old happen.0 happen.1) (all_turns end link steps happen.0 new happen.2)
    (step_plain end link step old happen.0 happen.1 calm)
    (steps_plain end link steps happen.0 new happen.2 are.1 (step_stays step old happen.0 happen.1 are.0 calm))

new_calm : (lengths : Timers) (n : ℕ) → EachLink (λ m at. IsCalmLink at) (new_links lengths n)
new_calm lengths zero m at there = absurd cc
new_calm lengths (suc n) m at there =
    each_more (λ at. IsCalmLink at) (new_links lengths n) (new_link lengths n) (new_calm lengths n) (record { busy = refl; due = refl; status = refl; none = refl; outage = refl; no_outage = refl }) m at there

pub each_status_is_plain : EachStatusIsPlain
each_status_is_plain a b lengths steps w run are end link =
    steps_plain end link steps (new_wires a b lengths) w run.happen are (record { a = new_calm a.timers a.set.links; b = new_calm b.timers b.set.links })
