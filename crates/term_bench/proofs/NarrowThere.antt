-- A SET OF THE NARROW PROFILE GIVES NO UNIT OF THE WIDE ONE (`step_gives`), so a turn at it always chooses one that can be sent
-- (`narrow_there`): an induction over the turn's talk. Uses Soundness and Staying of set_model; used by TurnsThere.
use Rattle.std.proofs.Common.{refl, sym, ap, subst, arith, ◌≡◌, ◌∙◌, ℕ, Bool, true, false, nat_lt, List, length, Option, None, Some, slice_get, if◌then◌else◌}
use Rattle.std.proofs.lemmas.Bool.Decides.{nat_tests}
use Rattle.l2_bits.specs.declared.marks.Mark.{Mark}
use Rattle.l2_units.specs.declared.status.Status.{Status}
use Rattle.l2_units.specs.Grammar.{head_of}
use Rattle.l2_units.specs.declared.profile.Profile.TheVariants.{Narrow}
use Rattle.l2_units.specs.declared.unit.Unit.{Unit as SignalUnit}
use Rattle.l2_state.specs.declared.link_state.State.{State as LinkPhase}
use Rattle.set_events.specs.declared.answer.Answer.{Answer}
use Rattle.set_events.specs.declared.answer.Refusal.{Refusal}
use Rattle.set_events.specs.declared.event.Event.{Event}
use Rattle.set_model.specs.Sound.{IsSettings}
use Rattle.set_model.specs.State.{LinkState, State, has_phase_up}
use Rattle.set_model.specs.Step.{NotUp, next, refused, step, with_known}
use Rattle.set_model.specs.Changeover.{cleared, redeclared_from, some_overdue}
use Rattle.set_route.specs.Routing.{code_for}
use Rattle.set_model.proofs.Soundness.{step_sound}
use Rattle.set_model.proofs.Staying.{step_grows}
use Rattle.term_bench.specs.Ready.{GivesNarrow}
use Rattle.term_bench.specs.Talks.{outcome_with, state_with}
use Rattle.term_model.specs.Choosing.{Filled, chosen, counts_sent, filled, held_back, is_narrow, sends, sent_by, serves, up_first, sends_status, sends_start_fisu, unless_out}
use Rattle.term_model.specs.Hearing.{all_marked}
use Rattle.term_model.specs.Obeying.{commanded}
use Rattle.term_model.specs.Talk.{Talk, done, ask, and_then}
use Rattle.term_model.specs.Terminal.{Terminal}
use Rattle.term_model.specs.Timing.{timed}
use Rattle.term_model.specs.Turn.{turn_talk}

-- A TALK OF A TERMINAL, where the set gives units of the narrow profile alone.
abbrev is_narrow_answer : Answer → Bool
is_narrow_answer (Answer.Sent unit) = is_narrow (head_of unit)
is_narrow_answer _ = true

abbrev IsNarrowAnswer : Answer → Type 0
IsNarrowAnswer answer = is_narrow_answer answer ≡ true

abbrev ChoosesNarrow : Talk Filled → Type 0
ChoosesNarrow (done f) = f.narrow ≡ true
ChoosesNarrow (ask event more) = (answer : Answer) → IsNarrowAnswer answer → ChoosesNarrow (more answer)

then_narrow : {A : Type 0} (talk : Talk A) (next : A → Talk Filled) → ((a : A) → ChoosesNarrow (next a))
    → ChoosesNarrow (and_then talk next)
then_narrow (done a) next all = all a
then_narrow (ask event more) next all = λ answer _. then_narrow (more answer) next all

given_narrow : (unit : SignalUnit) (t : Terminal) (narrow : Bool) → narrow ≡ true
    → ChoosesNarrow (if narrow then and_then (counts_sent unit t) (λ t. sends (held_back t unit) t)
    else done (record { unit = None; narrow = false; after = t }))
given_narrow unit t true is = then_narrow (counts_sent unit t) (λ t. sends (held_back t unit) t) (λ t. refl)
given_narrow unit t false is = absurd (cc is)

refused_narrow : (why : Refusal) (t : Terminal) → ChoosesNarrow (sent_by (Answer.Refused why) t)
refused_narrow Refusal.TooShort t = refl
refused_narrow Refusal.TooLong t = refl
refused_narrow Refusal.Reserved t = refl
refused_narrow Refusal.StreamFull t = refl
refused_narrow Refusal.NotUp t = refl
refused_narrow Refusal.NotDown t = refl
refused_narrow Refusal.Unsettled t = refl
refused_narrow Refusal.UnknownNumber t = refl
refused_narrow Refusal.Nothing t = refl
refused_narrow Refusal.NoSuchLink t = refl
refused_narrow Refusal.Finished t = refl

sent_narrow : (answer : Answer) (t : Terminal) → IsNarrowAnswer answer → ChoosesNarrow (sent_by answer t)
sent_narrow (Answer.Accepted number) t is = refl
sent_narrow (Answer.Taken body) t is = refl
sent_narrow (Answer.Found fate) t is = refl
sent_narrow (Answer.Sent unit) t is = given_narrow unit t (is_narrow (head_of unit)) is
sent_narrow (Answer.Heard report) t is = refl
sent_narrow Answer.Done t is = refl
sent_narrow (Answer.Refused why) t is = refused_narrow why t

serves_narrow : (paused : Bool) (t : Terminal) → ChoosesNarrow (serves paused t)
serves_narrow paused t = go t.up t.b_due paused
  where
    go : (up due paused : Bool) → ChoosesNarrow (serves paused (record t { up = up; b_due = due }))
    go true true paused = refl
    go true false true = refl
    go true false false = λ answer is. sent_narrow answer (record t { up = true; b_due = false }) is
    go false due paused = refl

unless_out_narrow : (talk : Talk Filled) (t : Terminal) → ChoosesNarrow talk → ChoosesNarrow (unless_out talk t)
unless_out_narrow talk t narrow = go t.outage
  where
    go : (out : Bool) → ChoosesNarrow (if out then sends_status Status.ProcessorOutage t else talk)
    go true = refl
    go false = narrow

chosen_narrow : (state : LinkPhase) (t : Terminal) → ChoosesNarrow (chosen state t)
chosen_narrow LinkPhase.OutOfService t = refl
chosen_narrow LinkPhase.Aligning t = refl
chosen_narrow LinkPhase.Ready t = unless_out_narrow (sends_start_fisu t) t refl
chosen_narrow (LinkPhase.InService paused) t = then_narrow (up_first t) (λ t. unless_out (serves paused t) t) (λ t. unless_out_narrow (serves paused t) t (serves_narrow paused t))

filled_narrow : (t : Terminal) → ChoosesNarrow (filled t)
filled_narrow t = go (nat_lt (length t.bits) 8)
  where
    go : (few : Bool) → ChoosesNarrow (if few then chosen t.state t else done (record { unit = None; narrow = true; after = t }))
    go true = chosen_narrow t.state t
    go false = refl

turn_narrow : (marks : List Mark) (t : Terminal) → ChoosesNarrow (turn_talk marks t)
turn_narrow marks t =
    then_narrow (commanded t) (λ t. and_then (all_marked marks t) (λ t. and_then (timed t) (λ t. filled t)))
    (λ t. then_narrow (all_marked marks t) (λ t. and_then (timed t) (λ t. filled t))
    (λ t. then_narrow (timed t) (λ t. filled t) (λ t. filled_narrow t)))

-- WHAT A SET OF THE NARROW PROFILE ANSWERS.
next_narrow : (number : ℕ) (s : State) (link : LinkState) → link.profile ≡ Narrow → IsNarrowAnswer (next number s link).answer
next_narrow number s link narrow = grind (arith, nat_tests, narrow)

found_narrow : (number : ℕ) (s : State) (found : Option LinkState) → ((link : LinkState) → found ≡ Some link → link.profile ≡ Narrow)
    → IsNarrowAnswer (with_known found s (λ link. if has_phase_up link.phase then next number (cleared number s) link else refused s NotUp)).answer
found_narrow number s None narrow = refl
found_narrow number s (Some link) narrow = go (has_phase_up link.phase)
  where
    go : (up : Bool) → IsNarrowAnswer (if up then next number (cleared number s) link else refused s NotUp).answer
    go true = next_narrow number (cleared number s) link (narrow link refl)
    go false = refl

redeclared_narrow : (found : Option LinkState) (s changed : State) (overdue : Bool)
    → IsNarrowAnswer (with_known found s (λ link. if overdue then record { answer = Answer.Done; state = changed } else refused s Refusal.Nothing)).answer
redeclared_narrow None s changed overdue = refl
redeclared_narrow (Some link) s changed true = refl
redeclared_narrow (Some link) s changed false = refl

answer_narrow : (s : State) (event : Event) → GivesNarrow s → IsNarrowAnswer (step s event).answer
unfolding step
answer_narrow s (Event.Next number) gives =
    found_narrow number s (slice_get s.links number) (λ link there. (gives.sound.links number link there).profile ∙ gives.narrow)
answer_narrow s (Event.Redeclare number) gives =
    redeclared_narrow (slice_get s.links number) s (redeclared_from (code_for number 0) 16 s) (some_overdue (code_for number 0) 16 s)
answer_narrow s event gives = grind arith

pub step_gives : (s : State) (event : Event) → GivesNarrow s → IsNarrowAnswer (step s event).answer × GivesNarrow (step s event).state
step_gives s event gives = (
  answer_narrow s event gives,
  record {
    sound = step_sound s event gives.sound;
    settings = subst (λ x. IsSettings x) (sym (step_grows s event).settings_same) gives.settings;
    narrow = ap (λ x. x.profile) (step_grows s event).settings_same ∙ gives.narrow;
  },
)

-- through a whole talk
outcome_narrow : (talk : Talk Filled) (s : State) → ChoosesNarrow talk → GivesNarrow s → (outcome_with talk s).narrow ≡ true
outcome_narrow (done f) s all gives = all
outcome_narrow (ask event more) s all gives =
    let one = step_gives s event gives in
    outcome_narrow (more (step s event).answer) (step s event).state (all (step s event).answer one.0) one.1

pub narrow_there : (marks : List Mark) (t : Terminal) (s : State) → GivesNarrow s → (outcome_with (turn_talk marks t) s).narrow ≡ true
narrow_there marks t s gives = outcome_narrow (turn_talk marks t) s (turn_narrow marks t) gives

pub state_gives : {A : Type 0} (talk : Talk A) (s : State) → GivesNarrow s → GivesNarrow (state_with talk s)
state_gives (done a) s gives = gives
state_gives (ask event more) s gives = state_gives (more (step s event).answer) (step s event).state (step_gives s event gives).1
