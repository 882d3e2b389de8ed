-- STEPS OF THE WORLD, as the code makes them: an event changes no number of links (`kept_by`); a unit that was taken
-- out of the front of its line has arrived (`arrives_so`); where a set made no step, since memory was refused or
-- its history is full, the world's step fails in the same way (`act_fails`, `rise_fails`); and what an end can do it can
-- do where its unit joins a line (`emit_fails`). Case by case on the result, the fault and the outcome, without induction.
-- Used by the function apply and by World::arrive, World::act, World::emit and World::raise (src/world.rt).
use Rattle.std.proofs.Common.{refl, ◌≡◌, ◌∙◌, ◌⊎◌, ◌||◌, inl, inr, ap, subst, sym, ℕ, Bool, true, false, List, [], ◌∷◌, Some, slice_get, Result, Ok, Err, OnOk, OnErr}
use Rattle.std.specs.Result.{IsErrAnd}
use Rattle.l2_units.specs.declared.unit.Unit.{Unit as SignalUnit}
use Rattle.pair_steps.specs.Lines.{without}
use Rattle.set_events.specs.declared.event.Event.{Event}
use Rattle.set_events.specs.declared.event.Event.TheVariants.{Next}
use Rattle.set_events.specs.declared.answer.Answer.{Answer}
use Rattle.set_events.specs.declared.event.Actor.{Actor}
use Rattle.set_model.specs.History.{LinkSet, IsStep}
use Rattle.set_model.specs.State.{State, link_count}
use Rattle.set_events.specs.declared.fault.SetFault.{SetFault}
use Rattle.set_events.specs.declared.fault.SetFault.TheVariants.{NoMemory as SetNoMemory, Exhausted as SetExhausted}
use Rattle.set_model.proofs.Walk.{link_count_stays}
use Rattle.std.proofs.lemmas.Option.{same_Some}
use Rattle.pair_steps.specs.declared.step.End.{End}
use Rattle.pair_steps.specs.declared.step.Shown.{Shown}
use Rattle.pair_model.specs.World.{World, Outcome, shows, impossible, exhausted, is_full, at_end, actor_of, acts, emits, sends_on, has_actor, has_link, is_settled_at_both, rises, with_line, line_to, reaches, front_arrives, arrives}
use Rattle.pair_world.specs.declared.fault.PlayFault.{PlayFault}
use Rattle.pair_world.specs.declared.fault.PlayFault.TheVariants.{NoMemory, Impossible, Exhausted, Links, Profile}
use Rattle.pair_world.specs.Carried.{CanBeDone, Fails, FailsAt, IsCarriedOut, LeavesTo, PlayFaultOf}

-- An event changes no number of links.
pub kept_by : (result : Result (Unit {0}) SetFault) (old new : LinkSet) (who : Actor) (event : Event) (answer : Answer)
    → OnOk result (IsStep old who event answer new) → OnErr result (new ≡ old)
    → link_count new.state ≡ link_count old.state
kept_by (Ok done) old new who event answer s e =
    ap (λ (t : State). link_count t) s.state_is ∙ link_count_stays old.state event
kept_by (Err fault) old new who event answer s e = ap (λ (t : LinkSet). link_count t.state) e

-- A unit that was taken out of the front of its line has arrived.

front : (w : World) (end : End) (link : ℕ) (line : List SignalUnit) (unit : SignalUnit)
    → slice_get line 0 ≡ Some unit
    → front_arrives w end link line ≡ reaches (with_line w end link (without 0 line)) end link unit
front w end link [] unit there = absurd cc
front w end link (first ∷ rest) unit there =
    ap (λ (u : SignalUnit). reaches (with_line w end link rest) end link u) (same_Some first unit there)

pub arrives_so : (w mid : World) (end : End) (link : ℕ) (unit : SignalUnit)
    → has_link w link ≡ true → LeavesTo w end link 0 unit mid
    → arrives w end link ≡ reaches mid end link unit
arrives_so w mid end link unit known taken =
    rw known (front w end link (line_to w end link) unit taken.there
    ∙ ap (λ (v : World). reaches v end link unit) (sym taken.rest_is))

-- A set that made no step, since memory was wanted or its history is full.

pub act_fails : (result : Result (Unit {0}) PlayFault) (fault : SetFault) (w : World) (end : End) (event : Event) (shown : Shown) (new : World)
    → IsErrAnd result (λ told. PlayFaultOf fault told) → has_actor w (actor_of event) ≡ true → FailsAt fault (at_end w end)
    → IsCarriedOut result (acts w end event) shown new
act_fails (Ok done) fault w end event shown new is known fails = absurd is
act_fails (Err told) SetNoMemory w end event shown new is known fails =
    let can : CanBeDone (acts w end event) = rw (known, fails) tt in subst (λ f. Fails f (acts w end event)) (sym is) can
act_fails (Err told) SetExhausted w end event shown new is known fails =
    let full : acts w end event ≡ exhausted = rw (known, fails) refl in subst (λ f. Fails f (acts w end event)) (sym is) full

-- the same of a link that comes up, at either end
pub rise_fails : (result : Result (Unit {0}) PlayFault) (fault : SetFault) (w : World) (link : ℕ) (shown : Shown) (new : World)
    → IsErrAnd result (λ told. PlayFaultOf fault told) → has_link w link ≡ true → is_settled_at_both w link ≡ true
    → (is_full w.a || is_full w.b) ≡ false
    → (FailsAt fault w.a ⊎ FailsAt fault w.b) → IsCarriedOut result (rises w link) shown new
rise_fails (Ok done) fault w link shown new is known settled room fails = absurd is
rise_fails (Err told) SetNoMemory w link shown new is known settled room fails =
    let can : CanBeDone (rises w link) = rw (known, settled, room) tt in subst (λ f. Fails f (rises w link)) (sym is) can
rise_fails (Err told) SetExhausted w link shown new is known settled room fails = subst (λ f. Fails f (rises w link)) (sym is) (by fails)
  where
    either : (a b : Bool) → (a ≡ true) ⊎ (b ≡ true) → (a || b) ≡ true
    either true b e = refl
    either false true e = refl
    either false false (inl e) = e
    either false false (inr e) = e

    by : FailsAt SetExhausted w.a ⊎ FailsAt SetExhausted w.b → rises w link ≡ exhausted
    by fails = rw (known, settled, either (is_full w.a) (is_full w.b) fails) refl

-- a unit that is sent joins a line: what fails at the end fails so
pub emit_fails : (result : Result (Unit {0}) PlayFault) (fault : PlayFault) (w : World) (end : End) (link : ℕ) (shown : Shown) (new : World)
    → IsErrAnd result (λ told. told ≡ fault) → Fails fault (acts w end (Next link))
    → IsCarriedOut result (emits w end link) shown new
emit_fails (Ok done) fault w end link shown new is fails = absurd is
emit_fails (Err told) fault w end link shown new is fails =
    subst (λ f. Fails f (emits w end link)) (sym is) (by fault (acts w end (Next link)) fails)
  where
    by : (fault : PlayFault) (outcome : Outcome) → Fails fault outcome → Fails fault (sends_on end link outcome)
    by NoMemory (shows shown new) f = tt
    by NoMemory impossible f = absurd f
    by NoMemory exhausted f = absurd f
    by (Impossible place) outcome f = (f.0, ap (sends_on end link) f.1)
    by Exhausted outcome f = ap (sends_on end link) f
    by Links outcome f = absurd f
    by Profile outcome f = absurd f
