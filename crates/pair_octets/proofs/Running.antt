-- STEPS THAT ARE CARRIED OUT one after another. `IsUnderWay` is the invariant of the loop: what the steps that are left do from
-- here, and how they fail, is what all of them do from the start (`begins`, `goes_on`, `stops`). Used by Wires::steps.
use Rattle.std.proofs.Common.{arith, ◌≡◌, ◌∙◌, ◌<◌, ◌+◌, ap, subst, sym, ℕ, suc, List, ◌∷◌, length, drop, drop-cons, get_or}
use Rattle.pair_octets.specs.Wires.{Wires, Happens, Happen, Fails, FailsAt, AreFitting, IsRun, RunFails, StepsFail, new_wires}
use Rattle.pair_octets.specs.declared.fault.RunFault.{RunFault}
use Rattle.pair_octets.specs.declared.fault.RunFault.TheVariants.{NoMemory, Links, AtStep}
use Rattle.pair_octets.specs.declared.fault.StepFault.{StepFault}
use Rattle.pair_octets.specs.declared.step.EndConfig.{EndConfig}
use Rattle.pair_octets.specs.declared.step.LineLengths.{LineLengths}
use Rattle.pair_octets.specs.declared.step.WireStep.{WireStep}

pub record IsUnderWay (start : Wires) (steps : List WireStep) (place : ℕ) (w : Wires) : Type 0 where
  pub goes : (new : Wires) → Happen (drop place steps) w new → Happen steps start new
  pub fails : (later : ℕ) (fault : StepFault) → FailsAt later fault (drop place steps) w → FailsAt (place + later) fault steps start

pub begins : (start : Wires) (steps : List WireStep) → IsUnderWay start steps 0 start
begins start steps = record {
  goes = λ new h. h;
  fails = λ later fault f. let same : 0 + later ≡ later = omega arith in subst (λ n. FailsAt n fault steps start) (sym same) f;
}

-- the step at this place stands in front of what is left
in_front : (steps : List WireStep) (place : ℕ) (step : WireStep) → place < length steps → step ≡ get_or steps place step
    → drop place steps ≡ step ∷ drop (suc place) steps
in_front steps place step within there =
    drop-cons steps place step within ∙ ap (λ (s : WireStep). s ∷ drop (suc place) steps) (sym there)

pub goes_on : (start : Wires) (steps : List WireStep) (place : ℕ) (w new : Wires) (step : WireStep)
    → IsUnderWay start steps place w → place < length steps → step ≡ get_or steps place step → Happens step w new
    → IsUnderWay start steps (suc place) new
goes_on start steps place w new step way within there happens =
    let same = in_front steps place step within there in record {
      goes = λ last h. way.goes last (subst (λ (left : List WireStep). Happen left w last) (sym same) (new, happens, h));
      fails = λ later fault f.
          let place_is : place + suc later ≡ suc place + later = omega arith in
          subst (λ n. FailsAt n fault steps start) place_is
          (way.fails (suc later) fault (subst (λ (left : List WireStep). FailsAt (suc later) fault left w) (sym same) (new, happens, f)));
    }

pub stops : (start : Wires) (steps : List WireStep) (place : ℕ) (w : Wires) (step : WireStep) (fault : StepFault)
    → IsUnderWay start steps place w → place < length steps → step ≡ get_or steps place step → Fails fault step w
    → FailsAt place fault steps start
stops start steps place w step fault way within there f =
    let same = in_front steps place step within there in
    let place_is : place + 0 ≡ place = omega arith in
    subst (λ n. FailsAt n fault steps start) place_is
    (way.fails 0 fault (subst (λ (left : List WireStep). FailsAt 0 fault left w) (sym same) f))

-- the same of two configurations, whose new ends the steps began with
module _ (a b : EndConfig) (lengths : List LineLengths) (steps : List WireStep) (start : Wires) (fitting : AreFitting a b lengths)
    (is : start ≡ new_wires a b lengths) where
  pub run_of : (w : Wires) → Happen steps start w → IsRun a b lengths steps w
  run_of w happen = record { fitting = fitting; happen = subst (λ (s : Wires). Happen steps s w) is happen }

  pub run_fails : (fault : RunFault) → StepsFail fault steps start → RunFails fault a b lengths steps
  run_fails NoMemory f = absurd f
  run_fails Links f = absurd f
  run_fails (AtStep place fault) f = (fitting, subst (λ (s : Wires). FailsAt place fault steps s) is f)
