-- Runs of initial alignment control: the table folded over a list of inputs, the first input first.
use Rattle.std.specs.Prelude.{◌≡◌, ◌≢◌, ℕ, ◌+◌, IsTrue, List, [], ◌∷◌, ◌++◌, ⊤}
use Rattle.l2_units.specs.Orders.{is_start}
use Rattle.l2_units.specs.declared.timer.TimerOrder.{TimerOrder}
use Rattle.l2_align.specs.declared.align.State.{State}
use Rattle.l2_align.specs.declared.signals.AlignIn.{AlignIn}
use Rattle.l2_align.specs.declared.signals.AlignOut.{AlignOut}
use Rattle.l2_align.specs.declared.signals.Monitor.{Monitor}
use Rattle.l2_align.specs.Alignment.{Alignment, initial}
use Rattle.l2_align.specs.Table.{row}

-- the machine after these inputs
abbrev pub after : Alignment → List AlignIn → Alignment
after a [] = a
after a (input ∷ inputs) = after (row a input).next inputs

-- what the input is answered that follows these, the machine being new at first
abbrev pub told_at : List AlignIn → AlignIn → AlignOut
told_at past input = (row (after initial past) input).out

-- T4 runs on over these inputs: none of them is an abort, and none stops it or starts it anew
abbrev pub RunsUnbroken : Alignment → List AlignIn → Type 0
RunsUnbroken a [] = ⊤
RunsUnbroken a (input ∷ inputs) =
    (input ≢ AlignIn.Abort) × ((row a input).out.t4 ≡ TimerOrder.Keep) × RunsUnbroken (row a input).next inputs

-- T4 was started among these inputs, and after its last start no abort came
pub record HasProved (a : Alignment) (inputs : List AlignIn) : Type 0 where
  pub before : List AlignIn
  pub starting : AlignIn
  pub since : List AlignIn
  pub split : inputs ≡ before ++ starting ∷ since
  pub started : IsTrue (is_start (row (after a before) starting).out.t4)
  pub unbroken : RunsUnbroken (row (after a before) starting).next since

-- the machine is proving, and stays so over these inputs
abbrev pub StaysProving : Alignment → List AlignIn → Type 0
StaysProving a [] = a.state ≡ State.Proving
StaysProving a (input ∷ inputs) = (a.state ≡ State.Proving) × StaysProving (row a input).next inputs

-- an abort counts where it turns the monitor off; one that comes while another waits is ignored
abbrev pub counted : AlignIn → Monitor → ℕ
counted AlignIn.Abort Monitor.Off = 1
counted _ _ = 0

-- how many aborts count
abbrev pub aborts_among : Alignment → List AlignIn → ℕ
aborts_among a [] = 0
aborts_among a (input ∷ inputs) =
    counted input (row a input).out.monitor + aborts_among (row a input).next inputs
