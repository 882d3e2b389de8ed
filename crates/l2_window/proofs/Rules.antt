-- What a link's law wants of the rules of an error control.
use Rattle.std.proofs.Common.{◌≡◌, ℕ, ◌%◌, ◌<◌, Bool, true, false, ◌&&◌, ◌==◌, nat_lt, List, [], ◌∷◌, ◌++◌, length, Option, None}
use Rattle.std.specs.Prelude.{is_some, if◌then◌else◌}
use Rattle.l2_units.specs.declared.unit.Header.{Header}
use Rattle.l2_window.specs.Window.{WindowState, distance_to, most_unacked}
use Rattle.l2_window.specs.Control.{bsn_of, fsn_after}
use Rattle.l2_window.specs.Line.{Carried}
use Rattle.l2_window.specs.Link.{Rules}
use Rattle.l2_window.specs.declared.control.Choice.{Choice}
use Rattle.l2_window.specs.declared.control.Choice.TheVariants.{Again, First}

-- What an end that hears and one that answers have in step, with the units out to the one that hears
-- and back: the control's own, `InStep`, which every step keeps and which lets each unit be processed
-- whose BSN is normal.
pub record AreKept {State : Type 0} (rules : Rules State) (InStep : State → State → List Carried → List Carried → Type 0) : Type 0 where
  -- sending
  pub again : (o : ℕ) (s : State) (w : WindowState) (place : ℕ) → rules.choice o s w ≡ Again place → place < length w.unacked
  pub first : (o : ℕ) (s : State) (w : WindowState) → rules.choice o s w ≡ First → length w.unacked < most_unacked w.profile
  pub same : (choice : Choice) (o : ℕ) (s : State) (w : WindowState) → rules.expected (rules.after choice o s w) ≡ rules.expected s
  pub bsn : (s : State) (w : WindowState) (fsn : ℕ) → (rules.head s w fsn).bsn ≡ bsn_of (rules.expected s) w % 4096
  pub fsn : (s : State) (w : WindowState) (fsn : ℕ) → (rules.head s w fsn).fsn ≡ fsn % 4096
  -- hearing
  pub acked : (s : State) (w : WindowState) (head : Header) (msu : Bool) → rules.is_processed s w head ≡ true → (rules.part s w head msu).acked ≡ distance_to w head.bsn
  pub current : State → Header → Bool
  pub accept : (s : State) (w : WindowState) (head : Header) (msu : Bool) → rules.is_processed s w head ≡ true → (rules.part s w head msu).accept ≡ (current s head && (msu && (head.fsn == rules.expected s)))
  pub expected : (s : State) (w : WindowState) (head : Header) (msu : Bool) → rules.expected (rules.heard s w head msu) ≡ (if (rules.part s w head msu).accept then fsn_after head.fsn w else rules.expected s)
  pub fault : (s : State) (w : WindowState) (head : Header) (msu : Bool) → rules.is_processed s w head ≡ true → (rules.part s w head msu).fault ≡ None
  -- in step
  pub processed : (x y : State) (w : WindowState) (unit : Carried) (out back : List Carried) → InStep x y (unit ∷ out) back → nat_lt (length w.unacked) (distance_to w unit.head.bsn) ≡ false → rules.is_processed y w unit.head ≡ true
  pub emit : (x y : State) (out back : List Carried) (choice : Choice) (o fsn : ℕ) (w : WindowState) (message : Option ℕ) → InStep x y out back → InStep (rules.after choice o x w) y (out ++ record { head = rules.head x w fsn; message = message } ∷ []) back
  pub emit_back : (x y : State) (out back : List Carried) (choice : Choice) (o fsn : ℕ) (w : WindowState) (message : Option ℕ) → InStep x y out back → InStep x (rules.after choice o y w) out (back ++ record { head = rules.head y w fsn; message = message } ∷ [])
  pub hear : (x y : State) (unit : Carried) (out back : List Carried) (w : WindowState) → InStep x y (unit ∷ out) back → rules.is_processed y w unit.head ≡ true → InStep x (rules.heard y w unit.head (is_some unit.message)) out back
  pub hear_back : (x y : State) (unit : Carried) (out back : List Carried) (w : WindowState) → InStep x y out (unit ∷ back) → rules.is_processed x w unit.head ≡ true → InStep (rules.heard x w unit.head (is_some unit.message)) y out back
  pub lose : (x y : State) (before : List Carried) (unit : Carried) (after back : List Carried) → InStep x y (before ++ unit ∷ after) back → InStep x y (before ++ after) back
  pub lose_back : (x y : State) (out before : List Carried) (unit : Carried) (after : List Carried) → InStep x y out (before ++ unit ∷ after) → InStep x y out (before ++ after)
