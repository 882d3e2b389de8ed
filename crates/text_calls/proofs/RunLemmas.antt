-- What a subcommand answers, with a fault of either text.
use Rattle.std.proofs.Common.{◌≡◌, ◌∙◌, refl, ap, ℕ, List, Option, Some, None, Result, Ok, Err, IfSome}
use Rattle.text_base.specs.declared.fault.Fault.{Fault}
use Rattle.text_base.specs.declared.fault.Fault.TheVariants.{Input, Memory, Read, Long, Write}
use Rattle.text_base.specs.Printing.{Printed, IsBegun, Prints}
use Rattle.text_calls.specs.declared.running.TextFault.{TextFault}
use Rattle.text_calls.specs.Running.{GivesFault, IsText}

-- the same answer with a fault of that type
abbrev pub with_fault : {F : Type 0} → (F → TextFault) → Result (Unit {0}) (Fault F)
    → Result (Unit {0}) (Fault TextFault)
with_fault of (Ok done) = Ok done
with_fault of (Err (Input fault)) = Err (Input (of fault))
with_fault of (Err Memory) = Err Memory
with_fault of (Err Read) = Err Read
with_fault of (Err Long) = Err Long
with_fault of (Err Write) = Err Write

module _ {F : Type 0} (IsIt : Printed F → Type 0) (of : F → TextFault) where
  -- a beginning of its own text is one of this
  begun : (printed : List ℕ) → IsBegun IsIt printed → IsBegun (IsText IsIt of) printed
  begun printed b text is = let more = b is.own is.is_it in (more.0, ap (λ (t : Printed TextFault). t.printed) is.same ∙ more.1)

  pub prints : (ran : Result (Unit {0}) (Fault F)) (old new : Option (List ℕ)) → Prints ran IsIt old new → Prints (with_fault of ran) (IsText IsIt of) old new
  prints (Ok done) old new p = record { printed = p.printed; added = p.added; ends = record { own = _; is_it = p.ends; same = refl } }
  prints (Err (Input fault)) old new p = record { printed = p.printed; added = p.added; ends = record { own = _; is_it = p.ends; same = refl } }
  prints (Err Memory) old new p = record { printed = p.printed; added = p.added; ends = begun p.printed p.ends }
  prints (Err Read) old new p = record { printed = p.printed; added = p.added; ends = begun p.printed p.ends }
  prints (Err Long) old new p = record { printed = p.printed; added = p.added; ends = begun p.printed p.ends }
  prints (Err Write) old new p = record { printed = p.printed; added = p.added; ends = begun p.printed p.ends }

-- where the left octets are known
pub prints_all : {F : Type 0} (IsIt : List ℕ → Printed F → Type 0) (of : F → TextFault) (ran : Result (Unit {0}) (Fault F)) (left old new : Option (List ℕ))
    → IfSome left (λ input. Prints ran (IsIt input) old new) → IfSome left (λ input. Prints (with_fault of ran) (IsText (IsIt input) of) old new)
prints_all IsIt of ran None old new p = p
prints_all IsIt of ran (Some input) old new p = prints (IsIt input) of ran old new p

-- where each fault of the input is given as that one
pub one_fault : {F : Type 0} (of : F → TextFault) (Gives : F → TextFault → Type 0) → ((fault : F) (given : TextFault) → Gives fault given → given ≡ of fault) → (ran : Result (Unit {0}) (Fault F)) (given : Result (Unit {0}) (Fault TextFault)) → GivesFault Gives ran given → given ≡ with_fault of ran
one_fault of Gives is (Ok done) given g = g
one_fault of Gives is (Err (Input fault)) (Ok done) g = absurd g
one_fault of Gives is (Err (Input fault)) (Err (Input one)) g = ap (λ (f : TextFault). Err (Input f)) (is fault one g)
one_fault of Gives is (Err (Input fault)) (Err Memory) g = absurd g
one_fault of Gives is (Err (Input fault)) (Err Read) g = absurd g
one_fault of Gives is (Err (Input fault)) (Err Long) g = absurd g
one_fault of Gives is (Err (Input fault)) (Err Write) g = absurd g
one_fault of Gives is (Err Memory) given g = g
one_fault of Gives is (Err Read) given g = g
one_fault of Gives is (Err Long) given g = g
one_fault of Gives is (Err Write) given g = g
