-- What both calls of a `Refusing` know of it: its type, and where its fields lie.
use Rattle.std.proofs.Common.{ℕ, ◌+◌, [], ◌∷◌}
use mir.Syntax.{Args, a_type, dnil, dcons}
use prog.Memory.{size, align, up}
use denote.Param.{bounded, param}
use denote.Signature.{Slot, plain}
use denote.Builtin.{RefOf}
use Rattle.std.proofs.alloc.Calls.{Al, α}
use Rattle.test_refusing.specs.contracts.Refusing as refusing

module _ (Z : Al) where
  abbrev pub the_args : Args
  the_args = bounded (a_type ∷ []) (Z.row, tt) (dcons Z.d (dcons Z.drops dnil))

  -- `&self`
  abbrev pub the_self : Slot 2
  the_self = RefOf (0 ∷ []) tt (plain (λ _. refusing.the_row (param 0 Z.row))) (λ _. tt)

  -- the places of `inner`, `left`, `handed` and `returned` in the value at this place
  abbrev pub inner_at : ℕ × ℕ → ℕ × ℕ
  inner_at at = (at.0, at.1 + up (align (α Z)) 0)

  abbrev pub left_at : ℕ × ℕ → ℕ × ℕ
  left_at at = (at.0, at.1 + up 8 (up (align (α Z)) 0 + size (α Z)))

  abbrev pub handed_at : ℕ × ℕ → ℕ × ℕ
  handed_at at = (at.0, at.1 + up 8 (up 8 (up (align (α Z)) 0 + size (α Z)) + 8))

  abbrev pub returned_at : ℕ × ℕ → ℕ × ℕ
  returned_at at = (at.0, at.1 + up 8 (up 8 (up 8 (up (align (α Z)) 0 + size (α Z)) + 8) + 8))
