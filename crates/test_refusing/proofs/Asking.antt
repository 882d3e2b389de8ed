-- A call of `refuses`, and one of `count`: what it is handed, and what its caller has of it.
use Rattle.std.proofs.Common.{Bool, ◌≡◌, ℕ, List, [], ◌∷◌, refl, ap}
use seplogic.Ra.Ura.{Ura}
use mir.Val.{Val, vbool, vptr, vunit}
use base.Logic.{SProp, ent, sep, ex, guard, id⊢}
use base.Fml.{Lft, Share, ftrue, fsep, flft}
use prog.Memory.{Memory}
use prog.Routine.{Routine}
use types.Logic.{Logic, sem}
use contract.Monad.{Fun}
use types.Kit.{‵, ◌⊛◌, some, later, ◌$◌, ◌∵◌, !, raw, qed, move, keep, use1, split, join, pick, fjoin, feq_i, feq_l, check, await, updating, show, now as at_once, done}
use denote.RattleType.{RattleType}
use denote.Memory.{hidden_shr}
use denote.Builtin.{u64, bool, unit}
use denote.Steps.{nothing, only}
use denote.Triple.Statement.{Contract}
use denote.Triple.Spec.{triple_of}
use Rattle.std.specs.contracts.cell.Cell as TheCell
use Rattle.test_refusing.specs.contracts.count as counted
use Rattle.test_refusing.specs.contracts.refuses as asked

-- a number in a cell
abbrev Number : RattleType
Number = TheCell.the_row u64

module _ {M : Type 1} {𝓤 : Ura M} (𝓛 : Logic 𝓤) (at_mem : Memory → SProp 𝓤) (run : Routine → Fun 𝓤) where
  abbrev pub Asks : Contract 𝓤
  Asks = triple_of 𝓛 asked.signature (asked.spec 𝓛 at_mem run)

  -- the call over the number at this place, which is lent for that long
  abbrev pub at_asks : Lft → Share → ℕ × ℕ → Asks.Ghost
  at_asks κ q at =
      (((κ, tt), (q, tt), tt, (record { ref_ptr = at; now = record { value = tt } }, tt), (vptr at.0 at.1 ∷ [], tt)), tt)

  abbrev pub Counts : Contract 𝓤
  Counts = triple_of 𝓛 counted.signature (counted.spec 𝓛 at_mem run)

  abbrev pub at_counts : Lft → Share → ℕ × ℕ → Counts.Ghost
  at_counts κ q at =
      (((κ, tt), (q, tt), tt, (record { ref_ptr = at; now = record { value = tt } }, tt), (vptr at.0 at.1 ∷ [], tt)), tt)

  module _ (κ : Lft) (q : Share) (at : ℕ × ℕ) where
    open 𝓛 use {H, A}

    pub asks_from : ent 𝓤 (sep 𝓤 (sem 𝓛 (hidden_shr Number κ (record { value = tt }) at.0 at.1)) (A.lft κ q)) (Asks.pre (at_asks κ q at))
    asks_from =
        qed 𝓛 (‵ (hidden_shr Number κ (record { value = tt }) at.0 at.1) ∷ ‵ (flft κ q) ∷ []) ∵
        feq_i ! (List Val) (vptr at.0 at.1 ∷ []) (vptr at.0 at.1 ∷ []) refl $ fjoin ! $ nothing ! $ move ! (1 ∷ []) $
        fjoin ! $ nothing ! $ move ! (2 ∷ []) $ join ! $ join ! $ nothing ! $ move ! (1 ∷ []) $ done !

    -- it answers a truth value, and the loan is whole again
    pub asks_gives : (v : Val) → ent 𝓤 (Asks.post (at_asks κ q at) v) (H.⇛ (ex 𝓤 (λ (r : Bool). guard 𝓤 (v ≡ vbool r) (A.lft κ q))))
    asks_gives v =
        qed 𝓛 (raw (Asks.post (at_asks κ q at) v) ∷ []) ∵ updating ! $
        use1 𝓛
        (later (some (λ (r : Bool). ((‵ (flft κ q) ⊛ ‵ ftrue) ⊛ ‵ (bool.own_val r (v ∷ [])))
        ⊛ some (λ (ws : Unit {0} × Unit {0}). ‵ (fsep ftrue ftrue) ⊛ ‵ ftrue))))
        (id⊢ 𝓤 _) $
        await ! tt $ pick ! (λ r. split ! $ split ! $ move ! (1 ∷ []) $ feq_l ! (λ e. split ! $ at_once ! $
        show ! (λ (r : Bool). guard 𝓤 (v ≡ vbool r) (A.lft κ q)) r $ check ! (ap only e) $ keep ! (0 ∷ []) $ done !))

    pub counts_from : ent 𝓤 (sep 𝓤 (sem 𝓛 (hidden_shr Number κ (record { value = tt }) at.0 at.1)) (A.lft κ q)) (Counts.pre (at_counts κ q at))
    counts_from =
        qed 𝓛 (‵ (hidden_shr Number κ (record { value = tt }) at.0 at.1) ∷ ‵ (flft κ q) ∷ []) ∵
        feq_i ! (List Val) (vptr at.0 at.1 ∷ []) (vptr at.0 at.1 ∷ []) refl $ fjoin ! $ nothing ! $ move ! (1 ∷ []) $
        fjoin ! $ nothing ! $ move ! (2 ∷ []) $ join ! $ join ! $ nothing ! $ move ! (1 ∷ []) $ done !

    -- it answers nothing, and the loan is whole again
    pub counts_gives : (v : Val) → ent 𝓤 (Counts.post (at_counts κ q at) v) (H.⇛ (guard 𝓤 (v ≡ vunit) (A.lft κ q)))
    counts_gives v =
        qed 𝓛 (raw (Counts.post (at_counts κ q at) v) ∷ []) ∵ updating ! $
        use1 𝓛
        (later (some (λ (r : Unit {0}). ((‵ (flft κ q) ⊛ ‵ ftrue) ⊛ ‵ (unit.own_val r (v ∷ [])))
        ⊛ some (λ (ws : Unit {0} × Unit {0}). ‵ (fsep ftrue ftrue) ⊛ ‵ ftrue))))
        (id⊢ 𝓤 _) $
        await ! tt $ pick ! (λ r. split ! $ split ! $ move ! (1 ∷ []) $ feq_l ! (λ e. split ! $ at_once ! $
        check ! (ap only e) $ keep ! (0 ∷ []) $ done !))
