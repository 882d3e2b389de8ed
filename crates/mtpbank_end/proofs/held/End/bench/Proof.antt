-- A borrow of a handle becomes a borrow of what it holds, and the handle follows that.
use Prim.Native.Nat.{ℕ}
use mathlib.Core.Path.{◌≡◌, refl}
use mathlib.Core.List.{List, [], ◌∷◌}
use base.Fraction.{full_share}
use base.Fml.{Fml, GName, ftrue, fsep, flft}
use base.Logic.{ent, sep}
use contract.Running.{tables}
use denote.Follow.{follows, lends_Part}
use denote.Memory.{cell_at, mem, part_at, part_of}
use denote.RawPtr.{block_ptr}
use denote.Ref.{MutBor, MutRef, mut_vals, mut_Tells}
use denote.Signature.{plain, mut_ref_to}
use denote.Steps.{nothing, opens}
use denote.Exit.{no}
use denote.Triple.Walked.{says, Stays, stay_dropped, walk_of, ends_at, Goes-spent_ref}
use mir.Raw.{raw as bare}
use mir.Syntax.{named}
use mir.Val.{Val, vptr}
use seplogic.Ra.Ura.{Ura}
use types.ByLocal.{alloc_all, pass_all, free_all, look_at, get, through, sets, sets_last, env}
use types.Kit.{at_ret, ‵, ◌⊛◌, later, some, ◌$◌, ◌∵◌, !, qed, done, move, keep, use1, split, split3, join, fsplit, fsplit3, fjoin, fpack, pick, await, rewrite, suffices, frame, group}
use types.Logic.{Logic, sem}
use types.Part.{whole, sub, look_in}
use types.Run.{enter, of_opd, addr, load, stop, fld, first, blocks, exec, returns}
use Rattle.std.proofs.raw_atomic.Walks.{proved}
use Rattle.core.proofs.alloc.Calls.{token}
use Rattle.std_alloc.proofs.BoxSteps.Form.{τ, word, handle}
use Rattle.std_alloc.proofs.BoxSteps.Steps.{box_out, box_in}
use Rattle.term_managed.specs.contracts.bench.ManagedBench as Managed
use Rattle.mtpbank_end.specs.Following.{with_bench}
use Rattle.mtpbank_end.specs.contracts.held.End as End
use Rattle.mtpbank_end.specs.contracts.held.End.bench as f
use Rattle.mtpbank_end.proofs.AsBox.{boxed, box_of}
use Rattle.mtpbank_end.proofs.held.End.bench.Statement.{statement}
use Rattle.mtpbank_end.proofs.held.End.bench.Code as code

abbrev stayed : Stays f.ended.signature.params f.ended.kept
stayed = (stay_dropped (mut_ref_to (0 ∷ []) tt (plain (λ _. End.the_row))) no, tt)

module _ {M : Type 1} {𝓤 : Ura M} (𝓛 : Logic 𝓤) (end : End.the_row.Denot) (at_block at_byte : ℕ) (hv : Val) (b o : ℕ) where
  -- all of the handle but what it holds: the right to free the block, the allocator, and the handle's own cell
  abbrev Rest : Fml
  Rest = fsep (fsep (token boxed.al end.alloc (bare (τ boxed)) (block_ptr b o)) (handle boxed end.alloc hv))
      (cell_at full_share End.the_row.mir (word boxed hv b o ∷ []) at_block at_byte)

  -- with any last value in the block it's a handle again
  back : end.at ≡ block_ptr b o → (last : Managed.the_row.Denot)
      → ent 𝓤 (sep 𝓤 (sem 𝓛 ((mem Managed.the_row).own_at last b o)) (sem 𝓛 Rest))
      (sem 𝓛 ((mem End.the_row).own_at (with_bench end last) at_block at_byte))
  unfolding part_of
  back is_at last =
      qed 𝓛 (‵ (part_at Managed.the_row full_share last b o) ∷ ‵ Rest ∷ []) ∵
      move ! (1 ∷ []) $ fsplit ! $ fsplit ! $ move ! (3 ∷ []) $
      box_in boxed ! (box_of (with_bench end last)) b o last is_at refl $ move ! (1 ∷ 0 ∷ []) $ fjoin ! $
      fpack ! (List Val) (λ ws. fsep (cell_at full_share End.the_row.mir ws at_block at_byte) (End.the_row.own_val (with_bench end last) ws))
      (word boxed hv b o ∷ []) $ done !

pub bench_spec : {M : Type 1} → statement M
bench_spec 𝓤 𝓛 𝓜 𝓡 wired =
    let c = f.clauses 𝓛 𝓜.mem 𝓡.returns in let W = walk_of 𝓛 f.ended stayed c in
    let 𝓣 = tables 𝓤 𝓛.H 𝓜 𝓡 𝓡.env in
    proved 𝓛 f.ended stayed c 𝓜 𝓡 (Goes-spent_ref 𝓛 1 (0 ∷ []) tt (plain (λ _. End.the_row)), tt)
    f.Key.name code.function (code.unfolded 𝓤 𝓛.H 𝓜 𝓡 wired)
    (λ κs. (mut_vals, tt)) (λ κs. (mut_Tells (named 0) κs.0 End.the_row, tt)) (λ κs qs bounds a _ are.
    let κ = κs.0 in let q = qs.0 in let x = a.0.ref_ptr.0 in let z = a.0.ref_ptr.1 in let γ = a.0.ghost_name in
    let end = a.0.now in let vs = mut_vals a.0 in
    let y : W.Ghost = ((κs, qs, bounds, a, (vs, tt)), tt) in
    qed 𝓛 (((‵ (flft κ q) ⊛ ‵ ftrue) ⊛ ‵ ((MutRef (named 0) κ End.the_row).own_val a.0 vs) ⊛ ‵ ftrue) ∷ ‵ ftrue ∷ []) ∵
    split ! $ split ! $ move ! (2 ∷ []) $ split ! $ keep ! (0 ∷ 2 ∷ []) $
    enter ! _ _ _ _ _ $ alloc_all ! (λ l. pass_all ! refl ((tt, tt), tt) $
    fsplit3 ! $ move ! (1 ∷ 2 ∷ 3 ∷ []) $ opens ! tt End.the_row x z (λ us.
    move ! (1 ∷ []) $ box_out boxed ! (box_of end) us (λ b o hv is_at is_word fits.
    move ! (1 ∷ 2 ∷ []) $ fjoin ! $ move ! (1 ∷ []) $
    rewrite ! 2 (λ (ws : List Val). ‵ (cell_at full_share End.the_row.mir ws x z)) is_word refl $
    -- [what is held; the right to free it, and the allocator; the handle's cell; the open borrow, in three entries]
    first ! $ blocks ! $
    sets ! (of_opd ! (load ! (through ! refl (fld ! refl (stop !))) (look_in ! 2 (sub ! 0 refl (whole !))))) refl (tt, tt) $
    sets ! (of_opd ! (get ! refl)) refl (tt, tt) $
    sets_last ! (addr ! (through ! refl (stop !))) refl (tt, tt) $
    exec ! 𝓣.C 𝓣.Λ (env code.Mir.locals l) code.Mir.t-2 (at_ret _ (W.post y)) $
    sets ! (of_opd ! (get ! refl)) refl (tt, tt) $
    move ! (1 ∷ 2 ∷ []) $ fjoin ! $ move ! (2 ∷ 3 ∷ 4 ∷ 1 ∷ 0 ∷ []) $ group ! 5 $
    let lent : GName → MutBor Managed.the_row.Denot = λ γ'. record { ref_ptr = (b, o); ghost_name = γ'; now = end.bench } in
    use1 𝓛 (later (some (λ (γ' : GName). ‵ ((MutRef (named 0) κ Managed.the_row).own_val (lent γ') (vptr b o ∷ [])) ⊛ ‵ (flft κ q)
    ⊛ ‵ (follows End.the_row Managed.the_row γ γ' (with_bench end)))))
    (lends_Part 𝓛 End.the_row Managed.the_row (with_bench end) (named 0) κ q x z b o γ (sem 𝓛 (Rest 𝓛 end x z hv b o))
    (back 𝓛 end x z hv b o is_at) (End.the_row.coded.code end) (End.the_row.coded.code end) end.bench) $
    await ! tt $ pick ! (λ γ'. returns ! (look_at ! 0 refl) $ free_all ! refl $ keep ! (0 ∷ []) $ split3 ! $
    suffices ! _ (ends_at 𝓛 f.ended stayed c y (vptr b o) (lent γ') (tt, tt) (tt, tt)) $
    nothing ! $ nothing ! $ fjoin ! $ join ! $ nothing ! $ move ! (2 ∷ 0 ∷ []) $ join ! $ join ! $ frame ! $ says ! refl $ done !)))))
