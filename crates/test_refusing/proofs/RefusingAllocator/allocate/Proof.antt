-- It answers that there is no memory where `refuses` says so, and else what the allocator inside answers. Assumes `Logic`.
use Rattle.std.proofs.Common.{Bool, ◌≡◌, ℕ, ◌^◌, ◌<◌, true, false, List, [], ◌∷◌, Ok, Err, refl, w64, Bor}
use seplogic.Ra.Ura.{Ura}
use mir.Syntax.{Ty, Fn, Body}
use mir.Val.{Val, vbool, vint, vptr, vunit}
use mir.MapTy.{inst_fn}
use base.Logic.{SProp, ent, id⊢}
use base.Fml.{Lft, Share, ftrue, flft}
use prog.Memory.{Memory, size, align, capped}
use prog.Routine.{Routine}
use prog.Wp.{Env, Wp, WpFn, Tables, after_seq, at_return}
use types.Logic.{Logic}
use types.Kit.{‵, raw, ◌⊛◌, some, pick, at_ret, any_q, Post as After, later, given, learn, ◌$◌, ◌∵◌, !, qed, move, keep, use0, use1, use2, split, join, fsplit, fjoin, suffices, await, done}
use types.Run.{stop, fld, addr, no_more, and_then, lit, of_opd, returns, returns_within, enter, exec, first, skips, branches, switches_on}
use types.Match.{vrt, in_variant}
use types.Part.{agg, whole}
use types.ByLocal.{env, alloc_all, pass_all, free_all, look_at, get, get_in, get_tag, through, sets, sets_last, lands_as}
use contract.BorrowLft.{◌⊑◌, ⊑_trans}
use contract.Monad.{Fun, fact}
use contract.Running.{tables, tables_of}
use sound.WpLaws.{fm_of, WpFn-mono}
use denote.Exit.{yes}
use denote.RattleType.{owns}
use denote.Ref.{shr_vals}
use denote.RawPtr.{block_ptr}
use denote.Opens.{unhide}
use denote.Plain.{uint_vals, uint_Tells}
use denote.Builtin.{usize}
use denote.Signature.{plain, types_at}
use denote.Steps.{heard, nothing}
use denote.Triple.Call.{calls_at}
use denote.Triple.Clauses.{Ended, Clauses}
use denote.Triple.Spec.{triple_of}
use denote.Triple.Statement.{Triple}
use denote.Triple.Table.{entered, cited}
use denote.Triple.Walked.{Stays, stay_dropped, walk_of, ends_at, walked, Goes-dropped, walk_Meets}
use Rattle.std.proofs.alloc.Shapes.{after, front, arm_body}
use Rattle.std.proofs.alloc.Calls.{Al, seen, Answer, answer_val, Answer-typed, Answer-Ok, Answer-err, takes_key, Takes, at_takes, Answered, Takes-goes, Takes-gives, answers}
use Rattle.test_refusing.proofs.Asking.{Asks, Counts, at_asks, at_counts, asks_from, asks_gives, counts_from, counts_gives}
use Rattle.test_refusing.proofs.Inside.{the_args, the_self, inner_at, left_at, handed_at}
use Rattle.test_refusing.proofs.count.Symbol as count_symbol
use Rattle.test_refusing.proofs.count.Met as count_met
use Rattle.test_refusing.proofs.refuses.Symbol as refuses_symbol
use Rattle.test_refusing.proofs.refuses.Met as refuses_met
use Rattle.test_refusing.specs.contracts.Refusing as refusing
use Rattle.test_refusing.specs.contracts.RefusingAllocator.allocate as told
use Rattle.test_refusing.specs.contracts.RefusingAllocator.allocate.Key as key
use Rattle.test_refusing.proofs.RefusingAllocator.allocate.Statement.{statement}
use Rattle.test_refusing.proofs.RefusingAllocator.allocate.Code as code

module _ (Z : Al) where
  abbrev here : Fn
  here = inst_fn (the_args Z) code.function

  abbrev ended : Ended
  ended = told.ended Z.row Z.g Z.d Z.drops

  abbrev stayed : Stays ended.signature.params ended.kept
  stayed = (stay_dropped (the_self Z) yes, (stay_dropped (plain (λ _. usize)) yes, (stay_dropped (plain (λ _. usize)) yes, tt)))

module _ (Z : Al) {M : Type 1} {𝓤 : Ura M} (𝓛 : Logic 𝓤) (at_mem : Memory → SProp 𝓤) (run : Routine → Fun 𝓤)
    (𝓣 : Tables 𝓤 𝓛.H) (inner_takes : Triple 𝓤 (𝓣.C (takes_key Z)) (Takes Z 𝓛 at_mem run))
    (asked : Triple 𝓤 (𝓣.C refuses_symbol.name) (Asks 𝓛 at_mem run))
    (counted : Triple 𝓤 (𝓣.C count_symbol.name) (Counts 𝓛 at_mem run)) where
  open 𝓛 use {H}

  abbrev held : Clauses 𝓤 (ended Z)
  held = told.clauses Z.row Z.g Z.d Z.drops 𝓛 at_mem run

  -- a call that wants so many octets, of this alignment, while `self` is lent for κ₁
  module _ (κ₁ κ₂ : Lft) (q₁ q₂ : Share) (within : κ₁ ⊑ κ₂) (r : Bor (refusing.the_row Z.row).Denot) (n a : ℕ) (τ : Ty) where
    abbrev bound : (walk_of 𝓛 (ended Z) (stayed Z) held).Ghost
    bound = (
      (
        (κ₁, (κ₂, tt)),
        (q₁, (q₂, tt)),
        (within, tt),
        (r, (n, (a, tt))),
        (shr_vals r, (vint w64 n ∷ [], (vint w64 a ∷ [], tt))),
      ),
      τ,
    )

    abbrev values : List Val
    values = vptr r.ref_ptr.0 r.ref_ptr.1 ∷ vint w64 n ∷ vint w64 a ∷ []

    abbrev Post : Val → SProp 𝓤
    Post = (walk_of 𝓛 (ended Z) (stayed Z) held).post bound

    walk : n < 2 ^ 64 → a < 2 ^ 64
        → ent 𝓤 ((walk_of 𝓛 (ended Z) (stayed Z) held).pre bound) (WpFn 𝓤 H 𝓣.C 𝓣.Λ (here Z) values Post)
    walk n_fits a_fits =
        let inner : Z.row.Denot = r.now.inner in
        let at : ℕ × ℕ = inner_at Z r.ref_ptr in
        let left : ℕ × ℕ = left_at Z r.ref_ptr in
        let handed : ℕ × ℕ = handed_at Z r.ref_ptr in
        let call : (Takes Z 𝓛 at_mem run).Ghost = at_takes Z 𝓛 at_mem run κ₁ q₁ at inner n a τ in
        let Fits : Type 0 = (capped (size τ) ≡ n) × (capped (align τ) ≡ a) in
        qed 𝓛 (((‵ (flft κ₁ q₁) ⊛ ‵ (flft κ₂ q₂) ⊛ ‵ ftrue)
        ⊛ ‵ (owns (types_at (ended Z).signature.params bound.0.0) bound.0.3 bound.0.4))
        ∷ (raw (fact 𝓤 (κ₂ ⊑ Z.row.lives)) ⊛ raw (fact 𝓤 Fits)) ∷ []) ∵
        move ! (1 ∷ []) $ split ! $ heard ! (κ₂ ⊑ Z.row.lives) (λ lives. heard ! Fits (λ fits.
        split ! $ split ! $ move ! (2 ∷ []) $ fsplit ! $ fsplit ! $ move ! (1 ∷ []) $ unhide ! $ fsplit ! $ fsplit ! $
        use1 𝓛 (‵ (seen Z κ₁ at inner)) (id⊢ 𝓤 _) $ move ! (1 ∷ []) $ fsplit ! $ move ! (1 ∷ []) $ fsplit ! $ keep ! (2 ∷ 7 ∷ 3 ∷ 8 ∷ 0 ∷ []) $
        enter ! 𝓣.C 𝓣.Λ (here Z) values _ $ alloc_all ! (λ l. let En : Env 𝓤 H = env (here Z).locals l in
        let both : Body = front (after 5 (here Z).body) in
        let Then : After 𝓤 H = any_q (after_seq 𝓤 H (Wp 𝓤 H 𝓣.C 𝓣.Λ En (after 6 (here Z).body) (at_return 𝓤 H En Post)) (at_return 𝓤 H En Post)) in
        pass_all ! refl ((tt, tt), ((tt, record { fits = n_fits }), ((tt, record { fits = a_fits }), tt))) $
        sets ! (addr ! (through ! refl (fld ! refl (stop !)))) refl (tt, tt) $
        use2 𝓛 (raw ((Asks 𝓛 at_mem run).pre (at_asks 𝓛 at_mem run κ₁ q₁ left))) (asks_from 𝓛 at_mem run κ₁ q₁ left) $
        calls_at ! (fm_of 𝓤 H 𝓛.laws 𝓣) (Asks 𝓛 at_mem run) asked (at_asks 𝓛 at_mem run κ₁ q₁ left)
        (and_then ! (get ! refl) (no_more !)) (λ u.
        use1 𝓛 (later (some (λ (z : Bool). given (u ≡ vbool z) (‵ (flft κ₁ q₁))))) (asks_gives 𝓛 at_mem run κ₁ q₁ left u) $
        await ! tt $ pick ! (λ z. learn ! (λ is_bool. lands_as ! is_bool refl (tt, tt) $ move ! (1 ∷ []) $
        first ! $ branches ! (get ! refl)
        -- it's refused
        (λ _. sets ! (agg ! (no_more !)) refl (tt, tt) $
        sets ! (agg ! (and_then ! (lit ! tt) (and_then ! (get ! refl) (no_more !)))) refl (Answer-typed false 0 0) $
        returns_within ! Post refl (look_at ! 0 refl) $ free_all ! refl $ keep ! (1 ∷ 2 ∷ []) $ nothing ! $
        suffices ! _
        (ends_at 𝓛 (ended Z) (stayed Z) held bound (answer_val false 0 0) (Err (record {})) (tt, (tt, (tt, tt))) (tt, (tt, (tt, tt)))) $
        use0 𝓛 (‵ (Answer.own_val (Err (record {})) (answer_val false 0 0 ∷ []))) (Answer-err 𝓛) $
        nothing ! $ nothing ! $ fjoin ! $ nothing ! $ fjoin ! $ nothing ! $ fjoin ! $ join ! $
        move ! (2 ∷ 3 ∷ []) $ join ! $ join ! $ done !)
        -- it's passed on
        (λ _. skips ! $ exec ! 𝓣.C 𝓣.Λ En (after 3 (here Z).body) (at_ret En Post) $
        sets ! (addr ! (through ! refl (fld ! refl (stop !)))) refl (tt, tt) $
        use2 𝓛 (raw ((Takes Z 𝓛 at_mem run).pre call))
        (Takes-goes Z 𝓛 at_mem run κ₁ q₁ at inner (⊑_trans κ₁ κ₂ Z.row.lives within lives) n a τ fits.0 fits.1 n_fits a_fits) $
        calls_at ! (fm_of 𝓤 H 𝓛.laws 𝓣) (Takes Z 𝓛 at_mem run) inner_takes call
        (and_then ! (get ! refl) (and_then ! (get ! refl) (and_then ! (get ! refl) (no_more !)))) (λ v.
        use1 𝓛 (later (raw (Answered Z 𝓛 at_mem run inner τ v) ⊛ ‵ (flft κ₁ q₁))) (Takes-gives Z 𝓛 at_mem run κ₁ q₁ at inner n a τ v) $
        await ! tt $ split ! $ answers Z ! at_mem run inner τ v
        (λ b o is_block. fjoin ! $ lands_as ! is_block refl (Answer-typed true b o) $
        first ! $ switches_on ! (get_tag ! (vrt ! refl (fld ! refl (stop !))) (whole !)) $ exec ! 𝓣.C 𝓣.Λ En (arm_body 0 both) Then $
        sets ! (of_opd ! (get_in ! (vrt ! refl (fld ! refl (stop !))) (in_variant ! 0 0 refl refl (whole !)))) refl (tt, tt) $
        sets ! (addr ! (through ! refl (fld ! refl (stop !)))) refl (tt, tt) $
        move ! (3 ∷ 1 ∷ []) $
        use2 𝓛 (raw ((Counts 𝓛 at_mem run).pre (at_counts 𝓛 at_mem run κ₁ q₁ handed))) (counts_from 𝓛 at_mem run κ₁ q₁ handed) $
        calls_at ! (fm_of 𝓤 H 𝓛.laws 𝓣) (Counts 𝓛 at_mem run) counted (at_counts 𝓛 at_mem run κ₁ q₁ handed)
        (and_then ! (get ! refl) (no_more !)) (λ w.
        use1 𝓛 (later (given (w ≡ vunit) (‵ (flft κ₁ q₁)))) (counts_gives 𝓛 at_mem run κ₁ q₁ handed w) $
        await ! tt $ learn ! (λ is_counted. lands_as ! is_counted refl (tt, tt) $ move ! (1 ∷ 0 ∷ []) $
        sets_last ! (agg ! (and_then ! (lit ! tt) (and_then ! (get ! refl) (no_more !)))) refl (Answer-typed true b o) $
        exec ! 𝓣.C 𝓣.Λ En (after 6 (here Z).body) (at_ret En Post) $ sets ! (of_opd ! (get ! refl)) refl (Answer-typed true b o) $
        returns ! (look_at ! 0 refl) $ free_all ! refl $
        suffices ! _
        (ends_at 𝓛 (ended Z) (stayed Z) held bound (answer_val true b o) (Ok (block_ptr b o)) (tt, (tt, (tt, tt))) (tt, (tt, (tt, tt)))) $
        use0 𝓛 (‵ (Answer.own_val (Ok (block_ptr b o)) (answer_val true b o ∷ []))) (Answer-Ok 𝓛 b o) $
        nothing ! $ nothing ! $ fjoin ! $ nothing ! $ fjoin ! $ nothing ! $ fjoin ! $ join ! $
        move ! (2 ∷ 3 ∷ []) $ join ! $ join ! $ done !)))
        (λ is_none. nothing ! $ lands_as ! is_none refl (Answer-typed false 0 0) $
        first ! $ switches_on ! (get_tag ! (vrt ! refl (fld ! refl (stop !))) (whole !)) $ exec ! 𝓣.C 𝓣.Λ En (arm_body 1 both) Then $
        sets ! (of_opd ! (get_in ! (vrt ! refl (fld ! refl (stop !))) (in_variant ! 1 0 refl refl (whole !)))) refl (tt, tt) $
        sets_last ! (agg ! (and_then ! (lit ! tt) (and_then ! (get ! refl) (no_more !)))) refl (Answer-typed false 0 0) $
        exec ! 𝓣.C 𝓣.Λ En (after 6 (here Z).body) (at_ret En Post) $ sets ! (of_opd ! (get ! refl)) refl (Answer-typed false 0 0) $
        returns ! (look_at ! 0 refl) $ free_all ! refl $ keep ! (0 ∷ 1 ∷ 2 ∷ []) $
        suffices ! _
        (ends_at 𝓛 (ended Z) (stayed Z) held bound (answer_val false 0 0) (Err (record {})) (tt, (tt, (tt, tt))) (tt, (tt, (tt, tt)))) $
        use0 𝓛 (‵ (Answer.own_val (Err (record {})) (answer_val false 0 0 ∷ []))) (Answer-err 𝓛) $
        nothing ! $ nothing ! $ fjoin ! $ nothing ! $ fjoin ! $ nothing ! $ fjoin ! $ join ! $
        move ! (2 ∷ 3 ∷ []) $ join ! $ join ! $ done !)))))))))

pub allocate_spec : {M : Type 1} → statement M
unfolding tables_of
allocate_spec 𝓤 𝓛 𝓜 𝓡 wired Y L g d drops met _ =
    let Z : Al = record { row = Y; laws = L; g = g; d = d; drops = drops } in
    let 𝓣 : Tables 𝓤 𝓛.H = tables_of 𝓤 𝓛.H 𝓜 (tables 𝓤 𝓛.H 𝓜 𝓡 𝓡.env) in
    let clauses = told.clauses Y g d drops 𝓛 𝓜.mem 𝓡.returns in
    let Goes = WpFn 𝓤 𝓛.H 𝓣.C 𝓣.Λ (here Z) in
    entered 𝓤 𝓛.H (triple_of 𝓛 (told.signature Y) (told.spec Y g d drops 𝓛 𝓜.mem 𝓡.returns)) 𝓣.C 𝓣.Λ
    (key.name (the_args Z)) (here Z) (code.unfolded 𝓤 𝓛.H 𝓜 𝓡 wired (Y, tt) d drops)
    (walk_Meets 𝓛 (ended Z) (stayed Z) (
      Goes-dropped 𝓛 2 (the_self Z) yes (λ κs x f. refl),
      (Goes-dropped 𝓛 2 (plain (λ _. usize)) yes (λ κs x f. refl), (Goes-dropped 𝓛 2 (plain (λ _. usize)) yes (λ κs x f. refl), tt)),
    )
    clauses Goes (WpFn-mono 𝓤 𝓛.H 𝓛.laws 𝓣 (here Z))
    (walked 𝓛 (ended Z) (stayed Z) clauses Goes
    (λ κs. (shr_vals, (uint_vals w64, (uint_vals w64, tt))))
    (λ κs. ((λ r vs s. s.0), (uint_Tells w64, (uint_Tells w64, tt))))
    (λ κs qs bounds a τ are.
    walk Z 𝓛 𝓜.mem 𝓡.returns 𝓣 (met.allocate drops)
    (cited 𝓤 𝓛.H _ 𝓜 𝓡 𝓡.env refuses_symbol.name (𝓡.env refuses_symbol.name) refl
    (refuses_met.met 𝓤 𝓛 𝓜 𝓡 (code.calls-test_refusing::refuses 𝓡.env wired)))
    (cited 𝓤 𝓛.H _ 𝓜 𝓡 𝓡.env count_symbol.name (𝓡.env count_symbol.name) refl
    (count_met.met 𝓤 𝓛 𝓜 𝓡 (code.calls-test_refusing::count 𝓡.env wired)))
    κs.0 κs.1.0 qs.0 qs.1.0 bounds.0 a.0 a.1.0 a.1.1.0 τ are.1.0.1 are.1.1.0.1)))
