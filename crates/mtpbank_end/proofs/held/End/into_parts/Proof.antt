-- The handle's fields move, and what they own moves with them.
use mathlib.Core.Path.{refl, sym}
use mathlib.Core.List.{List, [], ◌∷◌, ◌++◌}
use base.Fml.{ftrue}
use base.Logic.{SProp, ent, id⊢}
use contract.Running.{tables}
use denote.Exit.{yes}
use denote.RattleType.{owns}
use denote.Signature.{plain, types_at, type_at}
use denote.Steps.{nothing}
use denote.Triple.Walked.{says, Stays, stay_dropped, walk_of, ends_at, Goes-dropped}
use mathlib.Core.Path.{subst}
use mir.Val.{Val}
use prog.Wp.{WpFn}
use types.ByLocal.{alloc_all, pass_all, free_all, look_at, get, get_in, sets}
use types.Kit.{‵, raw, ◌⊛◌, ◌$◌, ◌∵◌, !, qed, done, move, drop, use1, split, join, fsplit, fjoin, suffices}
use types.Part.{whole, sub, agg}
use types.Run.{enter, of_opd, stop, fld, and_then, no_more, returns}
use Rattle.std.proofs.raw_atomic.Walks.{proved_at}
use Rattle.std_alloc.proofs.BoxSteps.Form.{word, box_typed}
use Rattle.std_alloc.proofs.BoxSteps.Steps.{box_out, box_in}
use Rattle.mtpbank_end.specs.contracts.held.End as End
use Rattle.mtpbank_end.specs.contracts.held.End.into_parts as f
use Rattle.mtpbank_end.proofs.AsBox.{boxed, box_of}
use Rattle.mtpbank_end.proofs.held.End.into_parts.Statement.{statement}
use Rattle.mtpbank_end.proofs.held.End.into_parts.Code as code

abbrev stayed : Stays f.ended.signature.params f.ended.kept
stayed = (stay_dropped (plain (λ _. End.the_row)) yes, tt)

pub into_parts_spec : {M : Type 1} → statement M
into_parts_spec 𝓤 𝓛 𝓜 𝓡 wired =
    let c = f.clauses 𝓛 𝓜.mem 𝓡.returns in let W = walk_of 𝓛 f.ended stayed c in
    let 𝓣 = tables 𝓤 𝓛.H 𝓜 𝓡 𝓡.env in let Parts = type_at f.signature.result tt in
    proved_at 𝓛 f.ended stayed c 𝓜 𝓡 (Goes-dropped 𝓛 0 (plain (λ _. End.the_row)) yes (λ κs x w. refl), tt)
    f.Key.name code.function (code.unfolded 𝓤 𝓛.H 𝓜 𝓡 wired) (λ y are.
    let end = y.0.3.0 in let Runs : List Val → SProp 𝓤 = λ ws. WpFn 𝓤 𝓛.H 𝓣.C 𝓣.Λ code.function ws (W.post y) in
    let parts : Parts.Denot = record { ptr = end.at; alloc = end.alloc; value = end.bench } in
    qed 𝓛 ((‵ ftrue ⊛ ‵ (owns (types_at f.signature.params tt) y.0.3 y.0.4)) ∷ raw ((c tt y.0.3).requires y.1) ∷ []) ∵
    split ! $ drop ! $ fsplit ! $ box_out boxed ! (box_of end) y.0.4.0 (λ b o hv is_at is_word fits.
    let w = word boxed hv b o in let typed = box_typed boxed hv b o fits in
    box_in boxed ! (box_of end) b o end.bench is_at refl $ use1 𝓛 (‵ (Parts.own_val parts (w ∷ []))) (id⊢ 𝓤 _) $
    move ! (1 ∷ 2 ∷ []) $ drop ! $ drop ! $
    -- [what the parts own]
    suffices ! (Runs (w ∷ [])) (subst (λ (ws : List Val). ent 𝓤 (Runs (w ∷ [])) (Runs ws)) (sym (λ i. is_word i ++ [])) (id⊢ 𝓤 (Runs (w ∷ [])))) $
    enter ! 𝓣.C 𝓣.Λ code.function (w ∷ []) (W.post y) $ alloc_all ! (λ l. pass_all ! refl (typed, tt) $
    sets ! (of_opd ! (get_in ! (fld ! refl (stop !)) (sub ! 0 refl (whole !)))) refl (tt, tt) $
    sets ! (of_opd ! (get_in ! (fld ! refl (stop !)) (sub ! 1 refl (whole !)))) refl fits $
    sets ! (of_opd ! (get ! refl)) refl (tt, tt) $
    sets ! (agg ! (and_then ! (get ! refl) (and_then ! (get ! refl) (no_more !)))) refl typed $
    returns ! (look_at ! 0 refl) $ free_all ! refl $
    suffices ! _ (ends_at 𝓛 f.ended stayed c y w parts (tt, tt) (tt, tt)) $ says ! refl $
    nothing ! $ nothing ! $ fjoin ! $ join ! $ nothing ! $ join ! $ done !)))
