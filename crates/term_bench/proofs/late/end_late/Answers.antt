use Rattle.std.proofs.Common.{arith, get_or, ◌≡◌, ◌<◌, ◌∙◌, ap, sym, length, List, ℕ, ◌==◌, false, Some, slice_get}
use Rattle.std.proofs.lemmas.Bool.{ne_eqb}
use Rattle.std.proofs.lemmas.Option.{get_or_from_slice_get}
use Rattle.set_model.specs.History.{LinkSet}
use Rattle.set_model.specs.State.{late_at}
use Rattle.term_bench.specs.Ends.{AtLink, told_at}
use Rattle.term_bench.specs.Late.{is_out}
use Rattle.link_term.specs.States.{state_of}
use Rattle.term_bench.proofs.BenchLemmas.{here_now, is_ended, is_out_already, not_late, one_ended, one_kept, there_is}
use Rattle.term_bench.proofs.LateLemmas.{none_ended}
use Rattle.term_model.specs.declared.command.Command.{Command}
use Rattle.term_bench.proofs.late.end_late.Goals as goal
use Rattle.term_bench.proofs.late.end_late.Goals.{then-late-before-via-then-late-before, then-late-before-via-else-late-before+then-is_out}

pub returns-then-not-is_ordered : goal.returns-then-not-is_ordered
returns-then-not-is_ordered c = λ s counts.
    sym (none_ended s c.args.door.now.set.state c.args.door.now.late c.args.links.now counts (c.is_ordered.ensures c.if-not-is_ordered.true) c.requires)

pub loop-place-preserved-then-late-before : goal.loop-place-preserved-then-late-before
loop-place-preserved-then-late-before c = λ s counts.
    let xs = c.args.links.now in
    let t = c.args.door.now.set.state in
    let i = c.loop-place.place in
    let few : i < length xs = omega (arith, c.loop-place-test.true) in
    let at = there_is xs i few in
    let before = c.late-before.result.now in
    let told : slice_get before i ≡ Some (late_at i s) =
    ap (λ (ns : List ℕ). slice_get ns i) c.late-before.ensures ∙ counts i (omega (arith, few, c.requires)) in
    let read : get_or before i 0 ≡ late_at i s = get_or_from_slice_get before i (late_at i s) 0 told in
    let heard : c.late.result ≡ late_at i t = c.late.ensures ∙ ap (λ (set : LinkSet). late_at i set.state) c.set-set.ensures in
    let done = c.loop-place.invariant s counts in
    let here = here_now s t xs c.loop-place.links i at.0 at.1 done in
    let got : (d : AtLink) → get_or c.loop-place.links i d ≡ at.0 = λ d. get_or_from_slice_get c.loop-place.links i at.0 d here in
    one_kept s t xs c.loop-place.links i at.0 at.1 done (elim c.then-late-before.branch [
      | then-late-before-via-then-late-before w ↦ not_late i s t at.0 (sym heard ∙ w.if-late-before.true ∙ read)
      | then-late-before-via-else-late-before+then-is_out w ↦ is_out_already i s t at.0 (ap (λ (a : AtLink). is_out (state_of a.terminal)) (sym (got w.index-links-place.result)) ∙ sym w.is_out.ensures ∙ w.if-is_out.true)
    ])

differ : (x y a b : ℕ) → a ≡ x → b ≡ y → (a ≡ b → ⊥) → (x == y) ≡ false
differ x y a b is was e = rw (← is, ← was) (ne_eqb a b e)

pub loop-place-preserved : goal.loop-place-preserved
loop-place-preserved c = λ s counts.
    let xs = c.args.links.now in
    let t = c.args.door.now.set.state in
    let i = c.loop-place.place in
    let few : i < length xs = omega (arith, c.loop-place-test.true) in
    let at = there_is xs i few in
    let before = c.late-before.result.now in
    let told : slice_get before i ≡ Some (late_at i s) =
    ap (λ (ns : List ℕ). slice_get ns i) c.late-before.ensures ∙ counts i (omega (arith, few, c.requires)) in
    let read : get_or before i 0 ≡ late_at i s = get_or_from_slice_get before i (late_at i s) 0 told in
    let heard : c.late.result ≡ late_at i t = c.late.ensures ∙ ap (λ (set : LinkSet). late_at i set.state) c.set-set.ensures in
    let done = c.loop-place.invariant s counts in
    let here = here_now s t xs c.loop-place.links i at.0 at.1 done in
    let got : (d : AtLink) → get_or c.loop-place.links i d ≡ at.0 = λ d. get_or_from_slice_get c.loop-place.links i at.0 d here in
    let ended = is_ended i s t at.0 (differ (late_at i t) (late_at i s) c.late.result (get_or before i 0) heard read c.if-late-before.false) (ap (λ (a : AtLink). is_out (state_of a.terminal)) (sym (got c.index-links-place.result)) ∙ sym c.is_out.ensures ∙ c.if-is_out.false) in
    one_ended s t xs c.loop-place.links i at.0 at.1 done c.command.new.self (c.command.ensures ∙ ap (told_at Command.Stop) (got c.index-links-place-in-loop-place.result) ∙ sym ended)
