-- WHAT IS TOLD OF ONE END is told of the end that a step names (`told_of`), and what new ends and their lines have (`new_joined`).
-- Used by Wires::turn, Wires::ask and Wires::new.
use Rattle.std.proofs.Common.{refl, arith, ◌≡◌, ◌∙◌, ap, subst, sym, ℕ, zero, suc, ◌+◌, List, length, map, Result, IfOk}
use Rattle.std.proofs.lemmas.List.{length-map, length_push}
use Rattle.pair_steps.specs.declared.step.End.{End}
use Rattle.term_bench.specs.Ends.{BenchState, new_bench, new_link, new_links}
use Rattle.term_model.specs.declared.timers.Timers.{Timers}
use Rattle.pair_octets.specs.Wires.{Wires, Sides, seen_from, AreFitting, AreJoined, idle_line, new_wires}
use Rattle.pair_octets.specs.declared.fault.StepFault.{StepFault}
use Rattle.pair_octets.specs.declared.step.EndConfig.{EndConfig}
use Rattle.pair_octets.specs.declared.step.LineLengths.{LineLengths}

pub told_of : {T : Type 0} (result : Result T StepFault) (P : Sides → Sides → T → Type 0) (end side : End) (old was new : Wires)
    → end ≡ side → was ≡ old → IfOk result (λ t. P (seen_from side was) (seen_from side new) t)
    → IfOk result (λ t. P (seen_from end old) (seen_from end new) t)
told_of result P end side old was new is view given =
    subst (λ (d : End). IfOk result (λ t. P (seen_from d old) (seen_from d new) t)) (sym is)
    (subst (λ (w : Wires). IfOk result (λ t. P (seen_from side w) (seen_from side new) t)) view given)

pub length-new_links : (lengths : Timers) (n : ℕ) → length (new_links lengths n) ≡ n
length-new_links lengths zero = refl
length-new_links lengths (suc n) =
    let more : n + 1 ≡ suc n = omega arith in
    length_push (new_links lengths n) (new_link lengths n) ∙ ap (λ k. k + 1) (length-new_links lengths n) ∙ more

pub new_joined : (a b : EndConfig) (lengths : List LineLengths) → AreFitting a b lengths → AreJoined (new_wires a b lengths)
new_joined a b lengths fitting = record {
  links_b = length-new_links b.timers b.set.links ∙ sym fitting.links ∙ sym (length-new_links a.timers a.set.links);
  lines_a = length-map lengths (λ (line : LineLengths). idle_line line.to_a) ∙ fitting.lines ∙ sym (length-new_links a.timers a.set.links);
  lines_b = length-map lengths (λ (line : LineLengths). idle_line line.to_b) ∙ fitting.lines ∙ sym (length-new_links a.timers a.set.links);
}

pub joined_so : (a b : EndConfig) (lengths : List LineLengths) (x y : BenchState) (p q : List (List ℕ)) → AreFitting a b lengths
    → x ≡ new_bench a.set a.timers → y ≡ new_bench b.set b.timers → p ≡ map (λ line. idle_line line.to_a) lengths
    → q ≡ map (λ line. idle_line line.to_b) lengths → AreJoined (record { a = x; b = y; to_a = p; to_b = q })
joined_so a b lengths x y p q fitting is_x is_y is_p is_q =
    let all = new_joined a b lengths fitting in record {
      links_b = ap (λ (e : BenchState). length e.links) is_y ∙ all.links_b ∙ sym (ap (λ (e : BenchState). length e.links) is_x);
      lines_a = ap (λ (ls : List (List ℕ)). length ls) is_p ∙ all.lines_a ∙ sym (ap (λ (e : BenchState). length e.links) is_x);
      lines_b = ap (λ (ls : List (List ℕ)). length ls) is_q ∙ all.lines_b ∙ sym (ap (λ (e : BenchState). length e.links) is_x);
    }
