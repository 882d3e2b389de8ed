-- Links that level 3 keeps: a new end's, and one that is looked up by its index.
use Rattle.std.proofs.Common.{refl, sym, ap, subst, arith, ◌≡◌, ◌∙◌, ◌<◌, ℕ, zero, suc, ◌+◌, List, [], ◌∷◌, ◌++◌, length, length-append, add-one, Some, get_or, slice_get, slice_set}
use Rattle.std.proofs.lemmas.Option.{slice_get-get_or}
use Rattle.l3_link.specs.declared.times.Times.{Times}
use Rattle.term_bench.specs.Ends.{BenchState, new_link, new_links}
use Rattle.term_managed.specs.Ends.{ManagedState, all_fresh, fresh_kept}
use Rattle.term_managed.specs.declared.kept.Kept.{Kept}
use Rattle.term_model.specs.declared.timers.Timers.{Timers}

pub one_more : (times : Times) (made : List Kept) (last : Kept) (n : ℕ) → made ≡ all_fresh times n → last ≡ fresh_kept times
    → made ++ last ∷ [] ≡ all_fresh times (n + 1)
one_more times made last n are is =
    ap (λ (ks : List Kept). ks ++ last ∷ []) are ∙ ap (λ (k : Kept). all_fresh times n ++ k ∷ []) is
    ∙ sym (ap (λ m. all_fresh times m) (add-one n))

pub so_many_fresh : (times : Times) (n : ℕ) → length (all_fresh times n) ≡ n
so_many_fresh times zero = refl
so_many_fresh times (suc n) =
    length-append (all_fresh times n) (fresh_kept times ∷ []) ∙ ap (λ k. k + 1) (so_many_fresh times n) ∙ omega arith

pub so_many_links : (lengths : Timers) (n : ℕ) → length (new_links lengths n) ≡ n
so_many_links lengths zero = refl
so_many_links lengths (suc n) =
    length-append (new_links lengths n) (new_link lengths n ∷ []) ∙ ap (λ k. k + 1) (so_many_links lengths n) ∙ omega arith

-- the end that has these
abbrev pub end_of : BenchState → List Kept → ManagedState
end_of bench kept = record { bench = bench; kept = kept }

pub below_kept : (s : ManagedState) (bench : BenchState) (kept : List Kept) (link : ℕ) → end_of bench kept ≡ s
    → length kept ≡ length bench.links → link < length s.bench.links → link < length kept
below_kept s bench kept link view same below =
    subst (λ n. link < n) (sym same) (subst (λ (m : ManagedState). link < length m.bench.links) (sym view) below)

pub kept_size : (s : ManagedState) (bench : BenchState) (kept : List Kept) → end_of bench kept ≡ s → length kept ≡ length bench.links
    → length s.kept ≡ length s.bench.links
kept_size s bench kept view same = subst (λ (m : ManagedState). length m.kept ≡ length m.bench.links) view same

-- what is kept of the link that is looked up by its index
pub kept_at : (s : ManagedState) (bench : BenchState) (kept : List Kept) (index link : ℕ) (was : Kept) → end_of bench kept ≡ s
    → length kept ≡ length bench.links → index ≡ link → link < length s.bench.links → was ≡ get_or kept index was
    → slice_get s.kept link ≡ Some was
kept_at s bench kept index link was view same is below read =
    let there : slice_get kept index ≡ Some was =
    slice_get-get_or kept index was (subst (λ n. n < length kept) (sym is) (below_kept s bench kept link view same below))
    ∙ ap (λ (k : Kept). Some k) (sym read) in
    subst (λ n. slice_get s.kept n ≡ Some was) is (subst (λ (m : ManagedState). slice_get m.kept index ≡ Some was) view there)

pub kept_set : (s : ManagedState) (bench : BenchState) (kept : List Kept) (index link : ℕ) (now : Kept) → end_of bench kept ≡ s
    → index ≡ link → slice_set kept index now ≡ slice_set s.kept link now
kept_set s bench kept index link now view is =
    ap (λ (m : ManagedState). slice_set m.kept index now) view ∙ ap (λ n. slice_set s.kept n now) is
