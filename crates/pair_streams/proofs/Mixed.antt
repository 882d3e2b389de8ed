-- A LIST IN TWO PARTS, each in its order: what is kept of it, and what is lost. `mixed_none` says that what is kept is
-- all where nothing is lost, `mixed_part` that it's a part in order, `mixed_among` that each message is in one of the
-- two; `mixed_last` is of one more that is kept, and `fewer` of some in the middle that are lost after all. Each is an
-- induction on the whole list, which tells of each message to which part it went; states don't occur. Codes.antt says
-- with it what becomes of a stream; Flows.antt, Given.antt and Runs.antt use the lemmas.
use Rattle.std.proofs.Common.{refl, ◌≡◌, ◌∙◌, ap, sym, subst, List, [], ◌∷◌, ◌++◌, ◌⊎◌, inl, inr}
use Rattle.pair_model.specs.Run.{Message}
use Rattle.pair_changeover.proofs.Views.{Among}
use Rattle.pair_streams.specs.Streams.{IsPart}

abbrev pub Mixed : List Message → List Message → List Message → Type 0
Mixed kept lost [] = (kept ≡ []) × (lost ≡ [])
Mixed kept lost (m ∷ all) =
    ((rest : List Message) × (kept ≡ m ∷ rest) × Mixed rest lost all)
    ⊎ ((rest : List Message) × (lost ≡ m ∷ rest) × Mixed kept rest all)

-- where nothing is lost it's all
pub mixed_none : (kept all : List Message) → Mixed kept [] all → kept ≡ all
mixed_none kept [] m = m.0
mixed_none kept (z ∷ all) (inl p) = p.1 ∙ ap (λ (q : List Message). z ∷ q) (mixed_none p.0 all p.2)
mixed_none kept (z ∷ all) (inr p) = absurd (let never : [] ≡ z ∷ p.0 = p.1 in cc)

-- one more is kept
pub mixed_last : (kept lost all : List Message) (z : Message) → Mixed kept lost all → Mixed (kept ++ z ∷ []) lost (all ++ z ∷ [])
mixed_last kept lost [] z m = inl ([], ap (λ (q : List Message). q ++ z ∷ []) m.0, (refl, m.1))
mixed_last kept lost (y ∷ all) z (inl p) = inl (p.0 ++ z ∷ [], ap (λ (q : List Message). q ++ z ∷ []) p.1, mixed_last p.0 lost all z p.2)
mixed_last kept lost (y ∷ all) z (inr p) = inr (p.0, p.1, mixed_last kept p.0 all z p.2)

-- each is kept or lost
pub mixed_among : (m : Message) (kept lost all : List Message) → Mixed kept lost all → Among m all → Among m kept ⊎ Among m lost
mixed_among m kept lost [] x a = absurd a
mixed_among m kept lost (z ∷ all) (inl p) (inl e) = inl (subst (Among m) (sym p.1) (inl e))
mixed_among m kept lost (z ∷ all) (inl p) (inr a) = go (mixed_among m p.0 lost all p.2 a)
  where
    go : Among m p.0 ⊎ Among m lost → Among m kept ⊎ Among m lost
    go (inl b) = inl (subst (Among m) (sym p.1) (inr b))
    go (inr b) = inr b
mixed_among m kept lost (z ∷ all) (inr p) (inl e) = inr (subst (Among m) (sym p.1) (inl e))
mixed_among m kept lost (z ∷ all) (inr p) (inr a) = go (mixed_among m kept p.0 all p.2 a)
  where
    go : Among m kept ⊎ Among m p.0 → Among m kept ⊎ Among m lost
    go (inl b) = inl b
    go (inr b) = inr (subst (Among m) (sym p.1) (inr b))

-- what is kept is a part in order
part_further : (part all : List Message) (z : Message) → IsPart part all → IsPart part (z ∷ all)
part_further [] all z p = tt
part_further (m ∷ part) all z p = inr p

pub mixed_part : (kept lost all : List Message) → Mixed kept lost all → IsPart kept all
mixed_part kept lost [] m = subst (λ (q : List Message). IsPart q []) (sym m.0) tt
mixed_part kept lost (z ∷ all) (inl p) = subst (λ (q : List Message). IsPart q (z ∷ all)) (sym p.1) (inl (refl, mixed_part p.0 lost all p.2))
mixed_part kept lost (z ∷ all) (inr p) = part_further kept all z (mixed_part kept p.0 all p.2)

pub part_first : (xs ys all : List Message) → IsPart (xs ++ ys) all → IsPart xs all
part_first [] ys all p = tt
part_first (x ∷ xs) ys [] p = absurd p
part_first (x ∷ xs) ys (z ∷ all) (inl p) = inl (p.0, part_first xs ys all p.1)
part_first (x ∷ xs) ys (z ∷ all) (inr p) = inr (part_first (x ∷ xs) ys all p)

-- MORE IS LOST: some in the middle of what was kept
pub record Fewer (first gone last lost all : List Message) : Type 0 where
  pub lost_then : List Message
  pub mixed : Mixed (first ++ last) lost_then all
  pub of : (m : Message) → Among m lost_then → Among m lost ⊎ Among m gone

none_then : (xs ys zs : List Message) → xs ++ (ys ++ zs) ≡ [] → xs ++ zs ≡ []
none_then [] [] zs e = e
none_then [] (y ∷ ys) zs e = absurd cc
none_then (x ∷ xs) ys zs e = absurd cc

pub fewer : (first gone last lost all : List Message) → Mixed (first ++ (gone ++ last)) lost all → Fewer first gone last lost all
fewer first gone last lost [] m = record { lost_then = []; mixed = (none_then first gone last m.0, refl); of = λ x a. absurd a }
fewer [] [] last lost (z ∷ all) m = record { lost_then = lost; mixed = m; of = λ x a. inl a }
fewer (f ∷ first) gone last lost (z ∷ all) (inl p) =
    let head : f ≡ z = cc in
    let tail : p.0 ≡ first ++ (gone ++ last) = cc in
    let r = fewer first gone last lost all (subst (λ (q : List Message). Mixed q lost all) tail p.2) in
    record {
      lost_then = r.lost_then;
      mixed = inl (first ++ last, ap (λ (x : Message). x ∷ first ++ last) head, r.mixed);
      of = r.of;
    }
fewer [] (g ∷ gone) last lost (z ∷ all) (inl p) =
    let head : g ≡ z = cc in
    let tail : p.0 ≡ gone ++ last = cc in
    let r = fewer [] gone last lost all (subst (λ (q : List Message). Mixed q lost all) tail p.2) in
    record {
      lost_then = z ∷ r.lost_then;
      mixed = inr (r.lost_then, refl, r.mixed);
      of = λ x a. go head r x a;
    }
  where
    go : g ≡ z → (r : Fewer [] gone last lost all) → (x : Message) → Among x (z ∷ r.lost_then) → Among x lost ⊎ Among x (g ∷ gone)
    go head r x (inl e) = inr (inl (e ∙ sym head))
    go head r x (inr a) = cases (r.of x a)
      where
        cases : Among x lost ⊎ Among x gone → Among x lost ⊎ Among x (g ∷ gone)
        cases (inl b) = inl b
        cases (inr b) = inr (inr b)
fewer first gone last lost (z ∷ all) (inr p) =
    let r = fewer first gone last p.0 all p.2 in
    record {
      lost_then = z ∷ r.lost_then;
      mixed = inr (r.lost_then, refl, r.mixed);
      of = λ x a. go r x a;
    }
  where
    go : (r : Fewer first gone last p.0 all) → (x : Message) → Among x (z ∷ r.lost_then) → Among x lost ⊎ Among x gone
    go r x (inl e) = inl (subst (Among x) (sym p.1) (inl e))
    go r x (inr a) = cases (r.of x a)
      where
        cases : Among x p.0 ⊎ Among x gone → Among x lost ⊎ Among x gone
        cases (inl b) = inl (subst (Among x) (sym p.1) (inr b))
        cases (inr b) = inr b
