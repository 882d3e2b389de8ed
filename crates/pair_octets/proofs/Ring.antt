-- A LOOP IS A RING: each line keeps order (`fifo`, by induction on the turns), so what an end took, and then what is under
-- way to it, is what was under way at first and then what the other put. The rest is arithmetic on places.
use Rattle.std.proofs.Common.{refl, arith, ◌≡◌, ◌∙◌, ap, sym, ℕ, zero, suc, ◌+◌, List, [], ◌∷◌, ◌++◌, length, map, slice_get, Some, append_assoc, length-append}
use Rattle.std.proofs.lemmas.List.{append-nil, map-append, length-map}
use Rattle.std.proofs.lemmas.Option.{same_Some, slice_get-map}
use Rattle.std.specs.Option.{option_map}
use Rattle.pair_octets.specs.Ring.{Turn, Loop, flip, Turns, Run, begins, turns, turns_far, IsRing, LoopsAreRings}

abbrev taken : List Turn → List ℕ
taken some = map (λ (t : Turn). t.took) some

abbrev put_by : List Turn → List ℕ
put_by some = map (λ (t : Turn). t.put) some

-- each line keeps order
record Fifo (a b : List ℕ) (l : Loop) : Type 0 where
  pub near : taken l.near ++ l.to_near ≡ a ++ put_by l.far
  pub far : taken l.far ++ l.to_far ≡ b ++ put_by l.near

one_more : (a b : List ℕ) (turn : Turn) (old new : Loop) → Fifo a b old → Turns turn old new → Fifo a b new
one_more a b turn old new f t = record {
  near = ap (λ (ts : List Turn). taken ts ++ new.to_near) t.near
      ∙ ap (λ (os : List ℕ). os ++ new.to_near) (map-append (λ (t : Turn). t.took) old.near (turn ∷ []))
      ∙ append_assoc (taken old.near) (turn.took ∷ []) new.to_near
      ∙ ap (λ (os : List ℕ). taken old.near ++ os) (sym t.takes)
      ∙ f.near
      ∙ ap (λ (ts : List Turn). a ++ put_by ts) (sym t.far);
  far = ap (λ (ts : List Turn). taken ts ++ new.to_far) t.far
      ∙ ap (λ (os : List ℕ). taken old.far ++ os) t.puts
      ∙ sym (append_assoc (taken old.far) old.to_far (turn.put ∷ []))
      ∙ ap (λ (os : List ℕ). os ++ turn.put ∷ []) f.far
      ∙ append_assoc b (put_by old.near) (turn.put ∷ [])
      ∙ ap (λ (os : List ℕ). b ++ os) (sym (map-append (λ (t : Turn). t.put) old.near (turn ∷ [])))
      ∙ ap (λ (ts : List Turn). b ++ put_by ts) (sym t.near);
}

fifo_back : (a b : List ℕ) (l : Loop) → Fifo a b l → Fifo b a (flip l)
fifo_back a b l f = record { near = f.far; far = f.near }

fifo : (a b : List ℕ) (l : Loop) → Run a b l → Fifo a b l
fifo a b _ (begins l x y n m) = record {
  near = rw (n, m, x) (sym (append-nil a));
  far = rw (n, m, y) (sym (append-nil b));
}
fifo a b _ (turns turn old new r t) = one_more a b turn old new (fifo a b old r) t
fifo a b _ (turns_far turn old new r t) =
    fifo_back b a (flip new) (one_more b a turn (flip old) (flip new) (fifo_back a b old (fifo a b old r)) t)

-- places
get_more : (xs ys : List ℕ) (i x : ℕ) → slice_get xs i ≡ Some x → slice_get (xs ++ ys) i ≡ Some x
get_more [] ys i x e = absurd cc
get_more (y ∷ xs) ys zero x e = e
get_more (y ∷ xs) ys (suc i) x e = get_more xs ys i x e

get_behind : (xs ys : List ℕ) (i : ℕ) → slice_get (xs ++ ys) (length xs + i) ≡ slice_get ys i
get_behind [] ys i = let same : 0 + i ≡ i = omega arith in ap (λ (n : ℕ). slice_get ys n) same
get_behind (x ∷ xs) ys i =
    let same : suc (length xs) + i ≡ suc (length xs + i) = omega arith in
    ap (λ (n : ℕ). slice_get (x ∷ (xs ++ ys)) n) same ∙ get_behind xs ys i

-- the turn of which this was put
of_put : (some : List Turn) (i x : ℕ) → slice_get (put_by some) i ≡ Some x
    → (t : Turn) × (slice_get some i ≡ Some t) × (t.put ≡ x)
of_put [] i x e = absurd cc
of_put (t ∷ some) zero x e = (t, refl, same_Some t.put x e)
of_put (t ∷ some) (suc i) x e = of_put some i x e

same_turn : (t : Turn) (x y : ℕ) → t.took ≡ x → t.put ≡ y → t ≡ record { took = x; put = y }
same_turn t x y a b = rw (← a, ← b) refl

module _ (a b : List ℕ) (l : Loop) (f : Fifo a b l) where
  many : length l.to_near + length l.to_far ≡ length a + length b
  many =
      let one = ap (λ (os : List ℕ). length os) f.near in
      let two = ap (λ (os : List ℕ). length os) f.far in
      omega (
        arith,
        one,
        two,
        length-append (taken l.near) l.to_near,
        length-append a (put_by l.far),
        length-append (taken l.far) l.to_far,
        length-append b (put_by l.near),
        length-map l.near (λ (t : Turn). t.took),
        length-map l.far (λ (t : Turn). t.took),
        length-map l.near (λ (t : Turn). t.put),
        length-map l.far (λ (t : Turn). t.put),
      )

  echoes : (i : ℕ) (turn later : Turn) → slice_get l.near i ≡ Some turn
      → slice_get l.near (length a + length b + i) ≡ Some later
      → slice_get l.far (length b + i) ≡ Some (record { took = turn.put; put = later.took })
  echoes i turn later here there =
      let place : length a + length b + i ≡ length a + (length b + i) = omega arith in
      let came : slice_get (put_by l.far) (length b + i) ≡ Some later.took =
      sym (get_behind a (put_by l.far) (length b + i))
      ∙ ap (λ (os : List ℕ). slice_get os (length a + (length b + i))) (sym f.near)
      ∙ get_more (taken l.near) l.to_near (length a + (length b + i)) later.took
      (slice_get-map (λ (t : Turn). t.took) l.near (length a + (length b + i))
      ∙ ap (λ (n : ℕ). option_map (λ (t : Turn). t.took) (slice_get l.near n)) (sym place)
      ∙ ap (option_map (λ (t : Turn). t.took)) there) in
      let of = of_put l.far (length b + i) later.took came in
      let first : slice_get (taken l.far ++ l.to_far) (length b + i) ≡ Some of.0.took =
      get_more (taken l.far) l.to_far (length b + i) of.0.took
      (slice_get-map (λ (t : Turn). t.took) l.far (length b + i) ∙ ap (option_map (λ (t : Turn). t.took)) of.1) in
      let second : slice_get (taken l.far ++ l.to_far) (length b + i) ≡ Some turn.put =
      ap (λ (os : List ℕ). slice_get os (length b + i)) f.far
      ∙ get_behind b (put_by l.near) i
      ∙ slice_get-map (λ (t : Turn). t.put) l.near i
      ∙ ap (option_map (λ (t : Turn). t.put)) here in
      let same : of.0.took ≡ turn.put = same_Some of.0.took turn.put (sym first ∙ second) in
      of.1 ∙ ap (λ (t : Turn). Some t) (same_turn of.0 turn.put later.took same of.2)

  is_ring : IsRing a b l
  is_ring = record { as_many = many; echo = echoes }

pub loops_are_rings : LoopsAreRings
loops_are_rings a b l r =
    let f = fifo a b l r in
    (is_ring a b l f, is_ring b a (flip l) (fifo_back a b l f))
