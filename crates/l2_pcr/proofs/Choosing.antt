-- What is chosen and sent, told as what is sent next.
use Rattle.std.proofs.Common.{refl, arith, ◌≡◌, ◌≢◌, ◌∙◌, ap, sym, ◌⊎◌, inl, inr, ◌<◌, [], ◌∷◌, length, List, ℕ, ◌+◌, Bool, true, false, not, ◌&&◌, nat_lt}
use Rattle.std.specs.Prelude.{slice_get, Some, if◌then◌else◌}
use Rattle.std.proofs.lemmas.Bool.{ltb-true}
use Rattle.std.proofs.lemmas.Bool.Decides.{nat_tests}
use Rattle.l2_units.specs.declared.unit.Header.{Header}
use Rattle.l2_window.specs.Window.{WindowState, Sends, fsn_at, last_fsn, fsn_count, most_unacked}
use Rattle.l2_window.specs.Control.{fsn_of, bsn_of}
use Rattle.l2_window.proofs.Numbers.{below as in_cycle, in_header, some_most}
use Rattle.l2_window.specs.declared.control.Choice.{Choice}
use Rattle.l2_window.specs.declared.control.Choice.TheVariants.{Again, First, Fill}
use Rattle.l2_window.specs.declared.control.Sending.TheVariants.{Message, Fill as FillWith}
use Rattle.l2_pcr.specs.Pcr.{PcrState, is_forced, cycle_place, round, choice_of, head_of, control_after, IsHead, Repeats, IsNext}

abbrev IsAgain : (x y z v : Bool) (p q place : ℕ) → Type 0
IsAgain x y z v p q place = ((x ≡ true) × (place ≡ p)) ⊎ ((x ≡ false) × ((y && z) ≡ false) × (v ≡ true) × (place ≡ q))

again_at : (x y z v : Bool) (p q place : ℕ) → (if x then Again p else (if y && z then First else (if v then Again q else Fill))) ≡ Again place → IsAgain x y z v p q place
again_at true y z v p q place e = inl (refl, cc)
again_at false true true v p q place e = absurd cc
again_at false true false true p q place e = inr (refl, refl, refl, cc)
again_at false true false false p q place e = absurd cc
again_at false false z true p q place e = inr (refl, refl, refl, cc)
again_at false false z false p q place e = absurd cc

pub first_at : (x y z v : Bool) (p q : ℕ) → (if x then Again p else (if y && z then First else (if v then Again q else Fill))) ≡ First → (x ≡ false) × (y ≡ true) × (z ≡ true)
first_at true y z v p q e = absurd cc
first_at false true true v p q e = (refl, refl, refl)
first_at false true false true p q e = absurd cc
first_at false true false false p q e = absurd cc
first_at false false z true p q e = absurd cc
first_at false false z false p q e = absurd cc

fill_at : (x y z v : Bool) (p q : ℕ) → (if x then Again p else (if y && z then First else (if v then Again q else Fill))) ≡ Fill → (x ≡ false) × ((y && z) ≡ false) × (v ≡ false)
fill_at true y z v p q e = absurd cc
fill_at false true true v p q e = absurd cc
fill_at false true false true p q e = absurd cc
fill_at false true false false p q e = (refl, refl, refl)
fill_at false false z true p q e = absurd cc
fill_at false false z false p q e = (refl, refl, refl)

some : (xs : List ℕ) → xs ≢ [] → nat_lt 0 (length xs) ≡ true
some [] d = absurd (d refl)
some (x ∷ xs) d = grind (arith, nat_tests)

round_in : (n place : ℕ) → 0 < n → round n place < n
round_in n place some = go (nat_lt place n) refl
  where
    go : (b : Bool) → nat_lt place n ≡ b → round n place < n
    go true e = let low : place < n = ltb-true place n e in rw e low
    go false e = rw e some

cycle_in : (starts : Bool) (s : PcrState) (w : WindowState) → 0 < length w.unacked → cycle_place starts s w < length w.unacked
cycle_in true s w some = some
cycle_in false s w some = round_in (length w.unacked) s.place some

and_left : (x y : Bool) → (x && y) ≡ true → x ≡ true
and_left true y e = refl
and_left false y e = absurd cc

-- what is sent again is an unacknowledged message
pub again_within : (o : ℕ) (s : PcrState) (w : WindowState) (place : ℕ) → choice_of o s w ≡ Again place → place < length w.unacked
again_within o s w place e = go (again_at (is_forced s w o) (nat_lt 0 (length w.unsent)) (nat_lt (length w.unacked) (most_unacked w.profile)) (nat_lt 0 (length w.unacked)) (cycle_place (not s.forced) s w) (cycle_place false s w) place e)
  where
    go : IsAgain (is_forced s w o) (nat_lt 0 (length w.unsent)) (nat_lt (length w.unacked) (most_unacked w.profile)) (nat_lt 0 (length w.unacked)) (cycle_place (not s.forced) s w) (cycle_place false s w) place → place < length w.unacked
    go (inl (forced, same)) =
        let more : 0 < length w.unacked = ltb-true 0 (length w.unacked) (and_left (nat_lt 0 (length w.unacked)) _ forced) in
        rw same (cycle_in (not s.forced) s w more)
    go (inr (calm, none, waits, same)) = rw same (cycle_in false s w (ltb-true 0 (length w.unacked) waits))

headed : (s : PcrState) (w : WindowState) (n : ℕ) (h : Header) → h.bsn ≡ bsn_of s.expected w → n < fsn_count w.profile → h ≡ head_of s w n → IsHead s w n h
headed s w n h bsn low e = record {
  bsn = bsn;
  bib = ap (λ (k : Header). k.bib) e;
  fsn = ap (λ (k : Header). k.fsn) e ∙ in_header w.profile n low;
  fib = ap (λ (k : Header). k.fib) e;
}

module _ (o : ℕ) (s s' : PcrState) (w w' : WindowState) (choice : Choice) (h : Header) (bsn : h.bsn ≡ bsn_of s.expected w) (e : choice ≡ choice_of o s w) (head : h ≡ head_of s w (fsn_of choice w)) (after : s' ≡ control_after choice o s w) where
  pub next_again : (place m : ℕ) → choice ≡ Again place → slice_get w.unacked place ≡ Some m → w' ≡ w → IsNext o s s' w w' (Message m h)
  next_again place m f at same = go (again_at (is_forced s w o) (nat_lt 0 (length w.unsent)) (nat_lt (length w.unacked) (most_unacked w.profile)) (nat_lt 0 (length w.unacked)) (cycle_place (not s.forced) s w) (cycle_place false s w) place (sym e ∙ f))
    where
      head' : h ≡ head_of s w (fsn_at w place)
      head' = rw f at head

      after' : s' ≡ record s { place = round (length w.unacked) (place + 1); forced = is_forced s w o && nat_lt (place + 1) (length w.unacked) }
      after' = rw f at after

      repeats : (p : ℕ) (b : Bool) → place ≡ p → (is_forced s w o && nat_lt (place + 1) (length w.unacked)) ≡ b → Repeats p b s s' w w' m h
      repeats p b c d = record {
        at_place = rw (← c) at;
        header = headed s w _ h bsn (in_cycle w.profile _) (rw (← c) head');
        moves_on = rw (← c, ← d) after';
        same_window = same;
      }

      go : IsAgain (is_forced s w o) (nat_lt 0 (length w.unsent)) (nat_lt (length w.unacked) (most_unacked w.profile)) (nat_lt 0 (length w.unacked)) (cycle_place (not s.forced) s w) (cycle_place false s w) place → IsNext o s s' w w' (Message m h)
      go (inl (forced, here)) = record {
        forced = λ q. repeats (cycle_place (not s.forced) s w) _ here (rw (forced, here) refl);
        sends = λ q. absurd (let g : true ≡ false = sym forced ∙ q in cc);
        cyclic = λ q. absurd (let g : true ≡ false = sym forced ∙ q in cc);
        full = λ q. absurd (let g : true ≡ false = sym forced ∙ q in cc);
        idle = λ q. absurd (let g : true ≡ false = sym forced ∙ q in cc);
      }
      go (inr (calm, none, waits, here)) = record {
        forced = λ q. absurd (let g : true ≡ false = sym q ∙ calm in cc);
        sends = λ q d few. (let y = some w.unsent d in
            let z : nat_lt (length w.unacked) (most_unacked w.profile) ≡ true = grind (arith, nat_tests) in
            absurd (let g : (true && true) ≡ false = rw (y, z) at none in cc));
        cyclic = λ q d more. repeats (cycle_place false s w) false here (rw calm refl);
        full = λ q many. repeats (cycle_place false s w) false here (rw calm refl);
        idle = λ q d f. absurd (let more : 0 < length w.unacked = ltb-true 0 (length w.unacked) waits in omega (arith, ap length f, more));
      }

  pub next_first : (m : ℕ) → choice ≡ First → Sends m w w' → IsNext o s s' w w' (Message m h)
  next_first m f sends =
      let t = first_at (is_forced s w o) (nat_lt 0 (length w.unsent)) (nat_lt (length w.unacked) (most_unacked w.profile)) (nat_lt 0 (length w.unacked)) (cycle_place (not s.forced) s w) (cycle_place false s w) (sym e ∙ f) in
      let waits : 0 < length w.unsent = ltb-true 0 (length w.unsent) t.1 in
      let few : length w.unacked < most_unacked w.profile = ltb-true (length w.unacked) (most_unacked w.profile) t.2 in
      let head' : h ≡ head_of s w (fsn_at w (length w.unacked)) = rw f at head in
      let after' : s' ≡ s = rw f at after in
      record {
        forced = λ q. absurd (let g : true ≡ false = sym q ∙ t.0 in cc);
        sends = λ q d p. record { first_unsent = sends; header = headed s w _ h bsn (in_cycle w.profile _) head'; same_control = after' };
        cyclic = λ q d p. absurd (omega (arith, ap length d, waits));
        full = λ q p. absurd (omega (arith, p, few));
        idle = λ q d p. absurd (omega (arith, ap length d, waits));
      }

  pub next_fill : choice ≡ Fill → w' ≡ w → IsNext o s s' w w' (FillWith h)
  next_fill f same =
      let t = fill_at (is_forced s w o) (nat_lt 0 (length w.unsent)) (nat_lt (length w.unacked) (most_unacked w.profile)) (nat_lt 0 (length w.unacked)) (cycle_place (not s.forced) s w) (cycle_place false s w) (sym e ∙ f) in
      let head' : h ≡ head_of s w (last_fsn w) = rw f at head in
      let after' : s' ≡ s = rw f at after in
      let empty : (0 < length w.unacked) → ⊥ = λ p. (let more : nat_lt 0 (length w.unacked) ≡ true = grind (arith, nat_tests) in let g : true ≡ false = sym more ∙ t.2 in absurd cc) in
      record {
        forced = λ q. absurd (let g : true ≡ false = sym q ∙ t.0 in cc);
        sends = λ q d few. (let y = some w.unsent d in
            let z : nat_lt (length w.unacked) (most_unacked w.profile) ≡ true = grind (arith, nat_tests) in
            absurd (let g : (true && true) ≡ false = rw (y, z) at t.1 in cc));
        cyclic = λ q d p. absurd (empty p);
        full = λ q p. absurd (empty (omega (arith, p, some_most w.profile)));
        idle = λ q d p. record { header = headed s w _ h bsn (in_cycle w.profile _) head'; same_control = after'; same_window = same };
      }
