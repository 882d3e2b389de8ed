-- What is chosen and sent, told as what is sent next; what a heard unit means, told as what it does.
use Rattle.std.proofs.Common.{refl, arith, ◌≡◌, ◌≢◌, ◌∙◌, ap, sym, ◌<◌, ◌≤◌, [], ◌∷◌, length, List, ℕ, ◌+◌, Bool, true, false, ◌&&◌, nat_lt}
use Rattle.std.specs.Prelude.{slice_get, Some, if◌then◌else◌}
use Rattle.std.proofs.lemmas.Bool.{ltb-true}
use Rattle.std.proofs.lemmas.Bool.Decides.{nat_tests}
use Rattle.l2_units.specs.declared.unit.Header.{Header}
use Rattle.l2_window.specs.Window.{WindowState, Sends, fsn_at, last_fsn, fsn_count, most_unacked}
use Rattle.l2_window.specs.Control.{fsn_of, bsn_of}
use Rattle.l2_window.proofs.Numbers.{below as in_cycle, in_header}
use Rattle.l2_window.specs.declared.control.Choice.{Choice}
use Rattle.l2_window.specs.declared.control.Choice.TheVariants.{Again, First, Fill}
use Rattle.l2_window.specs.declared.control.HeardPart.{HeardPart}
use Rattle.l2_window.specs.declared.control.Sending.TheVariants.{Message, Fill as FillWith}
use Rattle.l2_basic.specs.Basic.{BasicState, choice_of, head_of, control_after, part_of, control_heard, window_heard, IsHead, IsNext, Hears}

pub again_at : (x y z : Bool) (p place : ℕ) → (if x then Again p else (if y && z then First else Fill)) ≡ Again place → (x ≡ true) × (place ≡ p)
again_at true y z p place e = (refl, cc)
again_at false true true p place e = absurd cc
again_at false true false p place e = absurd cc
again_at false false z p place e = absurd cc

pub first_at : (x y z : Bool) (p : ℕ) → (if x then Again p else (if y && z then First else Fill)) ≡ First → (x ≡ false) × (y ≡ true) × (z ≡ true)
first_at true y z p e = absurd cc
first_at false true true p e = (refl, refl, refl)
first_at false true false p e = absurd cc
first_at false false z p e = absurd cc

pub fill_at : (x y z : Bool) (p : ℕ) → (if x then Again p else (if y && z then First else Fill)) ≡ Fill → (x ≡ false) × ((y && z) ≡ false)
fill_at true y z p e = absurd cc
fill_at false true true p e = absurd cc
fill_at false true false p e = (refl, refl)
fill_at false false z p e = (refl, refl)

not_below : (a b : ℕ) → nat_lt a b ≡ false → b ≤ a
not_below a b e = grind (arith, nat_tests)

some : (xs : List ℕ) → xs ≢ [] → nat_lt 0 (length xs) ≡ true
some [] d = absurd (d refl)
some (x ∷ xs) d = grind (arith, nat_tests)

headed : (s : BasicState) (w : WindowState) (n : ℕ) (h : Header) → h.bsn ≡ bsn_of s.expected w → n < fsn_count w.profile → h ≡ head_of s w n → IsHead s w n h
headed s w n h low low' e = record {
  bsn = low;
  bib = ap (λ (k : Header). k.bib) e;
  fsn = ap (λ (k : Header). k.fsn) e ∙ in_header w.profile n low';
  fib = ap (λ (k : Header). k.fib) e;
}

module _ (s s' : BasicState) (w w' : WindowState) (choice : Choice) (h : Header) (low : h.bsn ≡ bsn_of s.expected w) (e : choice ≡ choice_of s w) (head : h ≡ head_of s w (fsn_of choice w)) (after : s' ≡ control_after choice s w) where
  pub next_again : (place m : ℕ) → choice ≡ Again place → slice_get w.unacked place ≡ Some m → w' ≡ w → IsNext s s' w w' (Message m h)
  next_again place m f at same =
      let t = again_at (nat_lt s.cursor (length w.unacked)) (nat_lt 0 (length w.unsent)) (nat_lt (length w.unacked) (most_unacked w.profile)) s.cursor place (sym e ∙ f) in
      let below : s.cursor < length w.unacked = ltb-true s.cursor (length w.unacked) t.0 in
      let head' : h ≡ head_of s w (fsn_at w s.cursor) = rw (f, t.1) at head in
      let after' : s' ≡ record s { cursor = s.cursor + 1 } = rw (f, t.1) at after in
      record {
        repeats = λ p. record { at_cursor = rw (← t.1) at; header = headed s w _ h low (in_cycle w.profile _) head'; moves_on = after'; same_window = same };
        sends = λ p. absurd (omega (arith, p, below));
        idle = λ p. absurd (omega (arith, p, below));
        full = λ p. absurd (omega (arith, p, below));
      }

  pub next_first : (m : ℕ) → choice ≡ First → Sends m w w' → IsNext s s' w w' (Message m h)
  next_first m f sends =
      let t = first_at (nat_lt s.cursor (length w.unacked)) (nat_lt 0 (length w.unsent)) (nat_lt (length w.unacked) (most_unacked w.profile)) s.cursor (sym e ∙ f) in
      let none : length w.unacked ≤ s.cursor = not_below s.cursor (length w.unacked) t.0 in
      let waits : 0 < length w.unsent = ltb-true 0 (length w.unsent) t.1 in
      let few : length w.unacked < most_unacked w.profile = ltb-true (length w.unacked) (most_unacked w.profile) t.2 in
      let head' : h ≡ head_of s w (fsn_at w (length w.unacked)) = rw f at head in
      let after' : s' ≡ record s { cursor = length w.unacked + 1 } = rw f at after in
      record {
        repeats = λ p. absurd (omega (arith, p, none));
        sends = λ p d q. record { first_unsent = sends; header = headed s w _ h low (in_cycle w.profile _) head'; past_it = after' };
        idle = λ p q. absurd (omega (arith, ap length q, waits));
        full = λ p q. absurd (omega (arith, q, few));
      }

  pub next_fill : choice ≡ Fill → w' ≡ w → IsNext s s' w w' (FillWith h)
  next_fill f same =
      let t = fill_at (nat_lt s.cursor (length w.unacked)) (nat_lt 0 (length w.unsent)) (nat_lt (length w.unacked) (most_unacked w.profile)) s.cursor (sym e ∙ f) in
      let none : length w.unacked ≤ s.cursor = not_below s.cursor (length w.unacked) t.0 in
      let head' : h ≡ head_of s w (last_fsn w) = rw f at head in
      let after' : s' ≡ s = rw f at after in
      record {
        repeats = λ p. absurd (omega (arith, p, none));
        sends = λ p d q. (let y = some w.unsent d in let z : nat_lt (length w.unacked) (most_unacked w.profile) ≡ true = grind (arith, nat_tests) in
            absurd (let g : (true && true) ≡ false = rw (y, z) at t.1 in cc));
        idle = λ p q. record { header = headed s w _ h low (in_cycle w.profile _) head'; same_control = after'; same_window = same };
        full = λ p q. record { header = headed s w _ h low (in_cycle w.profile _) head'; same_control = after'; same_window = same };
      }

-- where nothing is acknowledged the window stays
pub hears_nothing : (s s' : BasicState) (w : WindowState) (head : Header) (msu : Bool) (part : HeardPart) → window_heard s w head ≡ w → part ≡ part_of s w head msu → s' ≡ control_heard s w head msu → Hears head msu s s' w w part
hears_nothing s s' w head msu part same p q = rw (p, q) (record {
  acked = refl;
  acknowledges = sym same;
  accept = refl;
  expected = refl;
  asked = refl;
  bib = refl;
  still_asked = refl;
  resend = refl;
  fib = refl;
  cursor = refl;
  fault = refl;
  bsns = refl;
  fibs = refl;
})
