-- FATES AND LINKS: what stands in one place stands in no other; and streams, of which there are 16 (`stream_below_16`).
-- What is on one link isn't on another (`on_other`), what isn't on a link neither waits for it nor was sent on it nor
-- is held for it (`not_on_waiting`), and what stands back is on none, nor parked (`back_not_on`, `back_not_parked`).
-- Each is seen case by case on the fate; `itself`, `apart_back` and `false_true` are of tests alone. Events.antt,
-- SoundBack.antt, Framing.antt and the proofs of two ends (pair_model, pair_changeover, pair_streams) use them all
-- through.
use Rattle.std.proofs.Common.{arith, refl, ◌≡◌, ◌<◌, ◌∙◌, sym, ℕ, Bool, true, false, ◌==◌, List}
pub use Rattle.std.proofs.lemmas.Bool.{ne_eqb as apart}
use Rattle.std.proofs.lemmas.Bool.{eq-eqb, eqb-false}
use Rattle.set_model.specs.Rows.{Fate, is_back, is_back_to, is_held, is_on, is_parked, is_unacked, is_waiting, stands_back, stream_of}

-- the octets of a label tell one of 16 streams
pub stream_below_16 : (body : List ℕ) → stream_of body < 16
stream_below_16 body = omega arith

pub false_true : {P : Type 0} (b : Bool) → b ≡ false → b ≡ true → P
false_true b f t = let no : true ≡ false = sym t ∙ f in absurd cc

pub apart_back : (l n : ℕ) → (l == n) ≡ false → (n == l) ≡ false
apart_back l n d = apart n l (λ e. eqb-false l n d (sym e))

pub itself : (l : ℕ) → (l == l) ≡ true
itself l = eq-eqb l l refl

-- What is on one link isn't on another.
pub on_other : (l n : ℕ) → (l == n) ≡ false → (f : Fate) → is_on n f ≡ true → is_on l f ≡ false
on_other l n d f e = grind arith

pub not_on_waiting : (l : ℕ) (f : Fate) → is_on l f ≡ false → is_waiting l f ≡ false
not_on_waiting l f e = grind arith

pub not_on_unacked : (l : ℕ) (f : Fate) → is_on l f ≡ false → is_unacked l f ≡ false
not_on_unacked l f e = grind arith

pub not_on_held : (l : ℕ) (f : Fate) → is_on l f ≡ false → is_held l f ≡ false
not_on_held l f e = grind arith

-- What stands back is on no link, nor parked.
pub back_not_on : (l : ℕ) (f : Fate) → stands_back f ≡ true → is_on l f ≡ false
back_not_on l f e = grind arith

pub back_not_parked : (f : Fate) → stands_back f ≡ true → is_parked f ≡ false
back_not_parked f e = grind arith

-- by a code, or by the home of one
pub code_back : (c : ℕ) (f : Fate) → is_back c f ≡ true → stands_back f ≡ true
code_back c f e = grind arith

pub home_back : (n : ℕ) (f : Fate) → is_back_to n f ≡ true → stands_back f ≡ true
home_back n f e = grind arith
