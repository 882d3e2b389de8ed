-- Some bits at once, of which none comes after five ones
use Rattle.std.proofs.Common.{◌≡◌, ℕ, suc, ◌+◌, ◌-◌, ◌*◌, ◌/◌, ◌%◌, ◌^◌, ◌<◌, ◌≤◌, ◌==◌, inl, inr, Bool, List, [], ◌∷◌, ◌++◌, take, bit_and, Option, Some, None, false, refl, ap, sym, ◌∙◌, arith, append_assoc, append-nil}
use Rattle.std.proofs.lemmas.Nat.{and_mask, one_shl}
use Rattle.std.proofs.lemmas.Nat.Bits.{bit_at-zero, bit_at_and, bit_at_ones, bit_at-trailing_zeros}
use Rattle.std.proofs.lemmas.Bool.{cases_lt}
use Rattle.std.specs.Int.{trailing_zeros, w64}
use Rattle.std.proofs.lemmas.Bool.{false≢true}
use Rattle.std.specs.Option.{option_to_list, is_some}
use Rattle.l2_bits.specs.declared.deframing.Deframer.{Deframer}
use Rattle.l2_bits.specs.declared.marks.Mark.{Mark}
use Rattle.l2_bits.specs.LineBits.{bits_of}
use Rattle.l2_bits.specs.Flags.{flag, EndsIn}
use Rattle.l2_bits.specs.Marks.{IsMark}
use Rattle.l2_bits.specs.Stuffing.{ones}
use Rattle.l2_bits.specs.Deframing.{NoneAfterFive, StandsFor, FeedsUpTo}
use Rattle.l2_bits.proofs.BitLemmas.{bits_of-add, bits_of-suc, length-bits_of}
use Rattle.l2_bits.proofs.OctetLemmas.{bits_of_mod, first_bits}
use Rattle.l2_bits.proofs.PackingLemmas.{joined_bits}
use Rattle.l2_bits.proofs.MarkLemmas.{marks-append}

-- the last eight of the bits in two numbers
pub window_moved : (last bits count new : ℕ) → last < 2 ^ 8 → new ≡ (bits * 2 ^ 8 + last) / 2 ^ count % 2 ^ 8
    → EndsIn (bits_of 8 last ++ bits_of count bits) (bits_of 8 new)
window_moved last bits count new fits is =
    let whole = bits * 2 ^ 8 + last in
    let turned : 8 + count ≡ count + 8 = omega arith in
    record {
      front = bits_of count whole;
      split =
          sym (joined_bits 8 count last bits fits) ∙ ap (λ (k : ℕ). bits_of k whole) turned ∙ bits_of-add count 8 whole
          ∙ ap (λ (rest : List Bool). bits_of count whole ++ rest) (sym (bits_of_mod 8 (whole / 2 ^ count)) ∙ ap (bits_of 8) (sym is));
    }

pub last_moved : (past bits : List Bool) (old new : ℕ) → EndsIn (flag ++ past) (bits_of 8 old)
    → EndsIn (bits_of 8 old ++ bits) (bits_of 8 new) → EndsIn (flag ++ (past ++ bits)) (bits_of 8 new)
last_moved past bits old new ends moved = record {
  front = ends.front ++ moved.front;
  split =
      sym (append_assoc flag past bits) ∙ ap (λ (front : List Bool). front ++ bits) ends.split
      ∙ append_assoc ends.front (bits_of 8 old) bits ∙ ap (λ (rest : List Bool). ends.front ++ rest) moved.split
      ∙ sym (append_assoc ends.front moved.front (bits_of 8 new));
}

-- the lowest bits
pub masked : (n k : ℕ) → k ≤ 56 → bit_and n (1 * 2 ^ k % 2 ^ 64 - 1) ≡ n % 2 ^ k
masked n k few =
    let same : 1 * 2 ^ k % 2 ^ 64 ≡ 2 ^ k = one_shl k 64 (omega arith) in
    ap (λ (m : ℕ). bit_and n (m - 1)) same ∙ and_mask n k

pub bits_split : (all count n : ℕ) → count ≤ all → bits_of all n ≡ bits_of count (n % 2 ^ count) ++ bits_of (all - count) (n / 2 ^ count)
bits_split all count n within =
    let sum : all ≡ count + (all - count) = omega arith in
    ap (λ (k : ℕ). bits_of k n) sum ∙ bits_of-add count (all - count) n
    ∙ ap (λ (front : List Bool). front ++ bits_of (all - count) (n / 2 ^ count)) (sym (bits_of_mod count n))

pub same_first : (i count n : ℕ) → i ≤ count → count ≤ 56 → take i (bits_of count (n % 2 ^ count)) ≡ take i (bits_of 56 n)
same_first i count n within few =
    ap (take i) (bits_of_mod count n) ∙ first_bits i count n within ∙ sym (first_bits i 56 n (omega arith))

-- below its lowest one a number has zeros
pub below_lowest : (n i : ℕ) → n < 2 ^ 64 → i < trailing_zeros w64 n → n / 2 ^ i % 2 ≡ 0
below_lowest n i fits below = elim (cases_lt 0 n) [
  | inl some ↦ (bit_at-trailing_zeros w64 n some fits).2 i below
  | inr none ↦
      let zero : n ≡ 0 = omega arith in
      rw zero (bit_at-zero i)
]

-- none of eight bits comes after five ones
pub none_of_eight : (last bits fives : ℕ) → ((front : List Bool) (i : ℕ) → i < 56 → fives / 2 ^ i % 2 ≡ 0 → EndsIn (front ++ (bits_of 8 last ++ take i (bits_of 56 bits))) (ones 5) → ⊥)
    → bit_and fives 255 ≡ 0 → NoneAfterFive last (bits_of 8 bits)
none_of_eight last bits fives seen none front i within ends =
    let below : i < 8 = omega (arith, within, length-bits_of 8 bits) in
    let low : bit_and fives 255 / 2 ^ i % 2 ≡ 0 = rw none (bit_at-zero i) in
    let clear : fives / 2 ^ i % 2 ≡ 0 = omega (arith, low, bit_at_and fives 255 i, bit_at_ones 8 i below) in
    let same : take i (bits_of 8 bits) ≡ take i (bits_of 56 bits) = first_bits i 8 bits (omega arith) ∙ sym (first_bits i 56 bits (omega arith)) in
    seen front i (omega arith) clear (rw same at ends)

-- more bits behind those that gave no mark
pub fed_on : (past all mid rest : List Bool) (a b : Deframer) (mark : Option Mark) → (first : FeedsUpTo past all mid a None)
    → FeedsUpTo (past ++ first.taken) mid rest b mark → FeedsUpTo past all rest b mark
fed_on past all mid rest a b mark first more = record {
  taken = first.taken ++ more.taken;
  split =
      first.split ∙ ap (λ (left : List Bool). first.taken ++ left) more.split
      ∙ sym (append_assoc first.taken more.taken rest);
  stands = rw (append_assoc past first.taken more.taken) at more.stands;
  marks = marks-append past first.taken more.taken [] (option_to_list mark) first.marks more.marks;
  last = λ some. record {
    front = first.taken ++ (more.last some).front;
    bit = (more.last some).bit;
    split =
        ap (λ (bits : List Bool). first.taken ++ bits) (more.last some).split
        ∙ sym (append_assoc first.taken (more.last some).front ((more.last some).bit ∷ []));
    none = marks-append past first.taken (more.last some).front [] [] first.marks (more.last some).none;
  };
}

-- others stand behind them
fed_front : (past all rest others : List Bool) (new : Deframer) (mark : Option Mark) → FeedsUpTo past all rest new mark
    → FeedsUpTo past (all ++ others) (rest ++ others) new mark
fed_front past all rest others new mark fed = record {
  taken = fed.taken;
  split = ap (λ (bits : List Bool). bits ++ others) fed.split ∙ append_assoc fed.taken rest others;
  stands = fed.stands;
  marks = fed.marks;
  last = fed.last;
}

pub fed_first : (past all first rest others : List Bool) (a b : Deframer) (mark : Option Mark) → FeedsUpTo past all (first ++ others) a None
    → ((front : List Bool) → StandsFor front a → FeedsUpTo front first rest b mark) → FeedsUpTo past all (rest ++ others) b mark
fed_first past all first rest others a b mark before feeds =
    fed_on past all (first ++ others) (rest ++ others) a b mark before (fed_front (past ++ before.taken) first rest others b mark (feeds (past ++ before.taken) before.stands))

-- the next bit
next_bit : (left bits : ℕ) → 0 < left → bits_of left bits ≡ (bits % 2 == 1) ∷ bits_of (left - 1) (bits / 2)
next_bit left bits some =
    let split : left ≡ suc (left - 1) = omega arith in
    ap (λ (k : ℕ). bits_of k bits) split ∙ bits_of-suc (left - 1) bits

pub bit_fed : (past : List Bool) (left bits : ℕ) (new : Deframer) (mark : Option Mark) → 0 < left
    → StandsFor (past ++ (bits % 2 == 1) ∷ []) new → IsMark past (bits % 2 == 1) mark
    → FeedsUpTo past (bits_of left bits) (bits_of (left - 1) (bits / 2)) new mark
bit_fed past left bits new mark some stands is = record {
  taken = (bits % 2 == 1) ∷ [];
  split = next_bit left bits some;
  stands = stands;
  marks = (mark, [], is, refl, sym (append-nil (option_to_list mark)));
  last = λ _. record { front = []; bit = bits % 2 == 1; split = refl; none = refl };
}

-- no kind, no mark
pub no_kind : {A : Type 0} (kind : Option A) → is_some kind ≡ false → kind ≡ None
no_kind None none = refl
no_kind (Some kind) none = absurd (false≢true (sym none))
