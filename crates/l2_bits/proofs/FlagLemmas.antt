-- Flags, and the bits since the last one
use Rattle.std.proofs.Common.{◌≡◌, ℕ, ◌/◌, ◌^◌, ◌<◌, inl, inr, Bool, true, false, List, [], ◌∷◌, ◌++◌, length, drop, refl, ap, sym, ◌∙◌, arith, append_assoc, length-append, ◌+◌, ◌-◌, ◌≤◌, take}
use Rattle.std.proofs.lemmas.List.{append-nil, append_cancel_right, take-append-le, length_push}
use Rattle.std.proofs.Math.Nat.{mod-eq_of_lt}
use Rattle.l2_bits.specs.LineBits.{bits_of, number_of}
use Rattle.l2_bits.specs.Flags.{flag, EndsIn, IsFlagEnd, Since, Closes}
use Rattle.l2_bits.specs.Stuffing.{ones}
use Rattle.l2_bits.proofs.BitLemmas.{length-bits_of, number_of-bits_of}
use Rattle.l2_bits.proofs.OctetLemmas.{octet_alone}
use Rattle.l2_bits.proofs.LineLemmas.{push_cases, ends_within, ends_same, ends_rest, ends_more, cut_apart}

pub length-flag : length flag ≡ 8
unfolding flag
length-flag = refl

-- one ended just before the first bit
pub flag_first : IsFlagEnd []
flag_first = record { front = []; split = append-nil flag }

-- the register after one more bit
pub last_more : (past : List Bool) (bit : Bool) (old new : ℕ) → EndsIn (flag ++ past) (bits_of 8 old)
    → bits_of 8 new ≡ drop 1 (bits_of 8 old) ++ bit ∷ [] → EndsIn (flag ++ (past ++ bit ∷ [])) (bits_of 8 new)
unfolding bits_of
last_more past bit old new ends shifted =
    rw (shifted, ← append_assoc flag past (bit ∷ [])) (ends_more (flag ++ past) (bits_of 7 (old / 2)) _ bit ends)

-- the register holds a flag
module _ (fed : List Bool) (last : ℕ) (ends : EndsIn (flag ++ fed) (bits_of 8 last)) where
  pub flag_there : last ≡ 126 → IsFlagEnd fed
  unfolding bits_of flag
  flag_there is = rw is at ends

  pub flag_not_there : last < 2 ^ 8 → (last ≡ 126 → ⊥) → IsFlagEnd fed → ⊥
  unfolding bits_of flag
  flag_not_there fits other flag_ends =
      other (octet_alone last 126 fits (omega arith) (ends_same (flag ++ fed) (bits_of 8 last) flag ends flag_ends (length-bits_of 8 last ∙ sym length-flag)))

  pub ones_there : last / 2 ≡ 127 → EndsIn (flag ++ fed) (ones 7)
  unfolding bits_of
  ones_there is =
      let seven : bits_of 7 (last / 2) ≡ ones 7 = ap (bits_of 7) is in
      rw seven at (ends_rest (flag ++ fed) (_ ∷ []) (bits_of 7 (last / 2)) ends)

  pub ones_not_there : last < 2 ^ 8 → (last / 2 ≡ 127 → ⊥) → EndsIn (flag ++ fed) (ones 7) → ⊥
  unfolding bits_of
  ones_not_there fits other seven =
      let same : bits_of 7 (last / 2) ≡ ones 7 =
      ends_same (flag ++ fed) (bits_of 7 (last / 2)) (ones 7) (ends_rest (flag ++ fed) (_ ∷ []) (bits_of 7 (last / 2)) ends) seven (length-bits_of 7 (last / 2)) in
      let low : last / 2 < 2 ^ 7 = omega arith in
      other (sym (mod-eq_of_lt low) ∙ sym (number_of-bits_of 7 (last / 2)) ∙ ap number_of same ∙ number_of-bits_of 7 127)

-- no ones at the end of a flag
pub flag_or_ones : (line : List Bool) → EndsIn line flag → EndsIn line (ones 7) → ⊥
unfolding flag
flag_or_ones line flag_ends seven =
    let same : true ∷ true ∷ true ∷ true ∷ true ∷ true ∷ false ∷ [] ≡ ones 7 =
    ends_same line _ (ones 7) (ends_rest line (false ∷ []) _ flag_ends) seven refl in
    cc

-- a flag ends here
pub since_flag : (fed : List Bool) → IsFlagEnd fed → Since fed []
since_flag fed ends = record {
  before = fed;
  split = sym (append-nil fed);
  ended = ends;
  none_later = λ a b bit split _. absurd (omega (arith, ap length split, length-append a (bit ∷ b)));
}

-- no flag ends here
pub since_more : (past s : List Bool) (bit : Bool) → Since past s → (IsFlagEnd (past ++ bit ∷ []) → ⊥) → Since (past ++ bit ∷ []) (s ++ bit ∷ [])
since_more past s bit is none = record {
  before = is.before;
  split = ap (λ (bits : List Bool). bits ++ bit ∷ []) is.split ∙ append_assoc is.before s (bit ∷ []);
  ended = is.ended;
  none_later = λ a b x split ends.
      elim (push_cases s a b x bit split) [
        | inl last ↦
            let here : (is.before ++ a) ++ x ∷ [] ≡ past ++ bit ∷ [] = rw (last.0, last.1, is.split) refl in
            none (rw here at ends)
        | inr earlier ↦ is.none_later a earlier.0 x earlier.1 ends
      ];
}

-- there is one list of bits since the last flag
since_le : (fed a b : List Bool) → Since fed a → Since fed b → length b < length a → ⊥
since_le fed a b first second longer =
    let cut = cut_apart first.before a second.before b (sym first.split ∙ second.split) longer in
    first.none_later cut.0 b cut.1 cut.2 (rw cut.3 at second.ended)

pub since_alone : (fed a b : List Bool) → Since fed a → Since fed b → a ≡ b
since_alone fed a b first second =
    let same : length a ≡ length b = omega (arith, since_le fed a b first second, since_le fed b a second first) in
    ends_same fed a b (record { front = first.before; split = first.split }) (record { front = second.before; split = second.split }) same

-- what a flag closes
pub closes_is : (past s raw : List Bool) (bit : Bool) → Closes past bit raw → Since past s → s ++ bit ∷ [] ≡ raw ++ flag
closes_is past s raw bit closes is =
    rw (since_alone past s closes.since is closes.is_since) closes.closed

pub closes_alone : (past a b : List Bool) (bit : Bool) → Closes past bit a → Closes past bit b → a ≡ b
closes_alone past a b bit first second =
    append_cancel_right a b flag (sym first.closed ∙ closes_is past first.since b bit second first.is_since)

pub closes_flag : (past raw : List Bool) (bit : Bool) → Closes past bit raw → IsFlagEnd (past ++ bit ∷ [])
closes_flag past raw bit closes = record {
  front = (flag ++ closes.is_since.before) ++ raw;
  split =
      rw closes.is_since.split
      (ap (λ (bits : List Bool). flag ++ bits) (append_assoc closes.is_since.before closes.since (bit ∷ []))
      ∙ sym (append_assoc flag closes.is_since.before (closes.since ++ bit ∷ []))
      ∙ ap (λ (bits : List Bool). (flag ++ closes.is_since.before) ++ bits) closes.closed
      ∙ sym (append_assoc (flag ++ closes.is_since.before) raw flag));
}

-- what stands between two flags, of the bits since the first of them and before the last one of the second
abbrev pub between : List Bool → List Bool
between since = take (length since - 7) since

pub closes_between : (past s : List Bool) (bit : Bool) → Since past s → IsFlagEnd (past ++ bit ∷ []) → 7 ≤ length s
    → Closes past bit (between s)
closes_between past s bit is ends long =
    let bits = s ++ bit ∷ [] in
    let more : length bits ≡ length s + 1 = length_push s bit in
    let whole : flag ++ (past ++ bit ∷ []) ≡ (flag ++ is.before) ++ bits =
    ap (λ (line : List Bool). flag ++ (line ++ bit ∷ [])) is.split
    ∙ ap (λ (line : List Bool). flag ++ line) (append_assoc is.before s (bit ∷ []))
    ∙ sym (append_assoc flag is.before bits) in
    let cut : bits ≡ take (length bits - length flag) bits ++ flag =
    ends_within (flag ++ is.before) bits flag (rw whole at ends) (omega (arith, length-flag)) in
    let places : length bits - length flag ≡ length s - 7 = omega (arith, length-flag) in
    let front : take (length bits - length flag) bits ≡ between s =
    ap (λ (n : ℕ). take n bits) places ∙ take-append-le (length s - 7) s (bit ∷ []) (omega arith) in
    record {
      since = s;
      is_since = is;
      closed = cut ∙ ap (λ (raw : List Bool). raw ++ flag) front;
    }

-- as many as are missing for the flag
pub closed_length : (past s raw : List Bool) (bit : Bool) → Since past s → Closes past bit raw → length s ≡ length raw + 7
closed_length past s raw bit is closes =
    omega (arith, ap length (closes_is past s raw bit closes is), length_push s bit, length-append raw flag, length-flag)
