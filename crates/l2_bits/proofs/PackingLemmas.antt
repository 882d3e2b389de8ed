-- Bits packed into octets as they come
use Rattle.std.proofs.Common.{inl, inr, min, ◌≡◌, ℕ, ◌+◌, ◌-◌, ◌*◌, ◌/◌, ◌%◌, ◌^◌, ◌<◌, ◌≤◌, Bool, false, List, [], ◌∷◌, ◌++◌, length, take, drop, bit_and, bit_or, All, refl, ap, sym, ◌∙◌, arith, append_assoc, length-append}
use Rattle.std.proofs.lemmas.List.{take_at, drop_at, take-take, length-take-le, length-drop}
use Rattle.std.proofs.lemmas.List.Elements.{All-append, All-take, All-drop}
use Rattle.std.proofs.lemmas.Bool.{cases_lt}
use Rattle.std.specs.Int.{bytes_low_first}
use Rattle.std.proofs.Math.Nat.{mod-eq_of_lt}
use Rattle.std.proofs.Math.Pow.{pow_mono}
use Rattle.std.proofs.lemmas.Nat.{mod-mul-add, div-mul-add, mul-add-lt, or_shifted, or_comm, shl_whole, shr_below, pow-add, and_mask}
use Rattle.l2_bits.specs.declared.content.Content.{Content}
use Rattle.l2_bits.specs.LineBits.{bits_of, number_of, line_bits}
use Rattle.l2_bits.specs.Stuffing.{ones}
use Rattle.l2_bits.specs.SealedText.{sealed_text}
use Rattle.l2_bits.specs.Contents.{IsClosed}
use Rattle.l2_bits.specs.Deframing.{Holds}
use Rattle.l2_bits.proofs.BitLemmas.{bits_of-add, length-bits_of, number_of-bits_of}
use Rattle.l2_bits.proofs.OctetLemmas.{IsOctet, bits_of_mod, line_bits-append, length-line_bits, octets_alone}
use Rattle.l2_bits.proofs.SealedTextLemmas.{sealed_front, check_in_range}
use Rattle.l2_bits.proofs.ContentLemmas.{good_length}
use Rattle.l2_bits.proofs.ByteLemmas.{lowest_bytes, length-bytes, first_bytes, take_behind, bytes_in_range}

-- a number's bits and then another's, in one number
pub joined_bits : (more count part bits : ℕ) → part < 2 ^ more
    → bits_of (more + count) (bits * 2 ^ more + part) ≡ bits_of more part ++ bits_of count bits
joined_bits more count part bits fits =
    let low : (bits * 2 ^ more + part) % 2 ^ more ≡ part = mod-mul-add bits (2 ^ more) part fits in
    let high : (bits * 2 ^ more + part) / 2 ^ more ≡ bits = div-mul-add bits (2 ^ more) part fits in
    bits_of-add more count (bits * 2 ^ more + part)
    ∙ ap (λ (front : List Bool). front ++ bits_of count ((bits * 2 ^ more + part) / 2 ^ more))
    (sym (bits_of_mod more (bits * 2 ^ more + part)) ∙ ap (bits_of more) low)
    ∙ ap (λ (n : ℕ). bits_of more part ++ bits_of count n) high

pub joined_fits : (more count part bits : ℕ) → part < 2 ^ more → bits < 2 ^ count → bits * 2 ^ more + part < 2 ^ (more + count)
joined_fits more count part bits fits bits_fit = rw pow-add (mul-add-lt bits (2 ^ more) part (2 ^ count) bits_fit fits)

-- the octets, with those of a number put at a place
abbrev pub put_at : List ℕ → ℕ → ℕ → List ℕ
put_at octets place whole = take place octets ++ (bytes_low_first 0 8 whole ++ drop (place + 8) octets)

module _ (old : Content) (content : List Bool) (bits count : ℕ) (holds : Holds content old) (few : count ≤ 56) (bits_fit : bits < 2 ^ count) where
  -- the number that the code makes of them
  pub same_more : bit_and old.more 7 ≡ old.more
  same_more = and_mask old.more 3 ∙ mod-eq_of_lt holds.less

  whole_fits : bits * 2 ^ old.more + old.part < 2 ^ (old.more + count)
  whole_fits = joined_fits old.more count old.part bits holds.part_fits bits_fit

  pub whole_is : bit_or old.part (bits * 2 ^ bit_and old.more 7 % 2 ^ 64) ≡ bits * 2 ^ old.more + old.part
  whole_is =
      let no_more : bits * 2 ^ old.more % 2 ^ 64 ≡ bits * 2 ^ old.more = shl_whole bits count old.more 64 bits_fit (omega (arith, holds.less)) in
      ap (λ (n : ℕ). bit_or old.part (bits * 2 ^ n % 2 ^ 64)) same_more ∙ ap (bit_or old.part) no_more
      ∙ or_comm old.part (bits * 2 ^ old.more) ∙ or_shifted bits old.more old.part holds.part_fits

  content_joined : old.len < 279
      → content ++ bits_of count bits
      ≡ line_bits (take old.len old.octets) ++ bits_of (old.more + count) (bits * 2 ^ old.more + old.part)
  content_joined below =
      ap (λ (front : List Bool). front ++ bits_of count bits) (holds.packed below)
      ∙ append_assoc (line_bits (take old.len old.octets)) (bits_of old.more old.part) (bits_of count bits)
      ∙ ap (λ (rest : List Bool). line_bits (take old.len old.octets) ++ rest) (sym (joined_bits old.more count old.part bits holds.part_fits))

  longer : length (content ++ bits_of count bits) ≡ length content + count
  longer = length-append content (bits_of count bits) ∙ ap (λ (n : ℕ). length content + n) (length-bits_of count bits)

  -- so many of them are whole octets, and so many bits are left
  module _ (octets more part whole : ℕ) (is_whole : whole ≡ bits * 2 ^ old.more + old.part) (split : old.more + count ≡ 8 * octets + more) (less : more < 8) (is_part : part ≡ whole / 2 ^ (8 * octets) % 2 ^ 8) where
    left_fits : whole / 2 ^ (8 * octets) < 2 ^ more
    left_fits =
        let turned : 8 * octets + more ≡ more + 8 * octets = omega arith in
        shr_below whole more (8 * octets) (rw (← turned, ← split, is_whole) whole_fits)

    part_is : part ≡ whole / 2 ^ (8 * octets)
    part_is =
        let low : more ≤ 8 = omega (arith, less) in
        let most : 2 ^ more ≤ 2 ^ 8 = pow_mono low in
        is_part ∙ mod-eq_of_lt (omega (arith, left_fits))

    -- the bits of the whole octets and those that are left
    bits_apart : bits_of (old.more + count) (bits * 2 ^ old.more + old.part) ≡ line_bits (bytes_low_first 0 octets whole) ++ bits_of more part
    bits_apart =
        ap (bits_of (old.more + count)) (sym is_whole) ∙ ap (λ (k : ℕ). bits_of k whole) split ∙ bits_of-add (8 * octets) more whole
        ∙ ap (λ (front : List Bool). front ++ bits_of more (whole / 2 ^ (8 * octets))) (sym (lowest_bytes octets whole))
        ∙ ap (λ (n : ℕ). line_bits (bytes_low_first 0 octets whole) ++ bits_of more n) (sym part_is)

    few_octets : octets ≤ 8
    few_octets = omega (arith, holds.less)

    room_kept : length (put_at old.octets old.len whole) ≡ 287
    room_kept =
        omega (
          arith,
          holds.room,
          holds.few,
          length-append (take old.len old.octets) (bytes_low_first 0 8 whole ++ drop (old.len + 8) old.octets),
          length-append (bytes_low_first 0 8 whole) (drop (old.len + 8) old.octets),
          length-take-le old.len old.octets (omega (arith, holds.room, holds.few)),
          length-bytes 0 8 whole,
          length-drop (old.len + 8) old.octets,
        )

    octets_more : take (old.len + octets) (put_at old.octets old.len whole) ≡ take old.len old.octets ++ bytes_low_first 0 octets whole
    octets_more =
        let front : length (take old.len old.octets) ≡ old.len = length-take-le old.len old.octets (omega (arith, holds.room, holds.few)) in
        take_behind (take old.len old.octets) (bytes_low_first 0 8 whole ++ drop (old.len + 8) old.octets) old.len octets front
        ∙ ap (λ (rest : List ℕ). take old.len old.octets ++ rest) (first_bytes octets whole (drop (old.len + 8) old.octets) few_octets)

    pub added : (len : ℕ) → len ≡ min (old.len + octets) 279
        → Holds (content ++ bits_of count bits) (record { octets = put_at old.octets old.len whole; len = len; part = part; more = more })
    added len is_len = record {
      room = room_kept;
      few = omega (arith, is_len);
      in_range =
          All-append IsOctet (take old.len old.octets) (bytes_low_first 0 8 whole ++ drop (old.len + 8) old.octets) (All-take IsOctet old.len old.octets holds.in_range)
          (All-append IsOctet (bytes_low_first 0 8 whole) (drop (old.len + 8) old.octets) (bytes_in_range 0 8 whole) (All-drop IsOctet (old.len + 8) old.octets holds.in_range));
      less = less;
      part_fits = rw part_is left_fits;
      packed = λ below.
          let below_before : old.len < 279 = omega (arith, is_len) in
          let same : len ≡ old.len + octets = omega (arith, is_len) in
          content_joined below_before ∙ ap (λ (rest : List Bool). line_bits (take old.len old.octets) ++ rest) bits_apart
          ∙ sym (append_assoc (line_bits (take old.len old.octets)) (line_bits (bytes_low_first 0 octets whole)) (bits_of more part))
          ∙ ap (λ (front : List Bool). front ++ bits_of more part) (sym (line_bits-append (take old.len old.octets) (bytes_low_first 0 octets whole)) ∙ ap line_bits (sym octets_more) ∙ ap (λ (n : ℕ). line_bits (take n (put_at old.octets old.len whole))) (sym same));
      long = λ full. elim (cases_lt old.len 279) [
        | inl below ↦
            omega (arith, is_len, split, longer, ap length (holds.packed below), length-append (line_bits (take old.len old.octets)) (bits_of old.more old.part), length-line_bits (take old.len old.octets), length-take-le old.len old.octets (omega (arith, holds.room)), length-bits_of old.more old.part)
        | inr all ↦ omega (arith, longer, holds.long (omega (arith, all, holds.few)))
      ];
    }

-- no bits
pub none_held : (content : Content) → length content.octets ≡ 287 → All IsOctet content.octets
    → Holds [] (record { octets = content.octets; len = 0; part = 0; more = 0 })
unfolding bits_of
none_held content room in_range = record {
  room = room;
  few = omega arith;
  in_range = in_range;
  less = omega arith;
  part_fits = omega arith;
  packed = λ below. refl;
  long = λ full. absurd (omega arith);
}

-- where the flag's part is left behind the octets
flag_bits : bits_of 6 62 ≡ false ∷ ones 5
unfolding bits_of
flag_bits = refl

module _ (content : List Bool) (old : Content) (holds : Holds content old) where
  length_front : length (take old.len old.octets) ≡ old.len
  length_front = length-take-le old.len old.octets (omega (arith, holds.few, holds.room))

  -- a sealed text stands before it
  pub closed_there : old.more ≡ 6 → old.part ≡ 62 → 5 ≤ old.len → (below : old.len < 279)
      → take old.len old.octets ≡ sealed_text (take (length (take old.len old.octets) - 2) (take old.len old.octets))
      → IsClosed content (take (old.len - 2) old.octets)
  closed_there six part long below sealed =
      let within : old.len - 2 ≤ old.len = omega arith in
      let front : take (length (take old.len old.octets) - 2) (take old.len old.octets) ≡ take (old.len - 2) old.octets =
      ap (λ (n : ℕ). take (n - 2) (take old.len old.octets)) length_front ∙ take-take (old.len - 2) old.len old.octets within in
      let len : length (take (old.len - 2) old.octets) ≡ old.len - 2 = length-take-le (old.len - 2) old.octets (omega (arith, holds.room)) in
      record {
        in_range = All-take IsOctet (old.len - 2) old.octets holds.in_range;
        shortest = omega (arith, len);
        longest = omega (arith, len);
        closed =
            holds.packed below
            ∙ ap (λ (k : ℕ). line_bits (take old.len old.octets) ++ bits_of k old.part) six
            ∙ ap (λ (n : ℕ). line_bits (take old.len old.octets) ++ bits_of 6 n) part
            ∙ ap (λ (rest : List Bool). line_bits (take old.len old.octets) ++ rest) flag_bits
            ∙ ap (λ (text : List ℕ). line_bits text ++ false ∷ ones 5) (sealed ∙ ap sealed_text front);
      }

  -- it does only there
  module _ (octets : List ℕ) (closed : IsClosed content octets) where
    closed_length : length content ≡ 8 * (length octets + 2) + 6
    closed_length = ap length closed.closed ∙ length-append (line_bits (sealed_text octets)) (false ∷ ones 5) ∙ ap (λ (n : ℕ). n + 6) (good_length octets)

    pub closed_below : old.len < 279
    closed_below =
        let over : old.len ≡ 279 → ⊥ = λ full. omega (arith, holds.long full, closed_length, closed.longest) in
        omega (arith, holds.few, over)

    kept_length : length content ≡ 8 * old.len + old.more
    kept_length =
        ap length (holds.packed closed_below) ∙ length-append (line_bits (take old.len old.octets)) (bits_of old.more old.part)
        ∙ omega (arith, length-line_bits (take old.len old.octets), length_front, length-bits_of old.more old.part)

    pub closed_six : old.more ≡ 6
    closed_six = omega (arith, kept_length, closed_length, holds.less)

    pub closed_len : old.len ≡ length octets + 2
    closed_len = omega (arith, kept_length, closed_length, holds.less)

    both : line_bits (take old.len old.octets) ++ bits_of old.more old.part ≡ line_bits (sealed_text octets) ++ false ∷ ones 5
    both = sym (holds.packed closed_below) ∙ closed.closed

    lengths : length (line_bits (take old.len old.octets)) ≡ length (line_bits (sealed_text octets))
    lengths = omega (arith, length-line_bits (take old.len old.octets), length_front, good_length octets, closed_len)

    pub closed_part : old.part ≡ 62
    closed_part =
        let rest : bits_of old.more old.part ≡ false ∷ ones 5 =
        sym (drop_at (line_bits (take old.len old.octets)) (bits_of old.more old.part) (length (line_bits (take old.len old.octets))) refl)
        ∙ ap (drop (length (line_bits (take old.len old.octets)))) both
        ∙ drop_at (line_bits (sealed_text octets)) (false ∷ ones 5) (length (line_bits (take old.len old.octets))) (sym lengths) in
        let six : bits_of 6 old.part ≡ bits_of 6 62 = ap (λ (k : ℕ). bits_of k old.part) (sym closed_six) ∙ rest ∙ sym flag_bits in
        let fits : old.part < 2 ^ 6 = rw closed_six at holds.part_fits in
        sym (mod-eq_of_lt fits) ∙ sym (number_of-bits_of 6 old.part) ∙ ap number_of six ∙ number_of-bits_of 6 62

    pub closed_text : take old.len old.octets ≡ sealed_text octets
    closed_text =
        octets_alone (take old.len old.octets) (sealed_text octets) (All-take IsOctet old.len old.octets holds.in_range) (check_in_range octets closed.in_range)
        (sym (take_at (line_bits (take old.len old.octets)) (bits_of old.more old.part) (length (line_bits (take old.len old.octets))) refl)
        ∙ ap (take (length (line_bits (take old.len old.octets)))) both
        ∙ take_at (line_bits (sealed_text octets)) (false ∷ ones 5) (length (line_bits (take old.len old.octets))) (sym lengths))

    pub closed_sealed : take old.len old.octets ≡ sealed_text (take (length (take old.len old.octets) - 2) (take old.len old.octets))
    closed_sealed = closed_text ∙ ap sealed_text (sym (sealed_front octets (take old.len old.octets) closed_text))
