-- The sealed text of octets
use Rattle.std.proofs.Common.{◌≡◌, ℕ, ◌+◌, ◌-◌, ◌/◌, ◌%◌, ◌^◌, ◌<◌, ◌≤◌, Bool, List, [], ◌∷◌, ◌++◌, length, take, drop, get_or, All, refl, ap, sym, ◌∙◌, arith, append_assoc, append-nil, length-append}
use Rattle.std.proofs.lemmas.List.{append_cancel_left, drop_more, drop_all, take_at, drop_at, length-take-le, length-drop, take-append-drop, same_from_push}
use Rattle.std.proofs.lemmas.List.Elements.{All-append, All-cons, All-nil}
use Rattle.std.proofs.Math.Nat.{mod-eq_of_lt}
use Rattle.std.proofs.Math.Seq.{take-append_seam}
use Rattle.l2_bits.specs.LineBits.{bits_of, number_of, line_bits}
use Rattle.l2_bits.specs.CheckBits.{check_bits}
use Rattle.l2_bits.specs.SealedText.{sealed_text, check_octets, IsSealed}
use Rattle.l2_bits.proofs.BitLemmas.{length-bits_of, number_of-bits_of, number_of_below, bits_of-number_of, bits_of-add}
use Rattle.l2_bits.proofs.DivisionLemmas.{length-check_bits}
use Rattle.l2_bits.proofs.OctetLemmas.{IsOctet}

-- the check octets, from two numbers whose bits are the check bits
check_octets_of : (octets : List ℕ) (low high : ℕ)
    → bits_of 8 low ++ bits_of 8 high ≡ check_bits (line_bits octets)
    → check_octets octets ≡ low % 2 ^ 8 ∷ high % 2 ^ 8 ∷ []
unfolding check_octets
check_octets_of octets low high same =
    let first : number_of (take 8 (check_bits (line_bits octets))) ≡ low % 2 ^ 8 =
    ap (λ (bits : List Bool). number_of (take 8 bits)) (sym same)
    ∙ ap number_of (take_at (bits_of 8 low) (bits_of 8 high) 8 (length-bits_of 8 low))
    ∙ number_of-bits_of 8 low in
    let second : number_of (drop 8 (check_bits (line_bits octets))) ≡ high % 2 ^ 8 =
    ap (λ (bits : List Bool). number_of (drop 8 bits)) (sym same)
    ∙ ap number_of (drop_at (bits_of 8 low) (bits_of 8 high) 8 (length-bits_of 8 low))
    ∙ number_of-bits_of 8 high in
    rw (first, second) refl

-- a text that ends in the check bits of the octets is their sealed text
pub sealed_alone : (octets text : List ℕ) → IsSealed octets text → text ≡ sealed_text octets
unfolding sealed_text
sealed_alone octets text is =
    let same : bits_of 8 is.low ++ bits_of 8 is.high ≡ check_bits (line_bits octets) =
    ap (λ (bits : List Bool). bits_of 8 is.low ++ bits) (sym (append-nil (bits_of 8 is.high))) ∙ is.on_the_line in
    let low : is.low % 2 ^ 8 ≡ is.low = mod-eq_of_lt is.low_in_range in
    let high : is.high % 2 ^ 8 ≡ is.high = mod-eq_of_lt is.high_in_range in
    rw (check_octets_of octets is.low is.high same, low, high) is.followed

-- what `seal` puts behind the octets
pub sealed_by_number : (octets : List ℕ) (check : ℕ) → check < 2 ^ 16
    → bits_of 16 check ≡ check_bits (line_bits octets)
    → octets ++ check % 256 ∷ check / 256 ∷ [] ≡ sealed_text octets
unfolding sealed_text
sealed_by_number octets check fits bits =
    let high : check / 2 ^ 8 % 2 ^ 8 ≡ check / 256 = omega arith in
    rw (check_octets_of octets check (check / 2 ^ 8) (sym (bits_of-add 8 8 check) ∙ bits), high) refl

-- the check octets by themselves
pub check_by_number : (octets : List ℕ) (check : ℕ) → check < 2 ^ 16
    → bits_of 16 check ≡ check_bits (line_bits octets)
    → check % 256 ∷ check / 256 ∷ [] ≡ check_octets octets
check_by_number octets check fits bits =
    let high : check / 2 ^ 8 % 2 ^ 8 ≡ check / 256 = omega arith in
    rw (check_octets_of octets check (check / 2 ^ 8) (sym (bits_of-add 8 8 check) ∙ bits), high) refl

-- eight bits packed into an octet
packed : (bits : List Bool) → length bits ≡ 8 → bits_of 8 (number_of bits) ≡ bits
packed bits eight = ap (λ (k : ℕ). bits_of k (number_of bits)) (sym eight) ∙ bits_of-number_of bits

packed_in_range : (bits : List Bool) → length bits ≡ 8 → number_of bits < 2 ^ 8
packed_in_range bits eight = rw eight at (number_of_below bits)

-- the sealed text ends in the check bits
pub sealed_meets_check : (octets : List ℕ) → IsSealed octets (sealed_text octets)
unfolding sealed_text check_octets
sealed_meets_check octets =
    let bits : List Bool = check_bits (line_bits octets) in
    let all : length bits ≡ 16 = length-check_bits (line_bits octets) in
    let first : length (take 8 bits) ≡ 8 = length-take-le 8 bits (omega arith) in
    let second : length (drop 8 bits) ≡ 8 = length-drop 8 bits ∙ omega arith in
    record {
      low = number_of (take 8 bits);
      high = number_of (drop 8 bits);
      low_in_range = packed_in_range (take 8 bits) first;
      high_in_range = packed_in_range (drop 8 bits) second;
      followed = refl;
      on_the_line =
          rw (packed (take 8 bits) first, packed (drop 8 bits) second, append-nil (drop 8 bits)) (take-append-drop 8 bits);
    }

-- the last two octets are put one after the other
two_pushed : (octets : List ℕ) (low high : ℕ)
    → octets ++ low ∷ high ∷ [] ≡ (octets ++ low ∷ []) ++ high ∷ []
two_pushed octets low high = sym (append_assoc octets (low ∷ []) (high ∷ []))

-- texts that are equal are so without their last two octets
without_two : (a b : List ℕ) (i j k l : ℕ)
    → a ++ i ∷ j ∷ [] ≡ b ++ k ∷ l ∷ [] → a ≡ b
without_two a b i j k l same =
    let but_one = same_from_push (a ++ i ∷ []) (b ++ k ∷ []) j l (sym (two_pushed a i j) ∙ same ∙ two_pushed b k l) in
    (same_from_push a b i k but_one.0).0

-- one sealed text has one content
pub one_content : (a b : List ℕ) → sealed_text a ≡ sealed_text b → a ≡ b
unfolding sealed_text check_octets
one_content a b same = without_two a b _ _ _ _ same

pub length-sealed_text : (octets : List ℕ) → length (sealed_text octets) ≡ length octets + 2
unfolding sealed_text check_octets
length-sealed_text octets = length-append octets _

-- the octets stand before the last two of their sealed text
pub sealed_front : (octets text : List ℕ) → text ≡ sealed_text octets → take (length text - 2) text ≡ octets
unfolding sealed_text
sealed_front octets text is =
    let front : length text - 2 ≡ length octets = omega (arith, ap length is, length-sealed_text octets) in
    rw (front, is) (take-append_seam octets (check_octets octets))

-- all octets of a sealed text are octets
pub check_in_range : (octets : List ℕ) → All IsOctet octets → All IsOctet (sealed_text octets)
check_in_range octets in_range =
    let is = sealed_meets_check octets in
    rw is.followed
    (All-append IsOctet octets (is.low ∷ is.high ∷ []) in_range
    (All-cons IsOctet is.low (is.high ∷ []) is.low_in_range (All-cons IsOctet is.high [] is.high_in_range (All-nil IsOctet))))

-- the last two octets tell a sealed text, where the check bits of the others are known
module _ (text : List ℕ) (check : ℕ) (two : 2 ≤ length text) (fits : check < 2 ^ 16)
    (bits : bits_of 16 check ≡ check_bits (line_bits (take (length text - 2) text))) where
  last_two : text ≡ take (length text - 2) text ++ get_or text (length text - 2) 0 ∷ get_or text (length text - 1) 0 ∷ []
  last_two =
      let next : length text - 2 + 1 ≡ length text - 1 = omega arith in
      let end : length text - 1 + 1 ≡ length text = omega arith in
      let last : drop (length text - 1) text ≡ get_or text (length text - 1) 0 ∷ [] =
      drop_more text (length text - 1) 0 (omega arith)
      ∙ ap (λ (rest : List ℕ). get_or text (length text - 1) 0 ∷ rest) (drop_all (length text - 1 + 1) text (omega arith)) in
      sym (take-append-drop (length text - 2) text)
      ∙ ap (λ (rest : List ℕ). take (length text - 2) text ++ rest)
      (drop_more text (length text - 2) 0 (omega arith)
      ∙ ap (λ (rest : List ℕ). get_or text (length text - 2) 0 ∷ rest) (ap (λ (n : ℕ). drop n text) next ∙ last))

  pub tells_sealed : get_or text (length text - 2) 0 ≡ check % 256 → get_or text (length text - 1) 0 ≡ check / 256
      → text ≡ sealed_text (take (length text - 2) text)
  tells_sealed low high =
      last_two ∙ ap (λ (n : ℕ). take (length text - 2) text ++ n ∷ get_or text (length text - 1) 0 ∷ []) low
      ∙ ap (λ (n : ℕ). take (length text - 2) text ++ check % 256 ∷ n ∷ []) high
      ∙ sealed_by_number (take (length text - 2) text) check fits bits

  pub sealed_tells : text ≡ sealed_text (take (length text - 2) text)
      → (get_or text (length text - 2) 0 ≡ check % 256) × (get_or text (length text - 1) 0 ≡ check / 256)
  sealed_tells is =
      let same = append_cancel_left (take (length text - 2) text) _ _ (sym last_two ∙ is ∙ sym (sealed_by_number (take (length text - 2) text) check fits bits)) in
      (cc, cc)
