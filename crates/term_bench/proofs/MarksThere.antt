-- ALL BITS GIVE MARKS (`marks_there`): at each bit it's decided whether a flag ends, whether what stands before it is a signal unit
-- that checks, and whether octet counting runs. An induction over the bits, which keeps the bits since the last flag and those
-- that were counted. Uses l2_bits; used by TurnsThere.
use Rattle.std.proofs.Common.{refl, sym, ap, subst, arith, ◌≡◌, ◌∙◌, ◌⊎◌, inl, inr, ℕ, zero, suc, ◌+◌, ◌-◌, ◌/◌, ◌%◌, ◌^◌, ◌<◌, ◌≤◌, Bool, true, false, List, [], ◌∷◌, ◌++◌, length, take, drop, All, Option, None, Some, append_assoc, append-nil}
use Rattle.std.specs.Option.{option_to_list}
use Rattle.std.proofs.lemmas.List.{drop_at, take_at}
use Rattle.std.proofs.lemmas.List.Elements.{All-cons, All-head, All-nil, All-tail}
use Rattle.std.proofs.Math.Nat.{mod-eq_of_lt}
use Rattle.l2_bits.specs.Contents.{IsGood, EndsGood, EndsBad}
use Rattle.l2_bits.specs.Flags.{flag, EndsIn, Since, Closes}
use Rattle.l2_bits.specs.LineBits.{bits_of, line_bits, number_of}
use Rattle.l2_bits.specs.Marks.{AreMarks, IsMark}
use Rattle.l2_bits.specs.OctetCounting.{Counts, IsAligned, LosesAlignment, seven_ones, too_long}
use Rattle.l2_bits.specs.SealedText.{check_octets, sealed_text}
use Rattle.l2_bits.specs.Stuffing.{Stuffed, content_after, is_text, ones}
use Rattle.l2_bits.specs.declared.marks.Mark.{Mark}
use Rattle.l2_bits.specs.declared.marks.Mark.TheVariants.{Good, Bad, Sixteen}
use Rattle.l2_bits.proofs.BitLemmas.{length-bits_of, number_of-bits_of}
use Rattle.l2_bits.proofs.ContentLemmas.{good_length}
use Rattle.l2_bits.proofs.CountingLemmas.{NoUnit, aligned_first, counting_begins, counts_alone, counts_more, loses_by, still_aligned, unit_aligns, unit_flag}
use Rattle.l2_bits.proofs.FlagLemmas.{between, closed_length, closes_alone, closes_between, closes_flag, flag_first, since_flag, since_more}
use Rattle.l2_bits.proofs.OctetLemmas.{line_bits-append}
use Rattle.l2_bits.proofs.StuffingLemmas.{content_alone, is_text_of, test_tells}

-- WHAT CAN BE DECIDED.

abbrev Decided : Type 0 → Type 0
Decided A = A ⊎ (A → ⊥)

bit_is : (a b : Bool) → Decided (a ≡ b)
bit_is true true = inl refl
bit_is false false = inl refl
bit_is true false = inr (λ e. cc)
bit_is false true = inr (λ e. cc)

same_first : (a b : Bool) (xs ys : List Bool) → a ∷ xs ≡ b ∷ ys → a ≡ b
same_first a b xs ys e = cc

same_rest : (a b : Bool) (xs ys : List Bool) → a ∷ xs ≡ b ∷ ys → xs ≡ ys
same_rest a b xs ys e = cc

bits_are : (xs ys : List Bool) → Decided (xs ≡ ys)
bits_are [] [] = inl refl
bits_are [] (b ∷ ys) = inr (λ e. cc)
bits_are (a ∷ xs) [] = inr (λ e. cc)
bits_are (a ∷ xs) (b ∷ ys) =
    elim (bit_is a b) [
      | inr other ↦ inr (λ e. other (same_first a b xs ys e))
      | inl first ↦
          elim (bits_are xs ys) [
            | inr other ↦ inr (λ e. other (same_rest a b xs ys e))
            | inl rest ↦ inl (ap (λ z. z ∷ xs) first ∙ ap (λ (zs : List Bool). b ∷ zs) rest)
          ]
    ]

-- a line ends in these bits
ends_in : (line tail : List Bool) → Decided (EndsIn line tail)
ends_in [] tail =
    elim (bits_are [] tail) [
      | inl all ↦ inl (record { front = []; split = all })
      | inr not ↦ inr (λ ends. nothing_before ends.front ends.split not)
    ]
  where
    nothing_before : (front : List Bool) → [] ≡ front ++ tail → ([] ≡ tail → ⊥) → ⊥
    nothing_before [] split not = not split
    nothing_before (x ∷ front) split not = cc
ends_in (bit ∷ line) tail =
    elim (bits_are (bit ∷ line) tail) [
      | inl all ↦ inl (record { front = []; split = all })
      | inr not ↦
          elim (ends_in line tail) [
            | inl ends ↦ inl (record { front = bit ∷ ends.front; split = ap (λ (xs : List Bool). bit ∷ xs) ends.split })
            | inr none ↦ inr (λ ends. neither ends.front ends.split not none)
          ]
    ]
  where
    neither : (front : List Bool) → bit ∷ line ≡ front ++ tail → (bit ∷ line ≡ tail → ⊥) → (EndsIn line tail → ⊥) → ⊥
    neither [] split not none = not split
    neither (x ∷ front) split not none =
        none (record { front = front; split = same_rest bit x line (front ++ tail) split })

at_most : (m n : ℕ) → Decided (m ≤ n)
at_most zero n = inl (omega arith)
at_most (suc m) zero = inr (λ h. omega (arith, h))
at_most (suc m) (suc n) =
    elim (at_most m n) [
      | inl h ↦ inl (omega (arith, h))
      | inr isnt ↦ inr (λ h. isnt (omega (arith, h)))
    ]

numbers_are : (m n : ℕ) → Decided (m ≡ n)
numbers_are m n =
    elim (at_most m n) [
      | inr isnt ↦ inr (λ e. isnt (omega (arith, e)))
      | inl up ↦
          elim (at_most n m) [
            | inl down ↦ inl (omega (arith, up, down))
            | inr isnt ↦ inr (λ e. isnt (omega (arith, e)))
          ]
    ]

abbrev IsOctet : ℕ → Type 0
IsOctet octet = octet < 2 ^ 8

all_octets : (octets : List ℕ) → Decided (All IsOctet octets)
all_octets [] = inl (All-nil IsOctet)
all_octets (octet ∷ octets) =
    elim (at_most (octet + 1) (2 ^ 8)) [
      | inr isnt ↦ inr (λ all. isnt (omega (arith, All-head IsOctet octet octets all)))
      | inl here ↦
          elim (all_octets octets) [
            | inl rest ↦ inl (All-cons IsOctet octet octets (omega (arith, here)) rest)
            | inr isnt ↦ inr (λ all. isnt (All-tail IsOctet octet octets all))
          ]
    ]

-- A SIGNAL UNIT THAT CHECKS.

-- so many octets of these bits
abbrev octets_of : ℕ → List Bool → List ℕ
octets_of zero bits = []
octets_of (suc n) bits = number_of (take 8 bits) ∷ octets_of n (drop 8 bits)

octets_back : (octets : List ℕ) (rest : List Bool) → All IsOctet octets
    → octets_of (length octets) (line_bits octets ++ rest) ≡ octets
octets_back [] rest all = refl
octets_back (octet ∷ octets) rest all =
    let more : List Bool = line_bits octets ++ rest in
    let split : line_bits (octet ∷ octets) ++ rest ≡ bits_of 8 octet ++ more = append_assoc (bits_of 8 octet) (line_bits octets) rest in
    let first : number_of (take 8 (line_bits (octet ∷ octets) ++ rest)) ≡ octet =
    ap (λ (bits : List Bool). number_of (take 8 bits)) split
    ∙ ap number_of (take_at (bits_of 8 octet) more 8 (length-bits_of 8 octet))
    ∙ number_of-bits_of 8 octet ∙ mod-eq_of_lt (All-head IsOctet octet octets all) in
    let left : drop 8 (line_bits (octet ∷ octets) ++ rest) ≡ more =
    ap (λ (bits : List Bool). drop 8 bits) split ∙ drop_at (bits_of 8 octet) more 8 (length-bits_of 8 octet) in
    ap (λ (n : ℕ). n ∷ octets_of (length octets) (drop 8 (line_bits (octet ∷ octets) ++ rest))) first
    ∙ ap (λ (bits : List Bool). octet ∷ octets_of (length octets) bits) left
    ∙ ap (λ (os : List ℕ). octet ∷ os) (octets_back octets rest (All-tail IsOctet octet octets all))

-- the octets that it can only have
abbrev octets_in : List Bool → List ℕ
octets_in raw = octets_of (length (content_after 0 raw) / 8 - 2) (content_after 0 raw)

sealed_bits : (octets : List ℕ) → line_bits (sealed_text octets) ≡ line_bits octets ++ line_bits (check_octets octets)
unfolding sealed_text
sealed_bits octets = line_bits-append octets (check_octets octets)

only_those : (raw : List Bool) (octets : List ℕ) → IsGood raw octets → octets ≡ octets_in raw
only_those raw octets good =
    let content : content_after 0 raw ≡ line_bits (sealed_text octets) = content_alone (line_bits (sealed_text octets)) raw good.stuffed in
    let many : length octets ≡ length (content_after 0 raw) / 8 - 2 = omega (arith, ap length content, good_length octets) in
    sym (octets_back octets (line_bits (check_octets octets)) good.in_range)
    ∙ ap (λ (bits : List Bool). octets_of (length octets) bits) (sym (content ∙ sealed_bits octets))
    ∙ ap (λ (n : ℕ). octets_of n (content_after 0 raw)) many

abbrev Checks : List Bool → Type 0
Checks raw = ((octets : List ℕ) × IsGood raw octets) ⊎ ((octets : List ℕ) → IsGood raw octets → ⊥)

checks : (raw : List Bool) → Checks raw
checks raw =
    elim (bit_is (is_text 0 raw) true) [
      | inr isnt ↦ inr (λ octets good. isnt (is_text_of (line_bits (sealed_text octets)) raw good.stuffed))
      | inl text ↦
          elim (bits_are (content_after 0 raw) (line_bits (sealed_text (octets_in raw)))) [
            | inr isnt ↦
                inr (λ octets good. isnt (content_alone (line_bits (sealed_text octets)) raw good.stuffed
                ∙ ap (λ (os : List ℕ). line_bits (sealed_text os)) (only_those raw octets good)))
            | inl content ↦
                elim (at_most 3 (length (octets_in raw))) [
                  | inr isnt ↦ inr (λ octets good. isnt (subst (λ os. 3 ≤ length os) (only_those raw octets good) good.shortest))
                  | inl long ↦
                      elim (at_most (length (octets_in raw)) 276) [
                        | inr isnt ↦ inr (λ octets good. isnt (subst (λ os. length os ≤ 276) (only_those raw octets good) good.longest))
                        | inl short ↦
                            elim (all_octets (octets_in raw)) [
                              | inr isnt ↦
                                  inr (λ octets good. isnt (subst (λ os. All IsOctet os) (only_those raw octets good) good.in_range))
                              | inl fit ↦
                                  inl (
                                    octets_in raw,
                                    record {
                                      in_range = fit;
                                      shortest = long;
                                      longest = short;
                                      stuffed = subst (λ bits. Stuffed bits raw) content (test_tells raw text);
                                    },
                                  )
                            ]
                      ]
                ]
          ]
    ]

-- WHAT ENDS WITH A BIT.
data Ending (past : List Bool) (bit : Bool) : Type 0 where
  unit : (octets : List ℕ) → EndsGood past bit octets → Ending past bit
  other : NoUnit past bit → EndsBad past bit → Ending past bit
  nothing : NoUnit past bit → (EndsBad past bit → ⊥) → Ending past bit

ending_of : (past s : List Bool) (bit : Bool) → Closes past bit s → Checks s → Ending past bit
ending_of past s bit closes (inl good) = unit good.0 (record { raw = s; closes = closes; good = good.1 })
ending_of past s bit closes (inr none) =
    let no_unit : NoUnit past bit = λ octets e.
    none octets (subst (λ raw. IsGood raw octets) (closes_alone past e.raw s bit e.closes closes) e.good) in
    elim (bits_are s []) [
      | inl empty ↦ nothing no_unit (λ e. e.not_empty (closes_alone past e.raw s bit e.closes closes ∙ empty))
      | inr some ↦ other no_unit (record { raw = s; closes = closes; not_empty = some; not_good = none })
    ]

ending : (past s : List Bool) (bit : Bool) → Since past s → Ending past bit
ending past s bit since =
    elim (ends_in (flag ++ (past ++ bit ∷ [])) flag) [
      | inr none ↦ nothing (λ octets e. none (unit_flag past bit octets e)) (λ e. none (closes_flag past e.raw bit e.closes))
      | inl ends ↦
          elim (at_most 7 (length s)) [
            | inr short ↦
                nothing (λ octets e. short (omega (arith, closed_length past s e.raw bit since e.closes)))
                (λ e. short (omega (arith, closed_length past s e.raw bit since e.closes)))
            | inl long ↦ ending_of past (between s) bit (closes_between past s bit since ends long) (checks (between s))
          ]
    ]

-- WHAT IS KEPT of the bits so far: those since the last flag, and those that octet counting counts, if it runs.
abbrev Counting : List Bool → Type 0
Counting past = IsAligned past ⊎ ((counted : List Bool) × Counts past counted)

record Kept (past : List Bool) : Type 0 where
  since : List Bool
  is_since : Since past since
  counting : Counting past

kept_first : Kept []
kept_first = record { since = []; is_since = since_flag [] flag_first; counting = inl (aligned_first flag_first) }

since_then : (past s : List Bool) (bit : Bool) → Since past s → (later : List Bool) × Since (past ++ bit ∷ []) later
since_then past s bit since =
    elim (ends_in (flag ++ (past ++ bit ∷ [])) flag) [
      | inl ends ↦ ([], since_flag (past ++ bit ∷ []) ends)
      | inr none ↦ (s ++ bit ∷ [], since_more past s bit since none)
    ]

loses : (fed s : List Bool) → Since fed s → Decided (LosesAlignment fed)
loses fed s since =
    elim (ends_in (flag ++ fed) (ones 7)) [
      | inl seven ↦ inl (seven_ones seven)
      | inr isnt ↦
          elim (numbers_are (length s) 2677) [
            | inl long ↦ inl (too_long s since long)
            | inr short ↦ inr (λ l. elim (loses_by fed s since l) [ inl seven ↦ isnt seven | inr long ↦ short long ])
          ]
    ]

-- the mark of a bit, and what is kept behind it
abbrev Marked : List Bool → Bool → Type 0
Marked past bit = (mark : Option Mark) × IsMark past bit mark × Counting (past ++ bit ∷ [])

aligned_then : (past later : List Bool) (bit : Bool) → Since (past ++ bit ∷ []) later → IsAligned past → Counting (past ++ bit ∷ [])
aligned_then past later bit since aligned =
    elim (loses (past ++ bit ∷ []) later since) [
      | inl lost ↦ inr ([], counting_begins past bit aligned lost)
      | inr isnt ↦ inl (still_aligned past bit aligned isnt)
    ]

-- while octet counting runs
counted_mark : (past counted : List Bool) (bit : Bool) → NoUnit past bit → Counts past counted → Marked past bit
counted_mark past counted bit no_unit counts =
    let on : Counting (past ++ bit ∷ []) = inr (counted ++ bit ∷ [], counts_more past counted bit counts no_unit) in
    elim (numbers_are ((length counted + 1) % 128) 0) [
      | inl whole ↦ (Some Sixteen, record { counted = counted; counts = counts; whole = whole; not_good = no_unit }, on)
      | inr not ↦ (
        None,
        (
          no_unit,
          λ bad aligned. aligned counted counts.lost,
          λ e. not (ap (λ (n : ℕ). (n + 1) % 128) (counts_alone past counted e.counted counts e.counts) ∙ e.whole),
        ),
        on,
      )
    ]

mark_of : (past later : List Bool) (bit : Bool) → Since (past ++ bit ∷ []) later → Ending past bit → Counting past → Marked past bit
mark_of past later bit since (unit octets e) counting =
    (Some (Good (record { items = octets })), e, inl (unit_aligns past bit octets e))
mark_of past later bit since (other no_unit bad) (inl aligned) =
    (Some Bad, (bad, aligned), aligned_then past later bit since aligned)
mark_of past later bit since (nothing no_unit no_bad) (inl aligned) =
    (None, (no_unit, λ bad al. no_bad bad, λ e. aligned e.counted e.counts.lost), aligned_then past later bit since aligned)
mark_of past later bit since (other no_unit bad) (inr counts) = counted_mark past counts.0 bit no_unit counts.1
mark_of past later bit since (nothing no_unit no_bad) (inr counts) = counted_mark past counts.0 bit no_unit counts.1

one_more : (past : List Bool) (bit : Bool) → Kept past → (mark : Option Mark) × IsMark past bit mark × Kept (past ++ bit ∷ [])
one_more past bit kept =
    let later = since_then past kept.since bit kept.is_since in
    let marked = mark_of past later.0 bit later.1 (ending past kept.since bit kept.is_since) kept.counting in
    (marked.0, marked.1, record { since = later.0; is_since = later.1; counting = marked.2 })

kept_all : (past bits : List Bool) → Kept past → Kept (past ++ bits)
kept_all past [] kept = subst (λ b. Kept b) (sym (append-nil past)) kept
kept_all past (bit ∷ bits) kept =
    subst (λ b. Kept b) (append_assoc past (bit ∷ []) bits) (kept_all (past ++ bit ∷ []) bits (one_more past bit kept).2)

marks_from : (past bits : List Bool) → Kept past → (marks : List Mark) × AreMarks past bits marks
marks_from past [] kept = ([], refl)
marks_from past (bit ∷ bits) kept =
    let one = one_more past bit kept in
    let rest = marks_from (past ++ bit ∷ []) bits one.2 in
    (option_to_list one.0 ++ rest.0, (one.0, rest.0, one.1, rest.1, refl))

pub marks_there : (past bits : List Bool) → (marks : List Mark) × AreMarks past bits marks
marks_there past bits = marks_from past bits (kept_all [] past kept_first)
