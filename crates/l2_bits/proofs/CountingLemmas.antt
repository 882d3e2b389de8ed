-- Octet counting, one bit more
use Rattle.std.proofs.Common.{◌≡◌, ℕ, ◌⊎◌, inl, inr, Bool, List, [], ◌∷◌, ◌++◌, length, ap, sym, ◌∙◌, arith, append_assoc, length-append}
use Rattle.std.proofs.lemmas.List.{append-nil, nil_from_length, length_push}
use Rattle.l2_bits.specs.Flags.{flag, EndsIn, IsFlagEnd, Since}
use Rattle.l2_bits.specs.Stuffing.{ones}
use Rattle.l2_bits.specs.Contents.{EndsGood}
use Rattle.l2_bits.specs.OctetCounting.{LosesAlignment, seven_ones, too_long, IsLost, Counts, IsAligned}
use Rattle.l2_bits.proofs.LineLemmas.{push_split, push_cases}
use Rattle.l2_bits.proofs.FlagLemmas.{flag_or_ones, since_flag, since_alone, closes_flag}

-- no good signal unit ends with the bit
abbrev pub NoUnit : List Bool → Bool → Type 0
NoUnit past bit = (octets : List ℕ) → EndsGood past bit octets → ⊥

-- a signal unit ends with a flag
pub unit_flag : (past : List Bool) (bit : Bool) (octets : List ℕ) → EndsGood past bit octets → IsFlagEnd (past ++ bit ∷ [])
unit_flag past bit octets unit = closes_flag past unit.raw bit unit.closes

-- alignment is not lost where a flag ends
pub flag_aligns : (fed : List Bool) → IsFlagEnd fed → LosesAlignment fed → ⊥
flag_aligns fed ends (seven_ones seven) = flag_or_ones (flag ++ fed) ends seven
flag_aligns fed ends (too_long since is long) =
    absurd (omega (arith, long, ap length (since_alone fed since [] is (since_flag fed ends))))

-- it is lost elsewhere by one of the two tests
pub loses_by : (fed since : List Bool) → Since fed since → LosesAlignment fed → EndsIn (flag ++ fed) (ones 7) ⊎ (length since ≡ 2677)
loses_by fed since is (seven_ones seven) = inl seven
loses_by fed since is (too_long other also long) = inr (ap length (since_alone fed since other is also) ∙ long)

-- alignment lost at this very place
pub lost_now : (fed : List Bool) → LosesAlignment fed → IsLost fed []
lost_now fed lost = record {
  before = fed;
  split = sym (append-nil fed);
  lost = lost;
  no_unit = λ a b bit octets split _. absurd (omega (arith, ap length split, length-append a (bit ∷ b)));
}

-- it stays lost over a bit with which no good signal unit ends
pub lost_more : (past since : List Bool) (bit : Bool) → IsLost past since → NoUnit past bit → IsLost (past ++ bit ∷ []) (since ++ bit ∷ [])
lost_more past since bit lost none = record {
  before = lost.before;
  split = ap (λ (bits : List Bool). bits ++ bit ∷ []) lost.split ∙ append_assoc lost.before since (bit ∷ []);
  lost = lost.lost;
  no_unit = λ a b x octets split unit.
      elim (push_cases since a b x bit split) [
        | inl last ↦ none octets (rw (last.0, last.1, ← lost.split) at unit)
        | inr earlier ↦ lost.no_unit a earlier.0 x octets earlier.1 unit
      ];
}

-- lost at this very place, or before
pub lost_before : (past since : List Bool) (bit : Bool) → IsLost (past ++ bit ∷ []) since
    → ((since ≡ []) × LosesAlignment (past ++ bit ∷ []))
    ⊎ ((earlier : List Bool) × (since ≡ earlier ++ bit ∷ []) × IsLost past earlier × NoUnit past bit)
lost_before past since bit lost =
    elim (push_split past lost.before since bit lost.split) [
      | inl here ↦ inl (here.0, rw here.1 at lost.lost)
      | inr before ↦
          inr (
            before.0,
            before.1,
            record {
              before = lost.before;
              split = before.2;
              lost = lost.lost;
              no_unit = λ a b x octets split unit.
                  lost.no_unit a (b ++ bit ∷ []) x octets
                  (before.1 ∙ ap (λ (bits : List Bool). bits ++ bit ∷ []) split ∙ append_assoc a (x ∷ b) (bit ∷ [])) unit;
            },
            λ octets unit. lost.no_unit before.0 [] bit octets before.1 (rw before.2 at unit),
          )
    ]

-- octet counting goes on
pub counts_more : (past counted : List Bool) (bit : Bool) → Counts past counted → NoUnit past bit → Counts (past ++ bit ∷ []) (counted ++ bit ∷ [])
counts_more past counted bit counts none = record {
  lost = lost_more past counted bit counts.lost none;
  first = λ longer lost.
      elim (lost_before past longer bit lost) [
        | inl here ↦ omega (arith, ap length here.0)
        | inr before ↦
            omega (arith, ap length before.1, length_push before.0 bit, length_push counted bit, counts.first before.0 before.2)
      ];
}

-- a good signal unit ends it
pub unit_aligns : (past : List Bool) (bit : Bool) (octets : List ℕ) → EndsGood past bit octets → IsAligned (past ++ bit ∷ [])
unit_aligns past bit octets unit since lost =
    elim (lost_before past since bit lost) [
      | inl here ↦ flag_aligns (past ++ bit ∷ []) (unit_flag past bit octets unit) here.1
      | inr before ↦ before.3 octets unit
    ]

-- it begins
pub counting_begins : (past : List Bool) (bit : Bool) → IsAligned past → LosesAlignment (past ++ bit ∷ []) → Counts (past ++ bit ∷ []) []
counting_begins past bit aligned loses = record {
  lost = lost_now (past ++ bit ∷ []) loses;
  first = λ longer lost.
      elim (lost_before past longer bit lost) [
        | inl here ↦ omega (arith, ap length here.0)
        | inr before ↦ absurd (aligned before.0 before.2)
      ];
}

-- it does not begin
pub still_aligned : (past : List Bool) (bit : Bool) → IsAligned past → (LosesAlignment (past ++ bit ∷ []) → ⊥) → IsAligned (past ++ bit ∷ [])
still_aligned past bit aligned keeps since lost =
    elim (lost_before past since bit lost) [
      | inl here ↦ keeps here.1
      | inr before ↦ aligned before.0 before.2
    ]

-- none runs before the first bit
pub aligned_first : IsFlagEnd [] → IsAligned []
aligned_first ends since lost =
    let none : lost.before ≡ [] = nil_from_length lost.before (omega (arith, ap length lost.split, length-append lost.before since)) in
    flag_aligns [] ends (rw none at lost.lost)

-- so many bits have been counted
pub counts_alone : (fed a b : List Bool) → Counts fed a → Counts fed b → length a ≡ length b
counts_alone fed a b first second = omega (arith, first.first b second.lost, second.first a first.lost)
