-- An octet's bits give two marks at most: one with a flag, and one with sixteen octets that are counted
use Rattle.std.proofs.Common.{◌≡◌, ℕ, ◌+◌, ◌%◌, ◌<◌, ◌≤◌, inl, inr, Bool, List, [], ◌∷◌, ◌++◌, length, Option, Some, None, refl, ap, sym, ◌∙◌, arith, append_assoc, length-append}
use Rattle.std.proofs.lemmas.List.{append-nil, length_push}
use Rattle.std.specs.Option.{option_to_list}
use Rattle.std.proofs.lemmas.Bool.{false≢true}
use Rattle.std.specs.Prelude.{Result, Ok, Err, IsOk, OnOk}
use Rattle.l2_bits.specs.declared.marks.Mark.{Mark}
use Rattle.l2_bits.specs.declared.marks.Mark.TheVariants.{Good, Bad, Sixteen}
use Rattle.l2_bits.specs.LineBits.{line_bits}
use Rattle.l2_bits.specs.SealedText.{sealed_text}
use Rattle.l2_bits.specs.Flags.{IsFlagEnd, Closes}
use Rattle.l2_bits.specs.Stuffing.{Stuffed, last}
use Rattle.l2_bits.specs.Contents.{IsGood}
use Rattle.l2_bits.specs.OctetCounting.{Counts}
use Rattle.l2_bits.specs.declared.deframing.Deframer.{Deframer}
use Rattle.l2_bits.specs.declared.marks.MarkKind.{MarkKind}
use Rattle.l2_bits.specs.declared.marks.MarkKind.TheVariants.{Good as GoodKind, Bad as BadKind, Sixteen as SixteenKind}
use Rattle.l2_bits.specs.Deframing.{StandsFor, FeedsUpTo, MarkedUpTo, marked, unit_of}
use Rattle.l2_bits.proofs.MarkLemmas.{marks-append}
use Rattle.l2_bits.specs.Marks.{IsMark, AreMarks, EndsSixteen}
use Rattle.l2_bits.proofs.StuffingLemmas.{one_content}
use Rattle.l2_bits.proofs.LineLemmas.{cut_apart}
use Rattle.l2_bits.proofs.FlagLemmas.{closes_flag, closed_length}
use Rattle.l2_bits.proofs.ContentLemmas.{good_length}
use Rattle.l2_bits.proofs.CountingLemmas.{lost_more, lost_before, counts_more, counts_alone}

-- with the next bit a flag ends, with bits before it that the last one left
record ClosesSome (past : List Bool) (bit : Bool) : Type 0 where
  raw : List Bool
  closes : Closes past bit raw
  some : 0 < length raw

-- so few bits at most have come since a flag ended
record FlagBefore (past : List Bool) (few : ℕ) : Type 0 where
  before : List Bool
  behind : List Bool
  split : past ≡ before ++ behind
  ended : IsFlagEnd before
  fits : length behind ≤ few

-- so few bits at most have come in octet counting since sixteen octets were counted
abbrev CountedBefore : List Bool → ℕ → Type 0
CountedBefore past few = (counted : List Bool) → Counts past counted → length counted % 128 ≤ few

flag_more : (past : List Bool) (bit : Bool) (few : ℕ) → FlagBefore past few → FlagBefore (past ++ bit ∷ []) (few + 1)
flag_more past bit few flag = record {
  before = flag.before;
  behind = flag.behind ++ bit ∷ [];
  split = ap (λ (bits : List Bool). bits ++ bit ∷ []) flag.split ∙ append_assoc flag.before flag.behind (bit ∷ []);
  ended = flag.ended;
  fits = omega (arith, flag.fits, length_push flag.behind bit);
}

flag_here : (past : List Bool) (bit : Bool) → ClosesSome past bit → FlagBefore (past ++ bit ∷ []) 0
flag_here past bit closes = record {
  before = past ++ bit ∷ [];
  behind = [];
  split = sym (append-nil (past ++ bit ∷ []));
  ended = closes_flag past closes.raw bit closes.closes;
  fits = omega arith;
}

-- a flag and a bit before it are nine bits
flags_apart : (past : List Bool) (bit : Bool) (few : ℕ) → FlagBefore past few → few ≤ 7 → ClosesSome past bit → ⊥
flags_apart past bit few flag fits closes =
    let since = closes.closes.is_since in
    let long : length closes.closes.since ≡ length closes.raw + 7 = closed_length past closes.closes.since closes.raw bit since closes.closes in
    let cut = cut_apart since.before closes.closes.since flag.before flag.behind (sym since.split ∙ flag.split) (omega (arith, long, closes.some, flag.fits)) in
    since.none_later cut.0 flag.behind cut.1 cut.2 (rw cut.3 at flag.ended)

-- the text of a good signal unit isn't empty
good_some : (raw : List Bool) (octets : List ℕ) → IsGood raw octets → 0 < length raw
good_some [] octets good =
    let empty : Stuffed [] [] = last 0 (omega arith) refl refl in
    absurd (omega (arith, good_length octets, ap length (one_content (line_bits (sealed_text octets)) [] [] good.stuffed empty)))
good_some (bit ∷ raw) octets good = omega arith

bad_some : (raw : List Bool) → (raw ≡ [] → ⊥) → 0 < length raw
bad_some [] some = absurd (some refl)
bad_some (bit ∷ raw) some = omega arith

counted_more : (past : List Bool) (bit : Bool) (few : ℕ) → CountedBefore past few → CountedBefore (past ++ bit ∷ []) (few + 1)
counted_more past bit few before counted counts =
    elim (lost_before past counted bit counts.lost) [
      | inl here ↦ omega (arith, ap length here.0)
      | inr earlier ↦
          let first : Counts past earlier.0 = record {
            lost = earlier.2;
            first = λ longer lost.
                omega (arith, ap length earlier.1, length_push earlier.0 bit, length_push longer bit, counts.first (longer ++ bit ∷ []) (lost_more past longer bit lost earlier.3));
          } in
          omega (arith, before earlier.0 first, ap length earlier.1, length_push earlier.0 bit)
    ]

counted_here : (past : List Bool) (bit : Bool) → EndsSixteen past bit → CountedBefore (past ++ bit ∷ []) 0
counted_here past bit sixteen counted counts =
    let more = counts_more past sixteen.counted bit sixteen.counts sixteen.not_good in
    omega (arith, sixteen.whole, length_push sixteen.counted bit, counts_alone (past ++ bit ∷ []) (sixteen.counted ++ bit ∷ []) counted more counts)

counted_apart : (past : List Bool) (bit : Bool) (few : ℕ) → CountedBefore past few → few < 127 → EndsSixteen past bit → ⊥
counted_apart past bit few before fits sixteen = omega (arith, sixteen.whole, before sixteen.counted sixteen.counts)

-- a bit's mark, and those of later bits
mark_first : (n : ℕ) (past : List Bool) (bit : Bool) (mark : Option Mark) (later marks : List Mark) → IsMark past bit mark
    → marks ≡ option_to_list mark ++ later → length later ≤ n → (ClosesSome past bit → length later < n)
    → (EndsSixteen past bit → length later < n) → length marks ≤ n
mark_first n past bit None later marks is same none flag sixteen = omega (arith, ap length same, none)
mark_first n past bit (Some (Good octets)) later marks is same none flag sixteen =
    omega (arith, ap length same, flag (record { raw = is.raw; closes = is.closes; some = good_some is.raw octets.items is.good }))
mark_first n past bit (Some Bad) later marks is same none flag sixteen =
    omega (arith, ap length same, flag (record { raw = is.0.raw; closes = is.0.closes; some = bad_some is.0.raw is.0.not_empty }))
mark_first n past bit (Some Sixteen) later marks is same none flag sixteen = omega (arith, ap length same, sixteen is)

-- soon after a flag and after sixteen octets that were counted there is none
none_after_both : (past bits : List Bool) (marks : List Mark) (few fewer : ℕ) → FlagBefore past few → CountedBefore past fewer
    → few + length bits ≤ 8 → fewer + length bits ≤ 8 → AreMarks past bits marks → length marks ≤ 0
none_after_both past [] marks few fewer flag counted a b are = omega (arith, ap length are)
none_after_both past (bit ∷ bits) marks few fewer flag counted a b are =
    mark_first 0 past bit are.0 are.1 marks are.2 are.4
    (none_after_both (past ++ bit ∷ []) bits are.1 (few + 1) (fewer + 1) (flag_more past bit few flag) (counted_more past bit fewer counted) (omega (arith, a)) (omega (arith, b)) are.3)
    (λ closes. absurd (flags_apart past bit few flag (omega (arith, a)) closes))
    (λ sixteen. absurd (counted_apart past bit fewer counted (omega (arith, b)) sixteen))

-- soon after a flag there is one at most
one_after_flag : (past bits : List Bool) (marks : List Mark) (few : ℕ) → FlagBefore past few → few + length bits ≤ 8
    → AreMarks past bits marks → length marks ≤ 1
one_after_flag past [] marks few flag a are = omega (arith, ap length are)
one_after_flag past (bit ∷ bits) marks few flag a are =
    let later = flag_more past bit few flag in
    mark_first 1 past bit are.0 are.1 marks are.2 are.4 (one_after_flag (past ++ bit ∷ []) bits are.1 (few + 1) later (omega (arith, a)) are.3)
    (λ closes. absurd (flags_apart past bit few flag (omega (arith, a)) closes))
    (λ sixteen. omega (arith, none_after_both (past ++ bit ∷ []) bits are.1 (few + 1) 0 later (counted_here past bit sixteen) (omega (arith, a)) (omega (arith, a)) are.3))

-- and soon after sixteen octets that were counted
one_after_counted : (past bits : List Bool) (marks : List Mark) (few : ℕ) → CountedBefore past few → few + length bits ≤ 8
    → AreMarks past bits marks → length marks ≤ 1
one_after_counted past [] marks few counted a are = omega (arith, ap length are)
one_after_counted past (bit ∷ bits) marks few counted a are =
    let later = counted_more past bit few counted in
    mark_first 1 past bit are.0 are.1 marks are.2 are.4 (one_after_counted (past ++ bit ∷ []) bits are.1 (few + 1) later (omega (arith, a)) are.3)
    (λ closes. omega (arith, none_after_both (past ++ bit ∷ []) bits are.1 0 (few + 1) (flag_here past bit closes) later (omega (arith, a)) (omega (arith, a)) are.3))
    (λ sixteen. absurd (counted_apart past bit few counted (omega (arith, a)) sixteen))

pub two_marks : (past bits : List Bool) (marks : List Mark) → AreMarks past bits marks → length bits ≤ 8 → length marks ≤ 2
two_marks past [] marks are few = omega (arith, ap length are)
two_marks past (bit ∷ bits) marks are few =
    mark_first 2 past bit are.0 are.1 marks are.2 are.4 (two_marks (past ++ bit ∷ []) bits are.1 are.3 (omega (arith, few)))
    (λ closes. omega (arith, one_after_flag (past ++ bit ∷ []) bits are.1 0 (flag_here past bit closes) (omega (arith, few)) are.3))
    (λ sixteen. omega (arith, one_after_counted (past ++ bit ∷ []) bits are.1 0 (counted_here past bit sixteen) (omega (arith, few)) are.3))

-- a good signal unit among the marks has 276 octets at most
good_first : (past : List Bool) (bit : Bool) (mark : Option Mark) (later : List Mark) (octets : List ℕ) → IsMark past bit mark
    → Good (record { items = octets }) ∷ [] ≡ option_to_list mark ++ later
    → (later ≡ Good (record { items = octets }) ∷ [] → length octets ≤ 276) → length octets ≤ 276
good_first past bit None later octets is same rest = rest (sym same)
good_first past bit (Some (Good other)) later octets is same rest =
    let here : octets ≡ other.items = cc in
    rw here is.good.longest
good_first past bit (Some Bad) later octets is same rest = cc
good_first past bit (Some Sixteen) later octets is same rest = cc

good_fits : (past bits : List Bool) (octets : List ℕ) → AreMarks past bits (Good (record { items = octets }) ∷ []) → length octets ≤ 276
good_fits past [] octets are = absurd (omega (arith, ap length are))
good_fits past (bit ∷ bits) octets are =
    good_first past bit are.0 are.1 octets are.2 are.4 (λ same. good_fits (past ++ bit ∷ []) bits octets (rw same at are.3))

kind_fits : (kind : MarkKind) (past bits : List Bool) (octets : List ℕ) → AreMarks past bits (marked kind octets ∷ [])
    → kind ≡ GoodKind → length octets ≤ 276
kind_fits GoodKind past bits octets are is = good_fits past bits octets are
kind_fits BadKind past bits octets are is = cc
kind_fits SixteenKind past bits octets are is = cc

pub mark_fits : (kind : MarkKind) (past : List Bool) (bit : Bool) (octets : List ℕ) → IsMark past bit (Some (marked kind octets))
    → kind ≡ GoodKind → length octets ≤ 276
mark_fits GoodKind past bit octets mark is = mark.good.longest
mark_fits BadKind past bit octets mark is = cc
mark_fits SixteenKind past bit octets mark is = cc

-- one mark more, for which there is room
module _ (past all mid rest : List Bool) (a b : Deframer) (marks : List Mark) (kind : MarkKind)
    (eight : length all ≤ 8) (first : MarkedUpTo past all mid a marks)
    (feeds : (front : List Bool) → StandsFor front a → FeedsUpTo front mid rest b (Some (marked kind (unit_of b)))) where
  more : FeedsUpTo (past ++ first.taken) mid rest b (Some (marked kind (unit_of b)))
  more = feeds (past ++ first.taken) first.stands

  pub marked_on : MarkedUpTo past all rest b (marks ++ marked kind (unit_of b) ∷ [])
  marked_on =
      let next = more in
      record {
        taken = first.taken ++ next.taken;
        split =
            first.split ∙ ap (λ (left : List Bool). first.taken ++ left) next.split
            ∙ sym (append_assoc first.taken next.taken rest);
        stands = rw (append_assoc past first.taken next.taken) at next.stands;
        are = marks-append past first.taken next.taken marks (marked kind (unit_of b) ∷ []) first.are next.marks;
      }

  pub has_room : length marks < 2
  has_room =
      let whole = marked_on in
      omega (
        arith,
        two_marks past whole.taken (marks ++ marked kind (unit_of b) ∷ []) whole.are (omega (arith, eight, ap length whole.split, length-append whole.taken rest)),
        length-append marks (marked kind (unit_of b) ∷ []),
      )

  pub unit_fits : kind ≡ GoodKind → length (unit_of b) ≤ 276
  unit_fits good =
      let next = more in
      kind_fits kind (past ++ first.taken) next.taken (unit_of b) next.marks good

-- none more
pub marked_all : (past all mid rest : List Bool) (a b : Deframer) (marks : List Mark) → MarkedUpTo past all mid a marks
    → ((front : List Bool) → StandsFor front a → FeedsUpTo front mid rest b None) → rest ≡ []
    → StandsFor (past ++ all) b × AreMarks past all marks
marked_all past all mid rest a b marks first feeds none =
    let next = feeds (past ++ first.taken) first.stands in
    let whole : first.taken ++ next.taken ≡ all =
    sym (first.split ∙ ap (λ (left : List Bool). first.taken ++ left) (next.split ∙ ap (λ (left : List Bool). next.taken ++ left) none ∙ append-nil next.taken)) in (
      rw (append_assoc past first.taken next.taken, whole) at next.stands,
      rw (whole, append-nil marks) at (marks-append past first.taken next.taken marks [] first.are next.marks),
    )

-- what a push gives where there is room
pub pushed : {A E P : Type 0} (result : Result A E) → IsOk result → OnOk result P → P
pushed (Ok done) is done_so = done_so
pushed (Err error) is done_so = absurd (false≢true is)
