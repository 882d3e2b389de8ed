-- What a deframer keeps, some bits more
use Rattle.std.proofs.Common.{◌≡◌, ℕ, ◌+◌, ◌*◌, ◌%◌, ◌<◌, ◌≤◌, ◌==◌, if◌then◌else◌, inl, inr, Bool, true, false, List, [], ◌∷◌, ◌++◌, length, replicate, Option, Some, None, refl, ap, sym, ◌∙◌, arith, append_assoc, length-append}
use Rattle.std.proofs.lemmas.List.{append-nil, length_push, length-replicate, nil_from_length, same_from_push}
use Rattle.std.proofs.Math.Nat.{eq-or-lt_of_le}
use Rattle.std.proofs.lemmas.Bool.{cases_lt}
use Rattle.l2_bits.specs.declared.marks.MarkKind.{MarkKind}
use Rattle.l2_bits.specs.declared.marks.MarkKind.TheVariants.{Sixteen as SixteenKind}
use Rattle.l2_bits.specs.declared.content.Content.{Content}
use Rattle.l2_bits.specs.declared.marks.Mark.TheVariants.{Bad, Sixteen}
use Rattle.l2_bits.specs.LineBits.{line_bits}
use Rattle.l2_bits.specs.Flags.{flag, EndsIn, IsFlagEnd, Since, Closes}
use Rattle.l2_bits.specs.Stuffing.{ones, content_after}
use Rattle.l2_bits.specs.SealedText.{sealed_text}
use Rattle.l2_bits.specs.Contents.{IsClosed, EndsGood}
use Rattle.l2_bits.specs.OctetCounting.{LosesAlignment, seven_ones, too_long, Counts}
use Rattle.l2_bits.specs.Marks.{IsMark, AreMarks}
use Rattle.l2_bits.specs.Deframing.{Holds, HasContent, CanEndNone, KeepsCount, GoesOn, mark_of}
use Rattle.l2_bits.proofs.StuffingLemmas.{content_after-nil, content_after-bit, content_after-inserted, content_alone, is_text_of}
use Rattle.l2_bits.proofs.ContentLemmas.{good_length}
use Rattle.l2_bits.proofs.RunLemmas.{run_of, front_runs, flag_after_six, seven_after_six}
use Rattle.l2_bits.proofs.TakingOutLemmas.{NoSix, no_six_first, no_six_more, content_after-append, content_kept, content_dropped, good_closed, closed_good}
use Rattle.l2_bits.proofs.FlagLemmas.{since_more, closes_is, closes_flag, between, closes_between, closed_length}
use Rattle.l2_bits.proofs.CountingLemmas.{NoUnit, unit_flag, flag_aligns, loses_by, counts_more, unit_aligns, counting_begins, still_aligned, counts_alone}

-- ---- the content

-- taking out makes no bits
few_ones : (bit : Bool) (run : ℕ) → run < 5 → (if bit then run + 1 else 0) ≤ 5
few_ones true run few = omega arith
few_ones false run few = omega arith

content_shorter : (run : ℕ) (bits : List Bool) → run ≤ 5 → length (content_after run bits) ≤ length bits
content_shorter run [] within = omega (arith, ap length (content_after-nil run))
content_shorter run (bit ∷ bits) within =
    elim (eq-or-lt_of_le within) [
      | inl fifth ↦ rw (fifth, content_after-inserted bit bits) (omega (arith, content_shorter 0 bits (omega arith)))
      | inr below ↦
          let few : run < 5 = below in
          let next : (if bit then run + 1 else 0) ≤ 5 = few_ones bit run few in
          rw (content_after-bit run bit bits few) (omega (arith, content_shorter (if bit then run + 1 else 0) bits next))
    ]

flag_short : (run : ℕ) → length (content_after (run % 6) flag) ≤ 7
unfolding flag content_after
flag_short run = by (run % 6 == 5)
  where
    by : (b : Bool) → length (if b then true ∷ true ∷ true ∷ true ∷ true ∷ false ∷ [] else false ∷ true ∷ true ∷ true ∷ true ∷ true ∷ false ∷ []) ≤ 7
    by true = omega arith
    by false = omega arith

-- content of too many bits
too_many : (since : List Bool) → 8 * 279 ≤ length (content_after 0 since) → CanEndNone since
too_many since long rest raw octets same good =
    let front : content_after 0 (since ++ rest) ≡ content_after 0 since ++ content_after (run_of 0 since % 6) rest = content_after-append 0 since rest in
    let whole : content_after 0 (raw ++ flag) ≡ content_after 0 raw ++ content_after (run_of 0 raw % 6) flag = content_after-append 0 raw flag in
    omega (
      arith,
      good_length octets,
      good.longest,
      ap length (content_alone _ raw good.stuffed),
      flag_short (run_of 0 raw),
      ap length (sym front ∙ ap (content_after 0) same ∙ whole),
      length-append (content_after 0 since) (content_after (run_of 0 since % 6) rest),
      length-append (content_after 0 raw) (content_after (run_of 0 raw % 6) flag),
    )

-- a seventh one, or what follows it
pub lost_more : (past since : List Bool) (bit : Bool) → GoesOn past since bit → 6 ≤ run_of 0 since → CanEndNone (since ++ bit ∷ [])
lost_more past since bit goes six [] raw octets same good =
    goes.no_flag (closes_flag past raw bit (record { since = since; is_since = goes.is_since; closed = sym (append-nil (since ++ bit ∷ [])) ∙ same }))
lost_more past since bit goes six (x ∷ rest) raw octets same good =
    omega (arith, front_runs raw since (bit ∷ x ∷ rest) (is_text_of _ raw good.stuffed) (sym same ∙ append_assoc since (bit ∷ []) (x ∷ rest)) (omega arith))

still_lost : (since bits : List Bool) → CanEndNone since → CanEndNone (since ++ bits)
still_lost since bits none rest raw octets same good = none (bits ++ rest) raw octets (sym (append_assoc since bits rest) ∙ same) good

-- nothing more is kept of the line up to the next flag
pub content_lost : (past since : List Bool) (bit : Bool) (old : Content) → GoesOn past since bit → 6 ≤ run_of 0 since
    → HasContent since old → HasContent (since ++ bit ∷ []) (record { octets = old.octets; len = 279; part = old.part; more = old.more })
content_lost past since bit old goes six has = record {
  bits = replicate 2232 false;
  holds = record {
    room = has.holds.room;
    few = omega arith;
    in_range = has.holds.in_range;
    less = has.holds.less;
    part_fits = has.holds.part_fits;
    packed = λ below. absurd (omega arith);
    long = λ _. omega (arith, length-replicate 2232 false);
  };
  taken_out = λ below. absurd (omega arith);
  no_six = λ below. absurd (omega arith);
  lost = λ _. lost_more past since bit goes six;
}

-- the bit after five ones
pub content_same : (since : List Bool) (bit : Bool) (old : Content) → run_of 0 since ≡ 5 → HasContent since old → HasContent (since ++ bit ∷ []) old
content_same since bit old five has = record {
  bits = has.bits;
  holds = has.holds;
  taken_out = λ below. has.taken_out below ∙ sym (content_dropped since bit five);
  no_six = λ below. no_six_more since bit (has.no_six below) (omega arith);
  lost = λ full. still_lost since (bit ∷ []) (has.lost full);
}

-- no five ones stand before any of these bits
abbrev pub Plain : List Bool → List Bool → Type 0
Plain since bits = (a b : List Bool) (bit : Bool) → bits ≡ a ++ bit ∷ b → run_of 0 (since ++ a) < 5

pub plain_single : (since : List Bool) (bit : Bool) → run_of 0 since < 5 → Plain since (bit ∷ [])
plain_single since bit few [] b x same = rw append-nil few
plain_single since bit few (y ∷ a) b x same = absurd (omega (arith, ap length same, length-append a (x ∷ b)))

plain_first : (since bits : List Bool) (bit : Bool) → Plain since (bit ∷ bits) → run_of 0 since < 5
plain_first since bits bit plain = rw append-nil at (plain [] bits bit refl)

plain_rest : (since bits : List Bool) (bit : Bool) → Plain since (bit ∷ bits) → Plain (since ++ bit ∷ []) bits
plain_rest since bits bit plain a b x same =
    rw (← append_assoc since (bit ∷ []) a) at (plain (bit ∷ a) b x (ap (λ (rest : List Bool). bit ∷ rest) same))

plain_kept : (since bits : List Bool) → Plain since bits → content_after 0 (since ++ bits) ≡ content_after 0 since ++ bits
plain_kept since [] plain = rw (append-nil since) (sym (append-nil (content_after 0 since)))
plain_kept since (bit ∷ bits) plain =
    let few : run_of 0 since < 5 = plain_first since bits bit plain in
    ap (content_after 0) (sym (append_assoc since (bit ∷ []) bits))
    ∙ plain_kept (since ++ bit ∷ []) bits (plain_rest since bits bit plain)
    ∙ ap (λ (front : List Bool). front ++ bits) (content_kept since bit (omega arith))
    ∙ append_assoc (content_after 0 since) (bit ∷ []) bits

plain_calm : (since bits : List Bool) → Plain since bits → NoSix since → NoSix (since ++ bits)
plain_calm since [] plain calm = rw (append-nil since) calm
plain_calm since (bit ∷ bits) plain calm =
    let few : run_of 0 since < 5 = plain_first since bits bit plain in
    rw (← append_assoc since (bit ∷ []) bits)
    (plain_calm (since ++ bit ∷ []) bits (plain_rest since bits bit plain) (no_six_more since bit calm (omega arith)))

pub content_more : (since bits : List Bool) (old new : Content) → Plain since bits → (has : HasContent since old)
    → (old.len ≡ 279 → new.len ≡ 279) → Holds (has.bits ++ bits) new → HasContent (since ++ bits) new
content_more since bits old new plain has stays holds = record {
  bits = has.bits ++ bits;
  holds = holds;
  taken_out = λ below. taken (before below);
  no_six = λ below. plain_calm since bits plain (has.no_six (before below));
  lost = λ full.
      elim (eq-or-lt_of_le has.holds.few) [
        | inl all ↦ still_lost since bits (has.lost all)
        | inr below ↦
            let less : old.len < 279 = below in
            too_many (since ++ bits) (rw (taken less) at (holds.long full))
      ];
}
  where
    before : new.len < 279 → old.len < 279
    before below =
        let full : old.len ≡ 279 → ⊥ = λ all. omega (arith, stays all) in
        omega (arith, has.holds.few, full)

    taken : old.len < 279 → has.bits ++ bits ≡ content_after 0 (since ++ bits)
    taken below = ap (λ (front : List Bool). front ++ bits) (has.taken_out below) ∙ sym (plain_kept since bits plain)

-- ---- octet counting

-- one bit more with which no good signal unit ends
module _ (past counted : List Bool) (bit : Bool) (room : ℕ) (counts : Counts past counted) (left : (length counted + room) % 128 ≡ 0)
    (some : 0 < room) (most : room ≤ 128) (none : NoUnit past bit) where
  counted_on : Counts (past ++ bit ∷ []) (counted ++ bit ∷ [])
  counted_on = counts_more past counted bit counts none

  pub one_less : (since : List Bool) (next : ℕ) → next + 1 ≡ room → 0 < next → KeepsCount (past ++ bit ∷ []) since true next
  one_less since next is more =
      (counted ++ bit ∷ [], counted_on, omega (arith, length_push counted bit), more, omega arith)

  pub one_less_mark : 1 < room → IsMark past bit None
  one_less_mark more = (
    none,
    (λ bad aligned. aligned counted counts.lost),
    λ sixteen. omega (arith, sixteen.whole, counts_alone past counted sixteen.counted counts sixteen.counts),
  )

  pub sixteen_more : (since : List Bool) → room ≤ 1 → KeepsCount (past ++ bit ∷ []) since true 128
  sixteen_more since last = (counted ++ bit ∷ [], counted_on, omega (arith, length_push counted bit), omega arith, omega arith)

  pub sixteen_mark : room ≤ 1 → IsMark past bit (Some Sixteen)
  sixteen_mark last = record { counted = counted; counts = counts; whole = omega arith; not_good = none }

-- as the code counts it
pub counted_more : (past since next : List Bool) (bit : Bool) (room new : ℕ) (kind : Option MarkKind) → KeepsCount past since true room → NoUnit past bit
    → (1 < room → (new + 1 ≡ room) × (kind ≡ None)) → (room ≤ 1 → (new ≡ 128) × (kind ≡ Some SixteenKind))
    → KeepsCount (past ++ bit ∷ []) next true new × ((octets : List ℕ) → IsMark past bit (mark_of kind octets))
counted_more past since next bit room new kind keeps none more whole =
    elim (cases_lt 1 room) [
      | inl some ↦
          let h : 1 < room = some in
          let is = more h in (
            one_less past keeps.0 bit room keeps.1 keeps.2 keeps.3 keeps.4 none next new is.0 (omega (arith, is.0)),
            λ octets. rw is.1 (one_less_mark past keeps.0 bit room keeps.1 keeps.2 keeps.3 keeps.4 none h),
          )
      | inr last ↦
          let is = whole last in (
            rw is.0 (sixteen_more past keeps.0 bit room keeps.1 keeps.2 keeps.3 keeps.4 none next last),
            λ octets. rw is.1 (sixteen_mark past keeps.0 bit room keeps.1 keeps.2 keeps.3 keeps.4 none last),
          )
    ]

-- one bit more that ends no flag
module _ (past since : List Bool) (bit : Bool) (goes : GoesOn past since bit) where
  pub no_unit : NoUnit past bit
  no_unit octets unit = goes.no_flag (unit_flag past bit octets unit)

  pub since_on : Since (past ++ bit ∷ []) (since ++ bit ∷ [])
  since_on = since_more past since bit goes.is_since goes.no_flag

  module _ (room : ℕ) (keeps : KeepsCount past since false room) where
    pub begins_seven : EndsIn (flag ++ (past ++ bit ∷ [])) (ones 7) → KeepsCount (past ++ bit ∷ []) (since ++ bit ∷ []) true 128
    begins_seven seven = ([], counting_begins past bit keeps.0 (seven_ones seven), refl, omega arith, omega arith)

    pub begins_long : room ≤ 1 → KeepsCount (past ++ bit ∷ []) (since ++ bit ∷ []) true 128
    begins_long last =
        ([], counting_begins past bit keeps.0 (too_long (since ++ bit ∷ []) since_on (omega (arith, length_push since bit, keeps.1, keeps.2))), refl, omega arith, omega arith)

    pub waits_on : (EndsIn (flag ++ (past ++ bit ∷ [])) (ones 7) → ⊥) → (next : ℕ) → next + 1 ≡ room → 0 < next
        → KeepsCount (past ++ bit ∷ []) (since ++ bit ∷ []) false next
    waits_on other next is more =
        let keeps_on : LosesAlignment (past ++ bit ∷ []) → ⊥ =
        λ loses.
        elim (loses_by (past ++ bit ∷ []) (since ++ bit ∷ []) since_on loses) [
          | inl seven ↦ other seven
          | inr long ↦ omega (arith, long, length_push since bit, keeps.1)
        ] in
        (still_aligned past bit keeps.0 keeps_on, omega (arith, length_push since bit, keeps.1), more)

    pub waits_mark : IsMark past bit None
    waits_mark = (
      no_unit,
      (λ bad aligned. goes.no_flag (closes_flag past bad.raw bit bad.closes)),
      λ sixteen. keeps.0 sixteen.counted sixteen.counts.lost,
    )

-- ---- bits before which no five ones stand

calm_goes : (past since : List Bool) (bit : Bool) → Since past since → run_of 0 since < 6 → GoesOn past since bit
calm_goes past since bit is few = record { is_since = is; no_flag = none }
  where
    none : IsFlagEnd (past ++ bit ∷ []) → ⊥
    none ends = omega (arith, few, flag_after_six is.before since bit is.ended (rw is.split at ends))

no_seven : (past since : List Bool) (bit : Bool) → Since past since → run_of 0 since < 6 → EndsIn (flag ++ (past ++ bit ∷ [])) (ones 7) → ⊥
no_seven past since bit is few seven =
    omega (arith, few, seven_after_six is.before since bit is.ended (rw is.split at seven))

-- a bit with which nothing ends and nothing begins
pub calm_mark : (past since : List Bool) (bit counting : Bool) (next : ℕ) → GoesOn past since bit
    → KeepsCount past since counting (next + 1) → 0 < next → IsMark past bit None
calm_mark past since bit false next goes keeps more = waits_mark past since bit goes (next + 1) keeps
calm_mark past since bit true next goes keeps more =
    one_less_mark past keeps.0 bit (next + 1) keeps.1 keeps.2 keeps.3 keeps.4 (no_unit past since bit goes) (omega arith)

pub calm_on : (past since : List Bool) (bit counting : Bool) (next : ℕ) → GoesOn past since bit
    → (EndsIn (flag ++ (past ++ bit ∷ [])) (ones 7) → ⊥) → KeepsCount past since counting (next + 1) → 0 < next
    → KeepsCount (past ++ bit ∷ []) (since ++ bit ∷ []) counting next
calm_on past since bit false next goes calm keeps more = waits_on past since bit goes (next + 1) keeps calm next refl more
calm_on past since bit true next goes calm keeps more =
    one_less past keeps.0 bit (next + 1) keeps.1 keeps.2 keeps.3 keeps.4 (no_unit past since bit goes) (since ++ bit ∷ []) next refl more

plain_one : (past since : List Bool) (bit counting : Bool) (next : ℕ) → Since past since → run_of 0 since < 5
    → KeepsCount past since counting (next + 1) → 0 < next
    → KeepsCount (past ++ bit ∷ []) (since ++ bit ∷ []) counting next × IsMark past bit None
plain_one past since bit counting next is few keeps more =
    let goes = calm_goes past since bit is (omega arith) in
    (calm_on past since bit counting next goes (no_seven past since bit is (omega arith)) keeps more, calm_mark past since bit counting next goes keeps more)

-- they give no mark
pub record PlainOn (past since bits : List Bool) (counting : Bool) (room : ℕ) : Type 0 where
  pub is_since : Since (past ++ bits) (since ++ bits)
  pub keeps : KeepsCount (past ++ bits) (since ++ bits) counting room
  pub marks : AreMarks past bits []

pub plain_all : (past since bits : List Bool) (counting : Bool) (room next : ℕ) → Since past since → Plain since bits
    → KeepsCount past since counting room → next + length bits ≡ room → 0 < next → PlainOn past since bits counting next
plain_all past since [] counting room next is plain keeps sum more =
    let same : room ≡ next = omega arith in
    record { is_since = rw (append-nil past, append-nil since) is; keeps = rw (append-nil past, append-nil since) (rw same at keeps); marks = refl }
plain_all past since (bit ∷ bits) counting room next is plain keeps sum more =
    let few : run_of 0 since < 5 = plain_first since bits bit plain in
    let goes = calm_goes past since bit is (omega arith) in
    let split : room ≡ next + length bits + 1 = omega arith in
    let one = plain_one past since bit counting (next + length bits) is few (rw split at keeps) (omega arith) in
    let rest = plain_all (past ++ bit ∷ []) (since ++ bit ∷ []) bits counting (next + length bits) next (since_on past since bit goes) (plain_rest since bits bit plain) one.0 refl more in
    let past_is : (past ++ bit ∷ []) ++ bits ≡ past ++ bit ∷ bits = append_assoc past (bit ∷ []) bits in
    let since_is : (since ++ bit ∷ []) ++ bits ≡ since ++ bit ∷ bits = append_assoc since (bit ∷ []) bits in
    record {
      is_since = rw (past_is, since_is) at rest.is_since;
      keeps = rw (past_is, since_is) at rest.keeps;
      marks = (None, [], one.1, rest.marks, refl);
    }

-- ---- a flag

module _ (past since : List Bool) (bit : Bool) (is : Since past since) (ends : IsFlagEnd (past ++ bit ∷ [])) where
  -- the flag closes what stands before its last seven bits
  split_at : (raw : List Bool) → since ++ bit ∷ [] ≡ raw ++ flag → since ≡ raw ++ false ∷ ones 6
  unfolding flag
  split_at raw same =
      (same_from_push since (raw ++ false ∷ ones 6) bit false (same ∙ sym (append_assoc raw (false ∷ ones 6) (false ∷ [])))).0

  pub good_here : (content : Content) (octets : List ℕ) → (has : HasContent since content) → content.len < 279
      → IsClosed has.bits octets → EndsGood past bit octets
  good_here content octets has below closed =
      let taken : IsClosed (content_after 0 since) octets = rw (has.taken_out below) at closed in
      let long : 7 ≤ length since =
      omega (arith, content_shorter 0 since (omega arith), ap length taken.closed, length-append (line_bits (sealed_text octets)) (false ∷ ones 5), good_length octets) in
      let closes : Closes past bit (between since) = closes_between past since bit is ends long in
      record {
        raw = between since;
        closes = closes;
        good = closed_good since (between since) octets (split_at (between since) (closes_is past since (between since) bit closes is)) (has.no_six below) taken;
      }

  pub no_good : (content : Content) → (has : HasContent since content) → ((octets : List ℕ) → IsClosed has.bits octets → ⊥) → NoUnit past bit
  no_good content has none octets unit =
      let same : since ++ bit ∷ [] ≡ unit.raw ++ flag = closes_is past since unit.raw bit unit.closes is in
      elim (eq-or-lt_of_le has.holds.few) [
        | inl all ↦ has.lost all (bit ∷ []) unit.raw octets same unit.good
        | inr below ↦
            let less : content.len < 279 = below in
            none octets (rw (← has.taken_out less) at (good_closed since unit.raw octets (split_at unit.raw same) unit.good))
      ]

  pub aligned_here : (room : ℕ) → KeepsCount past since false room → KeepsCount (past ++ bit ∷ []) [] false 2677
  aligned_here room keeps =
      (still_aligned past bit keeps.0 (flag_aligns (past ++ bit ∷ []) ends), refl, omega arith)

  pub good_aligns : (octets : List ℕ) → EndsGood past bit octets → KeepsCount (past ++ bit ∷ []) [] false 2677
  good_aligns octets unit = (unit_aligns past bit octets unit, refl, omega arith)

  module _ (room : ℕ) (keeps : KeepsCount past since false room) (none : NoUnit past bit) where
    pub empty_mark : 2669 < room → IsMark past bit None
    empty_mark short = (
      none,
      (λ bad aligned.
          bad.not_empty (nil_from_length bad.raw (omega (arith, keeps.1, closed_length past since bad.raw bit is bad.closes)))),
      λ sixteen. keeps.0 sixteen.counted sixteen.counts.lost,
    )

    pub bad_mark : room ≤ 2669 → IsMark past bit (Some Bad)
    bad_mark long =
        let seven : 7 ≤ length since = omega (arith, keeps.1) in
        let closes : Closes past bit (between since) = closes_between past since bit is ends seven in (
          record {
            raw = between since;
            closes = closes;
            not_empty = λ empty. omega (arith, keeps.1, ap length empty, closed_length past since (between since) bit is closes);
            not_good = λ octets good. none octets (record { raw = between since; closes = closes; good = good });
          },
          keeps.0,
        )

-- nothing since the flag
pub content_none : (content : Content) → Holds [] content → content.len ≡ 0 → HasContent [] content
content_none content holds none = record {
  bits = [];
  holds = holds;
  taken_out = λ below. sym (content_after-nil 0);
  no_six = λ below. no_six_first;
  lost = λ full. absurd (omega arith);
}
