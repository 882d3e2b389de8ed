-- What a deframer keeps of the bits fed
use Rattle.std.specs.Prelude.{◌≡◌, ◌≢◌, ℕ, ◌+◌, ◌*◌, ◌%◌, ◌^◌, ◌<◌, ◌≤◌, Bool, true, false, List, [], ◌∷◌, ◌++◌, length, take, All, Option, Some, None}
use Rattle.l2_bits.specs.declared.content.Content.{Content}
use Rattle.l2_bits.specs.declared.deframing.Deframer.{Deframer}
use Rattle.l2_bits.specs.declared.rest.Rest.{Rest}
use Rattle.l2_bits.specs.declared.rest.Octets.{Octets}
use Rattle.l2_bits.specs.declared.marks.Mark.{Mark}
use Rattle.l2_bits.specs.declared.marks.Mark.TheVariants.{Good, Bad, Sixteen}
use Rattle.l2_bits.specs.declared.marks.MarkKind.{MarkKind}
use Rattle.l2_bits.specs.declared.marks.MarkKind.TheVariants.{Good as GoodKind, Bad as BadKind, Sixteen as SixteenKind}
use Rattle.l2_bits.specs.LineBits.{bits_of, line_bits}
use Rattle.l2_bits.specs.Flags.{flag, EndsIn, IsFlagEnd, Since}
use Rattle.std.specs.Option.{option_to_list}
use Rattle.l2_bits.specs.Marks.{AreMarks}
use Rattle.l2_bits.specs.Stuffing.{ones, content_after, is_text}
use Rattle.l2_bits.specs.Contents.{IsGood}
use Rattle.l2_bits.specs.OctetCounting.{Counts, IsAligned}

-- these bits are packed into whole octets and a part of one, unless they are too many
pub record Holds (bits : List Bool) (content : Content) : Type 0 where
  pub room : length content.octets ≡ 287
  pub few : content.len ≤ 279
  pub in_range : All (λ octet. octet < 2 ^ 8) content.octets
  pub less : content.more < 8
  pub part_fits : content.part < 2 ^ content.more
  pub packed : content.len < 279
      → bits ≡ line_bits (take content.len content.octets) ++ bits_of content.more content.part
  pub long : content.len ≡ 279 → 8 * 279 ≤ length bits

-- no good signal unit can end at the next flag, whatever bits follow
abbrev pub CanEndNone : List Bool → Type 0
CanEndNone since =
    (rest raw : List Bool) (octets : List ℕ) → since ++ rest ≡ raw ++ flag → IsGood raw octets → ⊥

-- it has the content of the bits since the last flag, unless no good signal unit can end at the next
pub record HasContent (since : List Bool) (content : Content) : Type 0 where
  pub bits : List Bool
  pub holds : Holds bits content
  pub taken_out : content.len < 279 → bits ≡ content_after 0 since
  -- six ones stand at the end alone
  pub no_six : content.len < 279 → (front : List Bool) (bit : Bool) → since ≡ front ++ bit ∷ []
      → is_text 0 (front ++ false ∷ []) ≡ true
  pub lost : content.len ≡ 279 → CanEndNone since

-- what it keeps of octet counting: while it runs, how many bits are left until sixteen octets more are
-- counted; else how many until it begins for want of a flag
abbrev pub KeepsCount : List Bool → List Bool → Bool → ℕ → Type 0
KeepsCount fed since false room = IsAligned fed × (length since + room ≡ 2677) × (0 < room)
KeepsCount fed since true room =
    (counted : List Bool) × Counts fed counted × ((length counted + room) % 128 ≡ 0) × (0 < room) × (room ≤ 128)

-- these are kept of the bits since the last flag, and of octet counting
pub record KeepsLine (fed : List Bool) (content : Content) (counting : Bool) (room : ℕ) : Type 0 where
  pub since : List Bool
  pub is_since : Since fed since
  pub has_content : HasContent since content
  pub keeps_count : KeepsCount fed since counting room

-- it stands for these bits: it has the last eight, and what is kept of those since the last flag
pub record StandsFor (fed : List Bool) (deframer : Deframer) : Type 0 where
  pub last_bits : EndsIn (flag ++ fed) (bits_of 8 deframer.last)
  pub line : KeepsLine fed deframer.content deframer.counting deframer.room

-- the bits since the last flag, and one more that ends none
pub record GoesOn (past since : List Bool) (bit : Bool) : Type 0 where
  pub is_since : Since past since
  pub no_flag : IsFlagEnd (past ++ bit ∷ []) → ⊥

-- the mark of this kind, where a good signal unit has these octets
abbrev pub marked : MarkKind → List ℕ → Mark
marked GoodKind octets = Good (record { items = octets })
marked BadKind octets = Bad
marked SixteenKind octets = Sixteen

abbrev pub mark_of : Option MarkKind → List ℕ → Option Mark
mark_of None octets = None
mark_of (Some kind) octets = Some (marked kind octets)

-- the octets of the last good signal unit, until more of the line is fed
abbrev pub unit_of : Deframer → List ℕ
unit_of deframer = take deframer.unit deframer.content.octets

-- the bits of an octet, or of a few, that are still to be fed
abbrev pub rest_of : Rest → List Bool
rest_of rest = bits_of rest.left rest.bits

-- the bits of octets that are still to be fed
abbrev pub left_in : Octets → List Bool
left_in octets = rest_of octets.first ++ line_bits octets.others.now

-- none of these bits comes after five ones, where those are the last eight before them
abbrev pub NoneAfterFive : ℕ → List Bool → Type 0
NoneAfterFive last bits =
    (front : List Bool) (i : ℕ) → i < length bits → EndsIn (front ++ (bits_of 8 last ++ take i bits)) (ones 5) → ⊥

-- these bits were fed, and gave no mark
pub record Runs (past bits : List Bool) (deframer : Deframer) : Type 0 where
  pub stands : StandsFor (past ++ bits) deframer
  pub marks : AreMarks past bits []

-- no mark ends before the last of these bits
pub record NoneBeforeLast (past taken : List Bool) : Type 0 where
  pub front : List Bool
  pub bit : Bool
  pub split : taken ≡ front ++ bit ∷ []
  pub none : AreMarks past front []

-- the first of these bits were taken, with the last of which this mark ends, if any, and none before
pub record FeedsUpTo (past bits rest : List Bool) (deframer : Deframer) (mark : Option Mark) : Type 0 where
  pub taken : List Bool
  pub split : bits ≡ taken ++ rest
  pub stands : StandsFor (past ++ taken) deframer
  pub marks : AreMarks past taken (option_to_list mark)
  pub last : mark ≢ None → NoneBeforeLast past taken

-- the first of these bits were taken, with which these marks end
pub record MarkedUpTo (past bits rest : List Bool) (deframer : Deframer) (marks : List Mark) : Type 0 where
  pub taken : List Bool
  pub split : bits ≡ taken ++ rest
  pub stands : StandsFor (past ++ taken) deframer
  pub are : AreMarks past taken marks
