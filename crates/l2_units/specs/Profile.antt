-- THE TWO PROFILES: how many numbers the messages of a link have, and how long their bodies can be.
use Rattle.std.specs.Prelude.{ℕ}
pub use Rattle.l2_units.specs.declared.profile.Profile.{Profile}
pub use Rattle.l2_units.specs.declared.profile.Profile.TheVariants.{Narrow, Wide}

-- FSNs and BSNs have seven bits (Q.703 2.2), or twelve (own): they count cyclically from 0 to 127, or to 4,095
abbrev pub fsn_count : Profile → ℕ
fsn_count Narrow = 128
fsn_count Wide = 4096

-- at most so many messages are unacknowledged, so that no two of them have one FSN (Q.703 5.2.2)
abbrev pub most_unacked : Profile → ℕ
most_unacked Narrow = 127
most_unacked Wide = 4095

-- a body has at most so many octets: a unit has at most 276 (Q.703 2.3.3)
abbrev pub longest_body : Profile → ℕ
longest_body Narrow = 273
longest_body Wide = 272
