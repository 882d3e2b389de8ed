pub mod CarryingLemmas
pub mod DamageLemmas
pub mod Heard
