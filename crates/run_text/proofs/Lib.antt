pub mod Each
pub mod Ends
pub mod Failing
pub mod Pairing
pub mod Placing
pub mod Sums
pub mod Verdicts
