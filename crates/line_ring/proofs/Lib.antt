pub mod Losing
pub mod Rounds
