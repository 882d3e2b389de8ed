pub mod Lines
pub mod Pairs
mod Passing
pub mod Tasks
pub mod Plans
