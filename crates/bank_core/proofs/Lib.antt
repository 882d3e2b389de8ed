pub mod Ending
pub mod Tasks
