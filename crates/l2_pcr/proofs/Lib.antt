mod Choosing
pub mod Kept
