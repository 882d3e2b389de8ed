pub mod Bits
mod Choosing
pub mod Kept
