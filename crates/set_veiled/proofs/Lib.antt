pub mod Sound
pub mod Veiled
