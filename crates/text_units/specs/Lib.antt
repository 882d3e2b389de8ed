pub mod DecodeExplaining
pub mod Decoding
pub mod UnitsReading
pub mod UnitsText
