pub mod Managing
pub mod Noise
pub mod Opening
pub mod Sides
