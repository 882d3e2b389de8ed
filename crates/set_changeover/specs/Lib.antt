pub mod Agreement
pub mod Controls
pub mod Parts
pub mod Room
pub mod Turning
