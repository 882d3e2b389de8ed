pub mod Asking
pub mod Calm
pub mod Falling
pub mod Hearing
pub mod Resting
pub mod Talking
