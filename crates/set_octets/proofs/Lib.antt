pub mod Held
pub mod Lateness
pub mod Lives
pub mod Starting
