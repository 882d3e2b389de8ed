pub mod Lives
pub mod Octets
pub mod Starting
