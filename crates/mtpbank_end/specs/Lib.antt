pub mod Holding
pub mod Following
pub mod Codes
