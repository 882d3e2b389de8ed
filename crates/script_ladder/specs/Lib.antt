pub mod Diverted
pub mod Ladder
pub mod Names
pub mod Notes
