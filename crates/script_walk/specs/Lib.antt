pub mod Explaining
pub mod Reasons
pub mod Scripts
pub mod Faults
pub mod Runs
