pub mod Errors
pub mod Counting
