pub mod Auditing
pub mod Explaining
pub mod Reading
