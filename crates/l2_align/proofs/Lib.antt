pub mod Steps
pub mod Walks
