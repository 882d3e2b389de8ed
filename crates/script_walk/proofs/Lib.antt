mod Reasons
mod Runs
pub mod Rises
