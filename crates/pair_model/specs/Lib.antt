pub mod Promises
pub mod Run
pub mod World
