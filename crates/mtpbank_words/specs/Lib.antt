pub mod Advice
pub mod CommandLine
pub mod RunOptions
