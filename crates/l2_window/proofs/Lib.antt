pub mod Cycles
pub mod Heard
pub mod Inserting
pub mod Line
pub mod Numbers
pub mod Rules
pub mod Runs
pub mod Way
