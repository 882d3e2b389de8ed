pub mod Values
pub mod Table
pub mod Runs
pub mod Since
pub mod Laws
