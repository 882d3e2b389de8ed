pub mod Laws
pub mod Lengths
pub mod Management
pub mod Runs
pub mod Table
