pub mod Ends
pub mod Faults
pub mod Promises
pub mod Room
pub mod Totals
