pub mod Calls
pub mod Heard
pub mod HeardEntries
pub mod Keeping
pub mod Running
