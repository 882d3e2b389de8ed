pub mod Diverted
pub mod Pending
