pub mod Steps
pub mod Resting
pub mod Attended
pub mod Settled
pub mod Waiting
