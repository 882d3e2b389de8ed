pub mod Forgotten
pub mod Kept
pub mod Listed
pub mod Timed
