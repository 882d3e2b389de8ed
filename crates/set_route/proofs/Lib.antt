pub mod Alone
pub mod Away
pub mod Codes
pub mod Lowest
pub mod Places
pub mod Quiet
