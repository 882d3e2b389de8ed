pub mod Codes
pub mod Opening
pub mod Calls
pub mod Hearing
pub mod Looking
pub mod Turning
pub mod Telling
