pub mod Capture
pub mod Histories
pub mod PlayText
