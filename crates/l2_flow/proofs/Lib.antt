pub mod Lasting
pub mod Rows
pub mod Running
pub mod Sending
