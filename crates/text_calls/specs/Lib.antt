pub mod Running
pub mod Numbers
pub mod Telling
