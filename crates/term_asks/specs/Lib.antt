pub mod Asking
pub mod Plain
