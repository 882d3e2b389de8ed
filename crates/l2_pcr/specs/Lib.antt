pub mod Link
pub mod Pcr
