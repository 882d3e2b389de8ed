pub mod Seating
pub mod Asking
