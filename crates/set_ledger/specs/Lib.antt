pub mod Seats
pub mod Totals
pub mod Openings
pub mod Ending
pub mod Places
pub mod Numbers
