pub mod Lossy
pub mod Places
pub mod Rings
pub mod SameEnds
pub mod SameLines
