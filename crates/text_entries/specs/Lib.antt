pub mod Blaming
pub mod Entries
pub mod FirstLine
pub mod Pieces
pub mod Reading
pub mod Reasons
pub mod Telling
pub mod Texts
