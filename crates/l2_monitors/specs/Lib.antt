pub mod Marks
pub mod Suerm
pub mod Aerm
