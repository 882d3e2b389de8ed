pub mod Codes
pub mod Courses
pub mod Histories
pub mod Numbers
pub mod Parts
pub mod OneMore
pub mod Suffixes
