pub mod Courses
pub mod Forms
pub mod Runs
pub mod Told
pub mod Written
