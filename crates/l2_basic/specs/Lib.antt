pub mod Basic
pub mod Link
