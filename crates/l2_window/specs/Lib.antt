pub mod Control
pub mod Fault
pub mod Line
pub mod Link
pub mod Queue
pub mod Stored
pub mod Window
