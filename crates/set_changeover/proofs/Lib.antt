pub mod Declaring
pub mod Links
pub mod RowsAt
pub mod Shown
pub mod States
pub mod Turns
