pub mod Counting
pub mod Closing
pub mod Receipts
pub mod Placing
pub mod Growing
pub mod Searching
pub mod Telling
