pub mod Ends
pub mod Carrying
pub mod Turns
pub mod Laws
