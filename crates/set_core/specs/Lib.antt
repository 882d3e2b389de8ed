pub mod FirstWrong
pub mod Gaining
pub mod Hearing
pub mod Items
pub mod Keeping
