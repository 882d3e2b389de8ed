pub mod Answering
pub mod Forgotten
