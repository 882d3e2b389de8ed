pub mod Counts
pub mod Overtaken
pub mod Traffic
