pub mod Explaining
pub mod Flaws
pub mod LineTexts
pub mod Lines
pub mod Reading
pub mod Talks
pub mod Talking
pub mod Under
