pub mod TestTexts
pub mod Texts
