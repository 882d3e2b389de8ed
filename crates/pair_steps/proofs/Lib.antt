pub mod LineLemmas
pub mod Nesting
