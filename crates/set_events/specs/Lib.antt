pub mod Config
pub mod Lent
pub mod Method
pub mod Numbers
pub mod Owners
pub mod Places
