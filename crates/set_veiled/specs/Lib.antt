pub mod Veil
