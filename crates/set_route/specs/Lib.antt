pub mod Routing
pub mod Target
