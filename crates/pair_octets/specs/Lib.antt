pub mod Calm
pub mod Flushed
pub mod Passing
pub mod Ring
pub mod Streams
pub mod Wires
