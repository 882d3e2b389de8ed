pub mod Fault
pub mod Grammar
pub mod TestFault
pub mod Tests
