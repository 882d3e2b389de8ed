pub mod Fault
pub mod Front
pub mod Grammar
pub mod Lent
pub mod Numbers
pub mod Orders
pub mod Profile
