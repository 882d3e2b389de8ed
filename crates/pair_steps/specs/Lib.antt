pub mod Lending
pub mod Lent
pub mod Lines
pub mod Nests
pub mod Showing
pub mod UnderWay
