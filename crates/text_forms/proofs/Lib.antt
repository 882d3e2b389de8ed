pub mod Fitting
pub mod Forms
pub mod LastWord
pub mod Lengths
pub mod LinkTimes
pub mod OctetLines
