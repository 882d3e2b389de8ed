pub mod KeptLemmas
pub mod Ending
pub mod ChainLemmas
pub mod HearingLemmas
pub mod CallLemmas
