pub mod RowLemmas
pub mod CountingLemmas
pub mod ForgettingLemmas
pub mod Standing
pub mod HearingLemmas
pub mod OpenLemmas
pub mod TextThere
mod Reasons
