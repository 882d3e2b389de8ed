pub mod Answering
pub mod UserLemmas
pub mod LookLemmas
pub mod HearingLemmas
pub mod TurningLemmas
pub mod TellingLemmas
