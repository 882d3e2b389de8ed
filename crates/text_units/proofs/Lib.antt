pub mod BitLemmas
pub mod DigitLemmas
pub mod ExplainLemmas
pub mod FillInLemmas
pub mod ReaderLemmas
pub mod TableLemmas
pub mod UnitsLemmas
