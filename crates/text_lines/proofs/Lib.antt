pub mod LineLemmas
pub mod FunctionLemmas
pub mod ExplainLemmas
pub mod ReaderLemmas
pub mod TalkLemmas
