mod FirstLineLemmas
mod ItemLemmas
pub mod FigureLemmas
pub mod Pieces
pub mod ReadingLemmas
pub mod Sealed
pub mod WordLemmas
pub mod Blamed
