pub mod FigureLemmas
pub mod PrintLemmas
