pub mod Moving
pub mod Playing
pub mod RisingLemmas
pub mod WorldLemmas
