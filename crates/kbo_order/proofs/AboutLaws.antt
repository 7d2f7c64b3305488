-- Laws of the order: total on ground terms, strict, stable, above its subterms.
pub mod GroundLemmas
pub mod StableLemmas
pub mod StrictOrderLemmas
pub mod SubtermLemmas
pub mod TruthLemmas
