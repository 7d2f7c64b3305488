-- One superposition: terms, sizes, numbering, the step.
pub mod ApartLemmas
pub mod BoundLemmas
pub mod GrowthLemmas
pub mod NumberingLemmas
pub mod OwnLemmas
pub mod SizeLemmas
pub mod StepLemmas
pub mod TermsLemmas
