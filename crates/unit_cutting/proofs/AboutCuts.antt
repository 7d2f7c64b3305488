-- Cutting a literal by a unit.
pub mod CutAnswers
pub mod CutByLemmas
pub mod CutLemmas
pub mod CutLineLemmas
pub mod CutStepLemmas
pub mod FittingLemmas
pub mod SuperposingLemmas
pub mod TwoLemmas
pub mod UnitLemmas
pub mod OwnLemmas
