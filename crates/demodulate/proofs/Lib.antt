-- A map of the proofs, by topic; what is proved of one function stands in the folder of its module.
-- AboutRanks: rewriting ends: a number falls.
pub mod AboutRanks
-- AboutSteps: one rewrite step and the lines of all.
pub mod AboutSteps
-- Simplifying: literals that go (ShorterLemmas); single steps (StepLemmas), and the loop over them (LoopLemmas). Subsumed clauses
-- (SubsumingLemmas). What becomes of a clause (SimplifiedLemmas). Worked outcomes (Examples).
mod ShorterLemmas
mod StepLemmas
mod LoopLemmas
mod SubsumingLemmas
mod SimplifiedLemmas
mod Examples
