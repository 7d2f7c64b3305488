-- What a right step means: truth of rules, steps and whole refutations.
pub mod RuleTruth
pub mod StepTruth
pub mod OverValues
pub mod SoundLemmas
pub mod RefutationLemmas
