-- Equality factoring, from its pairs to its lists.
pub mod FactorAnswers
pub mod FactorRefused
pub mod FactorStepLemmas
pub mod FactoringLemmas
pub mod FactoringLists
pub mod SizedLemmas
