-- A map of the proofs, by topic; what is proved of one function stands in the folder of its module.
-- SelectedLemmas: the first negative literal of greatest size, as literals are read one by one.
pub mod SelectedLemmas
-- EligibleLemmas: what is eligible in an instance is eligible in the clause.
pub mod EligibleLemmas
