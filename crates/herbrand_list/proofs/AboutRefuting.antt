-- Ground clauses that no interpretation makes true: nodes for their terms, values of nodes, and interpretations from classes.
pub mod PairLemmas
pub mod NodeLemmas
pub mod GroundingLemmas
pub mod ValueLemmas
pub mod TableLemmas
pub mod ModelLemmas
pub mod AnswerLemmas
pub mod OpenLemmas
