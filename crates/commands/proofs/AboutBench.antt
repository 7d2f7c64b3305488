-- The problems of `bench`: the stages take them, they have a clausal form, and their histories are summed up.
pub mod FormLemmas
pub mod LinkLemmas
pub mod ProblemLemmas
pub mod SummaryLemmas
