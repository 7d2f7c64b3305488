-- Literals, their truth, the trail and propagation.
pub mod TruthLemmas
pub mod TrailLemmas
pub mod PropagationLemmas
pub mod CopyLemmas
pub mod ValueLemmas
pub mod MeasureLemmas
