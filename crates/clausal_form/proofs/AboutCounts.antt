-- Sizes and faults.
pub mod CountingLemmas
pub mod EndLemmas
pub mod FaultLemmas
pub mod HeavyLemmas
pub mod LengthLemmas
pub mod MeasureLemmas
pub mod OutlineLemmas
pub mod PassingLemmas
pub mod RefusalLemmas
pub mod TotalLemmas
pub mod WeightLemmas
