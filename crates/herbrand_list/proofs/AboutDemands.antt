-- What demands demand, and the truth and the groundness of what is demanded.
pub mod LineLemmas
pub mod DemandLemmas
pub mod TruthLemmas
pub mod InstanceLemmas
