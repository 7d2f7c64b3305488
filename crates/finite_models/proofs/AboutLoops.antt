-- One more turn of the loops that write literals and clauses.
pub mod WalkLemmas
pub mod MeasureLemmas
pub mod AddsLemmas
pub mod SymbolLemmas
pub mod InstanceLemmas
pub mod TableLemmas
pub mod SizeLemmas
pub mod ConstantLemmas
