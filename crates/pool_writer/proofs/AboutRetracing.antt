-- Refutations made again from their steps.
pub mod ExampleLemmas
pub mod RisingLemmas
pub mod NameLemmas
pub mod StepLemmas
pub mod NeededLemmas
pub mod RetraceLemmas
pub mod CarryLemmas
