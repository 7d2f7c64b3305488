-- The work of a batch and its return.
pub mod ArrivalLemmas
pub mod ComingLemmas
pub mod FormLemmas
pub mod GrownLemmas
pub mod SplitComingLemmas
pub mod InternedLemmas
pub mod ProofStateLemmas
pub mod ProposedLemmas
pub mod ReturnLemmas
pub mod RightBatchLemmas
pub mod StaleLemmas
pub mod TakeableLemmas
pub mod TakenLemmas
pub mod WholeComingLemmas
