pub mod Declarations
pub mod SortFaults
pub mod RightTyped
pub mod Translation
pub mod ProblemShape
pub mod TypedTruth
pub mod Laws
pub mod Examples
