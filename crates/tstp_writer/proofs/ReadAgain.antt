-- What is printed is read again as it was.
pub mod InputLines
pub mod LiteralKinds
pub mod Parentheses
pub mod ProblemLemmas
pub mod ProblemTrees
pub mod ReadableSources
pub mod ReadableTexts
pub mod ReadableTrees
pub mod RenamedNames
pub mod RenamedSteps
pub mod SameLemmas
pub mod ShownSymbols
