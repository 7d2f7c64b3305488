-- The lines that the last one needs.
pub mod CauseLemmas
pub mod CitedLemmas
pub mod ConeLemmas
pub mod DerivedLemmas
pub mod BindingsAgain
pub mod DerivedLines
pub mod DerivedNames
pub mod DerivedRules
pub mod EarlierLemmas
pub mod MarkLemmas
pub mod StandingLines
