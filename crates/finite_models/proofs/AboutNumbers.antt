-- Lists of values as numbers, and tests of all numbers.
pub mod ListLemmas
pub mod DigitLemmas
