-- What a run says of the tokens.
pub mod Spelled
pub mod Answers
pub mod Verdicts
pub mod Placed
