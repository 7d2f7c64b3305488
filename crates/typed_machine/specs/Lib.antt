pub mod TypedMachine
pub mod Verdicts
