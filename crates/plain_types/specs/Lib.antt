pub mod Names
pub mod Capped
