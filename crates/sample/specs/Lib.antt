pub mod Random
pub mod Sizes
