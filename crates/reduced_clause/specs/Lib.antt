pub mod Reduced
pub mod Examples
pub mod Extending
