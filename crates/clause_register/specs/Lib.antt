pub mod Chained
pub mod RegisterCode
pub mod Register
pub mod RegisterLiving
