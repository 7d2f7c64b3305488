pub mod Parts
pub mod Clause
pub mod Members
pub mod Equality
pub mod ClauseHash
pub mod Laws
pub mod Lending
pub mod Examples
