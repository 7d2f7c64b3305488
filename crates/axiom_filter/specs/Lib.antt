pub mod Places
pub mod Selection
pub mod Restriction
pub mod Examples
pub mod Numbering
pub mod Tables
pub mod Walk
