pub mod Settled
pub mod Sites
pub mod Superposing
pub mod Concluding
pub mod Pairing
pub mod Examples
