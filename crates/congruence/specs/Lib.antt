pub mod Congruence
pub mod Joined
pub mod Keys
pub mod Models
pub mod Examples
