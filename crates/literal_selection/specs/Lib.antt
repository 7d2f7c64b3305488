pub mod Mode
pub mod Laws
