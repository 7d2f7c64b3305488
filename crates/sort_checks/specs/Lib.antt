pub mod Lent
pub mod Tables
pub mod Scopes
pub mod Wanted
pub mod Laws
