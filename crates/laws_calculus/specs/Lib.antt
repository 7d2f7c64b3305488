pub mod Symbols
pub mod Coverage
pub mod Lifting
pub mod Variants
pub mod OnGround
