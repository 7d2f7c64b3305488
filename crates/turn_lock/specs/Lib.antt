pub mod History
pub mod Shown
pub mod Rule
pub mod Steps
