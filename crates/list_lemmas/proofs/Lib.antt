-- A map of the lemmas, by topic.
pub mod Bools
pub mod Numbers
pub mod Results
pub mod Lists
pub mod Places
pub mod Tests
pub mod Members
