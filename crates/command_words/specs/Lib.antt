pub mod Words
pub mod WordParts
