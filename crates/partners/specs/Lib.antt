pub mod SiteTerms
pub mod Index
pub mod Partners
pub mod Known
pub mod Meeting
pub mod Examples
