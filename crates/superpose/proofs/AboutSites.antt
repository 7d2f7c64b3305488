-- Sites of a clause: sides that start, places that are entered.
pub mod SiteLemmas
pub mod SitesThere
pub mod PlaceLemmas
pub mod AllowLemmas
pub mod SettledLemmas
pub mod TriedLemmas
pub mod KindLemmas
