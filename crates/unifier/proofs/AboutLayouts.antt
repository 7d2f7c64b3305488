-- Bindings laid out: places, values, sizes, names.
pub mod BoundLemmas
pub mod LayoutLemmas
pub mod PlaceLemmas
pub mod PlacingLemmas
pub mod RenameLemmas
pub mod UndoLemmas
pub mod RankLemmas
pub mod SizeLemmas
pub mod ValueLemmas
pub mod WalkLemmas
pub mod KindLemmas
